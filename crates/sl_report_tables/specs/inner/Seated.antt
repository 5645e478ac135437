-- Rulebooks, each beside the seats of each party by it.
use Rattle.std.specs.Prelude.{◌≡◌, All, List, map, option_map}
use Rattle.sl_report_tables.specs.declared.compare.Judged.{Judged}
use Rattle.sl_report_tables.specs.declared.seated.Seated.{Seated}
use Rattle.sl_report_tables.specs.inner.SeatsBy.{seats_by}
use Rattle.sl_law_meaning.specs.returns.Election.{Election}

abbrev pub books_of : List Seated → List Judged
books_of xs = map (λ x. x.judged.now) xs

abbrev pub IsSeated : Election → Seated → Type 0
IsSeated e x = x.seats.items ≡ seats_by e (option_map (λ c. c.table) x.judged.now.counted)

-- the given ones
pub record AreSeated (e : Election) (given : List Judged) (xs : List Seated) : Type 0 where
  pub books : books_of xs ≡ given
  pub seats : All (IsSeated e) xs
