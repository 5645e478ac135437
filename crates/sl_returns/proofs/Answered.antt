-- What the records that were read come to, by what is kept of them.
use Rattle.std.proofs.Common.{◌≡◌, List, [], ◌∷◌, slice_get, Some, None, refl, sym, ap, subst, ◌∙◌, Err}
use Rattle.std.specs.Option.{option_map}
use Rattle.std.proofs.lemmas.Option.{none-some}
use Rattle.csv.specs.Records.{fields_of}
use Rattle.sl_returns.specs.declared.refused.RefusedRecord.{RefusedRecord}
use Rattle.sl_returns.specs.declared.refused.RefusedReturns.{RefusedReturns}
use Rattle.sl_returns.specs.declared.sieve.Refusals.{Refusals}
use Rattle.sl_returns.specs.Cells.{Record}
use Rattle.sl_returns.specs.Further.{Refusal, refusal, refused_of}
use Rattle.sl_returns.specs.Returns.{AreRefused, IsRefusedRecord}
use Rattle.sl_returns.specs.inner.Building.{Building, StandsFor}
use Rattle.sl_returns.specs.inner.Sifting.{IsSifted}
use Rattle.sl_returns.proofs.Refusals.{first_stands, refused_for_first}

-- the first record that is refused is the one for which the records are
pub are_refused : (b : Building) (kept : Refusals) (rs : List Record) → IsSifted b kept rs → (r : RefusedReturns) (x : RefusedRecord) → kept.first ≡ Some x → r.fault ≡ x.fault → r.record ≡ x.record → AreRefused rs r
are_refused b kept rs s r x is fault fields =
    let first : slice_get (refused_of rs) 0 ≡ Some (refusal x) = sym s.keeps.first ∙ ap (option_map refusal) is in
    let stands : IsRefusedRecord rs x.fault (fields_of x.record) = first_stands rs (refusal x) first in
    let here : IsRefusedRecord rs r.fault (fields_of x.record) = subst (λ f. IsRefusedRecord rs f (fields_of x.record)) (sym fault) stands in
    (refused_for_first rs (refusal x) first ∙ ap Err (sym fault), subst (λ (w : Record). IsRefusedRecord rs r.fault w) (ap fields_of (sym fields)) here)

-- where none is refused, the builder has taken them all
pub none_refused : (b : Building) (kept : Refusals) (rs : List Record) → IsSifted b kept rs → kept.first ≡ None → StandsFor b rs
none_refused b kept rs s none = s.good (go (refused_of rs) (sym s.keeps.first ∙ ap (option_map refusal) none))
  where
    go : (l : List Refusal) → slice_get l 0 ≡ None → l ≡ []
    go [] h = refl
    go (x ∷ l) h = absurd (none-some x (sym h))
