-- Up to 2008 a party has in the table what it has in the base and its overhang.
use Rattle.std.proofs.Common.{◌≡◌, ℕ, true, ◌+◌, ◌-◌, List, filter, max, refl, sym, ap, subst, ◌∙◌}
use Rattle.std.specs.Prelude.{slice_index}
use Rattle.std.specs.List.{AllByRecursion as Every}
use Rattle.sl_base_quotients.specs.declared.method.Divisor.TheVariants.{Jefferson, Webster}
use Rattle.sl_base_quotients.specs.declared.method.Method.{Method}
use Rattle.sl_base_quotients.specs.declared.method.Method.TheVariants as by
use Rattle.sl_law_meaning.specs.declared.book.Majority.{Majority}
use Rattle.sl_law_meaning.specs.declared.book.Majority.TheVariants as majority
use Rattle.sl_law_meaning.specs.declared.fact.Fact.TheVariants as facts
use Rattle.sl_law_meaning.specs.book.Trees.{BookTree}
use Rattle.sl_law_meaning.specs.book.Typing.{is_typed}
use Rattle.sl_law_meaning.specs.returns.Election.{Election, has_list}
use Rattle.sl_law_meaning.specs.returns.Facts.{lands, parties, by_party}
use Rattle.sl_law_meaning.specs.methods.Field.{no_minima}
use Rattle.sl_law_meaning.specs.meaning.Splits.{IsAllocation}
use Rattle.sl_law_meaning.proofs.meaning.DistinctLists.{every_weaker, always}
use Rattle.sl_law_fairness.specs.Winners.{base_seats, winners_on, outside}
use Rattle.sl_law_fairness.specs.Amounts.{sum_in}
use Rattle.sl_law_fairness.proofs.Bases.{end_of}
use Rattle.sl_law_fairness.proofs.ListColumns.{sum_larger}
use Rattle.sl_law_fairness.proofs.Winners.{keep_total}
use Rattle.sl_law_statutes.specs.Trees.{law_of_1956, law_of_1985, law_of_2008, shares, keep}
use Rattle.sl_law_statutes.specs.Houses.{house_of}
use Rattle.sl_law_statutes.specs.Parties.{party_column, base_of_party}
use Rattle.sl_law_statutes.specs.Overhang.{overhang_of, AlwaysStandAbove, PartiesBefore2013}
use Rattle.sl_law_statutes.proofs.Sums.{sum_filter}
use Rattle.sl_law_statutes.proofs.Shares.{party_lists, of_party}
use Rattle.sl_law_statutes.proofs.PartySeats.{lines_by, scope_column}
use Rattle.sl_law_statutes.proofs.BeforeOverhang.{shared, seats_of, allocated}

module _ (at : ℕ → ℕ) (method : Method) (m : Majority) (b : BookTree) (typed : is_typed b ≡ true) (stages : b.stages ≡ shares at facts.Outside method m) (last : b.last ≡ keep at) where
  stand_above : AlwaysStandAbove method m b
  stand_above e t is means =
      let end = end_of b e t means in
      let h = end.is_base in
      let base = end.base in
      let lines = (keep_total b e base t typed is (ap (λ l. l.seating) last) h means).0 in
      let has = shared at method m b stages last e base is h in
      let same : by_party e (seats_of at method m b stages last e base is h) ≡ by_party e (base_of_party e base) =
      sym (scope_column e has.upper (seats_of at method m b stages last e base is h) (always' e has.upper))
      ∙ scope_column e has.upper (base_of_party e base) (every_weaker (λ p. sum_in e (party_lists e p) base ≡ slice_index has.upper p) (λ p. slice_index has.upper p ≡ base_of_party e base p) (λ p own. sym own) (parties e) has.lists) in
      record {
        base = base;
        is_base = h;
        allocation = subst (IsAllocation method m (party_column b e) (no_minima (party_column b e)) (house_of b e - outside b e)) same (allocated at method m b stages last e base is h);
        above = λ party within.
            let f : ℕ → ℕ = λ land. base_seats e base (land, party) in
            let w : ℕ → ℕ = λ land. winners_on b e (land, party) in
            let own = filter (λ land. has_list e land party) (lands e) in
            lines_by e party within (λ l. max (base_seats e base l) (winners_on b e l)) (winners_on b e) t lines
            ∙ sym (sum_filter (λ land. has_list e land party) (λ land. max (f land) (w land)) (lands e))
            ∙ sum_larger f w own
            ∙ ap (λ n. n + overhang_of b e base party) (sum_filter (λ land. has_list e land party) f (lands e) ∙ sym (of_party e base party));
      } where
        always' : (e : Election) (column : List ℕ) → Every (λ p. slice_index column p ≡ slice_index column p) (parties e)
        always' e column = always (λ p. slice_index column p ≡ slice_index column p) (λ p. refl) (parties e)

pub parties_before_2013 : PartiesBefore2013
parties_before_2013 at = (
  stand_above at (by.Divisor Jefferson) majority.Free (law_of_1956 at) refl refl refl,
  stand_above at by.Hamilton majority.Prefer (law_of_1985 at) refl refl refl,
  stand_above at (by.Divisor Webster) majority.Refuse (law_of_2008 at) refl refl refl,
)
