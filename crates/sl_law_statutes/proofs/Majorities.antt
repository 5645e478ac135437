-- By the statutes of 2023 more than half of the counted votes has more than half of the seats that the parties share.
use Rattle.std.proofs.Common.{◌≡◌, ℕ, ◌-◌, ◌*◌, ◌<◌, [], true, get_or, sum, sum_by, inl, inr, arith, refl, sym, ap, subst, ◌∙◌}
use Rattle.std.specs.Prelude.{Contains, slice_index}
use Rattle.std.specs.List.{AllByRecursion as Every}
use Rattle.std.proofs.lemmas.Bool.{cases_lt}
use Rattle.sl_base_quotients.specs.declared.method.Divisor.TheVariants.{Webster}
use Rattle.sl_base_quotients.specs.declared.method.Method.TheVariants as by
use Rattle.sl_law_meaning.specs.declared.book.Majority.TheVariants as majority
use Rattle.sl_base_terms.specs.declared.shape.Shape.TheVariants as shape
use Rattle.sl_law_meaning.specs.declared.fact.Fact.TheVariants as facts
use Rattle.sl_law_meaning.specs.declared.fault.Item.TheVariants as item
use Rattle.sl_law_meaning.specs.book.Trees.{BookTree}
use Rattle.sl_law_meaning.specs.book.Typing.{is_typed}
use Rattle.sl_law_meaning.specs.returns.Election.{Election, parties_of}
use Rattle.sl_law_meaning.specs.returns.Facts.{lands, parties, list_cell}
use Rattle.sl_law_meaning.specs.meaning.Columns.{IsLeaf, fact_column}
use Rattle.sl_law_meaning.specs.meaning.Scopes.{cells, entries_of, lists_of_party}
use Rattle.sl_law_meaning.specs.methods.Field.{no_minima}
use Rattle.sl_law_meaning.specs.methods.Allocations.{IsDivisorAllocation}
use Rattle.sl_law_meaning.specs.meaning.Seating.{base_of}
use Rattle.sl_law_meaning.specs.meaning.Means.{Through, nothing_known, StagesMean}
use Rattle.sl_law_meaning.proofs.meaning.DistinctLists.{every_both}
use Rattle.sl_law_fairness.specs.Winners.{independents}
use Rattle.sl_law_fairness.specs.Amounts.{sum_in}
use Rattle.sl_law_fairness.proofs.ListColumns.{below}
use Rattle.sl_law_fairness.proofs.Bases.{end_of}
use Rattle.sl_law_fairness.proofs.Covering.{cover_keeps_base}
use Rattle.sl_law_statutes.specs.Trees.{law_of_2023, law_of_2023_order, shares, cover}
use Rattle.sl_law_statutes.specs.Houses.{house_of}
use Rattle.sl_law_statutes.specs.Parties.{party_column, party_seats}
use Rattle.sl_law_statutes.specs.Lists.{AlwaysShareByWebster, ListsOf2023}
use Rattle.sl_law_statutes.specs.Majorities.{AlwaysKeepsMajorities, MajorityOf2023}
use Rattle.sl_law_statutes.proofs.Sums.{every_number}
use Rattle.sl_law_statutes.proofs.Shares.{IsShared, all_parties, party_lists, lists_share, independents_in_all, first_in, contained, every_unmap}
use Rattle.sl_law_statutes.proofs.PartySeats.{lines_sum, past_parties, same_column}

-- each party is an entry of the one scope of the parties
pub listed : (e : Election) (party : ℕ) → party < parties_of e → Contains (entries_of e shape.Party) (item.Party party)
listed e party within =
    let all : Every (λ p. Contains (entries_of e shape.Party) (item.Party p)) (parties e) =
    every_unmap (Contains (entries_of e shape.Party)) (λ p. item.Party p) (parties e) (contained (entries_of e shape.Party)) in
    every_number (λ p. Contains (entries_of e shape.Party) (item.Party p)) (parties_of e) party all within

module _ (at : ℕ → ℕ) (b : BookTree) (typed : is_typed b ≡ true) (stages : b.stages ≡ shares at facts.Independents (by.Divisor Webster) majority.Refuse) (last : b.last ≡ cover at) where
  keeps_majorities : AlwaysKeepsMajorities b
  keeps_majorities e t is means some party more =
      let end = end_of b e t means in
      let h = end.is_base in
      let lines = (cover_keeps_base b e end.base t typed is (ap (λ l. l.seating) last) h means).0 in
      let shared = lists_share at facts.Independents (by.Divisor Webster) majority.Refuse b e h.known (subst (λ ss. StagesMean b e nothing_known ss (Through h.known)) stages h.through) end.base
      (subst (λ x. IsLeaf b e h.known.columns x end.base) (ap base_of last) h.is) in
      let V = party_column b e in
      let within : party < parties_of e = elim (cases_lt party (parties_of e)) [
        | inl l ↦ l
        | inr past ↦ absurd (let z : get_or V party 0 ≡ 0 = past_parties e (λ p. sum_by (λ land. list_cell e (fact_column b e facts.Counted) land p) (lands e)) party past in omega (arith, z, more))
      ] in
      let seats : Every (λ p. slice_index shared.upper p ≡ party_seats t p) (parties e) =
      every_both (λ p. sum_in e (party_lists e p) end.base ≡ slice_index shared.upper p) (λ p. p < parties_of e) (λ p. slice_index shared.upper p ≡ party_seats t p)
      (λ p has inside. sym has ∙ sym (lines_sum e end.base p inside _ t lines)) (parties e) shared.lists (below (parties_of e)) in
      let here = every_number (λ p. slice_index shared.upper p ≡ party_seats t p) (parties_of e) party seats within in
      let total : sum_in e (all_parties e) shared.upper ≡ house_of b e - sum (fact_column b e facts.Independents) = shared.allocated.total in
      let taken = independents_in_all b e is in
      let pool : sum_in e (all_parties e) shared.upper ≡ house_of b e - independents e = total ∙ ap (λ n. house_of b e - n) taken in
      let votes : sum_in e (all_parties e) shared.votes ≡ sum V = ap (λ v. sum (cells e (entries_of e shape.Party) v)) shared.by_votes ∙ ap sum (same_column e _) in
      let own : slice_index shared.votes party ≡ get_or V party 0 = ap (λ v. slice_index v party) shared.by_votes in
      let kept : sum_in e (all_parties e) shared.upper < 2 * slice_index shared.upper party =
      shared.majorities refl (all_parties e) (first_in (all_parties e) []) (omega (arith, pool, some)) (item.Party party) (listed e party within) (omega (arith, votes, own, more)) in
      omega (arith, kept, pool, here)

pub majority_of_2023 : MajorityOf2023
majority_of_2023 at = (keeps_majorities at (law_of_2023 at) refl refl refl, keeps_majorities at (law_of_2023_order at) refl refl refl)

-- ---- the lists of a party
module _ (at : ℕ → ℕ) (b : BookTree) (typed : is_typed b ≡ true) (stages : b.stages ≡ shares at facts.Independents (by.Divisor Webster) majority.Refuse) (last : b.last ≡ cover at) where
  pub share_by_webster : AlwaysShareByWebster b
  share_by_webster e t base is h means =
      let lines = (cover_keeps_base b e base t typed is (ap (λ l. l.seating) last) h means).0 in
      let shared = lists_share at facts.Independents (by.Divisor Webster) majority.Refuse b e h.known (subst (λ ss. StagesMean b e nothing_known ss (Through h.known)) stages h.through) base
      (subst (λ x. IsLeaf b e h.known.columns x base) (ap base_of last) h.is) in (
        lines,
        λ party within.
            let has = every_number (λ p. sum_in e (party_lists e p) base ≡ slice_index shared.upper p) (parties_of e) party shared.lists within in
            let seats : slice_index shared.upper party ≡ party_seats t party = sym has ∙ sym (lines_sum e base party within _ t lines) in
            let votes = cells e (lists_of_party e party) (fact_column b e facts.Counted) in
            subst (λ n. IsDivisorAllocation Webster votes (no_minima votes) n (cells e (lists_of_party e party) base)) seats
            (every_number (IsShared (by.Divisor Webster) b e base shared.upper) (parties_of e) party shared.among within),
      )

pub lists_of_2023 : ListsOf2023
lists_of_2023 at = (share_by_webster at (law_of_2023 at) refl refl refl, share_by_webster at (law_of_2023_order at) refl refl refl)
