-- Up to 2008 a majority of the counted votes in the base: by the method, by its preference, or by its refusal.
use Rattle.std.proofs.Common.{◌≡◌, ℕ, ◌-◌, ◌*◌, ◌<◌, List, [], get_or, sum, sum_by, inl, inr, arith, refl, sym, ap, subst, ◌∙◌}
use Rattle.std.specs.Prelude.{slice_index}
use Rattle.std.proofs.lemmas.Bool.{cases_lt}
use Rattle.sl_base_quotients.specs.declared.method.Divisor.TheVariants.{Jefferson, Webster}
use Rattle.sl_base_quotients.specs.declared.method.Method.{Method}
use Rattle.sl_base_quotients.specs.declared.method.Method.TheVariants as by
use Rattle.sl_law_meaning.specs.declared.book.Majority.{Majority}
use Rattle.sl_law_meaning.specs.declared.book.Majority.TheVariants as majority
use Rattle.sl_base_terms.specs.declared.shape.Shape.TheVariants as shape
use Rattle.sl_law_meaning.specs.declared.fact.Fact.TheVariants as facts
use Rattle.sl_law_meaning.specs.declared.fault.Item.TheVariants as item
use Rattle.sl_law_meaning.specs.book.Trees.{BookTree}
use Rattle.sl_law_meaning.specs.returns.Election.{Election, IsElection, parties_of}
use Rattle.sl_law_meaning.specs.returns.Facts.{lands, parties, list_cell, by_party}
use Rattle.sl_law_meaning.specs.methods.Field.{no_minima}
use Rattle.sl_law_meaning.specs.meaning.Columns.{IsLeaf, fact_column}
use Rattle.sl_law_meaning.specs.meaning.Scopes.{cells, entries_of}
use Rattle.sl_law_meaning.specs.meaning.Splits.{IsAllocation}
use Rattle.sl_law_meaning.specs.meaning.Seating.{base_of}
use Rattle.sl_law_meaning.specs.meaning.Means.{Through, nothing_known, StagesMean}
use Rattle.sl_law_meaning.proofs.meaning.DistinctLists.{always}
use Rattle.sl_law_fairness.specs.Winners.{IsBase, outside}
use Rattle.sl_law_fairness.specs.Amounts.{sum_in}
use Rattle.sl_law_fairness.proofs.Majorities.{jefferson_majority}
use Rattle.sl_law_fairness.proofs.Preferred.{hamilton_majority}
use Rattle.sl_law_statutes.specs.Trees.{law_of_1956, law_of_1985, law_of_2008, shares, keep}
use Rattle.sl_law_statutes.specs.Houses.{house_of}
use Rattle.sl_law_statutes.specs.Parties.{party_column, base_of_party}
use Rattle.sl_law_statutes.specs.Majorities.{AlwaysHasHalf, AlwaysHasMore, MajorityBefore2013}
use Rattle.sl_law_statutes.proofs.Sums.{every_number}
use Rattle.sl_law_statutes.proofs.Shares.{AreShared, all_parties, party_lists, all_given, lists_share, outside_in_all, first_in}
use Rattle.sl_law_statutes.proofs.PartySeats.{at_party, past_parties, scope_column, same_column}
use Rattle.sl_law_statutes.proofs.Majorities.{listed}

module _ (at : ℕ → ℕ) (method : Method) (m : Majority) (b : BookTree) (stages : b.stages ≡ shares at facts.Outside method m) (last : b.last ≡ keep at)
    (e : Election) (base : List ℕ) (is : IsElection e) (h : IsBase b e base) where
  pub shared : AreShared method m b e base (house_of b e - sum (fact_column b e facts.Outside))
  shared =
      lists_share at facts.Outside method m b e h.known (subst (λ ss. StagesMean b e nothing_known ss (Through h.known)) stages h.through) base
      (subst (λ x. IsLeaf b e h.known.columns x base) (ap base_of last) h.is)

  abbrev pub seats_of : ℕ → ℕ
  seats_of party = slice_index shared.upper party

  -- the parties have an allocation of the pool
  pub allocated : IsAllocation method m (party_column b e) (no_minima (party_column b e)) (house_of b e - outside b e) (by_party e seats_of)
  allocated =
      let votes : cells e (entries_of e shape.Party) shared.votes ≡ party_column b e = ap (cells e (entries_of e shape.Party)) shared.by_votes ∙ same_column e _ in
      let seats : cells e (entries_of e shape.Party) shared.upper ≡ by_party e seats_of =
      scope_column e shared.upper seats_of (always (λ party. slice_index shared.upper party ≡ seats_of party) (λ party. refl) (parties e)) in
      subst (λ n. IsAllocation method m (party_column b e) (no_minima (party_column b e)) n (by_party e seats_of)) (ap (λ n. house_of b e - n) (outside_in_all b e is))
      (subst (λ s. IsAllocation method m (party_column b e) (no_minima (party_column b e)) (house_of b e - sum (fact_column b e facts.Outside)) s) seats
      (subst (λ v. IsAllocation method m v (no_minima v) (house_of b e - sum (fact_column b e facts.Outside)) (cells e (entries_of e shape.Party) shared.upper)) votes shared.allocated))

  module _ (party : ℕ) (more : sum (party_column b e) < 2 * slice_index (party_column b e) party) where
    within : party < parties_of e
    within = elim (cases_lt party (parties_of e)) [
      | inl l ↦ l
      | inr past ↦ absurd (
          let z : get_or (party_column b e) party 0 ≡ 0 = past_parties e (λ p. sum_by (λ land. list_cell e (fact_column b e facts.Counted) land p) (lands e)) party past in
          omega (arith, z, more))
    ]

    own : get_or (by_party e seats_of) party 0 ≡ base_of_party e base party
    own = at_party e seats_of party within ∙ sym (every_number (λ p. sum_in e (party_lists e p) base ≡ slice_index shared.upper p) (parties_of e) party shared.lists within)

    -- with a refusal
    refused : m ≡ majority.Refuse → 0 < house_of b e - outside b e → house_of b e - outside b e < 2 * base_of_party e base party
    refused refuse some =
        let total : sum_in e (all_parties e) shared.upper ≡ house_of b e - sum (fact_column b e facts.Outside) =
        all_given method m (cells e (entries_of e shape.Party) shared.votes) (no_minima (cells e (entries_of e shape.Party) shared.votes)) (house_of b e - sum (fact_column b e facts.Outside))
        (cells e (entries_of e shape.Party) shared.upper) shared.allocated in
        let pool : sum_in e (all_parties e) shared.upper ≡ house_of b e - outside b e = total ∙ ap (λ n. house_of b e - n) (outside_in_all b e is) in
        let votes : sum_in e (all_parties e) shared.votes ≡ sum (party_column b e) = ap (λ v. sum (cells e (entries_of e shape.Party) v)) shared.by_votes ∙ ap sum (same_column e _) in
        let mine : slice_index shared.votes party ≡ get_or (party_column b e) party 0 = ap (λ v. slice_index v party) shared.by_votes in
        let kept : sum_in e (all_parties e) shared.upper < 2 * slice_index shared.upper party =
        shared.majorities refuse (all_parties e) (first_in (all_parties e) []) (omega (arith, pool, some)) (item.Party party) (listed e party within) (omega (arith, votes, mine, more)) in
        let o = own in
        let a = at_party e seats_of party within in
        omega (arith, kept, pool, o, a)

has_half : (at : ℕ → ℕ) → AlwaysHasHalf (law_of_1956 at)
has_half at e base is h party more =
    let b = law_of_1956 at in
    let a = allocated at (by.Divisor Jefferson) majority.Free b refl refl e base is h in
    let S = by_party e (seats_of at (by.Divisor Jefferson) majority.Free b refl refl e base is h) in
    let half = jefferson_majority (party_column b e) (house_of b e - outside b e) S a party more in
    let o = own at (by.Divisor Jefferson) majority.Free b refl refl e base is h party more in
    omega (arith, half, o)

has_more_1985 : (at : ℕ → ℕ) → AlwaysHasMore (law_of_1985 at)
has_more_1985 at e base is h some party more =
    let b = law_of_1985 at in
    let a = allocated at by.Hamilton majority.Prefer b refl refl e base is h in
    let S = by_party e (seats_of at by.Hamilton majority.Prefer b refl refl e base is h) in
    let half = hamilton_majority (party_column b e) (house_of b e - outside b e) S a party more some in
    let o = own at by.Hamilton majority.Prefer b refl refl e base is h party more in
    omega (arith, half, o)

has_more_2008 : (at : ℕ → ℕ) → AlwaysHasMore (law_of_2008 at)
has_more_2008 at e base is h some party more = refused at (by.Divisor Webster) majority.Refuse (law_of_2008 at) refl refl e base is h party more refl some

pub majority_before_2013 : MajorityBefore2013
majority_before_2013 at = (has_half at, has_more_1985 at, has_more_2008 at)
