-- By the statutes of 2023 the parties share by Webster's method, so more votes for one of its lists cost a party no seat.
use Rattle.std.proofs.Common.{◌≡◌, ◌≢◌, ℕ, ◌+◌, ◌-◌, ◌*◌, ◌<◌, ◌≤◌, Bool, true, false, cond, List, [], ◌∷◌, Option, Some, None, length, get_or, set, sum, sum_by, inl, inr, arith, refl, sym, ap, subst, ◌∙◌}
use Rattle.std.specs.Prelude.{slice_index, is_some, replicate}
use Rattle.std.proofs.Math.Nat.{mul-le-mul_left, mul-le-mul_right}
use Rattle.std.specs.List.{AllByRecursion as Every, list_any}
use Rattle.std.proofs.lemmas.Bool.{cases_Bool, cases_lt, cases_eq, or_cases, or_left, or_right, leb-true, le-leb, cond-true, cond-false}
use Rattle.std.proofs.lemmas.List.{get_or-set_same, get_or-set_other}
use Rattle.sl_base_quotients.specs.declared.method.Divisor.TheVariants.{Webster}
use Rattle.sl_base_quotients.specs.declared.method.Method.TheVariants as by
use Rattle.sl_law_meaning.specs.declared.book.Cond.{Cond}
use Rattle.sl_law_meaning.specs.declared.book.Cond.TheVariants as condition
use Rattle.sl_law_meaning.specs.declared.book.Majority.TheVariants as majority
use Rattle.sl_base_terms.specs.declared.shape.Shape.TheVariants as shape
use Rattle.sl_law_meaning.specs.declared.fact.Fact.TheVariants as facts
use Rattle.sl_law_meaning.specs.declared.election.ListVotes.{ListVotes}
use Rattle.sl_law_meaning.specs.book.Trees.{BookTree}
use Rattle.sl_law_meaning.specs.book.Typing.{is_typed}
use Rattle.sl_law_meaning.specs.returns.Votes.{valid_in, counted_in}
use Rattle.sl_law_meaning.specs.returns.Election.{Election, IsElection, lands_of, parties_of, list_at, with_list}
use Rattle.sl_law_meaning.specs.returns.Facts.{lands, parties, list_cell, valid_votes, all_valid_votes, meets, is_eligible, counted_votes}
use Rattle.sl_law_meaning.specs.methods.Field.{no_minima}
use Rattle.sl_law_meaning.specs.methods.Allocations.{IsDivisorAllocation}
use Rattle.sl_law_meaning.specs.meaning.Columns.{IsLeaf, fact_column}
use Rattle.sl_law_meaning.specs.meaning.Scopes.{cells, entries_of}
use Rattle.sl_law_meaning.specs.meaning.Seating.{base_of}
use Rattle.sl_law_meaning.specs.meaning.Means.{Through, nothing_known, StagesMean}
use Rattle.sl_law_meaning.proofs.Elections.{list_told}
use Rattle.sl_law_meaning.proofs.FactReadings.{lists_are_named}
use Rattle.sl_law_meaning.proofs.methods.SeatSums.{none_needed}
use Rattle.sl_law_meaning.proofs.meaning.ListPlaces.{by_list_at}
use Rattle.sl_law_meaning.proofs.meaning.DistinctLists.{every_weaker, every_both, always}
use Rattle.sl_law_fairness.specs.Winners.{independents}
use Rattle.sl_law_fairness.specs.Amounts.{sum_in}
use Rattle.sl_law_fairness.proofs.ListColumns.{sum_agree, below}
use Rattle.sl_law_fairness.proofs.Bases.{end_of}
use Rattle.sl_law_fairness.proofs.Covering.{cover_keeps_base}
use Rattle.sl_law_fairness.proofs.Votes.{votes_monotone}
use Rattle.sl_law_statutes.specs.Trees.{law_of_2023, law_of_2023_order, shares, cover}
use Rattle.sl_law_statutes.specs.Houses.{house_of}
use Rattle.sl_law_statutes.specs.Parties.{party_column, party_seats, seats_column, AlwaysByWebster, IsGain, NeverLosesByVotes, PartiesOf2023, VotesOf2023}
use Rattle.sl_law_statutes.proofs.Sums.{sum_raised, sum_zero}
use Rattle.sl_law_statutes.proofs.Shares.{party_lists, lists_share, independents_in_all}
use Rattle.sl_law_statutes.proofs.PartySeats.{lines_sum, length_parties, at_party, past_parties, scope_column, same_column}

-- ---- the parties share

abbrev party_cells : Election → List ℕ → List ℕ
party_cells e column = cells e (entries_of e shape.Party) column

module _ (at : ℕ → ℕ) (b : BookTree) (typed : is_typed b ≡ true) (stages : b.stages ≡ shares at facts.Independents (by.Divisor Webster) majority.Refuse) (last : b.last ≡ cover at) where
  by_webster : AlwaysByWebster b
  by_webster e t is means =
      let end = end_of b e t means in
      let h = end.is_base in
      let lines = (cover_keeps_base b e end.base t typed is (ap (λ l. l.seating) last) h means).0 in
      let shared = lists_share at facts.Independents (by.Divisor Webster) majority.Refuse b e h.known (subst (λ ss. StagesMean b e nothing_known ss (Through h.known)) stages h.through) end.base
      (subst (λ x. IsLeaf b e h.known.columns x end.base) (ap base_of last) h.is) in
      let pool = house_of b e - independents e in
      let V = party_column b e in
      let seats : Every (λ party. slice_index shared.upper party ≡ party_seats t party) (parties e) =
      every_both (λ party. sum_in e (party_lists e party) end.base ≡ slice_index shared.upper party) (λ party. party < parties_of e) (λ party. slice_index shared.upper party ≡ party_seats t party)
      (λ party has within. sym has ∙ sym (lines_sum e end.base party within _ t lines)) (parties e) shared.lists (below (parties_of e)) in
      let votes : party_cells e shared.votes ≡ V = ap (party_cells e) shared.by_votes ∙ same_column e _ in
      subst (λ s. IsDivisorAllocation Webster V (no_minima V) pool s) (scope_column e shared.upper (party_seats t) seats)
      (subst (λ n. IsDivisorAllocation Webster V (no_minima V) n (party_cells e shared.upper)) (ap (λ n. house_of b e - n) (independents_in_all b e is))
      (subst (λ v. IsDivisorAllocation Webster v (no_minima v) (house_of b e - sum (fact_column b e facts.Independents)) (party_cells e shared.upper)) votes shared.allocated))

-- ---- who is eligible with more votes for one list

-- a condition of a share asks for no more than all
abbrev pub IsFair : Cond → Type 0
IsFair (condition.Valid n d) = n.value ≤ d
IsFair _ = Unit {0}

any_weaker : (P Q : Cond → Bool) (conds : List Cond) → Every (λ c. P c ≡ true → Q c ≡ true) conds → list_any P conds ≡ true → list_any Q conds ≡ true
any_weaker P Q [] all h = h
any_weaker P Q (c ∷ cs) all h =
    elim (or_cases (P c) (list_any P cs) h) [
      | inl here ↦ or_left (Q c) (list_any Q cs) (all.0 here)
      | inr rest ↦ or_right (Q c) (list_any Q cs) (any_weaker P Q cs all.1 rest)
    ]

fair_share : (n d all own more : ℕ) → n ≤ d → n * all ≤ d * own → n * (all + more) ≤ d * (own + more)
fair_share n d all own more fair met = let step : n * more ≤ d * more = mul-le-mul_right more fair in omega (arith, met, step)

module _ (e : Election) (is : IsElection e) (land party : ℕ) (votes : ListVotes) (gain : IsGain e land party votes) where
  pub named : (land < lands_of e) × (party < parties_of e)
  named = lists_are_named e land party is (ap is_some gain.had)

  pub told : list_at (with_list e land party votes) land party ≡ Some votes
  told = list_told e land party votes is named.0 named.1

  -- all other lists are the same
  pub other_land : (l p : ℕ) → l ≢ land → list_at (with_list e land party votes) l p ≡ list_at e l p
  other_land l p ne = ap (λ row. get_or row p None) (get_or-set_other e.cells land l (set (get_or e.cells land []) party (Some votes)) [] ne)

  other_party : (l p : ℕ) → p ≢ party → list_at (with_list e land party votes) l p ≡ list_at e l p
  other_party l p ne =
      elim (cases_eq land l) [
        | inr nl ↦ other_land l p (λ same. nl (sym same))
        | inl same ↦ subst (λ l. list_at (with_list e land party votes) l p ≡ list_at e l p) same
            (ap (λ row. get_or row p None) (get_or-set_same e.cells land (set (get_or e.cells land []) party (Some votes)) [] (omega (arith, is.rows, named.0)))
            ∙ get_or-set_other (get_or e.cells land []) party p (Some votes) None ne)
      ]

  -- the sum of what is recorded of a party's lists, as valid or as counted votes
  module _ (read : Option ListVotes → ℕ) where
    abbrev of_lists : Election → ℕ → ℕ
    of_lists e p = sum_by (λ l. read (list_at e l p)) (lands e)

    pub same_lists : (p : ℕ) → p ≢ party → of_lists (with_list e land party votes) p ≡ of_lists e p
    same_lists p ne =
        sum_agree (λ l. read (list_at (with_list e land party votes) l p)) (λ l. read (list_at e l p)) (lands e)
        (always (λ l. read (list_at (with_list e land party votes) l p) ≡ read (list_at e l p)) (λ l. ap read (other_party l p ne)) (lands e))

    pub more_lists : (x y : ℕ) → read (list_at e land party) ≡ x → read (Some votes) ≡ y → x ≤ y → of_lists (with_list e land party votes) party ≡ of_lists e party + (y - x)
    more_lists x y before after le =
        let now : read (list_at (with_list e land party votes) land party) ≡ y = ap read told ∙ after in
        let rise = sum_raised (λ l. read (list_at e l party)) (λ l. read (list_at (with_list e land party votes) l party)) land (lands_of e) named.0
        (λ l ne. ap read (other_land l party ne)) (omega (arith, before, now, le)) in
        omega (arith, rise, before, now)

  had_valid : valid_in (list_at e land party) ≡ gain.before.valid
  had_valid = ap valid_in gain.had

  pub had_counted : counted_in (list_at e land party) ≡ gain.before.counted
  had_counted = ap counted_in gain.had

  own_valid : valid_votes (with_list e land party votes) party ≡ valid_votes e party + (votes.valid - gain.before.valid)
  own_valid = more_lists valid_in gain.before.valid votes.valid had_valid refl gain.valid

  all_valid : all_valid_votes (with_list e land party votes) ≡ all_valid_votes e + (votes.valid - gain.before.valid)
  all_valid =
      let rise = sum_raised (valid_votes e) (valid_votes (with_list e land party votes)) party (parties_of e) named.1 (λ p ne. same_lists valid_in p ne) (omega (arith, own_valid)) in
      omega (arith, rise, own_valid)

  -- the party meets what it met before
  meets_more : (c : Cond) → IsFair c → meets e party c ≡ true → meets (with_list e land party votes) party c ≡ true
  meets_more (condition.Valid n d) fair h =
      let met = leb-true (n.value * all_valid_votes e) (d * valid_votes e party) h in
      let now = fair_share n.value d (all_valid_votes e) (valid_votes e party) (votes.valid - gain.before.valid) fair met in
      le-leb _ _ (subst (λ x. n.value * x ≤ d * valid_votes (with_list e land party votes) party) (sym all_valid)
      (subst (λ x. n.value * (all_valid_votes e + (votes.valid - gain.before.valid)) ≤ d * x) (sym own_valid) now))
  meets_more (condition.Winners least) fair h = h
  meets_more condition.Minority fair h = h
  meets_more condition.All fair h = h

  -- and no other party meets what it did not
  meets_less : (p : ℕ) → p ≢ party → (c : Cond) → meets (with_list e land party votes) p c ≡ true → meets e p c ≡ true
  meets_less p ne (condition.Valid n d) h =
      let met = leb-true (n.value * all_valid_votes (with_list e land party votes)) (d * valid_votes (with_list e land party votes) p) h in
      let grown : n.value * all_valid_votes e ≤ n.value * all_valid_votes (with_list e land party votes) = mul-le-mul_left n.value (omega (arith, all_valid)) in
      let same : d * valid_votes (with_list e land party votes) p ≡ d * valid_votes e p = ap (λ x. d * x) (same_lists valid_in p ne) in
      le-leb _ _ (omega (arith, met, grown, same))
  meets_less p ne (condition.Winners least) h = h
  meets_less p ne condition.Minority h = h
  meets_less p ne condition.All h = h

  module _ (conds : List Cond) (fair : Every IsFair conds) where
    pub still_eligible : is_eligible conds e party ≡ true → is_eligible conds (with_list e land party votes) party ≡ true
    still_eligible = any_weaker (meets e party) (meets (with_list e land party votes) party) conds
        (every_weaker IsFair (λ c. meets e party c ≡ true → meets (with_list e land party votes) party c ≡ true) meets_more conds fair)

    pub no_more_eligible : (p : ℕ) → p ≢ party → is_eligible conds (with_list e land party votes) p ≡ true → is_eligible conds e p ≡ true
    no_more_eligible p ne = any_weaker (meets (with_list e land party votes) p) (meets e p) conds
        (always (λ c. meets (with_list e land party votes) p c ≡ true → meets e p c ≡ true) (meets_less p ne) conds)

-- ---- votes of parties

-- what the column of the parties has for each
abbrev pub votes_of : BookTree → Election → ℕ → ℕ
votes_of b e party = sum_by (λ land. list_cell e (counted_votes b.eligible e) land party) (lands e)

sum_if : (t : Bool) (f : ℕ → ℕ) (xs : List ℕ) → sum_by (λ x. cond t (f x) 0) xs ≡ cond t (sum_by f xs) 0
sum_if true f xs = refl
sum_if false f xs = sum_zero xs

module _ (b : BookTree) (e : Election) (party : ℕ) (within : party < parties_of e) where
  pub counted_at : (land : ℕ) → land < lands_of e → list_cell e (counted_votes b.eligible e) land party ≡ cond (is_eligible b.eligible e party) (counted_in (list_at e land party)) 0
  counted_at land in_lands = by_list_at e (λ land party. cond (is_eligible b.eligible e party) (counted_in (list_at e land party)) 0) land party in_lands within

  pub votes_are_if : get_or (party_column b e) party 0 ≡ cond (is_eligible b.eligible e party) (sum_by (λ land. counted_in (list_at e land party)) (lands e)) 0
  votes_are_if =
      at_party e (votes_of b e) party within
      ∙ sum_agree (λ land. list_cell e (counted_votes b.eligible e) land party) (λ land. cond (is_eligible b.eligible e party) (counted_in (list_at e land party)) 0) (lands e)
      (every_weaker (λ land. land < lands_of e) (λ land. list_cell e (counted_votes b.eligible e) land party ≡ cond (is_eligible b.eligible e party) (counted_in (list_at e land party)) 0) counted_at (lands e) (below (lands_of e)))
      ∙ sum_if (is_eligible b.eligible e party) (λ land. counted_in (list_at e land party)) (lands e)

-- another party has the votes that it had, or none where it is no longer eligible
pub no_more : (b : BookTree) (e g : Election) (p : ℕ) → p < parties_of e → p < parties_of g →
    sum_by (λ land. counted_in (list_at g land p)) (lands g) ≡ sum_by (λ land. counted_in (list_at e land p)) (lands e) →
    (is_eligible b.eligible g p ≡ true → is_eligible b.eligible e p ≡ true) → get_or (party_column b g) p 0 ≤ get_or (party_column b e) p 0
no_more b e g p in_e in_g same less =
    let before' = votes_are_if b e p in_e in
    let after' = votes_are_if b g p in_g in
    elim (cases_Bool (is_eligible b.eligible g p)) [
      | inr no' ↦ (let none = after' ∙ cond-false (is_eligible b.eligible g p) _ _ no' in omega (arith, none))
      | inl yes' ↦
          (let had = before' ∙ cond-true (is_eligible b.eligible e p) _ _ (less yes') in
          let has = after' ∙ cond-true (is_eligible b.eligible g p) _ _ yes' in
          omega (arith, had, has, same))
    ]

-- ---- the law

module _ (at : ℕ → ℕ) (b : BookTree) (typed : is_typed b ≡ true) (stages : b.stages ≡ shares at facts.Independents (by.Divisor Webster) majority.Refuse) (last : b.last ≡ cover at)
    (fair : Every IsFair b.eligible) where
  pub never_loses : NeverLosesByVotes b
  never_loses e land party votes is gain lots isl t u means after =
      let g = with_list e land party votes in
      let drawn : Election = record g { lots = lots } in
      let n = named e is land party votes gain in
      let v = party_column b e in
      let w = party_column b g in
      let s = by_webster at b typed stages last e t is means in
      let r : IsDivisorAllocation Webster w (no_minima w) (house_of b g - independents g) (seats_column g u) =
      by_webster at b typed stages last drawn u isl after in
      let before' = votes_are_if b e party n.1 in
      let after' = votes_are_if b g party n.1 in
      let here = at_party e (party_seats t) party n.1 in
      let there = at_party g (party_seats u) party n.1 in
      elim (cases_Bool (is_eligible b.eligible e party)) [
        | inr no' ↦
            (let none : get_or v party 0 ≡ 0 = before' ∙ cond-false (is_eligible b.eligible e party) _ _ no' in
            let seats = s.outside party none in
            let least = none_needed (length v) party in
            omega (arith, seats, least, here))
        | inl yes' ↦
            (let had = before' ∙ cond-true (is_eligible b.eligible e party) _ _ yes' in
            let has = after' ∙ cond-true (is_eligible b.eligible g party) _ _ (still_eligible e is land party votes gain b.eligible fair yes') in
            let rise = more_lists e is land party votes gain counted_in gain.before.counted votes.counted (had_counted e is land party votes gain) refl (omega (arith, gain.counted)) in
            let gained : get_or v party 0 < get_or w party 0 = omega (arith, had, has, rise, gain.counted) in
            let others : (p : ℕ) → p ≢ party → get_or w p 0 ≤ get_or v p 0 = λ p ne.
            elim (cases_lt p (parties_of e)) [
              | inr past ↦ (let z = past_parties g (votes_of b g) p past in omega (arith, z))
              | inl inside ↦ no_more b e g p inside inside (same_lists e is land party votes gain counted_in p ne) (no_more_eligible e is land party votes gain b.eligible fair p ne)
            ] in
            let long : length v ≡ length w = length_parties e (votes_of b e) ∙ sym (length_parties g (votes_of b g)) in
            let r' = subst (λ k. IsDivisorAllocation Webster w (replicate k 0) (house_of b e - independents e) (seats_column g u)) (sym long) r in
            let le = votes_monotone Webster v w (no_minima v) (house_of b e - independents e) (seats_column e t) (seats_column g u) s r' party gained others (omega arith) in
            omega (arith, le, here, there))
      ]

pub parties_of_2023 : PartiesOf2023
parties_of_2023 at = (by_webster at (law_of_2023 at) refl refl refl, by_webster at (law_of_2023_order at) refl refl refl)

pub votes_of_2023 : VotesOf2023
votes_of_2023 at = (
  never_loses at (law_of_2023 at) refl refl refl (omega arith, (tt, tt)),
  never_loses at (law_of_2023_order at) refl refl refl (omega arith, (tt, (tt, tt))),
)
