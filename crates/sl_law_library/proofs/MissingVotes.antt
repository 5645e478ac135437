-- By the statutes of 2023 further votes take votes from no other party but by the threshold, and fewer rivals take no seat that was certain.
use Rattle.std.proofs.Common.{◌≡◌, ℕ, ◌+◌, ◌-◌, ◌<◌, ◌≤◌, length, get_or, set, inl, inr, arith, refl, sym, ◌∙◌, subst, List, slice_index, slice_set, true}
use Rattle.std.specs.Prelude.{replicate}
use Rattle.std.specs.List.{AllByRecursion as Every}
use Rattle.std.proofs.lemmas.Bool.{cases_lt, cases_eq, cond-true}
use Rattle.std.proofs.lemmas.List.{length-set, get_or-set_same, get_or-set_other}
use Rattle.sl_base_quotients.specs.declared.method.Divisor.TheVariants.{Webster}
use Rattle.sl_law_meaning.specs.declared.election.ListVotes.{ListVotes}
use Rattle.sl_law_meaning.specs.declared.election.Lot.{Lot}
use Rattle.sl_law_meaning.specs.declared.table.Outcome.TheVariants as outcome
use Rattle.sl_law_meaning.specs.meaning.Tables.{SeatTable}
use Rattle.sl_law_meaning.specs.meaning.Means.{Means}
use Rattle.sl_law_meaning.specs.book.Trees.{BookTree}
use Rattle.sl_law_meaning.specs.returns.Votes.{counted_in}
use Rattle.sl_law_meaning.specs.returns.Election.{Election, parties_of, with_list, IsElection}
use Rattle.sl_law_meaning.specs.returns.Facts.{is_eligible}
use Rattle.sl_law_meaning.specs.methods.Field.{no_minima}
use Rattle.sl_law_meaning.specs.methods.Allocations.{IsDivisorAllocation}
use Rattle.sl_law_fairness.specs.Winners.{independents}
use Rattle.sl_law_fairness.proofs.FewerVotes.{certain_against_fewer}
use Rattle.sl_law_statutes.specs.Houses.{house_of}
use Rattle.sl_law_statutes.specs.Parties.{party_column, party_seats, seats_column, AlwaysByWebster, IsGain}
use Rattle.sl_law_statutes.proofs.PartySeats.{length_parties, at_party, past_parties}
use Rattle.sl_law_statutes.proofs.MoreVotes.{IsFair, named, same_lists, more_lists, had_counted, still_eligible, no_more_eligible, votes_of, votes_are_if, no_more}

-- with x further votes for the party and all else equal, each allocation among the parties gives it more seats than it has in the table
abbrev pub AreEnoughFor : BookTree → Election → SeatTable → (party x : ℕ) → Type 0
AreEnoughFor b e t party x =
    let v = party_column b e in
    (s : List ℕ) → IsDivisorAllocation Webster (slice_set v party (slice_index v party + x)) (no_minima v) (house_of b e - independents e) s →
    party_seats t party < slice_index s party

-- where a list of a party that takes part gains as many counted votes as are enough so, the party has more seats in the table, whatever lots are
-- drawn then, and though others may no longer take part
abbrev pub EnoughIsEnough : BookTree → Type 0
EnoughIsEnough b =
    (e : Election) (land party : ℕ) (votes : ListVotes) → IsElection e → (gain : IsGain e land party votes) → is_eligible b.eligible e party ≡ true →
    (t : SeatTable) → Means b e (outcome.Table t) → AreEnoughFor b e t party (votes.counted - gain.before.counted) →
    (lots : List Lot) → IsElection (record (with_list e land party votes) { lots = lots }) →
    (u : SeatTable) → Means b (record (with_list e land party votes) { lots = lots }) (outcome.Table u) →
    party_seats t party < party_seats u party

pub enough : (b : BookTree) → AlwaysByWebster b → Every IsFair b.eligible → EnoughIsEnough b
enough b webster fair e land party votes is gain can t means sure lots isl u after =
    let g = with_list e land party votes in
    let drawn : Election = record g { lots = lots } in
    let n = named e is land party votes gain in
    let v = party_column b e in
    let w = party_column b g in
    let x = votes.counted - gain.before.counted in
    let more = set v party (get_or v party 0 + x) in
    let r : IsDivisorAllocation Webster w (no_minima w) (house_of b e - independents e) (seats_column g u) = webster drawn u isl after in
    let had = votes_are_if b e party n.1 ∙ cond-true (is_eligible b.eligible e party) _ _ can in
    let has = votes_are_if b g party n.1 ∙ cond-true (is_eligible b.eligible g party) _ _ (still_eligible e is land party votes gain b.eligible fair can) in
    let rise = more_lists e is land party votes gain counted_in gain.before.counted votes.counted (had_counted e is land party votes gain) refl (omega (arith, gain.counted)) in
    let within : party < length v = (let l = length_parties e (votes_of b e) in let p = n.1 in omega (arith, l, p)) in
    let here = get_or-set_same v party (get_or v party 0 + x) 0 within in
    let long = length-set v party (get_or v party 0 + x) in
    let same : get_or w party 0 ≡ get_or more party 0 = omega (arith, had, has, rise, here) in
    let fewer : (p : ℕ) → get_or w p 0 ≤ get_or more p 0 = λ p.
    elim (cases_eq p party) [
      | inl e' ↦ subst (λ k. get_or w k 0 ≤ get_or more k 0) (sym e') (omega (arith, same))
      | inr ne ↦
          (let there = get_or-set_other v party p (get_or v party 0 + x) 0 ne in
          elim (cases_lt p (parties_of e)) [
            | inr past ↦ (let z = past_parties g (votes_of b g) p past in omega (arith, z))
            | inl inside ↦
                (let le = no_more b e g p inside inside (same_lists e is land party votes gain counted_in p ne) (no_more_eligible e is land party votes gain b.eligible fair p ne) in
                omega (arith, le, there))
          ])
    ] in
    let lengths : length w ≡ length more = length_parties g (votes_of b g) ∙ sym (length_parties e (votes_of b e)) ∙ sym long in
    let seats = at_party g (party_seats u) party n.1 in
    let up = certain_against_fewer Webster more w (house_of b e - independents e) party (party_seats t party) lengths same fewer
    (λ s h. sure s (subst (λ k. IsDivisorAllocation Webster more (replicate k 0) (house_of b e - independents e) s) long h)) (seats_column g u) r in
    omega (arith, up, seats)
