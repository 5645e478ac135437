-- Small returns: that they are returns, what a book under `keep` means on them, and what is decided in their scopes.
use Rattle.std.proofs.Common.{◌≡◌, ℕ, ◌+◌, ◌<◌, ◌≤◌, Bool, true, List, [], length, map, filter, nat_eq, sum, sum_by, count_by, arith, refl, sym, ap, subst, ◌∙◌}
use Rattle.std.specs.Prelude.{codes}
use Rattle.std.proofs.lemmas.List.Elements.{All-nil}
use Rattle.std.proofs.lemmas.Option.{none-some, same_Some}
use Rattle.sl_base_quotients.specs.declared.limits.TheConstants.{MAX_LANDS, MAX_PARTIES}
use Rattle.sl_base_quotients.specs.declared.method.Divisor.{Divisor}
use Rattle.sl_law_meaning.specs.declared.limits.TheConstants.{MAX_WINS}
use Rattle.sl_law_meaning.specs.declared.book.Seating.TheVariants as seating
use Rattle.sl_law_meaning.specs.declared.table.Outcome.TheVariants as outcome
use Rattle.sl_law_meaning.specs.book.Trees.{BookTree}
use Rattle.sl_law_meaning.specs.book.Typing.{is_typed}
use Rattle.sl_law_meaning.specs.returns.Votes.{IsListVotes}
use Rattle.sl_law_meaning.specs.returns.Election.{Election, IsElection, IsWin, AreNames, no_election}
use Rattle.sl_law_meaning.specs.returns.Facts.{by_party}
use Rattle.sl_law_meaning.specs.methods.Allocations.{IsDivisorAllocation}
use Rattle.sl_law_meaning.specs.methods.Ties.{Decided, IsChoice}
use Rattle.sl_law_meaning.specs.methods.Hamilton.{IsHamiltonAllocation}
use Rattle.sl_law_meaning.specs.methods.Covering.{IsCovering}
use Rattle.sl_law_meaning.specs.laws.Ladders.{divisor_ladders, hamilton_ladders, covering_ladders}
use Rattle.sl_law_meaning.specs.laws.MethodLaws.{AllHaveVotes}
use Rattle.sl_law_meaning.specs.meaning.Columns.{IsLeaf}
use Rattle.sl_law_meaning.specs.meaning.Seating.{base_of, keep_table}
use Rattle.sl_law_meaning.specs.meaning.Tables.{SeatTable}
use Rattle.sl_law_meaning.specs.meaning.Means.{Known, Through, nothing_known, StagesMean, IsSeated, SameTable, Means}
use Rattle.sl_law_meaning.proofs.Elections.{is_with_house, is_with_land, is_with_party}
use Rattle.sl_law_meaning.proofs.meaning.MeaningProofs.{same_itself, at_most_one_outcome}
use Rattle.sl_law_meaning.proofs.methods.DivisorProofs.{divisor_tops}
use Rattle.sl_law_meaning.proofs.methods.HamiltonProofs.{hamilton_tops}
use Rattle.sl_law_meaning.proofs.methods.LadderProofs.{batches}
use Rattle.sl_law_meaning.proofs.methods.CoveringProofs.{covering_tops}
use Rattle.sl_law_meaning.proofs.methods.SeatSums.{length_zeros}
use Rattle.sl_law_fairness.specs.Winners.{is_single, total_seats}
use Rattle.sl_law_statutes.specs.Parties.{seats_column}
use Rattle.sl_law_examples.specs.VotesThatCost.{votes, winner, two_by_two, Gives}
use Rattle.sl_law_examples.specs.Tables.{winner_by, independent, GivesLists}
use Rattle.sl_law_examples.proofs.Tested.{settled_test, settled_by_test}

-- ---- returns

no_names : (limit : ℕ) → AreNames limit []
no_names limit = record { within = omega arith; spelled = All-nil _; once = λ name i j at there. absurd (none-some name at) }

pub nothing : IsElection no_election
nothing = record {
  house = λ x none. absurd (none-some x none);
  lands = omega arith;
  parties = omega arith;
  winners = omega arith;
  land_names = no_names MAX_LANDS;
  party_names = no_names MAX_PARTIES;
  win_names = no_names MAX_WINS;
  populations = refl;
  rows = refl;
  minorities = refl;
  wins = refl;
  people = All-nil _;
  widths = All-nil _;
  votes = All-nil _;
  ends = All-nil _;
  places = All-nil _;
  drawn = omega arith;
  lots = All-nil _;
}

pub are_votes : (n : ℕ) → n ≤ 100000000 → IsListVotes (votes n)
are_votes n le = record { counted = omega arith; valid = le; slate = λ x none. absurd (none-some x none) }

pub is_winner_by : (lands parties land party first valid : ℕ) → land < lands → party < parties → 1 ≤ first → first ≤ valid → valid ≤ 100000000 →
    IsWin lands parties (winner_by land party first valid)
is_winner_by lands parties land party first valid in_lands in_parties some most few = record {
  land = in_lands;
  party = λ p is. subst (λ p. p < parties) (same_Some party p is) in_parties;
  least = some;
  most = most;
  valid = few;
}

pub is_winner : (lands parties land party : ℕ) → land < lands → party < parties → IsWin lands parties (winner land party)
is_winner lands parties land party in_lands in_parties = is_winner_by lands parties land party 1 1 in_lands in_parties (omega arith) (omega arith) (omega arith)

pub is_independent : (lands parties land : ℕ) → land < lands → IsWin lands parties (independent land)
is_independent lands parties land in_lands = record { land = in_lands; party = λ p none. absurd (none-some p none); least = omega arith; most = omega arith; valid = omega arith }

pub is_two_by_two : (seats x y : ℕ) → 1 ≤ seats → seats ≤ 4000 → x ≤ 100000000 → y ≤ 100000000 → IsElection (two_by_two seats x y)
is_two_by_two seats x y some few in_x in_y =
    is_with_party _ (codes "B") _ (is_with_party _ (codes "A") _ (is_with_land _ (codes "Y") y (is_with_land _ (codes "X") x (is_with_house no_election seats nothing some few) refl in_x) refl in_y) refl) refl

-- ---- the one table

-- the seats of parties are those of the lists
of_lists : (e : Election) (t u : SeatTable) → t.lists ≡ u.lists → seats_column e t ≡ seats_column e u
of_lists e t u same = ap (λ ls. by_party e (λ party. sum_by (λ s. s.seats) (filter (λ s. nat_eq s.party party) ls))) same

-- by any last clause
module _ (b : BookTree) (e : Election) (typed : is_typed b ≡ true) (is : IsElection e) (k : Known) (run : StagesMean b e nothing_known b.stages (Through k))
    (base : List ℕ) (is_base : IsLeaf b e k.columns (base_of b.last) base) (t : SeatTable) (seated : IsSeated b e b.last.seating base k.records (outcome.Table t)) where
  pub means_it : Means b e (outcome.Table t)
  means_it = record {
    ordered = outcome.Table t;
    is = record { run = Through k; stages = run; ends = record { base = base; is_base = is_base; seated = seated } };
    same = same_itself (outcome.Table t);
  }

  pub gives_it : (seats : List ℕ) → seats_column e t ≡ seats → Gives b e seats
  gives_it seats have = record {
    table = t;
    means = means_it;
    have = λ u also. of_lists e u t ((at_most_one_outcome b e typed is (outcome.Table u) (outcome.Table t) also means_it).lists) ∙ have;
  }

  one : (u : SeatTable) → Means b e (outcome.Table u) → SameTable u t
  one u also = at_most_one_outcome b e typed is (outcome.Table u) (outcome.Table t) also means_it

  pub lists_it : (seats : List ℕ) → map (λ s. s.seats) t.lists ≡ seats → GivesLists b e seats
  lists_it seats have = record { table = t; means = means_it; have = λ u also. ap (map (λ s. s.seats)) (one u also).lists ∙ have }

  pub places_it : (u : SeatTable) → Means b e (outcome.Table u) → u.placed ≡ t.placed
  places_it u also = (one u also).placed

  pub total_it : (u : SeatTable) → Means b e (outcome.Table u) → total_seats u ≡ total_seats t
  total_it u also =
      ap (λ ls. sum_by (λ s. s.seats) ls + count_by is_single u.placed) (one u also).lists ∙ ap (λ ps. sum_by (λ s. s.seats) t.lists + count_by is_single ps) (one u also).placed

-- by a clause that keeps the winners
module _ (b : BookTree) (e : Election) (typed : is_typed b ≡ true) (is : IsElection e) (keeps : b.last.seating ≡ seating.Keep) (k : Known) (run : StagesMean b e nothing_known b.stages (Through k))
    (base : List ℕ) (is_base : IsLeaf b e k.columns (base_of b.last) base) where
  kept : IsSeated b e b.last.seating base k.records (outcome.Table (keep_table b e base k.records))
  kept = subst (λ s. IsSeated b e s base k.records (outcome.Table (keep_table b e base k.records))) (sym keeps) refl

  pub gives : (seats : List ℕ) → seats_column e (keep_table b e base k.records) ≡ seats → Gives b e seats
  gives = gives_it b e typed is k run base is_base (keep_table b e base k.records) kept

  pub gives_lists : (seats : List ℕ) → map (λ s. s.seats) (keep_table b e base k.records).lists ≡ seats → GivesLists b e seats
  gives_lists = lists_it b e typed is k run base is_base (keep_table b e base k.records) kept

  pub gives_total : (n : ℕ) → total_seats (keep_table b e base k.records) ≡ n → (t : SeatTable) → Means b e (outcome.Table t) → total_seats t ≡ n
  gives_total n have t means = total_it b e typed is k run base is_base (keep_table b e base k.records) kept t means ∙ have

-- ---- scopes

-- seats that nobody disputes are chosen
pub undisputed : (method : Divisor) (v m s : List ℕ) → length m ≡ length v → length s ≡ length m → settled_test (divisor_ladders method v m) s ≡ true →
    (lot : List ℕ) → IsChoice (IsDivisorAllocation method v m (sum s)) lot (Decided s)
undisputed method v m s e f test lot =
    let tops = divisor_tops method v m e in
    let l = divisor_ladders method v m in
    (tops.choice (sum s) lot (Decided s)).0 (((batches l tops.falling).settled s (settled_by_test l s tops.falling f test)).choice lot)

pub undisputed_remainders : (prefer : Bool) (v s : List ℕ) → length s ≡ length (hamilton_ladders prefer v (sum s)).base → settled_test (hamilton_ladders prefer v (sum s)) s ≡ true →
    (lot : List ℕ) → IsChoice (IsHamiltonAllocation prefer v (sum s)) lot (Decided s)
undisputed_remainders prefer v s f test lot =
    let tops = hamilton_tops prefer v (sum s) in
    let l = hamilton_ladders prefer v (sum s) in
    (tops.choice lot (Decided s)).0 (((batches l tops.falling).settled s (settled_by_test l s tops.falling f test)).choice lot)

pub undisputed_covering : (first valid s : List ℕ) → AllHaveVotes first → length s ≡ length first → settled_test (covering_ladders first valid) s ≡ true →
    (lot : List ℕ) → IsChoice (IsCovering first valid (sum s)) lot (Decided s)
undisputed_covering first valid s some f test lot =
    let tops = covering_tops first valid some in
    let l = covering_ladders first valid in
    (tops.choice (sum s) lot (Decided s)).0 (((batches l tops.falling).settled s (settled_by_test l s tops.falling (f ∙ sym (length_zeros (length first))) test)).choice lot)
