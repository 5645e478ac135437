-- The instructions on the table where next seats wait in it.
use Rattle.std.proofs.Common.{◌≡◌, ℕ, zero, suc, ◌≤◌, List, length, Some, refl, ap, ◌∙◌}
use Rattle.std.specs.Prelude.{slice_index}
use Rattle.sl_base_quotients.specs.declared.entry.Entry.{Entry}
use Rattle.sl_law_meaning.specs.returns.Election.{Election}
use Rattle.sl_code_instructions.specs.declared.instr.Instr.TheVariants as instr
use Rattle.sl_code_instructions.specs.declared.operand.Entries.{Entries}
use Rattle.sl_code_instructions.specs.declared.operand.Entries.TheVariants as entries
use Rattle.sl_code_instructions.specs.Codes.{CountingCode}
use Rattle.sl_base_rankings.specs.Ranking.{ranked}
use Rattle.sl_base_rankings.specs.Peers.{peers}
use Rattle.sl_base_rankings.proofs.RankedEntries.{ranked_without_one}
use Rattle.sl_code_semantics.specs.State.{State}
use Rattle.sl_code_semantics.specs.Places.{at_entry}
use Rattle.sl_code_semantics.specs.Effects.{Goes, counts_peers, effect}
use Rattle.sl_code_semantics.proofs.effects.Table.{taken, peers_jumps, peers_falls, take_does, takelot_does}
use Rattle.sl_compile_pieces.specs.arenas.Arenas.{Arena, IsArena, HasWaiting, seat_of, waiting, table_of, seat_taken}
use Rattle.sl_compile_pieces.specs.arenas.Effects.{IsWaiting, WaitingEffects, WaitingAgain}
use Rattle.sl_compile_pieces.proofs.arenas.Peers.{waiting_peers}

module _ (c : CountingCode) (e : Election) (most : ℕ) (a : Arena) (t : List ℕ) (state : State) (arena : IsArena most a) (few : (i : ℕ) → slice_index t i ≤ most) (waits : HasWaiting a t state) where
  counted : (n r target : ℕ) → length (peers (ranked (waiting a t))) ≡ n → effect c e (instr.Peers r target) state ≡ counts_peers r n state
  counted zero r target many = peers_jumps c e state (table_of a (waiting a t)) waits r target many
  counted (suc n) r target many = peers_falls c e state (table_of a (waiting a t)) waits r target n many

  -- what is left in the table, and the mark
  taken_is : (i : ℕ) (others : List Entry) → IsWaiting a t i others → taken e (table_of a (waiting a t)) (seat_of a i (slice_index t i)) state ≡ seat_taken e a i (slice_index t i) others state
  taken_is i others is =
      let left = ranked_without_one (seat_of a i (slice_index t i)) (waiting a t) others is.seats in
      let mark = arena.marks i (slice_index t i) is.has in
      λ z. at_entry e a.entries (slice_index a.places i) (record state { table = Some (record { entries = a.entries; ranking = a.ranking; contents = left z }); mark = mark z })

same_table : (e : Election) (k : Entries) (index : ℕ) (s : State) → (at_entry e k index s).table ≡ s.table
same_table e entries.Party index s = refl
same_table e _ index s = refl

pub waiting_effects : WaitingEffects
waiting_effects c e most a t state arena few waits = record {
  counts = λ tied listed r target. counted c e most a t state arena few waits (length tied) r target (waiting_peers most a t tied arena few listed).number;
  takes = λ i others is first.
      take_does c e state (table_of a (waiting a t)) waits (seat_of a i (slice_index t i)) first ∙ ap Goes (taken_is c e most a t state arena few waits i others is);
  takes_drawn = λ n name first i others is named some draws.
      takelot_does c e state (table_of a (waiting a t)) waits n first name some named (seat_of a i (slice_index t i)) draws
      ∙ ap Goes (taken_is c e most a t state arena few waits i others is);
  leaves = λ i held others. same_table e a.entries (slice_index a.places i) (record state { table = Some (table_of a others); mark = a.won i held });
}

pub waiting_again : WaitingAgain
waiting_again a i t u state taken holds = record {
  entered = λ more. ap (λ xs. Some (record { entries = a.entries; ranking = a.ranking; contents = xs })) (taken.goes_on more);
  ended = λ none. holds ∙ ap (λ xs. Some (record { entries = a.entries; ranking = a.ranking; contents = xs })) (taken.ends none);
}
