-- A turn within a batch.
use Rattle.std.proofs.Common.{ℕ, ◌<◌, ◌≤◌, List, [], ◌∷◌, length, arith}
use Rattle.std.specs.Prelude.{slice_index}
use Rattle.sl_law_meaning.specs.methods.Ties.{Lists}
use Rattle.sl_law_meaning.specs.laws.Ladders.{IsPeer}
use Rattle.sl_law_meaning.specs.laws.Walks.{MidBatch}
use Rattle.sl_law_meaning.proofs.methods.LadderProofs.{batches}
use Rattle.sl_law_meaning.proofs.methods.WalkProofs.{walks}
use Rattle.sl_base_rankings.proofs.Finding.{Contains-head, Contains-none}
use Rattle.sl_compile_pieces.specs.arenas.Arenas.{Arena, IsArena}
use Rattle.sl_compile_pieces.specs.arenas.Laws.{PeersWait, Turn, WaitingTurns}
use Rattle.sl_compile_pieces.proofs.arenas.Peers.{waiting_peers}
use Rattle.sl_compile_pieces.proofs.arenas.Taken.{waiting_taken}

module _ (most : ℕ) (a : Arena) (s tied given t : List ℕ) (arena : IsArena most a) (few : (i : ℕ) → slice_index t i ≤ most) (mid : MidBatch a.ladders s tied given t)
    (more : length given < length tied) where
  -- the turn of the first of the peers that are left
  turn_of : (peers : List ℕ) → Lists (IsPeer a.ladders t) peers → PeersWait a t peers → Turn a s tied given t
  turn_of [] listed wait =
      let one = ((walks a.ladders arena.falling).within s tied given t mid).more more in
      absurd (Contains-none one.0 (listed.has one.0 one.1))
  turn_of (i ∷ is) listed wait =
      let walk = (walks a.ladders arena.falling).within s tied given t mid in
      let peer = listed.has_only i (Contains-head i is) in
      let left = (walk.left more i).0 peer in
      record {
        entry = i;
        one_of = left.0;
        left = left.1;
        has = peer.next;
        held = mid.raised.others i left.1;
        some = (let many = wait.number in omega (arith, many));
        first = wait.first;
        mark = arena.marks i (slice_index t i) peer.next;
        goes = λ u raised. ((walk.next i u left.0 left.1 raised).0, waiting_taken most a i t u arena peer.next raised);
      }

pub waiting_turns : WaitingTurns
waiting_turns most a s tied given t arena few mid more =
    let left = (batches a.ladders arena.falling).peers t in
    turn_of most a s tied given t arena few mid more left.0 left.1 (waiting_peers most a t left.0 arena few left.1)
