-- The laws of arenas, each of them the contract of a function of `laws`.
use Rattle.std.specs.Prelude.{◌≡◌, ◌↔◌, ℕ, ◌+◌, ◌<◌, ◌≤◌, Bool, Some, IsTrue, Contains, List, [], ◌∷◌, ◌++◌, length, map, slice_get, slice_index, IsPermutation}
use Rattle.std.specs.Option.{option_map}
use Rattle.sl_base_quotients.specs.declared.entry.Entry.{Entry}
use Rattle.sl_base_quotients.specs.declared.limits.TheConstants.{MAX_SEATS}
use Rattle.sl_base_quotients.specs.declared.method.Divisor.{Divisor}
use Rattle.sl_law_meaning.specs.returns.Election.{Election, IsElection}
use Rattle.sl_law_meaning.specs.meaning.Seating.{winners_of}
use Rattle.sl_law_meaning.specs.methods.Field.{no_minima}
use Rattle.sl_law_meaning.specs.methods.LeastHouse.{outside_minima}
use Rattle.sl_law_meaning.specs.methods.Ties.{Lists, NamesAll}
use Rattle.sl_law_meaning.specs.methods.Ties as meaning
use Rattle.sl_law_meaning.specs.laws.Awards.{DrawsNext}
use Rattle.sl_law_meaning.specs.laws.Ladders.{Has, IsPeer, RaisesEach}
use Rattle.sl_law_meaning.specs.laws.Walks.{MidBatch}
use Rattle.sl_code_instructions.specs.declared.operand.Entries.{Entries}
use Rattle.sl_base_rankings.specs.Ranking.{ranked, insert_ranked, without}
use Rattle.sl_base_rankings.specs.Peers.{top, peers, is_covered}
use Rattle.sl_base_rankings.specs.Lot as machine
use Rattle.sl_code_semantics.specs.Effects.{mark_of}
use Rattle.sl_code_semantics.specs.SameLots.{SameLot}
use Rattle.sl_compile_pieces.specs.arenas.Arenas.{Arena, IsArena, AreWeighed, seat_of, next_seat, waiting, divisor_arena, hamilton_arena, covering_arena}

-- what the table answers where the entries hold t and these are their peers: its peers are their next seats
pub record PeersWait (a : Arena) (t tied : List ℕ) : Type 0 where
  pub seats : peers (ranked (waiting a t)) ≡ map (λ i. seat_of a i (slice_index t i)) tied
  pub number : length (peers (ranked (waiting a t))) ≡ length tied
  pub places : map (λ seat. seat.index) (peers (ranked (waiting a t))) ≡ map (slice_index a.places) tied
  pub first : top (ranked (waiting a t)) ≡ option_map (λ i. seat_of a i (slice_index t i)) (slice_get tied 0)
  pub none : (ranked (waiting a t) ≡ []) ↔ (tied ≡ [])

abbrev pub WaitingPeers : Type 0
WaitingPeers =
    (most : ℕ) (a : Arena) (t tied : List ℕ) → IsArena most a → ((i : ℕ) → slice_index t i ≤ most) → Lists (IsPeer a.ladders t) tied →
    PeersWait a t tied

-- an entry gets its next seat: the seat is taken out of the table, and the entry's seat after it, if there is one, put in
pub record SeatTaken (a : Arena) (i : ℕ) (t u : List ℕ) : Type 0 where
  -- the seats of the other entries
  pub others : List Entry
  pub before : IsPermutation (waiting a t) (seat_of a i (slice_index t i) ∷ others)
  pub after : IsPermutation (next_seat a u i ++ others) (waiting a u)
  pub taken : without (seat_of a i (slice_index t i)) (ranked (waiting a t)) ≡ ranked others
  pub goes_on : Has a.ladders i (slice_index u i) → insert_ranked (seat_of a i (slice_index u i)) (ranked others) ≡ ranked (waiting a u)
  pub ends : ¬ Has a.ladders i (slice_index u i) → ranked others ≡ ranked (waiting a u)

abbrev pub WaitingTaken : Type 0
WaitingTaken =
    (most : ℕ) (a : Arena) (i : ℕ) (t u : List ℕ) → IsArena most a → Has a.ladders i (slice_index t i) → RaisesEach (i ∷ []) t u →
    SeatTaken a i t u

-- ---- which arenas there are

-- the arenas of a divisor method for any minima; without minima, where the search of a growth finds its house; and with the minima
-- outside the field, where a house grown to is filled
pub record DivisorArena (method : Divisor) (v : List ℕ) (entries : Entries) (places : List ℕ) : Type 0 where
  pub with_minima : (m : List ℕ) → length m ≡ length v → IsArena MAX_SEATS (divisor_arena method v m entries places)
  pub search : IsArena MAX_SEATS (divisor_arena method v (no_minima v) entries places)
  pub grown : (m : List ℕ) → length m ≡ length v → IsArena MAX_SEATS (divisor_arena method v (outside_minima v m) entries places)

abbrev pub DivisorArenas : Type 0
DivisorArenas = (method : Divisor) (v : List ℕ) (entries : Entries) (places : List ℕ) → AreWeighed v places → DivisorArena method v entries places

abbrev pub HamiltonArenas : Type 0
HamiltonArenas =
    (prefer : Bool) (v : List ℕ) (seats : ℕ) (entries : Entries) (places : List ℕ) → AreWeighed v places → seats ≤ MAX_SEATS →
    (most : ℕ) → IsArena most (hamilton_arena prefer v seats entries places)

-- the winners of a list
abbrev pub CoveringArenas : Type 0
CoveringArenas =
    (eligible : ℕ → Bool) (e : Election) → IsElection e → (land party most : ℕ) →
    IsArena most (covering_arena (winners_of eligible e land party))

-- ---- lots and turns

-- where the machine's lot and the meaning's name the same of the entries, the lot covers the table exactly if the meaning's names all
-- peers
abbrev pub WaitingCovered : Type 0
WaitingCovered =
    (most : ℕ) (a : Arena) (t tied lot meant : List ℕ) → IsArena most a → ((i : ℕ) → slice_index t i ≤ most) →
    Lists (IsPeer a.ladders t) tied → SameLot lot meant a.places →
    IsTrue (is_covered lot (ranked (waiting a t))) ↔ NamesAll meant tied

-- a turn within a last batch, when the entries that the meaning's lot drew first have got their seats: the machine's lot draws the next
-- seat of the entry that the meaning's draws next; once that has got it, the others wait
pub record DrawnTurn (a : Arena) (s tied t lot meant : List ℕ) (k entry : ℕ) : Type 0 where
  pub has : Has a.ladders entry (slice_index t entry)
  pub held : slice_index t entry ≡ slice_index s entry
  pub draws : machine.drawn lot (ranked (waiting a t)) ≡ Some (seat_of a entry (slice_index t entry))
  pub goes : (u : List ℕ) → RaisesEach (entry ∷ []) t u →
      MidBatch a.ladders s tied (meaning.drawn meant (k + 1) tied) u × SeatTaken a entry t u

abbrev pub WaitingDrawn : Type 0
WaitingDrawn =
    (most : ℕ) (a : Arena) (s tied t lot meant : List ℕ) (k : ℕ) → IsArena most a → ((i : ℕ) → slice_index t i ≤ most) →
    SameLot lot meant a.places → NamesAll meant tied → MidBatch a.ladders s tied (meaning.drawn meant k tied) t → k < length tied →
    (next : DrawsNext meant tied k) → DrawnTurn a s tied t lot meant k next.entry

-- a turn within a batch: the top is the next seat of a peer who has not got its seat of the batch, with its mark; once it has got it, the
-- others wait
pub record Turn (a : Arena) (s tied given t : List ℕ) : Type 0 where
  pub entry : ℕ
  pub one_of : Contains tied entry
  pub left : ¬ Contains given entry
  pub has : Has a.ladders entry (slice_index t entry)
  pub held : slice_index t entry ≡ slice_index s entry
  pub some : 0 < length (peers (ranked (waiting a t)))
  pub first : top (ranked (waiting a t)) ≡ Some (seat_of a entry (slice_index t entry))
  pub mark : mark_of a.ranking (a.ladders.rank entry (slice_index t entry)) ≡ a.won entry (slice_index t entry)
  pub goes : (u : List ℕ) → RaisesEach (entry ∷ []) t u → MidBatch a.ladders s tied (entry ∷ given) u × SeatTaken a entry t u

-- until the batch is over there is a turn
abbrev pub WaitingTurns : Type 0
WaitingTurns =
    (most : ℕ) (a : Arena) (s tied given t : List ℕ) → IsArena most a → ((i : ℕ) → slice_index t i ≤ most) →
    MidBatch a.ladders s tied given t → length given < length tied → Turn a s tied given t
