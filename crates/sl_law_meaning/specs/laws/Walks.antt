-- Awards one by one: within a batch of peers, a seat for each of them in any order (docs/methods.md, section 7). The law is the
-- contract of a function of `laws`.
use Rattle.std.specs.Prelude.{◌≡◌, ◌↔◌, ℕ, ◌+◌, ◌<◌, List, [], ◌∷◌, length, sum, slice_index, Contains}
use Rattle.sl_law_meaning.specs.methods.Ties.{Distinct, Lists}
use Rattle.sl_law_meaning.specs.laws.Ladders.{Ladders, AreFalling, IsSettled, IsPeer, RaisesEach}

-- t is the settled vector s with one more seat for each of these of its peers
pub record MidBatch (l : Ladders) (s peers given t : List ℕ) : Type 0 where
  pub settled : IsSettled l s
  pub listed : Lists (IsPeer l s) peers
  pub distinct : Distinct given
  pub some : (i : ℕ) → Contains given i → Contains peers i
  pub raised : RaisesEach given s t

-- what is known of such a vector
pub record MidBatchLaws (l : Ladders) (s peers given t : List ℕ) : Type 0 where
  -- as long as not all peers have got their seat, the others are the peers, and there is one
  pub left : length given < length peers → (j : ℕ) → IsPeer l t j ↔ (Contains peers j × ¬ Contains given j)
  pub more : length given < length peers → (j : ℕ) × IsPeer l t j
  -- the next seat may go to any of them, who has as many as before the batch
  pub next : (i : ℕ) (u : List ℕ) → Contains peers i → ¬ Contains given i → RaisesEach (i ∷ []) t u →
      MidBatch l s peers (i ∷ given) u × (slice_index t i ≡ slice_index s i)
  pub total : sum t ≡ sum s + length given
  -- when all have got it, the vector is settled again
  pub all : length given ≡ length peers → RaisesEach peers s t × IsSettled l t × (sum t ≡ sum s + length peers)

pub record WalkLaws (l : Ladders) : Type 0 where
  pub begin : (s peers : List ℕ) → IsSettled l s → Lists (IsPeer l s) peers → MidBatch l s peers [] s
  pub within : (s peers given t : List ℕ) → MidBatch l s peers given t → MidBatchLaws l s peers given t

abbrev pub Walks : Type 0
Walks = (l : Ladders) → AreFalling l → WalkLaws l
