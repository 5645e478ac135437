-- Blocks one after the other: under another name, after others, and their room.
use Rattle.std.proofs.Math.ListN.{drop_of_length-le}
use Rattle.std.proofs.Math.Seq.{drop-cons}
use Rattle.std.proofs.Common.{◌≡◌, ℕ, suc, ◌+◌, ◌<◌, ◌≤◌, List, [], ◌∷◌, ◌++◌, length, map, drop, get_or, add-one, Result, Ok, Err, IfOk, refl, sym, ap, ◌∙◌, subst, arith, append_assoc}
use Rattle.std.proofs.lemmas.List.{append-nil}
use Rattle.sl_code_instructions.specs.declared.instr.Instr.{Instr}
use Rattle.sl_code_instructions.specs.Codes.{CountingCode}
use Rattle.sl_compile_plans.specs.Trees.{Tree}
use Rattle.sl_compile_plans.specs.Laid.{size_all}
use Rattle.sl_blocks.specs.PlanBlocks.{AreBlocks, HasRoom}
use Rattle.sl_compile.proofs.rulebooks.Rows.{blocks_then, blocks_in, blocks_longer}

-- ---- where a call succeeded

module _ {R E : Type 0} (r : Result R E) where
  -- one list of plans is another
  pub blocks_as : (T : CountingCode → Type 0) (a b : List Tree) (x y : List Instr) → a ≡ b → IfOk r (λ _. AreBlocks T a x y) → IfOk r (λ _. AreBlocks T b x y)
  blocks_as T a b x y same h = subst (λ (ts : List Tree). IfOk r (λ _. AreBlocks T ts x y)) same h

-- in a code that has more
pub blocks_where : {R E : Type 0} (r : Result R E) (S T : CountingCode → Type 0) → ((code : CountingCode) → T code → S code) → (a : List Tree) (x y : List Instr)
    → IfOk r (λ _. AreBlocks S a x y) → IfOk r (λ _. AreBlocks T a x y)
blocks_where (Ok v) S T more a x y h = blocks_in more h
blocks_where (Err e) S T more a x y h = h

-- after others
pub blocks_behind : {R E : Type 0} (r : Result R E) (S T : CountingCode → Type 0) → ((code : CountingCode) → T code → S code) → (a b : List Tree) (x y z : List Instr)
    → AreBlocks T a x y → IfOk r (λ _. AreBlocks S b y z) → IfOk r (λ _. AreBlocks T (a ++ b) x z)
blocks_behind (Ok v) S T more a b x y z first second = blocks_then first (blocks_in more second)
blocks_behind (Err e) S T more a b x y z first second = second

-- ---- room

size_all-append : (a b : List Tree) → size_all (a ++ b) ≡ size_all a + size_all b
size_all-append [] b = omega arith
size_all-append (t ∷ a) b = omega (arith, size_all-append a b)

pub room_first : (a b : List Tree) (x : List Instr) → HasRoom (a ++ b) x → HasRoom a x
room_first a b x room = omega (arith, room, size_all-append a b)

pub room_rest : {T : CountingCode → Type 0} (a b : List Tree) (x y : List Instr) → HasRoom (a ++ b) x → AreBlocks T a x y → HasRoom b y
room_rest a b x y room first = let longer = (blocks_longer first).short in omega (arith, room, size_all-append a b, longer)

pub room_as : (a b : List Tree) (x : List Instr) → a ≡ b → HasRoom b x → HasRoom a x
room_as a b x same room = subst (λ (ts : List Tree). HasRoom ts x) (sym same) room

-- ---- a walk over plans

-- the blocks of some of all plans stand, and the rest are to come
pub record BlocksSome (T : CountingCode → Type 0) (all rest : List Tree) (start code : List Instr) : Type 0 where
  pub done : List Tree
  pub blocks : AreBlocks T done start code
  pub is : done ++ rest ≡ all

pub some_first : {T : CountingCode → Type 0} (done rest : List Tree) {start code : List Instr} → AreBlocks T done start code → BlocksSome T (done ++ rest) rest start code
some_first done rest blocks = record { done = done; blocks = blocks; is = refl }

module _ {T : CountingCode → Type 0} (all : List Tree) {X : Type 0} (f : X → Tree) (xs : List X) (i : ℕ) where
  module _ (d : X) {start code : List Instr} (h : BlocksSome T all (map f (drop i xs)) start code) (lt : i < length xs) where
    abbrev x : X
    x = get_or xs i d

    abbrev later : List Tree
    later = map f (drop (suc i) xs)

    there : map f (drop i xs) ≡ f x ∷ later
    there = ap (λ (ys : List X). map f ys) (drop-cons xs i d lt)

    whole : h.done ++ (f x ∷ later) ≡ all
    whole = ap (λ (ts : List Tree). h.done ++ ts) (sym there) ∙ h.is

    -- there is room for the next one, and then it stands
    pub item_room : HasRoom all start → HasRoom (f (get_or xs i d) ∷ []) code
    item_room room =
        room_first (f x ∷ []) later code (room_rest h.done (f x ∷ later) start code (subst (λ (ts : List Tree). HasRoom ts start) (sym whole) room) h.blocks)

    pub item_next : {after : List Instr} → AreBlocks T (f (get_or xs i d) ∷ []) code after → BlocksSome T all (map f (drop (i + 1) xs)) start after
    item_next {after} one =
        rw add-one (record { done = h.done ++ f x ∷ []; blocks = blocks_then h.blocks one; is = append_assoc h.done (f x ∷ []) later ∙ whole })

  pub items_all : {start code : List Instr} → length xs ≤ i → BlocksSome T all (map f (drop i xs)) start code → AreBlocks T all start code
  items_all {start} {code} past h =
      let none : map f (drop i xs) ≡ [] = ap (λ (ys : List X). map f ys) (drop_of_length-le xs past) in
      subst (λ (ts : List Tree). AreBlocks T ts start code) (sym (append-nil h.done) ∙ ap (λ (ts : List Tree). h.done ++ ts) (sym none) ∙ h.is) h.blocks
