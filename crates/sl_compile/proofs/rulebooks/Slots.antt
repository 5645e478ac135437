-- The slots and the stages of a book's code are where its plans look for them.
use Rattle.std.proofs.Common.{◌≡◌, ℕ, zero, suc, ◌+◌, ◌*◌, ◌<◌, ◌≤◌, true, List, [], ◌∷◌, ◌++◌, length, map, Some, slice_get, flat_map, nat_le, refl, sym, ap, ap₂, ◌∙◌, arith, append_assoc}
use Rattle.std.specs.List.{range_with_len, list_all}
use Rattle.std.proofs.lemmas.Bool.{and_parts}
use Rattle.std.proofs.lemmas.List.{append-nil, map-append}
use Rattle.std.proofs.lemmas.Option.{none-some, same_Some, slice_get-map}
use Rattle.sl_law_meaning.specs.declared.fact.Fact.{Fact}
use Rattle.sl_law_meaning.specs.declared.fact.Fact.TheVariants as facts
use Rattle.sl_base_terms.specs.declared.shape.Shape.{Shape}
use Rattle.sl_base_terms.specs.declared.shape.Shape.TheVariants as shape
use Rattle.sl_law_meaning.specs.declared.limits.TheConstants.{MAX_DEPTH}
use Rattle.sl_base_terms.specs.declared.limits.TheConstants.{MAX_STAGES}
use Rattle.sl_law_meaning.specs.book.Trees.{StageTree, BookTree}
use Rattle.sl_law_meaning.specs.book.Limits.{is_within_stage, is_within_limits}
use Rattle.sl_law_meaning.specs.book.Typing.{Column, columns_of, fact_type}
use Rattle.sl_base_terms.specs.Shapes.{shape_number}
use Rattle.sl_code_instructions.specs.declared.code.CodeStage.{CodeStage}
use Rattle.sl_code_instructions.specs.declared.instr.Instr.{Instr}
use Rattle.sl_code_instructions.specs.Codes.{CountingCode}
use Rattle.sl_compile_pieces.specs.declared.slots.TheConstants.{LEVELS, PAIR_NUMBERS as pair_numbers}
use Rattle.sl_compile_pieces.specs.exprs.Slots.{fact_slots, passing, stage_slot, HasBookSlots}
use Rattle.sl_compile_pieces.specs.exprs.Stages.{HasStages}
use Rattle.sl_blocks.specs.Blocks.{HasSlotsOf}
use Rattle.sl_blocks.specs.Facts.{fact_shapes, closing_shapes, HasFirstSlots}
use Rattle.sl_compile.specs.Codes.{code_stages, level_shapes, passing_shapes, book_slots, book_code}
use Rattle.sl_compile.proofs.rulebooks.Known.{columns_long}
use Rattle.sl_compile.proofs.rulebooks.Sizes.{few_stages}
use Rattle.sl_compile_pieces.proofs.scopes.Pieces.{get_left, get_right}

-- ---- slots

-- the shapes of some levels, the first of that number, and what stands get_right them
abbrev levels_then : ℕ → ℕ → List Shape → List Shape
levels_then n count rest = flat_map (λ (level : ℕ). level_shapes) (range_with_len n count) ++ rest

-- the column of a shape on the first of some levels
on_first : (n count : ℕ) (rest : List Shape) (s : Shape) → slice_get (levels_then n (suc count) rest) (4 * 0 + shape_number s) ≡ Some s
on_first n count rest shape.One = refl
on_first n count rest _ = refl

-- and on any of them
on_level : (n count level : ℕ) (rest : List Shape) (s : Shape) → level < count → slice_get (levels_then n count rest) (4 * level + shape_number s) ≡ Some s
on_level n zero level rest s below = absurd (omega (arith, below))
on_level n (suc count) zero rest s below = on_first n count rest s
on_level n (suc count) (suc level) rest s below =
    let place : 4 * suc level + shape_number s ≡ suc (suc (suc (suc (4 * level + shape_number s)))) = omega arith in
    ap (λ (m : ℕ). slice_get (levels_then n (suc count) rest) m) place ∙ on_level (n + 1) count level rest s (omega (arith, below))

module _ (types : List Column) where
  abbrev stage_shapes : List Shape
  stage_shapes = map (λ c. c.type.shape) types

  pub passing_there : (level : ℕ) (s : Shape) → level ≤ MAX_DEPTH → slice_get (book_slots types) (passing level s) ≡ Some s
  passing_there level s low =
      let place : passing level s ≡ pair_numbers + (3 + (4 * level + shape_number s)) = omega arith in
      ap (λ (m : ℕ). slice_get (book_slots types) m) place
      ∙ get_right fact_shapes (closing_shapes ++ (passing_shapes ++ stage_shapes)) (3 + (4 * level + shape_number s))
      ∙ get_right closing_shapes (passing_shapes ++ stage_shapes) (4 * level + shape_number s)
      ∙ on_level 0 LEVELS level stage_shapes s (omega (arith, low))

  stage_there : (k : ℕ) (t : Column) → slice_get types k ≡ Some t → slice_get (book_slots types) (stage_slot k) ≡ Some t.type.shape
  stage_there k t at =
      let place : stage_slot k ≡ pair_numbers + (3 + (4 * LEVELS + k)) = omega arith in
      ap (λ (m : ℕ). slice_get (book_slots types) m) place
      ∙ get_right fact_shapes (closing_shapes ++ (passing_shapes ++ stage_shapes)) (3 + (4 * LEVELS + k))
      ∙ get_right closing_shapes (passing_shapes ++ stage_shapes) (4 * LEVELS + k)
      ∙ get_right passing_shapes stage_shapes k
      ∙ slice_get-map (λ c. c.type.shape) types k
      ∙ rw at refl

  pub fact_there : (told : Fact) → slice_get (book_slots types) (fact_slots.of told) ≡ Some (fact_type told).shape
  fact_there facts.House = refl
  fact_there told = refl

  -- a code that has the slots of a book has them where its plans look for them
  pub has_book_slots : (c : CountingCode) → HasSlotsOf (book_slots types) c → HasBookSlots c types
  has_book_slots c has = record {
    facts = record {
      eligible = has _ _ refl;
      facts = λ told. has _ _ (fact_there told);
      votes = has _ _ refl;
      numbers = has _ _ refl;
      apart = λ same. omega (arith, same);
      facts_apart = λ told same. omega (arith, same);
    };
    pair_numbers_are = has _ _ refl;
    names_left_are = has _ _ refl;
    vacant_seats_are = has _ _ refl;
    passing_are = λ level s low. has (passing level s) s (passing_there level s low);
    stages_are = λ k t at. has (stage_slot k) t.type.shape (stage_there k t at);
  }

-- the slots of a book with one stage more are those of the book and one more
book_slots_more : (types : List Column) (t : Column) → book_slots (types ++ t ∷ []) ≡ book_slots types ++ t.type.shape ∷ []
book_slots_more types t =
    let shapes : List Column → List Shape = λ ts. map (λ c. c.type.shape) ts in
    let more : List Shape = t.type.shape ∷ [] in
    ap (λ (xs : List Shape). fact_shapes ++ (closing_shapes ++ (passing_shapes ++ xs))) (map-append (λ (c : Column). c.type.shape) types (t ∷ []))
    ∙ ap (λ (xs : List Shape). fact_shapes ++ (closing_shapes ++ xs)) (sym (append_assoc passing_shapes (shapes types) more))
    ∙ ap (λ (xs : List Shape). fact_shapes ++ xs) (sym (append_assoc closing_shapes (passing_shapes ++ shapes types) more))
    ∙ sym (append_assoc fact_shapes (closing_shapes ++ (passing_shapes ++ shapes types)) more)

-- what is there for more stages is there for fewer
pub has_fewer : (types : List Column) (t : Column) (c : CountingCode) → HasSlotsOf (book_slots (types ++ t ∷ [])) c → HasSlotsOf (book_slots types) c
has_fewer types t c has slot s at =
    has slot s (ap (λ (xs : List Shape). slice_get xs slot) (book_slots_more types t) ∙ get_left (book_slots types) (t.type.shape ∷ []) slot s at)

pub has_none : (types : List Column) (c : CountingCode) → HasSlotsOf (book_slots types) c → HasSlotsOf (book_slots []) c
has_none types c has slot s at =
    has slot s
    (ap (λ (xs : List Shape). slice_get xs slot) (behind_all types)
    ∙ get_left (book_slots []) (map (λ x. x.type.shape) types) slot s at)
  where
    behind_all : (ts : List Column) → book_slots ts ≡ book_slots [] ++ map (λ x. x.type.shape) ts
    behind_all ts =
        let shapes : List Shape = map (λ x. x.type.shape) ts in
        ap (λ (xs : List Shape). fact_shapes ++ (closing_shapes ++ (xs ++ shapes))) (sym (append-nil passing_shapes))
        ∙ ap (λ (xs : List Shape). fact_shapes ++ xs) (sym (append_assoc closing_shapes (passing_shapes ++ []) shapes))
        ∙ sym (append_assoc fact_shapes (closing_shapes ++ (passing_shapes ++ [])) shapes)

-- the first slots
pub has_first : (types : List Column) (c : CountingCode) → HasSlotsOf (book_slots types) c → HasFirstSlots c
has_first types c has slot s at =
    let rest : List Shape = passing_shapes ++ map (λ x. x.type.shape) types in
    has slot s (ap (λ (xs : List Shape). slice_get xs slot) (sym (append_assoc fact_shapes closing_shapes rest)) ∙ get_left (fact_shapes ++ closing_shapes) rest slot s at)

-- ---- stages

-- the stage at a place has its name, and the slot of its number
stage_at : (k j : ℕ) (ss : List StageTree) (s : StageTree) → slice_get ss j ≡ Some s →
    (stage : CodeStage) × (slice_get (code_stages k ss) j ≡ Some stage) × (stage.name ≡ s.name)
stage_at k j [] s at = absurd (none-some s at)
stage_at k zero (r ∷ ss) s at = (record { name = r.name; slot = stage_slot k }, refl, ap (λ (x : StageTree). x.name) (same_Some r s at))
stage_at k (suc j) (r ∷ ss) s at = stage_at (k + 1) j ss s at

slot_at : (k j : ℕ) (ss : List StageTree) (stage : CodeStage) → slice_get (code_stages k ss) j ≡ Some stage → stage.slot ≡ stage_slot (k + j)
slot_at k j [] stage at = absurd (none-some stage at)
slot_at k zero (r ∷ ss) stage at =
    let here : k ≡ k + 0 = omega arith in
    sym (ap (λ (x : CodeStage). x.slot) (same_Some (record { name = r.name; slot = stage_slot k }) stage at)) ∙ ap stage_slot here
slot_at k (suc j) (r ∷ ss) stage at = let next : k + 1 + j ≡ k + suc j = omega arith in slot_at (k + 1) j ss stage at ∙ ap stage_slot next

pub as_many_stages : (k : ℕ) (ss : List StageTree) → length (code_stages k ss) ≡ length ss
as_many_stages k [] = refl
as_many_stages k (s ∷ ss) = ap suc (as_many_stages (k + 1) ss)

same_names : (k : ℕ) (ss : List StageTree) → map (λ s. s.name) (code_stages k ss) ≡ map (λ s. s.name) ss
same_names k [] = refl
same_names k (s ∷ ss) = ap (λ (names : List (List ℕ)). s.name ∷ names) (same_names (k + 1) ss)

-- lists of which the functions say the same at each place
same_maps : {X Y Z : Type 0} (f : X → Z) (g : Y → Z) (xs : List X) (ys : List Y) → length xs ≡ length ys →
    ((n : ℕ) (x : X) (y : Y) → slice_get xs n ≡ Some x → slice_get ys n ≡ Some y → f x ≡ g y) → map f xs ≡ map g ys
same_maps f g [] [] long each = refl
same_maps f g [] (y ∷ ys) long each = absurd (omega (arith, long))
same_maps f g (x ∷ xs) [] long each = absurd (omega (arith, long))
same_maps f g (x ∷ xs) (y ∷ ys) long each =
    ap₂ (λ z zs. z ∷ zs) (each 0 x y refl refl) (same_maps f g xs ys (omega (arith, long)) (λ n u v at there. each (suc n) u v at there))

-- the limits of a book, apart
pub limits_apart : (ss : List StageTree) → is_within_limits ss ≡ true → (length ss ≤ MAX_STAGES) × (list_all is_within_stage ss ≡ true)
limits_apart ss within = (few_stages ss within, (and_parts (nat_le (length ss) MAX_STAGES) (list_all is_within_stage ss) within).1)

module _ (b : BookTree) (instrs : List Instr) where
  pub book_has_slots : HasSlotsOf (book_slots (columns_of [] b.stages)) (book_code b instrs)
  book_has_slots slot s at = at

  pub book_has_stages : is_within_limits b.stages ≡ true → HasStages (book_code b instrs) 0 b.stages
  book_has_stages within = record {
    few = let most = (limits_apart b.stages within).0 in omega (arith, most);
    each = λ j s at.
        let one = stage_at 0 j b.stages s at in
        let here : j ≡ 0 + j = omega arith in
        (one.0, ap (λ (m : ℕ). slice_get (code_stages 0 b.stages) m) (sym here) ∙ one.1, one.2);
  }

  pub book_has_as_many : length (book_code b instrs).stages ≡ length b.stages
  book_has_as_many = as_many_stages 0 b.stages

  pub book_has_names : map (λ s. s.name) (book_code b instrs).stages ≡ map (λ s. s.name) b.stages
  book_has_names = same_names 0 b.stages

  -- the slot of a stage is that of its number
  pub book_stage_slot : (n : ℕ) (stage : CodeStage) → slice_get (book_code b instrs).stages n ≡ Some stage → stage.slot ≡ stage_slot n
  book_stage_slot n stage at = let here : 0 + n ≡ n = omega arith in slot_at 0 n b.stages stage at ∙ ap stage_slot here

  -- and has the shape of its column
  pub book_has_shapes : map (λ s. slice_get (book_code b instrs).slots s.slot) (book_code b instrs).stages ≡ map (λ x. Some x.type.shape) (columns_of [] b.stages)
  book_has_shapes =
      same_maps (λ (s : CodeStage). slice_get (book_code b instrs).slots s.slot) (λ (x : Column). Some x.type.shape) (book_code b instrs).stages (columns_of [] b.stages)
      (book_has_as_many ∙ sym (columns_long b.stages))
      (λ n stage x at typed. ap (slice_get (book_code b instrs).slots) (book_stage_slot n stage at) ∙ stage_there (columns_of [] b.stages) n x typed)
