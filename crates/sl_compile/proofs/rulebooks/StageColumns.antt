-- Where the run of a compiled book is done, each stage of its code has a slot of the shape of the stage's column, and the column stands in it under
-- the stage's name.
use Rattle.std.proofs.Common.{◌≡◌, ℕ, List, [], Option, Some, length, map, slice_get, option_map, sym, ap, ◌∙◌}
use Rattle.std.specs.List.{range_with_len}
use Rattle.std.proofs.lemmas.List.{length-map}
use Rattle.std.proofs.lemmas.Option.{same_Some, slice_get-map, slice_get_within}
use Rattle.sl_base_terms.specs.declared.shape.Shape.{Shape}
use Rattle.sl_law_meaning.specs.book.Trees.{StageTree, BookTree}
use Rattle.sl_law_meaning.specs.book.Typing.{Column, columns_of}
use Rattle.sl_law_meaning.specs.returns.Election.{Election}
use Rattle.sl_law_meaning.specs.meaning.Columns.{NamedColumn}
use Rattle.sl_law_meaning.specs.meaning.Means.{Known}
use Rattle.sl_code_instructions.specs.declared.code.CodeStage.{CodeStage}
use Rattle.sl_code_instructions.specs.Codes.{CountingCode}
use Rattle.sl_code_semantics.specs.State.{State}
use Rattle.sl_code_semantics.specs.Memories.{column_of, held_of}
use Rattle.sl_compile_pieces.proofs.seats.Lists.{number_at}
use Rattle.sl_compile.specs.Compiled.{HasStageColumns, IsCompiled}
use Rattle.sl_compile.proofs.rulebooks.Known.{columns_long, known_types, known_names, known_long}
use Rattle.sl_compile.proofs.rulebooks.Outcomes.{as_long}

-- ---- lists

-- what is said of a list is said of the element at a place
said_at : {X Z : Type 0} (f : X → Z) (xs : List X) (n : ℕ) (x : X) → slice_get xs n ≡ Some x → slice_get (map f xs) n ≡ Some (f x)
said_at f xs n x at = slice_get-map f xs n ∙ ap (option_map f) at

-- where the same is said of two lists, it is said of their elements at a place
same_at : {X Y Z : Type 0} (f : X → Z) (g : Y → Z) (xs : List X) (ys : List Y) (n : ℕ) (x : X) (y : Y) → map f xs ≡ map g ys → slice_get xs n ≡ Some x →
    slice_get ys n ≡ Some y → f x ≡ g y
same_at f g xs ys n x y same at there =
    same_Some (f x) (g y) (sym (said_at f xs n x at) ∙ ap (λ zs. slice_get zs n) same ∙ said_at g ys n y there)

-- ---- the slots

module _ (b : BookTree) (c : CountingCode) (is : IsCompiled b c) where
  -- the code has as many stages as the book
  pub code_stages_long : length c.stages ≡ length b.stages
  code_stages_long =
      sym (length-map c.stages (λ (s : CodeStage). s.name)) ∙ ap (λ (names : List (List ℕ)). length names) is.stages ∙ length-map b.stages (λ (s : StageTree). s.name)

  -- the slot of a stage is there, and has the shape of the stage's column
  pub stage_shape : (n : ℕ) (stage : CodeStage) (t : Column) → slice_get c.stages n ≡ Some stage → slice_get (columns_of [] b.stages) n ≡ Some t →
      slice_get c.slots stage.slot ≡ Some t.type.shape
  stage_shape n stage t at typed =
      same_at (λ (s : CodeStage). slice_get c.slots s.slot) (λ (x : Column). Some x.type.shape) c.stages (columns_of [] b.stages) n stage t is.shapes at typed

-- ---- the columns in them

-- what stands in the slot of the stage of that number
pub record StageStands (c : CountingCode) (e : Election) (s : State) (k : Known) (n : ℕ) (stage : CodeStage) : Type 0 where
  pub type : Column
  pub column : NamedColumn
  pub typed : slice_get k.types n ≡ Some type
  pub there : slice_get k.columns n ≡ Some column
  pub named : column.name ≡ stage.name
  pub shape : slice_get c.slots stage.slot ≡ Some type.type.shape
  pub values : column_of c e s stage.slot ≡ column.values

module _ (b : BookTree) (c : CountingCode) (e : Election) (s : State) (is : IsCompiled b c) (h : HasStageColumns b c e s) where
  -- the known column of a stage has its name
  stage_named : (n : ℕ) (stage : CodeStage) (x : NamedColumn) → slice_get c.stages n ≡ Some stage → slice_get h.known.columns n ≡ Some x → x.name ≡ stage.name
  stage_named n stage x at there =
      same_at (λ (y : NamedColumn). y.name) (λ (t : CodeStage). t.name) h.known.columns c.stages n x stage (known_names b e h.known h.means ∙ sym is.stages) there at

  -- the column of each stage stands in its slot
  pub stage_stands : (n : ℕ) (stage : CodeStage) → slice_get c.stages n ≡ Some stage → StageStands c e s h.known n stage
  stage_stands n stage at =
      let types = known_types b e h.known h.means in
      let as_many : length c.stages ≡ length h.known.columns = code_stages_long b c is ∙ sym (known_long b e h.known h.means) in
      let all_typed : length c.stages ≡ length (columns_of [] b.stages) = code_stages_long b c is ∙ sym (columns_long b.stages) in
      let one = as_long h.known.columns c.stages n stage as_many at in
      let of = as_long (columns_of [] b.stages) c.stages n stage all_typed at in
      record {
        type = of.0;
        column = one.0;
        typed = ap (λ (ts : List Column). slice_get ts n) types ∙ of.1;
        there = one.1;
        named = stage_named n stage one.0 at one.1;
        shape = stage_shape b c is n stage of.0 at of.1;
        values = h.columns n stage one.0 at one.1;
      }

-- what is held has the column of each slot that is there
pub slot_held : (c : CountingCode) (e : Election) (base : ℕ) (vacant : Option ℕ) (s : State) (slot : ℕ) (of : Shape) → slice_get c.slots slot ≡ Some of →
    slice_get (held_of c e base vacant s).columns slot ≡ Some (column_of c e s slot)
slot_held c e base vacant s slot of at =
    said_at (column_of c e s) (range_with_len 0 (length c.slots)) slot slot (number_at (length c.slots) slot (slice_get_within c.slots slot of at))
