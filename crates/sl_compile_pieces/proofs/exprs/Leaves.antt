-- Leaves: a fact stands in its slot, and the columns of the stages before are copied.
use Rattle.std.proofs.Common.{one-add, ◌≡◌, ◌⊎◌, ℕ, suc, ◌+◌, ◌<◌, ◌≤◌, ◌||◌, Bool, true, cond, not, List, [], ◌∷◌, length, Option, None, Some, slice_get, refl, sym, ap, subst, ◌∙◌, inl, inr, arith}
use Rattle.std.specs.Prelude.{find, position, unwrap_or, option_map}
use Rattle.std.specs.List.{AllZip, list_any, position_or_len, prefix_len}
use Rattle.std.specs.Str.{bytes_eq}
use Rattle.std.proofs.lemmas.Bool.{cases_Bool, cond-true, cond-false, false≢true, lt-ltb}
use Rattle.sl_base_terms.specs.declared.shape.Shape.{Shape}
use Rattle.sl_law_meaning.specs.declared.limits.TheConstants.{MAX_DEPTH}
use Rattle.sl_law_meaning.specs.book.Trees.{BookTree}
use Rattle.sl_law_meaning.specs.book.Typing.{Column, is_named, type_or_one}
use Rattle.sl_law_meaning.specs.returns.Election.{Election}
use Rattle.sl_law_meaning.specs.meaning.Columns.{NamedColumn, is_column_of}
use Rattle.sl_law_meaning.specs.meaning.Records.{no_records}
use Rattle.sl_law_meaning.specs.meaning.Results.{ExprResult, plain}
use Rattle.sl_law_meaning.specs.laws.ColumnLaws.{IsTypedAs}
use Rattle.sl_code_instructions.specs.Codes.{CountingCode}
use Rattle.sl_code_semantics.specs.State.{State}
use Rattle.sl_compile_pieces.specs.columns.Columns.{HoldsColumn}
use Rattle.sl_compile_pieces.specs.columns.Trees.{copy_tree}
use Rattle.sl_compile_pieces.proofs.columns.Writing.{columns_are_copied}
use Rattle.sl_compile_pieces.specs.nodes.Nodes.{EndsWith}
use Rattle.sl_compile_pieces.specs.exprs.Slots.{fact_slots, passing, stage_slot, HasBookSlots, FIRST_PASSING_SLOT, FIRST_STAGE_SLOT}
use Rattle.sl_compile_pieces.specs.exprs.Meaning.{HoldsKnown, ComesTo}
use Rattle.sl_compile_pieces.proofs.exprs.Following.{AllAchieve}
use Rattle.sl_compile_pieces.proofs.exprs.Places.{first_of, fact_low, stages_above, outside}
use Rattle.sl_compile_pieces.proofs.exprs.Arguments.{plain_all}
use Rattle.sl_compile_pieces.proofs.columns.Cells.{still_holds}
use Rattle.sl_compile_pieces.proofs.nodes.Added.{adds_none}

-- ---- what is known stays known

module _ {b : BookTree} {e : Election} {types : List Column} {columns : List NamedColumn} where
  known_when_kept : (s t : State) → ((k q : ℕ) → (k < FIRST_PASSING_SLOT) ⊎ (FIRST_STAGE_SLOT ≤ k) → t.columns k q ≡ s.columns k q) → HoldsKnown b e types columns s → HoldsKnown b e types columns t
  known_when_kept s t same h =
      let kept : (k : ℕ) (shape : Shape) (values : List ℕ) → (k < FIRST_PASSING_SLOT) ⊎ (FIRST_STAGE_SLOT ≤ k) → HoldsColumn e shape (s.columns k) values → HoldsColumn e shape (t.columns k) values =
      λ k shape values apart holds. still_holds e shape (s.columns k) (t.columns k) values (λ q. same k q apart) holds in
      record {
        facts = λ told. kept (fact_slots.of told) _ _ (inl (fact_low told)) (h.facts told);
        stages = λ k u x typed valued. kept (stage_slot k) _ _ (inr (omega arith)) (h.stages k u x typed valued);
      }

  -- while an argument yields its column
  pub known_kept : (level : ℕ) {IsResult : ExprResult → Type 0} {shape : Shape} {slot : ℕ} {s t : State} → ComesTo e IsResult shape slot (first_of level) s t
      → HoldsKnown b e types columns s → HoldsKnown b e types columns t
  known_kept level {s = s} {t = t} came h = known_when_kept s t (λ k q apart. came.columns k q (below level k apart)) h
    where
      below : (level k : ℕ) → (k < FIRST_PASSING_SLOT) ⊎ (FIRST_STAGE_SLOT ≤ k) → (k < first_of level) ⊎ (FIRST_STAGE_SLOT ≤ k)
      below level k (inl low) = inl (omega (arith, low))
      below level k (inr high) = inr high

-- ---- facts, and copies

pub fact_all : {c : CountingCode} {e : Election} {IsResult : ExprResult → Type 0} (s : Shape) (slot first : ℕ) (values : List ℕ) (state : State)
    → HoldsColumn e s (state.columns slot) values → IsResult (plain values) → AllAchieve c e [] state (ComesTo e IsResult s slot first state) (EndsWith IsResult)
fact_all s slot first values state holds result = record {
  all = record { values = values; records = no_records; result = result; column = holds; columns = λ k q apart. refl; adds = adds_none state state refl refl (λ winner. refl) };
}

module _ {c : CountingCode} {e : Election} {IsResult : ExprResult → Type 0} (level : ℕ) (low : level ≤ MAX_DEPTH) where
  pub leaf_all : (s : Shape) (from : ℕ) (values : List ℕ) (state : State) → slice_get c.slots from ≡ Some s → slice_get c.slots (passing level s) ≡ Some s
      → (from < first_of level) ⊎ (FIRST_STAGE_SLOT ≤ from) → HoldsColumn e s (state.columns from) values → IsResult (plain values)
      → AllAchieve c e (copy_tree s from (passing level s) ∷ []) state (ComesTo e IsResult s (passing level s) (first_of level) state) (EndsWith IsResult)
  leaf_all s from values state known_from known_to apart holds result =
      plain_all (omega arith) (stages_above level s low) result
      (columns_are_copied c e s from (passing level s) values state known_from known_to (outside from (first_of level) (passing level s) apart (omega arith) (stages_above level s low)) holds)

-- ---- names

-- where the stage of that name stands among those before
pub record IsPlaced (n : List ℕ) (types : List Column) (columns : List NamedColumn) : Type 0 where
  pub place : ℕ
  pub type : Column
  pub column : NamedColumn
  pub first : position_or_len (is_named n) types ≡ place
  pub within : place < length types
  pub typed : slice_get types place ≡ Some type
  pub valued : slice_get columns place ≡ Some column
  pub found_type : find (is_named n) types ≡ Some type
  pub found : find (is_column_of n) columns ≡ Some column

pub named_place : (e : Election) (n : List ℕ) (types : List Column) (columns : List NamedColumn) → AllZip (IsTypedAs e) types columns → list_any (is_named n) types ≡ true
    → IsPlaced n types columns
named_place e n [] [] all some = absurd (false≢true some)
named_place e n [] (d ∷ columns) all some = absurd all
named_place e n (t ∷ types) [] all some = absurd all
named_place e n (t ∷ types) (d ∷ columns) all some =
    let same : bytes_eq n d.name ≡ bytes_eq n t.name = ap (bytes_eq n) (sym all.0.name) in
    elim (cases_Bool (bytes_eq n t.name)) [
      | inl this ↦ search (
        arith,
        ap (λ (b : Bool). cond (not b) (1 + prefix_len (λ (x : Column). not (is_named n x)) types) 0) this,
        cond-true (bytes_eq n t.name) (Some t) (find (is_named n) types) this,
        cond-true (bytes_eq n d.name) (Some d) (find (is_column_of n) columns) (same ∙ this),
      )
      | inr other ↦
          let rest : IsPlaced n types columns = named_place e n types columns all.1 (ap (λ (b : Bool). b || list_any (is_named n) types) (sym other) ∙ some) in
          record {
            place = suc rest.place;
            type = rest.type;
            column = rest.column;
            first = ap (λ (b : Bool). cond (not b) (1 + prefix_len (λ (x : Column). not (is_named n x)) types) 0) other ∙ ap (λ (k : ℕ). 1 + k) rest.first ∙ one-add rest.place;
            within = let less = rest.within in omega (arith, less);
            typed = rest.typed;
            valued = rest.valued;
            found_type = cond-false (bytes_eq n t.name) (Some t) (find (is_named n) types) other ∙ rest.found_type;
            found = cond-false (bytes_eq n d.name) (Some d) (find (is_column_of n) columns) (same ∙ other) ∙ rest.found;
          }
    ]

place_is : (n : List ℕ) (types : List Column) (k : ℕ) → position_or_len (is_named n) types ≡ k → k < length types → unwrap_or (position (is_named n) types) 0 ≡ k
place_is n types k first within =
    let p : ℕ = position_or_len (is_named n) types in
    let less : p < length types = omega (arith, first, within) in
    ap (λ (b : Bool). unwrap_or (cond b (Some p) None) 0) (lt-ltb p (length types) less) ∙ first

-- the slot of its column is one of the code, and it holds the column
pub record HasNamed (c : CountingCode) (e : Election) (n : List ℕ) (types : List Column) (columns : List NamedColumn) (state : State) : Type 0 where
  pub values : List ℕ
  pub found : option_map (λ s. s.values) (find (is_column_of n) columns) ≡ Some values
  pub slot : slice_get c.slots (stage_slot (unwrap_or (position (is_named n) types) 0)) ≡ Some (type_or_one (find (is_named n) types)).shape
  pub holds : HoldsColumn e (type_or_one (find (is_named n) types)).shape (state.columns (stage_slot (unwrap_or (position (is_named n) types) 0))) values

pub has_named : (c : CountingCode) (b : BookTree) (e : Election) (n : List ℕ) (types : List Column) (columns : List NamedColumn) (state : State) → HasBookSlots c types
    → AllZip (IsTypedAs e) types columns → list_any (is_named n) types ≡ true → HoldsKnown b e types columns state → HasNamed c e n types columns state
has_named c b e n types columns state slots all some known =
    let h : IsPlaced n types columns = named_place e n types columns all some in
    let at : h.place ≡ unwrap_or (position (is_named n) types) 0 = sym (place_is n types h.place h.first h.within) in
    let type : h.type.type.shape ≡ (type_or_one (find (is_named n) types)).shape = ap (λ (o : Option Column). (type_or_one o).shape) (sym h.found_type) in
    record {
      values = h.column.values;
      found = ap (option_map (λ (s : NamedColumn). s.values)) h.found;
      slot = subst (λ (k : ℕ). slice_get c.slots (stage_slot k) ≡ Some (type_or_one (find (is_named n) types)).shape) at
          (subst (λ (s : Shape). slice_get c.slots (stage_slot h.place) ≡ Some s) type (slots.stages_are h.place h.type h.typed));
      holds = subst (λ (k : ℕ). HoldsColumn e (type_or_one (find (is_named n) types)).shape (state.columns (stage_slot k)) h.column.values) at
          (subst (λ (s : Shape). HoldsColumn e s (state.columns (stage_slot h.place)) h.column.values) type (known.stages h.place h.type h.column h.typed h.valued));
    }
