-- The column that the last clause begins with: it is a list column of seats, in a slot of the code.
use Rattle.std.proofs.Common.{◌≡◌, ◌≢◌, ℕ, ◌*◌, ◌<◌, ◌≤◌, ◌&&◌, Bool, true, List, [], ◌∷◌, None, Some, slice_get, slice_index, refl, ap, subst, ◌∙◌, arith}
use Rattle.std.specs.Prelude.{find, position, unwrap_or}
use Rattle.std.specs.List.{list_any}
use Rattle.std.proofs.lemmas.Bool.{and_parts}
use Rattle.sl_base_quotients.specs.declared.limits.TheConstants.{MAX_SEATS}
use Rattle.sl_law_meaning.specs.declared.fact.Fact.TheVariants as facts
use Rattle.sl_law_meaning.specs.declared.book.Base.{Base}
use Rattle.sl_law_meaning.specs.declared.book.Base.TheVariants as base
use Rattle.sl_law_meaning.specs.declared.book.ColumnType.{ColumnType}
use Rattle.sl_law_meaning.specs.declared.check_fault.CheckFault.TheVariants as fault
use Rattle.sl_law_meaning.specs.declared.book.LastClause.{LastClause}
use Rattle.sl_base_terms.specs.declared.shape.Shape.{Shape}
use Rattle.sl_base_terms.specs.declared.shape.Shape.TheVariants as shape
use Rattle.sl_law_meaning.specs.declared.book.Unit.TheVariants as unit
use Rattle.sl_base_terms.specs.Tests.{test, first_failing}
use Rattle.sl_law_meaning.specs.book.Trees.{BookTree, name}
use Rattle.sl_law_meaning.specs.book.Typing.{column, type_of, type_or_one, is_named, is_typed, same_unit, name_tests, base_tests}
use Rattle.sl_base_terms.specs.Shapes.{same_shape}
use Rattle.sl_law_meaning.specs.returns.Election.{Election, IsElection, lands_of, parties_of}
use Rattle.sl_law_meaning.specs.returns.Facts.{list_winners}
use Rattle.sl_law_meaning.specs.meaning.Columns.{IsLeaf}
use Rattle.sl_law_meaning.specs.meaning.Expressions.{Context}
use Rattle.sl_law_meaning.specs.meaning.Means.{Known}
use Rattle.sl_law_meaning.specs.meaning.Records.{no_records}
use Rattle.sl_law_meaning.specs.meaning.Seating.{base_of}
use Rattle.sl_law_meaning.specs.laws.ColumnLaws.{FitsType}
use Rattle.sl_law_meaning.proofs.Units.{same_unit_is}
use Rattle.sl_base_terms.proofs.Shapes.{same_shape_is}
use Rattle.sl_base_terms.proofs.Tests.{pass_parts, head_holds}
use Rattle.sl_law_meaning.proofs.typing.NodeLaws.{column_is}
use Rattle.sl_law_meaning.proofs.meaning.TypedColumns.{winners_typed}
use Rattle.sl_law_meaning.proofs.meaning.TypedMeaning.{typed_expressions}
use Rattle.sl_code_instructions.specs.Codes.{CountingCode}
use Rattle.sl_code_semantics.specs.State.{State}
use Rattle.sl_compile_pieces.specs.columns.Columns.{HoldsColumn}
use Rattle.sl_compile_pieces.specs.exprs.Slots.{stage_slot, HasBookSlots}
use Rattle.sl_compile_pieces.specs.exprs.Stages.{IsBehind}
use Rattle.sl_compile_pieces.proofs.exprs.Leaves.{HasNamed, has_named}
use Rattle.sl_compile_pieces.specs.closing.Trees.{base_slot, final_seats}

-- the column of a last clause, which is in its slot; no list has more seats than there may be
pub record HasBase (c : CountingCode) (b : BookTree) (e : Election) (k : Known) (last : LastClause) (s : State) : Type 0 where
  pub values : List ℕ
  pub leaf : IsLeaf b e k.columns (base_of last) values
  pub slot : slice_get c.slots (base_slot k.types last.base) ≡ Some shape.List
  pub holds : HoldsColumn e shape.List (s.columns (base_slot k.types last.base)) values
  pub small : (q : ℕ) → q < lands_of e * parties_of e → slice_index values q ≤ MAX_SEATS
  pub apart : base_slot k.types last.base ≢ final_seats

-- no number of a list column of seats is greater than the most seats
pub seats_small : (e : Election) (values : List ℕ) → FitsType e (column shape.List unit.Seats) values → (q : ℕ) → q < lands_of e * parties_of e → slice_index values q ≤ MAX_SEATS
seats_small e values fits q less = let few : slice_index values q ≤ 1 * MAX_SEATS = fits.most q 0 (omega (arith, less, fits.size)) in omega (arith, few)

module _ (c : CountingCode) (b : BookTree) (e : Election) (k : Known) (before s : State) (typed : is_typed b ≡ true) (is : IsElection e)
    (slots : HasBookSlots c k.types) (behind : IsBehind b e k before s) where
  -- a stage's column, where the name is known and its type is that of seats of lists
  stage_base : (n : List ℕ) → first_failing (name_tests k.types b.last.at n) ≡ None → type_of k.types (name b.last.at n) ≡ column shape.List unit.Seats →
      HasBase c b e k (record b.last { base = base.Stage n }) s
  stage_base n pass is_seats =
      let h : HasNamed c e n k.types k.columns s = has_named c b e n k.types k.columns s slots behind.typed (head_holds (list_any (is_named n) k.types) None (fault.StageUnknown b.last.at) pass).0 behind.known in
      let list : (type_or_one (find (is_named n) k.types)).shape ≡ shape.List = ap (λ (t : ColumnType). t.shape) is_seats in
      let context : Context = record { stage = 0; name = []; types = k.types; columns = k.columns } in
      let fits : FitsType e (type_of k.types (name b.last.at n)) h.values =
      typed_expressions b e context (name b.last.at n) h.values no_records typed is behind.typed pass (h.values, h.found, refl) in
      record {
        values = h.values;
        leaf = h.found;
        slot = h.slot ∙ ap (λ (x : Shape). Some x) list;
        holds = subst (λ (x : Shape). HoldsColumn e x (s.columns (stage_slot (unwrap_or (position (is_named n) k.types) 0))) h.values) list h.holds;
        small = seats_small e h.values (subst (λ (t : ColumnType). FitsType e t h.values) is_seats fits);
        apart = λ same. omega (arith, same);
      }

  -- the one of the winners, or that of a stage
  pub base_is : (o : Base) → first_failing (base_tests k.types b.last.at o) ≡ None → HasBase c b e k (record b.last { base = o }) s
  base_is base.Winners pass = record {
    values = list_winners b.eligible e;
    leaf = refl;
    slot = (slots.facts.facts facts.Winners);
    holds = behind.known.facts facts.Winners;
    small = seats_small e (list_winners b.eligible e) (winners_typed b.eligible e is);
    apart = λ same. omega (arith, same);
  }
  base_is (base.Stage n) pass =
      let t : ColumnType = type_of k.types (name b.last.at n) in
      let seats : Bool = same_shape t.shape shape.List && same_unit t.unit unit.Seats in
      let parts = pass_parts (name_tests k.types b.last.at n) (test seats (fault.SeatsShape b.last.at) ∷ []) pass in
      let both = and_parts (same_shape t.shape shape.List) (same_unit t.unit unit.Seats) (head_holds seats None (fault.SeatsShape b.last.at) parts.1).0 in
      stage_base n parts.0 (column_is t (column shape.List unit.Seats) (same_shape_is t.shape shape.List both.0) (same_unit_is t.unit unit.Seats both.1))
