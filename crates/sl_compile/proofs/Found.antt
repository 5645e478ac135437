-- Where a stage of a name stands, and what its column has.
use Rattle.std.proofs.Common.{◌≡◌, ℕ, suc, ◌<◌, ◌≤◌, List, Bool, true, false, cond, Option, None, Some, length, find, get_or, inl, inr, arith, refl, sym, ap, ◌∙◌}
use Rattle.std.specs.Prelude.{nat_lt, position, unwrap_or}
use Rattle.std.specs.List.{position_or_len}
use Rattle.std.proofs.lemmas.Bool.{leb-true, le-leb}
use Rattle.std.proofs.lemmas.Bool.Decides.{leb_tells}
use Rattle.sl_law_meaning.specs.declared.book.Stage.{Stage}
use Rattle.sl_base_terms.specs.declared.shape.Shape.TheVariants as shape
use Rattle.sl_law_meaning.specs.declared.book.Unit.TheVariants as unit
use Rattle.sl_law_meaning.specs.declared.book.ColumnType.{ColumnType}
use Rattle.sl_law_meaning.specs.book.Typing.{column, is_named, type_or_one}
use Rattle.sl_compile.specs.inner.Earlier.{columns}
use Rattle.sl_compile.proofs.Walks.{is_stage, type_here, type_nowhere}

found_at : (k n i : ℕ) (b : Bool) → nat_lt k n ≡ b → cond b (Some k) None ≡ Some i → (k ≡ i) × (k < n)
found_at k n i true less is = (ap (λ (o : Option ℕ). unwrap_or o 0) is, leb-true (suc k) n less)
found_at k n i false less is = let none : suc i ≡ i = ap (λ (o : Option ℕ). unwrap_or o (suc i)) is in absurd (omega (arith, none))

lost_at : (k n : ℕ) → cond (nat_lt k n) (Some k) None ≡ None → n ≤ k
lost_at k n is = elim (leb_tells (suc k) n) [
  | inl less ↦ let one : k ≡ suc k = ap (λ (b : Bool). unwrap_or (cond b (Some k) None) (suc k)) (sym (le-leb (suc k) n less.1)) ∙ ap (λ (o : Option ℕ). unwrap_or o (suc k)) is in absurd (omega (arith, one))
  | inr more ↦ omega (arith, more.1)
]

-- what the column of a name has, by the place of its stage
pub found_type : (n : List ℕ) (ss : List Stage) (ts : List ColumnType) (k : ℕ) (d : ColumnType) → length ss ≤ length ts → position (is_stage n) ss ≡ Some k →
    get_or ts k d ≡ type_or_one (find (is_named n) (columns ss ts))
found_type n ss ts k d long is =
    let at = found_at (position_or_len (is_stage n) ss) (length ss) k (nat_lt (position_or_len (is_stage n) ss) (length ss)) refl is in
    ap (λ (i : ℕ). get_or ts i d) (sym at.0) ∙ sym (type_here n ss ts d long at.1)

pub lost_type : (n : List ℕ) (ss : List Stage) (ts : List ColumnType) → length ss ≤ length ts → position (is_stage n) ss ≡ None →
    column shape.One unit.Seats ≡ type_or_one (find (is_named n) (columns ss ts))
lost_type n ss ts long is = sym (type_nowhere n ss ts long (lost_at (position_or_len (is_stage n) ss) (length ss) is))
