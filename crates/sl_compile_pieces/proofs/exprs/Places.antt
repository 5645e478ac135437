-- Where the scratch columns stand.
use Rattle.std.proofs.Common.{◌≡◌, ◌≢◌, ◌⊎◌, ℕ, ◌+◌, ◌<◌, ◌≤◌, List, Some, slice_get, refl, sym, ap, ◌∙◌, inl, inr, arith}
use Rattle.sl_base_terms.specs.declared.shape.Shape.{Shape}
use Rattle.sl_base_terms.specs.declared.shape.Shape.TheVariants as shape
use Rattle.sl_law_meaning.specs.declared.fact.Fact.{Fact}
use Rattle.sl_law_meaning.specs.declared.fact.Fact.TheVariants as facts
use Rattle.sl_law_meaning.specs.declared.limits.TheConstants.{MAX_DEPTH}
use Rattle.sl_law_meaning.specs.book.Trees.{ExprTree, fact}
use Rattle.sl_law_meaning.specs.book.Typing.{Column, type_of}
use Rattle.sl_base_terms.specs.Shapes.{shape_number}
use Rattle.sl_code_instructions.specs.Codes.{CountingCode}
use Rattle.sl_compile_pieces.specs.scopes.Forms.{Form, AllParties, amounts_of, votes_of}
use Rattle.sl_compile_pieces.specs.exprs.Slots.{fact_slots, passing, StandsOn, OfFact, InPassing, HasBookSlots, FIRST_PASSING_SLOT, FIRST_STAGE_SLOT}
use Rattle.sl_compile_pieces.specs.exprs.Pieces.{slot_of}

pub number_few : (s : Shape) → shape_number s ≤ 3
number_few shape.One = omega arith
number_few other = omega arith

-- the first column of a level
abbrev pub first_of : ℕ → ℕ
first_of level = passing level shape.One

pub fact_low : (told : Fact) → fact_slots.of told < FIRST_PASSING_SLOT
fact_low facts.House = omega arith
fact_low told = omega arith

pub first_same : (level : ℕ) → first_of level ≤ first_of level
first_same level = omega arith

pub first_next : (level more : ℕ) → first_of level ≤ first_of (level + more)
first_next level more = omega arith

pub stages_above : (level : ℕ) (s : Shape) → level ≤ MAX_DEPTH → passing level s < FIRST_STAGE_SLOT
stages_above level s low = let few = number_few s in omega (arith, few, low)

level_below : (k level : ℕ) (s : Shape) → k < level → passing k s < first_of level
level_below k level s less = let few = number_few s in omega (arith, few, less)

other_level : (k level : ℕ) (s v : Shape) → k < level → passing level v ≢ passing k s
other_level k level s v less same = let below = level_below k level s less in omega (arith, below, same)

-- no scratch column is changed on a later level, nor that of a fact or of a stage on any
pub outside : (k first slot : ℕ) → (k < first) ⊎ (FIRST_STAGE_SLOT ≤ k) → first ≤ slot → slot < FIRST_STAGE_SLOT → k ≢ slot
outside k first slot (inl low) from within same = omega (arith, low, from, within, same)
outside k first slot (inr high) from within same = omega (arith, high, from, within, same)

pub wider : (k first later : ℕ) → first ≤ later → (k < first) ⊎ (FIRST_STAGE_SLOT ≤ k) → (k < later) ⊎ (FIRST_STAGE_SLOT ≤ k)
wider k first later from (inl low) = inl (omega (arith, from, low))
wider k first later from (inr high) = inr high

amounts_apart : (f : Form) (level : ℕ) → passing level (amounts_of f) ≢ passing level (votes_of f)
amounts_apart AllParties level same = omega (arith, same)
amounts_apart _ level same = omega (arith, same)

-- ---- the slots of expressions

pub slot_stands : (types : List Column) (x : ExprTree) (level : ℕ) → StandsOn level (type_of types x).shape (slot_of types level x)
slot_stands types (fact at told) level = OfFact told refl refl
slot_stands types x level = InPassing refl

pub stands_there : (c : CountingCode) (types : List Column) → HasBookSlots c types → (level : ℕ) (s : Shape) (slot : ℕ) → level ≤ MAX_DEPTH → StandsOn level s slot
    → slice_get c.slots slot ≡ Some s
stands_there c types h level s slot low (OfFact told is shaped) = ap (slice_get c.slots) is ∙ h.facts.facts told ∙ ap Some shaped
stands_there c types h level s slot low (InPassing is) = ap (slice_get c.slots) is ∙ h.passing_are level s low

pub stands_below : (k level : ℕ) (s : Shape) (slot : ℕ) → k < level → StandsOn k s slot → slot < first_of level
stands_below k level s slot less (OfFact told is shaped) = let low = fact_low told in omega (arith, is, low)
stands_below k level s slot less (InPassing is) = let below = level_below k level s less in omega (arith, is, below)

pub stands_apart : (k level : ℕ) (s v : Shape) (slot : ℕ) → k < level → StandsOn level s slot → slot ≢ passing k v
stands_apart k level s v slot less (OfFact told is shaped) same = let low = fact_low told in omega (arith, is, low, same)
stands_apart k level s v slot less (InPassing is) same = other_level k level v s less (sym is ∙ same)

pub amounts_stand_apart : (f : Form) (level slot : ℕ) → StandsOn level (amounts_of f) slot → slot ≢ passing level (votes_of f)
amounts_stand_apart f level slot (OfFact told is shaped) same = let low = fact_low told in omega (arith, is, low, same)
amounts_stand_apart f level slot (InPassing is) same = amounts_apart f level (sym is ∙ same)
