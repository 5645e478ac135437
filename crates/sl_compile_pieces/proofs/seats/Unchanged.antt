-- Plans that write no column, record nothing and seat no winner; and the seats of a scope, which stand while nothing of them is written.
use Rattle.std.proofs.Common.{◌≡◌, ℕ, Bool, false, List, refl, ◌∙◌, true}
use Rattle.std.specs.List.{list_any}
use Rattle.std.specs.Prelude.{nat_eq}
use Rattle.sl_law_meaning.specs.declared.table.Weight.{Weight}
use Rattle.sl_law_meaning.specs.returns.Election.{Election}
use Rattle.sl_law_meaning.specs.meaning.Scopes.{Group, place}
use Rattle.sl_code_instructions.specs.declared.instr.Instr.{Instr}
use Rattle.sl_code_instructions.specs.declared.instr.Instr.TheVariants as op
use Rattle.sl_code_semantics.specs.State.{State}
use Rattle.sl_code_semantics.specs.Frames.{writes_slot, records_step, records_weight}
use Rattle.sl_compile_plans.specs.Trees.{Tree}
use Rattle.sl_compile_plans.specs.Frames.{has_instr, may_write_register, may_write_slot, seats_winner, may_seat, may_record_step, may_record_weight, KeepsRest}
use Rattle.sl_compile_plans.proofs.KeepingRules.{free_of}
use Rattle.sl_compile_pieces.specs.scopes.Forms.{Form, AllParties, AllLands, AllLists, ListsOfParty, ListsInLand, entries_plan, OnScope}
use Rattle.sl_compile_pieces.specs.arenas.Arenas.{Arena}
use Rattle.sl_compile_pieces.specs.declared.registers.TheConstants as reg
use Rattle.sl_compile_pieces.specs.seats.Slots.{Slots, IsUnchanged}
use Rattle.sl_compile_pieces.specs.inner.seats.Seated.{IsSeated}
use Rattle.sl_compile_pieces.specs.inner.seats.Filling.{Leaves}

-- ---- loops over entries

-- the loops over entries are made of these three instructions and of their body
pub entries_free : (is_so : Instr → Bool) (f : Form) (body : Tree) → is_so (op.Fparty 0) ≡ false → is_so (op.Fland 0) ≡ false → is_so (op.Jnl 0) ≡ false → has_instr is_so body ≡ false
    → has_instr is_so (entries_plan f body) ≡ false
entries_free is_so AllParties body p l n b = rw (p, b) refl
entries_free is_so AllLands body p l n b = rw (l, b) refl
entries_free is_so AllLists body p l n b = rw (p, l, n, b) refl
entries_free is_so ListsOfParty body p l n b = rw (l, n, b) refl
entries_free is_so ListsInLand body p l n b = rw (p, n, b) refl

-- ---- what stays

-- a plan that writes no column, records nothing and seats no winner
pub record LeavesAll (tree : Tree) : Type 0 where
  pub columns : (slot : ℕ) → may_write_slot tree slot ≡ false
  pub steps : may_record_step tree ≡ false
  pub weights : may_record_weight tree ≡ false
  pub placed : may_seat tree ≡ false

pub entries_leave : (f : Form) (body : Tree) → LeavesAll body → LeavesAll (entries_plan f body)
entries_leave f body h = record {
  columns = λ slot. entries_free (λ i. writes_slot i slot) f body refl refl refl (h.columns slot);
  steps = entries_free records_step f body refl refl refl h.steps;
  weights = entries_free records_weight f body refl refl refl h.weights;
  placed = entries_free seats_winner f body refl refl refl h.placed;
}

-- after such a plan
pub unchanged : (tree : Tree) (s t : State) → LeavesAll tree → KeepsRest tree s t → IsUnchanged s t
unchanged tree s t h k = record {
  columns = λ slot q. k.columns slot (h.columns slot) q;
  steps = k.steps_kept h.steps;
  weights = k.weights_kept h.weights;
  placed = λ winner. k.placed h.placed winner;
}

-- a register that a plan leaves
pub register_kept : {kept : List ℕ} {tree : Tree} {s t : State} → Leaves kept tree → KeepsRest tree s t → (r : ℕ) → list_any (nat_eq r) kept ≡ true → t.registers r ≡ s.registers r
register_kept {kept = kept} {tree = tree} leaves rest r of = rest.registers r (free_of (may_write_register tree) kept leaves.registers r of)

-- seats stand in a state of the same columns and records, where the cursors of the scope and the registers of amount and total are the same
pub seated_unchanged : (e : Election) (x : Slots) (g : Group) (a : Arena) (v : List ℕ) (seats : ℕ) (told : List Weight) (before : State) (t : List ℕ) (s u : State)
    → IsSeated e x g a v seats told before t s → IsUnchanged s u → OnScope g.scope u → u.registers reg.AMOUNT ≡ s.registers reg.AMOUNT → u.registers reg.TOTAL ≡ s.registers reg.TOTAL
    → IsSeated e x g a v seats told before t u
seated_unchanged e x g a v seats told before t s u h same on amount total = record {
  on = on;
  amount = amount ∙ h.amount;
  total = total ∙ h.total;
  cells = record { one_each = h.cells.one_each; at = λ j i at. same.columns x.result (place e i) ∙ h.cells.at j i at };
  elsewhere = λ q out. same.columns x.result q ∙ h.elsewhere q out;
  columns = λ slot q other. same.columns slot q ∙ h.columns slot q other;
  steps = record { added = h.steps.added; steps = same.steps ∙ h.steps.steps; are = h.steps.are };
  weights = same.weights ∙ h.weights;
  placed = λ winner. same.placed winner ∙ h.placed winner;
}
