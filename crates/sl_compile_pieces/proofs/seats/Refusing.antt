-- Plans that end with a fault of their scope: where a number is too high, and where seats are refused before any is distributed.
use Rattle.std.proofs.Common.{◌≡◌, ◌≢◌, ℕ, suc, ◌<◌, ◌≤◌, ◌&&◌, List, Some, None, if◌then◌else◌, refl, subst, ◌∙◌, arith}
use Rattle.std.specs.Prelude.{sum, nat_eq, nat_lt, min, slice_get}
use Rattle.std.proofs.lemmas.Bool.{cond-true, cond-false, lt-ltb, le-ltb, eq-eqb, ne_eqb, and_from, and_left, and_right}
use Rattle.sl_base_quotients.specs.declared.limits.TheConstants.{MAX_SEATS}
use Rattle.sl_law_meaning.specs.declared.fault.FaultKind.TheVariants as fault
use Rattle.sl_law_meaning.specs.returns.Election.{Election}
use Rattle.sl_law_meaning.specs.meaning.Scopes.{Group}
use Rattle.sl_law_meaning.specs.meaning.Splits.{refusal}
use Rattle.sl_law_meaning.specs.meaning.Results.{fault_at}
use Rattle.sl_code_instructions.specs.Codes.{CountingCode}
use Rattle.sl_code_instructions.specs.declared.operand.EndFault.{EndFault}
use Rattle.sl_code_instructions.specs.declared.operand.EndFault.TheVariants as end
use Rattle.sl_code_semantics.specs.State.{State, End, Faulted, with_register}
use Rattle.sl_code_semantics.specs.Effects as effects
use Rattle.sl_code_semantics.specs.Effects.{most}
use Rattle.sl_code_semantics.proofs.effects.Records.{fault_ends}
use Rattle.sl_code_semantics.proofs.effects.Storing.{register_other}
use Rattle.sl_compile_plans.specs.declared.plan.Test.TheVariants as test
use Rattle.sl_compile_plans.specs.Trees.{Tree, If}
use Rattle.sl_compile_plans.specs.Achieves.{Achieves}
use Rattle.sl_compile_plans.proofs.Rules.{line_ends, stop_achieves, then_achieves, if_zero, if_less, line_first, line_over}
use Rattle.sl_compile_pieces.specs.scopes.Forms.{Form, kind_of, OnScope, groups_of}
use Rattle.sl_compile_pieces.specs.scopes.Scopes.{IsScope}
use Rattle.sl_compile_pieces.proofs.scopes.Scopes.{scopes_hold}
use Rattle.sl_compile_pieces.specs.declared.registers.TheConstants as reg
use Rattle.sl_compile_pieces.specs.seats.Slots.{Slots, HasSlots}
use Rattle.sl_compile_pieces.specs.seats.Trees.{faulty, not_over, nothing, refuses_seats}
use Rattle.sl_compile_pieces.specs.inner.seats.Summing.{GoesOn, EndsRefused}

-- ---- faults

module _ {c : CountingCode} {e : Election} {f : Form} {x : Slots} {name : List ℕ} {g : Group} (slots : HasSlots c f x name) (scope : IsScope e f g) where
  -- the run ends with the fault
  pub faulty_ends : {Q : State → Type 0} {E : End → Type 0} (s : State) (why : EndFault) → OnScope g.scope s → E (Faulted (fault_at x.stage g.scope (effects.kind_of why)))
      → Achieves c e (faulty f x why) s Q E
  faulty_ends s why on h = stop_achieves (fault_ends c e s x.stage (kind_of f) x.stage g.scope slots.stage (scope.kind s on) why) h

  -- it does where the register holds more than the number, and else only a scratch register was written
  pub not_over_achieves : {Q : State → Type 0} {E : End → Type 0} (s : State) (r n : ℕ) (why : EndFault) → r ≢ reg.FIRST_PASSING → OnScope g.scope s
      → (n < s.registers r → E (Faulted (fault_at x.stage g.scope (effects.kind_of why)))) → (s.registers r ≤ n → Q (with_register reg.FIRST_PASSING n s))
      → Achieves c e (not_over f x r n why) s Q E
  not_over_achieves s r n why other on over within =
      let t : State = with_register reg.FIRST_PASSING n s in
      let same : t.registers r ≡ s.registers r = register_other s reg.FIRST_PASSING n r other in
      line_first refl
      (line_over (if_less
      (λ more. faulty_ends t why on (over (omega (arith, more, same))))
      (λ few. line_ends (within (omega (arith, few, same))))))

-- ---- refusals

module _ (v m : List ℕ) (seats : ℕ) where
  refused_short : seats < sum m → refusal v m seats ≡ Some fault.Short
  refused_short less = cond-true (nat_lt seats (sum m)) _ _ (lt-ltb seats (sum m) less)

  module _ (enough : sum m ≤ seats) where
    refused_else : refusal v m seats ≡ (if nat_eq (sum v) 0 && nat_lt (sum m) seats then Some fault.NoList else None)
    refused_else = cond-false (nat_lt seats (sum m)) _ _ (le-ltb seats (sum m) enough)

    refused_empty : sum v ≡ 0 → sum m < seats → refusal v m seats ≡ Some fault.NoList
    refused_empty empty more =
        refused_else ∙ cond-true (nat_eq (sum v) 0 && nat_lt (sum m) seats) _ _ (and_from (nat_eq (sum v) 0) (nat_lt (sum m) seats) (eq-eqb (sum v) 0 empty) (lt-ltb (sum m) seats more))

    not_refused_met : seats ≤ sum m → refusal v m seats ≡ None
    not_refused_met met = refused_else ∙ cond-false (nat_eq (sum v) 0 && nat_lt (sum m) seats) _ _ (and_right (nat_eq (sum v) 0) (nat_lt (sum m) seats) (le-ltb (sum m) seats met))

    not_refused_field : (w : ℕ) → sum v ≡ suc w → refusal v m seats ≡ None
    not_refused_field w is =
        refused_else ∙ cond-false (nat_eq (sum v) 0 && nat_lt (sum m) seats) _ _ (and_left (nat_eq (sum v) 0) (nat_lt (sum m) seats) (ne_eqb (sum v) 0 (λ zero. omega (arith, is, zero))))

-- ---- the plan

pub seats_are_refused : (c : CountingCode) (e : Election) (f : Form) (x : Slots) (name : List ℕ) (k : ℕ) (g : Group) (v m : List ℕ) (seats : ℕ) (state : State) →
    slice_get (groups_of e f) k ≡ Some g → HasSlots c f x name → OnScope g.scope state → seats ≤ MAX_SEATS → state.registers reg.AMOUNT ≡ seats →
    state.registers reg.TOTAL ≡ sum v → state.registers reg.NEEDED ≡ min (sum m) most →
    Achieves c e (refuses_seats f x) state (GoesOn g v m seats state) (EndsRefused x g v m seats)
seats_are_refused c e f x name k g v m seats state at slots on small amount total needed =
    let Q : State → Type 0 = GoesOn g v m seats state in
    let scope : IsScope e f g = scopes_hold e f k g at in
    let rest : Tree = If (test.Zero reg.TOTAL) (If (test.Less reg.NEEDED reg.AMOUNT) (faulty f x end.NoList) nothing) nothing in
    then_achieves {Q = λ t. (state ≡ t) × (sum m ≤ seats)}
    (if_less
    (λ less. faulty_ends slots scope state end.Short on
    (record { kind = fault.Short; refused = refused_short v m seats (omega (arith, less, amount, needed, small)); is = refl }))
    (λ other. line_ends (refl, omega (arith, other, amount, needed, small))))
    (λ t h. subst (λ (u : State). Achieves c e rest u Q (EndsRefused x g v m seats)) h.0
    (if_zero
    (λ none. if_less
    (λ less. faulty_ends slots scope state end.NoList on
    (record { kind = fault.NoList; refused = refused_empty v m seats h.1 (omega (arith, none, total)) (omega (arith, less, amount, needed, small)); is = refl }))
    (λ other. line_ends (record { same = refl; no_refusal = not_refused_met v m seats h.1 (omega (arith, other, amount, needed)) })))
    (λ w some. line_ends (record { same = refl; no_refusal = not_refused_field v m seats h.1 w (omega (arith, some, total)) }))))
