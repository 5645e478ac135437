-- Where the operands of an operation fail, by the instructions whose operands are alike; and which bytes are no operation.
use Rattle.std.proofs.Common.{◌≡◌, ℕ, ◌+◌, ◌-◌, ◌<◌, ◌≤◌, Bool, List, [], ◌∷◌, ◌++◌, map, replicate, length, get_or, append-nil, Result, ◌⊎◌, inl, inr, sym, ap, subst, ◌∙◌, arith, lit≤}
use Rattle.std.specs.List.{range_with_len}
use Rattle.std.specs.Result.{IfErr}
use Rattle.std.proofs.Math.ListN.{get_or-map}
use Rattle.std.proofs.lemmas.List.{get_or-replicate}
use Rattle.std.proofs.lemmas.List.FromFn.{get_or-range_with_len}
use Rattle.std.proofs.lemmas.Result.{IfErr-weaker}
use Rattle.sl_code.specs.declared.fault.Cause.TheVariants as causes
use Rattle.sl_code.specs.declared.fault.Stop.{Stop}
use Rattle.sl_code_instructions.specs.declared.instr.Instr.{Instr}
use Rattle.sl_code_instructions.specs.declared.instr.Instr.TheVariants.{Set, Wland}
use Rattle.sl_code_instructions.specs.Rows.{opcode_of}
use Rattle.sl_code.specs.Faults.{FailsTests, FailsInstr, meaningless, in_operands, IsOperation, instr_tests, stop_at}
use Rattle.sl_code.specs.Reading.{FailsAhead}
use Rattle.sl_code.proofs.Fronts.{head, tail}

-- operands fail like those of an instruction of that operation
like_fails : (like : Instr) (tests : List (ℕ → Bool)) (op : ℕ) (old here : List ℕ) (r : Result Instr Stop) → opcode_of like ≡ op → instr_tests like ≡ tests → old ≡ op ∷ here → IfErr r (FailsAhead tests here) → IfErr r (FailsInstr old)
like_fails like tests op old here r operation same old_is =
    IfErr-weaker r (FailsAhead tests here) (FailsInstr old) (λ stop failing.
    let known : FailsTests (stop_at causes.Op) (tests ++ []) here stop = failing.fails [] in
    in_operands op here old_is (record {
      like = like;
      operation = operation;
      fails = subst (λ (ts : List (ℕ → Bool)). FailsTests (stop_at causes.Op) ts here stop) (append-nil tests ∙ sym same) known;
    }))

-- it is the operation of one of these instructions
abbrev IsOf : ℕ → Instr → List Instr → Type 0
IsOf op i [] = op ≡ opcode_of i
IsOf op i (j ∷ js) = (op ≡ opcode_of i) ⊎ IsOf op j js

pub one_fails : (i : Instr) (is : List Instr) (tests : List (ℕ → Bool)) (op : ℕ) (old here : List ℕ) (r : Result Instr Stop) → map instr_tests (i ∷ is) ≡ replicate (length (i ∷ is)) tests → IsOf op i is
    → old ≡ op ∷ here → IfErr r (FailsAhead tests here) → IfErr r (FailsInstr old)
one_fails i [] tests op old here r alike is = like_fails i tests op old here r (sym is) (head _ _ _ _ alike)
one_fails i (j ∷ js) tests op old here r alike (inl is) = like_fails i tests op old here r (sym is) (head _ _ _ _ alike)
one_fails i (j ∷ js) tests op old here r alike (inr later) = one_fails j js tests op old here r (tail _ _ _ _ alike) later

-- their operations are in order
pub between_fails : (first : ℕ) (is : List Instr) (tests : List (ℕ → Bool)) (op : ℕ) (old here : List ℕ) (r : Result Instr Stop) → map opcode_of is ≡ range_with_len first (length is) → map instr_tests is ≡ replicate (length is) tests
    → first ≤ op → op < first + length is → old ≡ op ∷ here → IfErr r (FailsAhead tests here) → IfErr r (FailsInstr old)
between_fails first is tests op old here r ordered alike low high =
    let k : ℕ = op - first in
    let within : k < length is = omega (arith, low, high) in
    let place : opcode_of (get_or is k Wland) ≡ first + k = sym (get_or-map opcode_of is k Wland) ∙ ap (λ (ns : List ℕ). get_or ns k 19) ordered ∙ get_or-range_with_len first (length is) k 19 within in
    let same : instr_tests (get_or is k Wland) ≡ tests = sym (get_or-map instr_tests is k Wland) ∙ ap (λ (all : List (List (ℕ → Bool))). get_or all k []) alike ∙ get_or-replicate (length is) k tests [] within in
    like_fails (get_or is k Wland) tests op old here r (omega (arith, place, low)) same

-- ---- no operation

opcode_bounds : (i : Instr) → (1 ≤ opcode_of i) × (opcode_of i ≤ 44)
opcode_bounds (Set a b) = (lit≤ tt, lit≤ tt)
opcode_bounds x = (lit≤ tt, lit≤ tt)

pub none_known : (op : ℕ) → (op < 1) ⊎ (45 ≤ op) → IsOperation op → ⊥
none_known op outside known =
    let bounds : (1 ≤ opcode_of known.0) × (opcode_of known.0 ≤ 44) = opcode_bounds known.0 in
    omega (arith, bounds.0, bounds.1, known.1, outside)

pub unknown_fails : (op : ℕ) (old here : List ℕ) (stop : Stop) → (op < 1) ⊎ (45 ≤ op) → old ≡ op ∷ here → stop ≡ stop_at causes.Op old → FailsInstr old stop
unknown_fails op old here stop outside old_is is = meaningless op here old_is (none_known op outside) is
