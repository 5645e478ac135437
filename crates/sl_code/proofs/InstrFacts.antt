-- Instructions of one operation have operands alike; so an instruction stands or fails in one way alone.
use Rattle.std.proofs.Common.{◌≡◌, ℕ, Bool, List, [], ◌∷◌, ◌++◌, length, map, flat_map, refl, sym, ap, subst, ◌∙◌}
use Rattle.sl_code.specs.declared.fault.Cause.TheVariants as causes
use Rattle.sl_code.specs.declared.fault.Stop.{Stop}
use Rattle.sl_code_instructions.specs.declared.instr.Instr.{Instr}
use Rattle.sl_code_instructions.specs.declared.instr.Instr.TheVariants.{Set}
use Rattle.sl_code_instructions.specs.declared.parts.Operand.{Operand}
use Rattle.sl_code_instructions.specs.declared.parts.Operand.TheVariants as o
use Rattle.sl_code_instructions.specs.Rows.{opcode_of, operands_of}
use Rattle.sl_code.specs.Operands.{bytes_of, tests_of, two_bytes, four_bytes, eight_bytes, is_any}
use Rattle.sl_code.specs.Spelling.{instr_bytes}
use Rattle.sl_code.specs.Faults.{FailsTests, FailsInstr, missing, meaningless, in_operands, instr_tests, stop_at, IsAny}
use Rattle.sl_code.proofs.Determined.{tests_one}
use Rattle.sl_code.proofs.Passing.{Passes, all_passes, joined, none_fails}
use Rattle.sl_code.proofs.Values.{scope_known, entries_known, ranking_known, input_known, method_known, rounding_known, fault_known, cursors_known, table_known, builders, instr_at}
use Rattle.sl_code.proofs.Fronts.{head, tail, back_same, no_front}

-- an instruction of that operation
abbrev like : ℕ → Instr
like op = instr_at op []

abbrev pub widths : Instr → List ℕ
widths i = map (λ x. length (bytes_of x)) (operands_of i)

abbrev width : Instr → ℕ
width i = length (flat_map bytes_of (operands_of i))

like_alike : (i : Instr) → let j : Instr = like (opcode_of i) in (instr_tests i ≡ instr_tests j) × (width i ≡ width j) × (widths i ≡ widths j)
unfolding instr_at builders two_bytes four_bytes eight_bytes
like_alike (Set a b) = (refl, refl, refl)
like_alike x = (refl, refl, refl)

pub alike : (i j : Instr) → opcode_of i ≡ opcode_of j → (instr_tests i ≡ instr_tests j) × (width i ≡ width j) × (widths i ≡ widths j)
alike i j e =
    let a = like_alike i in
    let b = like_alike j in
    (a.0 ∙ ap (λ op. instr_tests (like op)) e ∙ sym b.0, a.1 ∙ ap (λ op. width (like op)) e ∙ sym b.1, a.2 ∙ ap (λ op. widths (like op)) e ∙ sym b.2)

abbrev wrong : List ℕ → Stop
wrong = stop_at causes.Op

-- ---- operands pass

operand_passes : (x : Operand) → Passes IsAny (tests_of x) (bytes_of x)
unfolding two_bytes four_bytes eight_bytes
operand_passes (o.Scope x) = ((scope_known x).0, tt, tt)
operand_passes (o.Entries x) = ((entries_known x).0, tt, tt)
operand_passes (o.Ranking x) = ((ranking_known x).0, tt, tt)
operand_passes (o.Input x) = ((input_known x).0, tt, tt)
operand_passes (o.Method x) = ((method_known x).0, tt, tt)
operand_passes (o.Rounding x) = ((rounding_known x).0, tt, tt)
operand_passes (o.Fault x) = ((fault_known x).0, tt, tt)
operand_passes (o.Cursors x) = ((cursors_known x).0, tt, tt)
operand_passes (o.Table x) = ((table_known x).0, tt, tt)
operand_passes x = all_passes is_any (bytes_of x) refl

operands_pass : (xs : List Operand) → Passes IsAny (flat_map tests_of xs) (flat_map bytes_of xs)
operands_pass [] = tt
operands_pass (x ∷ xs) = joined (tests_of x) (flat_map tests_of xs) (bytes_of x) (flat_map bytes_of xs) (operand_passes x) (operands_pass xs)

-- ---- instructions

pub instr_same : (x y : Instr) (r s : List ℕ) → instr_bytes x ++ r ≡ instr_bytes y ++ s → r ≡ s
instr_same x y r s e =
    let op : opcode_of x ≡ opcode_of y = head _ _ _ _ e in
    back_same (flat_map bytes_of (operands_of x)) (flat_map bytes_of (operands_of y)) r s (alike x y op).1 (tail _ _ _ _ e)

pub instr_none : (x : Instr) (r : List ℕ) (stop : Stop) → IsAny x → FailsInstr (instr_bytes x ++ r) stop → ⊥
instr_none x r stop any (missing none is) = no_front _ _ none
instr_none x r stop any (meaningless b rest stands unknown is) = unknown (x, head _ _ _ _ stands)
instr_none x r stop any (in_operands op rest stands failing) =
    let known : opcode_of failing.like ≡ opcode_of x = failing.operation ∙ sym (head _ _ _ _ stands) in
    let there : FailsTests wrong (instr_tests x) rest stop = subst (λ (ts : List (ℕ → Bool)). FailsTests wrong ts rest stop) (alike failing.like x known).0 failing.fails in
    none_fails wrong (instr_tests x) (flat_map bytes_of (operands_of x)) r stop (operands_pass (operands_of x)) (subst (λ (h : List ℕ). FailsTests wrong (instr_tests x) h stop) (sym (tail _ _ _ _ stands)) there)

pub instr_one : (here : List ℕ) (a b : Stop) → FailsInstr here a → FailsInstr here b → a ≡ b
instr_one here a b (missing none is) (missing none' is') = is ∙ sym is'
instr_one here a b (missing none is) (meaningless x rest stands unknown is') = absurd (no_front _ _ (sym stands ∙ none))
instr_one here a b (missing none is) (in_operands op rest stands failing) = absurd (no_front _ _ (sym stands ∙ none))
instr_one here a b (meaningless x rest stands unknown is) (missing none is') = absurd (no_front _ _ (sym stands ∙ none))
instr_one here a b (meaningless x rest stands unknown is) (meaningless x' rest' stands' unknown' is') = is ∙ sym is'
instr_one here a b (meaningless x rest stands unknown is) (in_operands op rest' stands' failing) =
    absurd (unknown (failing.like, failing.operation ∙ head _ _ _ _ (sym stands' ∙ stands)))
instr_one here a b (in_operands op rest stands failing) (missing none is) = absurd (no_front _ _ (sym stands ∙ none))
instr_one here a b (in_operands op rest stands failing) (meaningless x rest' stands' unknown is) =
    absurd (unknown (failing.like, failing.operation ∙ head _ _ _ _ (sym stands ∙ stands')))
instr_one here a b (in_operands op rest stands first) (in_operands op' rest' stands' second) =
    let both : op' ∷ rest' ≡ op ∷ rest = sym stands' ∙ stands in
    let known : opcode_of second.like ≡ opcode_of first.like = second.operation ∙ head _ _ _ _ both ∙ sym first.operation in
    let there : FailsTests wrong (instr_tests first.like) rest' b = subst (λ (ts : List (ℕ → Bool)). FailsTests wrong ts rest' b) (alike second.like first.like known).0 second.fails in
    tests_one wrong (instr_tests first.like) rest a b first.fails (subst (λ (h : List ℕ). FailsTests wrong (instr_tests first.like) h b) (tail _ _ _ _ both) there)
