-- Bytes spell one code at most; so what is written reads back.
use Rattle.std.proofs.Common.{◌≡◌, ℕ, List, [], ◌∷◌, ◌++◌, length, map, flat_map, get_or, refl, sym, ap, ◌∙◌, arith, append_assoc}
use Rattle.std.proofs.Common.{Result, Ok, Err, ◌⊎◌, inl, inr}
use Rattle.std.specs.Int.{w16, w32, w64, from_le_bytes}
use Rattle.std.specs.List.{All, AllByRecursion}
use Rattle.std.proofs.lemmas.List.Elements.{All-head, All-tail}
use Rattle.std.proofs.lemmas.List.Concat.{flat_map_single}
use Rattle.std.proofs.lemmas.Nat.{from_le_bytes-to_le_bytes_2, from_le_bytes-to_le_bytes_4, from_le_bytes-to_le_bytes_8}
use Rattle.sl_base_terms.specs.declared.shape.TheConstants.{SHAPES}
use Rattle.sl_base_terms.specs.declared.shape.Shape.{Shape}
use Rattle.sl_base_terms.specs.declared.shape.Shape.TheVariants as shapes
use Rattle.sl_code_instructions.specs.declared.code.CodeStage.{CodeStage}
use Rattle.sl_code.specs.declared.fault.CodeFault.{CodeFault}
use Rattle.sl_code.specs.declared.fault.CodeFault.TheVariants as faults
use Rattle.sl_code_instructions.specs.declared.instr.Instr.{Instr}
use Rattle.sl_code_instructions.specs.declared.parts.Operand.{Operand}
use Rattle.sl_code_instructions.specs.declared.parts.Operand.TheVariants as o
use Rattle.sl_code_instructions.specs.Codes.{CountingCode}
use Rattle.sl_base_terms.specs.Shapes.{shape_number}
use Rattle.sl_code_instructions.specs.Rows.{opcode_of, operands_of}
use Rattle.sl_code.specs.Operands.{bytes_of, two_bytes, four_bytes, eight_bytes}
use Rattle.sl_code_instructions.specs.Numbers.{value_of}
use Rattle.sl_code.specs.Spelling.{instr_bytes, stage_bytes, opening, stages_part, slots_part, instrs_part, spelling_of}
use Rattle.sl_code_instructions.specs.Proper.{IsStage}
use Rattle.sl_code.specs.Faults.{IsAny, shape_bytes}
use Rattle.sl_code_instructions.specs.Proper.{FitsBytes, IsInRange, IsProper}
use Rattle.sl_code.specs.Reading.{IsReading}
use Rattle.sl_code.proofs.FileFacts.{in_parts, four_same, spelling_none}
use Rattle.sl_code.proofs.Fronts.{head, tail, front_same, back_same}
use Rattle.sl_code.proofs.InstrFacts.{instr_same, alike}
use Rattle.sl_code.proofs.Pieces.{all_any}
use Rattle.sl_code.proofs.StageFacts.{shape_same, stage_same}
use Rattle.sl_code.proofs.Values.{same_instr}

-- ---- instructions

-- the number that 1, 2, 4 or 8 bytes spell
number_of : List ℕ → ℕ
number_of (a ∷ []) = a
number_of (a ∷ b ∷ []) = from_le_bytes w16 (a ∷ b ∷ [])
number_of (a ∷ b ∷ c ∷ d ∷ []) = from_le_bytes w32 (a ∷ b ∷ c ∷ d ∷ [])
number_of (a ∷ b ∷ c ∷ d ∷ e ∷ f ∷ g ∷ h ∷ []) = from_le_bytes w64 (a ∷ b ∷ c ∷ d ∷ e ∷ f ∷ g ∷ h ∷ [])
number_of _ = 0

spelled_value : (x : Operand) → FitsBytes x → value_of x ≡ number_of (bytes_of x)
unfolding number_of two_bytes four_bytes eight_bytes
spelled_value (o.Target t) fits = sym (from_le_bytes-to_le_bytes_4 t fits)
spelled_value (o.Value x) fits = sym (from_le_bytes-to_le_bytes_8 x fits)
spelled_value (o.Positive x) fits = sym (from_le_bytes-to_le_bytes_2 x.mask fits)
spelled_value x fits = refl

values_same : (xs ys : List Operand) (r s : List ℕ) → AllByRecursion FitsBytes xs → AllByRecursion FitsBytes ys → map (λ x. length (bytes_of x)) xs ≡ map (λ x. length (bytes_of x)) ys
    → flat_map bytes_of xs ++ r ≡ flat_map bytes_of ys ++ s → map value_of xs ≡ map value_of ys
values_same [] [] r s fit_x fit_y wide e = refl
values_same [] (y ∷ ys) r s fit_x fit_y wide e = cc
values_same (x ∷ xs) [] r s fit_x fit_y wide e = cc
values_same (x ∷ xs) (y ∷ ys) r s fit_x fit_y wide e =
    let long : length (bytes_of x) ≡ length (bytes_of y) = head _ _ _ _ wide in
    let parted : bytes_of x ++ (flat_map bytes_of xs ++ r) ≡ bytes_of y ++ (flat_map bytes_of ys ++ s) = sym (append_assoc (bytes_of x) (flat_map bytes_of xs) r) ∙ e ∙ append_assoc (bytes_of y) (flat_map bytes_of ys) s in
    let first : value_of x ≡ value_of y = spelled_value x fit_x.0 ∙ ap number_of (front_same (bytes_of x) (bytes_of y) _ _ long parted) ∙ sym (spelled_value y fit_y.0) in
    let more : map value_of xs ≡ map value_of ys = values_same xs ys r s fit_x.1 fit_y.1 (tail _ _ _ _ wide) (back_same (bytes_of x) (bytes_of y) _ _ long parted) in
    ap (λ n. n ∷ map value_of xs) first ∙ ap (λ ns. value_of y ∷ ns) more

instr_known : (i j : Instr) (r s : List ℕ) → IsInRange i → IsInRange j → instr_bytes i ++ r ≡ instr_bytes j ++ s → i ≡ j
instr_known i j r s fit_i fit_j e =
    let op : opcode_of i ≡ opcode_of j = head _ _ _ _ e in
    same_instr i j op (values_same (operands_of i) (operands_of j) r s fit_i fit_j (alike i j op).2 (tail _ _ _ _ e))

-- ---- stages and slots

stage_of : (n m : List ℕ) (s t : ℕ) → n ≡ m → s ≡ t → let x : CodeStage = record { name = n; slot = s } in let y : CodeStage = record { name = m; slot = t } in x ≡ y
stage_of n m s t names slots = cc

stage_known : (x y : CodeStage) (r s : List ℕ) → IsStage x → IsStage y → stage_bytes x ++ r ≡ stage_bytes y ++ s → x ≡ y
stage_known x y r s word_x word_y e =
    let long : length x.name ≡ length y.name = head _ _ _ _ e in
    let parted : x.name ++ x.slot ∷ r ≡ y.name ++ y.slot ∷ s = sym (append_assoc x.name (x.slot ∷ []) r) ∙ tail _ _ _ _ e ∙ append_assoc y.name (y.slot ∷ []) s in
    stage_of x.name y.name x.slot y.slot (front_same x.name y.name _ _ long parted) (head _ _ _ _ (back_same x.name y.name _ _ long parted))

abbrev shape_at : ℕ → Shape
shape_at n = get_or SHAPES n shapes.One

shape_back : (x : Shape) → shape_at (shape_number x) ≡ x
shape_back shapes.One = refl
shape_back x = refl

shape_known : (x y : Shape) (r s : List ℕ) → IsAny x → IsAny y → shape_bytes x ++ r ≡ shape_bytes y ++ s → x ≡ y
shape_known x y r s any any' e = sym (shape_back x) ∙ ap shape_at (head _ _ _ _ e) ∙ shape_back y

-- ---- lists

elements_known : {X : Type 0} (f : X → List ℕ) (P : X → Type 0) (same : (x y : X) (r s : List ℕ) → f x ++ r ≡ f y ++ s → r ≡ s) (known : (x y : X) (r s : List ℕ) → P x → P y → f x ++ r ≡ f y ++ s → x ≡ y)
    (xs ys : List X) (r s : List ℕ) → length xs ≡ length ys → All P xs → All P ys → flat_map f xs ++ r ≡ flat_map f ys ++ s → (xs ≡ ys) × (r ≡ s)
elements_known f P same known [] [] r s long all_x all_y e = (refl, e)
elements_known f P same known [] (y ∷ ys) r s long all_x all_y e = absurd (omega (arith, long))
elements_known f P same known (x ∷ xs) [] r s long all_x all_y e = absurd (omega (arith, long))
elements_known f P same known (x ∷ xs) (y ∷ ys) r s long all_x all_y e =
    let parted : f x ++ (flat_map f xs ++ r) ≡ f y ++ (flat_map f ys ++ s) = sym (append_assoc (f x) (flat_map f xs) r) ∙ e ∙ append_assoc (f y) (flat_map f ys) s in
    let first : x ≡ y = known x y _ _ (All-head P x xs all_x) (All-head P y ys all_y) parted in
    let more : (xs ≡ ys) × (r ≡ s) = elements_known f P same known xs ys r s (omega (arith, long)) (All-tail P x xs all_x) (All-tail P y ys all_y) (same x y _ _ parted) in
    (ap (λ z. z ∷ xs) first ∙ ap (λ zs. y ∷ zs) more.0, more.1)

code_of : (i j : List Instr) (s t : List CodeStage) (l m : List Shape) → i ≡ j → s ≡ t → l ≡ m
    → let x : CountingCode = record { instrs = i; stages = s; slots = l } in let y : CountingCode = record { instrs = j; stages = t; slots = m } in x ≡ y
code_of i j s t l m instrs stages slots = cc

pub code_one : (a b : CountingCode) → IsProper a → IsProper b → spelling_of a ≡ spelling_of b → a ≡ b
code_one a b is_a is_b e =
    let behind_a : List ℕ = instrs_part a.instrs ++ [] in
    let behind_b : List ℕ = instrs_part b.instrs ++ [] in
    let opened : stages_part a.stages ++ (slots_part a.slots ++ behind_a) ≡ stages_part b.stages ++ (slots_part b.slots ++ behind_b) = back_same opening opening _ _ refl (sym (in_parts a) ∙ e ∙ in_parts b) in
    let stages : (a.stages ≡ b.stages) × (slots_part a.slots ++ behind_a ≡ slots_part b.slots ++ behind_b) = elements_known stage_bytes IsStage stage_same stage_known a.stages b.stages _ _ (head _ _ _ _ opened) is_a.words is_b.words (tail _ _ _ _ opened) in
    let spelled : (xs : List Shape) → map shape_number xs ≡ flat_map shape_bytes xs = λ xs. sym (flat_map_single shape_number xs) in
    let shapes_same : flat_map shape_bytes a.slots ++ behind_a ≡ flat_map shape_bytes b.slots ++ behind_b = ap (λ t. t ++ behind_a) (sym (spelled a.slots)) ∙ tail _ _ _ _ stages.1 ∙ ap (λ t. t ++ behind_b) (spelled b.slots) in
    let slots : (a.slots ≡ b.slots) × (behind_a ≡ behind_b) = elements_known shape_bytes IsAny shape_same shape_known a.slots b.slots behind_a behind_b (head _ _ _ _ stages.1) (all_any a.slots) (all_any b.slots) shapes_same in
    let counted : four_bytes (length a.instrs) ++ (flat_map instr_bytes a.instrs ++ []) ≡ four_bytes (length b.instrs) ++ (flat_map instr_bytes b.instrs ++ []) = sym (append_assoc (four_bytes (length a.instrs)) (flat_map instr_bytes a.instrs) []) ∙ slots.1 ∙ append_assoc (four_bytes (length b.instrs)) (flat_map instr_bytes b.instrs) [] in
    let number : (length a.instrs ≡ length b.instrs) × (flat_map instr_bytes a.instrs ++ [] ≡ flat_map instr_bytes b.instrs ++ []) = four_same (length a.instrs) (length b.instrs) _ _ (omega (arith, is_a.limits.instrs)) (omega (arith, is_b.limits.instrs)) counted in
    let instrs : (a.instrs ≡ b.instrs) × ([] ≡ []) = elements_known instr_bytes IsInRange instr_same instr_known a.instrs b.instrs [] [] number.0 is_a.in_range is_b.in_range number.1 in
    code_of a.instrs b.instrs a.stages b.stages a.slots b.slots instrs.0 stages.0 slots.0

pub reads_one : (c : CountingCode) (answer : Result CountingCode CodeFault) → IsProper c → IsReading (spelling_of c) answer
    → (answer ≡ Ok c) ⊎ (answer ≡ Err faults.NoMemory)
reads_one c (Ok d) is_c h = inl (ap Ok (code_one d c h.1 is_c (sym h.0)))
reads_one c (Err faults.NoMemory) is_c h = inr refl
reads_one c (Err fault) is_c h = absurd (spelling_none c fault is_c.limits is_c.words h)
