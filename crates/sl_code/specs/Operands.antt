-- The bytes of an operand, and which bytes may stand in it (docs/code.md, section 2).
use Rattle.std.specs.Prelude.{ℕ, Bool, true, List, [], ◌∷◌, nat_eq, nat_lt}
use Rattle.std.specs.List.{list_any}
use Rattle.std.specs.Int.{w16, w32, w64, to_le_bytes}
use Rattle.sl_base_quotients.specs.declared.method.TheConstants.{DIVISORS}
use Rattle.sl_base_terms.specs.declared.shape.TheConstants.{SHAPES}
use Rattle.sl_base_terms.specs.Shapes.{shape_number}
use Rattle.sl_code_instructions.specs.declared.operand.TheConstants.{ENTRY_KINDS, RANKINGS, SCOPE_KINDS, INPUTS, END_FAULTS, ROUNDINGS}
use Rattle.sl_code_instructions.specs.declared.parts.Operand.{Operand}
use Rattle.sl_code_instructions.specs.declared.parts.Operand.TheVariants as o
use Rattle.sl_base_quotients.specs.Quotient.{method_number}
use Rattle.sl_code_instructions.specs.Numbers.{value_of, scope_number, entries_number, ranking_number, input_number, rounding_number, fault_number}

-- a number in 2, 4 or 8 bytes, least first
unfoldable pub two_bytes : ℕ → List ℕ
two_bytes n = to_le_bytes w16 n

unfoldable pub four_bytes : ℕ → List ℕ
four_bytes n = to_le_bytes w32 n

unfoldable pub eight_bytes : ℕ → List ℕ
eight_bytes n = to_le_bytes w64 n

-- the bytes of an operand: 4 of a target, 8 of a value, 2 of a set of registers, and 1 of any other
abbrev pub bytes_of : Operand → List ℕ
bytes_of (o.Target t) = four_bytes t
bytes_of (o.Value x) = eight_bytes x
bytes_of (o.Positive registers) = two_bytes registers.mask
bytes_of operand = value_of operand ∷ []

-- ---- which bytes may stand in an operand

abbrev pub is_any : ℕ → Bool
is_any b = true

abbrev pub is_below : ℕ → ℕ → Bool
is_below n b = nat_lt b n

-- the number of one of xs
abbrev pub is_number : {A : Type 0} → (A → ℕ) → List A → ℕ → Bool
is_number number xs b = list_any (λ x. nat_eq (number x) b) xs

abbrev pub is_scope : ℕ → Bool
is_scope = is_number scope_number SCOPE_KINDS

abbrev pub is_entries : ℕ → Bool
is_entries = is_number entries_number ENTRY_KINDS

abbrev pub is_ranking : ℕ → Bool
is_ranking = is_number ranking_number RANKINGS

abbrev pub is_input : ℕ → Bool
is_input = is_number input_number INPUTS

abbrev pub is_method : ℕ → Bool
is_method = is_number method_number DIVISORS

abbrev pub is_rounding : ℕ → Bool
is_rounding = is_number rounding_number ROUNDINGS

abbrev pub is_end_fault : ℕ → Bool
is_end_fault = is_number fault_number END_FAULTS

abbrev pub is_shape : ℕ → Bool
is_shape = is_number shape_number SHAPES

-- for each byte of an operand like this one, whatever its value, what may stand there
abbrev pub tests_of : Operand → List (ℕ → Bool)
tests_of (o.Register r) = is_any ∷ []
tests_of (o.Slot k) = is_any ∷ []
tests_of (o.Stage n) = is_any ∷ []
tests_of (o.Target t) = is_any ∷ is_any ∷ is_any ∷ is_any ∷ []
tests_of (o.Value x) = is_any ∷ is_any ∷ is_any ∷ is_any ∷ is_any ∷ is_any ∷ is_any ∷ is_any ∷ []
tests_of (o.Scope c) = is_scope ∷ []
tests_of (o.Entries e) = is_entries ∷ []
tests_of (o.Ranking ranking) = is_ranking ∷ []
tests_of (o.Input i) = is_input ∷ []
tests_of (o.Method m) = is_method ∷ []
tests_of (o.Rounding m) = is_rounding ∷ []
tests_of (o.Fault f) = is_end_fault ∷ []
tests_of (o.Positive registers) = is_any ∷ is_any ∷ []
tests_of (o.Cursors c) = is_below 8 ∷ []
tests_of (o.Table t) = is_below 17 ∷ []
