-- Bytes spell a code, or have a fault: each part stands, or fails.
use Rattle.std.proofs.Common.{◌≡◌, ◌≢◌, ℕ, zero, suc, Bool, ◌&&◌, List, [], ◌∷◌, ◌++◌, length, flat_map, Ok, Err, IsTrue, nat_lt, nat_le, ◌⊎◌, inl, inr, refl, sym, ap, subst, ◌∙◌, arith, append_assoc}
use Rattle.std.specs.List.{All, list_all}
use Rattle.std.proofs.lemmas.Bool.{and_parts, and_from, eqb-true, false≢true, leb-true}
use Rattle.std.proofs.lemmas.Bool.Decides.{leb_tells}
use Rattle.std.proofs.lemmas.List.Concat.{flat_map_single}
use Rattle.sl_base_quotients.specs.declared.spelling.TheConstants.{MAX_NAME_BYTES}
use Rattle.sl_base_terms.specs.declared.shape.TheConstants.{SHAPES}
use Rattle.sl_base_terms.specs.declared.shape.Shape.{Shape}
use Rattle.sl_base_terms.specs.declared.shape.Shape.TheVariants as shapes
use Rattle.sl_base_terms.specs.declared.limits.TheConstants.{MAX_STAGES}
use Rattle.sl_base_terms.specs.Shapes.{shape_number}
use Rattle.sl_base_terms.specs.Words.{is_letter, is_word}
use Rattle.sl_code_instructions.specs.declared.code.TheConstants.{MAX_SLOTS, MAX_INSTRS}
use Rattle.sl_code.specs.declared.fault.Cause.TheVariants as causes
use Rattle.sl_code.specs.declared.fault.Cause.{Cause}
use Rattle.sl_code.specs.declared.fault.CodeFault.{CodeFault}
use Rattle.sl_code.specs.declared.fault.CodeFault.TheVariants as faults
use Rattle.sl_code.specs.declared.fault.Refusal.TheVariants as refusals
use Rattle.sl_code.specs.declared.fault.Stop.{Stop}
use Rattle.sl_code_instructions.specs.declared.parts.Operand.TheVariants as o
use Rattle.sl_code_instructions.specs.Codes.{CountingCode}
use Rattle.sl_code_instructions.specs.Proper.{IsStage}
use Rattle.sl_code.specs.Faults.{FailsOpening, FailsCount, FailsLongCount, cut, above, FailsList, in_count, in_element, FailsStage, in_length, behind_length, FailsShape, FailsInstr, FailsInstrs, FailsFile, in_opening, IsAny, IsFault, shape_bytes, one_byte, letters, is_byte, is_at_most, is_name_length, is_name_byte, name_tests, fault_of, stop_at}
use Rattle.sl_code.specs.Laws.{IsByte, CodeOrFault}
use Rattle.sl_code.specs.Operands.{four_bytes, is_any, is_shape}
use Rattle.sl_code_instructions.specs.Proper.{IsInRange, IsProper}
use Rattle.sl_code.specs.Reading.{IsReading}
use Rattle.sl_code.specs.Spelling.{instr_bytes, stage_bytes, opening, stages_part, slots_part, instrs_part}
use Rattle.sl_code.proofs.Determined.{StandsList}
use Rattle.sl_code.proofs.FileFacts.{parts_whole}
use Rattle.sl_code.proofs.Passing.{Passes, Passed, PassOrFail, pass_or_fail, Parted, parted, one_passes, all_pass}
use Rattle.sl_code.proofs.Pieces.{all_any, cut_here, file_in_stages, file_in_slots, file_in_instrs, file_behind}
use Rattle.sl_code.proofs.Spelled.{SpellsLike, operand_spelled, number_found, instr_or_fault}
use Rattle.sl_code.proofs.Taking.{Taken, Counted, ListOrFault, list_or_fault}
use Rattle.sl_code.proofs.Values.{one_at}

abbrev wrong : List ℕ → Stop
wrong = stop_at causes.Op

-- a byte that passes stands in front of the rest
one_stands : (test : ℕ → Bool) (here : List ℕ) (p : Passed (test ∷ []) here) → (b : ℕ) × (here ≡ b ∷ p.rest) × IsTrue (test b)
one_stands test here p =
    let q : (b : ℕ) × (p.front ≡ b ∷ []) × IsTrue (test b) = one_passes test p.front p.passes in
    (q.0, p.stands ∙ ap (λ t. t ++ p.rest) q.1, q.2)

-- ---- the opening

abbrev letter_tests : List (ℕ → Bool)
letter_tests = is_byte 0x53 ∷ is_byte 0x4c ∷ is_byte 0x43 ∷ []

letters_are : (bytes : List ℕ) → Passes IsByte letter_tests bytes → bytes ≡ letters
letters_are [] p = absurd p
letters_are (a ∷ []) p = absurd p.2
letters_are (a ∷ b ∷ []) p = absurd p.2.2
letters_are (a ∷ b ∷ c ∷ []) p =
    let first : a ≡ 0x53 = eqb-true a 0x53 p.0 in
    let second : b ≡ 0x4c = eqb-true b 0x4c p.2.0 in
    let third : c ≡ 0x43 = eqb-true c 0x43 p.2.2.0 in
    cc
letters_are (a ∷ b ∷ c ∷ d ∷ bytes) p = absurd p.2.2.2

abbrev OpeningOrFault : List ℕ → Type 0
OpeningOrFault here = ((rest : List ℕ) × (here ≡ opening ++ rest) × All IsByte rest) ⊎ ((stop : Stop) × FailsOpening here stop)

behind_letters : (here : List ℕ) (p : Passed letter_tests here) → PassOrFail (stop_at causes.Version) (is_byte 1 ∷ []) p.rest → OpeningOrFault here
behind_letters here p (inr f) = inr (f.0, inr (p.rest, p.stands ∙ ap (λ t. t ++ p.rest) (letters_are p.front p.passes), f.1))
behind_letters here p (inl v) =
    let one : (b : ℕ) × (p.rest ≡ b ∷ v.rest) × IsTrue (is_byte 1 b) = one_stands (is_byte 1) p.rest v in
    let version : p.rest ≡ 1 ∷ v.rest = one.1 ∙ ap (λ b. b ∷ v.rest) (eqb-true one.0 1 one.2) in
    inl (v.rest, p.stands ∙ ap (λ t. t ++ p.rest) (letters_are p.front p.passes) ∙ ap (λ t. letters ++ t) version, v.are_bytes)

opening_or_fault : (here : List ℕ) → All IsByte here → OpeningOrFault here
opening_or_fault here are =
    elim (pass_or_fail (λ _. stop_at causes.Magic here) letter_tests here are) as (λ t. OpeningOrFault here) [
      | inl p ↦ behind_letters here p (pass_or_fail (stop_at causes.Version) (is_byte 1 ∷ []) p.rest p.are_bytes)
      | inr f ↦ inr (f.0, inl f.1)
    ]

-- ---- counts

count_or_fault : (most : ℕ) (here : List ℕ) → All IsByte here → Counted one_byte most here ⊎ ((stop : Stop) × FailsCount most here stop)
count_or_fault most here are =
    elim (pass_or_fail (stop_at causes.Limit) (is_at_most most ∷ []) here are) as (λ t. Counted one_byte most here ⊎ ((stop : Stop) × FailsCount most here stop)) [
      | inl p ↦
          let one : (b : ℕ) × (here ≡ b ∷ p.rest) × IsTrue (is_at_most most b) = one_stands (is_at_most most) here p in
          inl (record { number = one.0; few = leb-true one.0 most one.2; rest = p.rest; stands = one.1; are_bytes = p.are_bytes })
      | inr f ↦ inr f
    ]

abbrev LongCountOrFault : List ℕ → Type 0
LongCountOrFault here = Counted four_bytes MAX_INSTRS here ⊎ ((stop : Stop) × FailsLongCount MAX_INSTRS here stop)

long_count_or_fault : (here : List ℕ) → All IsByte here → LongCountOrFault here
long_count_or_fault here are =
    elim (pass_or_fail wrong (is_any ∷ is_any ∷ is_any ∷ is_any ∷ []) here are) as (λ t. LongCountOrFault here) [
      | inl p ↦
          let n : SpellsLike (o.Target 0) p.front = operand_spelled (o.Target 0) p.front p.passes in
          let stands : here ≡ four_bytes n.number ++ p.rest = p.stands ∙ ap (λ t. t ++ p.rest) (sym n.spelled) in
          elim (leb_tells n.number MAX_INSTRS) as (λ t. LongCountOrFault here) [
            | inl few ↦ inl (record { number = n.number; few = few.1; rest = p.rest; stands = stands; are_bytes = p.are_bytes })
            | inr many ↦ inr (stop_at causes.Limit here, above n.number p.rest stands n.fits many.1 refl)
          ]
      | inr f ↦ let short = cut_here here f.0 f.1 in inr (f.0, cut short.0 short.1)
    ]

-- ---- stages

named : (n : ℕ) (name : List ℕ) → IsTrue (is_name_length n) → Passes IsByte (name_tests n) name → (length name ≡ n) × IsTrue (is_word name)
named zero name ok p = absurd (false≢true ok)
named (suc n) [] ok p = absurd p
named (suc n) (b ∷ more) ok p =
    let all : (length more ≡ n) × IsTrue (list_all is_name_byte more) = all_pass n is_name_byte more p.2 in
    let long : suc (length more) ≡ suc n = ap suc all.0 in
    let fits : IsTrue (nat_le (suc (length more)) MAX_NAME_BYTES) = (and_parts (nat_lt 0 (suc (length more))) (nat_le (suc (length more)) MAX_NAME_BYTES) (subst (λ (k : ℕ). IsTrue (is_name_length k)) (sym long) ok)).1 in
    (long, and_from (is_letter b && list_all is_name_byte more) (nat_le (suc (length more)) MAX_NAME_BYTES) (and_from (is_letter b) (list_all is_name_byte more) p.0 all.1) fits)

abbrev StageOrFault : List ℕ → Type 0
StageOrFault here = Taken stage_bytes IsStage here ⊎ ((stop : Stop) × FailsStage here stop)

behind_name_length : (here : List ℕ) (n : ℕ) (rest : List ℕ) → here ≡ n ∷ rest → IsTrue (is_name_length n) → PassOrFail wrong (name_tests n ++ is_any ∷ []) rest → StageOrFault here
behind_name_length here n rest stands ok (inr f) = inr (f.0, behind_length n rest stands ok f.1)
behind_name_length here n rest stands ok (inl p) =
    let q : Parted (name_tests n) (is_any ∷ []) p.front = parted (name_tests n) (is_any ∷ []) p.front p.passes in
    let slot : (b : ℕ) × (q.back ≡ b ∷ []) × IsTrue (is_any b) = one_passes is_any q.back q.later in
    let name : (length q.front ≡ n) × IsTrue (is_word q.front) = named n q.front ok q.passes in
    let spelled : p.front ≡ q.front ++ slot.0 ∷ [] = q.whole ∙ ap (λ t. q.front ++ t) slot.1 in
    inl (record {
      element = record { name = q.front; slot = slot.0 };
      is = name.1;
      rest = p.rest;
      stands = stands ∙ ap (λ k. k ∷ rest) (sym name.0) ∙ ap (λ t. length q.front ∷ t) (p.stands ∙ ap (λ t. t ++ p.rest) spelled);
      are_bytes = p.are_bytes;
    })

stage_or_fault : (here : List ℕ) → All IsByte here → StageOrFault here
stage_or_fault here are =
    elim (pass_or_fail wrong (is_name_length ∷ []) here are) as (λ t. StageOrFault here) [
      | inl p ↦
          let one : (b : ℕ) × (here ≡ b ∷ p.rest) × IsTrue (is_name_length b) = one_stands is_name_length here p in
          behind_name_length here one.0 p.rest one.1 one.2 (pass_or_fail wrong (name_tests one.0 ++ is_any ∷ []) p.rest p.are_bytes)
      | inr f ↦ inr (f.0, in_length f.1)
    ]

-- ---- slots

shape_or_fault : (here : List ℕ) → All IsByte here → Taken shape_bytes IsAny here ⊎ ((stop : Stop) × FailsShape here stop)
shape_or_fault here are =
    elim (pass_or_fail wrong (is_shape ∷ []) here are) as (λ t. Taken shape_bytes IsAny here ⊎ ((stop : Stop) × FailsShape here stop)) [
      | inl p ↦
          let one : (b : ℕ) × (here ≡ b ∷ p.rest) × IsTrue (is_shape b) = one_stands is_shape here p in
          let shape : Shape = one_at shape_number SHAPES shapes.One one.0 in
          let known : shape_number shape ≡ one.0 = number_found shape_number SHAPES shapes.One one.0 one.2 in
          inl (record { element = shape; is = tt; rest = p.rest; stands = one.1 ∙ ap (λ n. n ∷ p.rest) (sym known); are_bytes = p.are_bytes })
      | inr f ↦ inr f
    ]

-- ---- the lists

abbrev StagesOrFault : List ℕ → Type 0
StagesOrFault = ListOrFault stage_bytes IsStage FailsStage stage_or_fault one_byte FailsCount MAX_STAGES (count_or_fault MAX_STAGES)

abbrev SlotsOrFault : List ℕ → Type 0
SlotsOrFault = ListOrFault shape_bytes IsAny FailsShape shape_or_fault one_byte FailsCount MAX_SLOTS (count_or_fault MAX_SLOTS)

abbrev InstrsOrFault : List ℕ → Type 0
InstrsOrFault = ListOrFault instr_bytes IsInRange FailsInstr instr_or_fault four_bytes FailsLongCount MAX_INSTRS long_count_or_fault

-- instructions that fail do so whatever the range of those before
any_instrs : (here : List ℕ) (stop : Stop) → FailsList four_bytes FailsLongCount MAX_INSTRS instr_bytes IsInRange FailsInstr here stop → FailsInstrs here stop
any_instrs here stop (in_count f) = in_count f
any_instrs here stop (in_element n rest stands few f) =
    in_element n rest stands few (record { before = f.before; are = all_any f.before; rest = f.rest; fewer = f.fewer; stand = f.stand; fails = f.fails })

-- ---- the file

abbrev FileOrFault : List ℕ → Type 0
FileOrFault bytes = ((c : CountingCode) × IsReading bytes (Ok c)) ⊎ ((stop : Stop) × FailsFile bytes stop)

module _ (bytes a : List ℕ) (opened : bytes ≡ opening ++ a) (b : List ℕ) (stages : StandsList one_byte MAX_STAGES stage_bytes IsStage a b) where
  abbrev stages_are : a ≡ stages_part stages.elements ++ b
  stages_are = stages.stand

  module _ (d : List ℕ) (slots : StandsList one_byte MAX_SLOTS shape_bytes IsAny b d) where
    slots_are : b ≡ slots_part slots.elements ++ d
    slots_are = slots.stand ∙ ap (λ t. length slots.elements ∷ t ++ d) (flat_map_single shape_number slots.elements)

    module _ (e : List ℕ) (instrs : StandsList four_bytes MAX_INSTRS instr_bytes IsInRange d e) where
      instrs_are : d ≡ instrs_part instrs.elements ++ e
      instrs_are = instrs.stand ∙ sym (append_assoc (four_bytes (length instrs.elements)) (flat_map instr_bytes instrs.elements) e)

      abbrev code : CountingCode
      code = record { instrs = instrs.elements; stages = stages.elements; slots = slots.elements }

      proper : IsProper code
      proper = record { limits = record { instrs = instrs.few; stages = stages.few; slots = slots.few }; words = stages.are; in_range = instrs.are }

      ended : (left : List ℕ) → e ≡ left → FileOrFault bytes
      ended [] none = inl (code, (parts_whole code bytes a b d e opened stages_are slots_are instrs_are (omega (arith, ap length none)), proper))
      ended (x ∷ left) some =
          inr (stop_at causes.Trailing e, file_behind bytes a b d stages.elements slots.elements instrs.elements e (stop_at causes.Trailing e) opened stages_are stages.few stages.are slots_are slots.few instrs_are instrs.few (omega (arith, ap length some)) refl)

    behind_slots : InstrsOrFault d → FileOrFault bytes
    behind_slots (inl i) = ended i.0 i.1 i.0 refl
    behind_slots (inr f) =
        inr (f.0, file_in_instrs bytes a b d stages.elements slots.elements (refusals.Stop f.0) opened stages_are stages.few stages.are slots_are slots.few (any_instrs d f.0 f.1))

  behind_stages : SlotsOrFault b → FileOrFault bytes
  behind_stages (inl s) =
      behind_slots s.0 s.1 (list_or_fault instr_bytes IsInRange FailsInstr instr_or_fault four_bytes FailsLongCount MAX_INSTRS long_count_or_fault s.0 s.2)
  behind_stages (inr f) = inr (f.0, file_in_slots bytes a b [] stages.elements [] (refusals.Stop f.0) opened stages_are stages.few stages.are f.1)

behind_opening : (bytes a : List ℕ) → bytes ≡ opening ++ a → StagesOrFault a → FileOrFault bytes
behind_opening bytes a opened (inl s) =
    behind_stages bytes a opened s.0 s.1 (list_or_fault shape_bytes IsAny FailsShape shape_or_fault one_byte FailsCount MAX_SLOTS (count_or_fault MAX_SLOTS) s.0 s.2)
behind_opening bytes a opened (inr f) = inr (f.0, file_in_stages bytes a [] [] [] [] (refusals.Stop f.0) opened f.1)

file_or_fault : (bytes : List ℕ) → All IsByte bytes → FileOrFault bytes
file_or_fault bytes are =
    elim (opening_or_fault bytes are) as (λ t. FileOrFault bytes) [
      | inl a ↦ behind_opening bytes a.0 a.1 (list_or_fault stage_bytes IsStage FailsStage stage_or_fault one_byte FailsCount MAX_STAGES (count_or_fault MAX_STAGES) a.0 a.2)
      | inr f ↦ inr (f.0, in_opening f.1)
    ]

no_memory : (total : ℕ) (cause : Cause) (left : ℕ) → faults.NoMemory ≡ fault_of total cause left → ⊥
no_memory total causes.Magic left e = cc
no_memory total cause left e = cc

told : (bytes : List ℕ) (fault : CodeFault) → IsFault bytes fault → IsReading bytes (Err fault) × (fault ≢ faults.NoMemory)
told bytes faults.NoMemory h = absurd (no_memory (length bytes) h.0.cause h.0.left h.2)
told bytes (faults.Magic at) h = (h, λ e. cc)
told bytes fault h = (h, λ e. cc)

pub code_or_fault : CodeOrFault
code_or_fault bytes are =
    elim (file_or_fault bytes are) as (λ t. ((c : CountingCode) × IsReading bytes (Ok c)) ⊎ ((fault : CodeFault) × IsReading bytes (Err fault) × (fault ≢ faults.NoMemory))) [
      | inl read ↦ inl read
      | inr f ↦
          let fault : CodeFault = fault_of (length bytes) f.0.cause f.0.left in
          let is = told bytes fault (f.0, f.1, refl) in
          inr (fault, is.0, is.1)
    ]
