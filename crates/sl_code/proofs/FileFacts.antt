-- A file stands or fails in one way alone.
use Rattle.std.proofs.Common.{◌≡◌, ℕ, ◌<◌, ◌≤◌, ◌^◌, Bool, List, [], ◌∷◌, ◌++◌, length, map, flat_map, IsTrue, inl, inr, refl, sym, ap, subst, ◌∙◌, arith, rules, tests, append-nil, append_assoc}
use Rattle.std.specs.Int.{w32, from_le_bytes}
use Rattle.std.specs.List.{All}
use Rattle.std.proofs.lemmas.Nat.{from_le_bytes-to_le_bytes_4}
use Rattle.std.proofs.lemmas.List.Concat.{flat_map_single}
use Rattle.sl_base_terms.specs.declared.limits.TheConstants.{MAX_STAGES}
use Rattle.sl_base_terms.specs.declared.shape.Shape.{Shape}
use Rattle.sl_code_instructions.specs.declared.code.TheConstants.{MAX_SLOTS, MAX_INSTRS}
use Rattle.sl_code_instructions.specs.declared.code.CodeStage.{CodeStage}
use Rattle.sl_code.specs.declared.fault.Cause.TheVariants as causes
use Rattle.sl_code.specs.declared.fault.CodeFault.{CodeFault}
use Rattle.sl_code.specs.declared.fault.Stop.{Stop}
use Rattle.sl_code_instructions.specs.declared.instr.Instr.{Instr}
use Rattle.sl_code_instructions.specs.Codes.{CountingCode, IsCode}
use Rattle.sl_base_terms.specs.Shapes.{shape_number}
use Rattle.sl_code.specs.Operands.{four_bytes}
use Rattle.sl_code.specs.Spelling.{instr_bytes, stage_bytes, opening, stages_part, slots_part, instrs_part, spelling_of}
use Rattle.sl_code_instructions.specs.Proper.{IsStage}
use Rattle.sl_code.specs.Faults.{FailsTests, FailsOpening, FailsCount, FailsLongCount, cut, above, FailsStage, FailsStages, FailsShape, FailsSlots, FailsInstr, FailsInstrs, FailsFile, in_opening, in_stages, in_slots, in_instrs, behind, IsAny, IsFault, fault_of, shape_bytes, one_byte, letters, is_byte, is_at_most, stop_at}
use Rattle.sl_code.proofs.Determined.{OneWay, tests_one, StandsList, list_way, Both, Sequence, sequence}
use Rattle.sl_code.proofs.Fronts.{head, tail, front_same, back_same}
use Rattle.sl_code.proofs.InstrFacts.{instr_same, instr_none, instr_one}
use Rattle.sl_code.proofs.Passing.{Passes, none_fails}
use Rattle.sl_code.proofs.Pieces.{all_any}
use Rattle.sl_code.proofs.StageFacts.{shape_same, shape_none, shape_one, stage_same, stage_none, stage_one}

-- ---- the opening

module _ (tests : List (ℕ → Bool)) (word : List ℕ) (passes : Passes IsAny tests word) (wrong : List ℕ → List ℕ → Stop) where
  word_none : (here r : List ℕ) (stop : Stop) → here ≡ word ++ r → FailsTests (wrong here) tests here stop → ⊥
  word_none here r stop stands failing =
      none_fails (wrong here) tests word r stop passes (subst (λ (h : List ℕ). FailsTests (wrong here) tests h stop) stands failing)

  -- a word that is known
  word_way : OneWay (λ here r. here ≡ word ++ r) (λ here stop. FailsTests (wrong here) tests here stop)
  word_way = record {
    same = λ here r s a b. back_same word word r s refl (sym a ∙ b);
    none = word_none;
    one = λ here a b f g. tests_one (wrong here) tests here a b f g;
  }

abbrev StandsOpening : List ℕ → List ℕ → Type 0
StandsOpening = Both (λ here r. here ≡ letters ++ r) (λ here r. here ≡ one_byte 1 ++ r)

opening_way : OneWay StandsOpening FailsOpening
opening_way =
    sequence (word_way (is_byte 0x53 ∷ is_byte 0x4c ∷ is_byte 0x43 ∷ []) letters (refl, tt, (refl, tt, (refl, tt, tt))) (λ here more. stop_at causes.Magic here)) (word_way (is_byte 1 ∷ []) (one_byte 1) (refl, tt, tt) (λ here. stop_at causes.Version))

-- ---- counts

byte_same : (most n m : ℕ) (r s : List ℕ) → n ≤ most → m ≤ most → one_byte n ++ r ≡ one_byte m ++ s → (n ≡ m) × (r ≡ s)
byte_same most n m r s few few' e = (head _ _ _ _ e, tail _ _ _ _ e)

is_few : (n most : ℕ) → n ≤ most → IsTrue (is_at_most most n)
is_few n most few = search (rules, tests)

byte_none : (most n : ℕ) (r : List ℕ) (stop : Stop) → n ≤ most → FailsCount most (one_byte n ++ r) stop → ⊥
byte_none most n r stop few failing =
    none_fails (stop_at causes.Limit) (is_at_most most ∷ []) (n ∷ []) r stop ((is_few n most few), tt, tt) failing

byte_one : (most : ℕ) (here : List ℕ) (a b : Stop) → FailsCount most here a → FailsCount most here b → a ≡ b
byte_one most here a b f g = tests_one (stop_at causes.Limit) (is_at_most most ∷ []) here a b f g

four_long : (n m : ℕ) → length (four_bytes n) ≡ length (four_bytes m)
unfolding four_bytes
four_long n m = refl

four_enough : (n : ℕ) (r : List ℕ) → length (four_bytes n ++ r) < 4 → ⊥
unfolding four_bytes
four_enough n r short = omega (arith, short)

four_injective : (n m : ℕ) → n < 2 ^ 32 → m < 2 ^ 32 → four_bytes n ≡ four_bytes m → n ≡ m
unfolding four_bytes
four_injective n m small small' e =
    sym (from_le_bytes-to_le_bytes_4 n small) ∙ ap (from_le_bytes w32) e ∙ from_le_bytes-to_le_bytes_4 m small'

pub four_same : (n m : ℕ) (r s : List ℕ) → n < 2 ^ 32 → m < 2 ^ 32 → four_bytes n ++ r ≡ four_bytes m ++ s → (n ≡ m) × (r ≡ s)
four_same n m r s small small' e =
    (four_injective n m small small' (front_same (four_bytes n) (four_bytes m) r s (four_long n m) e), back_same (four_bytes n) (four_bytes m) r s (four_long n m) e)

long_same : (n m : ℕ) (r s : List ℕ) → n ≤ MAX_INSTRS → m ≤ MAX_INSTRS → four_bytes n ++ r ≡ four_bytes m ++ s → (n ≡ m) × (r ≡ s)
long_same n m r s few few' = four_same n m r s (omega (arith, few)) (omega (arith, few'))

long_none : (n : ℕ) (r : List ℕ) (stop : Stop) → n ≤ MAX_INSTRS → FailsLongCount MAX_INSTRS (four_bytes n ++ r) stop → ⊥
long_none n r stop few (cut short is) = four_enough n r short
long_none n r stop few (above m rest stands fits greater is) =
    let same : (n ≡ m) × (r ≡ rest) = four_same n m r rest (omega (arith, few)) fits stands in
    omega (arith, same.0, few, greater)

long_one : (here : List ℕ) (a b : Stop) → FailsLongCount MAX_INSTRS here a → FailsLongCount MAX_INSTRS here b → a ≡ b
long_one here a b (cut short is) (cut short' is') = is ∙ sym is'
long_one here a b (cut short is) (above m rest stands fits greater is') =
    absurd (four_enough m rest (subst (λ (h : List ℕ). length h < 4) stands short))
long_one here a b (above m rest stands fits greater is) (cut short is') =
    absurd (four_enough m rest (subst (λ (h : List ℕ). length h < 4) stands short))
long_one here a b (above m rest stands fits greater is) (above m' rest' stands' fits' greater' is') = is ∙ sym is'

-- ---- lists

abbrev StandsStages : List ℕ → List ℕ → Type 0
StandsStages = StandsList one_byte MAX_STAGES stage_bytes IsStage

abbrev StandsSlots : List ℕ → List ℕ → Type 0
StandsSlots = StandsList one_byte MAX_SLOTS shape_bytes IsAny

abbrev StandsInstrs : List ℕ → List ℕ → Type 0
StandsInstrs = StandsList four_bytes MAX_INSTRS instr_bytes IsAny

stages_way : OneWay StandsStages FailsStages
stages_way =
    list_way one_byte FailsCount MAX_STAGES stage_bytes IsStage FailsStage (byte_same MAX_STAGES) (byte_none MAX_STAGES) (byte_one MAX_STAGES) stage_same stage_none stage_one

slots_way : OneWay StandsSlots FailsSlots
slots_way =
    list_way one_byte FailsCount MAX_SLOTS shape_bytes IsAny FailsShape (byte_same MAX_SLOTS) (byte_none MAX_SLOTS) (byte_one MAX_SLOTS) shape_same shape_none shape_one

instrs_way : OneWay StandsInstrs FailsInstrs
instrs_way = list_way four_bytes FailsLongCount MAX_INSTRS instr_bytes IsAny FailsInstr long_same long_none long_one instr_same instr_none instr_one

stages_stand : (stages : List CodeStage) (rest : List ℕ) → All IsStage stages → length stages ≤ MAX_STAGES → StandsStages (stages_part stages ++ rest) rest
stages_stand stages rest are few = record { elements = stages; are = are; few = few; stand = refl }

slots_stand : (slots : List Shape) (rest : List ℕ) → length slots ≤ MAX_SLOTS → StandsSlots (slots_part slots ++ rest) rest
slots_stand slots rest few =
    let spelled : map shape_number slots ≡ flat_map shape_bytes slots = sym (flat_map_single shape_number slots) in
    record { elements = slots; are = all_any slots; few = few; stand = ap (λ t. length slots ∷ t ++ rest) spelled }

instrs_stand : (instrs : List Instr) (rest : List ℕ) → length instrs ≤ MAX_INSTRS → StandsInstrs (instrs_part instrs ++ rest) rest
instrs_stand instrs rest few =
    record { elements = instrs; are = all_any instrs; few = few; stand = append_assoc (four_bytes (length instrs)) (flat_map instr_bytes instrs) rest }

-- ---- files

-- nothing stands after a code
abbrev StandsEnd : List ℕ → List ℕ → Type 0
StandsEnd here rest = (here ≡ []) × (rest ≡ [])

abbrev FailsEnd : List ℕ → Stop → Type 0
FailsEnd here stop = (0 < length here) × (stop ≡ stop_at causes.Trailing here)

end_way : OneWay StandsEnd FailsEnd
end_way = record {
  same = λ here r s a b. a.1 ∙ sym b.1;
  none = λ here r stop a f. omega (arith, ap length a.0, f.0);
  one = λ here a b f g. f.1 ∙ sym g.1;
}

abbrev StandsFile : List ℕ → List ℕ → Type 0
StandsFile = Both StandsOpening (Both StandsStages (Both StandsSlots (Both StandsInstrs StandsEnd)))

abbrev InSequence : List ℕ → Stop → Type 0
InSequence =
    Sequence StandsOpening FailsOpening (Sequence StandsStages FailsStages (Sequence StandsSlots FailsSlots (Sequence StandsInstrs FailsInstrs FailsEnd)))

file_way : OneWay StandsFile InSequence
file_way = sequence opening_way (sequence stages_way (sequence slots_way (sequence instrs_way end_way)))

module _ (stages : List CodeStage) (slots : List Shape) (rest : List ℕ) where
  nested : (opening ++ stages_part stages ++ slots_part slots) ++ rest ≡ opening ++ (stages_part stages ++ (slots_part slots ++ rest))
  nested =
      append_assoc (opening ++ stages_part stages) (slots_part slots) rest ∙ append_assoc opening (stages_part stages) (slots_part slots ++ rest)

opened : (bytes rest : List ℕ) → bytes ≡ opening ++ rest → StandsOpening bytes rest
opened bytes rest stands = (1 ∷ rest, stands, refl)

in_sequence : (bytes : List ℕ) (stop : Stop) → FailsFile bytes stop → InSequence bytes stop
in_sequence bytes stop (in_opening failing) = inl failing
in_sequence bytes stop (in_stages rest stands failing) = inr (rest, opened bytes rest stands, inl failing)
in_sequence bytes stop (in_slots stages rest are few stands failing) =
    inr (stages_part stages ++ rest, opened bytes _ (stands ∙ append_assoc opening (stages_part stages) rest), inr (rest, stages_stand stages rest are few, inl failing))
in_sequence bytes stop (in_instrs stages slots rest are few small stands failing) =
    inr (stages_part stages ++ (slots_part slots ++ rest), opened bytes _ (stands ∙ nested stages slots rest), inr (slots_part slots ++ rest, stages_stand stages (slots_part slots ++ rest) are few, inr (rest, slots_stand slots rest small, inl failing)))
in_sequence bytes stop (behind c rest is_code are stands some is) =
    let back : List ℕ = instrs_part c.instrs ++ rest in
    let there : bytes ≡ opening ++ (stages_part c.stages ++ (slots_part c.slots ++ back)) = stands ∙ append_assoc (opening ++ stages_part c.stages ++ slots_part c.slots) (instrs_part c.instrs) rest ∙ nested c.stages c.slots back in
    inr (stages_part c.stages ++ (slots_part c.slots ++ back), opened bytes _ there, inr (slots_part c.slots ++ back, stages_stand c.stages (slots_part c.slots ++ back) are is_code.stages, inr (back, slots_stand c.slots back is_code.slots, inr (rest, instrs_stand c.instrs rest is_code.instrs, (some, is)))))

pub fault_one : (bytes : List ℕ) (a b : CodeFault) → IsFault bytes a → IsFault bytes b → a ≡ b
fault_one bytes a b f g =
    let stops : f.0 ≡ g.0 = file_way.one bytes f.0 g.0 (in_sequence bytes f.0 f.1) (in_sequence bytes g.0 g.1) in
    f.2 ∙ ap (λ (s : Stop). fault_of (length bytes) s.cause s.left) stops ∙ sym g.2

pub in_parts : (c : CountingCode) → spelling_of c ≡ opening ++ (stages_part c.stages ++ (slots_part c.slots ++ (instrs_part c.instrs ++ [])))
in_parts c =
    sym (append-nil (spelling_of c)) ∙ append_assoc (opening ++ stages_part c.stages ++ slots_part c.slots) (instrs_part c.instrs) [] ∙ nested c.stages c.slots (instrs_part c.instrs ++ [])

-- nothing is left after the parts
pub parts_whole : (c : CountingCode) (bytes a b d rest : List ℕ) → bytes ≡ opening ++ a → a ≡ stages_part c.stages ++ b → b ≡ slots_part c.slots ++ d → d ≡ instrs_part c.instrs ++ rest → length rest ≤ 0 → bytes ≡ spelling_of c
parts_whole c bytes a b d [] opened staged slotted coded none =
    opened ∙ ap (λ t. opening ++ t) (staged ∙ ap (λ t. stages_part c.stages ++ t) (slotted ∙ ap (λ t. slots_part c.slots ++ t) coded)) ∙ sym (in_parts c)
parts_whole c bytes a b d (x ∷ rest) opened staged slotted coded none = absurd (omega (arith, none))

pub spelling_none : (c : CountingCode) (fault : CodeFault) → IsCode c → All IsStage c.stages → IsFault (spelling_of c) fault → ⊥
spelling_none c fault is_code are f =
    let back : List ℕ = instrs_part c.instrs ++ [] in
    let stands : StandsFile (spelling_of c) [] = (stages_part c.stages ++ (slots_part c.slots ++ back), opened _ _ (in_parts c), (slots_part c.slots ++ back, stages_stand c.stages (slots_part c.slots ++ back) are is_code.stages, (back, slots_stand c.slots back is_code.slots, ([], instrs_stand c.instrs [] is_code.instrs, (refl, refl))))) in
    file_way.none (spelling_of c) [] f.0 stands (in_sequence (spelling_of c) f.0 f.1)
