-- Parts of a file: where they stand, and where they fail.
use Rattle.std.proofs.Common.{◌≡◌, ℕ, ◌<◌, ◌≤◌, ◌^◌, List, [], ◌∷◌, ◌++◌, length, flat_map, append-nil, Result, sym, ap, ◌∙◌, arith, append_assoc}
use Rattle.std.specs.Result.{IfErr}
use Rattle.std.specs.List.{All}
use Rattle.std.proofs.lemmas.List.Concat.{flat_map-append}
use Rattle.std.proofs.lemmas.Result.{IfErr-weaker}
use Rattle.sl_base_terms.specs.declared.limits.TheConstants.{MAX_STAGES}
use Rattle.sl_base_terms.specs.declared.shape.Shape.{Shape}
use Rattle.sl_code_instructions.specs.declared.code.TheConstants.{MAX_SLOTS, MAX_INSTRS}
use Rattle.sl_code_instructions.specs.declared.code.CodeStage.{CodeStage}
use Rattle.sl_code.specs.declared.fault.Cause.TheVariants as causes
use Rattle.sl_code.specs.declared.fault.Refusal.{Refusal}
use Rattle.sl_code.specs.declared.fault.Refusal.TheVariants as refusals
use Rattle.sl_code.specs.declared.fault.Stop.{Stop}
use Rattle.sl_code_instructions.specs.declared.instr.Instr.{Instr}
use Rattle.sl_code_instructions.specs.Codes.{CountingCode}
use Rattle.sl_code.specs.Operands.{is_any, four_bytes}
use Rattle.sl_code.specs.Spelling.{opening, stages_part, slots_part, instrs_part, spelling_of}
use Rattle.sl_code_instructions.specs.Proper.{IsStage}
use Rattle.sl_code.specs.Faults.{FailsTests, FailsLongCount, cut, above, FailsElement, FailsList, in_element, FailsStages, FailsSlots, FailsInstrs, FailsFile, in_stages, in_slots, in_instrs, behind, IsAny, stop_at}
use Rattle.sl_code.specs.Reading.{FailsAhead, Refuses}

pub refuses_weaker : {X : Type 0} (r : Result X Refusal) (P Q : Stop → Type 0) → ((stop : Stop) → P stop → Q stop) → IfErr r (Refuses P) → IfErr r (Refuses Q)
refuses_weaker r P Q f = IfErr-weaker r (Refuses P) (Refuses Q) (λ e h. elim e as (λ e. Refuses P e → Refuses Q e) [ refusals.Stop stop ↦ f stop | refusals.NoMemory ↦ λ _. tt ] h)

pub all_any : {X : Type 0} (xs : List X) → All IsAny xs
all_any xs = λ i d within. tt

-- one more element stands
pub element_stands : {X : Type 0} (f : X → List ℕ) (here now next : List ℕ) (xs ys : List X) (x : X) → here ≡ flat_map f xs ++ now → now ≡ f x ++ next → ys ≡ xs ++ x ∷ [] → here ≡ flat_map f ys ++ next
element_stands f here now next xs ys x stand one more =
    stand ∙ ap (λ t. flat_map f xs ++ t) one ∙ sym (append_assoc (flat_map f xs) (f x) next)
    ∙ ap (λ t. t ++ next) (ap (λ t. flat_map f xs ++ t) (sym (append-nil (f x))) ∙ sym (flat_map-append f xs (x ∷ [])) ∙ ap (flat_map f) (sym more))

pub element_stops : {X : Type 0} (f : X → List ℕ) (Is : X → Type 0) (Fails : List ℕ → Stop → Type 0) (n : ℕ) (here now : List ℕ) (xs : List X) (stop : Stop)
    → here ≡ flat_map f xs ++ now → length xs < n → All Is xs → Fails now stop → FailsElement f Is Fails n here stop
element_stops f Is Fails n here now xs stop stand fewer are failing =
    record { before = xs; are = are; rest = now; fewer = fewer; stand = stand; fails = failing }

refuse : (e : Refusal) (P Q : Stop → Type 0) → ((stop : Stop) → P stop → Q stop) → Refuses P e → Refuses Q e
refuse (refusals.Stop stop) P Q f = f stop
refuse refusals.NoMemory P Q f = λ _. tt

pub refuse_element : {X : Type 0} (f : X → List ℕ) (Is : X → Type 0) (Fails : List ℕ → Stop → Type 0) (n : ℕ) (here now : List ℕ) (xs : List X) (e : Refusal)
    → here ≡ flat_map f xs ++ now → length xs < n → All Is xs → Refuses (Fails now) e → Refuses (FailsElement f Is Fails n here) e
refuse_element f Is Fails n here now xs e stand fewer are =
    refuse e (Fails now) (FailsElement f Is Fails n here) (λ stop failing. element_stops f Is Fails n here now xs stop stand fewer are failing)

-- ---- counts

pub cut_here : (here : List ℕ) (stop : Stop) → FailsTests (stop_at causes.Op) (is_any ∷ is_any ∷ is_any ∷ is_any ∷ []) here stop → (length here < 4) × (stop ≡ stop_at causes.Short [])
cut_here [] stop failing = (omega arith, failing.fails)
cut_here (a ∷ []) stop failing = (omega arith, failing.fails)
cut_here (a ∷ b ∷ []) stop failing = (omega arith, failing.fails)
cut_here (a ∷ b ∷ c ∷ []) stop failing = (omega arith, failing.fails)
cut_here (a ∷ b ∷ c ∷ d ∷ rest) stop failing = absurd failing.fails

pub count_cut : (most : ℕ) (here : List ℕ) (stop : Stop) → FailsAhead (is_any ∷ is_any ∷ is_any ∷ is_any ∷ []) here stop → FailsLongCount most here stop
count_cut most here stop failing = let known = cut_here here stop (failing.fails []) in cut known.0 known.1

pub count_above : (most n : ℕ) (here rest : List ℕ) (stop : Stop) → here ≡ four_bytes n ++ rest → most < n → n < 2 ^ 32 → stop ≡ stop_at causes.Limit here → FailsLongCount most here stop
count_above most n here rest stop here_is greater fits is = above n rest here_is fits greater is

-- ---- lists

pub list_stops : {X Y : Type 0} (count_bytes : ℕ → List ℕ) (FailsCounting : ℕ → List ℕ → Stop → Type 0) (most : ℕ) (f : X → List ℕ) (Is : X → Type 0) (Fails : List ℕ → Stop → Type 0) (r : Result Y Refusal) (n : ℕ) (old here : List ℕ)
    → old ≡ count_bytes n ++ here → n ≤ most → IfErr r (Refuses (FailsElement f Is Fails n here)) → IfErr r (Refuses (FailsList count_bytes FailsCounting most f Is Fails old))
list_stops count_bytes FailsCounting most f Is Fails r n old here old_is few = refuses_weaker r _ _ (λ stop failing. in_element n here old_is few failing)

-- ---- files

pub join : (bytes x y a b : List ℕ) → bytes ≡ x ++ a → a ≡ y ++ b → bytes ≡ (x ++ y) ++ b
join bytes x y a b first second = first ∙ ap (λ t. x ++ t) second ∙ sym (append_assoc x y b)

module _ (bytes a b d : List ℕ) (stages : List CodeStage) (slots : List Shape) where
  pub file_in_stages : (e : Refusal) → bytes ≡ opening ++ a → Refuses (FailsStages a) e → Refuses (FailsFile bytes) e
  file_in_stages e opened = refuse e _ _ (λ stop failing. in_stages a opened failing)

  pub file_in_slots : (e : Refusal) → bytes ≡ opening ++ a → a ≡ stages_part stages ++ b → length stages ≤ MAX_STAGES → All IsStage stages → Refuses (FailsSlots b) e → Refuses (FailsFile bytes) e
  file_in_slots e opened staged few are =
      refuse e _ _ (λ stop failing. in_slots stages b are few (join bytes opening (stages_part stages) a b opened staged) failing)

  behind_slots : bytes ≡ opening ++ a → a ≡ stages_part stages ++ b → b ≡ slots_part slots ++ d → bytes ≡ opening ++ stages_part stages ++ slots_part slots ++ d
  behind_slots opened staged slotted =
      join bytes (opening ++ stages_part stages) (slots_part slots) b d (join bytes opening (stages_part stages) a b opened staged) slotted

  pub file_in_instrs : (e : Refusal) → bytes ≡ opening ++ a → a ≡ stages_part stages ++ b → length stages ≤ MAX_STAGES → All IsStage stages → b ≡ slots_part slots ++ d → length slots ≤ MAX_SLOTS
      → Refuses (FailsInstrs d) e → Refuses (FailsFile bytes) e
  file_in_instrs e opened staged few are slotted small =
      refuse e _ _ (λ stop failing. in_instrs stages slots d are few small (behind_slots opened staged slotted) failing)

  pub file_behind : (instrs : List Instr) (rest : List ℕ) (stop : Stop) → bytes ≡ opening ++ a → a ≡ stages_part stages ++ b → length stages ≤ MAX_STAGES → All IsStage stages → b ≡ slots_part slots ++ d → length slots ≤ MAX_SLOTS
      → d ≡ instrs_part instrs ++ rest → length instrs ≤ MAX_INSTRS → 0 < length rest → stop ≡ stop_at causes.Trailing rest → FailsFile bytes stop
  file_behind instrs rest stop opened staged few are slotted small coded short some is =
      let c : CountingCode = record { instrs = instrs; stages = stages; slots = slots } in
      let stands : bytes ≡ spelling_of c ++ rest = join bytes (opening ++ stages_part stages ++ slots_part slots) (instrs_part instrs) d rest (behind_slots opened staged slotted) coded in
      behind c rest (record { instrs = short; stages = few; slots = small }) are stands some is
