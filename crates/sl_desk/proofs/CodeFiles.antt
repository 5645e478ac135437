-- A code file yields one verdict, by the laws of the layers below.
use Rattle.std.proofs.Common.{◌≡◌, ◌≢◌, ◌↔◌, ◌≤◌, ◌<◌, ℕ, List, length, Option, Some, None, Ok, Err, ◌⊎◌, inl, inr, refl, sym, ap, subst, ◌∙◌, arith}
use Rattle.std.specs.List.{All}
use Rattle.std.proofs.lemmas.Bool.{cases_lt}
use Rattle.sl_code.specs.declared.fault.CodeFault.{CodeFault}
use Rattle.sl_code.specs.declared.fault.CodeFault.TheVariants as file
use Rattle.sl_code_instructions.specs.Codes.{CountingCode}
use Rattle.sl_code.specs.Faults.{IsFault}
use Rattle.sl_code.specs.Laws.{IsByte, CodeOrFault, OneCode, OneFault, SpellingOrFault}
use Rattle.sl_code.specs.Reading.{IsReading}
use Rattle.sl_code_semantics.specs.declared.fault.VerifyFault.{VerifyFault}
use Rattle.sl_code_semantics.specs.Faults.{verify_fault}
use Rattle.sl_code_semantics.specs.WellKinded.{IsWellKinded}
use Rattle.sl_count_inputs.specs.declared.limits.TheConstants.{MAX_CODE_BYTES}
use Rattle.sl_count_code_files.specs.declared.refusal.CodeRefusal.{CodeRefusal}
use Rattle.sl_count_code_files.specs.declared.refusal.CodeRefusal.TheVariants as code
use Rattle.sl_count_inputs.specs.declared.verdict.Verdict.{Verdict}
use Rattle.sl_count_inputs.specs.declared.verdict.Verdict.TheVariants.{Good, Refused}
use Rattle.sl_count_code_files.specs.CodeFiles.{IsCodeVerdict}
use Rattle.sl_desk.specs.Laws.{OneCodeVerdict, NoOtherCodeVerdict}

-- what the layers below say of code files
pub record CodeLaws : Type 0 where
  pub code_or_fault : CodeOrFault
  pub one_code : OneCode
  pub one_fault : OneFault
  pub spelling_or_fault : SpellingOrFault
  pub fault_or_kinds : (c : CountingCode) → IsWellKinded c ↔ (verify_fault c ≡ None)

refused_as : (bytes : List ℕ) (f : CodeFault) → IsReading bytes (Err f) → f ≢ file.NoMemory → IsFault bytes f
refused_as bytes (file.Magic at) h told = h
refused_as bytes (file.Version at) h told = h
refused_as bytes (file.Op at) h told = h
refused_as bytes (file.Short at) h told = h
refused_as bytes (file.Trailing at) h told = h
refused_as bytes (file.Limit at) h told = h
refused_as bytes file.NoMemory h told = absurd (told refl)

module _ (laws : CodeLaws) where
  one_reading : (bytes : List ℕ) (c d : CountingCode) → IsReading bytes (Ok c) → IsReading bytes (Ok d) → c ≡ d
  one_reading bytes c d h k = laws.one_code c d h.1 k.1 (sym h.0 ∙ k.0)

  no_fault : (bytes : List ℕ) (c : CountingCode) (f : CodeFault) → IsReading bytes (Ok c) → IsReading bytes (Err f) → f ≢ file.NoMemory → ⊥
  no_fault bytes c f h k told = laws.spelling_or_fault c f h.1.limits h.1.words (subst (λ bytes. IsFault bytes f) h.0 (refused_as bytes f k told))

  kinded_or_fault : (c : CountingCode) (f : VerifyFault) → IsWellKinded c → verify_fault c ≡ Some f → ⊥
  kinded_or_fault c f kinded fault = let none = (laws.fault_or_kinds c).0 kinded in absurd cc

  one_kinds : (c d : CountingCode) (f g : VerifyFault) → c ≡ d → verify_fault c ≡ Some f → verify_fault d ≡ Some g → f ≡ g
  one_kinds c d f g same h k = cc

  pub no_other_verdict : NoOtherCodeVerdict
  no_other_verdict bytes (Refused code.TooLong) (Refused code.TooLong) h k = refl
  no_other_verdict bytes (Refused code.TooLong) (Refused (code.File g)) h k = let fits = k.0 in absurd (omega arith)
  no_other_verdict bytes (Refused code.TooLong) (Refused (code.Kinds g)) h k = let fits = k.0 in absurd (omega arith)
  no_other_verdict bytes (Refused code.TooLong) (Good d) h k = let fits = k.0 in absurd (omega arith)
  no_other_verdict bytes (Refused (code.File f)) (Refused code.TooLong) h k = let fits = h.0 in absurd (omega arith)
  no_other_verdict bytes (Refused (code.File f)) (Refused (code.File g)) h k =
      ap (λ (x : CodeFault). Refused (code.File x)) (laws.one_fault bytes f g (refused_as bytes f h.1 h.2) (refused_as bytes g k.1 k.2))
  no_other_verdict bytes (Refused (code.File f)) (Refused (code.Kinds g)) h k = absurd (no_fault bytes k.1.0 f k.1.1 h.1 h.2)
  no_other_verdict bytes (Refused (code.File f)) (Good d) h k = absurd (no_fault bytes d f k.1 h.1 h.2)
  no_other_verdict bytes (Refused (code.Kinds f)) (Refused code.TooLong) h k = let fits = h.0 in absurd (omega arith)
  no_other_verdict bytes (Refused (code.Kinds f)) (Refused (code.File g)) h k = absurd (no_fault bytes h.1.0 g h.1.1 k.1 k.2)
  no_other_verdict bytes (Refused (code.Kinds f)) (Refused (code.Kinds g)) h k =
      ap (λ (x : VerifyFault). Refused (code.Kinds x)) (one_kinds h.1.0 k.1.0 f g (one_reading bytes h.1.0 k.1.0 h.1.1 k.1.1) h.1.2 k.1.2)
  no_other_verdict bytes (Refused (code.Kinds f)) (Good d) h k =
      absurd (kinded_or_fault d f k.2 (subst (λ (x : CountingCode). verify_fault x ≡ Some f) (one_reading bytes h.1.0 d h.1.1 k.1) h.1.2))
  no_other_verdict bytes (Good c) (Refused code.TooLong) h k = let fits = h.0 in absurd (omega arith)
  no_other_verdict bytes (Good c) (Refused (code.File g)) h k = absurd (no_fault bytes c g h.1 k.1 k.2)
  no_other_verdict bytes (Good c) (Refused (code.Kinds g)) h k =
      absurd (kinded_or_fault c g h.2 (subst (λ (x : CountingCode). verify_fault x ≡ Some g) (one_reading bytes k.1.0 c k.1.1 h.1) k.1.2))
  no_other_verdict bytes (Good c) (Good d) h k = ap (λ (x : CountingCode). Good x) (one_reading bytes c d h.1 k.1)

  -- ---- what bytes come to

  abbrev CodeVerdict : List ℕ → Type 0
  CodeVerdict bytes = (v : Verdict CountingCode CodeRefusal) × IsCodeVerdict bytes v

  verified : (bytes : List ℕ) (c : CountingCode) (o : Option VerifyFault) → length bytes ≤ MAX_CODE_BYTES → IsReading bytes (Ok c) → verify_fault c ≡ o → CodeVerdict bytes
  verified bytes c None fits read e = (Good c, (fits, read, (laws.fault_or_kinds c).1 e))
  verified bytes c (Some f) fits read e = (Refused (code.Kinds f), (fits, (c, read, e)))

  judged : (bytes : List ℕ) → All IsByte bytes → (MAX_CODE_BYTES < length bytes) ⊎ (length bytes ≤ MAX_CODE_BYTES) → CodeVerdict bytes
  judged bytes are (inl long) = (Refused code.TooLong, long)
  judged bytes are (inr fits) =
      elim (laws.code_or_fault bytes are) as (λ t. CodeVerdict bytes) [
        | inl read ↦ verified bytes read.0 (verify_fault read.0) fits read.1 refl
        | inr fault ↦ (Refused (code.File fault.0), (fits, fault.1, fault.2))
      ]

  pub one_verdict : OneCodeVerdict
  one_verdict bytes are =
      let v = judged bytes are (cases_lt MAX_CODE_BYTES (length bytes)) in
      record { one = v.0; is = v.1; only = λ w h. no_other_verdict bytes w v.0 h v.1 }
