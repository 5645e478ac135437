use Rattle.std.proofs.Common.{ℕ, List, [], ◌∷◌, Option, Some, None, codes, map, option_map, subst, refl, arith}
use Rattle.serde_json.specs.Data.{Data, null, number, unsigned, string}
use Rattle.sl_explain_texts.specs.declared.program.TheConstants.{VERSION}
use Rattle.sl_report_forms.specs.declared.heading.Told.{Told}
use Rattle.sl_report_forms.specs.JsonForm.{Entry, MaybeExplains, Puts, array_of, object_of, input_value, text_or_null}
use Rattle.sl_explain_texts.specs.Codes.{code_word}
use Rattle.sl_report_forms.proofs.JsonDepths.{of_text}
use Rattle.sl_report_forms.proofs.JsonFilling.{Puts-known, Puts-made, Puts-more}
use Rattle.sl_report_forms.proofs.json_heading.put_heading.Goals as goal

-- seven members, one after another
seven : (a b c d e f g h : Option (List Entry)) (m n o p q r s : List ℕ × Data)
    → Puts a b (m ∷ []) → Puts b c (n ∷ []) → Puts c d (o ∷ []) → Puts d e (p ∷ []) → Puts e f (q ∷ []) → Puts f g (r ∷ []) → Puts g h (s ∷ [])
    → Puts a h (m ∷ n ∷ o ∷ p ∷ q ∷ r ∷ s ∷ [])
seven a b c d e f g h m n o p q r s i j k l t u v =
    Puts-more a b h (m ∷ []) (n ∷ o ∷ p ∷ q ∷ r ∷ s ∷ []) i (Puts-more b c h (n ∷ []) (o ∷ p ∷ q ∷ r ∷ s ∷ []) j (Puts-more c d h (o ∷ []) (p ∷ q ∷ r ∷ s ∷ []) k
    (Puts-more d e h (p ∷ []) (q ∷ r ∷ s ∷ []) l (Puts-more e f h (q ∷ []) (r ∷ s ∷ []) t (Puts-more f g h (r ∷ []) (s ∷ []) u v)))))

-- an explanation of which no more is known
explained : (told : Option Told) → (why : Data) × MaybeExplains told why
explained None = (null, refl)
explained (Some told) =
    let code = option_map code_word told.explanation.now.code in
    (object_of ((codes "code", text_or_null code) ∷ (codes "input", string told.input.now) ∷ []), (refl, refl, omega (arith, of_text code)))

pub returns : goal.returns
returns c =
    let all = array_of (map input_value c.args.heading.now.inputs.now) in
    let inputs = Puts-made c.put_text-3.new.self c.put.new.self (codes "inputs") c.inputs_value.result all c.put.ensures.made c.put.ensures.missing c.inputs_value.ensures in
    let some = explained c.args.heading.now.told in
    let why = Puts-known (MaybeExplains c.args.heading.now.told) some.0 some.1 c.put.new.self c.put-2.new.self (codes "explanation") c.maybe_told.result c.put-2.ensures.made c.put-2.ensures.missing c.maybe_told.ensures in (
      why.0,
      why.1,
      seven c.args.members.now c.put_number.new.self c.put_text.new.self c.put_text-2.new.self c.put_number-2.new.self c.put_text-3.new.self c.put.new.self c.put-2.new.self
          (codes "schema", number (unsigned 2)) (codes "program", string VERSION.now) (codes "command", string c.args.heading.now.command.now)
          (codes "status", number (unsigned c.args.status)) (codes "fault", text_or_null (option_map (λ l. l.now) c.args.line)) (codes "inputs", all) (codes "explanation", why.0)
          c.put_number.ensures c.put_text.ensures c.put_text-2.ensures (subst (λ n. Puts c.put_text-2.new.self c.put_number-2.new.self ((codes "status", number (unsigned n)) ∷ [])) c.from.ensures c.put_number-2.ensures)
          c.put_text-3.ensures inputs why.2,
    )
