-- The page of what was explained is a page of it.
use Rattle.std.proofs.Common.{◌≡◌, Err, IfOk, List, None, Ok, Option, Result, Some, [], refl, ℕ}
use Rattle.std.specs.Global.{Vec}
use Rattle.sl_explain_calls.specs.Codes.{subject_of}
use Rattle.sl_explain_calls.specs.declared.explained.Explained.{Explained}
use Rattle.sl_explain_texts.specs.Pages.{page_of}
use Rattle.sl_explain_texts.specs.declared.language.Language.{Language}
use Rattle.sl_terminal_commands.specs.Said.{IsPage}
use Rattle.sl_terminal_commands.proofs.answered.explained_text.Goals as goal

page_said : {E : Type 0} (r : Result (Vec ℕ) E) (language : Language) (told : Explained) (path : Option (List ℕ)) (input : List ℕ)
    → IfOk r (λ text. text.items ≡ page_of language path input told.explanation) → IfOk r (λ text. IsPage language (subject_of told) text.items)
page_said (Ok text) language told path input is = (path, input, told.explanation, refl, is)
page_said (Err e) language told path input is = tt

pub returns-in-Some : goal.returns-in-Some
returns-in-Some c = page_said c.written.result c.args.language c.args.told.now (Some c.as_bytes.result.now) c.in-Some.file.bytes.now c.written.ensures

pub returns-in-None : goal.returns-in-None
returns-in-None c = page_said c.written-in-None.result c.args.language c.args.told.now None [] c.written-in-None.ensures
