-- How an explanation begins on the page (docs/explanations.md).
use Rattle.std.specs.Prelude.{List, None, Option, Some, codes, ◌++◌, ℕ}
use Rattle.sl_explain_texts.specs.Codes.{code_word}
use Rattle.sl_explain_texts.specs.Languages.{error_word}
use Rattle.sl_explain_texts.specs.declared.code.FaultCode.{FaultCode}
use Rattle.sl_explain_texts.specs.declared.language.Language.{Language}

-- the word for an error, and the code of the fault in brackets, if it is of one: as `error[B05]: `
abbrev pub head_of : Language → Option FaultCode → List ℕ
head_of language None = error_word language ++ codes ": "
head_of language (Some code) = (((error_word language ++ codes "[") ++ code_word code) ++ codes "]") ++ codes ": "
