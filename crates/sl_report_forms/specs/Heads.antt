-- What stands over columns and sheets: in CSV and in JSON the key of a column, and for a person its head and the title of the sheet, in a language.
use Rattle.std.specs.Prelude.{ℕ, List, ◌++◌, codes, string_bytes}
use Rattle.sl_explain_texts.specs.Languages.{chosen, in_language}
use Rattle.sl_explain_texts.specs.declared.language.Language.{Language}
use Rattle.sl_report_forms.specs.NameTexts.{scope_name, stage_text}
use Rattle.sl_report_forms.specs.declared.names.Names.{Names}
use Rattle.sl_report_forms.specs.declared.sheet.Head.TheVariants.{Column, Word}
use Rattle.sl_report_forms.specs.declared.sheet.Head.{Head}
use Rattle.sl_report_forms.specs.declared.sheet.Look.TheVariants as look
use Rattle.sl_report_forms.specs.declared.sheet.Look.{Look}
use Rattle.sl_report_forms.specs.declared.sheet.Title.TheVariants as title
use Rattle.sl_report_forms.specs.declared.sheet.Title.{Title}

abbrev pub head_key : Head → List ℕ
head_key (Column c) = c.0.now
head_key (Word w) = string_bytes w

abbrev pub head_text : Language → Head → List ℕ
head_text language (Column c) = chosen language c.1.now c.2.now
head_text language (Word w) = string_bytes w

-- numbers stand under a word
abbrev pub head_look : Head → Look
head_look (Column c) = c.3
head_look (Word w) = look.Number

abbrev pub title_text : Language → Names → Title → List ℕ
title_text language n (title.Words words) = in_language language words
title_text language n (title.Stage word stage) = in_language language word ++ codes " " ++ stage_text n stage
title_text language n (title.Scope word stage scope) = (in_language language word ++ codes " " ++ stage_text n stage) ++ codes ", " ++ scope_name language n scope
