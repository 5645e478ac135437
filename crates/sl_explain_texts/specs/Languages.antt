-- Messages in a language, and which language is asked for (docs/explanations.md, section 2).
use denote.Ref.{Bor}
use Rattle.std.specs.List.{starts_with}
use Rattle.std.specs.Prelude.{ℕ, List, Option, codes, find, nat_eq}
use Rattle.std.specs.Str.{bytes_eq}
use Rattle.sl_explain_texts.specs.declared.language.Language.TheVariants.{English, German}
use Rattle.sl_explain_texts.specs.declared.code.FaultCode.{FaultCode}
use Rattle.sl_explain_texts.specs.declared.language.Language.{Language}
use Rattle.sl_explain_texts.specs.declared.language.TheConstants.{LANGUAGES}

-- a message, in English and in German
abbrev pub Message : Type 0
Message = List ℕ × List ℕ

-- the message that is lent, and that of a row of texts; and where the code of a fault stands before them
abbrev pub lent : Bor (List ℕ) × Bor (List ℕ) → Message
lent m = (m.0.now, m.1.now)

abbrev pub lent_of_fault : FaultCode × Bor (List ℕ) × Bor (List ℕ) → Message
lent_of_fault s = (s.1.now, s.2.now)

abbrev pub row : record { now : List ℕ } × record { now : List ℕ } → Message
row m = (m.0.now, m.1.now)

abbrev pub row_of_fault : FaultCode × record { now : List ℕ } × record { now : List ℕ } → Message
row_of_fault s = (s.1.now, s.2.now)

-- of a text in English and the same in German, that in a language
abbrev pub chosen : Language → (english german : List ℕ) → List ℕ
chosen English english german = english
chosen German english german = german

-- the text of a message that is lent in a language
abbrev pub in_language : Language → Bor (List ℕ) × Bor (List ℕ) → List ℕ
in_language language m = chosen language m.0.now m.1.now

-- the word that asks for a language
abbrev pub language_word : Language → List ℕ
language_word English = codes "en"
language_word German = codes "de"

-- the language that a word asks for, if there is one
abbrev pub language_of : List ℕ → Option Language
language_of word = find (λ l. bytes_eq (language_word l) word) LANGUAGES

-- the first language with whose word a locale begins
abbrev pub locale_language : List ℕ → Option Language
locale_language locale = find (λ l. starts_with nat_eq locale (language_word l)) LANGUAGES

-- the word for an error
abbrev pub error_word : Language → List ℕ
error_word English = codes "error"
error_word German = codes "Fehler"

-- the word for a warning
abbrev pub warning_word : Language → List ℕ
warning_word English = codes "warning"
warning_word German = codes "Warnung"
