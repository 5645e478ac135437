-- What is handed over of words and files (docs/page.md, docs/library.md): the reply to them.
use Rattle.std.specs.Prelude.{Any, IsUtf8, List, None, Option, Some, [], codes, map, ◌∷◌, ◌≡◌, ◌⊎◌, ℕ}
use Rattle.sl_explain_texts.specs.declared.code.FaultCode.{FaultCode}
use Rattle.sl_explain_texts.specs.declared.language.Language.TheVariants.{English}
use Rattle.sl_explain_texts.specs.declared.language.Language.{Language}
use Rattle.sl_page_calls.specs.declared.asked.Word.{Word}
use Rattle.sl_page_calls.specs.declared.handed.Handed.{Handed}
use Rattle.sl_report_forms.specs.declared.heading.Heading.{Heading}
use Rattle.sl_report_tables.specs.declared.answer.Answer.{Answer as Sheets}
use Rattle.sl_report_forms.specs.declared.shape.Shape.{Shape}
use Rattle.sl_terminal_commands.specs.Replies.{IsReplyTo, Says}
use Rattle.sl_terminal_commands.specs.declared.reply.Made.{Made}
use Rattle.sl_terminal_commands.specs.declared.reply.Reply.{Reply}
use Rattle.sl_terminal_outside.specs.Shelves.{bytes_at}
use Rattle.sl_terminal_outside.specs.declared.shelf.File.{File}

-- the name under which the program is called, and the words that are given behind it
abbrev pub program : List ℕ
program = codes "seatlaw"

abbrev pub words_given : List Word → List (List ℕ)
words_given words = map (λ w. w.bytes.now) words

-- one of them is no text
abbrev pub AreUnread : List Word → Type 0
AreUnread words = Any (λ w. IsUtf8 w.bytes.now → ⊥) words

-- the bytes of the file that is made; none where none is
abbrev pub made_bytes : Option Made → List ℕ
made_bytes None = []
made_bytes (Some m) = m.bytes.items

-- a reply is handed over: its number, its text, what is said, and the bytes of its file
pub record IsHanded (r : Reply) (h : Handed) : Type 0 where
  pub status : h.status ≡ r.number
  pub out : h.out.now ≡ r.out.items
  pub err : Says r.said h.err.now
  pub made : h.made.now ≡ made_bytes r.made

-- there was no memory for it
pub record IsNothing (h : Handed) : Type 0 where
  pub status : h.status ≡ 5
  pub out : h.out.now ≡ []
  pub err : h.err.now ≡ []
  pub made : h.made.now ≡ []

-- words that cannot be read: they are refused
pub record IsUnread (h : Handed) : Type 0 where
  pub status : h.status ≡ 1
  pub out : h.out.now ≡ []
  pub made : h.made.now ≡ []

-- the reply to the words, from the files, in English unless the words say otherwise; or where one of them is no text they are refused; or memory ran out
abbrev pub IsAnswered : (Shape → Heading → Sheets → List ℕ → Type 0) → (Language → FaultCode → List ℕ → Type 0) → List Word → List File → Handed → Type 0
IsAnswered IsText IsAbout words files h =
    ((r : Reply) × IsReplyTo IsText IsAbout English (bytes_at files) (program ∷ words_given words) r × IsHanded r h) ⊎ ((AreUnread words × IsUnread h) ⊎ IsNothing h)
