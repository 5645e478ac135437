-- What the words of a count ask for.
use Rattle.std.specs.Prelude.{List, None, Option, Some, codes, if◌then◌else◌, ◌∷◌, ℕ, []}
use Rattle.std.specs.Str.{bytes_eq}
use Rattle.sl_terminal_count.specs.declared.words.Count.{Count}
use Rattle.sl_count_calls.specs.declared.view.View.TheVariants.{Seats, Stage, Steps}
use Rattle.sl_count_calls.specs.declared.view.View.{View}

-- what is shown of a count
pub data Shown : Type 0 where
  seats : Shown
  steps : Shown
  stage : (name : List ℕ) → Shown

-- what is shown, and the words for the book and for the returns
pub record Asked : Type 0 where
  pub shown : Shown
  pub book : List ℕ
  pub returns : List ℕ

abbrev pub asks : Shown → List ℕ → List ℕ → Asked
asks shown book returns = record { shown = shown; book = book; returns = returns }

-- what words ask for, of which the first is the program's name: `count BOOK RETURNS`, `steps BOOK RETURNS` or `stage BOOK RETURNS NAME`
abbrev pub asked : List (List ℕ) → Option Asked
asked (program ∷ command ∷ book ∷ returns ∷ []) =
    if bytes_eq command (codes "count") then Some (asks seats book returns)
    else (if bytes_eq command (codes "steps") then Some (asks steps book returns) else None)
asked (program ∷ command ∷ book ∷ returns ∷ name ∷ []) =
    if bytes_eq command (codes "stage") then Some (asks (stage name) book returns) else None
asked _ = None

abbrev pub shown_by : View → Shown
shown_by Seats = seats
shown_by Steps = steps
shown_by (Stage name) = stage name.now

abbrev pub asked_by : Count → Asked
asked_by count = asks (shown_by count.view) count.book.now count.returns.now
