use Rattle.std.proofs.Common.{◌≡◌, ◌++◌, drop, take}
use Rattle.sl_explain_texts.specs.Pages.{first_characters}
use Rattle.sl_explain_texts.proofs.page.until_shown.Given as goal

abbrev pub invariant-loop-place : goal.invariant-loop-place
invariant-loop-place l = take l.place l.bytes ++ first_characters l.left (drop l.place l.bytes) ≡ first_characters 100 l.bytes
