use Rattle.std.proofs.Common.{◌≡◌, ◌<◌, ℕ, false, get_or}
use Rattle.sl_law_meaning.specs.declared.book.Cond.{Cond}
use Rattle.sl_law_meaning.specs.returns.Facts.{meets}
use Rattle.sl_report_parties.proofs.parts.first_met.Given as goal

abbrev pub invariant-loop-number : goal.invariant-loop-number
invariant-loop-number l = (k : ℕ) (d : Cond) → k < l.number → meets l.returns l.party (get_or l.conditions k d) ≡ false
