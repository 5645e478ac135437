use Rattle.std.proofs.Common.{◌≡◌, ◌++◌, length, List, ℕ}
use Rattle.std.specs.Io.KnownBytes.{Appends}
use Rattle.sl_count_inputs.proofs.input.write_all.Given as goal

-- what is written and what is left are the text, and no call has failed
abbrev pub invariant-writing : goal.invariant-writing
invariant-writing g l = record {
  written : (prefix : List ℕ) × (l.text ≡ prefix ++ l.rest) × Appends (g.W.Sink.contents l.fn.out) (g.W.Sink.contents l.out) prefix;
  unfailed : g.W.Sink.failed l.out ≡ g.W.Sink.failed l.fn.out;
}

abbrev pub decreases-writing : goal.decreases-writing
decreases-writing g l = length l.rest
