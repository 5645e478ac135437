use Rattle.sl_code.proofs.Names.{NameFront}
use Rattle.sl_code.proofs.reader.Reader.name.Given as goal

abbrev pub invariant-loop-at : goal.invariant-loop-at
invariant-loop-at l = NameFront l._at l.here l.self
