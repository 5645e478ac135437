-- After a first record that is no header, no other counts; after a header there is more to read.
use Rattle.std.proofs.Common.{sym, ◌∙◌}
use Rattle.csv.specs.Records.{fields_of}
use Rattle.sl_returns.specs.Further.{refused_of}
use Rattle.sl_returns.proofs.Sifting.{goes_on, has_ended}
use Rattle.sl_returns.proofs.sieve.sift.Goals as goal

pub returns-clause-ends : goal.returns-clause-ends
returns-clause-ends c rs goes ended more =
    has_ended _ _ rs (fields_of c.args.fields.now) c.in_ok-found.found (c.in_ok-found.ensures rs goes.0) (sym c.has_header.ensures ∙ ended) (c.in_ok-note.ensures (refused_of rs) goes.1) more

pub returns-clause-goes : goal.returns-clause-goes
returns-clause-goes c rs goes headed =
    goes_on _ _ rs (fields_of c.args.fields.now) c.in_ok-found.found (c.in_ok-found.ensures rs goes.0) (sym c.has_header.ensures ∙ headed) (c.in_ok-note.ensures (refused_of rs) goes.1)
