-- Three bytes or none.
use Rattle.std.proofs.Common.{sym, ◌∙◌}
use Rattle.sl_returns_places.proofs.Marks.{with_mark, without_mark}
use Rattle.sl_returns_places.proofs.places.mark_length.Goals as goal

pub returns-then-starts_with-clause-length : goal.returns-then-starts_with-clause-length
returns-then-starts_with-clause-length c = (with_mark c.args.bytes.now (sym c.starts_with.ensures.value ∙ c.if-starts_with.true) (c.starts_with.ensures.bound (c.if-starts_with.true))).0

pub returns-then-starts_with-clause-rest : goal.returns-then-starts_with-clause-rest
returns-then-starts_with-clause-rest c = (with_mark c.args.bytes.now (sym c.starts_with.ensures.value ∙ c.if-starts_with.true) (c.starts_with.ensures.bound (c.if-starts_with.true))).1

pub returns-else-starts_with-clause-length : goal.returns-else-starts_with-clause-length
returns-else-starts_with-clause-length c = (without_mark c.args.bytes.now (sym c.starts_with.ensures.value ∙ c.if-starts_with.false)).0

pub returns-else-starts_with-clause-rest : goal.returns-else-starts_with-clause-rest
returns-else-starts_with-clause-rest c = (without_mark c.args.bytes.now (sym c.starts_with.ensures.value ∙ c.if-starts_with.false)).1
