-- Those before the place are there.
use Rattle.std.proofs.Common.{◌≡◌, ◌<◌, ℕ, length, get_or, take}
use Rattle.sl_machine.specs.inner.Ways.{standing_from, standing_before}
use Rattle.sl_machine.proofs.way.Way.of.Given as goal

abbrev pub invariant-loop-place : goal.invariant-loop-place
invariant-loop-place g l = record {
  standing : l.standing.items ≡ standing_from g.R.Recording.records 0 (take l.place l.instrs);
  counted : length l.before.items ≡ l.place;
  before : (p : ℕ) → p < l.place → get_or l.before.items p 0 ≡ standing_before g.R.Recording.records l.code p;
}
