use Rattle.std.specs.Prelude.{◌≡◌}
use Rattle.sl_terminal_commands.proofs.terminal.Terminal.say.Given as goal

-- nothing but standard error is changed
abbrev pub invariant-loop-piece : goal.invariant-loop-piece
invariant-loop-piece g l = (l.self.outside ≡ l.initial.self.outside) × (l.self.out ≡ l.initial.self.out)
