use Rattle.sl_compile_pieces.proofs.scopes.Scopes.{scopes_hold}
use Rattle.sl_compile_pieces.proofs.laws.scopes.scopes_hold.Goals as goal

pub returns : goal.returns
returns c = scopes_hold
