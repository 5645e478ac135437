use Rattle.sl_compile_pieces.proofs.scopes.Scopes.{scopes_apart}
use Rattle.sl_compile_pieces.proofs.laws.scopes.scopes_apart.Goals as goal

pub returns : goal.returns
returns c = scopes_apart
