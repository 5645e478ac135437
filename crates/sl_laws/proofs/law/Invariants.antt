use Rattle.std.proofs.Common.{◌≡◌, drop}
use Rattle.sl_laws.specs.Books.{law_text}
use Rattle.sl_laws.proofs.Statutes.{text_among}
use Rattle.sl_laws.proofs.law.Given as goal

-- no statute so far has the name
abbrev pub invariant-loop-statute : goal.invariant-loop-statute
invariant-loop-statute l = law_text l.name ≡ text_among l.name (drop l.statute-index l.statute-items)
