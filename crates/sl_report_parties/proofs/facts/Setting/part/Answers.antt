use Rattle.std.proofs.Common.{arith, refl, ◌∙◌}
use Rattle.sl_report_parties.proofs.Taking.{part_at, parts_long}
use Rattle.sl_report_parties.proofs.facts.Setting.part.Goals as goal

pub index-requires : goal.index-requires
index-requires c =
    let s = c.args.self.now in
    omega (arith, c.requires, parts_long s.book.now.eligible.items s.returns.now s.parts.items s.parts.items refl s.told, s.parts.ok.0)

pub returns : goal.returns
returns c =
    let s = c.args.self.now in
    c.index.ensures ∙ part_at s.book.now.eligible.items s.returns.now s.parts.items s.parts.items refl s.told c.args.party c.index.result.now c.requires
