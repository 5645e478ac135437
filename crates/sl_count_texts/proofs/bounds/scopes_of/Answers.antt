use Rattle.std.proofs.Common.{map, ap, rules, ◌∙◌}
use Rattle.sl_count_texts.specs.Bounds.{is_one_scope}
use Rattle.sl_count_texts.proofs.ChunkedGroups.{references_in_groups}
use Rattle.sl_count_texts.proofs.bounds.scopes_of.Goals as goal

pub returns : goal.returns
returns c =
    let ran = c.in_ok-scopes.ensures.ran in
    ap (map (λ s. map (λ w. w.now) s.now)) ran.2.0
    ∙ references_in_groups is_one_scope c.args.weights.now ran.0 c.chunk_by.result ran.1.0 (ran.1.2 tt).0 c.chunk_by.ensures.rest (λ f a r h k. search rules) ran.1.1 (ran.1.2 tt).1
