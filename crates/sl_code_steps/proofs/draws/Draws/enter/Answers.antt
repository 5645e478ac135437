-- The peers are the same where the entry is after them.
use Rattle.std.proofs.Common.{◌∷◌, List, sym, subst, ◌∙◌}
use Rattle.std.proofs.lemmas.List.Elements.{All-head, All-tail}
use Rattle.sl_base_quotients.specs.declared.entry.Entry.{Entry}
use Rattle.sl_base_quotients.specs.Quotient.{FitsRatio}
use Rattle.sl_base_rankings.specs.Peers.{peers}
use Rattle.sl_prio.specs.inner.Marks.{IsPassed}
use Rattle.sl_code_steps.proofs.drawing.Passing.{behind_passed, no_draws}
use Rattle.sl_code_steps.proofs.draws.Draws.enter.Goals as goal
use Rattle.sl_code_steps.proofs.draws.Draws.enter.Goals.{then-self-eq0-via-then-self-eq0, then-self-eq0-via-else-self-eq0+then-is_behind_top}

pub returns-then-self-eq0-clause-passed : goal.returns-then-self-eq0-clause-passed
returns-then-self-eq0-clause-passed c = λ lot held.
    let entry = c.args.entry.now in
    let xs = c.args.prio.now in
    let n = c.args.self.now.passed in
    let fits = All-head (λ x. FitsRatio x.ratio) entry xs c.requires in
    let ratios = All-tail (λ x. FitsRatio x.ratio) entry xs c.requires in
    elim c.then-self-eq0.branch [
      | then-self-eq0-via-then-self-eq0 w ↦ no_draws lot (peers (entry ∷ xs)) n w.if-self-eq0.true
      | then-self-eq0-via-else-self-eq0+then-is_behind_top w ↦
          subst (λ (ps : List Entry). IsPassed lot n ps) (sym (behind_passed xs ratios entry fits (sym w.is_behind_top.ensures.behind ∙ w.if-is_behind_top.true))) held
    ]
