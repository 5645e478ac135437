use Rattle.std.proofs.Common.{◌≡◌, length, get_or, arith, refl, sym, ◌∙◌}
use Rattle.std.specs.Prelude.{slice_index}
use Rattle.std.proofs.lemmas.List.FromFn.{fill_by_all}
use Rattle.sl_report_parties.proofs.Steps.{mapped_more}
use Rattle.sl_report_parties.proofs.facts.Setting.people.Goals as goal

pub loop-land-preserved : goal.loop-land-preserved
loop-land-preserved c =
    mapped_more (λ land. slice_index c.args.self.now.returns.now.populations land) c.loop-land.land _ _ _ c.loop-land.invariant c.in_ok-push.ensures.items (c.from.ensures ∙ c.population.ensures)

pub returns : goal.returns
returns c =
    let people = c.args.self.now.returns.now.populations in
    let long : length people ≡ c.loop-land.land = omega (arith, c.loop-land-test.false, c.loop-land.auto.land-end, c.lands-land-end.ensures.number, c.lands-land-end.ensures.kept.populations) in
    c.loop-land.invariant ∙ sym (fill_by_all (λ k. get_or people k 0) people c.loop-land.land 0 long (λ k less. refl))
