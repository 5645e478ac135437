-- They are those after as many as stand before the place.
use Rattle.std.proofs.Common.{◌≡◌, ◌<◌, ℕ, length, drop, ap, ◌∙◌, arith}
use Rattle.std.proofs.lemmas.Grind.{get_or_default_zero}
use Rattle.sl_machine.specs.inner.Ways.{standing_before}
use Rattle.sl_machine.proofs.runs.Ways.{from_place, before_within}
use Rattle.sl_machine.proofs.way.Way.from.Goals as goal

pub behind-requires : goal.behind-requires
behind-requires g c =
    let k = g.R.Recording.records in
    let code = c.args.code.now in
    let p = c.args.place in
    let there : p < length c.args.self.now.before.items = omega (arith, c.requires.place, c.requires.way.counted) in
    let number : c.index.result.now ≡ standing_before k code p = c.index.ensures ∙ get_or_default_zero c.args.self.now.before.items p c.index.result.now there ∙ c.requires.way.before p c.requires.place in
    let many = c.as_slice.ensures.value ∙ c.requires.way.standing in
    omega (arith, number, ap length many, before_within k code p (omega (arith, c.requires.place)))

pub returns : goal.returns
returns g c =
    let k = g.R.Recording.records in
    let code = c.args.code.now in
    let p = c.args.place in
    let there : p < length c.args.self.now.before.items = omega (arith, c.requires.place, c.requires.way.counted) in
    let number : c.index.result.now ≡ standing_before k code p = c.index.ensures ∙ get_or_default_zero c.args.self.now.before.items p c.index.result.now there ∙ c.requires.way.before p c.requires.place in
    let many = c.as_slice.ensures.value ∙ c.requires.way.standing in
    c.behind.ensures ∙ ap (λ (n : ℕ). drop n c.as_slice.result.now) number ∙ ap (drop (standing_before k code p)) many ∙ from_place k code p (omega (arith, c.requires.place))
