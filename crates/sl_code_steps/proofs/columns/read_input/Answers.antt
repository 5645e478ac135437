-- All cells are the column's.
use Rattle.std.proofs.Common.{rules, ◌≡◌, length, sym, arith}
use Rattle.std.proofs.lemmas.List.FromFn.{fill_by_all}
use Rattle.sl_code_semantics.specs.Needs.{input_shape}
use Rattle.sl_code_semantics.specs.Places.{cells_of}
use Rattle.sl_code_semantics.specs.Effects.{input_of}
use Rattle.sl_code_steps.proofs.columns.read_input.Goals as goal

pub loop-place-preserved : goal.loop-place-preserved
loop-place-preserved c =
    let l = c.loop-place in
    record {
      read = search rules;
      list = rw (sym c.parties-parties.ensures.number) (c.next-list.ensures.next l.place (rw c.parties-parties.ensures.number l.invariant.list));
      land = omega (arith, c.next-list.ensures.land, l.invariant.land);
      party = omega (arith, c.next-list.ensures.party, l.invariant.party);
    }

pub returns : goal.returns
returns c =
    let n = cells_of c.args.returns.now (input_shape c.args.input) in
    let long : length c.loop-place.column ≡ n = omega arith in
    fill_by_all (input_of c.args.returns.now c.args.input) c.loop-place.column n 0 long (λ k h. c.loop-place.invariant.read k (omega arith))
