-- The instructions whose methods see less than the whole code and the returns.
use Rattle.std.proofs.Common.{ap, sym, ◌∙◌}
use Rattle.sl_law_meaning.specs.declared.table.Mark.TheVariants as mark
use Rattle.sl_code_semantics.specs.Effects.{stage_of}
use Rattle.sl_code_semantics.specs.Places.{scope_at, index_at, item_of}
use Rattle.sl_code_steps.specs.inner.Stores.{state_of}
use Rattle.sl_code_steps.proofs.drawing.Drawing.{entry_there}
use Rattle.sl_code_steps.proofs.Dropping.{recorded, weighed}
use Rattle.sl_code_steps.proofs.store.Store.step.Goals as goal

pub weigh-requires-clause-entry : goal.weigh-requires-clause-entry
weigh-requires-clause-entry g c =
    let e = c.args.returns.now in
    let s = state_of c.args.self.now in
    let case = rw c.in-Weigh.is at c.requires.step.case in
    entry_there (s.registers c.in-Weigh.weight) (stage_of c.args.code.now.stages c.in-Weigh.stage) (scope_at c.in-Weigh.scope s) s.table
    (λ t. index_at e t.entries s) (λ t. item_of e t.entries) _ case

pub returns-in-House-clause-follows : goal.returns-in-House-clause-follows
returns-in-House-clause-follows g c = rw c.in-House.is (c.set_house-effect.ensures.follows c.args.code.now)

pub returns-in-Table-clause-follows : goal.returns-in-Table-clause-follows
returns-in-Table-clause-follows g c = rw c.in-Table.is (c.open_table-effect.ensures.follows c.args.code.now c.args.returns.now)

pub returns-in-Peers-clause-follows : goal.returns-in-Peers-clause-follows
returns-in-Peers-clause-follows g c = rw c.in-Peers.is (c.count_peers-effect.ensures.follows c.args.code.now c.args.returns.now)

pub returns-in-Take-clause-follows : goal.returns-in-Take-clause-follows
returns-in-Take-clause-follows g c = rw c.in-Take.is (c.take_top-effect.ensures.follows c.args.code.now)

pub returns-in-Seat-clause-follows : goal.returns-in-Seat-clause-follows
returns-in-Seat-clause-follows g c = rw c.in-Seat.is (c.seat_on_list-effect.ensures.follows c.args.code.now)

pub returns-in-Single-clause-follows : goal.returns-in-Single-clause-follows
returns-in-Single-clause-follows g c = rw c.in-Single.is (c.seat_as_single-effect.ensures.follows c.args.code.now)

pub returns-in-Dropped-records-2-clause-follows : goal.returns-in-Dropped-records-2-clause-follows
returns-in-Dropped-records-2-clause-follows g c =
    let e = c.args.returns.now in
    let s = state_of c.args.self.now in
    let w = c.in-Weigh in
    let dropped = sym c.records-in-Weigh.ensures ∙ c.in-Dropped-records-2.is in
    let case = rw w.is at c.requires.step.case in
    rw (w.is, dropped) (weighed c.args.code.now e s (rw dropped at c.requires.records) w.stage w.scope w.rounding (s.registers w.weight) case)

pub returns-in-Dropped-clause-follows : goal.returns-in-Dropped-clause-follows
returns-in-Dropped-clause-follows g c =
    let e = c.args.returns.now in
    let s = state_of c.args.self.now in
    let w = c.in-Emit in
    let dropped = sym c.records.ensures ∙ c.in-Dropped.is in
    let case = rw w.is at c.requires.step.case in
    rw (w.is, dropped) (recorded c.args.code.now e s (rw dropped at c.requires.records) w.stage w.scope (s.registers w.number) (s.registers w.step) s.mark case)

pub returns-in-Dropped-records-clause-follows : goal.returns-in-Dropped-records-clause-follows
returns-in-Dropped-records-clause-follows g c =
    let e = c.args.returns.now in
    let s = state_of c.args.self.now in
    let w = c.in-Given in
    let dropped = sym c.records-in-Given.ensures ∙ c.in-Dropped-records.is in
    let case = rw w.is at c.requires.step.case in
    rw (w.is, dropped) (recorded c.args.code.now e s (rw dropped at c.requires.records) w.stage w.scope (s.registers w.number) 0 mark.Given case)

pub take_top-effect-requires-clause-parties : goal.take_top-effect-requires-clause-parties
take_top-effect-requires-clause-parties g c = ap (λ z. z.parties) c.requires.sizes

pub take_drawn-effect-requires-clause-parties : goal.take_drawn-effect-requires-clause-parties
take_drawn-effect-requires-clause-parties g c = ap (λ z. z.parties) c.requires.sizes
