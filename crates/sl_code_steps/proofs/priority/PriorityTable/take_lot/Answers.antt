-- The entry that is taken, and the others, which stay as they were ranked.
use Rattle.std.proofs.Common.{◌≡◌, Option, Some, IsSome, slice_get, sym, ap, subst, ◌∙◌}
use Rattle.std.specs.Option.{option_and_then, option_map}
use Rattle.sl_base_quotients.specs.declared.entry.Entry.{Entry}
use Rattle.sl_base_quotients.specs.Quotient.{FitsRatio}
use Rattle.sl_prio.specs.declared.prio.Drawn.{Drawn}
use Rattle.sl_base_rankings.specs.Peers.{peers, top}
use Rattle.sl_base_rankings.specs.Lot.{drawn}
use Rattle.sl_code_semantics.specs.Effects.{takes}
use Rattle.sl_code_steps.specs.inner.Lots.{LotTable, lot_in}
use Rattle.sl_code_steps.specs.inner.Tables.{FitsMark}
use Rattle.sl_code_steps.proofs.Priorities.{alike, top_there, drawn_there, taken_fits, taken_is, taken_within}
use Rattle.sl_code_steps.proofs.drawing.Passing.{goes_on, its_lot, passed_still, some_mapped}
use Rattle.sl_code_steps.proofs.priority.PriorityTable.take_lot.Goals as goal

pub take_lot_from-requires : goal.take_lot_from-requires
take_lot_from-requires c =
    let k = c.unwrap-kind.result in
    let lot = c.lot-lot.result.now in
    let draws = c.self.inside.draws in
    goes_on lot (peers c.self.inside.prio) c.args.stage draws.stage draws.passed c.passed-passed.result c.passed-passed.ensures (λ same.
    c.self.invariant.2 k c.unwrap-kind.ensures lot (subst (λ n. option_map (lot_in k.entries) (slice_get c.self.inside.lots n) ≡ Some lot) same c.lot-lot.ensures))

pub unwrap-drawn-requires : goal.unwrap-drawn-requires
unwrap-drawn-requires c =
    let there = drawn_there c.lot-lot.result.now c.self.inside.prio (top_there c.self.inside.kind c.self.inside.prio (subst (λ (t : LotTable). IsSome (option_and_then (λ t. top t.contents) t.on)) (sym c.self.view_is) c.requires.top)) in
    some_mapped (λ (x : Drawn). x.entry) c.take_lot_from.result (subst (λ (o : Option Entry). IsSome o) (sym c.take_lot_from.ensures.drawn) there)

pub taken-requires : goal.taken-requires
taken-requires c =
    let x = c.unwrap-drawn.result.entry in
    let rest = rw c.unwrap-drawn.ensures at c.take_lot_from.ensures.rest in
    (taken_fits (λ x. FitsMark c.unwrap-kind.result.ranking x.ratio) _ _ _ rest (c.self.invariant.0 c.unwrap-kind.result c.unwrap-kind.ensures)).0

pub invariant_of-self : goal.invariant_of-self
invariant_of-self c =
    let k = c.unwrap-kind.result in
    let lot = c.lot-lot.result.now in
    let left = c.take_lot_from.new.self in
    let x = c.unwrap-drawn.result.entry in
    let rest = rw c.unwrap-drawn.ensures at c.take_lot_from.ensures.rest in
    let passed = rw c.unwrap-drawn.ensures at c.take_lot_from.ensures.passed in (
      (λ kind is. (taken_fits (λ x. FitsMark kind.ranking x.ratio) _ _ _ rest (c.self.invariant.0 kind is)).1),
      (taken_fits (λ x. FitsRatio x.ratio) _ _ _ rest c.self.invariant.1).1,
      passed_still c.self.inside.kind k c.unwrap-kind.ensures (λ kind. option_map (lot_in kind.entries) (slice_get c.self.inside.lots c.args.stage)) lot c.lot-lot.ensures
          c.unwrap-drawn.result.passed (peers left) passed,
    )

pub returns-clause-taken : goal.returns-clause-taken
returns-clause-taken c = λ e s.
    let k = c.unwrap-kind.result in
    let lot = c.lot-lot.result.now in
    let x = c.unwrap-drawn.result.entry in
    let rest = rw c.unwrap-drawn.ensures at c.take_lot_from.ensures.rest in
    let first = sym ((alike c.self.inside.prio).same_drawn lot) ∙ sym c.take_lot_from.ensures.drawn ∙ ap (option_map (λ (y : Drawn). y.entry)) c.unwrap-drawn.ensures in
    its_lot c.self.inside.kind k c.self.inside.prio c.self.inside.lots c.args.stage c.args.self.now lot (λ t l. takes e t (drawn l t.contents) s) c.unwrap-kind.ensures c.self.view_is c.lot-lot.ensures
    ∙ taken_is c.self.inside.kind k c.self.inside.prio c.take_lot_from.new.self x c.taken.result c.args.self.now.on (drawn lot)
    c.unwrap-kind.ensures (ap (λ (t : LotTable). t.on) c.self.view_is) c.taken.ensures first rest e s

pub returns-clause-within : goal.returns-clause-within
returns-clause-within c = λ e all.
    let x = c.unwrap-drawn.result.entry in
    let rest = rw c.unwrap-drawn.ensures at c.take_lot_from.ensures.rest in
    taken_within e c.self.inside.kind c.unwrap-kind.result c.self.inside.prio c.take_lot_from.new.self x c.taken.result c.args.self.now.on
    c.unwrap-kind.ensures (ap (λ (t : LotTable). t.on) c.self.view_is) c.taken.ensures rest all
