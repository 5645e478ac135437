-- The entry that is taken, and the others, which stay as they were ranked.
use Rattle.std.proofs.Common.{refl, Option, IsSome, sym, ap, subst, ◌∙◌}
use Rattle.std.specs.Option.{option_and_then}
use Rattle.sl_base_quotients.specs.declared.entry.Entry.{Entry}
use Rattle.sl_base_quotients.specs.Quotient.{FitsRatio}
use Rattle.sl_base_rankings.specs.Peers.{peers, top}
use Rattle.sl_code_semantics.specs.State.{PriorityTable}
use Rattle.sl_code_steps.specs.inner.Tables.{FitsMark}
use Rattle.sl_code_steps.specs.inner.Lots.{LotTable}
use Rattle.sl_code_steps.proofs.Priorities.{alike, top_there, taken_fits, taken_is, taken_within}
use Rattle.sl_code_steps.proofs.drawing.Passing.{no_draws}
use Rattle.sl_code_steps.proofs.priority.PriorityTable.take.Goals as goal

pub unwrap-entry-requires : goal.unwrap-entry-requires
unwrap-entry-requires c =
    let there = top_there c.self.inside.kind c.self.inside.prio (subst (λ (o : Option PriorityTable). IsSome (option_and_then (λ t. top t.contents) o)) (sym (ap (λ (t : LotTable). t.on) c.self.view_is)) c.requires) in
    subst (λ (o : Option Entry). IsSome o) (sym c.take.ensures.top) there

pub taken-requires : goal.taken-requires
taken-requires c =
    let rest = rw c.unwrap-entry.ensures at c.take.ensures.rest in
    (taken_fits (λ x. FitsMark c.unwrap-kind.result.ranking x.ratio) _ _ _ rest (c.self.invariant.0 c.unwrap-kind.result c.unwrap-kind.ensures)).0

pub invariant_of-self : goal.invariant_of-self
invariant_of-self c =
    let rest = rw c.unwrap-entry.ensures at c.take.ensures.rest in (
      (λ kind is. (taken_fits (λ x. FitsMark kind.ranking x.ratio) _ _ _ rest (c.self.invariant.0 kind is)).1),
      (taken_fits (λ x. FitsRatio x.ratio) _ _ _ rest c.self.invariant.1).1,
      (λ kind is lot at. no_draws lot (peers c.take.new.self) 0 refl),
    )

pub returns-clause-taken : goal.returns-clause-taken
returns-clause-taken c =
    let rest = rw c.unwrap-entry.ensures at c.take.ensures.rest in
    let first = sym (alike c.self.inside.prio).same_top ∙ sym c.take.ensures.top ∙ c.unwrap-entry.ensures in
    taken_is c.self.inside.kind c.unwrap-kind.result c.self.inside.prio c.take.new.self c.unwrap-entry.result c.taken.result c.args.self.now.on top
    c.unwrap-kind.ensures (ap (λ (t : LotTable). t.on) c.self.view_is) c.taken.ensures first rest

pub returns-clause-within : goal.returns-clause-within
returns-clause-within c = λ e all.
    let rest = rw c.unwrap-entry.ensures at c.take.ensures.rest in
    taken_within e c.self.inside.kind c.unwrap-kind.result c.self.inside.prio c.take.new.self c.unwrap-entry.result c.taken.result c.args.self.now.on
    c.unwrap-kind.ensures (ap (λ (t : LotTable). t.on) c.self.view_is) c.taken.ensures rest all
