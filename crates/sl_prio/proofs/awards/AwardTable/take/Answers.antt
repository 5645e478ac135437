use Rattle.std.proofs.Common.{◌∷◌, Bool, List, IfSome, IfNone, IsPermutation, sym, subst, ◌∙◌}
use Rattle.sl_base_quotients.specs.declared.entry.Entry.{Entry}
use Rattle.sl_prio.specs.inner.Taken.{held_in}
use Rattle.sl_base_rankings.proofs.LawProofs.{order_is_free}
use Rattle.sl_prio.proofs.TakenTops.{none_alike, none_stays, rest_alike, top_stays}
use Rattle.sl_prio.proofs.awards.AwardTable.take.Goals as goal

pub returns-then-self-clause-top : goal.returns-then-self-clause-top
returns-then-self-clause-top c =
    let same = subst (λ (xs : List Entry). IsPermutation xs c.settle.new.prio) c.self.view_is c.settle.ensures in
    c.top.ensures ∙ sym (order_is_free c.args.self.now c.settle.new.prio same).same_top

pub returns-then-self-clause-rest : goal.returns-then-self-clause-rest
returns-then-self-clause-rest c =
    let same = subst (λ (xs : List Entry). IsPermutation xs c.settle.new.prio) c.self.view_is c.settle.ensures in
    subst (λ (taken : Bool). IfSome c.top.result (λ entry. IsPermutation c.args.self.now (entry ∷ held_in taken c.settle.new.prio))) (sym c.if-self.true)
    (top_stays c.args.self.now c.settle.new.prio c.top.result c.top.ensures same)

pub returns-then-self-clause-none : goal.returns-then-self-clause-none
returns-then-self-clause-none c =
    let same = subst (λ (xs : List Entry). IsPermutation xs c.settle.new.prio) c.self.view_is c.settle.ensures in
    subst (λ (taken : Bool). IfNone c.top.result (IsPermutation c.args.self.now (held_in taken c.settle.new.prio))) (sym c.if-self.true)
    (none_stays c.args.self.now c.settle.new.prio c.top.result c.top.ensures same)

pub returns-else-self-clause-top : goal.returns-else-self-clause-top
returns-else-self-clause-top c =
    let same = subst (λ (xs : List Entry). IsPermutation xs c.settle.new.prio) c.self.view_is c.settle.ensures in
    c.take.ensures.top ∙ sym (order_is_free c.args.self.now c.settle.new.prio same).same_top

pub returns-else-self-clause-rest : goal.returns-else-self-clause-rest
returns-else-self-clause-rest c =
    let same = subst (λ (xs : List Entry). IsPermutation xs c.settle.new.prio) c.self.view_is c.settle.ensures in
    subst (λ (taken : Bool). IfSome c.take.result (λ entry. IsPermutation c.args.self.now (entry ∷ held_in taken c.take.new.self))) (sym c.if-self.false)
    (rest_alike (λ entry. entry) c.args.self.now c.settle.new.prio c.take.new.self same c.take.result c.take.ensures.rest)

pub returns-else-self-clause-none : goal.returns-else-self-clause-none
returns-else-self-clause-none c =
    let same = subst (λ (xs : List Entry). IsPermutation xs c.settle.new.prio) c.self.view_is c.settle.ensures in
    subst (λ (taken : Bool). IfNone c.take.result (IsPermutation c.args.self.now (held_in taken c.take.new.self))) (sym c.if-self.false)
    (none_alike (λ (entry : Entry). entry) c.args.self.now c.settle.new.prio c.take.new.self same c.take.result c.take.ensures.none)
