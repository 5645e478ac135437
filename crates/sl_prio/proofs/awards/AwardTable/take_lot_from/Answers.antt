use Rattle.std.proofs.Common.{List, IsPermutation, sym, ap, subst, ◌∙◌}
use Rattle.sl_base_quotients.specs.declared.entry.Entry.{Entry}
use Rattle.sl_base_rankings.specs.Lot.{drawn}
use Rattle.sl_base_rankings.specs.Peers.{peers}
use Rattle.sl_prio.specs.inner.Marks.{IsPassed}
use Rattle.sl_prio.specs.inner.Taken.{held_in}
use Rattle.sl_base_rankings.proofs.LawProofs.{order_is_free}
use Rattle.sl_prio.specs.declared.prio.Drawn.{Drawn}
use Rattle.sl_prio.proofs.TakenTops.{none_alike, rest_alike}
use Rattle.sl_prio.proofs.awards.AwardTable.take_lot_from.Goals as goal

pub take_lot_from-requires : goal.take_lot_from-requires
take_lot_from-requires c =
    let held = held_in c.self.inside.is_top_taken c.self.inside.prio in
    subst (λ (ps : List Entry). IsPassed c.args.lot.now c.args.passed ps) (sym (ap peers c.self.view_is) ∙ (order_is_free held c.settle.new.prio c.settle.ensures).same_peers) c.requires

pub returns-clause-drawn : goal.returns-clause-drawn
returns-clause-drawn c =
    let held = held_in c.self.inside.is_top_taken c.self.inside.prio in
    c.take_lot_from.ensures.drawn ∙ sym ((order_is_free held c.settle.new.prio c.settle.ensures).same_drawn c.args.lot.now) ∙ ap (drawn c.args.lot.now) c.self.view_is

pub returns-clause-rest : goal.returns-clause-rest
returns-clause-rest c =
    let same = subst (λ (xs : List Entry). IsPermutation xs c.settle.new.prio) c.self.view_is c.settle.ensures in
    rest_alike (λ (taken : Drawn). taken.entry) c.args.self.now c.settle.new.prio c.take_lot_from.new.self same c.take_lot_from.result c.take_lot_from.ensures.rest

pub returns-clause-none : goal.returns-clause-none
returns-clause-none c =
    let same = subst (λ (xs : List Entry). IsPermutation xs c.settle.new.prio) c.self.view_is c.settle.ensures in
    none_alike (λ (taken : Drawn). taken.entry) c.args.self.now c.settle.new.prio c.take_lot_from.new.self same c.take_lot_from.result c.take_lot_from.ensures.none
