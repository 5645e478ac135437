use Rattle.std.proofs.Common.{◌≡◌, ◌∷◌, Bool, List, IsPermutation, subst, sym, true}
use Rattle.sl_base_quotients.specs.declared.entry.Entry.{Entry}
use Rattle.sl_prio.specs.inner.Taken.{held_in}
use Rattle.sl_prio.proofs.TakenTops.{alone_replaced}
use Rattle.sl_prio.proofs.awards.AwardTable.put.Goals as goal

pub returns-clause-added : goal.returns-clause-added
returns-clause-added c =
    let held = c.self.inside.prio in
    let taken : c.self.inside.is_top_taken ≡ true = search in
    subst (λ (xs : List Entry). IsPermutation (c.args.entry ∷ xs) c.replace_top.new.self) c.self.view_is
    (subst (λ (b : Bool). IsPermutation (c.args.entry ∷ held_in b held) c.replace_top.new.self) (sym taken)
    (alone_replaced held c.replace_top.new.self c.args.entry (c.self.invariant taken) c.replace_top.ensures))
