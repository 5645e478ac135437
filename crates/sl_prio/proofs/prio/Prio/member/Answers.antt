use Rattle.std.proofs.Common.{rules, ◌≡◌, Some, slice_get, sym, ap, ◌∙◌}
use Rattle.std.specs.List.{filter}
use Rattle.std.proofs.lemmas.Iterator.{YieldsList-from_slice, first_from_find}
use Rattle.std.proofs.lemmas.Iterator.Consumers.{YieldsList-from_copied}
use borrow.Author.Tests.{tests}
use Rattle.sl_base_quotients.specs.declared.entry.Entry.{Entry}
use Rattle.sl_base_rankings.specs.Ranking.{ranked}
use Rattle.sl_base_rankings.specs.Peers.{has_quotient_of}
use Rattle.sl_base_rankings.proofs.Tables.{peers-at_top, member-from_find}
use Rattle.sl_prio.proofs.prio.Prio.member.Goals as goal

pub returns : goal.returns
returns c =
    let entries = c.args.self.now in
    let first = c.in_ok-top.top in
    let found = first_from_find _ _ c.find.result
    (λ (x : Entry). slice_get (ranked (filter (has_quotient_of first) entries)) c.args.i ≡ Some x)
    (λ (x : Entry). slice_get (ranked (filter (has_quotient_of first) entries)) c.args.i ≡ Some x → ⊥)
    c.find.ensures.ran (YieldsList-from_copied (YieldsList-from_slice entries (cc))) (λ x q k. search (rules, tests)) (λ x q k. search (rules, tests)) in
    member-from_find entries first c.args.i c.find.result found ∙
    sym (ap (λ ps. slice_get ps c.args.i) (peers-at_top entries first (sym c.top.ensures ∙ c.in_ok-top.was)))
