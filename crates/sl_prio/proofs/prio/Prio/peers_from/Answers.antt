use Rattle.std.proofs.Common.{rules, ◌&&◌, ◌∙◌}
use Rattle.std.specs.Ordering.{is_ge}
use Rattle.std.proofs.lemmas.Iterator.{YieldsList-from_slice}
use Rattle.std.proofs.lemmas.Iterator.Consumers.{YieldsList-from_filter, count_from_yields_List}
use Rattle.std.proofs.lemmas.List.Sums.{length-filter}
use borrow.Author.Tests.{tests}
use Rattle.sl_base_quotients.specs.declared.entry.Entry.{Entry}
use Rattle.sl_base_quotients.specs.Entry.{entry_cmp}
use Rattle.sl_base_rankings.specs.Peers.{has_quotient_of}
use Rattle.sl_prio.proofs.prio.Prio.peers_from.Goals as goal

pub returns : goal.returns
returns c =
    let test = λ (peer : Entry). has_quotient_of c.args.top.now peer && is_ge (entry_cmp peer c.args.entry.now) in
    count_from_yields_List c.filter.result c.count.result c.count.ensures.ran
    (YieldsList-from_filter _ test (YieldsList-from_slice c.args.self.now (cc)) c.filter.ensures.closure (λ x r q k. search (rules, tests))) ∙
    length-filter test c.args.self.now
