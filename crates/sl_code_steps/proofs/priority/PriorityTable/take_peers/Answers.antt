-- Each peer is the top of what is left of the table.
use Rattle.std.proofs.Common.{◌≡◌, ◌<◌, ◌∷◌, ◌++◌, [], length, Option, Some, All, IsSome, refl, sym, ap, subst, ◌∙◌, arith}
use Rattle.std.proofs.lemmas.Option.{same_Some}
use Rattle.sl_base_quotients.specs.declared.entry.Entry.{Entry}
use Rattle.sl_base_quotients.specs.Quotient.{FitsRatio}
use Rattle.sl_base_rankings.specs.Peers.{peers}
use Rattle.sl_law_meaning.specs.declared.fault.Item.{Item}
use Rattle.sl_code_steps.specs.declared.priority.TableKind.{TableKind}
use Rattle.sl_code_semantics.specs.Places.{item_of}
use Rattle.sl_code_semantics.specs.Safe.{entries_in}
use Rattle.sl_code_steps.specs.inner.Tables.{FitsMark}
use Rattle.sl_code_steps.specs.inner.Lots.{LotTable}
use Rattle.sl_base_rankings.proofs.LawProofs.{order_is_free}
use Rattle.sl_code_steps.proofs.Priorities.{same_kept, same_on, taken_fits}
use Rattle.sl_code_steps.proofs.drawing.PeerLists.{top_left, peers_taken, rest_behind, one_more, range_held, peers_told, rest_told}
use Rattle.sl_code_steps.proofs.drawing.Passing.{no_draws}
use Rattle.sl_code_steps.proofs.priority.PriorityTable.take_peers.Goals as goal

pub loop-init : goal.loop-init
loop-init c =
    let held = c.peers-peers.new.self in
    let kept = same_kept c.self.inside held c.peers-peers.ensures.same c.self.invariant in
    let view = same_on c.self.inside held c.peers-peers.ensures.same c.self.view_is in record {
      kind = c.unwrap-kind.ensures;
      lots = refl;
      draws = refl;
      marks = kept.0 c.unwrap-kind.result c.unwrap-kind.ensures;
      ratios = kept.1;
      range = range_held c.args.returns.now c.self.inside.kind c.unwrap-kind.result held c.args.self.now.on c.unwrap-kind.ensures (ap (λ (t : LotTable). t.on) view) c.requires.range;
      rest = refl;
      items = c.new-items.ensures.items;
    }

pub unwrap-peer-requires : goal.unwrap-peer-requires
unwrap-peer-requires c =
    let held = c.peers-peers.new.self in
    let kept = same_kept c.self.inside held c.peers-peers.ensures.same c.self.invariant in
    let count = ap length (order_is_free c.self.inside.prio held c.peers-peers.ensures.same).same_peers in
    let more : c.loop.counter < length (peers held) = omega (arith, count) in
    subst (λ (o : Option Entry). IsSome o) (sym c.take.ensures.top)
    (top_left held kept.1 c.loop.self-inside.prio c.loop.counter more c.loop.invariant.rest)

pub item_of-requires : goal.item_of-requires
item_of-requires c =
    let rest = rw c.unwrap-peer.ensures at c.take.ensures.rest in
    (taken_fits (λ x. x.index < entries_in c.args.returns.now c.unwrap-kind.result.entries) _ _ _ rest c.loop.invariant.range).0

pub invariant_of-self-in_err-append : goal.invariant_of-self-in_err-append
invariant_of-self-in_err-append c =
    let rest = rw c.unwrap-peer.ensures at c.take.ensures.rest in
    let marks = (taken_fits (λ x. FitsMark c.unwrap-kind.result.ranking x.ratio) _ _ _ rest c.loop.invariant.marks).1 in
    let same = λ (k : TableKind) (is : c.loop.self-inside.kind ≡ Some k). same_Some c.unwrap-kind.result k (sym c.loop.invariant.kind ∙ is) in (
      (λ k is. subst (λ (k : TableKind). All (λ x. FitsMark k.ranking x.ratio) c.take.new.self) (same k is) marks),
      (taken_fits (λ x. FitsRatio x.ratio) _ _ _ rest c.loop.invariant.ratios).1,
      (λ k is lot at. no_draws lot (peers c.take.new.self) c.loop.self-inside.draws.passed c.loop.invariant.draws),
    )

pub loop-preserved : goal.loop-preserved
loop-preserved c =
    let rest = rw c.unwrap-peer.ensures at c.take.ensures.rest in
    let e = c.args.returns.now in
    let k = c.unwrap-kind.result in
    let first = sym c.take.ensures.top ∙ c.unwrap-peer.ensures in
    let more = one_more c.peers-peers.new.self c.loop.self-inside.prio c.take.new.self c.unwrap-peer.result c.loop.counter first rest c.loop.invariant.rest
    (λ x. item_of e k.entries x.index) c.loop.items.items c.loop.invariant.items in
    record {
      kind = c.loop.invariant.kind;
      lots = c.loop.invariant.lots;
      draws = c.loop.invariant.draws;
      marks = (taken_fits (λ x. FitsMark k.ranking x.ratio) _ _ _ rest c.loop.invariant.marks).1;
      ratios = (taken_fits (λ x. FitsRatio x.ratio) _ _ _ rest c.loop.invariant.ratios).1;
      range = (taken_fits (λ x. x.index < entries_in e k.entries) _ _ _ rest c.loop.invariant.range).1;
      rest = rest_behind c.peers-peers.new.self c.loop.self-inside.prio c.take.new.self c.unwrap-peer.result c.loop.counter first rest c.loop.invariant.rest;
      items = c.in_ok-append.ensures ∙ ap (λ (item : Item). c.loop.items.items ++ item ∷ []) c.item_of.ensures ∙ more;
    }

pub returns-clause-items : goal.returns-clause-items
returns-clause-items c =
    let held = c.peers-peers.new.self in
    let kept = same_kept c.self.inside held c.peers-peers.ensures.same c.self.invariant in
    let view = same_on c.self.inside held c.peers-peers.ensures.same c.self.view_is in
    let count = ap length (order_is_free c.self.inside.prio held c.peers-peers.ensures.same).same_peers in
    let all : c.loop.counter ≡ length (peers held) = omega (arith, count) in
    peers_told c.args.returns.now c.self.inside.kind c.unwrap-kind.result held c.args.self.now.on c.unwrap-kind.ensures (ap (λ (t : LotTable). t.on) view)
    _ c.loop.items.items (rw all (peers_taken held kept.1)) c.loop.invariant.items

pub returns-clause-rest : goal.returns-clause-rest
returns-clause-rest c =
    let held = c.peers-peers.new.self in
    let view = same_on c.self.inside held c.peers-peers.ensures.same c.self.view_is in
    let count = ap length (order_is_free c.self.inside.prio held c.peers-peers.ensures.same).same_peers in
    let all : c.loop.counter ≡ length (peers held) = omega (arith, count) in
    rest_told c.args.returns.now c.self.inside.kind c.unwrap-kind.result held c.args.self.now.on c.unwrap-kind.ensures (ap (λ (t : LotTable). t.on) view)
    c.loop.self-inside.prio c.loop.self-inside.kind c.loop.invariant.kind (rw all at c.loop.invariant.rest)

pub invariant_of-self : goal.invariant_of-self
invariant_of-self c =
    let l = c.loop in
    let same = λ (k : TableKind) (is : l.self-inside.kind ≡ Some k). same_Some c.unwrap-kind.result k (sym l.invariant.kind ∙ is) in (
      (λ k is. subst (λ (k : TableKind). All (λ x. FitsMark k.ranking x.ratio) l.self-inside.prio) (same k is) l.invariant.marks),
      l.invariant.ratios,
      (λ k is lot at. no_draws lot (peers l.self-inside.prio) l.self-inside.draws.passed l.invariant.draws),
    )

pub returns-in_err-append-clause-lots : goal.returns-in_err-append-clause-lots
returns-in_err-append-clause-lots c = c.loop.invariant.lots ∙ ap (λ (t : LotTable). t.lots) c.self.view_is

pub returns-clause-lots : goal.returns-clause-lots
returns-clause-lots c = c.loop.invariant.lots ∙ ap (λ (t : LotTable). t.lots) c.self.view_is
