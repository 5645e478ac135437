-- The returns with a lot more.
use Rattle.std.proofs.Common.{◌≡◌, ◌<◌, ◌++◌, ◌∷◌, [], None, length, rules, ap, sym, subst, ◌∙◌}
use Rattle.sl_base_quotients.specs.Names.{spelling_fault}
use Rattle.sl_law_meaning.specs.declared.limits.TheConstants.{MAX_LOTS}
use Rattle.sl_law_meaning.specs.declared.election.Lot.{Lot}
use Rattle.sl_law_meaning.specs.returns.Election.{Election, IsElection, IsLot, with_lot}
use Rattle.sl_stages.specs.inner.Kept.{election_of}
use Rattle.sl_law_meaning.proofs.Elections.{is_with_lot}
use Rattle.sl_stages.proofs.returns.Returns.add_lot.Goals as goal
use Rattle.sl_stages.proofs.returns.Returns.add_lot.Goals.{After-put}

abbrev lot : After-put → Lot
lot c = record { land = c.args.land; party = c.args.party; stage = c.new.result; win = c.args.win }

lots : (c : After-put) → c.put.new.items.items ≡ c.self.inside.lots.items ++ lot c ∷ []
lots c = c.put.ensures ∙ ap (λ ls. ls ++ lot c ∷ []) c.make_room.ensures.same

joined : (c : After-put) → election_of (record c.self.inside { lots = c.put.new.items }) ≡ with_lot (election_of c.self.inside) (lot c)
joined c = rw (lots c)

-- the lot names a Land, a party and a winner of the election
named : (c : After-put) → IsLot (length (election_of c.self.inside).land_names) (length (election_of c.self.inside).party_names) (length (election_of c.self.inside).win_names) (lot c)
named c =
    let wins = c.self.invariant.wins in
    let stage = subst (λ stage. spelling_fault stage ≡ None) (sym c.new.ensures) c.requires.stage in
    let e = election_of c.self.inside in
    let kept = subst (λ (e : Election). IsLot (length e.land_names) (length e.party_names) (length e.wins) (lot c)) (sym c.self.view_is) (search rules) in
    subst (λ n. IsLot (length e.land_names) (length e.party_names) n (lot c)) (sym wins) kept

pub invariant_of-self-2 : goal.invariant_of-self-2
invariant_of-self-2 c =
    let e = election_of c.self.inside in
    let room : length e.lots < MAX_LOTS = subst (λ (e : Election). length e.lots < MAX_LOTS) (sym c.self.view_is) c.requires.room in
    subst IsElection (sym (joined c)) (is_with_lot e (lot c) c.self.invariant room (named c))
