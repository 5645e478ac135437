-- The returns with a winner more.
use Rattle.std.proofs.Common.{◌≡◌, ◌++◌, ◌∷◌, [], List, ℕ, None, length, rules, ap, sym, subst, ◌∙◌}
use Rattle.sl_base_quotients.specs.Names.{name_fault}
use Rattle.sl_law_meaning.specs.declared.limits.TheConstants.{MAX_WINS}
use Rattle.sl_law_meaning.specs.declared.election.Win.{Win}
use Rattle.sl_law_meaning.specs.returns.Election.{Election, IsElection, IsWin, with_win}
use Rattle.sl_stages.specs.inner.Kept.{election_of}
use Rattle.sl_law_meaning.proofs.Elections.{is_with_win, is_spelled}
use Rattle.sl_stages.proofs.returns.Returns.add_win.Goals as goal
use Rattle.sl_stages.proofs.returns.Returns.add_win.Goals.{After-put-2}

pub new-requires : goal.new-requires
new-requires c = is_spelled (record { limit = MAX_WINS; names = c.args.self.now.win_names }) c.args.name.now c.requires.name

-- the constituencies, with the one that was added
named : (c : After-put-2) → c.put.new.items.items ≡ c.self.inside.winners.items ++ c.args.name.now ∷ []
named c =
    c.put.ensures
    ∙ ap (λ names. names ++ c.new.result ∷ []) c.make_room.ensures.same
    ∙ ap (λ (name : List ℕ). c.self.inside.winners.items ++ name ∷ []) c.new.ensures

abbrev win : After-put-2 → Win
win c = record { land = c.args.land; party = c.args.party; first = c.args.first; valid = c.args.valid }

wins : (c : After-put-2) → c.put-2.new.items.items ≡ c.self.inside.wins.items ++ win c ∷ []
wins c = c.put-2.ensures ∙ ap (λ ws. ws ++ win c ∷ []) c.make_room-2.ensures.same

-- the election that the fields keep in the end
abbrev after : After-put-2 → Election
after c = election_of (record c.self.inside { winners = c.put.new.items; wins = c.put-2.new.items })

joined : (c : After-put-2) → after c ≡ with_win (election_of c.self.inside) c.args.name.now (win c)
joined c = rw (named c, wins c)

-- the winner names a Land and a party of the election
placed : (c : After-put-2) → IsWin (length (election_of c.self.inside).land_names) (length (election_of c.self.inside).party_names) (win c)
placed c = subst (λ (e : Election). IsWin (length e.land_names) (length e.party_names) (win c)) (sym c.self.view_is) (search rules)

pub invariant_of-self-2 : goal.invariant_of-self-2
invariant_of-self-2 c =
    let e = election_of c.self.inside in
    let may = subst (λ (names : List (List ℕ)). name_fault (record { limit = MAX_WINS; names = names }) c.args.name.now ≡ None) (sym (ap (λ e. e.win_names) c.self.view_is)) c.requires.name in
    subst IsElection (sym (joined c)) (is_with_win e c.args.name.now (win c) c.self.invariant may (placed c))
