-- The returns with a party more.
use Rattle.std.proofs.Common.{◌≡◌, ◌++◌, ◌∷◌, [], List, ℕ, None, ap, sym, subst, ◌∙◌}
use Rattle.sl_base_quotients.specs.Names.{name_fault}
use Rattle.sl_base_quotients.specs.declared.limits.TheConstants.{MAX_PARTIES}
use Rattle.sl_law_meaning.specs.returns.Election.{Election, IsElection, with_party}
use Rattle.sl_stages.specs.inner.Kept.{election_of}
use Rattle.sl_law_meaning.proofs.Elections.{is_with_party, is_spelled}
use Rattle.sl_stages.proofs.returns.Returns.add_party.Goals as goal
use Rattle.sl_stages.proofs.returns.Returns.add_party.Goals.{After-put-2}

pub new-requires : goal.new-requires
new-requires c = is_spelled (record { limit = MAX_PARTIES; names = c.args.self.now.party_names }) c.args.name.now c.requires

-- the names of the parties, with the one that was added
named : (c : After-put-2) → c.put.new.items.items ≡ c.self.inside.parties.items ++ c.args.name.now ∷ []
named c = c.put.ensures ∙ ap (λ names. names ++ c.new.result ∷ []) c.make_room.ensures.same ∙ ap (λ (name : List ℕ). c.self.inside.parties.items ++ name ∷ []) c.new.ensures

flags : (c : After-put-2) → c.put-2.new.items.items ≡ c.self.inside.minorities.items ++ c.args.minority ∷ []
flags c = c.put-2.ensures ∙ ap (λ bs. bs ++ c.args.minority ∷ []) c.make_room-2.ensures.same

-- the election that the fields keep in the end
abbrev after : After-put-2 → Election
after c = election_of (record c.self.inside { parties = c.put.new.items; minorities = c.put-2.new.items })

joined : (c : After-put-2) → after c ≡ with_party (election_of c.self.inside) c.args.name.now c.args.minority
joined c = rw (named c, flags c)

pub invariant_of-self-2 : goal.invariant_of-self-2
invariant_of-self-2 c =
    let e = election_of c.self.inside in
    let may = subst (λ (names : List (List ℕ)). name_fault (record { limit = MAX_PARTIES; names = names }) c.args.name.now ≡ None) (sym (ap (λ e. e.party_names) c.self.view_is)) c.requires in
    subst IsElection (sym (joined c)) (is_with_party e c.args.name.now c.args.minority c.self.invariant may)
