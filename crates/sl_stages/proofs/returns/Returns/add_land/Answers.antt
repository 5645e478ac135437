-- The returns with a Land more.
use Rattle.std.proofs.Common.{◌≡◌, ◌++◌, ◌∷◌, [], List, ℕ, None, map, replicate, ap, sym, subst, ◌∙◌}
use Rattle.std.proofs.lemmas.List.{map_push}
use Rattle.sl_base_quotients.specs.Names.{name_fault}
use Rattle.sl_base_quotients.specs.declared.limits.TheConstants.{MAX_LANDS, MAX_PARTIES}
use Rattle.sl_law_meaning.specs.returns.Election.{Election, IsElection, with_land}
use Rattle.sl_stages.specs.inner.Kept.{election_of}
use Rattle.sl_law_meaning.proofs.Elections.{is_with_land, is_spelled}
use Rattle.sl_stages.proofs.returns.Returns.add_land.Goals as goal
use Rattle.sl_stages.proofs.returns.Returns.add_land.Goals.{After-put-3}

pub new-requires : goal.new-requires
new-requires c = is_spelled (record { limit = MAX_LANDS; names = c.args.self.now.land_names }) c.args.name.now c.requires.name

-- the names of the Länder, with the one that was added
named : (c : After-put-3) → c.put.new.items.items ≡ c.self.inside.lands.items ++ c.args.name.now ∷ []
named c =
    c.put.ensures
    ∙ ap (λ names. names ++ c.new.result ∷ []) c.make_room.ensures.same
    ∙ ap (λ (name : List ℕ). c.self.inside.lands.items ++ name ∷ []) c.new.ensures

people : (c : After-put-3) → c.put-2.new.items.items ≡ c.self.inside.populations.items ++ c.args.population ∷ []
people c = c.put-2.ensures ∙ ap (λ ns. ns ++ c.args.population ∷ []) c.make_room-2.ensures.same

rows : (c : After-put-3) → map (λ row. row.items) c.put-3.new.items.items ≡ map (λ row. row.items) c.self.inside.rows.items ++ replicate MAX_PARTIES None ∷ []
rows c =
    ap (map (λ row. row.items)) (c.put-3.ensures ∙ ap (λ rows. rows ++ c.in_ok-row.row ∷ []) c.make_room-3.ensures.same)
    ∙ map_push (λ row. row.items) c.self.inside.rows.items c.in_ok-row.row
    ∙ ap (λ row. map (λ row. row.items) c.self.inside.rows.items ++ row ∷ []) c.in_ok-row.ensures

-- the election that the fields keep in the end
abbrev after : After-put-3 → Election
after c = election_of (record c.self.inside { lands = c.put.new.items; populations = c.put-2.new.items; rows = c.put-3.new.items })

joined : (c : After-put-3) → after c ≡ with_land (election_of c.self.inside) c.args.name.now c.args.population
joined c = rw (named c, people c, rows c)

pub invariant_of-self-2 : goal.invariant_of-self-2
invariant_of-self-2 c =
    let e = election_of c.self.inside in
    let may = subst (λ (names : List (List ℕ)). name_fault (record { limit = MAX_LANDS; names = names }) c.args.name.now ≡ None) (sym (ap (λ e. e.land_names) c.self.view_is)) c.requires.name in
    subst IsElection (sym (joined c)) (is_with_land e c.args.name.now c.args.population c.self.invariant may c.requires.population)

pub returns-clause-added : goal.returns-clause-added
returns-clause-added c = joined c ∙ ap (λ e. with_land e c.args.name.now c.args.population) c.self.view_is
