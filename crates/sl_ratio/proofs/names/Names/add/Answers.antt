use Rattle.std.proofs.Common.{◌≡◌, List, ℕ, [], ◌∷◌, ◌++◌, None, map, ap, sym, subst, ◌∙◌}
use Rattle.sl_base_quotients.specs.Names.{NameList, IsNameList, name_fault}
use Rattle.sl_base_quotients.proofs.NameLists.{joins, with_name, map-inserted}
use Rattle.sl_ratio.proofs.names.Names.add.Goals as goal
use Rattle.sl_ratio.proofs.names.Names.add.Goals.{In-Ok-insert}

-- the list before, as the fields have it
abbrev before : In-Ok-insert → NameList
before c = record { limit = c.self-2.inside.limit; names = map (λ key. key.items) c.self-2.inside.names.keys }

same : (c : In-Ok-insert) → before c ≡ c.args.self.now
same c = c.self-2.view_is ∙ c.make_room.ensures

free : (c : In-Ok-insert) → name_fault (before c) c.args.name.now ≡ None
free c = subst (λ (l : NameList). name_fault l c.args.name.now ≡ None) (sym (same c)) (sym c.fault.ensures ∙ c.in_default.is)

names_after : (c : In-Ok-insert) → map (λ key. key.items) c.insert.new.self.keys ≡ (before c).names ++ c.args.name.now ∷ []
names_after c =
    ap (map (λ key. key.items)) c.in-Ok-insert.ensures.keys ∙
    map-inserted (λ key. key.items) c.self-2.inside.names.keys c.in-Ok.kept c.args.name.now c.in-Ok.ensures.items (joins (before c) _ (free c)).new

pub invariant_of-self-2 : goal.invariant_of-self-2
invariant_of-self-2 c =
    subst (λ (n : List (List ℕ)). IsNameList (record { limit = c.self-2.inside.limit; names = n })) (sym (names_after c))
    (with_name (before c) c.args.name.now (free c) c.self-2.invariant)

pub returns-clause-added : goal.returns-clause-added
returns-clause-added c = rw (sym (same c), names_after c)
