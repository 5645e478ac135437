use Rattle.std.proofs.Common.{◌≡◌, List, ℕ, map, slice_get, Some, IsTrue, ap, sym, subst, ◌∙◌}
use Rattle.std.specs.Option.{option_map}
use Rattle.std.proofs.lemmas.Option.{slice_get-map, slice_get_within, get_or_from_slice_get}
use Rattle.sl_base_quotients.specs.Names.{is_name}
use Rattle.sl_ratio.proofs.names.Names.name.Goals as goal

pub returns-clause-spelled : goal.returns-clause-spelled
returns-clause-spelled c =
    let names : List (List ℕ) = map (λ key. key.items) c.self.inside.names.keys in
    let name = c.deref.result.now in
    let at : slice_get names c.args.number ≡ Some name =
    slice_get-map (λ key. key.items) c.self.inside.names.keys c.args.number ∙ ap (option_map (λ key. key.items)) c.index.ensures ∙ ap Some (sym c.deref.ensures.value) in
    subst (λ (n : List ℕ). IsTrue (is_name n)) (get_or_from_slice_get names c.args.number name name at)
    (c.self.invariant.spelled c.args.number name (slice_get_within names c.args.number name at))
