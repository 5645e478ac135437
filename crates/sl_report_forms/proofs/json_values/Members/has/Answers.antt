use Rattle.std.proofs.Common.{◌≡◌, List, Option, Some, None, Bool, true, false, IfSome, is_some, option_map, subst, refl, ap, ◌∙◌, if◌then◌else◌}
use Rattle.serde_json.specs.View.{view}
use Rattle.serde_json.proofs.Views.{view-lookup}
use Rattle.sl_report_forms.proofs.json_values.Members.has.Goals as goal

is_some-map : {A B : Type 0} (f : A → B) (o : Option A) → is_some o ≡ is_some (option_map f o)
is_some-map f None = refl
is_some-map f (Some x) = refl

-- what holds of the items of a whole list
of_whole : {A : Type 0} (whole : Bool) (xs : List A) (o : Option (List A)) (P : List A → Type 0) → P xs → (if whole then Some xs else None) ≡ o → IfSome o P
of_whole true xs o P p e = subst (λ o. IfSome o P) e p
of_whole false xs o P p e = subst (λ o. IfSome o P) e tt

pub returns : goal.returns
returns c =
    of_whole c.self.inside.is_whole c.self.inside.map.entries c.args.self.now _
    (c.contains_key.ensures ∙ is_some-map view _ ∙ ap is_some (view-lookup c.args.key.now c.self.inside.map.entries))
    c.self.view_is
