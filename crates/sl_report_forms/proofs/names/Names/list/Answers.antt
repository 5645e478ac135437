use Rattle.std.proofs.Common.{◌≡◌, ◌∙◌, ◌∷◌, ◌++◌, [], ℕ, List, ap, map, refl, string_bytes, sym}
use Rattle.std.specs.List.{join_by}
use Rattle.std.proofs.lemmas.List.Folds.{flat_map-map}
use Rattle.sl_report_forms.specs.NameTexts.{text_in}
use Rattle.sl_report_forms.proofs.names.Names.list.Goals as goal

join_by-map : {X : Type 0} (f : X → List ℕ) (mark : List ℕ) (xs : List X) → join_by (λ t. t) mark (map f xs) ≡ join_by f mark xs
join_by-map f mark [] = refl
join_by-map f mark (x ∷ xs) = ap (λ ts. f x ++ ts) (flat_map-map (λ t. mark ++ t) f xs)

pub returns : goal.returns
returns c =
    let mark = c.args.mark.now in
    c.in_ok-join.ensures.ok ∙ ap (join_by string_bytes mark) c.deref.ensures.value ∙ sym (join_by-map string_bytes mark c.in_ok-texts.texts.items)
    ∙ ap (join_by (λ t. t) mark) c.in_ok-texts.ensures ∙ join_by-map (text_in c.args.self.now c.args.length c.args.scope) mark c.args.entries.now
