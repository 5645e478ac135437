use Rattle.std.proofs.Common.{◌∙◌, ◌∷◌, ◌++◌, ap, append_assoc, codes, sym}
use Rattle.sl_report_forms.specs.NameTexts.{name_in}
use Rattle.sl_report_forms.specs.declared.names.Length.TheVariants.{Short}
use Rattle.sl_report_forms.proofs.names.Names.scope.Goals as goal

pub returns-in_ok-format-in-List : goal.returns-in_ok-format-in-List
returns-in_ok-format-in-List c =
    let land = name_in c.args.self.now.lands.items Short c.in-List.land in
    let party = name_in c.args.self.now.parties.items Short c.in-List.party in
    rw c.in-List.is (
    c.in_ok-format-in-List.ensures.ok ∙ ap (λ t. codes "list " ++ (t ++ 32 ∷ c.party-party-in-List.result.now)) c.land-land-in-List.ensures
    ∙ ap (λ t. codes "list " ++ (land ++ 32 ∷ t)) c.party-party-in-List.ensures ∙ ap (λ t. codes "list " ++ t) (sym (append_assoc land (codes " ") party)))
