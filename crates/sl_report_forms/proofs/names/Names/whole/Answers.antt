use Rattle.std.proofs.Common.{◌∙◌, ◌∷◌, ◌++◌, ap, append_assoc, codes, sym}
use Rattle.sl_report_forms.specs.NameTexts.{name_in}
use Rattle.sl_report_forms.proofs.names.Names.whole.Goals as goal

pub returns-in_ok-format-in-List : goal.returns-in_ok-format-in-List
returns-in_ok-format-in-List c =
    let land = name_in c.args.self.now.lands.items c.args.length c.in-List.land in
    let party = name_in c.args.self.now.parties.items c.args.length c.in-List.party in
    rw c.in-List.is (
    c.in_ok-format-in-List.ensures.ok ∙ ap (λ t. t ++ 47 ∷ c.party-party.result.now) c.land-land.ensures ∙ ap (λ t. land ++ 47 ∷ t) c.party-party.ensures
    ∙ sym (append_assoc land (codes "/") party))
