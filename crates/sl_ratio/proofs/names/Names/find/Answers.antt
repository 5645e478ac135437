use Rattle.std.proofs.Common.{◌≡◌, sym, subst, ◌∙◌}
use Rattle.std.specs.Str.{bytes_eq}
use Rattle.sl_base_quotients.specs.Names.{NameList, number_of}
use Rattle.sl_base_quotients.proofs.NameLists.{position-map, number_stands, number_lacks}
use Rattle.sl_ratio.proofs.names.Names.find.Goals as goal

pub returns-clause-number : goal.returns-clause-number
returns-clause-number c =
    subst (λ (l : NameList). c.get_index_of.result ≡ number_of l c.args.name.now) c.self.view_is
    (c.get_index_of.ensures.index ∙ sym (position-map (λ key. key.items) (bytes_eq c.args.name.now) c.self.inside.names.keys))

pub returns-clause-stands : goal.returns-clause-stands
returns-clause-stands c = number_stands c.args.self.now c.args.name.now _ (returns-clause-number c)

pub returns-clause-lacks : goal.returns-clause-lacks
returns-clause-lacks c none = number_lacks c.args.self.now c.args.name.now (sym (returns-clause-number c) ∙ none)
