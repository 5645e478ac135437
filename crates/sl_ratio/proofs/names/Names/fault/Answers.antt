use Rattle.std.proofs.Common.{◌≡◌, ◌<◌, ◌≤◌, length, map, Some, None, sym, subst, ◌∙◌, arith}
use Rattle.std.proofs.lemmas.List.{length-map}
use Rattle.std.specs.Str.{bytes_eq}
use Rattle.sl_base_quotients.specs.declared.spelling.NameFault.TheVariants.{Twice, Full}
use Rattle.sl_base_quotients.specs.Names.{NameList, name_fault}
use Rattle.sl_base_quotients.proofs.NameLists.{list_any-map, is_twice, is_full, is_free}
use Rattle.sl_ratio.proofs.names.Names.fault.Goals as goal

pub returns-then-contains : goal.returns-then-contains
returns-then-contains c =
    let keys = c.self.inside.names.keys in
    let there = list_any-map (λ key. key.items) (bytes_eq c.args.name.now) keys ∙ sym c.contains.ensures ∙ c.if-contains.true in
    let list : NameList = record { limit = c.self.inside.limit; names = map (λ key. key.items) keys } in
    subst (λ (l : NameList). Some Twice ≡ name_fault l c.args.name.now) c.self.view_is (sym (is_twice list _ (sym c.spelling_fault.ensures ∙ c.in_default.is) there))

pub returns-then-len-self : goal.returns-then-len-self
returns-then-len-self c =
    let keys = c.self.inside.names.keys in
    let new = list_any-map (λ key. key.items) (bytes_eq c.args.name.now) keys ∙ sym c.contains.ensures ∙ c.if-contains.false in
    let list : NameList = record { limit = c.self.inside.limit; names = map (λ key. key.items) keys } in
    let full : list.limit ≤ length list.names = omega (arith, length-map keys (λ key. key.items)) in
    subst (λ (l : NameList). Some Full ≡ name_fault l c.args.name.now) c.self.view_is (sym (is_full list _ (sym c.spelling_fault.ensures ∙ c.in_default.is) new full))

pub returns-else-len-self : goal.returns-else-len-self
returns-else-len-self c =
    let keys = c.self.inside.names.keys in
    let new = list_any-map (λ key. key.items) (bytes_eq c.args.name.now) keys ∙ sym c.contains.ensures ∙ c.if-contains.false in
    let list : NameList = record { limit = c.self.inside.limit; names = map (λ key. key.items) keys } in
    let free : length list.names < list.limit = omega (arith, length-map keys (λ key. key.items)) in
    subst (λ (l : NameList). None ≡ name_fault l c.args.name.now) c.self.view_is (sym (is_free list _ (sym c.spelling_fault.ensures ∙ c.in_default.is) new free))
