use Rattle.std.proofs.Common.{◌≡◌, ◌+◌, ◌++◌, true, false, sym, ap, ◌∙◌, vec_len, arith}
use Rattle.sl_compile_layout.specs.inner.Layout.{tree_of}
use Rattle.sl_compile_plans.specs.Trees.{is_nothing, flat}
use Rattle.sl_compile_layout.proofs.Laying.{unless_laid, if_laid}
use Rattle.sl_compile_layout.proofs.emitter.+put.Goals as goal

pub returns-then-is_nothing-clause-items : goal.returns-then-is_nothing-clause-items
returns-then-is_nothing-clause-items t c =
    let given = c.args.given.now in
    let start = c.args.code.now.items in
    let p = vec_len c.args.code.now in
    let arm = tree_of given c.in-If.arm.now in
    let other = tree_of given c.in-If.other.now in
    let none : is_nothing arm ≡ true = sym (c.is_nothing.ensures given) ∙ c.if-is_nothing.true in
    let target = c.len-at.result + c.size.result + 1 in
    unless_laid c.args.known p c.in-If.test arm other none start c.push-then-is_nothing.new.code.items c.put-then-is_nothing.new.code.items c.push-then-is_nothing-2.new.code.items
    c.jump-jump.result c.known_after.result c.at_join-joined.result target (vec_len c.push-then-is_nothing.new.code)
    (omega (arith, c.len-at.ensures, c.size.ensures))
    (omega (arith, c.push-then-is_nothing.ensures.len))
    c.jump-jump.ensures c.known_after.ensures c.at_join-joined.ensures
    c.push-then-is_nothing.ensures.items c.put-then-is_nothing.ensures.items c.push-then-is_nothing-2.ensures.items
    ∙ ap (λ plan. start ++ flat c.args.known p (tree_of given plan)) (sym c.in-If.is)

pub returns-else-is_nothing-clause-items : goal.returns-else-is_nothing-clause-items
returns-else-is_nothing-clause-items t c =
    let given = c.args.given.now in
    let start = c.args.code.now.items in
    let p = vec_len c.args.code.now in
    let arm = tree_of given c.in-If.arm.now in
    let other = tree_of given c.in-If.other.now in
    let some : is_nothing arm ≡ false = sym (c.is_nothing.ensures given) ∙ c.if-is_nothing.false in
    let target = c.len-at.result + c.size.result + 1 + 1 in
    let end = c.len-at.result + c.size.result + 1 + c.size-else-is_nothing.result + 2 in
    if_laid c.args.known p c.in-If.test arm other some start c.push-else-is_nothing.new.code.items c.put-else-is_nothing.new.code.items c.push-else-is_nothing-2.new.code.items
    c.push-else-is_nothing-3.new.code.items c.put-else-is_nothing-2.new.code.items c.push-else-is_nothing-4.new.code.items
    c.jump-jump-else-is_nothing.result c.known_after-else-is_nothing.result c.known_in_arm-known.result c.at_join-joined.result target end
    (vec_len c.push-else-is_nothing.new.code) (vec_len c.push-else-is_nothing-3.new.code)
    (omega (arith, c.len-at.ensures, c.size.ensures))
    (omega (arith, c.size-else-is_nothing.ensures))
    (omega (arith, c.push-else-is_nothing.ensures.len))
    (omega (arith, c.push-else-is_nothing-3.ensures.len, c.push-else-is_nothing-2.ensures.len, c.put-else-is_nothing.ensures.len, c.push-else-is_nothing.ensures.len, c.len-at.ensures, c.size.ensures))
    c.jump-jump-else-is_nothing.ensures c.known_after-else-is_nothing.ensures c.known_in_arm-known.ensures c.at_join-joined.ensures
    c.push-else-is_nothing.ensures.items c.put-else-is_nothing.ensures.items c.push-else-is_nothing-2.ensures.items c.push-else-is_nothing-3.ensures.items
    c.put-else-is_nothing-2.ensures.items c.push-else-is_nothing-4.ensures.items
    ∙ ap (λ plan. start ++ flat c.args.known p (tree_of given plan)) (sym c.in-If.is)
