-- What is held is what the last state stands for.
use Rattle.std.proofs.Common.{◌≡◌, ◌<◌, ℕ, [], length, get_or, replicate, ap, ◌∙◌, arith}
use Rattle.std.proofs.lemmas.List.{length-map}
use Rattle.sl_code_steps.specs.inner.Stores.{columns_of}
use Rattle.sl_code_steps.proofs.stores.Cells.{column_here}
use Rattle.sl_code_steps.proofs.stores.Leavings.{held_column, held_nowhere}
use Rattle.sl_code_steps.proofs.memory.Memory.new.Goals as goal

pub returns-in-Some : goal.returns-in-Some
returns-in-Some c = λ code e sizes.
    let s = c.args.store in
    let base : c.args.base < length (columns_of s) = omega (arith, c.requires.base, length-map (columns_of s) length) in
    let slot : c.in-Some.slot < length (columns_of s) = omega (arith, c.requires.vacant c.in-Some.slot c.in-Some.is, length-map (columns_of s) length) in
    rw c.in-Some.is (c.of.ensures ∙ held_column code e s sizes c.args.base c.in-Some.slot base slot)

pub returns-in-None : goal.returns-in-None
returns-in-None c = λ code e sizes.
    let s = c.args.store in
    let base : c.args.base < length (columns_of s) = omega (arith, c.requires.base, length-map (columns_of s) length) in
    let here : c.index.result.now ≡ get_or (columns_of s) c.args.base [] = column_here (columns_of s) c.args.base c.index.result.now base c.index.ensures in
    let zeros : c.zeros-zeros.result ≡ replicate (length (get_or (columns_of s) c.args.base [])) 0 =
    c.zeros-zeros.ensures ∙ ap (λ (n : ℕ). replicate n 0) (c.len.ensures.value ∙ ap length here) in
    rw c.in-None.is (c.of-in-None.ensures ∙ held_nowhere code e s sizes c.args.base c.zeros-zeros.result base zeros)
