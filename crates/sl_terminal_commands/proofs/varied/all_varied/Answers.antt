use Rattle.std.proofs.Common.{[], ap, arith, subst, sym, take, ◌++◌, ◌∙◌, ◌∷◌}
use Rattle.std.proofs.lemmas.List.{take_all, take_more}
use Rattle.std.specs.List.{AllZip}
use Rattle.sl_terminal_commands.proofs.Columns.{by_each, varied_next, varied_none}
use Rattle.sl_terminal_commands.proofs.varied.all_varied.Goals as goal
use Rattle.sl_terminal_commands.proofs.varied.all_varied.Goals.{in-Good+in_ok-found+in_ok-append, in_default}
use Rattle.sl_terminal_commands.specs.inner.Comparing.{AreGood, IsVariedOf, pairs}

pub loop-named-preserved : goal.loop-named-preserved
loop-named-preserved c =
    let books = c.args.books.now in
    let methods = c.args.methods.now in
    let i = c.loop-named.named-index in
    let n = c.named-item.result in
    let old = c.loop-named.all.items in
    let new = c.match-named.all.items in
    let one = take_more books i n c.loop-named-test.true ∙ ap (λ m. take i books ++ m ∷ []) (sym c.named-item.is) in
    subst (λ ns. AreGood ns → AllZip IsVariedOf (pairs ns methods) new) (sym one)
    (
    elim c.match-named.branch [
      | in-Good+in_ok-found+in_ok-append w ↦ varied_next (take i books) n methods old new w.in_ok-found.found.items
          (by_each n w.in-Good.book w.in-Good.is methods w.in_ok-found.found.items w.in_ok-found.ensures) (ap (λ all. all.items) w.all-is ∙ w.in_ok-append.ensures.items)
          c.loop-named.invariant
      | in_default w ↦ varied_none (take i books) n methods new (w.in_default.field-0, w.in_default.is)
    ]
    )

pub returns : goal.returns
returns c good =
    let books = c.args.books.now in
    let all = take_all c.loop-named.named-index books (omega (arith, c.loop-named-test.false)) in
    subst (λ ns. AllZip IsVariedOf (pairs ns c.args.methods.now) c.loop-named.all.items) all (c.loop-named.invariant (subst AreGood (sym all) good))
