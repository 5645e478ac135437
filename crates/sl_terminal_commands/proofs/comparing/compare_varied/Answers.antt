use Rattle.std.proofs.Common.{Contains, inl, inr, is_err, refl, subst, sym}
use Rattle.std.proofs.lemmas.List.Elements.{All-append}
use Rattle.std.proofs.lemmas.Result.{IfOk-weaker}
use Rattle.std.specs.List.{AllZip}
use Rattle.sl_report_commands.specs.Digests.{digests}
use Rattle.sl_terminal_commands.proofs.Zips.{zip_of}
use Rattle.sl_terminal_commands.proofs.comparing.compare_varied.Goals as goal
use Rattle.sl_terminal_commands.specs.declared.sums.NamedBook.{NamedBook}
use Rattle.sl_terminal_commands.specs.inner.Comparing.{AreGood, IsGood, IsNamedAnswer, IsVariedOf, pairs}

pub returns-in-Some : goal.returns-in-Some
returns-in-Some g c =
    let books = c.args.books.items in
    let methods = c.args.methods.now in
    let varied = c.in_ok-varied.varied.items in
    let by = subst (λ bs. AreGood bs → AllZip IsVariedOf (pairs bs methods) varied) c.as_slice.ensures.value c.in_ok-varied.ensures c.requires in
    let v = c.in-Some.first.book.now in
    let there = subst (λ all. Contains all v) c.as_slice-2.ensures.value c.in-Some.ensures.refused.0 in
    let p = zip_of IsVariedOf (pairs books methods) varied v by there in
    IfOk-weaker c.refuse_book.result _ _ (λ a told. inr (p.0, v, c.in-Some.first.refused.now, p.1, p.2, c.in-Some.ensures.refused.1, told)) c.refuse_book.ensures

pub returns-in_ok-all-in-None : goal.returns-in_ok-all-in-None
returns-in_ok-all-in-None g c =
    let text = g.F.Forms.is_text c.args.manner.now.forms.now in
    let style = c.args.manner.now.style in
    let shown = digests c.args.manner.now.inputs.now in
    let books = c.args.books.items in
    let methods = c.args.methods.now in
    let varied = c.in_ok-varied.varied.items in
    let e = c.args.election.now in
    let by = subst (λ bs. AreGood bs → AllZip IsVariedOf (pairs bs methods) varied) c.as_slice.ensures.value c.in_ok-varied.ensures c.requires in
    let good = subst AreGood c.as_slice-2.ensures.value (c.in-None.ensures.good refl) in
    let all = All-append (λ (b : NamedBook). IsGood b.read.verdict) books varied c.requires good in
    IfOk-weaker c.finish_comparison.result _ _
    (λ a h. inl (varied, by, good, subst (λ bs. IsNamedAnswer text style shown (is_err c.args.names) e bs a) c.in_ok-all-in-None.ensures h))
    (c.finish_comparison.ensures (subst AreGood (sym c.in_ok-all-in-None.ensures) all))
