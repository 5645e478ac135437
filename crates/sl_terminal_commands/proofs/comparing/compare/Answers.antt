use Rattle.std.proofs.Common.{Contains, inl, inr, refl, subst, sym}
use Rattle.std.proofs.lemmas.Result.{IfOk-weaker}
use Rattle.sl_count_inputs.specs.declared.verdict.Verdict.TheVariants.{Refused}
use Rattle.sl_report_commands.specs.Digests.{digests}
use Rattle.sl_terminal_commands.proofs.comparing.compare.Goals as goal
use Rattle.sl_terminal_commands.specs.inner.Comparing.{AreGood, IsRefusedOne}

pub compare_varied-requires : goal.compare_varied-requires
compare_varied-requires g c = subst AreGood c.as_slice.ensures.value (c.in-None.ensures.good refl)

pub returns-in-Some : goal.returns-in-Some
returns-in-Some g c =
    let book = c.in-Some.first.book.now in
    let there = subst (λ all. Contains all book) c.as_slice.ensures.value c.in-Some.ensures.refused.0 in
    IfOk-weaker c.refuse_book.result _ _ (λ a told. inr (inl (book, c.in-Some.first.refused.now, there, c.in-Some.ensures.refused.1, told))) c.refuse_book.ensures

pub returns-in-None : goal.returns-in-None
returns-in-None g c =
    let good = subst AreGood c.as_slice.ensures.value (c.in-None.ensures.good refl) in
    IfOk-weaker c.compare_varied.result _ _ (λ a by. inl (c.in-Good.election, c.in-Good.is, good, by)) c.compare_varied.ensures

pub returns-in-Refused : goal.returns-in-Refused
returns-in-Refused g c =
    let text = g.F.Forms.is_text c.args.manner.now.forms.now in
    let style = c.args.manner.now.style in
    let shown = digests c.args.manner.now.inputs.now in
    IfOk-weaker c.refuse_comparison.result _ _
    (
    λ a h.
    inr (subst (λ v. IsRefusedOne text style shown c.args.books.items v a) (sym c.in-Refused.is) (subst (λ bs. IsRefusedOne text style shown bs (Refused c.in-Refused.refused) a) c.as_slice-in-Refused.ensures.value h))
    )
    c.refuse_comparison.ensures
