-- The entry goes in where it ranks.
use Rattle.std.proofs.Common.{◌≡◌, ◌∷◌, ℕ, List, Some, slice_get, sym, ap, subst, ◌∙◌}
use Rattle.std.proofs.lemmas.List.Elements.{All-cons}
use Rattle.std.proofs.lemmas.List.Sorted.{IsPermutation-cons}
use Rattle.std.specs.Option.{option_map}
use Rattle.sl_base_quotients.specs.declared.entry.Entry.{Entry}
use Rattle.sl_base_quotients.specs.Quotient.{FitsRatio}
use Rattle.sl_prio.specs.inner.Marks.{IsPassed}
use Rattle.sl_base_rankings.proofs.LawProofs.{order_is_free}
use Rattle.sl_code_steps.specs.declared.priority.TableKind.{TableKind}
use Rattle.sl_code_steps.specs.inner.Tables.{FitsMark}
use Rattle.sl_code_steps.specs.inner.Lots.{LotTable, lot_in}
use Rattle.sl_code_steps.proofs.Priorities.{table_with, put_fits, put_enters, same_kept, same_on}
use Rattle.sl_code_steps.proofs.drawing.Passing.{put_passed}
use Rattle.sl_code_steps.proofs.priority.PriorityTable.enter.Goals as goal

pub invariant_of-self : goal.invariant_of-self
invariant_of-self c =
    let x = c.args.entry in
    let held = c.self.inside.prio in
    let seen = c.enter.new.prio in
    let kept = same_kept c.self.inside seen c.enter.ensures.same c.self.invariant in
    let fits = λ (kind : TableKind) (is : c.self.inside.kind ≡ Some kind). c.requires (table_with kind held) (sym (ap (λ (t : LotTable). t.on) c.self.view_is) ∙ ap (option_map (λ k. table_with k held)) is) in
    let marks = λ (kind : TableKind) (is : c.self.inside.kind ≡ Some kind).
    put_fits (λ y. FitsMark kind.ranking y.ratio) seen c.put.new.self x c.put.result c.put.ensures.added c.put.ensures.unchanged (fits kind is) (kept.0 kind is) in
    let more = c.enter.ensures in
    let same = (order_is_free held seen c.enter.ensures.same).same_peers in
    let same_more = (order_is_free (x ∷ held) (x ∷ seen) (IsPermutation-cons x held seen c.enter.ensures.same)).same_peers in
    let passed = λ (kind : TableKind) (is : c.self.inside.kind ≡ Some kind) (lot : List ℕ) (at : option_map (lot_in kind.entries) (slice_get c.self.inside.lots c.enter.new.self.stage) ≡ Some lot).
    let before = c.self.invariant.2 kind is lot (subst (λ n. option_map (lot_in kind.entries) (slice_get c.self.inside.lots n) ≡ Some lot) more.stage at) in
    put_passed seen c.put.new.self x c.put.result c.put.ensures.added c.put.ensures.unchanged lot c.enter.new.self.passed c.self.inside.draws.passed more.no_farther
    (λ h. subst (λ (ps : List Entry). IsPassed lot c.enter.new.self.passed ps) same_more (more.passed lot (subst (λ (ps : List Entry). IsPassed lot c.self.inside.draws.passed ps) (sym same) h)))
    (subst (λ (ps : List Entry). IsPassed lot c.self.inside.draws.passed ps) same before) in (
      marks,
      put_fits (λ y. FitsRatio y.ratio) seen c.put.new.self x c.put.result c.put.ensures.added c.put.ensures.unchanged c.num.ensures.fits kept.1,
      passed,
    )

pub enter-requires : goal.enter-requires
enter-requires c = All-cons (λ x. FitsRatio x.ratio) c.args.entry c.self.inside.prio c.num.ensures.fits c.self.invariant.1

pub returns-clause-entered : goal.returns-clause-entered
returns-clause-entered c =
    let view = same_on c.self.inside c.enter.new.prio c.enter.ensures.same c.self.view_is in
    put_enters c.self.inside.kind c.enter.new.prio c.put.new.self c.args.entry c.args.self.now.on c.put.result c.put.ensures.added (ap (λ (t : LotTable). t.on) view)
