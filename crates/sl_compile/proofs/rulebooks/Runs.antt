-- From the start on, all plans of a book yield the table that the book means, or end the run with the fault that it means.
use Rattle.std.proofs.Common.{◌≡◌, true, List, [], ◌++◌, None, length, refl, sym, subst, ◌∙◌, arith}
use Rattle.std.specs.List.{list_all}
use Rattle.sl_law_meaning.specs.declared.book.Cond.{Cond}
use Rattle.sl_base_terms.specs.declared.shape.Shape.TheVariants as shape
use Rattle.sl_law_meaning.specs.declared.fault.LegalFault.{LegalFault}
use Rattle.sl_law_meaning.specs.declared.table.Outcome.TheVariants as outcome
use Rattle.sl_base_terms.specs.Tests.{first_failing}
use Rattle.sl_law_meaning.specs.book.Trees.{BookTree}
use Rattle.sl_law_meaning.specs.book.Limits.{is_within_stage}
use Rattle.sl_law_meaning.specs.book.Typing.{Column, columns_of, stages_tests, base_tests, tests_of, is_typed}
use Rattle.sl_law_meaning.specs.returns.Election.{Election, IsElection}
use Rattle.sl_law_meaning.specs.meaning.Means.{Known, Through, Stopped, nothing_known, StagesMean, IsOutcome}
use Rattle.sl_base_terms.proofs.Tests.{no_fault}
use Rattle.sl_law_meaning.proofs.meaning.OneOutcome.{typed_parts}
use Rattle.sl_code_instructions.specs.Codes.{CountingCode}
use Rattle.sl_code_semantics.specs.State.{State, End, Faulted, start}
use Rattle.sl_compile_plans.specs.Trees.{Tree}
use Rattle.sl_compile_plans.specs.Achieves.{Never}
use Rattle.sl_compile_plans.specs.Laid.{AchievesAll}
use Rattle.sl_compile_pieces.proofs.columns.Cells.{still_holds}
use Rattle.sl_compile_pieces.specs.facts.Laws.{flags}
use Rattle.sl_compile_pieces.specs.exprs.Slots.{HasBookSlots}
use Rattle.sl_compile_pieces.specs.exprs.Stages.{stages_pieces, HasStages, IsBehind, HasColumns, EndsStopped}
use Rattle.sl_compile_pieces.proofs.exprs.StageRules.{all_more, all_then}
use Rattle.sl_compile_pieces.proofs.exprs.Stages.{stages_achieve}
use Rattle.sl_compile_pieces.specs.closing.Trees.{last_pieces}
use Rattle.sl_compile_pieces.specs.closing.Closing.{BeginsClosing, HasClosed, EndsInOutcome, ClosingsAchieve}
use Rattle.sl_compile.specs.Conditions.{SayTheSame}
use Rattle.sl_compile.specs.Codes.{facts_pieces, book_pieces}
use Rattle.sl_compile.proofs.rulebooks.Known.{known_types}
use Rattle.sl_compile.proofs.rulebooks.Told.{IsBlank}
use Rattle.sl_compile.proofs.rulebooks.Facts.{HasFacts, facts_achieve}

-- all plans are done: the facts were stored in one state, the stages stood after in another, and the last clause came to this one
pub record IsDone (c : CountingCode) (b : BookTree) (e : Election) (s : State) : Type 0 where
  pub known : Known
  pub means : StagesMean b e nothing_known b.stages (Through known)
  pub told : State
  pub blank : IsBlank told
  pub staged : State
  pub behind : IsBehind b e known told staged
  pub closed : HasClosed c b e known staged s

-- the run ended with a fault that the book means
pub record IsStopped (b : BookTree) (e : Election) (x : End) : Type 0 where
  pub fault : LegalFault
  pub means : IsOutcome b e (outcome.Fault fault)
  pub is : x ≡ Faulted fault

module _ (c : CountingCode) (few : List Cond) (b : BookTree) (e : Election) (is : IsElection e) (typed : is_typed b ≡ true) (within : list_all is_within_stage b.stages ≡ true)
    (same : SayTheSame few b.eligible) (slots : HasBookSlots c (columns_of [] b.stages)) (staged : HasStages c 0 b.stages) (long : length c.stages ≡ length b.stages)
    (closings : ClosingsAchieve)
  where
    abbrev last : List Tree
    last = last_pieces (columns_of [] b.stages) b.last

    abbrev stages : List Tree
    stages = stages_pieces [] 0 b.stages

    pass : (first_failing (stages_tests [] b.stages) ≡ None) × (first_failing (base_tests (columns_of [] b.stages) b.last.at b.last.base) ≡ None)
    pass = typed_parts b e (no_fault (tests_of b) typed)

    -- after the stages
    last_achieves : (s : State) → HasFacts b e s → (t : State) → HasColumns b e nothing_known b.stages s t → AchievesAll c e last t (IsDone c b e) (IsStopped b e)
    last_achieves s told t h =
        let types : h.known.types ≡ columns_of [] b.stages = known_types b e h.known h.means in
        let begins : BeginsClosing b e h.known s t = record {
          behind = h.behind;
          flags = still_holds e shape.Party (s.columns 0) (t.columns 0) (flags b.eligible e) (λ q. h.behind.low 0 q (omega arith)) told.flags;
          nobody = λ winner. h.behind.adds.placed winner ∙ told.blank.nobody winner;
        } in
        subst (λ (ts : List Column). AchievesAll c e (last_pieces ts b.last) t (IsDone c b e) (IsStopped b e)) types
        (all_more c e (HasClosed c b e h.known t) (IsDone c b e) (EndsInOutcome b e h.known) (IsStopped b e)
        (λ u g. record { known = h.known; means = h.means; told = s; blank = told.blank; staged = t; behind = h.behind; closed = g })
        (λ x g. record { fault = g.fault; means = record { run = Through h.known; stages = h.means; ends = g.means }; is = g.is })
        (last_pieces h.known.types b.last) t
        (closings c b e h.known s t typed is (subst (λ (ts : List Column). HasBookSlots c ts) (sym types) slots) long
        (subst (λ (ts : List Column). first_failing (base_tests ts b.last.at b.last.base) ≡ None) (sym types) pass.1) begins))

    -- after the facts
    stages_and_last : (s : State) → HasFacts b e s → AchievesAll c e (stages ++ last) s (IsDone c b e) (IsStopped b e)
    stages_and_last s told =
        all_then c e (IsDone c b e) (IsStopped b e) last stages s
        (all_more c e (HasColumns b e nothing_known b.stages s) (λ t. AchievesAll c e last t (IsDone c b e) (IsStopped b e)) (EndsStopped b e nothing_known b.stages) (IsStopped b e)
        (last_achieves s told)
        (λ x g. record { fault = g.fault; means = record { run = Stopped g.fault; stages = g.means; ends = refl }; is = g.is })
        stages s
        (stages_achieve c b e nothing_known b.stages s s typed is pass.0 within slots staged told.behind))

    pub book_achieves : AchievesAll c e (book_pieces few b) start (IsDone c b e) (IsStopped b e)
    book_achieves =
        all_then c e (IsDone c b e) (IsStopped b e) (stages ++ last) (facts_pieces few b) start
        (all_more c e (HasFacts b e) (λ s. AchievesAll c e (stages ++ last) s (IsDone c b e) (IsStopped b e)) Never (IsStopped b e)
        stages_and_last (λ x no. absurd no) (facts_pieces few b) start
        (facts_achieve c few b e is slots.facts same))
