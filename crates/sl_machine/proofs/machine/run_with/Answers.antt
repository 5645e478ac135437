-- A run from the start is safe, and what is held at its end fits.
use Rattle.std.proofs.Common.{◌≡◌, ℕ, length, Option, Some, sym, ap, subst, ◌∙◌, arith}
use Rattle.std.proofs.lemmas.List.{length-map}
use Rattle.std.proofs.lemmas.Option.{slice_get_within}
use Rattle.sl_base_terms.specs.declared.shape.Shape.TheVariants as shape
use Rattle.sl_law_meaning.specs.returns.Election.{Election}
use Rattle.sl_code_instructions.specs.Codes.{CountingCode}
use Rattle.sl_code_semantics.specs.WellKinded.{IsWellKinded}
use Rattle.sl_code_steps.specs.declared.step.End.{End}
use Rattle.sl_code_steps.specs.declared.step.End.TheVariants as end
use Rattle.sl_code_semantics.specs.Agrees.{IsSafe}
use Rattle.sl_code_semantics.specs.Fits.{FitsHalt, FitsMemory}
use Rattle.sl_code_semantics.specs.Memories.{Held}
use Rattle.sl_code_semantics.specs.State.{State}
use Rattle.sl_machine.specs.inner.Leading.{FitsWith}
use Rattle.sl_code_steps.specs.inner.Recording.{state_by}
use Rattle.sl_code_steps.specs.inner.Stores.{Sizes, state_of}
use Rattle.sl_machine.proofs.runs.Unrecorded.{start_by}
use Rattle.sl_code_steps.proofs.stores.Holding.{held_fits}
use Rattle.sl_code_semantics.proofs.soundness.Soundness.{starts_are_safe}
use Rattle.sl_machine.proofs.machine.run_with.Goals as goal

pub steps-requires-clause-safe : goal.steps-requires-clause-safe
steps-requires-clause-safe g c =
    let code = c.code-code.result.now in
    let e = c.args.returns.now in
    let kinds = subst (λ (x : CountingCode). IsWellKinded x) (sym c.code-code.ensures.code) c.code-code.ensures.kinds in
    subst (λ (s : State). IsSafe code e 0 s) (sym c.in_ok-store.ensures.state) (starts_are_safe code e kinds c.in_ok-store.ensures.election)

pub steps-requires-clause-records : goal.steps-requires-clause-records
steps-requires-clause-records g c = subst (λ (s : State). state_by g.R.Recording.records s ≡ s) (sym c.in_ok-store.ensures.state) (start_by g.R.Recording.records)

-- an end that fits, and halts
halted : (c : CountingCode) (e : Election) (s : State) (base : ℕ) (vacant : Option ℕ) (x : End) (o : Option End) → o ≡ Some x → x ≡ end.Halted base vacant → FitsWith c e o s → FitsHalt c e base vacant s
halted c e s base vacant x o some is fits = subst (λ (y : End). FitsWith c e (Some y) s) is (subst (λ (p : Option End). FitsWith c e p s) some fits)

pub new-requires-clause-base : goal.new-requires-clause-base
new-requires-clause-base g c =
    let code = c.code-code.result.now in
    let e = c.args.returns.now in
    let h = c.in-Some-Halted in
    let fits = halted code e (state_of c.steps.new.store) h.base h.vacant h.field-0 c.in_ok-end.end h.is h.field-0-is c.in_ok-end.ensures.fits in
    let below = slice_get_within code.slots h.base shape.List fits.base in
    let columns = ap (λ (z : Sizes). length z.columns) c.in_ok-end.ensures.kept ∙ length-map code.slots _ in
    omega (arith, columns, below)

pub new-requires-clause-vacant : goal.new-requires-clause-vacant
new-requires-clause-vacant g c = λ slot named.
    let code = c.code-code.result.now in
    let e = c.args.returns.now in
    let h = c.in-Some-Halted in
    let fits = halted code e (state_of c.steps.new.store) h.base h.vacant h.field-0 c.in_ok-end.end h.is h.field-0-is c.in_ok-end.ensures.fits in
    let below = slice_get_within code.slots slot shape.List (fits.vacant slot named) in
    let columns = ap (λ (z : Sizes). length z.columns) c.in_ok-end.ensures.kept ∙ length-map code.slots _ in
    omega (arith, columns, below)

pub returns-in-Some-Halted-clause-fits : goal.returns-in-Some-Halted-clause-fits
returns-in-Some-Halted-clause-fits g c =
    let code = c.code-code.result.now in
    let e = c.args.returns.now in
    let h = c.in-Some-Halted in
    let s = state_of c.steps.new.store in
    let fits = halted code e s h.base h.vacant h.field-0 c.in_ok-end.end h.is h.field-0-is c.in_ok-end.ensures.fits in
    let memory = c.new.ensures code e c.in_ok-end.ensures.kept in
    let held = subst (λ (m : Held). FitsMemory code e m) (sym memory) (held_fits code e s h.base h.vacant fits) in
    subst (λ (x : CountingCode). FitsMemory x e c.new.result) c.code-code.ensures.code held
