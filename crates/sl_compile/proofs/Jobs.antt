-- The slots of splits and growths are there, and their blocks stand.
use Rattle.std.proofs.Common.{◌≡◌, ◌≢◌, ℕ, zero, suc, ◌+◌, ◌<◌, ◌≤◌, true, List, [], ◌∷◌, length, Option, None, Some, IsSome, slice_get, refl, sym, ap, subst, ◌∙◌, arith}
use Rattle.std.proofs.lemmas.Bool.{false≢true}
use Rattle.sl_base_quotients.specs.declared.method.Divisor.{Divisor}
use Rattle.sl_base_quotients.specs.declared.method.Method.{Method}
use Rattle.sl_base_quotients.specs.declared.method.Method.TheVariants as by
use Rattle.sl_base_quotients.specs.declared.limits.TheConstants.{MAX_SEATS}
use Rattle.sl_law_meaning.specs.declared.book.Majority.{Majority}
use Rattle.sl_base_terms.specs.declared.shape.Shape.{Shape}
use Rattle.sl_base_terms.specs.declared.shape.Shape.TheVariants as shape
use Rattle.sl_law_meaning.specs.declared.limits.TheConstants.{MAX_DEPTH}
use Rattle.sl_base_terms.specs.declared.limits.TheConstants.{MAX_STAGES}
use Rattle.sl_law_meaning.specs.book.Typing.{can_split}
use Rattle.sl_code_instructions.specs.declared.code.CodeStage.{CodeStage}
use Rattle.sl_code_instructions.specs.declared.instr.Instr.{Instr}
use Rattle.sl_code_instructions.specs.Codes.{CountingCode}
use Rattle.sl_compile_plans.specs.Trees.{Tree}
use Rattle.sl_compile_pieces.specs.declared.form.Form.{Form}
use Rattle.sl_compile_pieces.specs.scopes.Forms.{amounts_of, votes_of}
use Rattle.sl_compile_pieces.specs.seats.Slots.{Slots}
use Rattle.sl_compile_pieces.specs.nodes.Trees.{split_tree, grow_tree}
use Rattle.sl_compile.proofs.rulebooks.Slots.{passing_there as passing_in_book, fact_there}
use Rattle.sl_blocks.specs.declared.job.Job.{Job}
use Rattle.sl_blocks.specs.inner.Jobs.{slots_of, IsJob, TakesMinima, IsSplitJob, IsGrowthJob, HasJob}
use Rattle.sl_compile_pieces.specs.declared.arguments.Arguments.{Arguments}
use Rattle.sl_compile_pieces.specs.exprs.Slots.{passing, StandsOn, OfFact, InPassing}
use Rattle.sl_compile_pieces.specs.exprs.Pieces.{form_by, node_slots, split_piece, grow_piece}
use Rattle.sl_compile_pieces.proofs.exprs.Places.{stands_apart, amounts_stand_apart}
use Rattle.sl_compile.specs.inner.Slots.{low_shapes}
use Rattle.sl_compile.specs.inner.Nodes.{AreArguments, MayHave}
use Rattle.sl_blocks.specs.PlanBlocks.{AreBlocks}
use Rattle.sl_blocks.specs.inner.Jobs.{IsSplitPlan, IsGrowthPlan}
use Rattle.sl_compile.specs.Codes.{HasSoFar}
use Rattle.sl_compile.proofs.rulebooks.Rows.{no_blocks, blocks_in}

-- ---- slots

-- each scratch column is there, as in a book without stages
pub passing_there : (level : ℕ) (s : Shape) → level ≤ MAX_DEPTH → slice_get low_shapes (passing level s) ≡ Some s
passing_there level s low = passing_in_book [] level s low

-- and the slot of each argument
low_there : (level : ℕ) (s : Shape) (slot : ℕ) → level ≤ MAX_DEPTH → StandsOn level s slot → slice_get low_shapes slot ≡ Some s
low_there level s slot low (OfFact told is shaped) = ap (slice_get low_shapes) is ∙ fact_there [] told ∙ ap Some shaped
low_there level s slot low (InPassing is) = ap (slice_get low_shapes) is ∙ passing_there level s low

some_is : (o : Option ℕ) → IsSome o → (slot : ℕ) × (o ≡ Some slot)
some_is None some = absurd (false≢true some)
some_is (Some slot) some = (slot, refl)

-- ---- forms

form_amounts : (s v : Shape) → can_split s v ≡ true → amounts_of (form_by s v) ≡ s
form_amounts shape.One shape.Party can = refl
form_amounts shape.One shape.Land can = refl
form_amounts shape.One shape.List can = refl
form_amounts shape.Party shape.List can = refl
form_amounts shape.Land shape.List can = refl
form_amounts _ _ can = cc

form_votes : (s v : Shape) → can_split s v ≡ true → votes_of (form_by s v) ≡ v
form_votes shape.One shape.Party can = refl
form_votes shape.One shape.Land can = refl
form_votes shape.One shape.List can = refl
form_votes shape.Party shape.List can = refl
form_votes shape.Land shape.List can = refl
form_votes _ _ can = cc

takes : (method : Method) (minima : Option ℕ) → MayHave method minima → TakesMinima method minima
takes method None may = tt
takes (by.Divisor d) (Some slot) may = tt
takes by.Hamilton (Some slot) may = absurd may

-- ---- jobs

-- a list of so many stages has each of them
stage_in : (stages : List CodeStage) (n : ℕ) → n + 1 ≤ length stages → (s : CodeStage) × (slice_get stages n ≡ Some s)
stage_in [] n few = absurd (omega (arith, few))
stage_in (s ∷ stages) zero few = (s, refl)
stage_in (s ∷ stages) (suc n) few = stage_in stages n (omega (arith, few))

module _ (j : Job) (stage level : ℕ) (s v : Shape) (from : Arguments) (is : slots_of j ≡ node_slots [] stage level from v)
    (can : can_split s v ≡ true) (are : AreArguments level s v from) (few : stage < MAX_STAGES) where
  abbrev form : Form
  form = form_by s v

  amounts_is : j.amount ≡ from.amounts
  amounts_is = ap (λ (x : Slots). x.amounts) is

  votes_is : j.weights ≡ from.votes
  votes_is = ap (λ (x : Slots). x.votes) is

  minima_is : j.minima ≡ from.minima
  minima_is = ap (λ (x : Slots). x.minima) is

  result_is : j.result ≡ passing level v
  result_is = ap (λ (x : Slots). x.result) is

  seats_are : Some s ≡ Some (amounts_of form)
  seats_are = ap Some (sym (form_amounts s v can))

  votes_are : Some v ≡ Some (votes_of form)
  votes_are = ap Some (sym (form_votes s v can))

  amounts_apart : j.amount ≢ j.result
  amounts_apart same =
      amounts_stand_apart form level from.amounts (subst (λ x. StandsOn level x from.amounts) (sym (form_amounts s v can)) are.amounts)
      (sym amounts_is ∙ same ∙ result_is ∙ ap (passing level) (sym (form_votes s v can)))

  pub is_job : IsJob low_shapes form j
  is_job = record {
    amounts = ap (slice_get low_shapes) amounts_is ∙ low_there level s from.amounts (omega (arith, are.low)) are.amounts ∙ seats_are;
    votes = ap (slice_get low_shapes) votes_is ∙ low_there (level + 1) v from.votes are.low are.votes ∙ votes_are;
    minima = λ slot at. let on = are.minima slot (sym minima_is ∙ at) in low_there (level + 2) v slot on.0 on.1 ∙ votes_are;
    result = ap (slice_get low_shapes) result_is ∙ passing_there level v (omega (arith, are.low)) ∙ votes_are;
    not_amounts = amounts_apart;
    not_votes = λ same. stands_apart level (level + 1) v v from.votes (omega arith) are.votes (sym votes_is ∙ same ∙ result_is);
    not_minima = λ slot at same. stands_apart level (level + 2) v v slot (omega arith) (are.minima slot (sym minima_is ∙ at)).1 (same ∙ result_is);
    stage = omega (arith, ap (λ (x : Slots). x.stage) is, few);
  }

  pub is_split_job : (method : Method) → MayHave method from.minima → IsSplitJob low_shapes j method
  is_split_job method may = record { form = form; job = is_job; takes = subst (λ o. TakesMinima method o) (sym minima_is) (takes method from.minima may) }

  -- a code with the slots of a book, and the job's stage
  has_job : (code : CountingCode) → HasSoFar [] (stage + 1) code → HasJob low_shapes j code
  has_job code has =
      let there = stage_in code.stages j.stage (omega (arith, ap (λ (x : Slots). x.stage) is, has.stages)) in
      record { slots = has.slots; stage = there.0; staged = there.1 }

  -- the blocks
  pub split_blocks : (method : Method) (majority : Majority) (before after : List Instr) → j.majority ≡ majority → IsSplitPlan low_shapes j method before after →
      AreBlocks (HasSoFar [] (stage + 1)) (split_piece [] stage level s v from method majority) before after
  split_blocks method majority before after same h =
      subst (λ (c : Majority). AreBlocks (HasSoFar [] (stage + 1)) (split_tree form (node_slots [] stage level from v) method c ∷ []) before after) same
      (subst (λ (x : Slots). AreBlocks (HasSoFar [] (stage + 1)) (split_tree form x method j.majority ∷ []) before after) is (blocks_in has_job (h form is_job)))

  module _ (method : Method) (cap : ℕ) (majority : Majority) (before after code : List Instr) (there : code ≡ after) where
    abbrev Grows : Method → List Instr → Type 0
    Grows by_it to = AreBlocks (HasSoFar [] (stage + 1)) (grow_piece [] stage level s v from by_it majority cap) before to

    abbrev grown : Divisor → Slots → Majority → List Tree
    grown d x c = grow_tree form x d c cap ∷ []

    pub growth_blocks : (d : Divisor) → method ≡ by.Divisor d → j.majority ≡ majority → IsGrowthPlan low_shapes j d cap before after → Grows method code
    growth_blocks d kind same h =
        subst (λ (to : List Instr). Grows method to) (sym there)
        (subst (λ (k : Method). Grows k after) (sym kind)
        (subst (λ (c : Majority). AreBlocks (HasSoFar [] (stage + 1)) (grown d (node_slots [] stage level from v) c) before after) same
        (subst (λ (x : Slots). AreBlocks (HasSoFar [] (stage + 1)) (grown d x j.majority) before after) is (blocks_in has_job (h form is_job)))))

    -- by Hamilton's method none
    pub growth_none : method ≡ by.Hamilton → after ≡ before → Grows method code
    growth_none kind none =
        subst (λ (to : List Instr). Grows method to) (sym (there ∙ none)) (subst (λ (k : Method). Grows k before) (sym kind) (no_blocks (HasSoFar [] (stage + 1)) before))

pub is_growth_job : (j : Job) (stage level : ℕ) (s v : Shape) (cap : ℕ) (from : Arguments) → slots_of j ≡ node_slots [] stage level from v →
    can_split s v ≡ true → AreArguments level s v from → stage < MAX_STAGES → s ≡ shape.One → cap ≤ MAX_SEATS → IsSome from.minima → IsGrowthJob low_shapes j cap
is_growth_job j stage level s v cap from is can are few one small some = record {
  form = form_by s v;
  job = is_job j stage level s v from is can are few;
  one = form_amounts s v can ∙ one;
  slot = (some_is from.minima some).0;
  minima = ap (λ (x : Slots). x.minima) is ∙ (some_is from.minima some).1;
  few = small;
}
