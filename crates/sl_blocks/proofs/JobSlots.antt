-- A code that has a job's slots and its stage: what the plans of splits and growths ask of it, and what its state holds.
use Rattle.std.proofs.Common.{◌≡◌, ℕ, Bool, false, ◌==◌, if◌then◌else◌, List, map, length, Option, None, Some, slice_get, refl, sym, ap, subst, ◌∙◌, arith}
use Rattle.std.specs.Prelude.{option_map, slice_index_or}
use Rattle.std.specs.List.{range_with_len}
use Rattle.std.proofs.lemmas.Bool.{ne_eqb}
use Rattle.std.proofs.lemmas.Option.{get_or_from_slice_get}
use Rattle.std.proofs.lemmas.List.FromFn.{length-map-range_with_len, get_or-map-range_with_len}
use Rattle.sl_base_quotients.specs.declared.method.Method.{Method}
use Rattle.sl_base_quotients.specs.declared.method.Method.TheVariants as by
use Rattle.sl_base_terms.specs.declared.shape.Shape.{Shape}
use Rattle.sl_base_terms.specs.declared.shape.Shape.TheVariants as shape
use Rattle.sl_law_meaning.specs.returns.Election.{Election}
use Rattle.sl_law_meaning.specs.laws.OneLaws.{FitsMethod}
use Rattle.sl_code_instructions.specs.declared.code.CodeStage.{CodeStage}
use Rattle.sl_code_instructions.specs.Codes.{CountingCode}
use Rattle.sl_code_semantics.specs.declared.known.TheConstants.{LAST_CLAUSE}
use Rattle.sl_code_semantics.specs.State.{State}
use Rattle.sl_code_semantics.specs.Places.{cells_of}
use Rattle.sl_code_semantics.specs.Memories.{column_of}
use Rattle.sl_code_semantics.specs.Effects.{name_of}
use Rattle.sl_compile_pieces.specs.declared.form.Form.{Form}
use Rattle.sl_compile_pieces.specs.scopes.Forms.{amounts_of, votes_of}
use Rattle.sl_compile_pieces.specs.columns.Columns.{HoldsColumn}
use Rattle.sl_compile_pieces.specs.seats.Slots.{HasSlots}
use Rattle.sl_compile_pieces.specs.nodes.Scopes.{HoldsMinima, HoldsArguments}
use Rattle.sl_blocks.specs.declared.job.Job.{Job}
use Rattle.sl_blocks.specs.inner.Jobs.{slots_of, IsJob, TakesMinima, HasJob, HasWeights, name_in}

module _ (shapes : List Shape) (f : Form) (j : Job) (code : CountingCode) (job : IsJob shapes f j) (has : HasJob shapes j code) where
  not_last : (j.stage == LAST_CLAUSE) ≡ false
  not_last = ne_eqb j.stage LAST_CLAUSE (λ (same : j.stage ≡ LAST_CLAUSE). omega (arith, same, job.stage))

  named : name_in code j has.stage.name
  named = ap (option_map (λ (s : CodeStage). s.name)) has.staged

  pub has_slots : HasSlots code f (slots_of j) has.stage.name
  has_slots = record {
    amounts = has.slots j.amount (amounts_of f) job.amounts;
    votes = has.slots j.weights (votes_of f) job.votes;
    minima = λ slot is. has.slots slot (votes_of f) (job.minima slot is);
    result = has.slots j.result (votes_of f) job.result;
    not_amounts = job.not_amounts;
    not_votes = job.not_votes;
    not_minima = job.not_minima;
    stage = ap (λ (b : Bool). if b then Some (length code.stages) else option_map (λ stage. j.stage) (slice_get code.stages j.stage)) not_last ∙ ap (option_map (λ (s : CodeStage). j.stage)) has.staged;
    named = ap (λ (b : Bool). if b then name_of code.stages LAST_CLAUSE else option_map (λ stage. stage.name) (slice_get code.stages j.stage)) not_last ∙ named;
  }

  module _ (e : Election) (state : State) where
    -- what is in a slot's column is what the state holds there
    holds_column : (k : ℕ) (s : Shape) → slice_get shapes k ≡ Some s → HoldsColumn e s (state.columns k) (column_of code e state k)
    holds_column k s there =
        let shape_is : slice_index_or code.slots k shape.One ≡ s = get_or_from_slice_get code.slots k s shape.One (has.slots k s there) in
        subst (λ (x : Shape). HoldsColumn e s (state.columns k) (map (state.columns k) (range_with_len 0 (cells_of e x)))) (sym shape_is)
        (record {
          long = length-map-range_with_len (state.columns k) 0 (cells_of e s);
          at = λ q within. sym (get_or-map-range_with_len (state.columns k) 0 (cells_of e s) q q 0 within (omega arith));
        })

    holds_minima : (o : Option ℕ) → ((slot : ℕ) → o ≡ Some slot → slice_get shapes slot ≡ Some (votes_of f)) → HoldsMinima e (votes_of f) o state (option_map (column_of code e state) o)
    holds_minima None there = tt
    holds_minima (Some slot) there = holds_column slot (votes_of f) (there slot refl)

    pub holds_arguments : HasWeights f j code e state
        → HoldsArguments e f (slots_of j) (column_of code e state j.amount) (column_of code e state j.weights) (option_map (column_of code e state) j.minima) state
    holds_arguments h = record {
      amounts_are = holds_column j.amount (amounts_of f) job.amounts;
      votes_are = holds_column j.weights (votes_of f) job.votes;
      minima_are = holds_minima j.minima job.minima;
      weights = h.weights;
    }

-- a method that takes a slot of minima takes the minima in it
pub fits_method : (method : Method) (o : Option ℕ) (read : ℕ → List ℕ) → TakesMinima method o → FitsMethod method (option_map read o)
fits_method (by.Divisor d) None read takes = tt
fits_method by.Hamilton None read takes = tt
fits_method (by.Divisor d) (Some slot) read takes = tt
fits_method by.Hamilton (Some slot) read takes = absurd takes
