-- The jobs of the tests are those of splits, of growths and of coverings.
use Rattle.std.proofs.Common.{◌≡◌, ℕ, ◌≤◌, List, [], ◌∷◌, None, Some, slice_get, refl, sym, ap, ◌∙◌, arith}
use Rattle.std.proofs.lemmas.Option.{none-some, same_Some}
use Rattle.sl_base_quotients.specs.declared.method.Method.{Method}
use Rattle.sl_base_quotients.specs.declared.method.Method.TheVariants as by
use Rattle.sl_base_terms.specs.declared.shape.Shape.{Shape}
use Rattle.sl_base_terms.specs.declared.shape.Shape.TheVariants as shape
use Rattle.sl_compile_pieces.specs.declared.form.Form.TheVariants.{AllLists}
use Rattle.sl_blocks.specs.declared.job.Job.{Job}
use Rattle.sl_blocks.specs.inner.Jobs.{IsJob, IsSplitJob, IsGrowthJob}

-- one amount; votes, results and minima of lists; and the eligible parties
abbrev pub shapes : List Shape
shapes = shape.One ∷ shape.List ∷ shape.List ∷ shape.List ∷ shape.Party ∷ []

module _ (j : Job) (stage : j.stage ≡ 0) (amount : j.amount ≡ 0) (weights : j.weights ≡ 1) (result : j.result ≡ 2) where
  -- a job in these slots, whose minima are the lists' if there are any
  job_with : ((slot : ℕ) → j.minima ≡ Some slot → slot ≡ 3) → IsJob shapes AllLists j
  job_with third = record {
    amounts = ap (slice_get shapes) amount;
    votes = ap (slice_get shapes) weights;
    minima = λ slot is. ap (slice_get shapes) (third slot is);
    result = ap (slice_get shapes) result;
    not_amounts = λ same. omega (arith, same, amount, result);
    not_votes = λ same. omega (arith, same, weights, result);
    not_minima = λ slot is same. let s : slot ≡ 3 = third slot is in omega (arith, same, s, result);
    stage = omega (arith, stage);
  }

  -- a split without minima, by any method
  pub plain_split : (method : Method) → j.minima ≡ None → IsSplitJob shapes j method
  plain_split method none = record {
    form = AllLists;
    job = job_with (λ slot is. absurd (none-some slot (sym none ∙ is)));
    takes = rw none tt;
  }

  -- a growth up to a cap
  pub growth : (cap : ℕ) → j.minima ≡ Some 3 → cap ≤ 4000 → IsGrowthJob shapes j cap
  growth cap some few = record {
    form = AllLists;
    job = job_with (λ slot is. same_Some slot 3 (sym is ∙ some));
    one = refl;
    slot = 3;
    minima = some;
    few = few;
  }
