-- Blocks as they are laid out: their plans, put together from those of their parts.
use Rattle.std.proofs.Common.{◌≡◌, ℕ, List, [], ◌∷◌, length, None, Some, unwrap_or, Result, Ok, Err, IfOk, refl, subst}
use Rattle.sl_base_terms.specs.declared.shape.Shape.{Shape}
use Rattle.sl_code_instructions.specs.declared.instr.Instr.{Instr}
use Rattle.sl_code_instructions.specs.declared.instr.Instr.TheVariants.{Set, Mov, Get, Zero, Table}
use Rattle.sl_code_instructions.specs.declared.operand.EndFault.TheVariants as end
use Rattle.sl_code_instructions.specs.declared.operand.Ranking.TheVariants as ranking
use Rattle.sl_compile_plans.specs.declared.plan.Test.TheVariants as test
use Rattle.sl_compile_plans.specs.Trees.{Tree, Line, Then, If}
use Rattle.sl_compile_pieces.specs.declared.form.Form.{Form}
use Rattle.sl_compile_pieces.specs.scopes.Forms.{table_of, scopes_plan}
use Rattle.sl_compile_pieces.specs.declared.registers.TheConstants as reg
use Rattle.sl_compile_pieces.specs.seats.Trees.{not_over, ranking_of, tied}
use Rattle.sl_compile_pieces.specs.nodes.Trees.{within_limit, take_house}
use Rattle.sl_blocks.specs.declared.job.Job.{Job}
use Rattle.sl_blocks.specs.declared.blanks.Block.{Block}
use Rattle.sl_blocks.specs.inner.Jobs.{IsJob}
use Rattle.sl_blocks.specs.inner.Layout.{IsLaid}
use Rattle.sl_blocks.specs.inner.LayoutParts.{form_in, slots_in, sum_entries, fill_outside, search_entries, search_batches, some_votes, count_left}
use Rattle.sl_blocks.specs.inner.LayoutParts.{whole_batches, drawn_batch, refuse_in, rest_with, sums_with, found_with, house_with, growth_with, all_with, split_all, growth_all, block_with, block_tree}

-- ---- laid out

-- one tree is another
pub laid_as : {R E : Type 0} (r : Result R E) (t u : Tree) (p : ℕ) (before after : List Instr) → t ≡ u →
    IfOk r (λ _. IsLaid t p before after) → IfOk r (λ _. IsLaid u p before after)
laid_as r t u p before after same laid = subst (λ v. IfOk r (λ _. IsLaid v p before after)) same laid

-- one place is another
pub laid_at : {R E : Type 0} (r : Result R E) (t : Tree) (p q : ℕ) (before after : List Instr) → p ≡ q →
    IfOk r (λ _. IsLaid t p before after) → IfOk r (λ _. IsLaid t q before after)
laid_at r t p q before after same laid = subst (λ (n : ℕ). IfOk r (λ _. IsLaid t n before after)) same laid

-- the form of the job is one
pub form_laid : {R E : Type 0} (r : Result R E) (shapes : List Shape) (j : Job) (tree : Form → Tree) (p : ℕ) (before after : List Instr) (found : Form) →
    p ≡ length before → ((f : Form) → IsJob shapes f j → found ≡ f) → IfOk r (λ _. IsLaid (tree found) p before after) →
    IfOk r (λ _. (f : Form) → IsJob shapes f j → IsLaid (tree f) (length before) before after)
form_laid (Ok y) shapes j tree p before after found place is laid =
    λ f job. subst (λ g. IsLaid (tree g) (length before) before after) (is f job) (subst (λ (n : ℕ). IsLaid (tree found) n before after) place laid)
form_laid (Err y) shapes j tree p before after found place is laid = laid

-- ---- put together

module _ (b : Block) where
  -- all scopes
  pub all_as : (scope limits scopes : Tree) → limits ≡ scopes_plan (form_in b) (within_limit (form_in b) (slots_in b)) → scopes ≡ scopes_plan (form_in b) scope →
      Then limits (Then (Line (Zero b.job.result ∷ [])) scopes) ≡ all_with b scope
  all_as scope limits scopes limits_is scopes_is = rw (limits_is, scopes_is) refl

  -- the last batch
  pub last_as : (drawn : Tree) → drawn ≡ drawn_batch b →
      block_with b
      (If (test.Zero reg.LEFT) (Line [])
      (Then (If (test.Empty reg.PEERS) (Line []) (If (test.NotCovered b.job.stage) (tied (form_in b) (slots_in b)) (Line []))) drawn))
      ≡ block_tree b
  last_as drawn drawn_is = rw drawn_is refl

  -- the seats that are awarded and the majority clause
  pub rest_as : (counted whole last refused : Tree) → counted ≡ count_left → whole ≡ whole_batches b → refused ≡ refuse_in b →
      Then (Then counted (Then whole last)) refused ≡ rest_with b last
  rest_as counted whole last refused counted_is whole_is refused_is = rw (counted_is, whole_is, refused_is) refl

  -- a scope, from its sums
  pub sums_as : (summed rest : Tree) → summed ≡ sum_entries b →
      Then (Line (Get reg.AMOUNT b.job.amount ∷ [])) (Then (Then (Line (Set reg.TOTAL 0 ∷ (Set reg.NEEDED 0 ∷ []))) summed) rest) ≡ sums_with b rest
  sums_as summed rest summed_is = rw summed_is refl

  -- a scope of a growth, from its search
  pub house_as : (cap : ℕ) (searched batched rest : Tree) → searched ≡ search_entries b → batched ≡ search_batches b cap →
      found_with b cap (Then (Line (Set reg.NUMBER 0 ∷ (Set reg.TURNS 0 ∷ (Table (table_of (form_in b)) ranking.Quotients ∷ [])))) (Then searched batched)) rest
      ≡ house_with b cap rest
  house_as cap searched batched rest searched_is batched_is = rw (searched_is, batched_is) refl

  -- from the house
  pub found_as : (cap : ℕ) (voted searched rest : Tree) → voted ≡ some_votes b →
      sums_with b
      (Then voted (Then (not_over (form_in b) (slots_in b) reg.NEEDED cap end.Cap) (Then (Then searched (take_house (form_in b) (slots_in b) cap)) rest)))
      ≡ found_with b cap searched rest
  found_as cap voted searched rest voted_is = rw voted_is refl

  -- and from its first seats
  pub growth_as : (cap : ℕ) (filled rest : Tree) → filled ≡ fill_outside b →
      house_with b cap (Then (Then (Line (Table (table_of (form_in b)) (ranking_of b.method) ∷ (Mov reg.LEFT reg.AMOUNT ∷ []))) filled) rest) ≡ growth_with b cap rest
  growth_as cap filled rest filled_is = rw filled_is refl

  -- a block without a cap is a split, and one with a cap a growth
  pub block_as_split : (last rest : Tree) → b.cap ≡ None → rest ≡ rest_with b last → split_all b rest ≡ block_with b last
  block_as_split last rest cap_is rest_is = rw (cap_is, rest_is) refl

  pub block_as_growth : (cap : ℕ) (last rest : Tree) → b.cap ≡ Some cap → rest ≡ rest_with b last → growth_all b (unwrap_or b.cap 0) rest ≡ block_with b last
  block_as_growth cap last rest cap_is rest_is = rw (cap_is, rest_is) refl
