-- The text after a name has one verdict, which is the tree of the statute.
use Rattle.std.proofs.Common.{◌≡◌, ℕ, List, Option, arith, sym, subst, ◌∙◌}
use Rattle.sl_law_meaning.specs.book.Trees.{BookTree}
use Rattle.sl_count_inputs.specs.declared.refusal.BookRefusal.{BookRefusal}
use Rattle.sl_count_inputs.specs.declared.verdict.Verdict.{Verdict}
use Rattle.sl_count_inputs.specs.declared.verdict.Verdict.TheVariants.{Good}
use Rattle.sl_count_inputs.specs.Books.{IsTextVerdict, IsLawVerdict}
use Rattle.sl_count_calls.specs.Counting.{IsCount}
use Rattle.sl_count_calls.specs.Reports.{IsReported}
use Rattle.sl_desk.specs.Laws.{OneBookVerdict}
use Rattle.sl_law_library.specs.Texts.{HasStatuteTree, TextsHaveTheTrees}
use Rattle.sl_law_library.specs.Names.{CountsBy, NamesCountByStatutes}

counts_by : OneBookVerdict → (name : List ℕ) (statute : (ℕ → ℕ) → BookTree) → HasStatuteTree name statute → CountsBy name statute
counts_by one name statute h =
    let tree = statute h.at in
    let short = h.short in
    let good : IsTextVerdict h.text (Good tree) = (
      record { tokens = h.is.0; lexed = record { fits = omega (arith, short); lexed = h.is.1 }; parsed = h.is.2; within = h.within },
      h.formed,
    ) in
    record {
      at = h.at;
      good = subst (λ (o : Option (List ℕ)). IsLawVerdict name o (Good tree)) (sym h.named) good;
      counts = λ report returns ends output out.
          let is : IsTextVerdict h.text out.0 = subst (λ (o : Option (List ℕ)). IsLawVerdict name o out.0) h.named out.1 in
          let same : out.0 ≡ Good tree = (one h.text).only out.0 is ∙ sym ((one h.text).only (Good tree) good) in
          subst (λ (v : Verdict BookTree BookRefusal). IsCount (IsReported report) v returns ends output) same out.2;
    }

pub names_count : OneBookVerdict → TextsHaveTheTrees → NamesCountByStatutes
names_count one trees = λ k d h. counts_by one _ _ (trees.0 k d h)
