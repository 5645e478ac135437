-- Stages that a run goes through yield columns, and what columns leaves and pools are.
use Rattle.std.proofs.Common.{◌≡◌, ℕ, ◌-◌, List, [], ◌∷◌, Some, sum, sym, ap, ◌∙◌}
use Rattle.std.specs.Prelude.{find, option_map}
use Rattle.std.proofs.lemmas.Option.{same_Some}
use Rattle.sl_law_meaning.specs.declared.book.Axis.TheVariants as axis
use Rattle.sl_law_meaning.specs.declared.book.Pairing.TheVariants as pairings
use Rattle.sl_law_meaning.specs.declared.fact.Fact.{Fact}
use Rattle.sl_law_meaning.specs.declared.fact.Fact.TheVariants as facts
use Rattle.sl_law_meaning.specs.book.Trees.{fact, name, StageTree, BookTree}
use Rattle.sl_law_meaning.specs.returns.Election.{Election}
use Rattle.sl_law_meaning.specs.meaning.Columns.{is_column_of, fact_column, sum_over, pair_of}
use Rattle.sl_law_meaning.specs.meaning.Records.{Records}
use Rattle.sl_law_meaning.specs.meaning.Results.{ExprResult, Column, Fault, plain, Then}
use Rattle.sl_law_meaning.specs.meaning.Expressions.{Context, ExprMeans}
use Rattle.sl_law_meaning.specs.meaning.Means.{Known, Through, context_of, with_stage, GoesOn, StagesMean}
use Rattle.sl_law_meaning.proofs.meaning.TypedMeaning.{then_column}
use Rattle.sl_law_statutes.specs.Trees.{pool, party_votes}
use Rattle.sl_law_statutes.specs.Houses.{house_of}
use Rattle.sl_law_statutes.specs.Parties.{party_column}

-- ---- a stage that the run goes through

pub record StageRan (b : BookTree) (e : Election) (k : Known) (s : StageTree) (ss : List StageTree) (end : Known) : Type 0 where
  pub values : List ℕ
  pub records : Records
  pub means : ExprMeans b e (context_of k s) s.expr (Column values records)
  pub rest : StagesMean b e (with_stage k s values records) ss (Through end)

pub ran : (b : BookTree) (e : Election) (k : Known) (s : StageTree) (ss : List StageTree) (end : Known) → StagesMean b e k (s ∷ ss) (Through end) → StageRan b e k s ss end
ran b e k s ss end run = of run.0 run.1 run.2 where
  of : (p : ExprResult) → ExprMeans b e (context_of k s) s.expr p → GoesOn p (λ values records. StagesMean b e (with_stage k s values records) ss (Through end)) (Through end) → StageRan b e k s ss end
  of (Fault f) means on = cc
  of (Column values records) means on = record { values = values; records = records; means = means; rest = on }

pub same_known : (k j : Known) → Through k ≡ Through j → k ≡ j
same_known k j same = cc

-- ---- leaves and pools

pub plain_values : (c values : List ℕ) (r : Records) → Column values r ≡ plain c → values ≡ c
plain_values c values r is = cc

module _ (b : BookTree) (e : Election) (c : Context) (values : List ℕ) (r : Records) where
  pub fact_is : (at : ℕ) (told : Fact) → ExprMeans b e c (fact at told) (Column values r) → values ≡ fact_column b e told
  fact_is at told h = plain_values h.0 values r h.2 ∙ h.1

  pub name_is : (at : ℕ) (n xs : List ℕ) → option_map (λ s. s.values) (find (is_column_of n) c.columns) ≡ Some xs → ExprMeans b e c (name at n) (Column values r) → values ≡ xs
  name_is at n xs found h = plain_values h.0 values r h.2 ∙ same_Some h.0 xs (sym h.1 ∙ found)

less_of : (left right values : List ℕ) (x y : ℕ) → left ≡ x ∷ [] → right ≡ y ∷ [] → values ≡ pair_of pairings.Less left right → values ≡ (x - y) ∷ []
less_of left right values x y is_left is_right is = is ∙ ap (λ xs. pair_of pairings.Less xs right) is_left ∙ ap (pair_of pairings.Less (x ∷ [])) is_right

total_of : (xs column all : List ℕ) → xs ≡ column → all ≡ sum xs ∷ [] → all ≡ sum column ∷ []
total_of xs column all same is = is ∙ ap (λ xs. sum xs ∷ []) same

-- the pool is the house without those winners
pub pool_is : (at : ℕ → ℕ) (told : Fact) (b : BookTree) (e : Election) (c : Context) (values : List ℕ) (r : Records) → ExprMeans b e c (pool at told).expr (Column values r) →
    values ≡ (house_of b e - sum (fact_column b e told)) ∷ []
pool_is at told b e c values r h =
    let Total : List ℕ → ExprResult → Type 0 = λ xs r. r ≡ plain (sum_over e axis.All xs) in
    let Taken : ExprResult → Type 0 = Then (ExprMeans b e c (fact (at 5) told)) Total in
    let Less : List ℕ → List ℕ → ExprResult → Type 0 = λ xs ys r. r ≡ plain (pair_of pairings.Less xs ys) in
    let one = then_column (ExprMeans b e c (fact (at 3) facts.House)) (λ xs. Then Taken (Less xs)) values r h in
    let two = then_column Taken (Less one.0) values one.3 one.4 in
    let three = then_column (ExprMeans b e c (fact (at 5) told)) Total two.0 two.1 two.2 in
    let house : one.0 ≡ house_of b e ∷ [] = fact_is b e c one.0 one.1 (at 3) facts.House one.2 in
    let taken : two.0 ≡ sum (fact_column b e told) ∷ [] =
    total_of three.0 (fact_column b e told) two.0 (fact_is b e c three.0 three.1 (at 5) told three.2) (plain_values (sum_over e axis.All three.0) two.0 three.3 three.4) in
    less_of one.0 two.0 values (house_of b e) (sum (fact_column b e told)) house taken (plain_values (pair_of pairings.Less one.0 two.0) values two.3 two.4)

-- the votes are those of each party's lists
pub votes_are : (at : ℕ → ℕ) (b : BookTree) (e : Election) (c : Context) (votes : List ℕ) (r : Records) → ExprMeans b e c (party_votes at) (Column votes r) → votes ≡ party_column b e
votes_are at b e c votes r h =
    let one = then_column (ExprMeans b e c (fact (at 7) facts.Counted)) (λ xs r. r ≡ plain (sum_over e axis.Party xs)) votes r h in
    plain_values (sum_over e axis.Party one.0) votes one.3 one.4 ∙ ap (sum_over e axis.Party) (fact_is b e c one.0 one.1 (at 7) facts.Counted one.2)
