-- Columns that come one after another: the arguments of an expression, from left to right, and then its own.
use Rattle.std.proofs.Common.{ℕ, ◌+◌, ◌<◌, ◌≤◌, List, [], ◌∷◌, ◌++◌, refl, ◌∙◌, inl, arith}
use Rattle.sl_base_terms.specs.declared.shape.Shape.{Shape}
use Rattle.sl_law_meaning.specs.returns.Election.{Election}
use Rattle.sl_law_meaning.specs.meaning.Records.{Records, no_records, both_records}
use Rattle.sl_law_meaning.specs.meaning.Results.{ExprResult, Column, Fault, plain, behind, Then}
use Rattle.sl_code_instructions.specs.Codes.{CountingCode}
use Rattle.sl_code_semantics.specs.State.{State, End}
use Rattle.sl_compile_plans.specs.Trees.{Tree}
use Rattle.sl_compile_plans.specs.Achieves.{Achieves, Never}
use Rattle.sl_compile_plans.proofs.Rules.{achieves_more}
use Rattle.sl_compile_pieces.specs.columns.Columns.{HoldsColumn, GetsColumn}
use Rattle.sl_compile_pieces.specs.nodes.Nodes.{EndsWith}
use Rattle.sl_compile_pieces.specs.exprs.Slots.{passing, FIRST_STAGE_SLOT}
use Rattle.sl_compile_pieces.proofs.columns.Cells.{still_holds}
use Rattle.sl_compile_pieces.proofs.exprs.Following.{AllAchieve, all_more, all_then, all_one}
use Rattle.sl_compile_pieces.proofs.exprs.Places.{first_of, first_same, first_next, outside, wider}
use Rattle.sl_compile_pieces.proofs.nodes.Added.{adds_none, adds_more}
use Rattle.sl_compile_pieces.specs.exprs.Meaning.{ComesTo}

-- ---- columns that come, and those that stay

-- a result's column is in that slot
pub record HasArgument (e : Election) (IsResult : ExprResult → Type 0) (shape : Shape) (slot : ℕ) (s : State) (values : List ℕ) : Type 0 where
  pub records : Records
  pub result : IsResult (Column values records)
  pub column : HoldsColumn e shape (s.columns slot) values

module _ {e : Election} {IsResult : ExprResult → Type 0} {shape : Shape} {slot : ℕ} where
  pub argument : {first : ℕ} {s t : State} → (h : ComesTo e IsResult shape slot first s t) → HasArgument e IsResult shape slot t h.values
  argument h = record { records = h.records; result = h.result; column = h.column }

  pub argument_kept : {Other : ExprResult → Type 0} {other : Shape} {to first : ℕ} {s t : State} {values : List ℕ} → slot < first
      → HasArgument e IsResult shape slot s values → ComesTo e Other other to first s t → HasArgument e IsResult shape slot t values
  argument_kept {s = s} {t = t} {values = values} below h later = search
      (still_holds e shape (s.columns slot) (t.columns slot) values (λ q. later.columns slot q (inl below)) h.column)

-- ---- one after the other

module _ (e : Election) (First : ExprResult → Type 0) (Next : List ℕ → ExprResult → Type 0) where
  goes_behind : (values : List ℕ) (records : Records) (q : ExprResult) → First (Column values records) → Next values q → Then First Next (behind records q)
  goes_behind values records q first next = record { first = Column values records; comes = first; goes_on = (q, next, refl) }

  comes_behind : (shape made : Shape) (slot to first later from : ℕ) (s t u : State) → from ≤ first → from ≤ later → (one : ComesTo e First shape slot first s t)
      → ComesTo e (Next one.values) made to later t u → ComesTo e (Then First Next) made to from s u
  comes_behind shape made slot to first later from s t u low lower one two = record {
    values = two.values;
    records = both_records one.records two.records;
    result = goes_behind one.values one.records (Column two.values two.records) one.result two.result;
    column = two.column;
    columns = λ k q apart. two.columns k q (wider k from later lower apart) ∙ one.columns k q (wider k from first low apart);
    adds = adds_more one.records two.records s t u one.adds two.adds;
  }

  first_ends : (x : End) → EndsWith First x → EndsWith (Then First Next) x
  first_ends x h = record { fault = h.fault; result = record { first = Fault h.fault; comes = h.result; goes_on = refl }; is = h.is }

  later_ends : (values : List ℕ) (records : Records) → First (Column values records) → (x : End) → EndsWith (Next values) x → EndsWith (Then First Next) x
  later_ends values records first x h = record { fault = h.fault; result = goes_behind values records (Fault h.fault) first h.result; is = h.is }

  -- plans of which the first ones bring a column, and the others what follows from it
  pub then_all : {c : CountingCode} {xs ys : List Tree} {shape made : Shape} {slot to first later from : ℕ} {s : State} → from ≤ first → from ≤ later
      → AllAchieve c e xs s (ComesTo e First shape slot first s) (EndsWith First)
      → ((t : State) → (one : ComesTo e First shape slot first s t) → AllAchieve c e ys t (ComesTo e (Next one.values) made to later t) (EndsWith (Next one.values)))
      → AllAchieve c e (xs ++ ys) s (ComesTo e (Then First Next) made to from s) (EndsWith (Then First Next))
  then_all {shape = shape} {made = made} {slot = slot} {to = to} {first = first} {later = later} {from = from} {s = s} low lower one rest =
      all_then (all_more one (λ t h. h) first_ends)
      (λ t h. all_more (rest t h) (λ u k. comes_behind shape made slot to first later from s t u low lower h k) (later_ends h.values h.records h.result))

-- ---- a plan that changes one column

comes_plain : (e : Election) (IsResult : ExprResult → Type 0) (shape : Shape) (slot first : ℕ) (values : List ℕ) (s t : State) → first ≤ slot → slot < FIRST_STAGE_SLOT
    → IsResult (plain values) → GetsColumn e shape slot values s t → ComesTo e IsResult shape slot first s t
comes_plain e IsResult shape slot first values s t from within result h = record {
  values = values;
  records = no_records;
  result = result;
  column = h.holds;
  columns = λ k q apart. h.changes.columns k q (outside k first slot apart from within);
  adds = adds_none s t h.changes.steps h.changes.weights h.changes.placed;
}

pub plain_all : {c : CountingCode} {e : Election} {tree : Tree} {IsResult : ExprResult → Type 0} {shape : Shape} {slot first : ℕ} {values : List ℕ} {s : State}
    → first ≤ slot → slot < FIRST_STAGE_SLOT → IsResult (plain values) → Achieves c e tree s (GetsColumn e shape slot values s) Never
    → AllAchieve c e (tree ∷ []) s (ComesTo e IsResult shape slot first s) (EndsWith IsResult)
plain_all {e = e} {IsResult = IsResult} {shape = shape} {slot = slot} {first = first} {values = values} {s = s} from within result h =
    all_one (achieves_more h (λ t k. comes_plain e IsResult shape slot first values s t from within result k) (λ x never. absurd never))

-- ---- two arguments, and three

module _ {c : CountingCode} {e : Election} (level : ℕ) (First Second : ExprResult → Type 0) {one two made : Shape} {first_slot second_slot : ℕ} (below : first_slot < first_of (level + 1)) where
  pub two_arguments : (Next : List ℕ → List ℕ → ExprResult → Type 0) {ts us vs : List Tree} {s : State}
      → AllAchieve c e ts s (ComesTo e First one first_slot (first_of level) s) (EndsWith First)
      → ((t : State) → ComesTo e First one first_slot (first_of level) s t
      → AllAchieve c e us t (ComesTo e Second two second_slot (first_of (level + 1)) t) (EndsWith Second))
      → ((u : State) (xs ys : List ℕ) → HasArgument e First one first_slot u xs → HasArgument e Second two second_slot u ys
      → AllAchieve c e vs u (ComesTo e (Next xs ys) made (passing level made) (first_of level) u) (EndsWith (Next xs ys)))
      → AllAchieve c e (ts ++ (us ++ vs)) s (ComesTo e (Then First (λ xs. Then Second (Next xs))) made (passing level made) (first_of level) s)
      (EndsWith (Then First (λ xs. Then Second (Next xs))))
  two_arguments Next {s = s} first second last =
      then_all e First (λ xs. Then Second (Next xs)) (first_same level) (first_same level) first
      (λ t h. then_all e Second (Next h.values) (first_next level 1) (first_same level) (second t h)
      (λ u k. last u h.values k.values (argument_kept below (argument h) k) (argument k)))

  module _ (Third : ExprResult → Type 0) {three : Shape} {third_slot : ℕ} (second_below : second_slot < first_of (level + 2)) where
    pub three_arguments : (Next : List ℕ → List ℕ → List ℕ → ExprResult → Type 0) {ts us vs ws : List Tree} {s : State}
        → AllAchieve c e ts s (ComesTo e First one first_slot (first_of level) s) (EndsWith First)
        → ((t : State) → ComesTo e First one first_slot (first_of level) s t
        → AllAchieve c e us t (ComesTo e Second two second_slot (first_of (level + 1)) t) (EndsWith Second))
        → ((t u : State) → ComesTo e First one first_slot (first_of level) s t → ComesTo e Second two second_slot (first_of (level + 1)) t u
        → AllAchieve c e vs u (ComesTo e Third three third_slot (first_of (level + 2)) u) (EndsWith Third))
        → ((v : State) (xs ys zs : List ℕ) → HasArgument e First one first_slot v xs → HasArgument e Second two second_slot v ys
        → HasArgument e Third three third_slot v zs
        → AllAchieve c e ws v (ComesTo e (Next xs ys zs) made (passing level made) (first_of level) v) (EndsWith (Next xs ys zs)))
        → AllAchieve c e (ts ++ (us ++ (vs ++ ws))) s
        (ComesTo e (Then First (λ xs. Then Second (λ ys. Then Third (Next xs ys)))) made (passing level made) (first_of level) s)
        (EndsWith (Then First (λ xs. Then Second (λ ys. Then Third (Next xs ys)))))
    three_arguments Next {s = s} first second third last =
        then_all e First (λ xs. Then Second (λ ys. Then Third (Next xs ys))) (first_same level) (first_same level) first
        (λ t h. then_all e Second (λ ys. Then Third (Next h.values ys)) (first_next level 1) (first_same level) (second t h)
        (λ u k. then_all e Third (Next h.values k.values) (first_next level 2) (first_same level) (third t u h k)
        (λ v l. last v h.values k.values l.values
        (argument_kept (omega (arith, below)) (argument_kept below (argument h) k) l)
        (argument_kept second_below (argument k) l) (argument l))))
