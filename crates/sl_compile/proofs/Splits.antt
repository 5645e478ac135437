-- Splits and growths: what is asked of their arguments and of their own plans.
use Rattle.std.proofs.Common.{◌≡◌, ℕ, ◌+◌, ◌*◌, ◌<◌, max, true, List, [], ◌++◌, Result, IfOk, Option, Some, None, sym, ap, ◌∙◌, subst, arith}
use Rattle.std.specs.Prelude.{option_map}
use Rattle.std.proofs.lemmas.Option.{same_Some}
use Rattle.std.specs.Global.{Box}
use Rattle.sl_base_quotients.specs.declared.method.Divisor.{Divisor}
use Rattle.sl_base_quotients.specs.declared.method.Method.{Method}
use Rattle.sl_base_quotients.specs.declared.method.Method.TheVariants as kind
use Rattle.sl_law_meaning.specs.declared.book.Majority.{Majority}
use Rattle.sl_law_meaning.specs.declared.book.Number.{Number}
use Rattle.sl_base_terms.specs.declared.shape.Shape.{Shape}
use Rattle.sl_law_meaning.specs.declared.book.Unit.TheVariants as unit
use Rattle.sl_law_meaning.specs.declared.book.ColumnType.{ColumnType}
use Rattle.sl_law_meaning.specs.declared.book.Expr.{Expr, Split, Grow}
use Rattle.sl_law_meaning.specs.book.Limits.{depth_of}
use Rattle.sl_law_meaning.specs.book.Trees.{ExprTree, tree_of, split, without, atleast, grow}
use Rattle.sl_law_meaning.specs.book.Typing.{Column, column, type_of, can_split}
use Rattle.sl_code_instructions.specs.declared.instr.Instr.{Instr}
use Rattle.sl_code_instructions.specs.Codes.{CountingCode}
use Rattle.sl_compile_plans.specs.Trees.{Tree}
use Rattle.sl_compile_pieces.specs.declared.arguments.Arguments.{Arguments}
use Rattle.sl_compile_pieces.specs.exprs.Slots.{StandsOn}
use Rattle.sl_compile_pieces.specs.exprs.Pieces.{slot_of, arguments_at, pieces, split_piece, grow_piece}
use Rattle.sl_compile_pieces.proofs.exprs.Places.{slot_stands}
use Rattle.sl_blocks.specs.PlanBlocks.{AreBlocks, HasRoom}
use Rattle.sl_compile.specs.inner.Earlier.{Fits, FitsMinima, FitsGrowth}
use Rattle.sl_compile.specs.inner.Nodes.{AreArguments, MayHave}
use Rattle.sl_compile.proofs.Arguments.{Over, first_room, rest_room, rest_blocks}
use Rattle.sl_compile.proofs.Levels.{low, split_fits, split_from_fits, grow_fits}
use Rattle.sl_compile.proofs.Places.{blocks_behind, room_rest}
use Rattle.sl_compile.proofs.rulebooks.Rows.{no_blocks}

-- ---- the tree of a split, without minima and with them, and of a growth

module _ {e : Expr} {at : ℕ} {s v : Box Expr} {method : Method} {x y : Expr} (x_is : x ≡ s.value) (y_is : y ≡ v.value) where
  split_is : {majority : Majority} → e ≡ Split at s v method None majority → tree_of e ≡ split at (tree_of x) (tree_of y) method without majority
  split_is is = rw (x_is, y_is) (ap tree_of is)

  split_from_is : {m : Box Expr} {majority : Majority} → e ≡ Split at s v method (Some m) majority →
      tree_of e ≡ split at (tree_of x) (tree_of y) method (atleast (tree_of m.value)) majority
  split_from_is is = rw (x_is, y_is) (ap tree_of is)

  grow_is : {m : Box Expr} {cap : Number} {majority : Majority} → e ≡ Grow at s v method m cap majority →
      tree_of e ≡ grow at (tree_of x) (tree_of y) method (tree_of m.value) cap majority
  grow_is is = rw (x_is, y_is) (ap tree_of is)

-- ---- what is asked of minima and of the own plan

-- the plans of minima
abbrev pub minima_plans : List Column → ℕ → ℕ → Option (Box Expr) → List Tree
minima_plans types stage level None = []
minima_plans types stage level (Some m) = pieces types stage (level + 2) (tree_of m.value)

-- their trees
abbrev pub trees_of : Option (Box Expr) → Option ExprTree
trees_of None = None
trees_of (Some m) = Some (tree_of m.value)

-- minima fit two levels on, and are less deep
abbrev pub MinimaFit : List Column → ℕ → ExprTree → Option (Box Expr) → Type 0
MinimaFit types level x None = Unit {0}
MinimaFit types level x (Some m) = Fits types (level + 2) (tree_of m.value) × (depth_of (tree_of m.value) < depth_of x)

-- a column of seats of the shape of the votes
abbrev pub seats_by : ColumnType → ColumnType → ColumnType
seats_by of by = column by.shape unit.Seats

-- the plans after those of seats and votes
abbrev pub then_own : List Column → ℕ → ℕ → Option (Box Expr) → (Shape → Shape → List Tree) → ColumnType → ColumnType → List Tree
then_own types stage level minima own of by = minima_plans types stage level minima ++ own of.shape by.shape

-- an expression over seats, votes and minima if there are any, and what its own plan is asked
pub record OverSplit (types : List Column) (stage level : ℕ) (x s v : ExprTree) (method : Method) (minima : Option (Box Expr)) (own : Shape → Shape → List Tree) : Type 0 where
  pub over : Over types stage level x s v seats_by (then_own types stage level minima own)
  pub can : can_split (type_of types s).shape (type_of types v).shape ≡ true
  pub third : MinimaFit types level x minima
  pub are : AreArguments level (type_of types s).shape (type_of types v).shape (arguments_at types level s v (trees_of minima))
  pub may : MayHave method (arguments_at types level s v (trees_of minima)).minima

-- the own plans by the shapes of seats and votes
abbrev pub own_split : ℕ → ℕ → Arguments → Method → Majority → Shape → Shape → List Tree
own_split stage level from method majority a b = split_piece [] stage level a b from method majority

abbrev pub own_growth : ℕ → ℕ → Arguments → Method → Number → Majority → Shape → Shape → List Tree
own_growth stage level from method cap majority a b = grow_piece [] stage level a b from method majority cap.value

may_without : (method : Method) → MayHave method None
may_without kind.Hamilton = tt
may_without (kind.Divisor d) = tt

may_with : (method : Method) (d : Divisor) (slot : ℕ) → method ≡ kind.Divisor d → MayHave method (Some slot)
may_with method d slot is = subst (λ (m : Method). MayHave m (Some slot)) (sym is) tt

are_without : {types : List Column} {level : ℕ} (s : ExprTree) {v : ExprTree} → Fits types (level + 1) v →
    AreArguments level (type_of types s).shape (type_of types v).shape (arguments_at types level s v None)
are_without {types} {level} s {v} h = record { low = low h; amounts = slot_stands types s level; votes = slot_stands types v (level + 1); minima = λ slot is. cc }

are_with : {types : List Column} {level : ℕ} (s : ExprTree) {v m : ExprTree} → Fits types (level + 1) v → Fits types (level + 2) m → (type_of types m).shape ≡ (type_of types v).shape →
    AreArguments level (type_of types s).shape (type_of types v).shape (arguments_at types level s v (Some m))
are_with {types} {level} s {v} {m} h g same = record {
  low = low h;
  amounts = slot_stands types s level;
  votes = slot_stands types v (level + 1);
  minima = λ slot is. (
    low g,
    subst (λ (n : ℕ). StandsOn (level + 2) (type_of types v).shape n) (same_Some (slot_of types (level + 2) m) slot is)
        (subst (λ (x : Shape). StandsOn (level + 2) x (slot_of types (level + 2) m)) same (slot_stands types m (level + 2))),
  );
}

-- with minima, by what is so of all three arguments
over_minima : {types : List Column} {stage level : ℕ} {x s v : ExprTree} {m : Box Expr} {method : Method} {own : Shape → Shape → List Tree} →
    depth_of x ≡ 1 + max (max (depth_of s) (depth_of v)) (depth_of (tree_of m.value)) → type_of types x ≡ column (type_of types v).shape unit.Seats →
    pieces types stage level x ≡ pieces types stage level s ++ (pieces types stage (level + 1) v ++ then_own types stage level (Some m) own (type_of types s) (type_of types v)) →
    FitsMinima types level s v (tree_of m.value) method → OverSplit types stage level x s v method (Some m) own
over_minima {types} {stage} {level} {x} {s} {v} {m} {method} deep type plans h = record {
  over = record { left = h.split.seats; right = h.split.votes; falls = omega (arith, deep); type = type; plans = plans };
  can = h.split.can;
  third = (h.minima, omega (arith, deep));
  are = are_with s h.split.votes h.minima h.same;
  may = may_with method h.divisor (slot_of types (level + 2) (tree_of m.value)) h.by_it;
}

pub growth_fits : {types : List Column} {level : ℕ} {e : Expr} {at : ℕ} {s v m : Box Expr} {method : Method} {cap : Number} {majority : Majority} {x y : Expr} →
    x ≡ s.value → y ≡ v.value → Fits types level (tree_of e) → e ≡ Grow at s v method m cap majority → FitsGrowth types level (tree_of x) (tree_of y) (tree_of m.value) method cap.value
growth_fits {types} {level} {e} {at} {s} {v} {m} {method} {cap} {majority} {x} {y} x_is y_is fits is =
    grow_fits types level at (tree_of x) (tree_of y) (tree_of m.value) method cap majority (subst (λ (z : ExprTree). Fits types level z) (grow_is x_is y_is is) fits)

module _ {types : List Column} (stage : ℕ) {level : ℕ} {e : Expr} {at : ℕ} {s v : Box Expr} {method : Method} {majority : Majority} {x y : Expr}
    (x_is : x ≡ s.value) (y_is : y ≡ v.value) (fits : Fits types level (tree_of e)) where
  pub over_split : (minima : Option (Box Expr)) → e ≡ Split at s v method minima majority →
      OverSplit types stage level (tree_of e) (tree_of x) (tree_of y) method minima (own_split stage level (arguments_at types level (tree_of x) (tree_of y) (trees_of minima)) method majority)
  over_split None is =
      let tree = split_is x_is y_is is in
      let deep : depth_of (tree_of e) ≡ 1 + max (depth_of (tree_of x)) (depth_of (tree_of y)) = ap depth_of tree in
      let h = split_fits types level at (tree_of x) (tree_of y) method majority (subst (λ (z : ExprTree). Fits types level z) tree fits) in
      record {
        over = record { left = h.seats; right = h.votes; falls = omega (arith, deep); type = ap (type_of types) tree; plans = ap (pieces types stage level) tree };
        can = h.can;
        third = tt;
        are = are_without (tree_of x) h.votes;
        may = may_without method;
      }
  over_split (Some m) is =
      let tree = split_from_is x_is y_is is in
      let deep : depth_of (tree_of e) ≡ 1 + max (max (depth_of (tree_of x)) (depth_of (tree_of y))) (depth_of (tree_of m.value)) = ap depth_of tree in
      over_minima deep (ap (type_of types) tree) (ap (pieces types stage level) tree)
      (split_from_fits types level at (tree_of x) (tree_of y) (tree_of m.value) method majority (subst (λ (z : ExprTree). Fits types level z) tree fits))

  pub over_growth : {m : Box Expr} {cap : Number} → e ≡ Grow at s v method m cap majority →
      OverSplit types stage level (tree_of e) (tree_of x) (tree_of y) method (Some m) (own_growth stage level (arguments_at types level (tree_of x) (tree_of y) (Some (tree_of m.value))) method cap majority)
  over_growth {m} is =
      let tree = grow_is x_is y_is is in
      let deep : depth_of (tree_of e) ≡ 1 + max (max (depth_of (tree_of x)) (depth_of (tree_of y))) (depth_of (tree_of m.value)) = ap depth_of tree in
      over_minima deep (ap (type_of types) tree) (ap (pieces types stage level) tree) (growth_fits x_is y_is fits is).split

-- ---- the slots of the arguments, as they are given

-- of minima, where there are some, and where there are none
pub some_slot : (types : List Column) (level slot : ℕ) (minima : Option (Box Expr)) (m : Box Expr) (o : Option ℕ) → o ≡ Some slot → minima ≡ Some m
    → slot ≡ slot_of types (level + 2) (tree_of m.value) → o ≡ option_map (slot_of types (level + 2)) (trees_of minima)
some_slot types level slot minima m o is some at =
    is ∙ ap Some at ∙ sym (ap (λ (p : Option (Box Expr)). option_map (slot_of types (level + 2)) (trees_of p)) some)

pub no_slot : (types : List Column) (level : ℕ) (minima : Option (Box Expr)) (o : Option ℕ) → o ≡ None → minima ≡ None → o ≡ option_map (slot_of types (level + 2)) (trees_of minima)
no_slot types level minima o is none = is ∙ sym (ap (λ (p : Option (Box Expr)). option_map (slot_of types (level + 2)) (trees_of p)) none)

pub arguments_are : {a b c d : ℕ} {m n : Option ℕ} → a ≡ c → b ≡ d → m ≡ n
    → ◌≡◌ {A = Arguments} (record { amounts = a; votes = b; minima = m }) (record { amounts = c; votes = d; minima = n })
arguments_are p q r = λ i. record { amounts = p i; votes = q i; minima = r i }

-- ---- minima after seats and votes, and the own plan after these

pub can_as : {of by s v : ColumnType} → (of ≡ s) × (by ≡ v) → can_split s.shape v.shape ≡ true → can_split of.shape by.shape ≡ true
can_as {of} {by} {s} {v} have can =
    ap (λ (t : ColumnType). can_split t.shape by.shape) have.0 ∙ ap (λ (t : ColumnType). can_split s.shape t.shape) have.1 ∙ can

pub are_as : {level : ℕ} {of by s v : ColumnType} {from at : Arguments} → (of ≡ s) × (by ≡ v) → at ≡ from → AreArguments level s.shape v.shape from → AreArguments level of.shape by.shape at
are_as {level} {of} {by} {s} {v} {from} {at} have same are =
    subst (λ (f : Arguments). AreArguments level of.shape by.shape f) (sym same)
    (subst (λ (t : ColumnType). AreArguments level t.shape by.shape from) (sym have.0)
    (subst (λ (t : ColumnType). AreArguments level s.shape t.shape from) (sym have.1) are))

module _ {types : List Column} {stage level : ℕ} {x s v : ExprTree} {method : Method} {minima : Option (Box Expr)} {own : Shape → Shape → List Tree}
    (h : OverSplit types stage level x s v method minima own) where
  abbrev whole : List Tree
  whole = pieces types stage level x

  abbrev of_both : List Tree
  of_both = pieces types stage level s ++ pieces types stage (level + 1) v

  abbrev of_minima : List Tree
  of_minima = minima_plans types stage level minima

  -- none are laid out, or some are
  pub minima_none : {T : CountingCode → Type 0} (before after : List Instr) → minima ≡ None → after ≡ before → AreBlocks T of_minima before after
  minima_none {T} before after is same =
      subst (λ (o : Option (Box Expr)). AreBlocks T (minima_plans types stage level o) before after) (sym is) (subst (λ (w : List Instr). AreBlocks T [] before w) (sym same) (no_blocks T before))

  module _ {m : Box Expr} {z : Expr} (is : minima ≡ Some m) (z_is : z ≡ m.value) where
    abbrev some : List Tree
    some = pieces types stage (level + 2) (tree_of z)

    some_is : of_minima ≡ some
    some_is = ap (minima_plans types stage level) is ∙ ap (λ (y : Expr). pieces types stage (level + 2) (tree_of y)) (sym z_is)

    pub minima_some : {T : CountingCode → Type 0} (before mid after : List Instr) → after ≡ mid → AreBlocks T some before mid → AreBlocks T of_minima before after
    minima_some {T} before mid after same blocks =
        subst (λ (w : List Instr). AreBlocks T of_minima before w) (sym same) (subst (λ (ts : List Tree). AreBlocks T ts before mid) (sym some_is) blocks)

    pub minima_asks : {T : CountingCode → Type 0} {of by : ColumnType} {t : ℕ} (have : (of ≡ type_of types s) × (by ≡ type_of types v)) (before after : List Instr) → 2 * depth_of x ≡ t → HasRoom whole before →
        AreBlocks T of_both before after → (2 * depth_of (tree_of z) < t) × (Fits types (level + 2) (tree_of z) × HasRoom some after)
    minima_asks {T} {of} {by} have before after measure room there =
        let fit = subst (λ (o : Option (Box Expr)). MinimaFit types level x o) is h.third in
        let falls : depth_of (tree_of z) < depth_of x = subst (λ (y : Expr). depth_of (tree_of y) < depth_of x) (sym z_is) fit.1 in
        let behind = ap (λ (ts : List Tree). ts ++ own of.shape by.shape) some_is in (
          omega (arith, measure, falls),
          (
            subst (λ (y : Expr). Fits types (level + 2) (tree_of y)) (sym z_is) fit.0,
            first_room (of_minima ++ own of.shape by.shape) some (own of.shape by.shape) behind after (rest_room h.over have before after room there),
          ),
        )

  module _ {of by : ColumnType} (have : (of ≡ type_of types s) × (by ≡ type_of types v)) where
    pub node_room : {T : CountingCode → Type 0} (before mid after : List Instr) → HasRoom whole before → AreBlocks T of_both before mid → AreBlocks T of_minima mid after →
        HasRoom (own of.shape by.shape) after
    node_room before mid after room there third = room_rest of_minima (own of.shape by.shape) mid after (rest_room h.over have before mid room there) third

    pub node_blocks : {R E : Type 0} (r : Result R E) (S T : CountingCode → Type 0) → ((code : CountingCode) → T code → S code) → (before mid late after : List Instr) →
        AreBlocks T of_both before mid → IfOk r (λ _. AreBlocks S (own of.shape by.shape) late after) → AreBlocks T of_minima mid late → IfOk r (λ _. AreBlocks T whole before after)
    node_blocks r S T more before mid late after there blocks third =
        rest_blocks h.over have r T T (λ code has. has) before mid after there (blocks_behind r S T more of_minima (own of.shape by.shape) mid late after third blocks)
