-- Rulebooks as the definitions see them: without the places in memory (docs/language.md, section 2).
use Rattle.std.specs.Prelude.{ℕ, List, Option, Some, None}
use Rattle.std.specs.Global.{Box}
use Rattle.sl_base_quotients.specs.declared.method.Method.{Method}
use Rattle.sl_law_meaning.specs.declared.book.Axis.{Axis}
use Rattle.sl_law_meaning.specs.declared.book.Majority.{Majority}
use Rattle.sl_law_meaning.specs.declared.book.Number.{Number}
use Rattle.sl_law_meaning.specs.declared.book.Cond.{Cond}
use Rattle.sl_law_meaning.specs.declared.book.Stage.{Stage}
use Rattle.sl_law_meaning.specs.declared.book.LastClause.{LastClause}
use Rattle.sl_law_meaning.specs.declared.book.Expr.{Expr, Fact as ToldFact, Name, Sum', Pair', Split', Grow', None', Some'}
use Rattle.sl_law_meaning.specs.declared.book.Pairing.{Pairing}
use Rattle.sl_law_meaning.specs.declared.fact.Fact.{Fact}

mutual
  -- an expression, with the offset of its first token
  pub data ExprTree : Type 0 where
    fact : (at : ℕ) (told : Fact) → ExprTree
    name : (at : ℕ) (stage : List ℕ) → ExprTree
    sum : (at : ℕ) (of : ExprTree) (over : Axis) → ExprTree
    pair : (at : ℕ) (pairing : Pairing) (left right : ExprTree) → ExprTree
    split : (at : ℕ) (seats votes : ExprTree) (method : Method) (minima : MinimaTree) (majority : Majority) → ExprTree
    grow : (at : ℕ) (seats votes : ExprTree) (method : Method) (minima : ExprTree) (cap : Number) (majority : Majority) → ExprTree

  -- the minima of a split, if it has any
  pub data MinimaTree : Type 0 where
    without : MinimaTree
    atleast : (minima : ExprTree) → MinimaTree

pub record StageTree : Type 0 where
  pub name : List ℕ
  pub at : ℕ
  pub expr : ExprTree

pub record BookTree : Type 0 where
  pub version : Number
  pub law : List ℕ
  pub house : Number
  pub eligible : List Cond
  pub stages : List StageTree
  pub last : LastClause

abbrev pub tree_of : Expr → ExprTree
tree_of (ToldFact at told) = fact at told
tree_of (Name at n) = name at n
tree_of (Sum' at p e axis) = sum at (tree_of e) axis
tree_of (Pair' at pairing p l q r) = pair at pairing (tree_of l) (tree_of r)
tree_of (Split' at p s q v method None' majority) = split at (tree_of s) (tree_of v) method without majority
tree_of (Split' at p s q v method (Some' o m) majority) = split at (tree_of s) (tree_of v) method (atleast (tree_of m)) majority
tree_of (Grow' at p s q v method o m cap majority) = grow at (tree_of s) (tree_of v) method (tree_of m) cap majority

abbrev pub minima_tree : Option (Box Expr) → MinimaTree
minima_tree None = without
minima_tree (Some b) = atleast (tree_of b.value)

abbrev pub stage_of : Stage → StageTree
stage_of s = record { name = s.name; at = s.at; expr = tree_of s.expr }
