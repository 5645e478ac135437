-- What splits and growths distribute, scope by scope, by the meaning of a rulebook (docs/meaning.md, section 6).
-- Each law is the contract of a function of `laws::books`.
use Rattle.std.specs.Prelude.{◌≡◌, ℕ, ◌*◌, ◌<◌, ◌≤◌, true, List, Contains, sum, slice_index}
use Rattle.sl_base_quotients.specs.declared.method.Method.{Method}
use Rattle.sl_law_meaning.specs.declared.book.Majority.{Majority}
use Rattle.sl_law_meaning.specs.declared.book.Majority.TheVariants as majority
use Rattle.sl_law_meaning.specs.declared.book.Number.{Number}
use Rattle.sl_base_terms.specs.declared.shape.Shape.TheVariants as shape
use Rattle.sl_law_meaning.specs.declared.fault.Item.{Item}
use Rattle.sl_law_meaning.specs.book.Trees.{ExprTree, split, grow, MinimaTree, BookTree}
use Rattle.sl_law_meaning.specs.book.Typing.{can_split}
use Rattle.sl_law_meaning.specs.returns.Election.{Election}
use Rattle.sl_law_meaning.specs.meaning.Records.{Records}
use Rattle.sl_law_meaning.specs.meaning.Results.{Column}
use Rattle.sl_law_meaning.specs.meaning.Scopes.{Group, place, cells, scopes}
use Rattle.sl_law_meaning.specs.meaning.Expressions.{Context, shape_in, ExprMeans}

-- the expression yields a column, whatever the records of its seats
abbrev pub ComesToColumn : BookTree → Election → Context → ExprTree → List ℕ → Type 0
ComesToColumn b e c x values = (records : Records) × ExprMeans b e c x (Column values records)

-- the seats of a scope's entries in a column, or their votes
abbrev pub sum_in : Election → Group → List ℕ → ℕ
sum_in e g column = sum (cells e g.entries column)

-- the number of an entry in a column
abbrev pub number_of : Election → Item → List ℕ → ℕ
number_of e i column = slice_index column (place e i)

-- a split that yields a column distributes in each scope just the amount of the scope
abbrev pub SplitsGiveTheAmount : Type 0
SplitsGiveTheAmount =
    (b : BookTree) (e : Election) (c : Context) (at : ℕ) (s v : ExprTree) (method : Method) (minima : MinimaTree) (m : Majority) (values : List ℕ) →
    can_split (shape_in c s) (shape_in c v) ≡ true → ComesToColumn b e c (split at s v method minima m) values →
    (amounts : List ℕ) × ComesToColumn b e c s amounts
    × ((g : Group) → Contains (scopes e (shape_in c s) (shape_in c v)) g → sum_in e g values ≡ slice_index amounts g.amount_place)

-- a growth that yields a column distributes at least the amount, and no more than the cap
abbrev pub GrowthsGiveTheAmount : Type 0
GrowthsGiveTheAmount =
    (b : BookTree) (e : Election) (c : Context) (at : ℕ) (s v : ExprTree) (method : Method) (minima : ExprTree) (cap : Number) (m : Majority) (values : List ℕ) →
    can_split shape.One (shape_in c v) ≡ true → ComesToColumn b e c (grow at s v method minima cap m) values →
    (amounts : List ℕ) × ComesToColumn b e c s amounts
    × ((g : Group) → Contains (scopes e shape.One (shape_in c v)) g → (slice_index amounts g.amount_place ≤ sum_in e g values) × (sum_in e g values ≤ cap.value))

-- in each scope that has seats, more than half of the votes has more than half of the seats
abbrev pub KeepsMajorities : Election → List Group → List ℕ → List ℕ → Type 0
KeepsMajorities e groups votes values =
    (g : Group) → Contains groups g → 0 < sum_in e g values →
    (i : Item) → Contains g.entries i → sum_in e g votes < 2 * number_of e i votes → sum_in e g values < 2 * number_of e i values

-- so it is with `majority refuse` where a split or a growth yields a column
abbrev pub MajorityKept : Type 0
MajorityKept =
    (b : BookTree) (e : Election) (c : Context) (at : ℕ) (s v : ExprTree) (method : Method) (minima : MinimaTree) (values : List ℕ) →
    can_split (shape_in c s) (shape_in c v) ≡ true → ComesToColumn b e c (split at s v method minima majority.Refuse) values →
    (votes : List ℕ) × ComesToColumn b e c v votes × KeepsMajorities e (scopes e (shape_in c s) (shape_in c v)) votes values

abbrev pub GrownMajorityKept : Type 0
GrownMajorityKept =
    (b : BookTree) (e : Election) (c : Context) (at : ℕ) (s v : ExprTree) (method : Method) (minima : ExprTree) (cap : Number) (values : List ℕ) →
    can_split shape.One (shape_in c v) ≡ true → ComesToColumn b e c (grow at s v method minima cap majority.Refuse) values →
    (votes : List ℕ) × ComesToColumn b e c v votes × KeepsMajorities e (scopes e shape.One (shape_in c v)) votes values
