-- All tests of an expression hold exactly where it has a type.
use Rattle.std.proofs.Common.{◌≡◌, ℕ, ◌||◌, List, [], ◌∷◌, Bool, cond, false, Option, Some, None, true, find, is_some, option_map, refl, ◌∙◌, sym}
use Rattle.std.proofs.Common.{rules}
use Rattle.std.specs.List.{list_any}
use Rattle.sl_base_terms.specs.declared.shape.Shape.TheVariants as shape
use Rattle.sl_law_meaning.specs.declared.book.Unit.TheVariants as unit
use Rattle.sl_law_meaning.specs.declared.book.ColumnType.{ColumnType}
use Rattle.sl_law_meaning.specs.book.Trees.{ExprTree, fact, name, sum, pair, split, without, atleast, grow}
use Rattle.sl_base_terms.specs.Tests.{first_failing}
use Rattle.sl_law_meaning.specs.book.Typing.{Column, column, type_or_one, is_named, expr_tests, type_of}
use Rattle.sl_law_meaning.specs.book.Typing.{name_tests}
use Rattle.sl_law_meaning.specs.book.Typing.{sum_tests, pair_tests, split_tests, split_from_tests, grow_tests}
use Rattle.sl_law_meaning.specs.book.HasType.{HasType, IsStageType}
use Rattle.sl_law_meaning.specs.laws.BookLaws.{TypesByTests}
use Rattle.sl_base_terms.proofs.Tests.{pass_parts, pass_join}
use Rattle.sl_law_meaning.proofs.typing.TestLists.{pass_parts3, pass_join3, pass_parts4, pass_join4, all_hold, hold_all}
use Rattle.sl_law_meaning.proofs.typing.NodeLaws.{sum_typed, sum_has, pair_typed, pair_has, split_typed, split_has, split_from_typed, split_from_has, grow_typed, grow_has}

-- a column is found where there is one of that name
pub is_found : (p : Column → Bool) (cs : List Column) → list_any p cs ≡ is_some (option_map (λ c. c.type) (find p cs))
is_found p [] = refl
is_found p (c ∷ cs) =
    elim (p c) as (λ b. (b || list_any p cs) ≡ is_some (option_map (λ d. d.type) (cond b (Some c) (find p cs))))
    [ true ↦ refl | false ↦ is_found p cs ]

-- all tests of an expression hold, and that is its type
abbrev pub Passes : List Column → ExprTree → ColumnType → Type 0
Passes cs e t = (first_failing (expr_tests cs e) ≡ None) × (type_of cs e ≡ t)

named : (cs : List Column) (found : Option Column) (n : List ℕ) (t : ColumnType) → find (is_named n) cs ≡ found → is_some (option_map (λ c. c.type) found) ≡ true → type_or_one found ≡ t → IsStageType cs n t
named cs None n t is some same = cc
named cs (Some c) n t is some same = record { of = c; found = is; same = sym same }

-- ---- an expression with a type passes

pub typed : (cs : List Column) (e : ExprTree) (t : ColumnType) → HasType cs e t → Passes cs e t
typed cs (fact at told) t h = (refl, sym h)
typed cs (name at n) t h = (all_hold (name_tests cs at n) (is_found (is_named n) cs ∙ rw h.found refl, tt), rw h.found (sym h.same))
typed cs (sum at e over) t h =
    let p = typed cs e (column h.from t.unit) h.of in
    let q = sum_typed at over (type_of cs e) t h.from p.1 h.sums in
    (pass_join (expr_tests cs e) (sum_tests at (type_of cs e) over) p.0 q.0, q.1)
typed cs (pair at pairing l r) t h =
    let p = typed cs l t h.0 in
    let q = typed cs r t h.1 in
    (pass_join3 (expr_tests cs l) (expr_tests cs r) (pair_tests at (type_of cs l) (type_of cs r)) p.0 q.0 (pair_typed at (type_of cs l) (type_of cs r) t p.1 q.1), p.1)
typed cs (split at s v method without m) t h =
    let p = typed cs s (column h.from unit.Seats) h.seats in
    let q = typed cs v (column t.shape unit.Votes) h.votes in
    let n = split_typed at (type_of cs s) (type_of cs v) t method m
    (record { from = h.from; splits = h.splits; seats = p.1; votes = q.1; gives = h.gives; preferred = h.preferred }) in
    (pass_join3 (expr_tests cs s) (expr_tests cs v) (split_tests at (type_of cs s) (type_of cs v) method m) p.0 q.0 n.0, n.1)
typed cs (split at s v method (atleast f) m) t h =
    let p = typed cs s (column h.0 unit.Seats) h.1.seats in
    let q = typed cs v (column t.shape unit.Votes) h.1.votes in
    let r = typed cs f (column t.shape unit.Seats) h.1.minima in
    let n = split_from_typed at (type_of cs s) (type_of cs v) (type_of cs f) t h.0 method m
    (record { splits = h.1.splits; seats = p.1; votes = q.1; minima = r.1; gives = h.1.gives; divisor = h.1.divisor; by = h.1.by; not_preferred = h.1.not_preferred }) in
    (pass_join4 (expr_tests cs s) (expr_tests cs v) (expr_tests cs f) (split_from_tests at (type_of cs s) (type_of cs v) (type_of cs f) method m) p.0 q.0 r.0 n.0, n.1)
typed cs (grow at s v method f most m) t h =
    let p = typed cs s (column shape.One unit.Seats) h.0.seats in
    let q = typed cs v (column t.shape unit.Votes) h.0.votes in
    let r = typed cs f (column t.shape unit.Seats) h.0.minima in
    let n = grow_typed at (type_of cs s) (type_of cs v) (type_of cs f) t method most m
    (record { splits = h.0.splits; seats = p.1; votes = q.1; minima = r.1; gives = h.0.gives; divisor = h.0.divisor; by = h.0.by; not_preferred = h.0.not_preferred }) h.1 h.2 in
    (pass_join4 (expr_tests cs s) (expr_tests cs v) (expr_tests cs f) (grow_tests at (type_of cs s) (type_of cs v) (type_of cs f) method most m) p.0 q.0 r.0 n.0, n.1)

-- ---- an expression that passes has its type

pub has : (cs : List Column) (e : ExprTree) (t : ColumnType) → Passes cs e t → HasType cs e t
has cs (fact at told) t h = sym h.1
has cs (name at n) t h = named cs (find (is_named n) cs) n t refl (sym (is_found (is_named n) cs) ∙ (hold_all (name_tests cs at n) h.0).0) h.1
has cs (sum at e over) t h =
    let p = pass_parts (expr_tests cs e) (sum_tests at (type_of cs e) over) h.0 in
    let n = sum_has at over (type_of cs e) t p.1 h.1 in
    record { from = (type_of cs e).shape; sums = n.0; of = has cs e (column (type_of cs e).shape t.unit) (p.0, n.1) }
has cs (pair at pairing l r) t h =
    let p = pass_parts3 (expr_tests cs l) (expr_tests cs r) (pair_tests at (type_of cs l) (type_of cs r)) h.0 in
    (has cs l t (p.0, h.1), has cs r t (p.1, pair_has at (type_of cs l) (type_of cs r) p.2 ∙ h.1))
has cs (split at s v method without m) t h =
    let p = pass_parts3 (expr_tests cs s) (expr_tests cs v) (split_tests at (type_of cs s) (type_of cs v) method m) h.0 in
    let n = split_has at (type_of cs s) (type_of cs v) t method m p.2 h.1 in
    let seats = has cs s (column n.from unit.Seats) (p.0, n.seats) in
    let votes = has cs v (column t.shape unit.Votes) (p.1, n.votes) in
    search rules
has cs (split at s v method (atleast f) m) t h =
    let p = pass_parts4 (expr_tests cs s) (expr_tests cs v) (expr_tests cs f) (split_from_tests at (type_of cs s) (type_of cs v) (type_of cs f) method m) h.0 in
    let from = (type_of cs s).shape in
    let n = split_from_has at (type_of cs s) (type_of cs v) (type_of cs f) t method m p.3 h.1 in
    let seats = has cs s (column from unit.Seats) (p.0, n.seats) in
    let votes = has cs v (column t.shape unit.Votes) (p.1, n.votes) in
    let minima = has cs f (column t.shape unit.Seats) (p.2, n.minima) in
    (from, search rules)
has cs (grow at s v method f most m) t h =
    let p = pass_parts4 (expr_tests cs s) (expr_tests cs v) (expr_tests cs f) (grow_tests at (type_of cs s) (type_of cs v) (type_of cs f) method most m) h.0 in
    let g = grow_has at (type_of cs s) (type_of cs v) (type_of cs f) t method most m p.3 h.1 in
    let n = g.0 in
    let seats = has cs s (column shape.One unit.Seats) (p.0, n.seats) in
    let votes = has cs v (column t.shape unit.Votes) (p.1, n.votes) in
    let minima = has cs f (column t.shape unit.Seats) (p.2, n.minima) in
    (search rules, g.1, g.2)

pub typed_expressions : TypesByTests
typed_expressions cs e t = (typed cs e t, has cs e t)
