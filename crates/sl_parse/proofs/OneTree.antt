-- Each book is within some limits, so that reading finds it.
use Rattle.std.proofs.Common.{◌≡◌, ℕ, zero, suc, ◌+◌, ◌≤◌, true, List, [], ◌∷◌, length, Ok, Err, refl, sym, ap, ◌∙◌, arith}
use Rattle.std.proofs.lemmas.Bool.{and_from, and_parts, le-leb, leb-true}
use Rattle.std.specs.Prelude.{nat_le, IsTrue}
use Rattle.std.specs.List.{list_all}
use Rattle.sl_lex.specs.declared.token.Token.{Token}
use Rattle.sl_law_meaning.specs.declared.limits.TheConstants.{MAX_DEPTH, MAX_PARTS}
use Rattle.sl_base_terms.specs.declared.limits.TheConstants.{MAX_STAGES}
use Rattle.sl_law_meaning.specs.book.Trees.{StageTree, BookTree}
use Rattle.sl_law_meaning.specs.book.Limits.{depth_of, parts_of, is_within_stage, is_within_limits}
use Rattle.sl_parse.specs.declared.fault.Cause.{Cause}
use Rattle.sl_parse.specs.Grammar.{IsBook}
use Rattle.sl_parse.specs.Faults.{Limits}
use Rattle.sl_parse.specs.Parsing.{limits}
use Rattle.sl_parse.specs.inner.Reading.{Read, read_stages, read_book}
use Rattle.sl_parse.proofs.ReadsBook.{AreWithin, StagesRead, reads_stages}
use Rattle.sl_parse.proofs.Agrees.{Finds}
use Rattle.sl_parse.proofs.AgreesBook.{book_agrees}

sizes : List StageTree → ℕ
sizes [] = 0
sizes (s ∷ ss) = depth_of s.expr + parts_of s.expr + sizes ss

all_within : (l : Limits) (n : ℕ) (ss : List StageTree) → sizes ss ≤ l.depth → sizes ss ≤ l.parts → length ss ≤ n → AreWithin l n ss
unfolding sizes
all_within l n [] h k m = tt
all_within l zero (s ∷ ss) h k m = absurd (omega arith)
all_within l (suc n) (s ∷ ss) h k m = (omega arith, omega arith, all_within l n ss (omega arith) (omega arith) (omega arith))

pub finds_book : (text : List ℕ) (l : Limits) (b : BookTree) (ts : List Token) → IsBook text b ts [] → AreWithin l l.stages b.stages → read_book text l ts ≡ Ok b
finds_book text l b ts h fits = go (read_book text l ts) (book_agrees text l b ts h).finds
  where
    go : (r : Read BookTree) → Finds r b [] (AreWithin l l.stages b.stages) → r ≡ Ok b
    go (Ok x) f = ap (λ (y : BookTree). Ok y) f
    go (Err e) f = absurd (f.2 fits)

abbrev found : BookTree → Read BookTree
found b = Ok b

pub one : (text : List ℕ) (ts : List Token) (a b : BookTree) → IsBook text a ts [] → IsBook text b ts [] → a ≡ b
one text ts a b h k =
    let n : ℕ = sizes a.stages + sizes b.stages in
    let l : Limits = record { depth = n; parts = n; stages = length a.stages + length b.stages } in
    let x : read_book text l ts ≡ found a = finds_book text l a ts h (all_within l l.stages a.stages (omega arith) (omega arith) (omega arith)) in
    let y : read_book text l ts ≡ found b = finds_book text l b ts k (all_within l l.stages b.stages (omega arith) (omega arith) (omega arith)) in
    let z : found a ≡ found b = sym x ∙ y in
    cc z

pub same_book : (text : List ℕ) (l : Limits) (a b : BookTree) (ts : List Token) → read_book text l ts ≡ Ok a → IsBook text b ts [] → AreWithin l l.stages b.stages → a ≡ b
same_book text l a b ts e h fits =
    let z : found a ≡ found b = sym e ∙ finds_book text l b ts h fits in
    cc z

pub not_stopped : (text : List ℕ) (l : Limits) (c : Cause) (rest : List Token) (b : BookTree) (ts : List Token) → read_book text l ts ≡ Err (c, rest) → IsBook text b ts [] → AreWithin l l.stages b.stages → ⊥
not_stopped text l c rest b ts e h fits = let k = finds_book text l b ts h fits in absurd cc

-- ---- the limits of books as a test

each : (n : ℕ) (ss : List StageTree) → length ss ≤ n → list_all is_within_stage ss ≡ true → AreWithin limits n ss
each n [] h k = tt
each zero (s ∷ ss) h k = absurd (omega arith)
each (suc n) (s ∷ ss) h k =
    let here = and_parts (is_within_stage s) (list_all is_within_stage ss) k in
    let room = and_parts (nat_le (depth_of s.expr) MAX_DEPTH) (nat_le (parts_of s.expr) MAX_PARTS) here.0 in
    (leb-true _ _ room.0, leb-true _ _ room.1, each n ss (omega arith) here.1)

pub within : (ss : List StageTree) → IsTrue (is_within_limits ss) → AreWithin limits MAX_STAGES ss
within ss h = let k = and_parts (nat_le (length ss) MAX_STAGES) (list_all is_within_stage ss) h in each MAX_STAGES ss (leb-true _ _ k.0) k.1

all_pass : (n : ℕ) (ss : List StageTree) → AreWithin limits n ss → (length ss ≤ n) × (list_all is_within_stage ss ≡ true)
all_pass n [] h = (omega arith, refl)
all_pass zero (s ∷ ss) h = absurd h
all_pass (suc n) (s ∷ ss) h =
    let k = all_pass n ss h.2 in
    (omega (arith, k.0), and_from _ _ (and_from _ _ (le-leb _ _ h.0) (le-leb _ _ h.1)) k.1)

pub is_within : (ss : List StageTree) → AreWithin limits MAX_STAGES ss → IsTrue (is_within_limits ss)
is_within ss h = let k = all_pass MAX_STAGES ss h in and_from _ _ (le-leb _ _ k.0) k.1

-- stages that are read are within the limits
pub read_within : (text : List ℕ) (ts rest : List Token) (ss : List StageTree) → read_stages text limits MAX_STAGES ts ≡ Ok (ss, rest) → IsTrue (is_within_limits ss)
read_within text ts rest ss e =
    let told = (reads_stages text limits MAX_STAGES 0 ts).told in
    let read : StagesRead text limits MAX_STAGES ts (ss, rest) = rw e at told in
    is_within ss read.within
