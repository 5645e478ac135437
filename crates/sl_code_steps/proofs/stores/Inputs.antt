-- Columns of the returns: past their cells all is 0.
use Rattle.std.proofs.Common.{rules, ◌≡◌, ℕ, zero, suc, ◌*◌, ◌/◌, ◌%◌, ◌<◌, ◌≤◌, true, false, nat_lt, Option, List, map, get_or, if◌then◌else◌, sym, ap, ◌∙◌, inl, inr, arith}
use Rattle.std.specs.List.{range_with_len}
use Rattle.std.proofs.lemmas.Bool.Decides.{nat_tests}
use Rattle.std.proofs.lemmas.List.{get_or_past}
use Rattle.std.proofs.lemmas.List.FromFn.{get_or-map-range_with_len, length-map-range_with_len}
use Rattle.std.proofs.lemmas.Bool.{cases_Bool, ltb-true, ltb-false, lt-ltb}
use Rattle.std.proofs.lemmas.Nat.{div-mul-add, mod-mul-add}
use Rattle.sl_law_meaning.specs.declared.election.ListVotes.{ListVotes}
use Rattle.sl_law_meaning.specs.returns.Election.{Election, IsElection, lands_of, parties_of, list_at}
use Rattle.sl_code_instructions.specs.declared.operand.Input.{Input}
use Rattle.sl_code_instructions.specs.declared.operand.Input.TheVariants as input
use Rattle.sl_code_semantics.specs.Needs.{input_shape}
use Rattle.sl_code_semantics.specs.Places.{cells_of}
use Rattle.sl_code_steps.specs.declared.columns.ListAt.{ListAt}
use Rattle.sl_code_steps.specs.inner.Columns.{IsListAt}
use Rattle.sl_code_semantics.specs.Effects.{from_lists, input_of, one_if}

positive_factor : (n k p : ℕ) → p < n * k → 0 < k
positive_factor n zero p h = absurd (omega arith)
positive_factor n (suc k) p h = omega arith

none_past : (n p x : ℕ) → n ≤ p → (if nat_lt p n then x else 0) ≡ 0
none_past n p x h = grind (arith, nat_tests)

input_past : (e : Election) → IsElection e → (i : Input) (p : ℕ) → cells_of e (input_shape i) ≤ p → input_of e i p ≡ 0
input_past e kept input.Minority p h = ap one_if (get_or_past e.minorities p false (omega (arith, kept.minorities)))
input_past e kept input.Population p h = get_or_past e.populations p 0 (omega (arith, kept.populations))
input_past e kept i p h = search (rules, none_past)

module _ (f : ℕ → ℕ) (n : ℕ) (past : (p : ℕ) → n ≤ p → f p ≡ 0) where
  listed_at : (p : ℕ) → get_or (map f (range_with_len 0 n)) p 0 ≡ f p
  listed_at p =
      elim (cases_Bool (nat_lt p n)) [
        | inl t ↦ get_or-map-range_with_len f 0 n p p 0 (ltb-true p n t) (omega arith)
        | inr g ↦
            let out : n ≤ p = ltb-false p n g in
            get_or_past (map f (range_with_len 0 n)) p 0 (omega (arith, length-map-range_with_len f 0 n)) ∙ sym (past p out)
      ]

pub input_at : (e : Election) (i : Input) (xs : List ℕ) → IsElection e → xs ≡ map (input_of e i) (range_with_len 0 (cells_of e (input_shape i))) → (p : ℕ) → get_or xs p 0 ≡ input_of e i p
input_at e i xs kept h p = rw h (listed_at (input_of e i) (cells_of e (input_shape i)) (input_past e kept i) p)

-- from a list's votes, where the list is that of the place
pub list_there : (e : Election) (f : Option ListVotes → ℕ) (place : ℕ) (list : ListAt) → place < lands_of e * parties_of e → IsListAt (parties_of e) place list → from_lists e f place ≡ f (list_at e list.land list.party)
list_there e f place list within at =
    let parties = parties_of e in
    let found = at (positive_factor (lands_of e) parties place within) in
    let land : place / parties ≡ list.land = ap (λ n. n / parties) (sym found.0) ∙ div-mul-add list.land parties list.party found.1 in
    let party : place % parties ≡ list.party = ap (λ n. n % parties) (sym found.0) ∙ mod-mul-add list.land parties list.party found.1 in
    let there : nat_lt place (lands_of e * parties) ≡ true = lt-ltb place (lands_of e * parties) within in
    λ i. if there i then f (list_at e (land i) (party i)) else 0
