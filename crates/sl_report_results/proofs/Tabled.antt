-- Tables of what stands first at a place, and of counts.
use Rattle.std.proofs.Common.{◌≡◌, ℕ, ◌+◌, ◌<◌, ◌≤◌, Bool, true, false, cond, List, [], ◌∷◌, ◌++◌, Option, Some, None, length, take, get_or, arith, refl, sym, ap, ◌∙◌, inl, inr, nat_eq, not}
use Rattle.std.specs.Prelude.{◌==◌, if◌then◌else◌, is_none, is_some, option_map, position}
use Rattle.std.specs.List.{list_any, position_or_len}
use Rattle.std.specs.Option.{option_or}
use Rattle.std.proofs.lemmas.Bool.{cases_Bool, cases_eq, cases_lt, eq-eqb, false≢true, le-ltb, lt-ltb, ne_eqb}
use Rattle.std.proofs.lemmas.List.{length_push, length-take-le, take_more}
use Rattle.std.proofs.lemmas.List.Folds.{position_or_len_push}
use Rattle.std.proofs.lemmas.List.Sums.{prefix_len-le-length}
use Rattle.sl_report_parties.proofs.Steps.{some_first}
use Rattle.sl_report_parties.specs.Sums.{one_if}
use Rattle.sl_report_results.specs.inner.Drawn.{with_first}
use Rattle.sl_report_results.specs.inner.Tables.{AreFirst, ArePlaces}

-- the number is that one
abbrev pub is_at : ℕ → Option ℕ → Bool
is_at x None = false
is_at x (Some y) = nat_eq y x

position_push : {X : Type 0} (p : X → Bool) (xs : List X) (y : X) → position p (xs ++ y ∷ []) ≡ option_or (position p xs) (if p y then Some (length xs) else None)
position_push p xs y =
    let k = position_or_len p xs in
    let n = length xs in
    let more : position_or_len p (xs ++ y ∷ []) ≡ cond (nat_eq k n) (n + cond (p y) 0 1) k = position_or_len_push p xs y in
    let long : length (xs ++ y ∷ []) ≡ n + 1 = length_push xs y in
    let most : k ≤ n = prefix_len-le-length (λ x. not (p x)) xs in
    rw (more, long) (elim (cases_lt k n) [
      | inl h ↦ rw (lt-ltb k n h, ne_eqb k n (λ e. omega (arith, h, e)), lt-ltb k (n + 1) (omega (arith, h))) refl
      | inr h ↦ elim (cases_Bool (p y)) [
        | inl t ↦ rw (t, le-ltb k n h, eq-eqb k n (omega (arith, h, most)), lt-ltb (n + 0) (n + 1) (omega arith)) (ap (λ m. Some m) (omega arith))
        | inr f ↦ rw (f, le-ltb k n h, eq-eqb k n (omega (arith, h, most)), le-ltb (n + 1) (n + 1) (omega arith)) refl
      ]
    ])

pub first_more : (ns : List ℕ) (k end : ℕ) (before after : List (Option ℕ)) → k < length ns → AreFirst (take k ns) end before →
    ((n : ℕ) → n < end → get_or after n None ≡ option_or (get_or before n None) (if n == get_or ns k 0 then Some k else None)) → AreFirst (take (k + 1) ns) end after
first_more ns k end before after less so_far put = λ n below.
    put n below ∙ ap (λ o. option_or o (if n == get_or ns k 0 then Some k else None)) (so_far n below)
    ∙ ap (λ j. option_or (position (nat_eq n) (take k ns)) (if n == get_or ns k 0 then Some j else None)) (sym (length-take-le k ns (omega arith)))
    ∙ sym (ap (position (nat_eq n)) (take_more ns k 0 less) ∙ position_push (nat_eq n) (take k ns) (get_or ns k 0))

-- ---- a number that is drawn, if it was not drawn before

eq_flips : (a b : ℕ) → nat_eq a b ≡ nat_eq b a
eq_flips a b = elim (cases_eq a b) [
  | inl e ↦ eq-eqb a b e ∙ sym (eq-eqb b a (sym e))
  | inr differ ↦ ne_eqb a b differ ∙ sym (ne_eqb b a (λ e. differ (sym e)))
]

any_flips : (m : ℕ) (ns : List ℕ) → list_any (nat_eq m) ns ≡ list_any (λ k. nat_eq k m) ns
any_flips m [] = refl
any_flips m (n ∷ ns) = rw (eq_flips m n, any_flips m ns) refl

or_none : {X : Type 0} (o : Option X) → option_or o None ≡ o
or_none None = refl
or_none (Some x) = refl

or_some : {X : Type 0} (o p : Option X) → is_some o ≡ true → option_or o p ≡ o
or_some None p h = absurd (false≢true h)
or_some (Some x) p h = refl

map_or : (o : Option ℕ) (b : Bool) (n : ℕ) → option_or (option_map (λ k. k + 1) o) (if b then Some (n + 1) else None) ≡ option_map (λ k. k + 1) (option_or o (if b then Some n else None))
map_or None true n = refl
map_or None false n = refl
map_or (Some x) b n = refl

-- what was drawn before stays where it is
drawn_again : (ns : List ℕ) (m n : ℕ) → list_any (λ k. nat_eq k m) ns ≡ true → position (nat_eq n) (ns ++ m ∷ []) ≡ position (nat_eq n) ns
drawn_again ns m n there = position_push (nat_eq n) ns m ∙ elim (cases_eq n m) [
  | inl e ↦
      let has : is_some (position (nat_eq n) ns) ≡ true = some_first (nat_eq n) ns ∙ ap (λ k. list_any (nat_eq k) ns) e ∙ any_flips m ns ∙ there in
      or_some (position (nat_eq n) ns) (if nat_eq n m then Some (length ns) else None) has
  | inr differ ↦ rw (ne_eqb n m differ) (or_none (position (nat_eq n) ns))
]

pub placed_more : (ns : List ℕ) (m count : ℕ) (before after : List (Option ℕ)) → ArePlaces ns count before →
    ((n : ℕ) → n < count → get_or after n None ≡ option_or (get_or before n None) (if n == m then Some (length ns + 1) else None)) → ArePlaces (with_first ns m) count after
placed_more ns m count before after so_far put = λ n less.
    put n less ∙ ap (λ o. option_or o (if n == m then Some (length ns + 1) else None)) (so_far n less)
    ∙ map_or (position (nat_eq n) ns) (nat_eq n m) (length ns) ∙ ap (option_map (λ k. k + 1)) (sym (position_push (nat_eq n) ns m) ∙ elim (cases_Bool (list_any (λ k. nat_eq k m) ns)) [
      | inl there ↦ drawn_again ns m n there ∙ rw there refl
      | inr none ↦ rw none refl
    ])

none_mapped : (o : Option ℕ) → is_none (option_map (λ k. k + 1) o) ≡ not (is_some o)
none_mapped None = refl
none_mapped (Some x) = refl

-- how many are drawn
pub drawn_more : (ns : List ℕ) (m count : ℕ) (before : List (Option ℕ)) → m < count → ArePlaces ns count before → length ns + one_if (is_none (get_or before m None)) ≡ length (with_first ns m)
drawn_more ns m count before less so_far =
    ap (λ b. length ns + one_if b) (ap is_none (so_far m less) ∙ none_mapped (position (nat_eq m) ns) ∙ ap not (some_first (nat_eq m) ns ∙ any_flips m ns))
    ∙ elim (cases_Bool (list_any (λ k. nat_eq k m) ns)) [
      | inl there ↦ rw there (omega arith)
      | inr none ↦ rw none (sym (length_push ns m))
    ]
