-- The seats of a party's lists as a sum over all lists, and numbers of columns by party.
use Rattle.std.proofs.Common.{◌≡◌, ℕ, ◌+◌, ◌<◌, Bool, true, false, List, [], ◌∷◌, cond, filter, length, sum_by, get_or, refl, sym, ap, ◌∙◌, zero-add, if◌then◌else◌}
use Rattle.std.proofs.lemmas.List.FromFn.{get_or-map-range_with_len, length-map-range_with_len}
use Rattle.std.proofs.lemmas.List.Sums.{sum_by-cons}
use Rattle.sl_law_meaning.specs.returns.Election.{Election, parties_of}
use Rattle.sl_law_meaning.specs.returns.Facts.{by_party}

-- a sum over the elements that pass a test
pub sum_passing : {X : Type 0} (p : X → Bool) (f : X → ℕ) (xs : List X) → sum_by (λ x. if p x then f x else 0) xs ≡ sum_by f (filter p xs)
sum_passing p f [] = refl
sum_passing p f (x ∷ xs) = sum_by-cons (λ y. if p y then f y else 0) x xs ∙ ap (λ n. (if p x then f x else 0) + n) (sum_passing p f xs) ∙ first (p x)
  where
    first : (b : Bool) → (if b then f x else 0) + sum_by f (filter p xs) ≡ sum_by f (cond b (x ∷ filter p xs) (filter p xs))
    first true = sym (sum_by-cons f x (filter p xs))
    first false = zero-add _

-- a number of a column by party
pub by_party_at : (e : Election) (f : ℕ → ℕ) (column : List ℕ) → column ≡ by_party e f → (party n : ℕ) → party < parties_of e → n ≡ get_or column party n → n ≡ f party
by_party_at e f column is party n within read =
    read ∙ ap (λ ns. get_or ns party n) is ∙ get_or-map-range_with_len f 0 (parties_of e) party party n within (zero-add party)

pub by_party_length : (e : Election) (f : ℕ → ℕ) (column : List ℕ) → column ≡ by_party e f → length column ≡ parties_of e
by_party_length e f column is = ap length is ∙ length-map-range_with_len f 0 (parties_of e)
