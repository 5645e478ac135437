-- What the bodies of the bounds and of their lines promise on the way.
use Rattle.std.specs.Prelude.{◌≡◌, ℕ, ◌+◌, ◌++◌, false, List, Option, Some, None, All, unwrap_or, bytes_eq}
use Rattle.std.specs.HashMap.{HashMap, get}
use Rattle.sl_law_meaning.specs.declared.table.Weight.{Weight}
use Rattle.sl_count_texts.specs.Lines.{Draft, with_lines}
use Rattle.sl_count_texts.specs.Orders.{weight_key}

-- how often a key was counted
abbrev pub count_of : {S : Type 0} → HashMap (List ℕ) ℕ S → List ℕ → ℕ
count_of counts key = unwrap_or (get bytes_eq counts key) 0

-- a map in which a key was counted once more
pub record CountsOne {S : Type 0} (before after : HashMap (List ℕ) ℕ S) (key : List ℕ) : Type 0 where
  pub this_key : count_of after key ≡ count_of before key + 1
  pub other_keys : (q : List ℕ) → bytes_eq key q ≡ false → count_of after q ≡ count_of before q

-- the seats of a weight's entry, where the entries' seats were counted
abbrev pub counted_seats : {S : Type 0} → HashMap (List ℕ) ℕ S → Weight → ℕ
counted_seats counts w = count_of counts (weight_key w)

-- all of a list, where P holds of each element, and none of it where it does not
abbrev pub IsWithin : {A : Type 0} → (A → Type 0) → List A → Option (List A) → Type 0
IsWithin P xs (Some ys) = (ys ≡ xs) × All P xs
IsWithin P xs None = ¬ All P xs

-- a list that has more elements than before
abbrev pub HasMore : {A : Type 0} → List A → (List A → Type 0) → List A → Type 0
HasMore {A = A} before AreMore after = (more : List A) × AreMore more × (after ≡ before ++ more)

-- a text that has more lines than before
abbrev pub HasLines : Draft → (List ℕ → Type 0) → Draft → Type 0
HasLines before AreLines after = (lines : List ℕ) × AreLines lines × (after ≡ with_lines before lines)
