-- Lists that are being filled: the items so far, or nothing once one found no memory.
use Rattle.std.specs.Prelude.{◌≡◌, ◌⊎◌, ◌++◌, ◌∷◌, List, [], Option, None, Result, Ok, Err, option_map}

-- the list has this item more, or memory has run out
abbrev pub Gains : {A E : Type 0} → Option (List A) → Option (List A) → Result A E → Type 0
Gains before after (Ok x) = (after ≡ option_map (λ xs. xs ++ x ∷ []) before) ⊎ (after ≡ None)
Gains before after (Err e) = after ≡ None
