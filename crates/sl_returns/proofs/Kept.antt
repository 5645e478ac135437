-- What is kept of records that are refused, with one more.
use Rattle.std.proofs.Common.{◌≡◌, ◌+◌, ◌<◌, ◌≤◌, ℕ, zero, suc, List, [], ◌∷◌, ◌++◌, length, take, drop, Option, Some, None, is_some, true, refl, sym, ap, ◌∙◌, arith}
use Rattle.std.specs.Prelude.{map}
use Rattle.std.specs.Option.{option_map}
use Rattle.std.proofs.lemmas.List.{length-drop, length-map, length-take, length_push, map_push, take-append-le}
use Rattle.std.proofs.lemmas.Bool.{false≢true}
use Rattle.std.proofs.lemmas.Option.{none-some}
use Rattle.sl_returns.specs.declared.refused.RefusedRecord.{RefusedRecord}
use Rattle.sl_returns.specs.declared.refused.TheConstants.{MAX_FURTHER}
use Rattle.sl_returns.specs.declared.sieve.Refusals.{Refusals}
use Rattle.sl_returns.specs.Further.{Refusal, refusal}
use Rattle.sl_returns.specs.inner.Sifting.{Keeps}

-- ---- the first of a list, with one more

module _ {X : Type 0} where
  -- where there is room, it joins them
  take_room : (n : ℕ) (xs : List X) (x : X) → length (take n xs) < n → take n (xs ++ x ∷ []) ≡ take n xs ++ x ∷ []
  take_room zero xs x h = absurd (omega arith)
  take_room (suc zero) [] x h = refl
  take_room (suc (suc n)) [] x h = refl
  take_room (suc n) (y ∷ xs) x h = ap (λ l. y ∷ l) (take_room n xs x (omega arith))

  drop_room : (n : ℕ) (xs : List X) (x : X) → length (take n xs) < n → length (drop n (xs ++ x ∷ [])) ≡ length (drop n xs)
  drop_room n xs x h = omega (arith, length-take n xs, length-drop n xs, length-drop n (xs ++ x ∷ []), length_push xs x)

  -- where there is none, it is one of the others
  take_full : (n : ℕ) (xs : List X) (x : X) → n ≤ length (take n xs) → take n (xs ++ x ∷ []) ≡ take n xs
  take_full n xs x h = let enough : n ≤ length xs = omega (arith, length-take n xs) in take-append-le n xs (x ∷ []) enough

  drop_full : (n : ℕ) (xs : List X) (x : X) → n ≤ length (take n xs) → length (drop n (xs ++ x ∷ [])) ≡ length (drop n xs) + 1
  drop_full n xs x h = omega (arith, length-take n xs, length-drop n xs, length-drop n (xs ++ x ∷ []), length_push xs x)

-- ---- what is kept, with one more

-- where there is a first, some are refused
no_first : (o : Option RefusedRecord) → is_some o ≡ true → option_map refusal o ≡ None → ⊥
no_first None some h = false≢true some
no_first (Some r) some h = none-some (refusal r) (sym h)

-- one more that there is room for
pub keeps_further : (kept new : Refusals) (all : List Refusal) (r : RefusedRecord) → is_some kept.first ≡ true → new.first ≡ kept.first → new.more ≡ kept.more → new.further.items ≡ kept.further.items ++ r ∷ [] → length kept.further.items < MAX_FURTHER
    → Keeps kept all → Keeps new (all ++ refusal r ∷ [])
keeps_further kept new [] r some first more items room k = absurd (no_first kept.first some k.first)
keeps_further kept new (y ∷ ys) r some first more items room k =
    let short : length (take MAX_FURTHER ys) < MAX_FURTHER = omega (arith, room, length-map kept.further.items refusal, ap length k.further) in
    record {
      first = ap (option_map refusal) first ∙ k.first;
      further = ap (map refusal) items ∙ map_push refusal kept.further.items r ∙ ap (λ l. l ++ refusal r ∷ []) k.further ∙ sym (take_room MAX_FURTHER ys (refusal r) short);
      more = more ∙ k.more ∙ sym (drop_room MAX_FURTHER ys (refusal r) short);
    }

-- one more that there is no room for
pub keeps_more : (kept new : Refusals) (all : List Refusal) (r : RefusedRecord) → is_some kept.first ≡ true → new.first ≡ kept.first → new.more ≡ kept.more + 1 → new.further ≡ kept.further → MAX_FURTHER ≤ length kept.further.items
    → Keeps kept all → Keeps new (all ++ refusal r ∷ [])
keeps_more kept new [] r some first more same full k = absurd (no_first kept.first some k.first)
keeps_more kept new (y ∷ ys) r some first more same full k =
    let enough : MAX_FURTHER ≤ length (take MAX_FURTHER ys) = omega (arith, full, length-map kept.further.items refusal, ap length k.further) in
    record {
      first = ap (option_map refusal) first ∙ k.first;
      further = ap (λ f. map refusal f.items) same ∙ k.further ∙ sym (take_full MAX_FURTHER ys (refusal r) enough);
      more = more ∙ ap (λ n. n + 1) k.more ∙ sym (drop_full MAX_FURTHER ys (refusal r) enough);
    }
