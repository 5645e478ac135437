-- A search and an insertion among lots that are found by their keys.
use Rattle.std.proofs.Common.{◌≡◌, false, ◌||◌, List, [], ◌∷◌, ◌++◌, map, refl, sym, ap, ◌∙◌, if◌then◌else◌}
use Rattle.std.specs.List.{list_any}
use Rattle.std.proofs.lemmas.List.{map-append}
use Rattle.sl_law_meaning.specs.declared.election.Lot.{Lot}
use Rattle.sl_returns.specs.declared.told.LotKey.{LotKey}
use Rattle.sl_returns.specs.Tests.{same_lot, has_lot}
use Rattle.sl_returns.specs.inner.LotKeys.{lot_kept, equal_keys, same_by_keys}

-- a lot is found where a key stands for the same
pub found : (keys : List LotKey) (l : Lot) → has_lot (map lot_kept keys) l ≡ list_any (λ k. same_lot (lot_kept k) l) keys
found [] l = refl
found (k ∷ keys) l = ap (λ b. same_lot (lot_kept k) l || b) (found keys l)

-- the key of a lot that is none of theirs goes last
pub inserted : (keys : List LotKey) (key : LotKey) (l : Lot) → lot_kept key ≡ l → has_lot (map lot_kept keys) l ≡ false
    → map lot_kept (if list_any (λ k. equal_keys (lot_kept key) (lot_kept k)) keys then keys else keys ++ key ∷ []) ≡ map lot_kept keys ++ l ∷ []
inserted keys key l is new =
    let equal = ap (λ test. list_any test keys) (λ i k. same_by_keys (lot_kept key) (lot_kept k) i) in
    let absent : list_any (λ k. equal_keys (lot_kept key) (lot_kept k)) keys ≡ false =
    sym equal ∙ sym (found keys (lot_kept key)) ∙ ap (has_lot (map lot_kept keys)) is ∙ new in
    rw absent (map-append lot_kept keys (key ∷ []) ∙ ap (λ m. map lot_kept keys ++ m ∷ []) is)
