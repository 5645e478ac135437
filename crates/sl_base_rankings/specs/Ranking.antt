-- The greatest of a list of entries, the list from the greatest to the smallest, and a list without one of its entries.
use Rattle.std.specs.Prelude.{Bool, List, [], ◌∷◌, ◌&&◌, Option, nat_eq, if◌then◌else◌}
use Rattle.std.specs.List.{find, list_all}
use Rattle.std.specs.declared.cmp.Ordering.{Ordering}
use Rattle.std.specs.Ordering.{is_le, is_gt}
use Rattle.sl_base_quotients.specs.declared.entry.Entry.{Entry}
use Rattle.sl_base_quotients.specs.Entry.{entry_cmp}

-- the greatest of the entries by an order: the one that no other exceeds
abbrev pub greatest : (Entry → Entry → Ordering) → List Entry → Option Entry
greatest cmp entries = find (λ entry. list_all (λ other. is_le (cmp other entry)) entries) entries

-- a ranked list with an entry in front of the first that is not greater
abbrev pub insert_ranked : Entry → List Entry → List Entry
insert_ranked entry [] = entry ∷ []
insert_ranked entry (x ∷ xs) = if is_gt (entry_cmp x entry) then x ∷ insert_ranked entry xs else entry ∷ x ∷ xs

-- the entries from the greatest to the smallest
abbrev pub ranked : List Entry → List Entry
ranked [] = []
ranked (x ∷ xs) = insert_ranked x (ranked xs)

-- whether two entries are the same in all their parts, as `==` answers
abbrev pub same_entry : Entry → Entry → Bool
same_entry x y = nat_eq x.ratio.num y.ratio.num && nat_eq x.ratio.den y.ratio.den && nat_eq x.index y.index

-- the entries without the first that is x
abbrev pub without : Entry → List Entry → List Entry
without x [] = []
without x (y ∷ ys) = if same_entry x y then ys else y ∷ without x ys
