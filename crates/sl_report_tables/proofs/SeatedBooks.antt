-- Rulebooks beside the seats of each party by them, seen as the rulebooks.
use Rattle.std.proofs.Common.{◌≡◌, ◌∙◌, ◌-◌, ◌<◌, ◌≤◌, ℕ, IfSome, List, [], ◌∷◌, ◌++◌, Bor, None, Option, Some, ap, arith, drop, get_or, is_some, length, map, nat_lt, option_copied, refl, sym, take}
use Rattle.std.specs.List.{flat_map}
use Rattle.std.specs.Prelude.{option_map, slice_get}
use Rattle.std.proofs.lemmas.Bool.{false≢true, le-ltb, lt-ltb}
use Rattle.std.proofs.lemmas.List.{length-drop, take_all}
use Rattle.std.proofs.lemmas.List.FromFn.{get_or-map-range_with_len, length-map-range_with_len}
use Rattle.std.proofs.lemmas.Simd.{map-map}
use Rattle.sl_report_forms.specs.Cells.{Content}
use Rattle.sl_report_parties.specs.Seats.{party_seats}
use Rattle.sl_report_parties.specs.declared.seats.Seats.{Seats}
use Rattle.sl_report_tables.specs.declared.compare.Judged.{Judged}
use Rattle.sl_report_tables.specs.declared.seated.Seated.{Seated}
use Rattle.sl_report_tables.specs.inner.Seated.{books_of}
use Rattle.sl_report_tables.specs.inner.SeatsBy.{seats_by}
use Rattle.sl_law_meaning.specs.meaning.Tables.{SeatTable}
use Rattle.sl_law_meaning.specs.returns.Election.{Election, parties_of}

-- a row that has a cell for each of them
pub cells_of_books : (f : Judged → Content) (xs : List Seated) (i : ℕ) (front row : List Content) → length xs ≤ i → row ≡ front ++ map (λ x. f x.judged.now) (take i xs) →
    row ≡ front ++ map f (books_of xs)
cells_of_books f xs i front row past so_far = so_far ∙ ap (λ ys. front ++ ys) (ap (map (λ x. f x.judged.now)) (take_all i xs past) ∙ sym (map-map f (λ x. x.judged.now) xs))

pub pieces_of_books : {Y : Type 0} (f : Judged → List Y) (xs : List Seated) → flat_map (λ x. f x.judged.now) xs ≡ flat_map f (books_of xs)
pieces_of_books f [] = refl
pieces_of_books f (x ∷ xs) = ap (λ ys. f x.judged.now ++ ys) (pieces_of_books f xs)

-- the first rulebook, and those after it
pub first_book : (books : List Judged) (xs : List Seated) (x : Seated) → books_of xs ≡ books → 0 < length xs → x ≡ get_or xs 0 x → slice_get books 0 ≡ Some x.judged.now
first_book books [] x are some at = absurd (omega (arith, some))
first_book books (y ∷ ys) x are some at = ap (λ js. slice_get js 0) (sym are) ∙ ap (λ z. Some z.judged.now) (sym at)

pub all_others : {X : Type 0} (xs : List X) → take (length xs - 1) (drop 1 xs) ≡ drop 1 xs
all_others xs = take_all (length xs - 1) (drop 1 xs) (omega (arith, length-drop 1 xs))

pub other_books : (books : List Judged) (xs : List Seated) → books_of xs ≡ books → books_of (take (length xs - 1) (drop 1 xs)) ≡ drop 1 books
other_books books [] are = ap (drop 1) are
other_books books (x ∷ xs) are = ap books_of (all_others (x ∷ xs)) ∙ ap (drop 1) are

-- the seats of a party by a table, among those of each
module _ (e : Election) (t : SeatTable) (seats : List Seats) (are : seats ≡ seats_by e (Some t)) (party : ℕ) (within : party < parties_of e) where
  pub within_seats : party < length seats
  within_seats = omega (arith, within, ap length are, length-map-range_with_len (party_seats t e) 0 (parties_of e))

  pub seats_there : (d : Seats) → get_or seats party d ≡ party_seats t e party
  seats_there d = ap (λ xs. get_or xs party d) are ∙ get_or-map-range_with_len (party_seats t e) 0 (parties_of e) party party d within (omega arith)

-- those of a party, looked up, where a table is known
pub seats_found : (e : Election) (t : Option SeatTable) (seats : List Seats) (party : ℕ) (found : Option (Bor Seats)) → seats ≡ seats_by e t → party < parties_of e →
    is_some found ≡ nat_lt party (length seats) → IfSome found (λ x. x.now ≡ get_or seats party x.now) → option_copied found ≡ option_map (λ t. party_seats t e party) t
seats_found e None seats party None are within is told = refl
seats_found e None seats party (Some x) are within is told = absurd (false≢true (sym (is ∙ le-ltb party (length seats) (omega (arith, ap length are)))))
seats_found e (Some t) seats party None are within is told = absurd (false≢true (is ∙ lt-ltb party (length seats) (within_seats e t seats are party within)))
seats_found e (Some t) seats party (Some x) are within is told = ap Some (told ∙ seats_there e t seats are party within x.now)
