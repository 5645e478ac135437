-- The seats of a list are those of its Land's lines alone.
use Rattle.std.proofs.Common.{◌≡◌, ◌∙◌, ℕ, ◌+◌, Bool, false, ◌&&◌, ◌||◌, List, [], ◌∷◌, Option, None, Some, ap, arith, cond, filter, inl, inr, map, refl, sym}
use Rattle.std.specs.List.{list_any}
use Rattle.std.specs.Prelude.{nat_eq, option_map, sum_by, unwrap_or}
use Rattle.std.proofs.lemmas.Bool.{cases_Bool}
use Rattle.std.proofs.lemmas.List.Sums.{sum_by-cons}
use Rattle.std.proofs.lemmas.Simd.{map-map}
use Rattle.sl_report_forms.specs.Cells.{a_number}
use Rattle.sl_report_parties.specs.Sums.{capped}
use Rattle.sl_report_tables.specs.Compare.{list_seats, number_or_fault, seats_at}
use Rattle.sl_report_tables.specs.declared.compare.Judged.{Judged}
use Rattle.sl_report_tables.specs.declared.local.Local.{Local}
use Rattle.sl_report_tables.specs.inner.Local.{lines_in}
use Rattle.sl_report_tables.specs.inner.Seen.{seen, with_land}
use Rattle.sl_law_meaning.specs.declared.count.Counted.{Counted}
use Rattle.sl_law_meaning.specs.declared.fault.LegalFault.{LegalFault}

-- a filter that keeps what is summed leaves the sum
sum_kept : {X : Type 0} (f : X → ℕ) (q : X → Bool) → ((x : X) → q x ≡ false → f x ≡ 0) → (xs : List X) → sum_by f (filter q xs) ≡ sum_by f xs
sum_kept f q none [] = refl
sum_kept f q none (x ∷ xs) =
    let rest = sum_kept f q none xs in
    let whole : sum_by f (x ∷ xs) ≡ f x + sum_by f xs = sum_by-cons f x xs in
    elim (cases_Bool (q x)) [
      | inl t ↦ rw t (sum_by-cons f x (filter q xs) ∙ ap (λ n. f x + n) rest ∙ sym whole)
      | inr h ↦ let nothing = none x h in rw h (omega (arith, rest, whole, nothing))
    ]

-- by a count, and nothing without one
pub local_seats : (land party : ℕ) (o : Option Counted) → capped (sum_by (seats_at land party) (lines_in land o)) ≡ unwrap_or (option_map (list_seats land party) o) 0
local_seats land party None = refl
local_seats land party (Some c) =
    ap capped (
    sum_kept (seats_at land party) (λ l. nat_eq l.land land) (λ l other. ap (λ b. cond {A = ℕ} (b && nat_eq l.party party) l.seats 0) other) c.table.lists)

-- the cell of a book with a count
pub local_cell : (land party n : ℕ) (o : Option Counted) (c : Counted) (fault : Option LegalFault) → o ≡ Some c
    → n ≡ capped (sum_by (seats_at land party) (lines_in land o)) → a_number n ≡ number_or_fault (list_seats land party) o fault
local_cell land party n o c fault is here =
    ap a_number (here ∙ local_seats land party o ∙ ap (λ p. unwrap_or (option_map (list_seats land party) p) 0) is)
    ∙ sym (ap (λ p. number_or_fault (list_seats land party) p fault) is)

-- what is said of books with their Land, as of the books
pub mapped_seen : {Y : Type 0} (f : ℕ × Judged → Y) (land : ℕ) (xs : List Local) (books : List Judged) → map seen xs ≡ map (with_land land) books →
    map (λ x. f (seen x)) xs ≡ map (λ j. f (land, j)) books
mapped_seen f land xs books same = sym (map-map f seen xs) ∙ ap (map f) same ∙ map-map f (with_land land) books

any_mapped : {X Y : Type 0} (p : Y → Bool) (f : X → Y) (xs : List X) → list_any p (map f xs) ≡ list_any (λ x. p (f x)) xs
any_mapped p f [] = refl
any_mapped p f (x ∷ xs) = ap (λ b. p (f x) || b) (any_mapped p f xs)

pub any_seen : (p : ℕ × Judged → Bool) (land : ℕ) (xs : List Local) (books : List Judged) → map seen xs ≡ map (with_land land) books →
    list_any (λ x. p (seen x)) xs ≡ list_any (λ j. p (land, j)) books
any_seen p land xs books same = sym (any_mapped p seen xs) ∙ ap (list_any p) same ∙ any_mapped p (with_land land) books
