-- The keys by which lots are found: the lot that a key stands for, and that a lot as a record tells it is looked up as its key is.
use Rattle.std.specs.Prelude.{◌≡◌, ℕ, Bool, true, false, ◌&&◌, ◌++◌, Option, None, Some, nat_eq}
use Rattle.std.specs.Cmp.{nat_eq_equiv}
use Rattle.std.specs.Cmp.Lexicographic.{nat_list_eq_equiv}
use Rattle.std.specs.Hash.{HashWrites, option, slice, u8, usize}
use Rattle.std.specs.Option.{option_eq}
use Rattle.std.specs.Str.{bytes_eq}
use Rattle.std.proofs.Common.{refl, sym, ap, ◌∙◌}
use Rattle.std.proofs.lemmas.Bool.{and_parts, eqb-true, false≢true}
use Rattle.std.proofs.lemmas.Slice.Eq.{bytes_eq-Decides}
use Rattle.sl_law_meaning.specs.declared.election.Lot.{Lot}
use Rattle.sl_returns.specs.declared.told.LotKey.{LotKey}
use Rattle.sl_returns.specs.Tests.{same_number, same_lot}

-- the lot that a key stands for
abbrev pub lot_kept : LotKey → Lot
lot_kept k = record { land = k.land; party = k.party; stage = k.stage.items; win = k.win }

-- ---- the same lot

same_number-is : (n m : Option ℕ) → same_number n m ≡ true → n ≡ m
same_number-is None None h = refl
same_number-is None (Some m) h = absurd (false≢true h)
same_number-is (Some n) None h = absurd (false≢true h)
same_number-is (Some n) (Some m) h = ap Some (eqb-true n m h)

same_lot-is : (l m : Lot) → same_lot l m ≡ true → l ≡ m
same_lot-is l m h =
    let (front, win) = and_parts (same_number l.land m.land && same_number l.party m.party && bytes_eq l.stage m.stage) (same_number l.win m.win) h in
    let (entry, stage) = and_parts (same_number l.land m.land && same_number l.party m.party) (bytes_eq l.stage m.stage) front in
    let (land, party) = and_parts (same_number l.land m.land) (same_number l.party m.party) entry in
    λ i. record {
      land = same_number-is l.land m.land land i;
      party = same_number-is l.party m.party party i;
      stage = (bytes_eq-Decides l.stage m.stage).0 stage i;
      win = same_number-is l.win m.win win i;
    }

-- ---- its key

-- what the key of a lot feeds a hasher
abbrev fed : Lot → HashWrites
fed l = option usize l.land ++ (option usize l.party ++ (slice u8 l.stage ++ option usize l.win))

-- the same lot feeds it the same
pub fed_alike : (l m : Lot) → same_lot l m ≡ true → fed m ≡ fed l
fed_alike l m same = ap fed (sym (same_lot-is l m same))

-- whether two lots have equal keys
abbrev pub equal_keys : Lot → Lot → Bool
equal_keys l m = option_eq nat_eq l.land m.land && (option_eq nat_eq l.party m.party && (bytes_eq l.stage m.stage && option_eq nat_eq l.win m.win))

number_flip : (n m : Option ℕ) → same_number m n ≡ option_eq nat_eq n m
number_flip None None = refl
number_flip None (Some m) = refl
number_flip (Some n) None = refl
number_flip (Some n) (Some m) = nat_eq_equiv.symm m n

four_tests : (a b c d : Bool) → (a && b && c && d) ≡ (a && (b && (c && d)))
four_tests false b c d = refl
four_tests true false c d = refl
four_tests true true c d = refl

-- equal keys are the same lot's
pub same_by_keys : (l m : Lot) → same_lot m l ≡ equal_keys l m
same_by_keys l m =
    four_tests (same_number m.land l.land) (same_number m.party l.party) (bytes_eq m.stage l.stage) (same_number m.win l.win)
    ∙ (λ i. number_flip l.land m.land i && (number_flip l.party m.party i && (nat_list_eq_equiv.symm m.stage l.stage i && number_flip l.win m.win i)))

-- a lot is the same as those whose keys are equal to one that it is the same as
pub same_as_equal : (l m n : Lot) → same_lot m l ≡ true → same_lot n l ≡ equal_keys m n
same_as_equal l m n same = ap (same_lot n) (sym (same_lot-is m l same)) ∙ same_by_keys m n
