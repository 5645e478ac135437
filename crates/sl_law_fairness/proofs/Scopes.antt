-- The column of a split or a growth, read in a scope: the seats that the scope was awarded.
use Rattle.std.proofs.Common.{◌≡◌, ℕ, zero, suc, ◌<◌, true, List, [], ◌∷◌, Option, Some, None, length, get_or, filter, map, arith, refl, ap, subst, ◌∙◌}
use Rattle.std.specs.Prelude.{zip, flat_map, filter_map, slice_get, option_map, unwrap_or, MatchOption}
use Rattle.std.specs.List.{AllByRecursion as Every, AllZip}
use Rattle.std.proofs.lemmas.Bool.{false≢true}
use Rattle.std.proofs.lemmas.Option.{none-some, same_Some}
use Rattle.sl_base_terms.specs.declared.shape.Shape.{Shape}
use Rattle.sl_base_terms.specs.declared.shape.Shape.TheVariants as shape
use Rattle.sl_law_meaning.specs.declared.fault.FaultKind.TheVariants as fault
use Rattle.sl_law_meaning.specs.declared.fault.Item.{Item}
use Rattle.sl_law_meaning.specs.declared.fault.Item.TheVariants as item
use Rattle.sl_law_meaning.specs.declared.fault.LegalFault.{LegalFault}
use Rattle.sl_law_meaning.specs.returns.Election.{Election, lands_of, parties_of, has_list}
use Rattle.sl_law_meaning.specs.returns.Facts.{lands, parties}
use Rattle.sl_law_meaning.specs.book.Typing.{can_split}
use Rattle.sl_law_meaning.specs.meaning.Records.{Records}
use Rattle.sl_law_meaning.specs.meaning.Results.{Column, Fault, Stand, fault_at, fault_of, first_over, AreJoined, IsShared}
use Rattle.sl_law_meaning.specs.meaning.Scopes.{Group, place, cells, scopes, entries_of, lists_in_land, lists_of_party, told_of, pair_column}
use Rattle.sl_law_meaning.specs.meaning.Splits.{Award, Seats, Refused, awarded}
use Rattle.sl_law_meaning.proofs.meaning.AwardedEntries.{every_at, told_entry, scope_entries_differ, party_cell, land_cell, pair_cell}
use Rattle.sl_law_meaning.proofs.meaning.DistinctLists.{every_weaker, every_map, every_filter, every_pieces}
use Rattle.sl_law_fairness.proofs.ListColumns.{below}

-- ---- at an entry's place stands what the pairs say of it

abbrev IsPlaced : Election → Shape → Item → Type 0
IsPlaced e s i = (pairs : List (Item × ℕ)) → get_or (pair_column e s pairs) (place e i) 0 ≡ told_of pairs i

module _ (e : Election) where
  in_land : (land : ℕ) → land < lands_of e → Every (IsPlaced e shape.List) (lists_in_land e land)
  in_land land in_lands =
      every_map (IsPlaced e shape.List) (λ party. item.List land party) (filter (has_list e land) (parties e))
      (every_filter (λ party. IsPlaced e shape.List (item.List land party)) (has_list e land) (parties e)
      (every_weaker (λ party. party < parties_of e) (λ party. IsPlaced e shape.List (item.List land party))
      (λ party in_parties pairs. pair_cell e pairs land party in_lands in_parties) (parties e) (below (parties_of e))))

  of_party : (party : ℕ) → party < parties_of e → Every (IsPlaced e shape.List) (lists_of_party e party)
  of_party party in_parties =
      every_map (IsPlaced e shape.List) (λ land. item.List land party) (filter (λ land. has_list e land party) (lands e))
      (every_filter (λ land. IsPlaced e shape.List (item.List land party)) (λ land. has_list e land party) (lands e)
      (every_weaker (λ land. land < lands_of e) (λ land. IsPlaced e shape.List (item.List land party))
      (λ land in_lands pairs. pair_cell e pairs land party in_lands in_parties) (lands e) (below (lands_of e))))

  entries_placed : (s : Shape) → Every (IsPlaced e s) (entries_of e s)
  entries_placed shape.One = tt
  entries_placed shape.Party =
      every_map (IsPlaced e shape.Party) (λ party. item.Party party) (parties e)
      (every_weaker (λ party. party < parties_of e) (λ party. IsPlaced e shape.Party (item.Party party)) (λ party within pairs. party_cell e pairs party within) (parties e) (below (parties_of e)))
  entries_placed shape.Land =
      every_map (IsPlaced e shape.Land) (λ land. item.Land land) (lands e)
      (every_weaker (λ land. land < lands_of e) (λ land. IsPlaced e shape.Land (item.Land land)) (λ land within pairs. land_cell e pairs land within) (lands e) (below (lands_of e)))
  entries_placed shape.List =
      every_pieces (IsPlaced e shape.List) (lists_in_land e) (lands e)
      (every_weaker (λ land. land < lands_of e) (λ land. Every (IsPlaced e shape.List) (lists_in_land e land)) in_land (lands e) (below (lands_of e)))

  scopes_placed : (over s : Shape) → can_split over s ≡ true → Every (λ g. Every (IsPlaced e s) g.entries) (scopes e over s)
  scopes_placed shape.One s can = (entries_placed s, tt)
  scopes_placed shape.Party shape.List can =
      every_map (λ g. Every (IsPlaced e shape.List) g.entries) _ (parties e)
      (every_weaker (λ party. party < parties_of e) (λ party. Every (IsPlaced e shape.List) (lists_of_party e party)) of_party (parties e) (below (parties_of e)))
  scopes_placed shape.Land shape.List can =
      every_map (λ g. Every (IsPlaced e shape.List) g.entries) _ (lands e)
      (every_weaker (λ land. land < lands_of e) (λ land. Every (IsPlaced e shape.List) (lists_in_land e land)) in_land (lands e) (below (lands_of e)))
  scopes_placed shape.Party shape.One can = absurd (false≢true can)
  scopes_placed shape.Party shape.Party can = absurd (false≢true can)
  scopes_placed shape.Party shape.Land can = absurd (false≢true can)
  scopes_placed shape.Land shape.One can = absurd (false≢true can)
  scopes_placed shape.Land shape.Party can = absurd (false≢true can)
  scopes_placed shape.Land shape.Land can = absurd (false≢true can)
  scopes_placed shape.List s can = absurd (false≢true can)

-- ---- lists by their places

zip_at : {X Y : Type 0} (R : X → Y → Type 0) (xs : List X) (ys : List Y) (m : ℕ) (x : X) → AllZip R xs ys → slice_get xs m ≡ Some x → (y : Y) × (slice_get ys m ≡ Some y) × R x y
zip_at R [] ys m x all at = absurd (none-some x at)
zip_at R (z ∷ xs) [] m x all at = absurd all
zip_at R (z ∷ xs) (y ∷ ys) zero x all at = (y, refl, subst (λ w. R w y) (same_Some z x at) all.0)
zip_at R (z ∷ xs) (y ∷ ys) (suc m) x all at = zip_at R xs ys m x all.1 at

zip_weaker : {X Y : Type 0} (R S : X → Y → Type 0) → ((x : X) (y : Y) → R x y → S x y) → (xs : List X) (ys : List Y) → AllZip R xs ys → AllZip S xs ys
zip_weaker R S imp [] [] all = tt
zip_weaker R S imp [] (y ∷ ys) all = absurd all
zip_weaker R S imp (x ∷ xs) [] all = absurd all
zip_weaker R S imp (x ∷ xs) (y ∷ ys) all = (imp x y all.0, zip_weaker R S imp xs ys all.1)

map_is : {X : Type 0} (f : X → ℕ) (xs : List X) (s : List ℕ) → length s ≡ length xs → ((j : ℕ) (x : X) → slice_get xs j ≡ Some x → f x ≡ get_or s j 0) → map f xs ≡ s
map_is f [] [] long at = refl
map_is f [] (n ∷ s) long at = absurd (omega (arith, long))
map_is f (x ∷ xs) [] long at = absurd (omega (arith, long))
map_is f (x ∷ xs) (n ∷ s) long at = cc (at 0 x refl, map_is f xs s (omega (arith, long)) (λ j y is. at (suc j) y is))

-- ---- a column has no fault, so each scope has seats

no_fault_first : (faults : List LegalFault) (values c : List ℕ) (records r : Records) → Column values records ≡ unwrap_or (option_map (λ f. Fault f) (slice_get faults 0)) (Column c r) → (faults ≡ []) × (values ≡ c)
no_fault_first [] values c records r is = (refl, cc)
no_fault_first (f ∷ faults) values c records r is = cc

-- the scope has seats, by an award of its own
abbrev HasSeats : (Group → Award → Type 0) → Group → Award → Type 0
HasSeats IsAward g a = (s : List ℕ) × (a ≡ Seats s) × IsAward g (Seats s)

all_seats : (IsAward : Group → Award → Type 0) (stage : ℕ) (groups : List Group) (awards : List Award) → filter_map (fault_of stage) (zip groups awards) ≡ [] → AllZip IsAward groups awards →
    AllZip (HasSeats IsAward) groups awards
all_seats IsAward stage [] [] none all = tt
all_seats IsAward stage [] (a ∷ awards) none all = absurd all
all_seats IsAward stage (g ∷ groups) [] none all = absurd all
all_seats IsAward stage (g ∷ groups) (Seats s ∷ awards) none all = ((s, refl, all.0), all_seats IsAward stage groups awards none all.1)
all_seats IsAward stage (g ∷ groups) (Refused kind ∷ awards) none all = cc

-- the scope was awarded seats, and these are its numbers in the column
pub record HasAward (e : Election) (IsAward : Group → Award → Type 0) (values : List ℕ) (g : Group) : Type 0 where
  pub seats : List ℕ
  pub award : IsAward g (Seats seats)
  pub are : cells e g.entries values ≡ seats

module _ (e : Election) (at : Stand) (amounts : List ℕ) (IsAward : Group → Award → Type 0) (records : Group → List ℕ → Records) (long : (g : Group) (s : List ℕ) → IsAward g (Seats s) → length s ≡ length g.entries)
    (over : Shape) (can : can_split over at.shape ≡ true) (values : List ℕ) (r : Records) (m : ℕ) (g : Group) (there : slice_get (scopes e over at.shape) m ≡ Some g) where
  joined_award : AreJoined e at amounts IsAward records (scopes e over at.shape) (Column values r) → HasAward e IsAward values g
  joined_award j =
      let groups = scopes e over at.shape in
      let pairs : List (Item × ℕ) = flat_map (λ x. zip x.0.entries (awarded x.1)) (zip groups j.awards) in
      let is = no_fault_first (filter_map (fault_of at.stage) (zip groups j.awards)) values (pair_column e at.shape pairs) r _ j.is in
      let all = all_seats IsAward at.stage groups j.awards is.0 j.each in
      let own = zip_at (HasSeats IsAward) groups j.awards m g all there in
      let seats = own.2.0 in
      let each_long : AllZip (λ g a. length (awarded a) ≡ length g.entries) groups j.awards =
      zip_weaker (HasSeats IsAward) (λ g a. length (awarded a) ≡ length g.entries) (λ g a h. ap (λ a. length (awarded a)) h.1 ∙ long g h.0 h.2) groups j.awards all in
      record {
        seats = seats;
        award = own.2.2;
        are = map_is (λ i. get_or values (place e i) 0) g.entries seats (long g seats own.2.2)
            (λ k i entry.
            ap (λ c. get_or c (place e i) 0) is.1
            ∙ every_at (IsPlaced e at.shape) g.entries k i (every_at (λ g. Every (IsPlaced e at.shape) g.entries) groups m g (scopes_placed e over at.shape can) there) entry pairs
            ∙ told_entry groups j.awards (scope_entries_differ e over at.shape) each_long m k g own.0 i there own.1 entry
            ∙ ap (λ a. get_or (awarded a) k 0) own.2.1);
      }

  pub shared_award : IsShared e at amounts IsAward records (scopes e over at.shape) (Column values r) → HasAward e IsAward values g
  shared_award h = of (first_over e at amounts (scopes e over at.shape)) h where
    of : (o : Option Group) → MatchOption o (AreJoined e at amounts IsAward records (scopes e over at.shape) (Column values r)) (λ g. Column values r ≡ Fault (fault_at at.stage g.scope fault.Limit)) → HasAward e IsAward values g
    of None j = joined_award j
    of (Some h) is = cc
