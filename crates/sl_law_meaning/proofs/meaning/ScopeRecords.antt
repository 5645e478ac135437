-- The records of a stage: each of one scope and one entry, and none twice.
use Rattle.std.proofs.Common.{◌≡◌, ℕ, ◌+◌, ◌&&◌, Bool, false, List, map, filter, get_or, nat_eq, nat_lt, arith, refl, ap, ◌∙◌}
use Rattle.std.specs.Prelude.{zip}
use Rattle.std.specs.Cmp.{nat_eq_equiv}
use Rattle.std.specs.List.{AllByRecursion as Every, IsDistinct, range_with_len, enumerate_from}
use Rattle.std.proofs.lemmas.Bool.{and_left, and_right, cond_both, eqb-false, ne_eqb}
use Rattle.sl_base_quotients.specs.declared.method.Divisor.{Divisor}
use Rattle.sl_base_terms.specs.declared.shape.Shape.{Shape}
use Rattle.sl_base_terms.specs.declared.shape.Shape.TheVariants as shape
use Rattle.sl_law_meaning.specs.declared.fault.Scope.{Scope}
use Rattle.sl_law_meaning.specs.declared.fault.Item.{Item}
use Rattle.sl_law_meaning.specs.declared.fault.Item.TheVariants as item
use Rattle.sl_law_meaning.specs.declared.table.Mark.{Mark}
use Rattle.sl_law_meaning.specs.declared.table.SeatStep.{SeatStep}
use Rattle.sl_law_meaning.specs.declared.table.Weight.{Weight}
use Rattle.sl_law_meaning.specs.returns.Election.{Election, lands_of, parties_of, has_list}
use Rattle.sl_law_meaning.specs.returns.Facts.{lands, parties}
use Rattle.sl_law_meaning.specs.laws.Ladders.{Ladders}
use Rattle.sl_law_meaning.specs.meaning.Scopes.{same_item, lists_in_land, lists_of_party, entries_of, Group, scopes}
use Rattle.sl_law_meaning.specs.meaning.Records.{Records, seat_step, seat_steps, field_weights}
use Rattle.sl_law_meaning.specs.laws.MeaningLaws.{same_scope, same_seat, same_entry}
use Rattle.sl_law_meaning.proofs.meaning.DistinctLists.{always, every_map, every_pieces, Apart, maps_apart, distinct_nil, distinct_one, distinct_filter, distinct_map, distinct_pieces, distinct_range, distinct_numbered, distinct_zipped}

-- ---- entries and scopes

pub item_flips : (x y : Item) → same_item x y ≡ same_item y x
item_flips (item.Party p) (item.Party q) = nat_eq_equiv.symm p q
item_flips (item.Land l) (item.Land k) = nat_eq_equiv.symm l k
item_flips (item.List l p) (item.List k q) = cc (nat_eq_equiv.symm l k, nat_eq_equiv.symm p q)
item_flips (item.Win v) (item.Win w) = nat_eq_equiv.symm v w
item_flips _ _ = refl

pub lists_in_land_differ : (e : Election) (land : ℕ) → IsDistinct same_item (lists_in_land e land)
lists_in_land_differ e land =
    distinct_map nat_eq same_item (λ party. item.List land party) (λ p q differ. and_right (nat_eq land land) (nat_eq p q) differ)
    (filter (has_list e land) (parties e)) (distinct_filter nat_eq (has_list e land) (parties e) (distinct_range 0 (parties_of e)))

pub lists_of_party_differ : (e : Election) (party : ℕ) → IsDistinct same_item (lists_of_party e party)
lists_of_party_differ e party =
    distinct_map nat_eq same_item (λ land. item.List land party) (λ l k differ. and_left (nat_eq l k) (nat_eq party party) differ)
    (filter (λ land. has_list e land party) (lands e)) (distinct_filter nat_eq (λ land. has_list e land party) (lands e) (distinct_range 0 (lands_of e)))

pub lands_apart : (e : Election) (l k : ℕ) → nat_eq l k ≡ false → Apart same_item (lists_in_land e l) (lists_in_land e k)
lands_apart e l k differ =
    maps_apart same_item (λ party. item.List l party) (λ party. item.List k party) (λ p q. and_left (nat_eq l k) (nat_eq p q) differ)
    (filter (has_list e l) (parties e)) (filter (has_list e k) (parties e))

pub entries_differ : (e : Election) (s : Shape) → IsDistinct same_item (entries_of e s)
entries_differ e shape.One = distinct_nil same_item
entries_differ e shape.Party = distinct_map nat_eq same_item (λ party. item.Party party) (λ p q differ. differ) (parties e) (distinct_range 0 (parties_of e))
entries_differ e shape.Land = distinct_map nat_eq same_item (λ land. item.Land land) (λ l k differ. differ) (lands e) (distinct_range 0 (lands_of e))
entries_differ e shape.List =
    distinct_pieces same_item nat_eq (lists_in_land e) (lands_apart e) (lands e) (always (λ land. IsDistinct same_item (lists_in_land e land)) (lists_in_land_differ e) (lands e)) (distinct_range 0 (lands_of e))

-- two scopes are the same
abbrev pub same_group : Group → Group → Bool
same_group g h = same_scope g.scope h.scope

pub scopes_differ : (e : Election) (over votes : Shape) → IsDistinct same_group (scopes e over votes)
scopes_differ e shape.One votes = distinct_one same_group _
scopes_differ e shape.Party votes = distinct_map nat_eq same_group _ (λ p q differ. differ) (parties e) (distinct_range 0 (parties_of e))
scopes_differ e shape.Land votes = distinct_map nat_eq same_group _ (λ l k differ. differ) (lands e) (distinct_range 0 (lands_of e))
scopes_differ e shape.List votes = distinct_nil same_group

pub entries_once : (e : Election) (over votes : Shape) → Every (λ g. IsDistinct same_item g.entries) (scopes e over votes)
entries_once e shape.One votes = (entries_differ e votes, tt)
entries_once e shape.Party votes = every_map (λ g. IsDistinct same_item g.entries) _ (parties e) (always (λ p. IsDistinct same_item (lists_of_party e p)) (lists_of_party_differ e) (parties e))
entries_once e shape.Land votes = every_map (λ g. IsDistinct same_item g.entries) _ (lands e) (always (λ l. IsDistinct same_item (lists_in_land e l)) (lists_in_land_differ e) (lands e))
entries_once e shape.List votes = tt

-- ---- records of one stage and scope

-- a record is of that stage and scope
pub record StepAt (stage : ℕ) (scope : Scope) (s : SeatStep) : Type 0 where
  pub stage_is : s.stage ≡ stage
  pub scope_is : s.scope ≡ scope

pub record WeightAt (stage : ℕ) (scope : Scope) (w : Weight) : Type 0 where
  pub stage_is : w.stage ≡ stage
  pub scope_is : w.scope ≡ scope

-- no record comes twice
pub record Once (r : Records) : Type 0 where
  pub steps : IsDistinct same_seat r.steps
  pub weights : IsDistinct same_entry r.weights

-- the records of a scope are all of that stage and scope; and none comes twice, if no entry does
pub record AtScope (stage : ℕ) (g : Group) (r : Records) : Type 0 where
  pub steps : Every (StepAt stage g.scope) r.steps
  pub weights : Every (WeightAt stage g.scope) r.weights
  pub once : IsDistinct same_item g.entries → Once r

-- what a step tells of the seat
record Tells (stage : ℕ) (scope : Scope) (entry : Item) (n : ℕ) (s : SeatStep) : Type 0 where
  at : StepAt stage scope s
  entry_is : s.entry ≡ entry
  n_is : s.n ≡ n

-- seats of different entries, or of different numbers, differ
other_entry : (x y : SeatStep) → same_item x.entry y.entry ≡ false → same_seat x y ≡ false
other_entry x y differ =
    and_right (nat_eq x.stage y.stage && same_scope x.scope y.scope) (same_item x.entry y.entry && nat_eq x.n y.n) (and_left (same_item x.entry y.entry) (nat_eq x.n y.n) differ)

other_number : (x y : SeatStep) → nat_eq x.n y.n ≡ false → same_seat x y ≡ false
other_number x y differ =
    and_right (nat_eq x.stage y.stage && same_scope x.scope y.scope) (same_item x.entry y.entry && nat_eq x.n y.n) (and_right (same_item x.entry y.entry) (nat_eq x.n y.n) differ)

module _ (stage : ℕ) (scope : Scope) (entries : List Item) where
  module _ (l : Ladders) (won_by : ℕ → ℕ → Mark) (s : List ℕ) where
    step : ℕ → Item → ℕ → SeatStep
    step = seat_step stage scope entries l won_by s

    tells : (i : ℕ) (entry : Item) (a : ℕ) → Tells stage scope entry (a + 1) (step i entry a)
    unfolding step
    tells i entry a =
        cond_both (nat_lt a (get_or l.base i 0)) _ _ (Tells stage scope entry (a + 1))
        (λ base. record { at = record { stage_is = refl; scope_is = refl }; entry_is = refl; n_is = refl })
        (λ awarded. record { at = record { stage_is = refl; scope_is = refl }; entry_is = refl; n_is = refl })

    numbers : ℕ → List ℕ
    numbers i = range_with_len 0 (get_or s i 0)

    piece : ℕ × Item → List SeatStep
    piece x = map (step x.0 x.1) (numbers x.0)

    piece_at : (x : ℕ × Item) → Every (StepAt stage scope) (piece x)
    unfolding piece
    piece_at x = every_map (StepAt stage scope) (step x.0 x.1) (numbers x.0) (always (λ a. StepAt stage scope (step x.0 x.1 a)) (λ a. (tells x.0 x.1 a).at) (numbers x.0))

    piece_once : (x : ℕ × Item) → IsDistinct same_seat (piece x)
    unfolding piece numbers
    piece_once x =
        distinct_map nat_eq same_seat (step x.0 x.1)
        (λ a c differ. other_number (step x.0 x.1 a) (step x.0 x.1 c)
        (ne_eqb (step x.0 x.1 a).n (step x.0 x.1 c).n (λ same. eqb-false a c differ (omega (arith, same, (tells x.0 x.1 a).n_is, (tells x.0 x.1 c).n_is)))))
        (numbers x.0) (distinct_range 0 (get_or s x.0 0))

    pieces_apart : (x y : ℕ × Item) → same_item x.1 y.1 ≡ false → Apart same_seat (piece x) (piece y)
    unfolding piece
    pieces_apart x y differ =
        maps_apart same_seat (step x.0 x.1) (step y.0 y.1) (λ a c.
        other_entry (step x.0 x.1 a) (step y.0 y.1 c) (ap (λ z. same_item z (step y.0 y.1 c).entry) (tells x.0 x.1 a).entry_is ∙ ap (same_item x.1) (tells y.0 y.1 c).entry_is ∙ differ)) (numbers x.0) (numbers y.0)

    pub seats_at : Every (StepAt stage scope) (seat_steps stage scope entries l won_by s)
    unfolding piece numbers step
    seats_at = every_pieces (StepAt stage scope) piece (enumerate_from 0 entries) (always (λ x. Every (StepAt stage scope) (piece x)) piece_at (enumerate_from 0 entries))

    pub seats_once : IsDistinct same_item entries → IsDistinct same_seat (seat_steps stage scope entries l won_by s)
    unfolding piece numbers step
    seats_once d =
        distinct_pieces same_seat (λ x y. same_item x.1 y.1) piece pieces_apart (enumerate_from 0 entries)
        (always (λ x. IsDistinct same_seat (piece x)) piece_once (enumerate_from 0 entries)) (distinct_numbered same_item 0 entries d)

  module _ (d : Divisor) (v : List ℕ) where
    pub weights_are_at : Every (WeightAt stage scope) (field_weights stage scope entries d v)
    weights_are_at =
        every_map (WeightAt stage scope) _ (filter (λ x. nat_lt 0 x.1) (zip entries v))
        (always _ (λ x. record { stage_is = refl; scope_is = refl }) (filter (λ x. nat_lt 0 x.1) (zip entries v)))

    pub weights_once : IsDistinct same_item entries → IsDistinct same_entry (field_weights stage scope entries d v)
    weights_once differ =
        distinct_map (λ x y. same_item x.0 y.0) same_entry _ (λ x y other. and_right (nat_eq stage stage && same_scope scope scope) (same_item x.0 y.0) other)
        (filter (λ x. nat_lt 0 x.1) (zip entries v)) (distinct_filter (λ x y. same_item x.0 y.0) (λ x. nat_lt 0 x.1) (zip entries v) (distinct_zipped same_item entries v differ))
