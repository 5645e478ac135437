-- The machine's lot of a stage and the meaning's are one, and cover and draw alike.
use Rattle.std.proofs.Common.{rules, ◌≡◌, ℕ, ◌+◌, ◌<◌, Bool, true, false, not, cond, List, [], ◌∷◌, length, map, filter_map, All, Option, Some, None, option_map, if◌then◌else◌, refl, sym, ap, subst, ◌∙◌, inl, inr, eq-eqb, eqb-true}
use Rattle.std.specs.Prelude.{nat_eq, position, slice_get}
use Rattle.std.specs.List.{prefix_len, cons_option}
use Rattle.std.specs.Option.{ForSome}
use Rattle.std.specs.Str.{bytes_eq}
use Rattle.std.proofs.lemmas.Bool.{cases_Bool, false_from_ne_true, true≢false, and_parts}
use Rattle.std.proofs.lemmas.List.{length-map}
use Rattle.std.specs.List.Sorted.{IsStrictlyIncreasing}
use Rattle.std.proofs.lemmas.List.Elements.{All-head, All-tail, All-filter, All-weaker}
use Rattle.std.proofs.lemmas.Nat.{div-mul-add, mod-mul-add}
use Rattle.std.proofs.lemmas.Option.{same_Some}
use Rattle.sl_base_terms.specs.declared.shape.Shape.TheVariants as shape
use Rattle.sl_law_meaning.specs.declared.fault.Item.{Item}
use Rattle.sl_law_meaning.specs.declared.fault.Item.TheVariants as item
use Rattle.sl_law_meaning.specs.declared.election.Lot.{Lot}
use Rattle.sl_law_meaning.specs.returns.Election.{Election, IsElection, IsLot, lands_of, parties_of}
use Rattle.sl_law_meaning.specs.meaning.Scopes.{place, same_item}
use Rattle.sl_law_meaning.specs.meaning.Lots.{lots_named, given_entry, given_winner, is_winner_of, first_mentions, lot_among}
use Rattle.sl_law_meaning.proofs.meaning.OneAward.{mentions_distinct}
use Rattle.sl_code_instructions.specs.declared.operand.Entries.{Entries}
use Rattle.sl_code_instructions.specs.declared.operand.Entries.TheVariants as entries
use Rattle.sl_code_semantics.specs.Places.{item_of}
use Rattle.sl_code_semantics.specs.Drawn.{given_in, lot_of}
use Rattle.sl_code_semantics.specs.SameLots.{lot_meant, AreEntries, SameLot, SameLots}
use Rattle.sl_code_semantics.proofs.drawing.LotOrder.{read_among, mentions_only, mentions_all, mentions_order, numbers_only, numbers_all, numbers_order}

-- ---- items by their places

same_item_is : (x y : Item) → same_item x y ≡ true → x ≡ y
same_item_is (item.Party p) (item.Party q) h = ap item.Party (eqb-true p q h)
same_item_is (item.Land l) (item.Land k) h = ap item.Land (eqb-true l k h)
same_item_is (item.List l p) (item.List k q) h =
    let parts = and_parts (nat_eq l k) (nat_eq p q) h in
    let land = eqb-true l k parts.0 in
    let party = eqb-true p q parts.1 in
    λ i. item.List (land i) (party i)
same_item_is (item.Win v) (item.Win w) h = ap item.Win (eqb-true v w h)
same_item_is x y h = cc

same_item_itself : (x : Item) → same_item x x ≡ true
same_item_itself (item.List l p) = rw (eq-eqb l l refl, eq-eqb p p refl) refl
same_item_itself x = search (rules, eq-eqb)

module _ (e : Election) (k : Entries) where
  -- items that stand at their places are the same if their places are
  same_test : (x y : Item) → item_of e k (place e x) ≡ x → item_of e k (place e y) ≡ y → nat_eq (place e x) (place e y) ≡ same_item x y
  same_test x y is_x is_y =
      elim (cases_Bool (same_item x y)) [
        | inl t ↦ eq-eqb (place e x) (place e y) (ap (place e) (same_item_is x y t)) ∙ sym t
        | inr f ↦
            let other : nat_eq (place e x) (place e y) ≡ false = false_from_ne_true _ (λ t.
            let same : x ≡ y = sym is_x ∙ ap (item_of e k) (eqb-true (place e x) (place e y) t) ∙ is_y in
            true≢false (sym (subst (λ (z : Item). same_item x z ≡ true) same (same_item_itself x)) ∙ f)) in
            other ∙ sym f
      ]

  prefix_same : (x : Item) (items : List Item) → item_of e k (place e x) ≡ x → All (λ i. item_of e k (place e i) ≡ i) items
      → prefix_len (λ n. not (nat_eq (place e x) n)) (map (place e) items) ≡ prefix_len (λ i. not (same_item x i)) items
  prefix_same x [] is all = refl
  prefix_same x (y ∷ ys) is all =
      let here = same_test x y is (All-head (λ i. item_of e k (place e i) ≡ i) y ys all) in
      let rest = prefix_same x ys is (All-tail (λ i. item_of e k (place e i) ≡ i) y ys all) in
      rw here (ap (λ (n : ℕ). cond (not (same_item x y)) (1 + n) 0) rest)

  position_same : (x : Item) (items : List Item) → item_of e k (place e x) ≡ x → All (λ i. item_of e k (place e i) ≡ i) items
      → position (nat_eq (place e x)) (map (place e) items) ≡ position (same_item x) items
  position_same x items is all = rw (prefix_same x items is all, length-map items (place e)) refl

-- ---- the mentions of lots
module _ {L X : Type 0} (h : L → Option X) (g : X → ℕ) (by_place : ℕ → Option ℕ) (by_item : X → Option ℕ) where
  mentions_same : (ls : List L) → All (λ l. ForSome (h l) (λ x. by_place (g x) ≡ by_item x)) ls → filter_map by_item (filter_map h ls) ≡ filter_map by_place (filter_map (λ l. option_map g (h l)) ls)
  mentions_same [] all = refl
  mentions_same (l ∷ ls) all = of (h l) refl (mentions_same ls (All-tail (λ l. ForSome (h l) (λ x. by_place (g x) ≡ by_item x)) l ls all))
    where
      of : (o : Option X) → h l ≡ o → filter_map by_item (filter_map h ls) ≡ filter_map by_place (filter_map (λ l. option_map g (h l)) ls)
          → filter_map by_item (filter_map h (l ∷ ls)) ≡ filter_map by_place (filter_map (λ l. option_map g (h l)) (l ∷ ls))
      of None is rest = rw is rest
      of (Some x) is rest =
          let same = All-head (λ l. ForSome (h l) (λ x. by_place (g x) ≡ by_item x)) l ls all x is in
          rw is (ap (λ (o : Option ℕ). cons_option o (filter_map by_item (filter_map h ls))) (sym same) ∙ ap (cons_option (by_place (g x))) rest)

-- ---- what a lot gives stands at its place
module _ (e : Election) where
  given_some : (k : Entries) (x y : Item) → item_of e k (place e x) ≡ x → Some x ≡ Some y → item_of e k (place e y) ≡ y
  given_some k x y is same = subst (λ (z : Item). item_of e k (place e z) ≡ z) (same_Some x y same) is

  party_given : (l : Lot) (land party : Option ℕ) → ForSome (given_entry shape.Party (record l { land = land; party = party })) (λ x. item_of e entries.Party (place e x) ≡ x)
  party_given l None (Some p) y h = given_some entries.Party (item.Party p) y refl h
  party_given l land party y h = cc

  land_given : (l : Lot) (land party : Option ℕ) → ForSome (given_entry shape.Land (record l { land = land; party = party })) (λ x. item_of e entries.Land (place e x) ≡ x)
  land_given l (Some n) None y h = given_some entries.Land (item.Land n) y refl h
  land_given l land party y h = cc

  list_is : (n p : ℕ) → p < parties_of e → item_of e entries.List (place e (item.List n p)) ≡ item.List n p
  list_is n p below =
      let land = div-mul-add n (parties_of e) p below in
      let party = mod-mul-add n (parties_of e) p below in
      λ i. item.List (land i) (party i)

  list_given : (l : Lot) (land party : Option ℕ) → ForSome party (λ p. p < parties_of e)
      → ForSome (given_entry shape.List (record l { land = land; party = party })) (λ x. item_of e entries.List (place e x) ≡ x)
  list_given l (Some n) (Some p) below y h = given_some entries.List (item.List n p) y (list_is n p (below p refl)) h
  list_given l land party below y h = cc

  chosen_win : (b : Bool) (w : ℕ) (y : Item) → (if b then Some (item.Win w) else None) ≡ Some y → item_of e entries.Win (place e y) ≡ y
  chosen_win true w y h = given_some entries.Win (item.Win w) y refl h
  chosen_win false w y h = cc

  win_given : (l : Lot) (land party win : Option ℕ) → ForSome (given_winner e (record l { land = land; party = party; win = win })) (λ x. item_of e entries.Win (place e x) ≡ x)
  win_given l (Some n) (Some p) (Some w) y h = chosen_win (is_winner_of n p (slice_get e.wins w)) w y h
  win_given l land party win y h = cc

  lot_given : (k : Entries) (l : Lot) → ForSome l.party (λ p. p < parties_of e) → ForSome (given_in e k l) (λ x. item_of e k (place e x) ≡ x)
  lot_given entries.Party l below = party_given l l.land l.party
  lot_given entries.Land l below = land_given l l.land l.party
  lot_given entries.List l below = list_given l l.land l.party below
  lot_given entries.Win l below = win_given l l.land l.party l.win

  module _ (election : IsElection e) (name : List ℕ) (k : Entries) (items : List Item) (are : AreEntries e k items) where
    lots_in : All (λ l. ForSome l.party (λ p. p < parties_of e)) (lots_named name e)
    lots_in =
        All-filter (λ l. bytes_eq name l.stage) (λ l. ForSome l.party (λ p. p < parties_of e)) e.lots
        (All-weaker (IsLot (lands_of e) (parties_of e) (length e.win_names)) (λ l. ForSome l.party (λ p. p < parties_of e)) (λ l is. is.party) e.lots election.lots)

    -- the meaning's lot is the machine's, read among the items
    among_is : lot_among items (filter_map (given_in e k) (lots_named name e)) ≡ read_among (map (place e) items) (lot_of e k name)
    among_is =
        ap first_mentions
        (mentions_same (given_in e k) (place e) (λ n. position (nat_eq n) (map (place e) items)) (λ x. position (same_item x) items) (lots_named name e)
        (All-weaker (λ l. ForSome l.party (λ p. p < parties_of e)) (λ l. ForSome (given_in e k l) (λ x. position (nat_eq (place e x)) (map (place e) items) ≡ position (same_item x) items))
        (λ l below x given. position_same e k x items (lot_given k l below x given) are.items_of) (lots_named name e) lots_in))

meant_is : (e : Election) (name : List ℕ) (k : Entries) (items : List Item) → lot_meant e name k items ≡ lot_among items (filter_map (given_in e k) (lots_named name e))
meant_is e name entries.Party items = refl
meant_is e name x items = refl

read_same : (lot places : List ℕ) → IsStrictlyIncreasing places → SameLot lot (read_among places lot) places
read_same lot places increasing =
    let numbers = filter_map (λ n. position (nat_eq n) places) lot in
    record {
      named = λ j low. (
        λ c. (numbers_only places increasing lot j (mentions_only numbers j c)).1,
        λ c. mentions_all numbers j (numbers_all places increasing lot j low c),
      );
      within = λ j c. (numbers_only places increasing lot j (mentions_only numbers j c)).0;
      distinct = mentions_distinct numbers;
      before = λ j k low small first. mentions_order numbers j k (numbers_order places increasing lot j k low small first);
    }

pub same_lots : SameLots
same_lots e election name k items are =
    let same = meant_is e name k items ∙ among_is e election name k items are in
    subst (λ (meant : List ℕ). SameLot (lot_of e k name) meant (map (place e) items)) (sym same) (read_same (lot_of e k name) (map (place e) items) are.increasing)
