-- A set with the law of ties has one choice for each lot.
use Rattle.std.proofs.Common.{◌≡◌, ℕ, suc, ◌<◌, ◌≤◌, List, [], length, get_or, sum, inl, inr, arith, refl, sym, ap, ◌∙◌, subst}
use Rattle.std.specs.Prelude.{Contains, ◌↔◌}
use Rattle.std.proofs.lemmas.List.Sums.{get_or-le-sum_by}
use Rattle.sl_law_meaning.specs.laws.Ladders.{Raises, RaisesEach}
use Rattle.sl_law_meaning.specs.methods.Ties.{Distinct, Lists, IsRaised, IsTied, AreTied, Choice, Decided, Tied, NamesAll, drawn, IsChoice, IsWellDefined}
use Rattle.sl_law_meaning.proofs.methods.ListedEntries.{find_all}
use Rattle.sl_law_meaning.proofs.methods.RaisedSeats.{all_or_one, increasing_distinct, cases_Contains, Contains-none}
use Rattle.sl_law_meaning.proofs.methods.TieLaw.{HasTies, none_tied, no_raise, equal_lists, raised_is, below_length, raise_chosen, raised_more, more_raised}
use Rattle.sl_law_meaning.proofs.methods.DrawnLots.{fits_in, same_entries, drawn_only, drawn_distinct, drawn_length}

module _ (X : List ℕ → Type 0) (tied : List ℕ) (k : ℕ) (law : HasTies X tied k) where
  -- no member raises more than the tied entries
  few : k ≤ length tied
  few =
      let s = law.some.0 in
      let r = law.are_tied.number s law.some.1 in
      let fits = fits_in r.0 tied (increasing_distinct r.0 r.1.in_order) (increasing_distinct tied law.are_tied.entries.in_order)
      (λ i c. law.are_tied.entries.has i (s, law.some.1, r.1.has_only i c)) in
      let e = r.2 in omega (arith, fits, e)

  -- a member is known by the entries that it raises
  pub same_member : (s t : List ℕ) → X s → X t → ((i : ℕ) → IsRaised X s i → IsRaised X t i) → ((i : ℕ) → IsRaised X t i → IsRaised X s i) → s ≡ t
  same_member s t hs ht to from =
      equal_lists s t (law.one_length s t hs ht) (λ i.
      let up : get_or s i 0 < get_or t i 0 → ⊥ = λ l. let r = from i (s, hs, l) in omega (arith, law.one_apart t r.0 ht r.1 i, r.2, l) in
      let down : get_or t i 0 < get_or s i 0 → ⊥ = λ l. let r = to i (t, ht, l) in omega (arith, law.one_apart s r.0 hs r.1 i, r.2, l) in
      omega (arith, up, down))

  same_tied : (tied' : List ℕ) (k' : ℕ) → AreTied X tied' k' → (tied' ≡ tied) × (k' ≡ k)
  same_tied tied' k' h =
      let s = law.some.0 in
      let r = law.are_tied.number s law.some.1 in
      let r' = h.number s law.some.1 in
      let e = same_entries (IsRaised X s) (IsRaised X s) r'.0 r.0 (λ i x. x) (λ i x. x) r'.1 r.1 in
      (same_entries (IsTied X) (IsTied X) tied' tied (λ i x. x) (λ i x. x) h.entries law.are_tied.entries, sym r'.2 ∙ ap length e ∙ r.2)

  -- a choice that is no list in order
  pub any_choice : (chosen : List ℕ) → Distinct chosen → ((i : ℕ) → Contains chosen i → Contains tied i) → length chosen ≡ k →
      (s : List ℕ) × X s × ((i : ℕ) → IsRaised X s i ↔ Contains chosen i)
  any_choice chosen d sub e =
      let sorted = find_all (λ i. Contains chosen i) (cases_Contains chosen) (suc (sum chosen)) (λ i c. omega (arith, get_or-le-sum_by (λ x. x) chosen c.0 i c.1, c.2)) in
      let inc = sorted.1.in_order in
      let a = fits_in sorted.0 chosen (increasing_distinct sorted.0 inc) d (λ i c. sorted.1.has_only i c) in
      let b = fits_in chosen sorted.0 d (increasing_distinct sorted.0 inc) (λ i c. sorted.1.has i c) in
      let found = law.every_choice sorted.0 inc (λ i c. sub i (sorted.1.has_only i c)) (omega (arith, a, b, e)) in
      (found.0, found.1, λ i. (λ r. sorted.1.has_only i (found.2.has i r), λ c. found.2.has_only i (sorted.1.has i c)))

  pub one_choice : (lot : List ℕ) → Distinct lot → (c : Choice) × IsChoice X lot c × ((d : Choice) → IsChoice X lot d → d ≡ c)
  one_choice lot d =
      elim (all_or_one tied lot) [
        | inl names ↦
            (let e = increasing_distinct tied law.are_tied.entries.in_order in
            let found = any_choice (drawn lot k tied) (drawn_distinct lot k tied d) (drawn_only lot k tied) (drawn_length lot k tied d e names few) in
            (Decided found.0, (tied, k, law.are_tied, names, found.1, found.2), others_none_seats names found.0 found.1 found.2))
        | inr out ↦ let none : NamesAll lot tied → ⊥ = λ names. out.2 (names out.0 out.1) in (Tied k tied, (law.are_tied, none), λ c h. tie_only none c h)
      ] where
        others_none_seats : NamesAll lot tied → (s : List ℕ) → X s → ((i : ℕ) → IsRaised X s i ↔ Contains (drawn lot k tied) i) → (c : Choice) → IsChoice X lot c → c ≡ Decided s
        others_none_seats names s hs just (Decided t) h =
            let same = same_tied h.0 h.1 h.2 in
            let e : drawn lot h.1 h.0 ≡ drawn lot k tied = ap (λ n. drawn lot n h.0) same.1 ∙ ap (λ y. drawn lot k y) same.0 in
            ap Decided (same_member t s h.4 hs
            (λ i r. (just i).1 (subst (λ y. Contains y i) e ((h.5 i).0 r)))
            (λ i r. (h.5 i).1 (subst (λ y. Contains y i) (sym e) ((just i).0 r))))
        others_none_seats names s hs just (Tied k' tied') h = absurd (h.1 (subst (λ y. NamesAll lot y) (sym (same_tied tied' k' h.0).0) names))

        tie_only : (NamesAll lot tied → ⊥) → (c : Choice) → IsChoice X lot c → c ≡ Tied k tied
        tie_only none (Decided t) h = absurd (none (subst (λ y. NamesAll lot y) (same_tied h.0 h.1 h.2).0 h.3))
        tie_only none (Tied k' tied') h = let same = same_tied tied' k' h.0 in ap (λ n. Tied n tied') same.1 ∙ ap (λ y. Tied k y) same.0

-- a set with the law of ties is well-defined
pub well_defined : (X : List ℕ → Type 0) → (tied : List ℕ) × (k : ℕ) × HasTies X tied k → IsWellDefined X
well_defined X h = record {
  some = h.2.some;
  one_apart = h.2.one_apart;
  tied = h.0;
  k = h.1;
  are_tied = h.2.are_tied;
  every_choice = h.2.every_choice;
  one_choice = one_choice X h.0 h.1 h.2;
}

-- a set of one member has that choice
pub one_member : (X : List ℕ → Type 0) (s : List ℕ) → ((t : List ℕ) → X t ↔ (t ≡ s)) → (lot : List ℕ) → IsChoice X lot (Decided s)
one_member X s h lot =
    let here : X s = (h s).1 refl in
    let alone : (t : List ℕ) → X t → t ≡ s = λ t ht. (h t).0 ht in
    ([], 0, none_tied X s alone, λ i c. absurd (Contains-none i c), here, λ i. (λ r. absurd (no_raise X s alone s here i r), λ c. absurd (Contains-none i c)))

-- a lot that names all the tied entries decides
pub drawn_choice : (X : List ℕ → Type 0) (base tied : List ℕ) (k : ℕ) → AreTied X tied k → k < length tied → ((t : List ℕ) → X t ↔ Raises tied k base t) →
    (lot : List ℕ) → Distinct lot → NamesAll lot tied → (t : List ℕ) → RaisesEach (drawn lot k tied) base t → IsChoice X lot (Decided t)
drawn_choice X base tied k are l members lot d names t h =
    let dp = increasing_distinct tied are.entries.in_order in
    let only : (y : List ℕ) → X y → Raises tied k base y = λ y hy. (members y).0 hy in
    let each : (y : List ℕ) → Raises tied k base y → X y = λ y hy. (members y).1 hy in
    let within : (p : ℕ) → Contains tied p → p < length base =
    λ p c. let r = are.entries.has_only p c in let e = (only r.0 r.1).same_length in let lp = below_length r.0 p (get_or r.2.0 p 0) r.2.2 in omega (arith, lp, e) in
    let chosen = drawn lot k tied in
    let dc = drawn_distinct lot k tied d in
    let inside : (i : ℕ) → Contains chosen i → i < length base = λ i c. within i (drawn_only lot k tied i c) in
    let e = raised_is base t chosen dc inside h in
    let made = raise_chosen base tied k dp within chosen dc (drawn_only lot k tied) (drawn_length lot k tied d dp names (omega arith)) in
    let ht : X t = each t (subst (λ y. Raises tied k base y) e made) in (
      tied,
      k,
      are,
      names,
      ht,
      λ i. (
        λ raised. elim (cases_Contains chosen i) [
          | inl c ↦ c
          | inr out ↦ absurd (let more = raised_more base tied k dp within X only each t ht i raised in omega (arith, more, h.others i out))
        ],
        λ c. more_raised base tied k dp within X only each l t ht i (omega (arith, h.raised i c)),
      ),
    )

-- two sets with the same members have the same ties and choices
module _ (X Y : List ℕ → Type 0) (same : (t : List ℕ) → X t ↔ Y t) where
  raised_too : (s : List ℕ) (i : ℕ) → IsRaised X s i → IsRaised Y s i
  raised_too s i r = (r.0, (same r.0).0 r.1, r.2)

  raised_back : (s : List ℕ) (i : ℕ) → IsRaised Y s i → IsRaised X s i
  raised_back s i r = (r.0, (same r.0).1 r.1, r.2)

  pub lists_too : (s raised : List ℕ) → Lists (IsRaised X s) raised → Lists (IsRaised Y s) raised
  lists_too s raised h = record { in_order = h.in_order; has = λ i r. h.has i (raised_back s i r); has_only = λ i c. raised_too s i (h.has_only i c) }

  pub tied_too : (tied : List ℕ) (k : ℕ) → AreTied X tied k → AreTied Y tied k
  tied_too tied k h = record {
    entries = record {
      in_order = h.entries.in_order;
      has = λ i t. h.entries.has i (t.0, (same t.0).1 t.1, raised_back t.0 i t.2);
      has_only = λ i c. let t = h.entries.has_only i c in (t.0, (same t.0).0 t.1, raised_too t.0 i t.2);
    };
    number = λ s hs. let n = h.number s ((same s).1 hs) in (n.0, lists_too s n.0 n.1, n.2);
  }

  pub choice_too : (lot : List ℕ) (c : Choice) → IsChoice X lot c → IsChoice Y lot c
  choice_too lot (Decided s) h = (
    h.0,
    h.1,
    tied_too h.0 h.1 h.2,
    h.3,
    (same s).0 h.4,
    λ i. (λ r. (h.5 i).0 (raised_back s i r), λ c. raised_too s i ((h.5 i).1 c)),
  )
  choice_too lot (Tied k tied) h = (tied_too tied k h.0, h.1)

pub same_choices : (X Y : List ℕ → Type 0) → ((t : List ℕ) → X t ↔ Y t) → (lot : List ℕ) (c : Choice) → IsChoice Y lot c ↔ IsChoice X lot c
same_choices X Y same lot c = (choice_too Y X (λ t. ((same t).1, (same t).0)) lot c, choice_too X Y same lot c)

pub well_defined_too : (X Y : List ℕ → Type 0) → ((t : List ℕ) → X t ↔ Y t) → IsWellDefined X → IsWellDefined Y
well_defined_too X Y same h = record {
  some = (h.some.0, (same h.some.0).0 h.some.1);
  one_apart = λ s t hs ht. h.one_apart s t ((same s).1 hs) ((same t).1 ht);
  tied = h.tied;
  k = h.k;
  are_tied = tied_too X Y same h.tied h.k h.are_tied;
  every_choice = λ chosen inc sub e. let found = h.every_choice chosen inc sub e in (found.0, (same found.0).0 found.1, lists_too X Y same found.0 chosen found.2);
  one_choice = λ lot d. let one = h.one_choice lot d in
      (one.0, choice_too X Y same lot one.0 one.1, λ other hd. one.2 other (choice_too Y X (λ t. ((same t).1, (same t).0)) lot other hd));
}
