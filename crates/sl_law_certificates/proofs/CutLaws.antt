-- The laws of cuts and of choices.
use Rattle.std.proofs.Common.{◌≡◌, nat_eq, ℕ, zero, suc, ◌*◌, ◌-◌, ◌<◌, ◌≤◌, ◌⊎◌, not, List, Some, None, length, get_or, sum, max, inl, inr, arith, refl, sym, ap, ◌∙◌, subst}
use Rattle.std.specs.Prelude.{Contains, Option}
use Rattle.std.proofs.lemmas.Bool.{cases_lt, cases_Bool}
use Rattle.std.proofs.lemmas.Option.{same_Some}
use Rattle.sl_base_quotients.specs.Quotient.{Quotient, AtMost, SameQuotient}
use Rattle.sl_base_quotients.proofs.Order.{AtMost-trans, decide_AtMost, not-AtMost}
use Rattle.sl_law_meaning.specs.methods.Ties.{Distinct, Choice, Decided, Tied, IsChoice}
use Rattle.sl_law_meaning.specs.laws.Ladders.{Ladders, AreFalling, IsTop, hamilton_ladders}
use Rattle.sl_law_meaning.proofs.methods.RaisedSeats.{Contains-none}
use Rattle.sl_law_meaning.proofs.methods.ListedEntries.{below_next}
use Rattle.sl_law_meaning.proofs.methods.HamiltonProofs.{hamilton_ladders_law}
use Rattle.sl_law_meaning.proofs.methods.ManyBatches.{cases_peer}
use Rattle.sl_law_meaning.proofs.methods.TieLaw.{below_length}
use Rattle.sl_law_certificates.specs.Cuts.{Told, is_cut, names_all, won_on, all_on, is_clear, draws_winners, choice_on, shown_choice}
use Rattle.sl_law_certificates.specs.Laws.{IsCut, TopsHaveCuts, AnyCutServes, ClearIsOnly, HamiltonIsOnly, ChoicesAreShown}
use Rattle.sl_law_certificates.proofs.Tests.{if_cases, if_some, empty_is, first_of}
use Rattle.sl_law_certificates.proofs.Cuts.{cut_test, cut_top}
use Rattle.sl_law_certificates.proofs.Choices.{clear_alone, on_cut, choice_shown}

-- ---- each top has a cut

-- a bound of the first numbers
bound : (f : ℕ → ℕ) (n : ℕ) → (m : ℕ) × ((i : ℕ) → i < n → f i ≤ m)
bound f zero = (0, λ i less. absurd (omega arith))
bound f (suc n) =
    let rest = bound f n in
    let m = max rest.0 (f n) in
    (m, below_next (λ i. f i ≤ m) n (λ i less. let le = rest.1 i less in omega (arith, le)) (omega arith))

-- one over a number is at most each positive quotient with no greater denominator
least : (q : Quotient) (m : ℕ) → 0 < q.num → q.den ≤ m → 1 * q.den ≤ q.num * m
least q m pos le = grind arith

module _ (l : Ladders) (law : AreFalling l) (s : List ℕ) (top : IsTop l (sum s) s) where
  -- the rank of a best waiting claim, and where nobody waits one over the greatest denominator
  waiting_cut : (c : Quotient) × IsCut l (record { seats = s; cut = c })
  waiting_cut =
      elim (cases_peer l law s) [
        | inr p ↦ (
          l.rank p.0 (get_or s p.0 0),
          record {
            on = top.on;
            positive = law.positive p.0 (get_or s p.0 0) p.1.next;
            won = λ i less. top.min_max i p.0 less p.1.next;
            waits = λ j next. p.1.greatest j next;
          },
        )
        | inl none ↦
            (let m = bound (λ i. (l.rank i (get_or s i 0 - 1)).den) (length s) in (
              record { num = 1; den = m.0 },
              record {
                on = top.on;
                positive = omega arith;
                won = λ i less.
                    least (l.rank i (get_or s i 0 - 1)) m.0 (law.positive i (get_or s i 0 - 1) (top.on.there i less))
                    (m.1 i (below_length s i (get_or l.base i 0) less));
                waits = λ j next. absurd (none j next);
              },
            ))
      ]

  abbrev last : ℕ → Quotient
  last i = l.rank i (get_or s i 0 - 1)

  -- entry i won a seat; of the first n entries none did, or one of them has a last seat that ranks lowest
  abbrev Won : ℕ → Type 0
  Won i = get_or l.base i 0 < get_or s i 0

  lowest : (n : ℕ) → ((i : ℕ) → i < n → Won i → ⊥) ⊎ ((i : ℕ) × Won i × ((j : ℕ) → j < n → Won j → AtMost (last i) (last j)))
  lowest zero = inl (λ i less h. omega arith)
  lowest (suc n) =
      let Unwon : ℕ → Type 0 = λ j. Won j → ⊥ in
      let Over : ℕ → ℕ → Type 0 = λ i j. Won j → AtMost (last i) (last j) in
      elim (lowest n) [
        | inl empty ↦ elim (cases_lt (get_or l.base n 0) (get_or s n 0)) [
          | inr none ↦ inl (below_next Unwon n empty (λ h. omega arith))
          | inl here ↦ inr (n, here, below_next (Over n) n (λ j less h. absurd (empty j less h)) (λ h. omega arith))
        ]
        | inr some ↦ elim (cases_lt (get_or l.base n 0) (get_or s n 0)) [
          | inr none ↦ inr (some.0, some.1, below_next (Over some.0) n some.2 (λ h. absurd (omega arith)))
          | inl here ↦ elim (decide_AtMost (last some.0) (last n)) [
            | inl le ↦ inr (some.0, some.1, below_next (Over some.0) n some.2 (λ h. le))
            | inr more ↦
                (let positive = law.positive some.0 (get_or s some.0 0 - 1) (top.on.there some.0 some.1) in
                inr (
                  n,
                  here,
                  below_next (Over n) n
                      (λ j less h. AtMost-trans (last n) (last some.0) (last j) positive (not-AtMost (last some.0) (last n) more) (some.2 j less h))
                      (λ h. omega arith),
                ))
          ]
        ]
      ]

  -- a cut that is the rank of a last seat, where there is one
  pub last_cut : (c : Quotient) × IsCut l (record { seats = s; cut = c }) × (((i : ℕ) → Won i → ⊥) ⊎ ((i : ℕ) × Won i × SameQuotient c (last i)))
  last_cut =
      elim (lowest (length s)) [
        | inl none ↦
            (let any = waiting_cut in
            (any.0, any.1, inl (λ i h. none i (below_length s i (get_or l.base i 0) h) h)))
        | inr some ↦
            (let i = some.0 in (
              last i,
              record {
                on = top.on;
                positive = law.positive i (get_or s i 0 - 1) (top.on.there i some.1);
                won = λ j less. some.2 j (below_length s j (get_or l.base j 0) less) less;
                waits = λ j next. top.min_max i j some.1 next;
              },
              inr (i, some.1, refl),
            ))
      ]

pub tops_have_cuts : TopsHaveCuts
tops_have_cuts l law s = (
  λ top. let found = last_cut l law s top in (found.0, found.1),
  λ found. let t : Told = record { seats = s; cut = found.0 } in cut_top l law t (cut_test l t found.1),
)

pub clear_is_only : ClearIsOnly
clear_is_only l law t cut clear s = (
  λ top. clear_alone l law t (cut_test l t cut) clear s top,
  λ same. subst (λ y. IsTop l (sum t.seats) y) (sym same) (cut_top l law t (cut_test l t cut)),
)

pub hamilton_is_only : HamiltonIsOnly
hamilton_is_only prefer v seats t total cut clear s =
    let l = hamilton_ladders prefer v seats in
    let tops = hamilton_ladders_law prefer v seats in
    let only = clear_is_only l tops.falling t cut clear s in (
      λ h. only.0 (subst (λ n. IsTop l n s) (sym total) ((tops.tops s).0 h)),
      λ same. (tops.tops s).1 (subst (λ n. IsTop l n s) total (only.1 same)),
    )

-- ---- choices

pub choice_meant : (l : Ladders) → AreFalling l → (lot : List ℕ) → Distinct lot → (t : Told) (c : Choice) → shown_choice l t lot ≡ Some c →
    IsChoice (IsTop l (sum t.seats)) lot c
choice_meant l law lot distinct t c h =
    let parts = if_some (is_cut l t) (choice_on l t lot) c h in
    on_cut l law t parts.0 lot distinct c parts.1

-- the seats by which a choice is shown: those that are chosen, and at a tie any
seats_for : (l : Ladders) (seats : ℕ) (lot : List ℕ) (c : Choice) → IsChoice (IsTop l seats) lot c →
    (s : List ℕ) × IsTop l seats s × ((r : List ℕ) → c ≡ Decided r → s ≡ r)
seats_for l seats lot (Decided s) h = (s, h.4, λ r e. same_seats r e) where
  same_seats : (r : List ℕ) → Decided s ≡ Decided r → s ≡ r
  same_seats r e = cc
seats_for l seats lot (Tied k tied) h =
    elim (cases_Bool (nat_eq (length tied) 0)) [
      | inl none ↦ absurd (h.1 (λ i ci. absurd (Contains-none i (subst (λ xs. Contains xs i) (empty_is tied none) ci))))
      | inr some ↦
          (let i = first_of tied some in
          let raised = h.0.entries.has_only i.0 i.1 in
          (raised.0, raised.1, λ r e. not_decided raised.0 r e))
    ] where
      not_decided : (s r : List ℕ) → Tied k tied ≡ Decided r → s ≡ r
      not_decided s r e = cc

pub choice_found : (l : Ladders) (law : AreFalling l) (seats : ℕ) (lot : List ℕ) (c : Choice) → IsChoice (IsTop l seats) lot c →
    (s : List ℕ) × IsTop l seats s × ((q : Quotient) → IsCut l (record { seats = s; cut = q }) → shown_choice l (record { seats = s; cut = q }) lot ≡ Some c)
choice_found l law seats lot c h =
    let found = seats_for l seats lot c h in
    let s : List ℕ = found.0 in
    let top : IsTop l seats s = found.1 in (
      s,
      top,
      λ q cut.
          let t : Told = record { seats = s; cut = q } in
          choice_shown l law t (cut_test l t cut) lot c (subst (λ n. IsChoice (IsTop l n) lot c) (sym top.total) h) found.2,
    )

pub choices_are_shown : ChoicesAreShown
choices_are_shown l law seats lot distinct c = (
  λ h.
      let found = choice_found l law seats lot c h in
      let top : IsTop l seats found.0 = found.1 in
      let cut = last_cut l law found.0 (subst (λ n. IsTop l n found.0) (sym top.total) top) in
      (record { seats = found.0; cut = cut.0 }, top.total, found.2 cut.0 cut.1),
  λ h. subst (λ n. IsChoice (IsTop l n) lot c) h.1 (choice_meant l law lot distinct h.0 c h.2),
)

-- ---- whichever cut is told

same_options : {A : Type 0} (a b : Option A) → ((x : A) → a ≡ Some x → b ≡ Some x) → ((x : A) → b ≡ Some x → a ≡ Some x) → a ≡ b
same_options None None f g = refl
same_options None (Some y) f g = g y refl
same_options (Some x) b f g = sym (f x refl)

decided_seats : (l : Ladders) (t : Told) (lot r : List ℕ) → choice_on l t lot ≡ Some (Decided r) → t.seats ≡ r
decided_seats l t lot r h =
    elim (if_cases (is_clear l t) (Some (Decided t.seats)) _ (Some (Decided r)) h) [
      | inl clear ↦ same (same_Some (Decided t.seats) (Decided r) clear.1)
      | inr tie ↦ elim (if_cases (not (names_all lot (all_on l t))) (Some (Tied (length (won_on l t)) (all_on l t))) _ (Some (Decided r)) tie.1) [
        | inl left ↦ other (same_Some (Tied (length (won_on l t)) (all_on l t)) (Decided r) left.1)
        | inr named ↦ same (same_Some (Decided t.seats) (Decided r) (if_some (draws_winners l t lot) (Some (Decided t.seats)) (Decided r) named.1).1)
      ]
    ] where
      same : Decided t.seats ≡ Decided r → t.seats ≡ r
      same e = cc

      other : Tied (length (won_on l t)) (all_on l t) ≡ Decided r → t.seats ≡ r
      other e = cc

shown_again : (l : Ladders) → AreFalling l → (lot : List ℕ) → Distinct lot → (t u : Told) → t.seats ≡ u.seats → IsCut l u → (c : Choice) →
    shown_choice l t lot ≡ Some c → shown_choice l u lot ≡ Some c
shown_again l law lot distinct t u e cut c h =
    choice_shown l law u (cut_test l u cut) lot c
    (subst (λ s. IsChoice (IsTop l (sum s)) lot c) e (choice_meant l law lot distinct t c h))
    (λ r is. sym e ∙ decided_seats l t lot r ((if_some (is_cut l t) (choice_on l t lot) c h).1 ∙ ap (λ d. Some d) is))

pub any_cut_serves : AnyCutServes
any_cut_serves l law lot distinct t u e cut also =
    same_options (shown_choice l t lot) (shown_choice l u lot) (shown_again l law lot distinct t u e also) (shown_again l law lot distinct u t (sym e) cut)
