-- The plan of a covering: list by list a choice of winners is made, up to the first tie.
use Rattle.std.proofs.Common.{ne_eqb, ◌≡◌, ◌≢◌, ◌⊎◌, ℕ, zero, suc, ◌+◌, ◌-◌, ◌*◌, ◌<◌, ◌≤◌, Bool, true, false, List, [], ◌∷◌, ◌++◌, Some, slice_get, is_none, nat_eq, refl, sym, ap, subst, append_assoc, ◌∙◌, inl, inr, arith}
use Rattle.std.specs.Prelude.{if◌then◌else◌}
use Rattle.std.proofs.Math.Bool.{or_comm}
use Rattle.std.proofs.lemmas.Bool.{cases_Bool}
use Rattle.std.proofs.lemmas.List.{append-nil}
use Rattle.std.proofs.lemmas.List.Folds.{list_any-append}
use Rattle.std.proofs.lemmas.Nat.{div-add-mod', div_below, mod_below}
use Rattle.sl_base_terms.specs.declared.shape.Shape.TheVariants as shape
use Rattle.sl_law_meaning.specs.declared.election.Win.{Win}
use Rattle.sl_law_meaning.specs.declared.table.Placed.{Placed}
use Rattle.sl_law_meaning.specs.declared.table.Placed.TheVariants as placed
use Rattle.sl_law_meaning.specs.returns.Election.{Election, IsElection, lands_of, parties_of, has_list}
use Rattle.sl_law_meaning.specs.returns.Facts.{lists_of}
use Rattle.sl_law_meaning.specs.methods.Ties.{Decided}
use Rattle.sl_law_meaning.specs.meaning.Seating.{IsSeating, seated_on, cover_place}
use Rattle.sl_law_meaning.proofs.meaning.Members.{among}
use Rattle.sl_code_instructions.specs.Codes.{CountingCode}
use Rattle.sl_code_semantics.specs.State.{State, End, with_register}
use Rattle.sl_code_semantics.specs.Effects.{one_if}
use Rattle.sl_compile_plans.specs.Trees.{ones}
use Rattle.sl_compile_plans.specs.Achieves.{Achieves}
use Rattle.sl_compile_plans.proofs.Rules.{achieves_more, then_achieves, line_first, line_over, achieves_never, achieves_so}
use Rattle.sl_compile_plans.proofs.KeepingRules.{achieves_kept, times_keeping}
use Rattle.sl_compile_pieces.specs.declared.registers.TheConstants as reg
use Rattle.sl_compile_pieces.specs.covers.Trees.{CoverSlots, cover_pair, cover_contested, cover_tree}
use Rattle.sl_compile_pieces.specs.covers.Covering.{HasCoverSlots, BeginsCovering, AreCovered, EndsInTie, CoveringsAchieve}
use Rattle.sl_compile_pieces.proofs.covers.Pairs.{pair_at, lists_among, all_lists, no_lists, listed_more, unlisted_more, lists_behind}
use Rattle.sl_compile_pieces.proofs.covers.Singles.{singles_placed}
use Rattle.sl_compile_pieces.proofs.covers.Contested.{is_contested, contested_before, before_none, before_contested, before_other, before_up_to, before_few, nobody_contested}
use Rattle.sl_compile_pieces.proofs.covers.Numbers.{winners_counted, contested_numbered}
use Rattle.sl_compile_pieces.proofs.covers.Uncontested.{uncontested_choice}
use Rattle.sl_compile_pieces.proofs.covers.Fitting.{fitting_from, fitting_more, fitting_none, uncontested_seated}
use Rattle.sl_compile_pieces.proofs.covers.Entering.{AreRead}
use Rattle.sl_compile_pieces.proofs.covers.Chosen.{chosen}
use Rattle.sl_compile_pieces.proofs.covers.Ties.{EndsInListTie}
use Rattle.sl_compile_pieces.proofs.covers.Pair.{pair_covered}
use Rattle.sl_compile_pieces.proofs.covers.Decided.{AreDecided, decided_first, decided_more, first_tie, nobody_without}

-- the same numbers in another order
rotated : (ks ms ns : List ℕ) (n : ℕ) → among ((ks ++ ms) ++ ns) n ≡ among (ms ++ (ns ++ ks)) n
rotated ks ms ns n =
    ap (λ ls. among ls n) (append_assoc ks ms ns) ∙ list_any-append (nat_eq n) ks (ms ++ ns) ∙ or_comm (among ks n) (among (ms ++ ns) n)
    ∙ sym (list_any-append (nat_eq n) (ms ++ ns) ks) ∙ ap (λ ls. among ls n) (append_assoc ms ns ks)

module _ (c : CountingCode) (e : Election) (x : CoverSlots) (eligible : ℕ → Bool) (base : List ℕ) (is : IsElection e) (slots : HasCoverSlots c x) (before : State) where
  abbrev pairs : ℕ
  pairs = lands_of e * parties_of e

  abbrev contested : ℕ → Bool
  contested = is_contested e eligible base

  -- so many of the first pairs are contested
  abbrev count : ℕ → ℕ
  count = contested_before e eligible base

  abbrev fitting : ℕ → List ℕ
  fitting = fitting_from eligible e base

  -- the lists among the first k pairs are covered; on the others the winners sit who are seated at once
  record AreCoveredUpTo (k : ℕ) (t : State) : Type 0 where
    seated : List ℕ
    decided : AreDecided c eligible e base (lists_among e k) seated
    placed : (n : ℕ) (w : Win) → slice_get e.wins n ≡ Some w → t.placed n ≡ cover_place (fitting k ++ seated) (n, w)
    amount : t.registers reg.AMOUNT ≡ count k
    read : AreRead e x eligible base t.columns
    columns : (slot q : ℕ) → slot ≢ x.numbers → t.columns slot q ≡ before.columns slot q
    steps : t.steps ≡ before.steps
    weights : t.weights ≡ before.weights

  -- with so many contested ones still to come
  record Inv (w : ℕ) (t : State) : Type 0 where
    done : ℕ
    within : done ≤ pairs
    all : count done + w ≡ count pairs
    covered : AreCoveredUpTo done t

  module _ (k : ℕ) (low : k < pairs) (t : State) (h : AreCoveredUpTo k t) where
    abbrev l : ℕ × ℕ
    l = pair_at e k

    some_party : 0 < parties_of e
    some_party = of (parties_of e) refl
      where
        of : (n : ℕ) → parties_of e ≡ n → 0 < parties_of e
        of zero none = let nothing : lands_of e * parties_of e ≡ 0 = (λ z. lands_of e * none z) ∙ omega arith in absurd (omega (arith, nothing, low))
        of (suc n) some = omega (arith, some)

    place_is : l.0 * parties_of e + l.1 ≡ k
    place_is = div-add-mod' k (parties_of e)

    in_land : l.0 < lands_of e
    in_land = div_below k (parties_of e) (lands_of e) some_party low

    in_party : l.1 < parties_of e
    in_party = mod_below k (parties_of e) some_party

    -- the lists among one pair more
    decided_next : (s : List ℕ) → IsSeating eligible e base l (Decided s) → AreDecided c eligible e base (lists_among e (k + 1)) (h.seated ++ seated_on eligible e (l, Decided s))
    decided_next s choice =
        let now : List ℕ = h.seated ++ seated_on eligible e (l, Decided s) in
        elim (cases_Bool (has_list e l.0 l.1)) [
          | inl there ↦
              let more = decided_more c eligible e base (lists_among e k) h.seated l s h.decided choice in
              subst (λ ls. AreDecided c eligible e base ls now) (sym (listed_more e k l refl there)) more
          | inr bare ↦
              let nobody : now ≡ h.seated = (λ z. h.seated ++ chosen (nobody_without c eligible e base l bare z) s) ∙ append-nil h.seated in
              let still : AreDecided c eligible e base (lists_among e k) now = subst (AreDecided c eligible e base (lists_among e k)) (sym nobody) h.decided in
              subst (λ ls. AreDecided c eligible e base ls now) (sym (unlisted_more e k l refl bare)) still
        ]

    tie_next : (end : End) → EndsInListTie c eligible e base l end → EndsInTie c e eligible base end
    tie_next end tied =
        let rest = lists_behind e (k + 1) (pairs - (k + 1)) in
        let whole : k + 1 + (pairs - (k + 1)) ≡ pairs = omega (arith, low) in
        let all : lists_of e ≡ (lists_among e k ++ l ∷ []) ++ rest.0 =
        all_lists e ∙ ap (lists_among e) (sym whole) ∙ rest.1 ∙ ap (λ ls. ls ++ rest.0) (listed_more e k l refl tied.there) in
        first_tie c eligible e base (lists_among e k) h.seated l rest.0 end is h.decided tied all

    -- a pair that is not contested is passed over
    passed_over : contested k ≡ false → AreCoveredUpTo (k + 1) t
    passed_over not =
        let choice = uncontested_choice eligible e is base k not in
        let own : List ℕ = seated_on eligible e (l, Decided choice.0) in
        let first : fitting k ≡ own ++ fitting (k + 1) = fitting_more eligible e base k low ∙ ap (λ ks. ks ++ fitting (k + 1)) (sym choice.2) in
        record {
          seated = h.seated ++ own;
          decided = decided_next choice.0 choice.1;
          placed = λ n w at.
              let lone : Placed = if is_none w.party then placed.Single else placed.Unseated in
              h.placed n w at
              ∙ ap (λ (b : Bool). if b then placed.OnList else lone) (ap (λ ks. among (ks ++ h.seated) n) first ∙ rotated own (fitting (k + 1)) h.seated n);
          amount = h.amount ∙ sym (before_other e eligible base k not);
          read = h.read;
          columns = h.columns;
          steps = h.steps;
          weights = h.weights;
        }

    covers_next : contested k ≡ true → (u : State) → u.columns ≡ t.columns → u.placed ≡ t.placed → u.registers reg.AMOUNT ≡ t.registers reg.AMOUNT → u.steps ≡ t.steps → u.weights ≡ t.weights →
        Achieves c e (cover_pair x) u (AreCoveredUpTo (k + 1)) (EndsInTie c e eligible base)
    covers_next some u columns placed amount steps weights =
        let nobody : fitting k ≡ fitting (k + 1) = fitting_more eligible e base k low ∙ ap (λ ks. ks ++ fitting (k + 1)) (nobody_contested e eligible base k some) in
        achieves_more
        (achieves_kept (pair_covered c e x eligible base l is slots in_land in_party (fitting k ++ h.seated) u (subst (AreRead e x eligible base) (sym columns) h.read)
        (ap contested place_is ∙ some) (amount ∙ h.amount ∙ ap count (sym place_is)) (λ n w at. ap (λ f. f n) placed ∙ h.placed n w at)))
        (λ v g.
        let kept : (slot q : ℕ) → v.columns slot q ≡ t.columns slot q = (λ slot q. g.1.columns slot refl q ∙ ap (λ (f : ℕ → ℕ → ℕ). f slot q) columns) in
        let own : List ℕ = seated_on eligible e (l, Decided g.0.0.s) in
        let same : (fitting k ++ h.seated) ++ own ≡ fitting (k + 1) ++ (h.seated ++ own) = ap (λ ks. (ks ++ h.seated) ++ own) nobody ∙ append_assoc (fitting (k + 1)) h.seated own in
        record {
          seated = h.seated ++ own;
          decided = decided_next g.0.0.s g.0.0.choice;
          placed = λ n w at. g.0.0.placed n w at ∙ (λ z. cover_place (same z) (n, w));
          amount = g.0.1 ∙ ap (λ q. count q + 1) place_is ∙ sym (before_contested e eligible base k some);
          read = record {
            numbers = λ q less. kept x.numbers q ∙ h.read.numbers q less;
            seats = λ q less. kept x.base q ∙ h.read.seats q less;
            flags = λ party less. kept x.eligible party ∙ h.read.flags party less;
          };
          columns = λ slot q other. kept slot q ∙ h.columns slot q other;
          steps = g.1.steps_kept refl ∙ steps ∙ h.steps;
          weights = g.1.weights_kept refl ∙ weights ∙ h.weights;
        })
        (λ end tied. tie_next end tied)

  -- the state is after all pairs, or at the next contested one
  Reached : ℕ → State → Type 0
  Reached k t = (AreCoveredUpTo pairs t × (count pairs ≡ count k)) ⊎ ((m : ℕ) × (m < pairs) × (contested m ≡ true) × (count m ≡ count k) × AreCoveredUpTo m t)

  on_to_next : (more k : ℕ) → k + more ≡ pairs → (t : State) → AreCoveredUpTo k t → Reached k t
  unfolding Reached
  on_to_next zero k all t h = let last : k ≡ pairs = omega (arith, all) in inl (subst (λ (m : ℕ). AreCoveredUpTo m t) last h, ap count (sym last))
  on_to_next (suc more) k all t h =
      let low : k < pairs = omega (arith, all) in
      elim (cases_Bool (contested k)) [
        | inl here ↦ inr (k, low, here, refl, h)
        | inr not ↦
            (let next = before_other e eligible base k not in
            elim (on_to_next more (k + 1) (omega (arith, all)) t (passed_over k low t h not)) [
              | inl last ↦ inl (last.0, last.1 ∙ next)
              | inr found ↦ inr (found.0, found.1, found.2, found.3 ∙ next, found.4)
            ])
      ]

  reached : (w : ℕ) (t : State) (h : Inv w t) → Reached h.done t
  reached w t h = let within = h.within in on_to_next (pairs - h.done) h.done (omega (arith, within)) t h.covered

  covers_one : (w : ℕ) (t : State) → Inv (suc w) t → Achieves c e (cover_pair x) (with_register reg.NEEDED w (with_register ones 1 t)) (Inv w) (EndsInTie c e eligible base)
  unfolding Reached
  covers_one w t h =
      let all = h.all in
      elim (reached (suc w) t h) [
        | inl last ↦ absurd (let none = last.1 in omega (arith, none, all))
        | inr found ↦
            achieves_so (covers_next found.0 found.1 t found.4 found.2 (with_register reg.NEEDED w (with_register ones 1 t)) refl refl refl refl refl)
            (λ v g.
            let next = before_contested e eligible base found.0 found.2 in
            record { done = found.0 + 1; within = omega arith; all = omega (arith, all, next); covered = g })
      ]

  covers_last : (t : State) → Inv 0 t → AreCovered c e x eligible base before t
  unfolding Reached
  covers_last t h =
      elim (reached 0 t h) [
        | inl last ↦ whole last.0
        | inr found ↦
            absurd (let low = found.1 in
            let next = before_contested e eligible base found.0 found.2 in
            omega (arith, next, before_up_to e eligible base (found.0 + 1) pairs (omega (arith, low))))
      ]
    where
      whole : AreCoveredUpTo pairs t → AreCovered c e x eligible base before t
      whole last =
          let lists : lists_among e pairs ≡ lists_of e = sym (all_lists e) in
          let decided : AreDecided c eligible e base (lists_of e) last.seated = subst (λ ls. AreDecided c eligible e base ls last.seated) lists last.decided in
          let seated : fitting pairs ++ last.seated ≡ last.seated = ap (λ ks. ks ++ last.seated) (fitting_none eligible e base) in
          record {
            choices = decided.choices;
            chosen = record { each = decided.chosen };
            no_tie = decided.no_tie;
            placed = λ n w at. last.placed n w at ∙ (λ z. cover_place ((seated ∙ sym decided.seated_are) z) (n, w));
            columns = last.columns;
            steps = last.steps;
            weights = last.weights;
          }

  covers_all : (t : State) → t.registers reg.NEEDED ≡ count pairs → AreCoveredUpTo 0 (with_register reg.AMOUNT 0 t) →
      Achieves c e (cover_contested x) t (AreCovered c e x eligible base before) (EndsInTie c e eligible base)
  covers_all t needed first =
      line_first refl
      (line_over (times_keeping Inv refl refl (let few = before_few e eligible base pairs in omega (arith, needed, few))
      (let none = before_none e eligible base in
      record { done = 0; within = omega arith; all = omega (arith, needed, none); covered = first })
      (λ w u some h. covers_one w u h) (λ u none h. covers_last u h)))

  -- the party slot is not that of the numbers
  flags_apart : x.eligible ≢ x.numbers
  flags_apart same = let both : Some shape.Party ≡ Some shape.List = sym slots.eligible ∙ ap (slice_get c.slots) same ∙ slots.numbers in cc both

  covered : BeginsCovering e x eligible base before → Achieves c e (cover_tree x) before (AreCovered c e x eligible base before) (EndsInTie c e eligible base)
  covered begins =
      then_achieves (achieves_never (achieves_kept (singles_placed c e before begins.nobody)))
      (λ t singles.
      let flags : (party : ℕ) → party < parties_of e → t.columns x.eligible party ≡ one_if (eligible party) = (λ party less. singles.1.columns x.eligible refl party ∙ begins.flags party less) in
      then_achieves (achieves_never (achieves_kept (winners_counted c e x eligible is slots flags_apart t flags)))
      (λ u counts.
      let counted : (slot q : ℕ) → slot ≢ x.numbers → u.columns slot q ≡ before.columns slot q =
      (λ slot q other. counts.1.columns slot (rw (ne_eqb slot x.numbers other) refl) q ∙ singles.1.columns slot refl q) in
      then_achieves
      (achieves_never (achieves_kept (contested_numbered c e x eligible base is slots u counts.0 (λ q less. counted x.base q slots.apart ∙ begins.seats q less))))
      (λ v numbers.
      let kept : (slot q : ℕ) → slot ≢ x.numbers → v.columns slot q ≡ before.columns slot q =
      (λ slot q other. numbers.1.columns slot (rw (ne_eqb slot x.numbers other) refl) q ∙ counted slot q other) in
      let read : AreRead e x eligible base v.columns = record {
        numbers = numbers.0.numbers;
        seats = λ q less. kept x.base q slots.apart ∙ begins.seats q less;
        flags = λ party less. kept x.eligible party flags_apart ∙ begins.flags party less;
      } in
      then_achieves
      (achieves_never
      (achieves_kept (uncontested_seated c e x eligible base is slots v read (λ n w at. numbers.1.placed refl n ∙ counts.1.placed refl n ∙ singles.0 n w at))))
      (λ s fits.
      let stay : (slot q : ℕ) → s.columns slot q ≡ v.columns slot q = (λ slot q. fits.1.columns slot refl q) in
      covers_all s (fits.1.registers reg.NEEDED refl ∙ numbers.0.count)
      (record {
        seated = [];
        decided = decided_first c eligible e base (lists_among e 0) (no_lists e);
        placed = λ n w at. fits.0 n w at ∙ (λ z. cover_place (sym (append-nil (fitting 0)) z) (n, w));
        amount = sym (before_none e eligible base);
        read = record {
          numbers = λ q less. stay x.numbers q ∙ read.numbers q less;
          seats = λ q less. stay x.base q ∙ read.seats q less;
          flags = λ party less. stay x.eligible party ∙ read.flags party less;
        };
        columns = λ slot q other. stay slot q ∙ kept slot q other;
        steps = fits.1.steps_kept refl ∙ numbers.1.steps_kept refl ∙ counts.1.steps_kept refl ∙ singles.1.steps_kept refl;
        weights = fits.1.weights_kept refl ∙ numbers.1.weights_kept refl ∙ counts.1.weights_kept refl ∙ singles.1.weights_kept refl;
      })))))

pub coverings_achieve : CoveringsAchieve
coverings_achieve c e x eligible base state is slots begins = covered c e x eligible base is slots state begins
