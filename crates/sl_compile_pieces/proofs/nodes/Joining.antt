-- The scopes of a split or a growth, one after another: none has too many seats, their seats make the column, or the first fault ends the run.
use Rattle.std.proofs.Common.{◌≡◌, ◌≢◌, ℕ, ◌+◌, ◌<◌, ◌≤◌, List, length, take, drop, suc, Option, Some, None, slice_get, slice_index, refl, ap, subst, ◌∙◌, arith, le_refl, take_all, [], ◌∷◌, ◌++◌, MatchOption, sym, append_assoc}
use Rattle.std.specs.List.{AllByRecursion as Every, AllZip}
use Rattle.std.specs.Prelude.{zip, flat_map}
use Rattle.std.proofs.lemmas.List.{flat_map_more, length_push}
use Rattle.std.proofs.lemmas.Option.{slice_get_within}
use Rattle.sl_base_quotients.specs.declared.limits.TheConstants.{MAX_SEATS}
use Rattle.sl_law_meaning.specs.declared.fault.FaultKind.TheVariants as fault
use Rattle.sl_law_meaning.specs.returns.Election.{Election}
use Rattle.sl_law_meaning.specs.meaning.Scopes.{Group, pair_column}
use Rattle.sl_law_meaning.specs.meaning.Results.{fault_at, first_over, ExprResult, Fault, AreJoined, IsShared}
use Rattle.sl_law_meaning.proofs.meaning.JoinedScopes.{none_over, over_after, IsSeats, joined_fault, joined_seats}
use Rattle.sl_base_terms.specs.declared.shape.Shape.{Shape}
use Rattle.sl_law_meaning.specs.declared.fault.LegalFault.{LegalFault}
use Rattle.sl_law_meaning.specs.declared.table.SeatStep.{SeatStep}
use Rattle.sl_law_meaning.specs.declared.table.Weight.{Weight}
use Rattle.sl_law_meaning.specs.meaning.Records.{Records, both_records}
use Rattle.sl_law_meaning.specs.meaning.Splits.{Award, Seats, Refused, awarded}
use Rattle.sl_law_meaning.proofs.meaning.DistinctLists.{every_append}
use Rattle.sl_law_meaning.proofs.meaning.AwardedEntries.{every_at}
use Rattle.sl_code_instructions.specs.declared.operand.EndFault.TheVariants as end
use Rattle.sl_code_instructions.specs.Codes.{CountingCode}
use Rattle.sl_code_semantics.specs.State.{State, End, Faulted, with_register, with_column}
use Rattle.sl_code_semantics.proofs.effects.Registers.{get_does, zero_does}
use Rattle.sl_code_semantics.proofs.effects.Storing.{column_same, column_other}
use Rattle.sl_compile_plans.specs.Achieves.{Achieves}
use Rattle.sl_compile_plans.proofs.Rules.{line_first, line_over, achieves_so, achieves_more, line_ends, line_goes, then_achieves}
use Rattle.sl_compile_plans.specs.Trees.{Tree}
use Rattle.sl_compile_pieces.specs.scopes.Forms.{Form, amounts_of, groups_of, scopes_plan, OnScope, votes_of}
use Rattle.sl_compile_pieces.specs.scopes.Scopes.{IsScope}
use Rattle.sl_compile_pieces.specs.inner.scopes.Walks.{bare}
use Rattle.sl_compile_pieces.proofs.scopes.Forms.{each_scope}
use Rattle.sl_compile_pieces.proofs.scopes.Scopes.{scopes_hold}
use Rattle.sl_compile_pieces.specs.columns.Columns.{HoldsColumn}
use Rattle.sl_compile_pieces.specs.declared.registers.TheConstants as reg
use Rattle.sl_compile_pieces.specs.seats.Slots.{Slots, HasSlots, IsUnchanged}
use Rattle.sl_compile_pieces.specs.seats.Trees.{most_seats}
use Rattle.sl_compile_pieces.proofs.seats.Refusing.{not_over_achieves}
use Rattle.sl_compile_pieces.specs.nodes.Trees.{within_limit, shared}
use Rattle.sl_compile_pieces.specs.nodes.Scopes.{stand, HoldsMinima, HoldsArguments, HasAward, EndsFaulty, DoesScopes, AddsRecords}
use Rattle.sl_compile_pieces.proofs.nodes.JoiningLists.{split_there, one_further, zip_none, zip_push, no_pairs, EachPair, pairs_push, all_paired, completed}
use Rattle.sl_compile_pieces.proofs.columns.Cells.{still_holds}
use Rattle.sl_compile_pieces.specs.nodes.Nodes.{HasResult, EndsWith, ScopesAreJoined}
use Rattle.sl_compile_pieces.proofs.nodes.Columns.{HoldsAwards, no_awards, one_award_more, awards_make}
use Rattle.sl_compile_pieces.proofs.nodes.Added.{adds_none, adds_more}

-- ---- no scope has more seats to distribute than the limit

module _ (c : CountingCode) (e : Election) (f : Form) (x : Slots) (name amounts : List ℕ) (start : State) (slots : HasSlots c f x name)
    (holds : HoldsColumn e (amounts_of f) (start.columns x.amounts) amounts) where
  -- the first scope with too many seats
  abbrev FirstOver : Option Group → Type 0
  FirstOver o = first_over e (stand f x name) amounts (groups_of e f) ≡ o

  abbrev IsFew : Group → Type 0
  IsFew g = slice_index amounts g.amount_place ≤ MAX_SEATS

  -- no scope before number j has, and nothing but registers was written
  record Tested (j : ℕ) (t : State) : Type 0 where
    still : IsUnchanged start t
    few : Every IsFew (take j (groups_of e f))

  over_here : (j : ℕ) (g : Group) → slice_get (groups_of e f) j ≡ Some g → Every IsFew (take j (groups_of e f)) → MAX_SEATS < slice_index amounts g.amount_place → FirstOver (Some g)
  over_here j g at few over =
      ap (first_over e (stand f x name) amounts) (split_there (groups_of e f) j g at)
      ∙ over_after e (stand f x name) amounts (take j (groups_of e f)) (drop (suc j) (groups_of e f)) g few over

  module _ (E : End → Type 0) (ends : (g : Group) → FirstOver (Some g) → E (Faulted (fault_at x.stage g.scope fault.Limit))) where
    scope_tested : (j : ℕ) (g : Group) (s : State) → slice_get (groups_of e f) j ≡ Some g → OnScope g.scope s → Tested j (bare s) →
        Achieves c e (within_limit f x) s (λ t. OnScope g.scope t × Tested (j + 1) (bare t)) E
    scope_tested j g s at on inv =
        let is : IsScope e f g = scopes_hold e f j g at in
        let n : ℕ = s.columns x.amounts g.amount_place in
        let other : reg.AMOUNT ≢ reg.FIRST_PASSING = λ h. omega (arith, h) in
        line_first (get_does c e s x.amounts (amounts_of f) slots.amounts reg.AMOUNT g.amount_place (is.amount s on))
        (line_over (not_over_achieves slots is (with_register reg.AMOUNT n s) reg.AMOUNT most_seats end.Limit other on
        (λ more. ends g (over_here j g at inv.few (omega (arith, more))))
        (λ few. (on, record { still = inv.still; few = one_further IsFew (groups_of e f) j g at inv.few (omega (arith, few)) }))))

    pub limit_tested : Achieves c e (scopes_plan f (within_limit f x)) start (λ t. IsUnchanged start t × (FirstOver None × Every IsFew (groups_of e f))) E
    limit_tested =
        let all : take (length (groups_of e f)) (groups_of e f) ≡ groups_of e f = take_all (length (groups_of e f)) (groups_of e f) (le_refl (length (groups_of e f))) in
        achieves_so
        (each_scope c e f (within_limit f x) Tested E start (record { visit = scope_tested })
        (record { still = record { columns = λ slot q. refl; steps = refl; weights = refl; placed = λ w. refl }; few = tt }))
        (λ t h. let few : Every IsFew (groups_of e f) = subst (Every IsFew) all h.few in (h.still, (none_over e (stand f x name) amounts (groups_of e f) few, few)))

-- ---- arguments stay where their slots do

minima_again : (e : Election) (over : Shape) (slot : Option ℕ) (minima : Option (List ℕ)) (s t : State) → ((k : ℕ) → slot ≡ Some k → (q : ℕ) → t.columns k q ≡ s.columns k q) →
    HoldsMinima e over slot s minima → HoldsMinima e over slot t minima
minima_again e over None None s t same h = h
minima_again e over (Some k) (Some m) s t same h = still_holds e over (s.columns k) (t.columns k) m (same k refl) h
minima_again e over _ _ s t same h = h

arguments_again : (c : CountingCode) (e : Election) (f : Form) (x : Slots) (name amounts votes : List ℕ) (minima : Option (List ℕ)) (s t : State) → HasSlots c f x name →
    ((slot q : ℕ) → slot ≢ x.result → t.columns slot q ≡ s.columns slot q) → HoldsArguments e f x amounts votes minima s → HoldsArguments e f x amounts votes minima t
arguments_again c e f x name amounts votes minima s t slots same h = assumption (
  still_holds e (amounts_of f) (s.columns x.amounts) (t.columns x.amounts) amounts (λ q. same x.amounts q slots.not_amounts) h.amounts_are,
  still_holds e (votes_of f) (s.columns x.votes) (t.columns x.votes) votes (λ q. same x.votes q slots.not_votes) h.votes_are,
  minima_again e (votes_of f) x.minima minima s t (λ k is q. same k q (slots.not_minima k is)) h.minima_are,
)

-- ---- the scopes one after another

module _ (c : CountingCode) (e : Election) (f : Form) (x : Slots) (name amounts votes : List ℕ) (minima : Option (List ℕ)) (IsAward : Group → Award → Type 0)
    (records : Group → List ℕ → Records) (tree : Tree) (start : State) (slots : HasSlots c f x name) (choose : (g : Group) → (a : Award) × IsAward g a)
    (does : DoesScopes c e f x amounts votes minima IsAward records tree) (holds : HoldsArguments e f x amounts votes minima start) where
  abbrev Result : ExprResult → Type 0
  Result = IsShared e (stand f x name) amounts IsAward records (groups_of e f)

  abbrev records_of : List Award → Records
  records_of awards = record {
    steps = flat_map (λ z. (records z.0 (awarded z.1)).steps) (zip (groups_of e f) awards);
    weights = flat_map (λ z. (records z.0 (awarded z.1)).weights) (zip (groups_of e f) awards);
  }

  -- a number for each entry
  abbrev Fits : Group → Award → Type 0
  Fits g a = length (awarded a) ≡ length g.entries

  -- so many scopes have their seats, and their records are added
  record Done (j : ℕ) (t : State) : Type 0 where
    awards : List Award
    many : length awards ≡ j
    seats : Every IsSeats awards
    each : EachPair IsAward (groups_of e f) awards
    long : EachPair Fits (groups_of e f) awards
    cells : HoldsAwards e f awards (t.columns x.result)
    columns : (slot q : ℕ) → slot ≢ x.result → t.columns slot q ≡ start.columns slot q
    adds : AddsRecords (records_of awards) start t

  -- the result, where it is known whether a scope is over the limit
  result_is : (r : ExprResult) (o : Option Group) → first_over e (stand f x name) amounts (groups_of e f) ≡ o →
      MatchOption o (AreJoined e (stand f x name) amounts IsAward records (groups_of e f) r) (λ g. r ≡ Fault (fault_at x.stage g.scope fault.Limit)) → Result r
  result_is r o is h =
      subst (λ p. MatchOption p (AreJoined e (stand f x name) amounts IsAward records (groups_of e f) r) (λ g. r ≡ Fault (fault_at x.stage g.scope fault.Limit))) (sym is) h

  -- a fault after scopes that have their seats
  first_fault : (j : ℕ) (g : Group) (t : State) (y : End) → first_over e (stand f x name) amounts (groups_of e f) ≡ None → slice_get (groups_of e f) j ≡ Some g → Done j t →
      EndsFaulty x IsAward g y → EndsWith Result y
  first_fault j g t y none at inv h =
      let here : slice_get (groups_of e f) (length inv.awards) ≡ Some g = ap (slice_get (groups_of e f)) inv.many ∙ at in
      let few : length (inv.awards ++ Refused h.kind ∷ []) ≤ length (groups_of e f) =
      omega (arith, length_push inv.awards (Refused h.kind), slice_get_within (groups_of e f) (length inv.awards) g here) in
      let all = completed IsAward choose (groups_of e f) (inv.awards ++ Refused h.kind ∷ []) few (pairs_push IsAward (groups_of e f) inv.awards g (Refused h.kind) here inv.each h.refused) in
      record {
        fault = fault_at x.stage g.scope h.kind;
        result = result_is (Fault (fault_at x.stage g.scope h.kind)) None none (record {
          awards = inv.awards ++ Refused h.kind ∷ all.0;
          each = subst (AllZip IsAward (groups_of e f)) (append_assoc inv.awards (Refused h.kind ∷ []) all.0) all.1;
          is = sym (joined_fault e (stand f x name) amounts records (groups_of e f) inv.awards all.0 h.kind g inv.seats here);
        });
        is = h.is;
      }

  -- the next scope has its seats
  one_more : (j : ℕ) (g : Group) (s t : State) → slice_get (groups_of e f) j ≡ Some g → Done j (bare s) → HasAward e x IsAward records g s t → Done (j + 1) (bare t)
  one_more j g s t at inv h =
      let here : slice_get (groups_of e f) (length inv.awards) ≡ Some g = ap (slice_get (groups_of e f)) inv.many ∙ at in
      let a : Award = Seats h.seats in
      let pushed : zip (groups_of e f) (inv.awards ++ a ∷ []) ≡ zip (groups_of e f) inv.awards ++ (g, a) ∷ [] = zip_push (groups_of e f) inv.awards g a here in
      let Steps : Group × Award → List SeatStep = λ z. (records z.0 (awarded z.1)).steps in
      let Weights : Group × Award → List Weight = λ z. (records z.0 (awarded z.1)).weights in
      let more : both_records (records_of inv.awards) (records g h.seats) ≡ records_of (inv.awards ++ a ∷ []) = λ z. record {
        steps = (flat_map_more Steps [] (zip (groups_of e f) inv.awards) (g, a) ∙ ap (flat_map Steps) (sym pushed)) z;
        weights = (flat_map_more Weights [] (zip (groups_of e f) inv.awards) (g, a) ∙ ap (flat_map Weights) (sym pushed)) z;
      } in
      record {
        awards = inv.awards ++ a ∷ [];
        many = length_push inv.awards a ∙ ap (λ n. n + 1) inv.many;
        seats = every_append IsSeats inv.awards (a ∷ []) inv.seats (tt, tt);
        each = pairs_push IsAward (groups_of e f) inv.awards g a here inv.each h.award;
        long = pairs_push Fits (groups_of e f) inv.awards g a here inv.long h.cells.one_each;
        cells = one_award_more e f inv.awards g h.seats (s.columns x.result) (t.columns x.result) here inv.cells h.cells h.elsewhere;
        columns = λ slot q other. h.columns slot q other ∙ inv.columns slot q other;
        adds = subst (λ r. AddsRecords r start (bare t)) more (adds_more (records_of inv.awards) (records g h.seats) start (bare s) (bare t) inv.adds h.adds);
      }

  one_scope : first_over e (stand f x name) amounts (groups_of e f) ≡ None → Every (λ g. slice_index amounts g.amount_place ≤ MAX_SEATS) (groups_of e f) →
      (j : ℕ) (g : Group) (s : State) → slice_get (groups_of e f) j ≡ Some g → OnScope g.scope s → Done j (bare s) →
      Achieves c e tree s (λ t. OnScope g.scope t × Done (j + 1) (bare t)) (EndsWith Result)
  one_scope none few j g s at on inv =
      achieves_more
      (does.does j g s at on (arguments_again c e f x name amounts votes minima start s slots inv.columns holds)
      (every_at (λ g. slice_index amounts g.amount_place ≤ MAX_SEATS) (groups_of e f) j g few at))
      (λ t h. (h.on, one_more j g s t at inv h)) (λ y h. first_fault j g (bare s) y none at inv h)

  -- all scopes have their seats
  all_done : (t : State) → first_over e (stand f x name) amounts (groups_of e f) ≡ None → Done (length (groups_of e f)) (bare t) → HasResult e f x Result start t
  all_done t none h = record {
    values = pair_column e (votes_of f) (flat_map (λ z. zip z.0.entries (awarded z.1)) (zip (groups_of e f) h.awards));
    records = records_of h.awards;
    result = result_is _ None none (search (
      all_paired IsAward (groups_of e f) h.awards h.many h.each,
      sym (joined_seats e (stand f x name) amounts records (groups_of e f) h.awards h.seats),
    ));
    column = awards_make e f h.awards (t.columns x.result) h.cells h.many (all_paired Fits (groups_of e f) h.awards h.many h.long);
    columns = h.columns;
    adds = h.adds;
  }

  -- before the first scope
  none_done : (s : State) → IsUnchanged start s → Done 0 (bare (with_column x.result (λ q. 0) s))
  none_done s h =
      record {
        awards = [];
        many = refl;
        seats = tt;
        each = no_pairs IsAward (groups_of e f);
        long = no_pairs Fits (groups_of e f);
        cells = subst (HoldsAwards e f []) (sym (column_same s x.result (λ q. 0))) (no_awards e f);
        columns = λ slot q other. ap (λ (g : ℕ → ℕ). g q) (column_other s x.result (λ q. 0) slot other) ∙ h.columns slot q;
        adds = subst (λ zs. AddsRecords (record { steps = flat_map (λ z. (records z.0 (awarded z.1)).steps) zs; weights = flat_map (λ z. (records z.0 (awarded z.1)).weights) zs }) start s)
            (sym (zip_none (groups_of e f))) (adds_none start s h.steps h.weights h.placed);
      }

  over_limit : (g : Group) → first_over e (stand f x name) amounts (groups_of e f) ≡ Some g → EndsWith Result (Faulted (fault_at x.stage g.scope fault.Limit))
  over_limit g over =
      let faulty : LegalFault = fault_at x.stage g.scope fault.Limit in
      record { fault = faulty; result = result_is (Fault faulty) (Some g) over refl; is = refl }

  all_joined : Achieves c e (shared f x tree) start (HasResult e f x Result start) (EndsWith Result)
  all_joined =
      then_achieves (limit_tested c e f x name amounts start slots holds.amounts_are (EndsWith Result) over_limit)
      (λ t h.
      then_achieves {Q = λ u. Done 0 (bare u)} (line_goes (zero_does c e t x.result (votes_of f) slots.result) (line_ends (none_done t h.0)))
      (λ u first.
      achieves_so (each_scope c e f tree Done (EndsWith Result) u (record { visit = one_scope h.1.0 h.1.1 }) first) (λ v last. all_done v h.1.0 last)))

pub scopes_are_joined : ScopesAreJoined
scopes_are_joined c e f x name amounts votes minima IsAward records tree state slots choose does holds =
    all_joined c e f x name amounts votes minima IsAward records tree state slots choose does holds
