-- The plan of a growth in one scope: an empty field, no house up to the cap, or the seats of the house that the search finds.
use Rattle.std.proofs.Common.{◌≡◌, ℕ, ◌<◌, ◌≤◌, List, [], length, Some, refl, sym, ◌∙◌, arith}
use Rattle.std.specs.Prelude.{sum, slice_get, slice_index}
use Rattle.sl_base_quotients.specs.declared.limits.TheConstants.{MAX_SEATS}
use Rattle.sl_base_quotients.specs.declared.method.Divisor.{Divisor}
use Rattle.sl_base_quotients.specs.declared.method.Method.TheVariants as by
use Rattle.sl_law_meaning.specs.declared.book.Majority.{Majority}
use Rattle.sl_law_meaning.specs.declared.fault.FaultKind.TheVariants as fault
use Rattle.sl_law_meaning.specs.returns.Election.{Election, IsElection}
use Rattle.sl_law_meaning.specs.methods.Field.{InField}
use Rattle.sl_law_meaning.specs.methods.LeastHouse.{GrownTo, EmptyField, AboveCap, IsGrowth, outside_minima}
use Rattle.sl_law_meaning.specs.meaning.Scopes.{Group, cells}
use Rattle.sl_law_meaning.specs.meaning.Lots.{stage_lot}
use Rattle.sl_law_meaning.specs.meaning.Records.{Records}
use Rattle.sl_law_meaning.specs.meaning.Splits.{Award, Refused, IsChosen, IsGrowthAward}
use Rattle.sl_law_meaning.specs.meaning.Expressions.{IsGrowthIn, growth_records}
use Rattle.sl_law_meaning.specs.laws.Ladders.{IsTop}
use Rattle.sl_law_meaning.proofs.methods.DivisorProofs.{divisor_ladders_law, empty_fields}
use Rattle.sl_law_meaning.proofs.methods.HouseProofs.{growth_batches}
use Rattle.sl_law_meaning.proofs.methods.SeatSums.{some_less}
use Rattle.sl_code_instructions.specs.declared.operand.EndFault.TheVariants as end
use Rattle.sl_code_instructions.specs.Codes.{CountingCode}
use Rattle.sl_code_semantics.specs.State.{State, End, with_register}
use Rattle.sl_compile_plans.specs.declared.plan.Test.TheVariants as test
use Rattle.sl_compile_plans.specs.declared.plan.Bound.TheVariants as bound
use Rattle.sl_compile_plans.specs.Trees.{Tree, Then, If}
use Rattle.sl_compile_plans.specs.Achieves.{Achieves}
use Rattle.sl_compile_plans.proofs.Rules.{achieves_more, achieves_from, line_ends, then_achieves, if_zero, achieves_so}
use Rattle.sl_compile_pieces.specs.scopes.Forms.{Form, votes_of, table_of, groups_of, OnScope}
use Rattle.sl_compile_pieces.proofs.scopes.Scopes.{scopes_hold}
use Rattle.sl_compile_pieces.proofs.arenas.MethodArenas.{divisor_arenas}
use Rattle.sl_compile_pieces.specs.declared.registers.TheConstants as reg
use Rattle.sl_compile_pieces.specs.awards.Trees.{awards}
use Rattle.sl_compile_pieces.specs.seats.Slots.{Slots, HasSlots, IsUnchanged}
use Rattle.sl_compile_pieces.specs.seats.Trees.{nothing, faulty, not_over, most_seats, fill, outside_base, enter_quotient, ranking_of, again_of, seat, tied, refuse}
use Rattle.sl_compile_pieces.specs.inner.seats.Filling.{IsReady, grown_arena}
use Rattle.sl_compile_pieces.proofs.seats.Filling.{growths_are_filled}
use Rattle.sl_compile_pieces.proofs.seats.Seating.{growths_award_seats}
use Rattle.sl_compile_pieces.proofs.seats.Refusing.{faulty_ends, not_over_achieves}
use Rattle.sl_compile_pieces.proofs.seats.Minima.{cells_kept, minima_kept}
use Rattle.sl_compile_pieces.proofs.seats.SeatingArenas.{scope_weighed}
use Rattle.sl_compile_pieces.specs.nodes.Trees.{find_house, grow_scope}
use Rattle.sl_compile_pieces.specs.inner.nodes.Houses.{HasHouse, EndsAboveCap}
use Rattle.sl_compile_pieces.proofs.nodes.Houses.{houses_are_found}
use Rattle.sl_compile_pieces.specs.nodes.Scopes.{HoldsArguments, HasAward, EndsFaulty, stand, DoesScopes}
use Rattle.sl_compile_pieces.proofs.nodes.Arguments.{minima_long, minima_slot}
use Rattle.sl_compile_pieces.proofs.nodes.OneScope.{award_from, IsBegun, arguments_begin, scope_begins, IsScopeArena, scope_awards, scope_awarded}

-- ---- what a growth comes to

module _ (e : Election) (f : Form) (g : Group) (d : Divisor) (majority : Majority) (lot v m : List ℕ) (seats cap : ℕ) where
  empty_refused : sum v ≡ 0 → IsGrowthAward d majority g.entries lot v m seats cap (Refused fault.NoList)
  empty_refused none = record { growth = EmptyField; least = (empty_fields v).1 none; comes = refl }

  cap_refused : IsGrowth d v m seats cap AboveCap → IsGrowthAward d majority g.entries lot v m seats cap (Refused fault.Cap)
  cap_refused above = record { growth = AboveCap; least = above; comes = refl }

  module _ (long : length m ≡ length v) where
    -- the minima of a house sum to no more than the house
    minima_above : (i : ℕ) → InField v i → cap < sum m → IsGrowth d v m seats cap AboveCap
    minima_above i field over = (
      λ empty. empty i field,
      λ h serves.
          omega (arith, over, (growth_batches d v m long).minima_fit seats cap h serves i field),
    )

    -- what is chosen among the tops of the arena is chosen among the house's allocations
    house_chosen : (house : ℕ) → IsGrowth d v m seats cap (GrownTo house) → (b : Award)
        → IsChosen (IsTop (grown_arena e f g d v m).ladders house) lot g.entries majority v house b → IsGrowthAward d majority g.entries lot v m seats cap b
    house_chosen house grown b h =
        let one_each : length (outside_minima v m) ≡ length v = (growth_batches d v m long).one_each in
        record {
          growth = GrownTo house;
          least = grown;
          comes = record { choice = h.choice; chosen = ((divisor_ladders_law d v (outside_minima v m) one_each).choice house lot h.choice).0 h.chosen; is = h.is };
        }

house_arena : (c : CountingCode) (e : Election) (f : Form) (x : Slots) (name : List ℕ) (k : ℕ) (g : Group) (d : Divisor) (v m : List ℕ) (house : ℕ) (state : State)
    → IsReady c e f x name k g v m house state → length m ≡ length v → sum (outside_minima v m) ≤ house → (i : ℕ) → InField v i → IsScopeArena e f g house (grown_arena e f g d v m)
house_arena c e f x name k g d v m house state ready long enough i field =
    let weighed = scope_weighed e f g (state.columns x.votes) v (scopes_hold e f k g ready.group) ready.votes ready.weights in
    assumption (
      (divisor_arenas d v (table_of f) _ weighed).grown m long,
      (divisor_ladders_law d v (outside_minima v m) (growth_batches d v m long).one_each).room house i field,
    )

-- ---- the plan

module _ (c : CountingCode) (e : Election) (f : Form) (x : Slots) (name : List ℕ) (k : ℕ) (g : Group) (v m : List ℕ) (seats : ℕ) where
  -- the scope with the house in the place of its amount
  ready_house : (d : Divisor) (cap : ℕ) (t u : State) → cap ≤ MAX_SEATS → IsReady c e f x name k g v m seats t → (h : HasHouse e x g d v m seats cap t u)
      → IsReady c e f x name k g v m h.house u
  ready_house d cap t u cap_few ready h =
      search (
        arith,
        cells_kept e g.entries (t.columns x.votes) (u.columns x.votes) v (λ q. h.kept.columns x.votes q ready.slots.not_votes) ready.votes,
        minima_kept e g.entries v m t u x.minima (λ slot is q. h.kept.columns slot q (ready.slots.not_minima slot is)) ready.minima,
      )

module _ (c : CountingCode) (e : Election) (f : Form) (x : Slots) (name : List ℕ) (amounts votes minima : List ℕ) (d : Divisor) (majority : Majority) (cap : ℕ)
    (election : IsElection e) (slots : HasSlots c f x name) (cap_few : cap ≤ MAX_SEATS) where
  abbrev IsAward : Group → Award → Type 0
  IsAward = IsGrowthIn e (stand f x name) amounts votes d majority minima cap

  abbrev records : Group → List ℕ → Records
  records = growth_records e (stand f x name) amounts votes d minima

  module _ (k : ℕ) (g : Group) (s : State) (at : slice_get (groups_of e f) k ≡ Some g) (on : OnScope g.scope s) (arguments : HoldsArguments e f x amounts votes (Some minima) s)
      (few : slice_index amounts g.amount_place ≤ MAX_SEATS) where
    abbrev v : List ℕ
    v = cells e g.entries votes

    abbrev m : List ℕ
    m = cells e g.entries minima

    abbrev seats : ℕ
    seats = slice_index amounts g.amount_place

    long : length m ≡ length v
    long = minima_long e g votes (Some minima)

    abbrev award_rest : Tree
    award_rest = Then (fill f x (ranking_of (by.Divisor d)) (outside_base x.minima) (enter_quotient f x d))
        (Then (awards x.stage (bound.AtMost most_seats) (tied f x) (seat f x (again_of x (by.Divisor d)))) (refuse f x majority))

    abbrev house_rest : Tree
    house_rest = Then (find_house f x d cap) award_rest

    abbrev Q : State → Type 0
    Q = HasAward e x IsAward records g s

    abbrev E : End → Type 0
    E = EndsFaulty x IsAward g

    above_ends : (y : End) → EndsAboveCap x g d v m seats cap y → E y
    above_ends y h = record { kind = fault.Cap; refused = cap_refused e f g d majority (stage_lot e name (votes_of f) g.entries) v m seats cap h.above; is = h.is }

    -- in the house that was found
    house_awards : (t u : State) → IsReady c e f x name k g v m seats t → 0 < sum v → HasHouse e x g d v m seats cap t u → Achieves c e award_rest u (HasAward e x IsAward records g u) E
    house_awards t u ready some h =
        let field : (i : ℕ) × InField v i = some_less [] v some in
        let meant : List ℕ = stage_lot e name (votes_of f) g.entries in
        let now : IsReady c e f x name k g v m h.house u = ready_house c e f x name k g v m seats d cap t u cap_few ready h in
        let enough : sum (outside_minima v m) ≤ h.house = h.grown.1.outside in
        let is : IsScopeArena e f g h.house (grown_arena e f g d v m) = house_arena c e f x name k g d v m h.house u now long enough field.0 field.1 in
        let slot = minima_slot e (votes_of f) s x.minima minima arguments.minima_are in
        scope_awarded c e f x name k g v m h.house (grown_arena e f g d v m) [] meant majority (by.Divisor d) IsAward records u
        (assumption (house_chosen e f g d majority meant v m seats cap long h.house h.grown))
        now (scope_awards c e f x name k g v m h.house (grown_arena e f g d v m) u now is election)
        (growths_award_seats c e f x name k g d v m h.house [] meant u now)
        (fill f x (ranking_of (by.Divisor d)) (outside_base x.minima) (enter_quotient f x d))
        (growths_are_filled c e f x name slot.0 k g d v m h.house u election now slot.1 enough)

    -- where an entry has weight, and the minima sum to no more than the cap
    house_achieves : (t : State) → IsUnchanged s t → IsReady c e f x name k g v m seats t → 0 < sum v → sum m ≤ cap → Achieves c e house_rest t Q E
    house_achieves t same ready some within =
        let slot = minima_slot e (votes_of f) s x.minima minima arguments.minima_are in
        then_achieves {Q = HasHouse e x g d v m seats cap t}
        (achieves_more (houses_are_found c e f x name slot.0 k g d v m seats cap t election ready slot.1 some within cap_few) (λ u h. h) above_ends)
        (λ u h. achieves_so (house_awards t u ready some h)
        (λ w. award_from e x IsAward records g s u w
        (record {
          elsewhere = λ q out. h.kept.elsewhere q out ∙ same.columns x.result q;
          columns = λ slot q other. h.kept.columns slot q other ∙ same.columns slot q;
          steps = h.kept.steps ∙ same.steps;
          weights = h.kept.weights ∙ same.weights;
          placed = λ winner. h.kept.placed winner ∙ same.placed winner;
        })))

    -- the minima may sum to more than the cap
    cap_achieves : (t : State) → IsBegun c e f x name k g v m seats s t → 0 < sum v → Achieves c e (Then (not_over f x reg.NEEDED cap end.Cap) house_rest) t Q E
    cap_achieves t begun some =
        let u : State = with_register reg.FIRST_PASSING cap t in
        let field : (i : ℕ) × InField v i = some_less [] v some in
        then_achieves {Q = λ w. (w ≡ u) × (sum m ≤ cap)}
        (not_over_achieves slots (scopes_hold e f k g at) t reg.NEEDED cap end.Cap (λ z. omega (arith, z)) begun.ready.on
        (λ less. record {
          kind = fault.Cap;
          refused = cap_refused e f g d majority (stage_lot e name (votes_of f) g.entries) v m seats cap
              (minima_above e f g d majority (stage_lot e name (votes_of f) g.entries) v m seats cap long field.0 field.1 (omega (arith, less, cap_few)));
          is = refl;
        })
        (λ other. (refl, omega (arith, other, cap_few))))
        (λ w h. achieves_from h.0 (house_achieves u begun.unchanged begun.ready some h.1))

    growth_achieves : Achieves c e (grow_scope f x d majority cap) s Q E
    growth_achieves =
        let can = arguments_begin c e f x name k g amounts votes (Some minima) s election slots at on arguments few in
        scope_begins c e f x name k g v m seats s can (Then (If (test.Zero reg.TOTAL) (faulty f x end.NoList) nothing) (Then (not_over f x reg.NEEDED cap end.Cap) house_rest)) Q E
        (λ t begun. then_achieves {Q = λ u. (u ≡ t) × (0 < sum v)}
        (if_zero
        (λ none. faulty_ends slots (scopes_hold e f k g at) t end.NoList begun.ready.on
        (search (empty_refused e f g d majority (stage_lot e name (votes_of f) g.entries) v m seats cap (sym begun.ready.total ∙ none))))
        (λ w some. let total : t.registers reg.TOTAL ≡ sum v = begun.ready.total in line_ends (refl, omega (arith, some, total))))
        (λ u h. achieves_from h.0 (cap_achieves t begun h.1)))

pub growth_scopes_achieve : (c : CountingCode) (e : Election) (f : Form) (x : Slots) (name : List ℕ) (amounts votes minima : List ℕ) (d : Divisor) (majority : Majority) (cap : ℕ) →
    IsElection e → HasSlots c f x name → cap ≤ MAX_SEATS →
    DoesScopes c e f x amounts votes (Some minima) (IsGrowthIn e (stand f x name) amounts votes d majority minima cap)
    (growth_records e (stand f x name) amounts votes d minima) (grow_scope f x d majority cap)
growth_scopes_achieve c e f x name amounts votes minima d majority cap election slots few = record {
  does = growth_achieves c e f x name amounts votes minima d majority cap election slots few;
}
