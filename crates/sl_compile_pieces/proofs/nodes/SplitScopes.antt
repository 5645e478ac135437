-- The plan of a split in one scope: what refuses the seats, or the seats that its method gives.
use Rattle.std.proofs.Common.{◌≡◌, ℕ, ◌≤◌, ◌&&◌, List, [], length, Option, Some, None, refl, sym, ap, subst, arith}
use Rattle.std.specs.Prelude.{MatchOption, slice_get, slice_index, is_none, if◌then◌else◌}
use Rattle.sl_base_quotients.specs.declared.limits.TheConstants.{MAX_SEATS}
use Rattle.sl_base_quotients.specs.declared.method.Method.{Method}
use Rattle.sl_base_quotients.specs.declared.method.Method.TheVariants as by
use Rattle.sl_law_meaning.specs.declared.book.Majority.{Majority}
use Rattle.sl_law_meaning.specs.declared.fault.FaultKind.{FaultKind}
use Rattle.sl_law_meaning.specs.returns.Election.{Election, IsElection}
use Rattle.sl_law_meaning.specs.book.Typing.{is_prefer}
use Rattle.sl_law_meaning.specs.methods.Ties.{Choice, IsChoice}
use Rattle.sl_law_meaning.specs.meaning.Scopes.{Group, cells}
use Rattle.sl_law_meaning.specs.meaning.Lots.{stage_lot}
use Rattle.sl_law_meaning.specs.meaning.Records.{Records, field_weights, tells_weights}
use Rattle.sl_law_meaning.specs.meaning.Splits.{Award, Refused, refusal, IsAllocation, IsChosen, IsSplitAward}
use Rattle.sl_law_meaning.specs.meaning.Expressions.{IsSplitIn, split_records, minima_at}
use Rattle.sl_law_meaning.specs.laws.Ladders.{IsTop}
use Rattle.sl_law_meaning.specs.laws.OneLaws.{FitsMethod}
use Rattle.sl_law_meaning.proofs.methods.DivisorProofs.{divisor_ladders_law}
use Rattle.sl_law_meaning.proofs.methods.HamiltonProofs.{hamilton_ladders_law}
use Rattle.sl_law_meaning.proofs.meaning.OneAward.{TakesMinima, HasNone, none_refused}
use Rattle.sl_code_instructions.specs.Codes.{CountingCode}
use Rattle.sl_code_semantics.specs.State.{State, End}
use Rattle.sl_compile_plans.specs.Trees.{Tree, Then}
use Rattle.sl_compile_plans.specs.Achieves.{Achieves}
use Rattle.sl_compile_plans.specs.declared.plan.Bound.TheVariants as bound
use Rattle.sl_compile_plans.proofs.Rules.{achieves_more, achieves_from, then_achieves, achieves_so}
use Rattle.sl_compile_pieces.specs.scopes.Forms.{Form, votes_of, table_of, groups_of, OnScope}
use Rattle.sl_compile_pieces.proofs.scopes.Scopes.{scopes_hold}
use Rattle.sl_compile_pieces.proofs.arenas.MethodArenas.{divisor_arenas, hamilton_arenas}
use Rattle.sl_compile_pieces.specs.awards.Trees.{awards}
use Rattle.sl_compile_pieces.specs.seats.Slots.{Slots, HasSlots}
use Rattle.sl_compile_pieces.specs.seats.Trees.{most_seats, fill, base_of, enter_of, ranking_of, again_of, seat, tied, refuse, refuses_seats}
use Rattle.sl_compile_pieces.specs.inner.seats.Seated.{steps_upto}
use Rattle.sl_compile_pieces.specs.inner.seats.Summing.{GoesOn, EndsRefused}
use Rattle.sl_compile_pieces.specs.inner.seats.Filling.{IsReady, split_arena, split_weights}
use Rattle.sl_compile_pieces.proofs.seats.Filling.{splits_are_filled}
use Rattle.sl_compile_pieces.proofs.seats.Seating.{splits_award_seats}
use Rattle.sl_compile_pieces.proofs.seats.Refusing.{seats_are_refused}
use Rattle.sl_compile_pieces.proofs.seats.SeatingArenas.{scope_weighed}
use Rattle.sl_compile_pieces.specs.nodes.Trees.{split_scope}
use Rattle.sl_compile_pieces.specs.nodes.Scopes.{HoldsArguments, HasAward, EndsFaulty, stand, DoesScopes}
use Rattle.sl_compile_pieces.proofs.nodes.Arguments.{minima_long, minima_taken, same_minima}
use Rattle.sl_compile_pieces.proofs.nodes.OneScope.{award_from, others_kept, arguments_begin, scope_begins, IsScopeArena, room_of, scope_awards, scope_awarded}

-- ---- the arena of the method

module _ (c : CountingCode) (e : Election) (f : Form) (x : Slots) (name : List ℕ) (k : ℕ) (g : Group) (majority : Majority) (v m : List ℕ) (seats : ℕ) (state : State)
    (ready : IsReady c e f x name k g v m seats state) (long : length m ≡ length v) (leaves : HasNone v m seats) where
  split_in_arena : (method : Method) → TakesMinima method m → IsScopeArena e f g seats (split_arena e f g method majority v m seats)
  split_in_arena (by.Divisor d) takes =
      let weighed = scope_weighed e f g (state.columns x.votes) v (scopes_hold e f k g ready.group) ready.votes ready.weights in
      let tops = divisor_ladders_law d v m long in
      assumption (
        (divisor_arenas d v (table_of f) _ weighed).with_minima m long,
        room_of _ v seats (tops.room seats) (λ empty. let all = leaves.empty empty in omega (arith, all)),
      )
  split_in_arena by.Hamilton takes =
      let weighed = scope_weighed e f g (state.columns x.votes) v (scopes_hold e f k g ready.group) ready.votes ready.weights in
      let tops = hamilton_ladders_law (is_prefer majority) v seats in
      assumption (
        hamilton_arenas (is_prefer majority) v seats (table_of f) _ weighed ready.few MAX_SEATS,
        room_of _ v seats tops.room (λ empty. let all = leaves.empty empty in omega (arith, all)),
      )

-- what is chosen among the tops of the arena is chosen among the method's allocations
split_choice : (e : Election) (f : Form) (g : Group) (method : Method) (majority : Majority) (v m : List ℕ) (seats : ℕ) → length m ≡ length v → (lot : List ℕ) (choice : Choice)
    → IsChoice (IsTop (split_arena e f g method majority v m seats).ladders seats) lot choice → IsChoice (IsAllocation method majority v m seats) lot choice
split_choice e f g (by.Divisor d) majority v m seats long lot choice = ((divisor_ladders_law d v m long).choice seats lot choice).0
split_choice e f g by.Hamilton majority v m seats long lot choice = ((hamilton_ladders_law (is_prefer majority) v seats).choice lot choice).0

module _ (e : Election) (f : Form) (g : Group) (method : Method) (majority : Majority) (v m : List ℕ) (seats : ℕ) (lot : List ℕ) where
  split_chosen : length m ≡ length v → refusal v m seats ≡ None → (b : Award)
      → IsChosen (IsTop (split_arena e f g method majority v m seats).ladders seats) lot g.entries majority v seats b → IsSplitAward method majority g.entries lot v m seats b
  split_chosen long none b h =
      subst (λ o. MatchOption o (IsChosen (IsAllocation method majority v m seats) lot g.entries majority v seats b) (λ kind. b ≡ Refused kind)) (sym none)
      (record { choice = h.choice; chosen = split_choice e f g method majority v m seats long lot h.choice h.chosen; is = h.is })

  split_refused : (kind : FaultKind) → refusal v m seats ≡ Some kind → IsSplitAward method majority g.entries lot v m seats (Refused kind)
  split_refused kind some =
      subst (λ o. MatchOption o (IsChosen (IsAllocation method majority v m seats) lot g.entries majority v seats (Refused kind)) (λ why. Refused kind ≡ Refused why)) (sym some) refl

-- the records of the arena are the scope's
module _ (e : Election) (f : Form) (x : Slots) (name : List ℕ) (amounts votes : List ℕ) (minima : Option (List ℕ)) (majority : Majority) (g : Group) where
  split_steps : (method : Method) (s : List ℕ) → (split_records e (stand f x name) amounts votes method majority minima g s).steps
      ≡ steps_upto x.stage g (split_arena e f g method majority (cells e g.entries votes) (minima_at e g votes minima) (slice_index amounts g.amount_place)).ladders
      (split_arena e f g method majority (cells e g.entries votes) (minima_at e g votes minima) (slice_index amounts g.amount_place)).won s s
  split_steps (by.Divisor d) s = refl
  split_steps by.Hamilton s = refl

  split_told : is_none x.minima ≡ is_none minima → (method : Method) (s : List ℕ)
      → (split_records e (stand f x name) amounts votes method majority minima g s).weights ≡ split_weights x g method (cells e g.entries votes)
  split_told same (by.Divisor d) s = ap (λ b. if b && tells_weights d then field_weights x.stage g.scope g.entries d (cells e g.entries votes) else []) (sym same)
  split_told same by.Hamilton s = refl

-- ---- the plan

module _ (c : CountingCode) (e : Election) (f : Form) (x : Slots) (name : List ℕ) (amounts votes : List ℕ) (minima : Option (List ℕ)) (method : Method) (majority : Majority)
    (election : IsElection e) (slots : HasSlots c f x name) (fits : FitsMethod method minima) where
  abbrev IsAward : Group → Award → Type 0
  IsAward = IsSplitIn e (stand f x name) amounts votes method majority minima

  abbrev records : Group → List ℕ → Records
  records = split_records e (stand f x name) amounts votes method majority minima

  module _ (k : ℕ) (g : Group) (s : State) (at : slice_get (groups_of e f) k ≡ Some g) (on : OnScope g.scope s) (arguments : HoldsArguments e f x amounts votes minima s)
      (few : slice_index amounts g.amount_place ≤ MAX_SEATS) where
    abbrev v : List ℕ
    v = cells e g.entries votes

    abbrev m : List ℕ
    m = minima_at e g votes minima

    abbrev seats : ℕ
    seats = slice_index amounts g.amount_place

    abbrev rest : Tree
    rest = Then (fill f x (ranking_of method) (base_of method x) (enter_of f x method majority))
        (Then (awards x.stage (bound.AtMost most_seats) (tied f x) (seat f x (again_of x method))) (refuse f x majority))

    -- when nothing refuses the seats
    rest_awards : (t : State) → IsReady c e f x name k g v m seats t → refusal v m seats ≡ None → Achieves c e rest t (HasAward e x IsAward records g t) (EndsFaulty x IsAward g)
    rest_awards t ready none =
        let long : length m ≡ length v = minima_long e g votes minima in
        let meant : List ℕ = stage_lot e name (votes_of f) g.entries in
        let is = split_in_arena c e f x name k g majority v m seats t ready long (none_refused v m seats none) method (minima_taken e g votes method minima fits) in
        scope_awarded c e f x name k g v m seats (split_arena e f g method majority v m seats) (split_weights x g method v) meant majority method IsAward records t
        (record {
          award = split_chosen e f g method majority v m seats meant long none;
          steps = split_steps e f x name amounts votes minima majority g method;
          weights = split_told e f x name amounts votes minima majority g (same_minima e (votes_of f) s x.minima minima arguments.minima_are) method;
        })
        ready (scope_awards c e f x name k g v m seats (split_arena e f g method majority v m seats) t ready is election)
        (splits_award_seats c e f x name k g method majority v m seats (split_weights x g method v) meant t ready)
        (fill f x (ranking_of method) (base_of method x) (enter_of f x method majority)) (splits_are_filled c e f x name k g method majority v m seats t election ready is.enough)

    refused_ends : (y : End) → EndsRefused x g v m seats y → EndsFaulty x IsAward g y
    refused_ends y h = search (split_refused e f g method majority v m seats (stage_lot e name (votes_of f) g.entries) h.kind h.refused)

    scope_achieves : Achieves c e (split_scope f x method majority) s (HasAward e x IsAward records g s) (EndsFaulty x IsAward g)
    scope_achieves =
        let can = arguments_begin c e f x name k g amounts votes minima s election slots at on arguments few in
        scope_begins c e f x name k g v m seats s can (Then (refuses_seats f x) rest) (HasAward e x IsAward records g s) (EndsFaulty x IsAward g)
        (λ t begun. then_achieves {Q = GoesOn g v m seats t}
        (achieves_more (seats_are_refused c e f x name k g v m seats t at slots begun.ready.on few begun.ready.amount begun.ready.total begun.needed) (λ u h. h) refused_ends)
        (λ u h. achieves_from (sym h.same)
        (achieves_so (rest_awards t begun.ready h.no_refusal)
        (λ w. award_from e x IsAward records g s t w (others_kept e x g s t begun.unchanged)))))

pub split_scopes_achieve : (c : CountingCode) (e : Election) (f : Form) (x : Slots) (name : List ℕ) (amounts votes : List ℕ) (minima : Option (List ℕ)) (method : Method)
    (majority : Majority) → IsElection e → HasSlots c f x name → FitsMethod method minima →
    DoesScopes c e f x amounts votes minima (IsSplitIn e (stand f x name) amounts votes method majority minima)
    (split_records e (stand f x name) amounts votes method majority minima) (split_scope f x method majority)
split_scopes_achieve c e f x name amounts votes minima method majority election slots fits = record {
  does = scope_achieves c e f x name amounts votes minima method majority election slots fits;
}
