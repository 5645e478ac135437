-- A scope of a split or a growth: its amount and its sums; then the seats that the lot chooses, a tie, or what the majority clause refuses.
use Rattle.std.proofs.Common.{◌≡◌, ℕ, ◌≤◌, List, [], ◌∷◌, ◌++◌, All, min, Option, Some, refl, ap, ◌∙◌, arith, map, sym, subst, inl, inr}
use Rattle.std.specs.Prelude.{sum, slice_get, slice_index, ◌-◌, IsPermutation}
use Rattle.std.proofs.lemmas.Bool.{cond-true, cond-false}
use Rattle.std.proofs.lemmas.List.Elements.{All-from_get_or}
use Rattle.std.proofs.lemmas.Option.{slice_get-get_or, slice_get_within, get_or_from_slice_get}
use Rattle.sl_base_quotients.specs.declared.limits.TheConstants.{MAX_WEIGHT, MAX_SEATS}
use Rattle.sl_base_quotients.specs.declared.method.Method.{Method}
use Rattle.sl_law_meaning.specs.returns.Election.{Election, IsElection}
use Rattle.sl_law_meaning.specs.meaning.Scopes.{Group, cells, place}
use Rattle.sl_law_meaning.specs.meaning.Expressions.{minima_at}
use Rattle.sl_law_meaning.specs.meaning.Records.{Records}
use Rattle.sl_law_meaning.specs.meaning.Splits.{Award, Seats, Refused, IsChosen, is_refused, entries_at}
use Rattle.sl_law_meaning.specs.declared.book.Majority.{Majority}
use Rattle.sl_law_meaning.specs.declared.fault.Item.{Item}
use Rattle.sl_law_meaning.specs.declared.fault.Item.TheVariants as item
use Rattle.sl_law_meaning.specs.declared.fault.FaultKind.TheVariants as fault
use Rattle.sl_law_meaning.specs.declared.table.Weight.{Weight}
use Rattle.sl_law_meaning.specs.methods.Field.{InField, IsEmptyField}
use Rattle.sl_law_meaning.specs.methods.Ties.{Decided, Tied, IsChoice}
use Rattle.sl_law_meaning.specs.meaning.Lots.{stage_lot}
use Rattle.sl_law_meaning.specs.laws.Ladders.{Ladders, IsTop, HasRoom}
use Rattle.sl_law_meaning.proofs.methods.DivisorProofs.{cases_field}
use Rattle.sl_law_meaning.proofs.methods.SeatSums.{sum_mono}
use Rattle.sl_code_instructions.specs.declared.instr.Instr.TheVariants as op
use Rattle.sl_code_instructions.specs.Codes.{CountingCode}
use Rattle.sl_code_instructions.specs.declared.operand.Entries.{Entries}
use Rattle.sl_code_semantics.specs.State.{State, End, with_register}
use Rattle.sl_code_semantics.specs.Effects.{most}
use Rattle.sl_code_semantics.proofs.effects.Registers.{get_does}
use Rattle.sl_code_semantics.specs.Places.{item_of}
use Rattle.sl_code_semantics.specs.Drawn.{lot_of}
use Rattle.sl_code_semantics.specs.SameLots.{SameLot, lot_meant}
use Rattle.sl_code_semantics.proofs.drawing.LotProofs.{same_lots}
use Rattle.sl_compile_plans.specs.Trees.{Tree, Line, Then}
use Rattle.sl_compile_plans.specs.Achieves.{Achieves, Never}
use Rattle.sl_compile_plans.proofs.Rules.{then_achieves, line_first, line_over, achieves_never, achieves_more}
use Rattle.sl_compile_plans.specs.declared.plan.Bound.TheVariants as bound
use Rattle.sl_compile_pieces.specs.scopes.Forms.{Form, amounts_of, groups_of, OnScope, AllParties, votes_of, table_of}
use Rattle.sl_compile_pieces.proofs.scopes.Scopes.{scopes_hold}
use Rattle.sl_compile_pieces.specs.declared.registers.TheConstants as reg
use Rattle.sl_compile_pieces.specs.seats.Slots.{Slots, HasSlots, HasCells, HasMinima, IsUnchanged}
use Rattle.sl_compile_pieces.specs.seats.Trees.{sums, most_seats, again_of, seat, tied, refuse}
use Rattle.sl_compile_pieces.specs.inner.seats.Summing.{AreSummed, StandsBy, EndsDeprived}
use Rattle.sl_compile_pieces.specs.inner.seats.Filling.{IsReady, IsFilled}
use Rattle.sl_compile_pieces.proofs.seats.Fitting.{weights_fit}
use Rattle.sl_compile_pieces.proofs.seats.Minima.{cells_kept, minima_kept}
use Rattle.sl_compile_pieces.proofs.seats.Summing.{sums_achieve}
use Rattle.sl_compile_pieces.specs.nodes.Scopes.{HoldsArguments, HasAward, EndsFaulty}
use Rattle.sl_compile_pieces.proofs.nodes.Arguments.{column_cells, minima_cells}
use Rattle.sl_compile_pieces.specs.inner.nodes.Houses.{KeepsOthers}
use Rattle.sl_compile_pieces.specs.scopes.Scopes.{IsScope}
use Rattle.sl_compile_pieces.specs.arenas.Arenas.{Arena, IsArena}
use Rattle.sl_compile_pieces.specs.awards.Trees.{awards}
use Rattle.sl_compile_pieces.specs.inner.awards.Awards.{CanAward, AreAwarded}
use Rattle.sl_compile_pieces.proofs.awards.Awards.{awards_achieve}
use Rattle.sl_compile_pieces.specs.inner.seats.Seated.{IsSeated, steps_upto}
use Rattle.sl_compile_pieces.specs.inner.seats.Seating.{EndsInTie, AwardsSeats}
use Rattle.sl_compile_pieces.proofs.seats.Majority.{majority_is_kept}

-- ---- what stays

pub award_from : (e : Election) (x : Slots) (IsAward : Group → Award → Type 0) (records : Group → List ℕ → Records) (g : Group) (s t u : State) → KeepsOthers e x g s t
    → HasAward e x IsAward records g t u → HasAward e x IsAward records g s u
award_from e x IsAward records g s t u same h = record {
  seats = h.seats;
  award = h.award;
  on = h.on;
  cells = h.cells;
  elsewhere = λ q out. h.elsewhere q out ∙ same.elsewhere q out;
  columns = λ slot q other. h.columns slot q other ∙ same.columns slot q other;
  adds = record {
    added = h.adds.added;
    steps = h.adds.steps ∙ ap (λ xs. xs ++ h.adds.added) same.steps;
    are = h.adds.are;
    weights = h.adds.weights ∙ ap (λ xs. xs ++ (records g h.seats).weights) same.weights;
    placed = λ winner. h.adds.placed winner ∙ same.placed winner;
  };
}

-- a state in which nothing else changed
pub others_kept : (e : Election) (x : Slots) (g : Group) (s t : State) → IsUnchanged s t → KeepsOthers e x g s t
others_kept e x g s t same = record {
  elsewhere = λ q out. same.columns x.result q;
  columns = λ slot q other. same.columns slot q;
  steps = same.steps;
  weights = same.weights;
  placed = same.placed;
}

-- ---- the amount and the sums

-- the scope is ready to be filled, if nothing refuses its seats
pub record IsBegun (c : CountingCode) (e : Election) (f : Form) (x : Slots) (name : List ℕ) (k : ℕ) (g : Group) (v m : List ℕ) (seats : ℕ) (before after : State) :
    Type 0 where
  pub ready : IsReady c e f x name k g v m seats after
  pub needed : after.registers reg.NEEDED ≡ min (sum m) most
  pub unchanged : IsUnchanged before after

-- what a scope needs for it
pub record CanBegin (c : CountingCode) (e : Election) (f : Form) (x : Slots) (name : List ℕ) (k : ℕ) (g : Group) (v m : List ℕ) (seats : ℕ) (s : State) : Type 0 where
  pub election : IsElection e
  pub group : slice_get (groups_of e f) k ≡ Some g
  pub slots : HasSlots c f x name
  pub on : OnScope g.scope s
  pub amount : s.columns x.amounts g.amount_place ≡ seats
  pub few : seats ≤ MAX_SEATS
  pub weights : All (λ weight. weight ≤ MAX_WEIGHT) v
  pub votes : HasCells e g.entries (s.columns x.votes) v
  pub minima : HasMinima e g.entries v x.minima s m

-- the columns of the arguments are enough for it
pub arguments_begin : (c : CountingCode) (e : Election) (f : Form) (x : Slots) (name : List ℕ) (k : ℕ) (g : Group) (amounts votes : List ℕ) (minima : Option (List ℕ)) (s : State)
    → IsElection e → HasSlots c f x name → slice_get (groups_of e f) k ≡ Some g → OnScope g.scope s → HoldsArguments e f x amounts votes minima s
    → slice_index amounts g.amount_place ≤ MAX_SEATS
    → CanBegin c e f x name k g (cells e g.entries votes) (minima_at e g votes minima) (slice_index amounts g.amount_place) s
arguments_begin c e f x name k g amounts votes minima s election slots at on arguments few = record {
  election = election;
  group = at;
  slots = slots;
  on = on;
  amount = arguments.amounts_are.at g.amount_place (scopes_hold e f k g at).within;
  few = few;
  weights = subst (λ (x : Group). All (λ weight. weight ≤ MAX_WEIGHT) (cells e x.entries votes)) (get_or_from_slice_get (groups_of e f) k g g at)
      (arguments.weights k g (slice_get_within (groups_of e f) k g at));
  votes = column_cells e f k g (s.columns x.votes) votes at arguments.votes_are;
  minima = minima_cells e f k g votes s at x.minima minima arguments.minima_are;
}

module _ (c : CountingCode) (e : Election) (f : Form) (x : Slots) (name : List ℕ) (k : ℕ) (g : Group) (v m : List ℕ) (seats : ℕ) (s : State)
    (can : CanBegin c e f x name k g v m seats s) where
  summed_begun : (t u : State) → IsUnchanged s t → t.registers reg.AMOUNT ≡ seats → AreSummed g v m t u → IsBegun c e f x name k g v m seats s u
  summed_begun t u same amount h =
      let total : sum v ≤ most = weights_fit e f k g (s.columns x.votes) v can.election can.group can.votes can.weights in
      let columns : (slot q : ℕ) → u.columns slot q ≡ s.columns slot q = λ slot q. h.unchanged.columns slot q ∙ same.columns slot q in
      record {
        ready = search (
          arith,
          h.amount ∙ amount,
          cells_kept e g.entries (s.columns x.votes) (u.columns x.votes) v (columns x.votes) can.votes,
          minima_kept e g.entries v m s u x.minima (λ slot is. columns slot) can.minima,
        );
        needed = h.needed;
        unchanged = record {
          columns = columns;
          steps = h.unchanged.steps ∙ same.steps;
          weights = h.unchanged.weights ∙ same.weights;
          placed = λ winner. h.unchanged.placed winner ∙ same.placed winner;
        };
      }

  -- a plan that begins so goes on from there
  pub scope_begins : (rest : Tree) (R : State → Type 0) (E : End → Type 0) → ((t : State) → IsBegun c e f x name k g v m seats s t → Achieves c e rest t R E)
      → Achieves c e (Then (Line (op.Get reg.AMOUNT x.amounts ∷ [])) (Then (sums f x) rest)) s R E
  scope_begins rest R E goes =
      let t : State = with_register reg.AMOUNT (s.columns x.amounts g.amount_place) s in
      let cell = (scopes_hold e f k g can.group).amount s can.on in
      let same : IsUnchanged s t = record { columns = λ slot q. refl; steps = refl; weights = refl; placed = λ winner. refl } in
      line_first (get_does c e s x.amounts (amounts_of f) can.slots.amounts reg.AMOUNT g.amount_place cell)
      (line_over (then_achieves {Q = AreSummed g v m t}
      (achieves_never (sums_achieve c e f x name k g v m t can.group can.slots can.on can.votes can.minima))
      (λ w h. goes w (summed_begun t w same can.amount h))))

-- ---- the arena

-- an arena of the scope's entries, in which the seats can be distributed
pub record IsScopeArena (e : Election) (f : Form) (g : Group) (seats : ℕ) (a : Arena) : Type 0 where
  pub arena : IsArena MAX_SEATS a
  pub enough : sum a.ladders.base ≤ seats
  pub room : HasRoom a.ladders seats
  pub entries : a.entries ≡ table_of f
  pub places : a.places ≡ map (place e) g.entries

-- there is room for the seats if the ladders of a field have room, and without a field the base has them all
pub room_of : (l : Ladders) (v : List ℕ) (seats : ℕ) → ((i : ℕ) → InField v i → HasRoom l seats) → (IsEmptyField v → seats ≤ sum l.base) → HasRoom l seats
room_of l v seats some none s on less =
    elim (cases_field v) [
      | inl empty ↦ let base : seats ≤ sum l.base = none empty in let all : sum l.base ≤ sum s = sum_mono l.base s (λ i. on.above i) in absurd (omega (arith, base, all, less))
      | inr field ↦ some field.0 field.1 s on less
    ]

lot_is : (e : Election) (name : List ℕ) (f : Form) (items : List Item) → lot_meant e name (table_of f) items ≡ stage_lot e name (votes_of f) items
lot_is e name AllParties items = refl
lot_is e name _ items = refl

module _ (c : CountingCode) (e : Election) (f : Form) (x : Slots) (name : List ℕ) (k : ℕ) (g : Group) (v m : List ℕ) (seats : ℕ) (a : Arena) (state : State)
    (ready : IsReady c e f x name k g v m seats state) (is : IsScopeArena e f g seats a) where
  scope_lot : IsElection e → SameLot (lot_of e (table_of f) name) (stage_lot e name (votes_of f) g.entries) (map (place e) g.entries)
  scope_lot election =
      let scope : IsScope e f g = scopes_hold e f k g ready.group in
      subst (λ (meant : List ℕ). SameLot (lot_of e (table_of f) name) meant (map (place e) g.entries)) (lot_is e name f g.entries)
      (same_lots e election name (table_of f) g.entries
      (record {
        items_of = All-from_get_or (λ i. item_of e (table_of f) (place e i) ≡ i) g.entries (item.Party 0) (λ j less. (scope.entry j _ (slice_get-get_or g.entries j (item.Party 0) less)).item);
        increasing = scope.increasing;
      }))

  pub scope_awards : IsElection e → CanAward c e a MAX_SEATS seats x.stage (stage_lot e name (votes_of f) g.entries)
  scope_awards election =
      let meant : List ℕ = stage_lot e name (votes_of f) g.entries in
      let few : seats ≤ MAX_SEATS = ready.few in
      record {
        arena = is.arena;
        few = few;
        countable = omega (arith, few);
        enough = is.enough;
        room = is.room;
        name = name;
        named = ready.slots.named;
        same_lot = subst (λ (n : Entries). SameLot (lot_of e n name) meant a.places) (sym is.entries)
            (subst (λ (places : List ℕ). SameLot (lot_of e (table_of f) name) meant places) (sym is.places) (scope_lot election));
      }

-- ---- the seats

-- what is chosen in the arena makes the scope's award, and the records of the arena are the scope's
pub record MeansAward (x : Slots) (g : Group) (a : Arena) (v : List ℕ) (seats : ℕ) (told : List Weight) (meant : List ℕ) (majority : Majority)
    (IsAward : Group → Award → Type 0) (records : Group → List ℕ → Records) : Type 0 where
  pub award : (b : Award) → IsChosen (IsTop a.ladders seats) meant g.entries majority v seats b → IsAward g b
  pub steps : (s : List ℕ) → (records g s).steps ≡ steps_upto x.stage g a.ladders a.won s s
  pub weights : (s : List ℕ) → (records g s).weights ≡ told

module _ (c : CountingCode) (e : Election) (f : Form) (x : Slots) (name : List ℕ) (k : ℕ) (g : Group) (v m : List ℕ) (seats : ℕ) (a : Arena) (told : List Weight)
    (meant : List ℕ) (majority : Majority) (method : Method) (IsAward : Group → Award → Type 0) (records : Group → List ℕ → Records) (state : State) where
  Held : List ℕ → State → Type 0
  Held = IsSeated e x g a v seats told state

  module _ (means : MeansAward x g a v seats told meant majority IsAward records) where
    tie_ends : (y : End) → EndsInTie x g a seats meant y → EndsFaulty x IsAward g y
    tie_ends y h = search
        (means.award (Refused (fault.Tie h.number (entries_at g.entries h.among))) (record { choice = Tied h.number h.among; chosen = h.choice; is = refl }))

    module _ (s : List ℕ) (choice : IsChoice (IsTop a.ladders seats) meant (Decided s)) where
      top : IsTop a.ladders seats s
      top = choice.4

      deprived_ends : (y : End) → EndsDeprived x g v seats majority s y → EndsFaulty x IsAward g y
      deprived_ends y h = record {
        kind = fault.Majority;
        refused = means.award (Refused fault.Majority)
            (record { choice = Decided s; chosen = choice; is = sym (cond-true (is_refused majority v seats s) (Refused fault.Majority) (Seats s) h.refused) });
        is = h.is;
      }

      awarded : (t : State) → StandsBy e x g a v seats told majority state s t → HasAward e x IsAward records g state t
      awarded t h = record {
        seats = s;
        award = means.award (Seats s)
            (record { choice = Decided s; chosen = choice; is = sym (cond-false (is_refused majority v seats s) (Refused fault.Majority) (Seats s) h.allowed) });
        on = h.seated.on;
        cells = h.seated.cells;
        elsewhere = h.seated.elsewhere;
        columns = h.seated.columns;
        adds = search (
          subst (λ xs. IsPermutation h.seated.steps.added xs) (sym (means.steps s)) (h.seated.steps.are s top),
          h.seated.weights ∙ ap (λ xs. state.weights ++ xs) (sym (means.weights s)),
        );
      }

    module _ (ready : IsReady c e f x name k g v m seats state) (can : CanAward c e a MAX_SEATS seats x.stage meant)
        (gives : AwardsSeats c e f x g a v seats told meant state method) where
      -- when the scope is filled
      filled_awards : (t : State) → IsFilled e x g a v seats told state t
          → Achieves c e (awards x.stage (bound.AtMost most_seats) (tied f x) (seat f x (again_of x method))) t (AreAwarded a seats meant Held) (EndsInTie x g a seats meant)
      unfolding Held
      filled_awards t h =
          let left : t.registers reg.LEFT ≡ seats - sum a.ladders.base = h.left in
          awards_achieve c e a MAX_SEATS seats x.stage meant (bound.AtMost most_seats) (tied f x) (seat f x (again_of x method)) Held (EndsInTie x g a seats meant) t can gives.gives gives.ends
          gives.fits h.waiting h.seated left (omega (arith, left))

      chosen_stands : (t : State) → AreAwarded a seats meant Held t → Achieves c e (refuse f x majority) t (HasAward e x IsAward records g state) (EndsFaulty x IsAward g)
      unfolding Held
      chosen_stands t h =
          achieves_more
          (majority_is_kept c e f x name k g a v seats told majority state h.s t ready.group ready.slots ready.votes ready.weights (top h.s h.choice).total ready.few h.held)
          (awarded h.s h.choice) (deprived_ends h.s h.choice)

      -- the scope is filled, then its seats are awarded, then the majority clause is asked
      pub scope_awarded : (filling : Tree) → Achieves c e filling state (IsFilled e x g a v seats told state) Never
          → Achieves c e (Then filling (Then (awards x.stage (bound.AtMost most_seats) (tied f x) (seat f x (again_of x method))) (refuse f x majority))) state
          (HasAward e x IsAward records g state) (EndsFaulty x IsAward g)
      scope_awarded filling fills =
          then_achieves {Q = IsFilled e x g a v seats told state} (achieves_never fills)
          (λ t h. then_achieves {Q = AreAwarded a seats meant Held} (achieves_more (filled_awards t h) (λ u w. w) tie_ends) chosen_stands)
