-- The plan that gives each entry of a scope its first seats: in the scopes of a split, and in the house that a growth found.
use Rattle.std.proofs.Common.{◌≡◌, ℕ, ◌+◌, ◌-◌, ◌<◌, if◌then◌else◌, List, [], ◌∷◌, ◌++◌, length, map, Some, IsPermutation, sum, refl, sym, ap, ap₂, subst, ◌∙◌, append-nil, lt-ltb, arith, ◌*◌, ◌/◌, ◌≤◌, ◌&&◌, Bool, true, false, Option}
use Rattle.std.specs.Prelude.{flat_map, slice_index, is_none, nat_lt, nat_le}
use Rattle.std.specs.List.{range_with_len, enumerate_from}
use Rattle.std.proofs.lemmas.List.{take_all, length-map}
use Rattle.std.proofs.lemmas.List.FromFn.{length-range_with_len, length-enumerate_from}
use Rattle.std.proofs.lemmas.List.Sorted.{IsPermutation-refl}
use Rattle.std.proofs.lemmas.Option.{slice_get_within}
use Rattle.std.proofs.Math.Bool.{and-true}
use Rattle.std.proofs.lemmas.Bool.{le-leb}
use Rattle.sl_base_quotients.specs.declared.method.Divisor.{Divisor}
use Rattle.sl_base_quotients.specs.declared.method.Method.TheVariants as by
use Rattle.sl_base_quotients.specs.declared.method.Method.{Method}
use Rattle.sl_law_meaning.specs.declared.fault.Item.{Item}
use Rattle.sl_law_meaning.specs.declared.table.Mark.{Mark}
use Rattle.sl_law_meaning.specs.declared.table.SeatStep.{SeatStep}
use Rattle.sl_law_meaning.specs.declared.table.Weight.{Weight}
use Rattle.sl_law_meaning.specs.returns.Election.{Election, IsElection}
use Rattle.sl_law_meaning.specs.meaning.Scopes.{Group, place}
use Rattle.sl_law_meaning.specs.meaning.Records.{seat_step, field_weights, tells_weights}
use Rattle.sl_law_meaning.specs.methods.Steps.{step_of}
use Rattle.sl_law_meaning.specs.laws.Ladders.{Ladders}
use Rattle.sl_law_meaning.specs.book.Typing.{is_prefer}
use Rattle.sl_law_meaning.specs.methods.Hamilton.{whole, whole_parts}
use Rattle.sl_law_meaning.specs.methods.LeastHouse.{outside_minima}
use Rattle.sl_law_meaning.proofs.methods.HamiltonProofs.{at_wholes}
use Rattle.sl_law_meaning.proofs.methods.HouseProofs.{length-outside}
use Rattle.sl_law_meaning.specs.declared.book.Majority.{Majority}
use Rattle.sl_code_instructions.specs.declared.instr.Instr.TheVariants.{Mov, Table}
use Rattle.sl_code_instructions.specs.declared.operand.Ranking.{Ranking}
use Rattle.sl_code_instructions.specs.Codes.{CountingCode}
use Rattle.sl_code_instructions.specs.declared.operand.Ranking.TheVariants as ranking
use Rattle.sl_code_semantics.specs.State.{State, PriorityTable}
use Rattle.sl_compile_plans.specs.Trees.{Tree, Line}
use Rattle.sl_compile_plans.specs.Achieves.{Achieves, Never}
use Rattle.sl_compile_plans.proofs.Rules.{then_achieves, ends_in, achieves_so}
use Rattle.sl_compile_pieces.specs.scopes.Forms.{Form, table_of, OnScope, OnItem}
use Rattle.sl_compile_pieces.specs.inner.scopes.Walks.{bare, Visits}
use Rattle.sl_compile_pieces.proofs.scopes.Forms.{each_entry}
use Rattle.sl_compile_pieces.proofs.scopes.Scopes.{scopes_hold}
use Rattle.sl_compile_pieces.proofs.scopes.Staying.{Stays, entries_visited}
use Rattle.sl_compile_pieces.specs.arenas.Arenas as arenas
use Rattle.sl_compile_pieces.specs.arenas.Arenas.{Arena, next_seat, divisor_arena, hamilton_arena}
use Rattle.sl_compile_pieces.specs.declared.registers.TheConstants as reg
use Rattle.sl_compile_pieces.specs.seats.Slots.{Slots}
use Rattle.sl_compile_pieces.specs.seats.Trees.{fill_entry, fill, minimum_base, outside_base, whole_base, enter_quotient, enter_remainder, enter_preferred, base_of, enter_of, ranking_of}
use Rattle.sl_compile_pieces.specs.inner.seats.Seated.{steps_upto}
use Rattle.sl_compile_pieces.specs.inner.seats.Filling.{told_of, IsFilled, FillsAchieve, IsOfScope, FindsBase, IsReady, split_weights, split_arena, grown_arena}
use Rattle.sl_compile_pieces.proofs.seats.Lists.{pieces_all, pieces_alike, made_alike}
use Rattle.sl_compile_pieces.proofs.seats.GivenSeats.{given_seat}
use Rattle.sl_compile_pieces.proofs.seats.FilledEntries.{FirstFilled, first_waiting, first_given, given_to, Fills, entry_filled}
use Rattle.sl_compile_pieces.specs.scopes.Scopes.{IsScope}
use Rattle.sl_compile_pieces.proofs.seats.Minima.{minima_long}
use Rattle.sl_compile_pieces.proofs.seats.Bases.{minimum_finds, outside_finds, whole_finds, Remains}
use Rattle.sl_compile_pieces.proofs.seats.Entering.{told_where, quotients_enter, remainders_enter}
use Rattle.sl_compile_pieces.proofs.seats.Told.{none_told, field_told}

-- ---- the records of the first seats

-- within its base an entry's seats are given, whatever is chosen in the end
module _ (stage : ℕ) (g : Group) (l : Ladders) (won : ℕ → ℕ → Mark) (w : List ℕ) where
  step_given : (j : ℕ) (i : Item) (k : ℕ) → k < slice_index l.base j → given_seat stage g.scope i k ≡ seat_step stage g.scope g.entries l won w j i k
  step_given j i k less =
      let other : SeatStep = record { stage = stage; scope = g.scope; entry = i; n = k + 1; step = step_of l.rank l.base w j k; mark = won j k } in
      sym (ap (λ b. if b then given_seat stage g.scope i k else other) (lt-ltb k (slice_index l.base j) less))

given_are_steps : (stage : ℕ) (g : Group) (a : Arena) (w : List ℕ) → first_given stage g a (length g.entries) ≡ steps_upto stage g a.ladders a.won w a.ladders.base
given_are_steps stage g a w =
    let base : List ℕ = a.ladders.base in
    pieces_all (given_to stage g a) (enumerate_from 0 g.entries) (length g.entries) (length-enumerate_from 0 g.entries)
    ∙ pieces_alike (given_to stage g a) (λ y. map (seat_step stage g.scope g.entries a.ladders a.won w y.0 y.1) (range_with_len 0 (slice_index base y.0)))
    (λ y.
    made_alike (given_seat stage g.scope y.1) (seat_step stage g.scope g.entries a.ladders a.won w y.0 y.1) 0 (slice_index base y.0)
    (λ k less. step_given stage g a.ladders a.won w y.0 y.1 k (omega (arith, less))))
    (enumerate_from 0 g.entries)

-- ---- the plan

module _ {c : CountingCode} {e : Election} {f : Form} {x : Slots} {name : List ℕ} {g : Group} {a : Arena} {by : Ranking} {v m : List ℕ} {seats : ℕ} {Rest : ℕ → ℕ → Type 0}
    {told : ℕ → Item → List Weight} {base enter : Tree} {before : State} (given : Fills c e f x name g a by v m seats Rest told base enter before) where
  stays : Stays (fill_entry f x base enter)
  stays = record {
    party = rw (given.finds.leaves.party, given.enters.leaves.party) refl;
    land = rw (given.finds.leaves.land, given.enters.leaves.land) refl;
    win = rw (given.finds.leaves.win, given.enters.leaves.win) refl;
  }

  visits : Visits c e (fill_entry f x base enter) g.entries OnItem (λ j. FirstFilled e x g a v seats told before j j j) Never
  visits = entries_visited stays (λ j i s at on h. entry_filled given j i at s on h)

  begins : OnScope g.scope before → before.registers reg.AMOUNT ≡ seats → before.registers reg.TOTAL ≡ sum v
      → Achieves c e (Line (Table (table_of f) by ∷ (Mov reg.LEFT reg.AMOUNT ∷ []))) before (λ t. OnScope g.scope t × FirstFilled e x g a v seats told before 0 0 0 (bare t)) Never
  begins on amount total =
      let empty : PriorityTable = record { entries = table_of f; ranking = by; contents = [] } in
      let all : seats ≡ seats - sum [] = omega arith in
      let same : empty ≡ arenas.table_of a (first_waiting a 0) = ap₂ (λ k r. record { entries = k; ranking = r; contents = [] }) (sym given.arena.entries) (sym given.arena.ranking) in
      ends_in refl (
        on,
        record {
          amount = amount;
          total = total;
          left = amount ∙ all;
          cells = λ q i less at. absurd (omega (arith, less));
          elsewhere = λ q none. refl;
          columns = λ slot q other. refl;
          placed = λ winner. refl;
          table = ap (λ t. Some t) same;
          steps = sym (append-nil before.steps);
          weights = sym (append-nil before.weights);
        },
      )

  ends : (s : State) → OnScope g.scope s → FirstFilled e x g a v seats told before (length g.entries) (length g.entries) (length g.entries) (bare s)
      → IsFilled e x g a v seats (flat_map (λ y. told_of told v y.0 y.1) (enumerate_from 0 g.entries)) before s
  ends s on h =
      let n : ℕ = length g.entries in
      let long : length a.ladders.base ≡ n = given.arena.one_each in
      let wide : length a.places ≡ n = ap (λ places. length places) given.arena.places ∙ length-map g.entries (place e) in
      record {
        seated = record {
          on = on;
          amount = h.amount;
          total = h.total;
          cells = record { one_each = long; at = λ j i at. h.cells j i (slice_get_within g.entries j i at) at };
          elsewhere = h.elsewhere;
          columns = h.columns;
          steps = record {
            added = first_given x.stage g a n;
            steps = h.steps;
            are = λ w top. subst (λ xs. IsPermutation (first_given x.stage g a n) xs) (given_are_steps x.stage g a w) (IsPermutation-refl (first_given x.stage g a n));
          };
          weights = h.weights ∙ ap (λ xs. before.weights ++ xs) (pieces_all (λ y. told_of told v y.0 y.1) (enumerate_from 0 g.entries) n (length-enumerate_from 0 g.entries));
          placed = h.placed;
        };
        waiting = h.table
            ∙ ap (λ xs. Some (arenas.table_of a xs)) (pieces_all (next_seat a a.ladders.base) (range_with_len 0 (length a.places)) n (length-range_with_len 0 (length a.places) ∙ wide));
        left = h.left ∙ ap (λ xs. seats - sum xs) (take_all n a.ladders.base (omega (arith, long)));
      }

pub fills_achieve : FillsAchieve
fills_achieve c e f x name k g a by v m seats Rest told base enter state at slots arena finds enters fits few on amount total votes minima =
    let given : Fills c e f x name g a by v m seats Rest told base enter state = assumption (scopes_hold e f k g at) in
    then_achieves (begins given on amount total) (λ t h.
    achieves_so (each_entry c e f k g (fill_entry f x base enter) (λ j. FirstFilled e x g a v seats told state j j j) Never t at (visits given) h.0 h.1)
    (λ u r. ends given u r.0 r.1))

-- ---- the arenas are of their scope

module _ (e : Election) (f : Form) (g : Group) (v : List ℕ) where
  divisor_of_scope : (d : Divisor) (b : List ℕ) → length b ≡ length g.entries → IsOfScope e f g ranking.Quotients v (divisor_arena d v b (table_of f) (map (place e) g.entries))
  divisor_of_scope d b long = record { entries = refl; ranking = refl; places = refl; one_each = long; next = λ j below. refl }

  hamilton_of_scope : (prefer : Bool) (seats : ℕ) → length v ≡ length g.entries
      → IsOfScope e f g ranking.Remainders v (hamilton_arena prefer v seats (table_of f) (map (place e) g.entries))
  hamilton_of_scope prefer seats long = record {
    entries = refl;
    ranking = refl;
    places = refl;
    one_each = length-map v (λ x. seats * x / sum v) ∙ long;
    next = λ j below.
        let within : slice_index (whole_parts v seats) j ≤ whole v seats j = omega (arith, at_wholes prefer v seats j) in
        let there : nat_le (slice_index (whole_parts v seats) j) (whole v seats j) ≡ true = le-leb (slice_index (whole_parts v seats) j) (whole v seats j) within in
        ap (λ (b : Bool). nat_lt 0 (slice_index v j) && b) there ∙ and-true (nat_lt 0 (slice_index v j));
  }

module _ (c : CountingCode) (e : Election) (f : Form) (x : Slots) (name : List ℕ) (k : ℕ) (g : Group) (v m : List ℕ) (seats : ℕ) (state : State)
    (ready : IsReady c e f x name k g v m seats state) where
  scope : IsScope e f g
  scope = scopes_hold e f k g ready.group

  told_weights : Bool → Divisor → List Weight
  told_weights told d = if told then field_weights x.stage g.scope g.entries d v else []

  -- the weights that are recorded in the end
  told_all : (b : List ℕ) (told : Bool) (d : Divisor)
      → flat_map (λ y. told_of (told_where c e f g scope v seats ready.weights ready.few x b told d) v y.0 y.1) (enumerate_from 0 g.entries) ≡ told_weights told d
  unfolding told_weights
  told_all b false d = none_told v (enumerate_from 0 g.entries)
  told_all b true d = field_told v (λ i weight. record { stage = x.stage; scope = g.scope; entry = i; divisor = d; weight = weight }) g.entries ready.votes.one_each

  -- by a divisor method, from first seats that are found so
  quotients_fill : (d : Divisor) (b : List ℕ) (base : Tree) → length b ≡ length g.entries → FindsBase c e x g v m seats b (λ j n. Unit {0}) base → sum b ≤ seats
      → Achieves c e (fill f x ranking.Quotients base (enter_quotient f x d)) state
      (IsFilled e x g (divisor_arena d v b (table_of f) (map (place e) g.entries)) v seats (told_weights (is_none x.minima && tells_weights d) d) state) Never
  quotients_fill d b base long finds within =
      let a : Arena = divisor_arena d v b (table_of f) (map (place e) g.entries) in
      let told : ℕ → Item → List Weight = told_where c e f g scope v seats ready.weights ready.few x b (is_none x.minima && tells_weights d) d in
      subst (λ (ws : List Weight). Achieves c e (fill f x ranking.Quotients base (enter_quotient f x d)) state (IsFilled e x g a v seats ws state) Never)
      (told_all b (is_none x.minima && tells_weights d) d)
      (fills_achieve c e f x name k g a ranking.Quotients v m seats (λ j n. Unit {0}) told base (enter_quotient f x d) state ready.group ready.slots
      (divisor_of_scope e f g v d b long) finds (quotients_enter c e f g scope v seats ready.weights ready.few x b ready.slots.stage d)
      within ready.few ready.on ready.amount ready.total ready.votes ready.minima)

  remainders_fill : (prefer : Bool) → sum (whole_parts v seats) ≤ seats
      → Achieves c e (fill f x ranking.Remainders whole_base (if prefer then enter_preferred else enter_remainder)) state
      (IsFilled e x g (hamilton_arena prefer v seats (table_of f) (map (place e) g.entries)) v seats [] state) Never
  remainders_fill prefer within =
      let a : Arena = hamilton_arena prefer v seats (table_of f) (map (place e) g.entries) in
      let enter : Tree = if prefer then enter_preferred else enter_remainder in
      subst (λ (ws : List Weight). Achieves c e (fill f x ranking.Remainders whole_base enter) state (IsFilled e x g a v seats ws state) Never) (none_told v (enumerate_from 0 g.entries))
      (fills_achieve c e f x name k g a ranking.Remainders v m seats (Remains c e x g v m seats) (λ j i. []) whole_base enter state ready.group ready.slots
      (hamilton_of_scope e f g v prefer seats ready.votes.one_each) (whole_finds c e x g v m seats prefer ready.weights ready.few)
      (remainders_enter c e f g scope v seats ready.weights ready.few x m prefer) within ready.few ready.on ready.amount ready.total ready.votes ready.minima)

  minima_each : length m ≡ length v
  minima_each = minima_long e g.entries v m x.minima state ready.votes.one_each ready.minima

  minima_fill : (d : Divisor) → sum m ≤ seats → Achieves c e (fill f x ranking.Quotients (minimum_base x.minima) (enter_quotient f x d)) state
      (IsFilled e x g (divisor_arena d v m (table_of f) (map (place e) g.entries)) v seats (split_weights x g (by.Divisor d) v) state) Never
  unfolding told_weights
  minima_fill d within =
      quotients_fill d m (minimum_base x.minima) (minima_each ∙ ready.votes.one_each) (minimum_finds c e x g v m seats f scope.entry ready.slots.minima) within

  outside_fill : (d : Divisor) (slot : ℕ) → x.minima ≡ Some slot → sum (outside_minima v m) ≤ seats → Achieves c e (fill f x ranking.Quotients (outside_base x.minima) (enter_quotient f x d)) state
      (IsFilled e x g (divisor_arena d v (outside_minima v m) (table_of f) (map (place e) g.entries)) v seats [] state) Never
  unfolding told_weights
  outside_fill d slot there within =
      let a : Arena = divisor_arena d v (outside_minima v m) (table_of f) (map (place e) g.entries) in
      let none : told_weights (is_none x.minima && tells_weights d) d ≡ [] = ap (λ (o : Option ℕ). told_weights (is_none o && tells_weights d) d) there in
      subst (λ (ws : List Weight). Achieves c e (fill f x ranking.Quotients (outside_base x.minima) (enter_quotient f x d)) state (IsFilled e x g a v seats ws state) Never) none
      (quotients_fill d (outside_minima v m) (outside_base x.minima) (length-outside v m minima_each ∙ ready.votes.one_each)
      (outside_finds c e x g v m seats f scope.entry ready.slots.minima minima_each) within)

-- the scope of a split is filled: with minima by a divisor method; by Hamilton's there are none
pub splits_are_filled : (c : CountingCode) (e : Election) (f : Form) (x : Slots) (name : List ℕ) (k : ℕ) (g : Group) (method : Method) (majority : Majority) (v m : List ℕ)
    (seats : ℕ) (state : State) → IsElection e → IsReady c e f x name k g v m seats state → sum (split_arena e f g method majority v m seats).ladders.base ≤ seats →
    Achieves c e (fill f x (ranking_of method) (base_of method x) (enter_of f x method majority)) state
    (IsFilled e x g (split_arena e f g method majority v m seats) v seats (split_weights x g method v) state) Never
splits_are_filled c e f x name k g (by.Divisor d) majority v m seats state is ready within = minima_fill c e f x name k g v m seats state ready d within
splits_are_filled c e f x name k g by.Hamilton majority v m seats state is ready within = remainders_fill c e f x name k g v m seats state ready (is_prefer majority) within

-- so is that of the house that a growth found: only entries without weight have their minimum before
pub growths_are_filled : (c : CountingCode) (e : Election) (f : Form) (x : Slots) (name : List ℕ) (slot k : ℕ) (g : Group) (d : Divisor) (v m : List ℕ) (seats : ℕ) (state : State) →
    IsElection e → IsReady c e f x name k g v m seats state → x.minima ≡ Some slot → sum (outside_minima v m) ≤ seats →
    Achieves c e (fill f x (ranking_of (by.Divisor d)) (outside_base x.minima) (enter_quotient f x d)) state
    (IsFilled e x g (grown_arena e f g d v m) v seats [] state) Never
growths_are_filled c e f x name slot k g d v m seats state is ready there within = outside_fill c e f x name k g v m seats state ready d slot there within
