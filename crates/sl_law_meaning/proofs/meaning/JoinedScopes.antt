-- What the scopes of a split or a growth make, scope by scope: the first amount over the limit, the first fault, or the column.
use Rattle.std.proofs.Common.{◌≡◌, ℕ, ◌<◌, ◌≤◌, List, [], ◌∷◌, ◌++◌, Some, None, length, nat_lt, refl, ap, ◌∙◌}
use Rattle.std.specs.Prelude.{zip, flat_map, filter_map, slice_get, option_map, unwrap_or}
use Rattle.std.specs.List.{AllByRecursion as Every}
use Rattle.std.proofs.lemmas.Bool.{cond-true, cond-false, lt-ltb, le-ltb}
use Rattle.std.proofs.lemmas.Option.{none-some, same_Some}
use Rattle.sl_base_quotients.specs.declared.limits.TheConstants.{MAX_SEATS}
use Rattle.sl_law_meaning.specs.declared.fault.FaultKind.{FaultKind}
use Rattle.sl_law_meaning.specs.declared.fault.LegalFault.{LegalFault}
use Rattle.sl_law_meaning.specs.returns.Election.{Election}
use Rattle.sl_law_meaning.specs.meaning.Scopes.{Group, pair_column}
use Rattle.sl_law_meaning.specs.meaning.Records.{Records}
use Rattle.sl_law_meaning.specs.meaning.Splits.{Award, Seats, Refused, awarded}
use Rattle.sl_law_meaning.specs.meaning.Results.{ExprResult, Column, Fault, Stand, fault_at, fault_of, amount_of, first_over, joined}

module _ (e : Election) (at : Stand) (amounts : List ℕ) where
  -- no scope has more seats to distribute than the limit
  pub none_over : (groups : List Group) → Every (λ g. amount_of e at amounts g ≤ MAX_SEATS) groups → first_over e at amounts groups ≡ None
  none_over [] all = refl
  none_over (g ∷ groups) all =
      cond-false (nat_lt MAX_SEATS (amount_of e at amounts g)) (Some g) (first_over e at amounts groups) (le-ltb MAX_SEATS (amount_of e at amounts g) all.0) ∙ none_over groups all.1

  -- the first scope that has, after scopes that have not
  pub over_after : (before rest : List Group) (g : Group) → Every (λ g. amount_of e at amounts g ≤ MAX_SEATS) before → MAX_SEATS < amount_of e at amounts g →
      first_over e at amounts (before ++ g ∷ rest) ≡ Some g
  over_after [] rest g all over = cond-true (nat_lt MAX_SEATS (amount_of e at amounts g)) (Some g) (first_over e at amounts rest) (lt-ltb MAX_SEATS (amount_of e at amounts g) over)
  over_after (h ∷ before) rest g all over =
      cond-false (nat_lt MAX_SEATS (amount_of e at amounts h)) (Some h) (first_over e at amounts (before ++ g ∷ rest)) (le-ltb MAX_SEATS (amount_of e at amounts h) all.0) ∙ over_after before rest g all.1 over

-- the scope has seats
abbrev pub IsSeats : Award → Type 0
IsSeats (Seats s) = Unit {0}
IsSeats (Refused kind) = ⊥

no_faults : (stage : ℕ) (groups : List Group) (awards : List Award) → Every IsSeats awards → filter_map (fault_of stage) (zip groups awards) ≡ []
no_faults stage [] awards all = refl
no_faults stage (g ∷ groups) [] all = refl
no_faults stage (g ∷ groups) (Seats s ∷ awards) all = no_faults stage groups awards all.1
no_faults stage (g ∷ groups) (Refused kind ∷ awards) all = absurd all.0

first_fault : (stage : ℕ) (groups : List Group) (before rest : List Award) (kind : FaultKind) (g : Group) → Every IsSeats before → slice_get groups (length before) ≡ Some g →
    slice_get (filter_map (fault_of stage) (zip groups (before ++ Refused kind ∷ rest))) 0 ≡ Some (fault_at stage g.scope kind)
first_fault stage [] before rest kind g all there = absurd (none-some g there)
first_fault stage (h ∷ groups) [] rest kind g all there = ap (λ (g : Group). Some (fault_at stage g.scope kind)) (same_Some h g there)
first_fault stage (h ∷ groups) (Seats s ∷ before) rest kind g all there = first_fault stage groups before rest kind g all.1 there
first_fault stage (h ∷ groups) (Refused k ∷ before) rest kind g all there = absurd all.0

module _ (e : Election) (at : Stand) (amounts : List ℕ) (records : Group → List ℕ → Records) (groups : List Group) where
  -- the column that awards make
  abbrev pub joined_column : List Award → ExprResult
  joined_column awards = Column (pair_column e at.shape (flat_map (λ x. zip x.0.entries (awarded x.1)) (zip groups awards))) (record {
    steps = flat_map (λ x. (records x.0 (awarded x.1)).steps) (zip groups awards);
    weights = flat_map (λ x. (records x.0 (awarded x.1)).weights) (zip groups awards);
  })

  -- the first award without seats is the fault
  pub joined_fault : (before rest : List Award) (kind : FaultKind) (g : Group) → Every IsSeats before → slice_get groups (length before) ≡ Some g →
      joined e at amounts records groups (before ++ Refused kind ∷ rest) ≡ Fault (fault_at at.stage g.scope kind)
  joined_fault before rest kind g all there =
      ap (λ o. unwrap_or (option_map (λ f. Fault f) o) (joined_column (before ++ Refused kind ∷ rest))) (first_fault at.stage groups before rest kind g all there)

  -- without one, the seats are the column
  pub joined_seats : (awards : List Award) → Every IsSeats awards → joined e at amounts records groups awards ≡ joined_column awards
  joined_seats awards all = ap (λ (faults : List LegalFault). unwrap_or (option_map (λ f. Fault f) (slice_get faults 0)) (joined_column awards)) (no_faults at.stage groups awards all)
