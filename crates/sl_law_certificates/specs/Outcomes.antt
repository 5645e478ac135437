-- What a certificate shows of a rulebook on returns: an outcome, computed from what is told, without a count (docs/certificate.md, section 2).
use Rattle.std.specs.Prelude.{ℕ, List, [], ◌∷◌, Option, Some, None, option_map, option_and_then, is_some, unwrap_or, length, map, min, sum, find, filter_map, slice_get, nat_eq, if◌then◌else◌}
use Rattle.std.specs.Option.{option_or}
use Rattle.std.specs.List.{zip}
use Rattle.sl_base_quotients.specs.declared.method.Divisor.{Divisor}
use Rattle.sl_base_quotients.specs.declared.method.Method.{Method}
use Rattle.sl_base_quotients.specs.declared.method.Method.TheVariants as by
use Rattle.sl_base_terms.specs.declared.shape.Shape.{Shape}
use Rattle.sl_base_terms.specs.declared.shape.Shape.TheVariants as shape
use Rattle.sl_law_meaning.specs.declared.book.Majority.{Majority}
use Rattle.sl_law_meaning.specs.declared.book.Seating.{Seating}
use Rattle.sl_law_meaning.specs.declared.book.Seating.TheVariants as seating
use Rattle.sl_law_meaning.specs.declared.count.Records.TheVariants.{Dropped}
use Rattle.sl_law_meaning.specs.declared.fault.FaultKind.TheVariants as fault
use Rattle.sl_law_meaning.specs.declared.fault.LegalFault.{LegalFault}
use Rattle.sl_law_meaning.specs.declared.table.Outcome.{Outcome}
use Rattle.sl_law_meaning.specs.declared.table.Outcome.TheVariants as outcome
use Rattle.sl_law_meaning.specs.book.Trees.{ExprTree, fact, name, sum as sum_tree, pair, split, without, atleast, grow, StageTree, BookTree}
use Rattle.sl_law_meaning.specs.returns.Election.{Election}
use Rattle.sl_law_meaning.specs.returns.Facts.{lists_of, list_cell, is_eligible}
use Rattle.sl_law_meaning.specs.methods.Ties.{Choice}
use Rattle.sl_law_meaning.specs.meaning.Columns.{NamedColumn, is_column_of, fact_column, sum_over, pair_of}
use Rattle.sl_law_meaning.specs.meaning.Scopes.{Group, cells, scopes}
use Rattle.sl_law_meaning.specs.meaning.Lots.{stage_lot, seats_lot}
use Rattle.sl_law_meaning.specs.meaning.Records.{Records}
use Rattle.sl_law_meaning.specs.meaning.Splits.{Award}
use Rattle.sl_law_meaning.specs.meaning.Results.{ExprResult, Column, Fault, plain, behind, Stand, amount_of, first_over, fault_at, fault_of, joined}
use Rattle.sl_law_meaning.specs.meaning.Expressions.{minima_at, split_records, growth_records, Context, stand, shape_in}
use Rattle.sl_law_meaning.specs.meaning.Seating.{base_of, winners_of, winner_items, tie_of, keep_table, cover_table}
use Rattle.sl_law_meaning.specs.meaning.Means.{Known, nothing_known, context_of, with_stage, StagesResult, Through, Stopped}
use Rattle.sl_law_meaning.specs.meaning.Counts.{kept_table}
use Rattle.sl_law_meaning.specs.meaning.Tables.{SeatTable}
use Rattle.sl_law_meaning.specs.laws.Ladders.{covering_ladders}
use Rattle.sl_law_certificates.specs.Cuts.{Told, shown_choice}
use Rattle.sl_law_certificates.specs.Awards.{shown_split, shown_growth}

-- what is told of the scopes of each stage, stage by stage; and of each list under `cover`, in list order: who of its winners sits
pub record Certificate : Type 0 where
  pub stages : List (List Told)
  pub lists : List Told

-- what is shown of each of these, in order, by what is told of it, up to the first fault; nothing if one up to there is not shown
module _ {A B : Type 0} (fault : A × B → Option LegalFault) (shows : A → Told → Option B) where
  abbrev pub each_shown : List A → List Told → Option (List B)
  each_shown [] ts = Some []
  each_shown (x ∷ xs) [] = None
  each_shown (x ∷ xs) (t ∷ ts) =
      option_and_then (λ y. if is_some (fault (x, y)) then Some (y ∷ []) else option_map (λ ys. y ∷ ys) (each_shown xs ts)) (shows x t)

-- ---- splits and growths

module _ (e : Election) (at : Stand) (amounts votes : List ℕ) where
  abbrev pub split_in : Method → Majority → Option (List ℕ) → Group → Told → Option Award
  split_in method majority minima g =
      shown_split method majority g.entries (stage_lot e at.name at.shape g.entries)
      (cells e g.entries votes) (minima_at e g votes minima) (amount_of e at amounts g)

  abbrev pub growth_in : Divisor → Majority → List ℕ → ℕ → Group → Told → Option Award
  growth_in d majority minima cap g =
      shown_growth d majority g.entries (stage_lot e at.name at.shape g.entries)
      (cells e g.entries votes) (cells e g.entries minima) (amount_of e at amounts g) cap

  -- a scope with more seats than the limit is the fault, or else the first one in the order of scopes
  module _ (ts : List Told) where
    abbrev pub shown_joined : (Group → Told → Option Award) → (Group → List ℕ → Records) → List Group → Option ExprResult
    shown_joined award records groups =
        option_or (option_map (λ g. Fault (fault_at at.stage g.scope fault.Limit)) (first_over e at amounts groups))
        (option_map (joined e at amounts records groups) (each_shown (fault_of at.stage) award groups ts))

    abbrev pub shown_split_of : Shape → Method → Majority → Option (List ℕ) → Option ExprResult
    shown_split_of over method majority minima =
        shown_joined (split_in method majority minima) (split_records e at amounts votes method majority minima) (scopes e over at.shape)

    abbrev pub shown_growth_of : Divisor → Majority → List ℕ → ℕ → Option ExprResult
    shown_growth_of d majority minima cap =
        shown_joined (growth_in d majority minima cap) (growth_records e at amounts votes d minima) (scopes e shape.One at.shape)

-- ---- expressions and stages

-- what follows from a column that is shown
abbrev pub then_shown : Option ExprResult → (List ℕ → Option ExprResult) → Option ExprResult
then_shown None next = None
then_shown (Some (Fault f)) next = Some (Fault f)
then_shown (Some (Column c records)) next = option_map (behind records) (next c)

module _ (b : BookTree) (e : Election) where
  abbrev pub shown_leaf : List NamedColumn → ExprTree → Option (List ℕ)
  shown_leaf stages (fact at told) = Some (fact_column b e told)
  shown_leaf stages (name at n) = option_map (λ s. s.values) (find (is_column_of n) stages)
  shown_leaf stages _ = None

  -- an expression, by what is told of the scopes of its split. Largest remainders have no minima, and no house grows by them
  module _ (c : Context) (ts : List Told) where
    abbrev pub shown_expr : ExprTree → Option ExprResult
    shown_expr (fact at told) = option_map plain (shown_leaf c.columns (fact at told))
    shown_expr (name at n) = option_map plain (shown_leaf c.columns (name at n))
    shown_expr (sum_tree at x over) = then_shown (shown_expr x) (λ xs. Some (plain (sum_over e over xs)))
    shown_expr (pair at pairing x y) =
        then_shown (shown_expr x) (λ xs. then_shown (shown_expr y) (λ ys. Some (plain (pair_of pairing xs ys))))
    shown_expr (split at s v method without majority) =
        then_shown (shown_expr s) (λ amounts. then_shown (shown_expr v)
        (λ votes. shown_split_of e (stand c v) amounts votes ts (shape_in c s) method majority None))
    shown_expr (split at s v (by.Divisor d) (atleast m) majority) =
        then_shown (shown_expr s) (λ amounts. then_shown (shown_expr v) (λ votes. then_shown (shown_expr m)
        (λ minima. shown_split_of e (stand c v) amounts votes ts (shape_in c s) (by.Divisor d) majority (Some minima))))
    shown_expr (grow at s v (by.Divisor d) m cap majority) =
        then_shown (shown_expr s) (λ amounts. then_shown (shown_expr v) (λ votes. then_shown (shown_expr m)
        (λ minima. shown_growth_of e (stand c v) amounts votes ts d majority minima cap.value)))
    shown_expr (split at s v by.Hamilton (atleast m) majority) = None
    shown_expr (grow at s v by.Hamilton m cap majority) = None

  -- a fault stops the run, and a column goes on
  abbrev pub on_shown : Option ExprResult → (List ℕ → Records → Option StagesResult) → Option StagesResult
  on_shown None next = None
  on_shown (Some (Fault f)) next = Some (Stopped f)
  on_shown (Some (Column values records)) next = next values records

  abbrev pub shown_stages : Known → List StageTree → List (List Told) → Option StagesResult
  shown_stages k [] tss = Some (Through k)
  shown_stages k (s ∷ ss) [] = None
  shown_stages k (s ∷ ss) (ts ∷ tss) =
      on_shown (shown_expr (context_of k s) ts s.expr) (λ values records. shown_stages (with_stage k s values records) ss tss)

  -- ---- the last clause

  -- who of a list's winners sits: as many as it has seats in the base, by their shares of the first votes
  abbrev pub shown_seating : List ℕ → ℕ × ℕ → Told → Option Choice
  shown_seating base l t =
      let won = winners_of (is_eligible b.eligible e) e l.0 l.1 in
      if nat_eq (sum t.seats) (min (list_cell e base l.0 l.1) (length won))
      then shown_choice (covering_ladders (map (λ x. x.1.first) won) (map (λ x. x.1.valid) won)) t
      (seats_lot e (winner_items (is_eligible b.eligible e) e l.0 l.1))
      else None

  -- the first tie of a list, and without one the table
  abbrev pub covered : List ℕ → Records → List Choice → Outcome
  covered base records choices =
      let given = zip (lists_of e) choices in
      unwrap_or (option_map (λ f. outcome.Fault f) (slice_get (filter_map (tie_of (is_eligible b.eligible e) e (length b.stages)) given) 0))
      (outcome.Table (cover_table b e base records given))

  abbrev pub shown_seated : List Told → Seating → List ℕ → Records → Option Outcome
  shown_seated ts seating.Keep base records = Some (outcome.Table (keep_table b e base records))
  shown_seated ts seating.Cover base records =
      option_map (covered base records)
      (each_shown (tie_of (is_eligible b.eligible e) e (length b.stages)) (shown_seating base) (lists_of e) ts)

  abbrev pub shown_end : List Told → StagesResult → Option Outcome
  shown_end ts (Stopped f) = Some (outcome.Fault f)
  shown_end ts (Through k) =
      option_and_then (λ base. shown_seated ts b.last.seating base k.records) (shown_leaf k.columns (base_of b.last))

  -- the outcome that a certificate shows, if it shows one
  abbrev pub shown : Certificate → Option Outcome
  shown c = option_and_then (shown_end c.lists) (shown_stages nothing_known b.stages c.stages)

-- the table, without its steps and weights
abbrev pub table_in : Outcome → Option SeatTable
table_in (outcome.Table t) = Some (kept_table Dropped t)
table_in (outcome.Fault f) = None

abbrev pub shown_table : BookTree → Election → Certificate → Option SeatTable
shown_table b e c = option_and_then table_in (shown b e c)
