-- What an expression of a rulebook comes to: a column with the records of its seats, or a legal fault; and how a split's or a growth's
-- scopes make one (docs/meaning.md, section 6).
use Rattle.std.specs.Prelude.{◌≡◌, ℕ, List, Option, Some, None, MatchOption, option_map, unwrap_or, flat_map, filter_map, find, nat_lt, slice_get, slice_index}
use Rattle.std.specs.List.{zip, AllZip}
use Rattle.sl_base_quotients.specs.declared.limits.TheConstants.{MAX_SEATS}
use Rattle.sl_base_terms.specs.declared.shape.Shape.{Shape}
use Rattle.sl_law_meaning.specs.declared.fault.Scope.{Scope}
use Rattle.sl_law_meaning.specs.declared.fault.FaultKind.{FaultKind}
use Rattle.sl_law_meaning.specs.declared.fault.FaultKind.TheVariants as fault
use Rattle.sl_law_meaning.specs.declared.fault.LegalFault.{LegalFault}
use Rattle.sl_law_meaning.specs.returns.Election.{Election}
use Rattle.sl_law_meaning.specs.meaning.Scopes.{Group, pair_column}
use Rattle.sl_law_meaning.specs.meaning.Records.{Records, no_records, both_records}
use Rattle.sl_law_meaning.specs.meaning.Splits.{Award, Seats, Refused, awarded}

pub data ExprResult : Type 0 where
  Column : (values : List ℕ) (records : Records) → ExprResult
  Fault : (fault : LegalFault) → ExprResult

-- a column without records
abbrev pub plain : List ℕ → ExprResult
plain c = Column c no_records

-- a result, with records from before it
abbrev pub behind : Records → ExprResult → ExprResult
behind before (Column c records) = Column c (both_records before records)
behind before (Fault f) = Fault f

-- what comes first, and then, if that is no fault, what follows from its column
abbrev pub Continues : (List ℕ → ExprResult → Type 0) → ExprResult → ExprResult → Type 0
Continues Next (Fault f) r = r ≡ Fault f
Continues Next (Column c records) r = (q : ExprResult) × Next c q × (r ≡ behind records q)

pub record Then (First : ExprResult → Type 0) (Next : List ℕ → ExprResult → Type 0) (r : ExprResult) : Type 0 where
  pub first : ExprResult
  pub comes : First first
  pub goes_on : Continues Next first r

-- ---- from the scopes of a stage to a result

-- where a split or a growth stands, and of what it is: the number and the name of its stage, and the shape of its votes
pub record Stand : Type 0 where
  pub stage : ℕ
  pub name : List ℕ
  pub shape : Shape

abbrev pub fault_at : ℕ → Scope → FaultKind → LegalFault
fault_at n s k = record { stage = n; scope = s; kind = k }

-- the fault of a scope, if it ends in one
abbrev pub fault_of : ℕ → Group × Award → Option LegalFault
fault_of n x = in_scope x.1 where
  in_scope : Award → Option LegalFault
  in_scope (Seats s) = None
  in_scope (Refused kind) = Some (fault_at n x.0.scope kind)

module _ (e : Election) (at : Stand) (amounts : List ℕ) where
  -- the amount of seats of a scope
  abbrev pub amount_of : Group → ℕ
  amount_of g = slice_index amounts g.amount_place

  -- the first scope that has more seats to distribute than the limit
  abbrev pub first_over : List Group → Option Group
  first_over groups = find (λ g. nat_lt MAX_SEATS (amount_of g)) groups

  -- the first fault of the scopes; without one, the column of their seats, with their records
  abbrev pub joined : (Group → List ℕ → Records) → List Group → List Award → ExprResult
  joined records groups awards =
      let given = zip groups awards in
      unwrap_or (option_map (λ f. Fault f) (slice_get (filter_map (fault_of at.stage) given) 0))
      (Column (pair_column e at.shape (flat_map (λ x. zip x.0.entries (awarded x.1)) given))
      (record {
        steps = flat_map (λ x. (records x.0 (awarded x.1)).steps) given;
        weights = flat_map (λ x. (records x.0 (awarded x.1)).weights) given;
      }))

  -- each scope yields an award, and these make the result
  pub record AreJoined (IsAward : Group → Award → Type 0) (records : Group → List ℕ → Records) (groups : List Group) (r : ExprResult) : Type 0 where
    pub awards : List Award
    pub each : AllZip IsAward groups awards
    pub is : r ≡ joined records groups awards

  -- the limit is tested over all scopes first
  abbrev pub IsShared : (Group → Award → Type 0) → (Group → List ℕ → Records) → List Group → ExprResult → Type 0
  IsShared IsAward records groups r =
      MatchOption (first_over groups) (AreJoined IsAward records groups r) (λ g. r ≡ Fault (fault_at at.stage g.scope fault.Limit))
