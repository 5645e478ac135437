-- A builder that takes one record more.
use Rattle.std.proofs.Common.{◌≡◌, ◌+◌, ◌-◌, ◌^◌, ℕ, min, List, [], ◌∷◌, ◌++◌, length, Option, Some, None, inl, inr, ◌≢◌, refl, sym, ap, subst, ◌∙◌, arith, append_assoc}
use Rattle.std.specs.Option.{option_map, option_or}
use Rattle.std.proofs.lemmas.List.{append-nil, length_push}
use Rattle.std.proofs.lemmas.Option.{none-some}
use Rattle.sl_law_meaning.specs.returns.Election.{Election}
use Rattle.sl_returns.specs.declared.fault.FaultKind.{FaultKind}
use Rattle.sl_returns.specs.declared.fault.RecordFault.{RecordFault}
use Rattle.sl_returns.specs.declared.fault.FaultKind.TheVariants as fault
use Rattle.sl_returns.specs.Faults.{fault_at, of_record, row_behind, row_told}
use Rattle.sl_returns.specs.declared.header.Version.{Version}
use Rattle.sl_returns.specs.Cells.{Record}
use Rattle.sl_returns.specs.Headers.{version_of}
use Rattle.sl_returns.specs.Records.{election_of_records}
use Rattle.sl_base_terms.specs.Tests.{first_failing}
use Rattle.sl_returns.specs.Tests.{Pass, FailBy, record_tests}
use Rattle.sl_returns.specs.inner.Joining.{with_record, TakesRecord, RefusesRecord}
use Rattle.sl_returns.specs.Returns.{fault_behind, first_fault, refusal_under, refusal_of}
use Rattle.sl_returns.specs.inner.Building.{Building, HasRowBehind, last_row, StandsFor, RefusesLast}
use Rattle.sl_returns.proofs.Steps.{IsGood, no_records, grows}

-- ---- the first of two options

module _ {X : Type 0} where
  or_none : (o : Option X) → option_or o None ≡ o
  or_none None = refl
  or_none (Some x) = refl

  or_assoc : (a b c : Option X) → option_or (option_or a b) c ≡ option_or a (option_or b c)
  or_assoc None b c = refl
  or_assoc (Some x) b c = refl

  pub neither : (a b : Option X) → option_or a b ≡ None → (a ≡ None) × (b ≡ None)
  neither None b h = (refl, h)
  neither (Some x) b h = absurd (none-some x (sym h))

unmapped : {X Y : Type 0} (f : X → Y) (o : Option X) → option_map f o ≡ None → o ≡ None
unmapped f None h = refl
unmapped f (Some x) h = absurd (none-some (f x) (sym h))

-- ---- one record more

pub first_fault-push : (v : Version) (before rest : List Record) (r : Record) → first_fault v before (rest ++ r ∷ []) ≡ option_or (first_fault v before rest) (fault_behind v (before ++ rest) r)
first_fault-push v before [] r = or_none (fault_behind v before r) ∙ ap (λ b. fault_behind v b r) (sym (append-nil before))
first_fault-push v before (x ∷ rest) r =
    let more = first_fault-push v (before ++ x ∷ []) rest r ∙ ap (λ b. option_or (first_fault v (before ++ x ∷ []) rest) (fault_behind v b r)) (append_assoc before (x ∷ []) rest) in
    ap (option_or (fault_behind v before x)) more ∙ sym (or_assoc (fault_behind v before x) (first_fault v (before ++ x ∷ []) rest) (fault_behind v (before ++ (x ∷ rest)) r))

-- records none of which is refused are good
pub good_from : (v : Version) (before rest : List Record) → IsGood before → first_fault v before rest ≡ None → IsGood (before ++ rest)
good_from v before [] good h = subst IsGood (sym (append-nil before)) good
good_from v before (x ∷ rest) good h =
    let (none, more) = neither (fault_behind v before x) (first_fault v (before ++ x ∷ []) rest) h in
    let passed = unmapped (fault_at (row_behind (length before + 1))) (first_failing (record_tests v (election_of_records before) x)) none in
    let next = (grows before x good v (record { none = passed })).good in
    subst IsGood (append_assoc before (x ∷ []) rest) (good_from v (before ++ x ∷ []) rest next more)

-- records after a header, none of which is refused
pub record Sound (h : Record) (rest : List Record) : Type 0 where
  pub version : Version
  pub header : version_of h ≡ Some version
  pub none : first_fault version [] rest ≡ None

pub sound : (h : Record) (rest : List Record) → refusal_of (h ∷ rest) ≡ None → Sound h rest
sound h rest accepted = go (version_of h) refl accepted
  where
    go : (o : Option Version) → version_of h ≡ o → refusal_under o rest ≡ None → Sound h rest
    go None e n = absurd (none-some (fault_at (row_behind 0) (of_record fault.Header)) (sym n))
    go (Some v) e n = record { version = v; header = e; none = n }

refusal_push : (h : Record) (rest : List Record) (r : Record) (is : Sound h rest) → refusal_of ((h ∷ rest) ++ r ∷ []) ≡ fault_behind is.version rest r
refusal_push h rest r is =
    let behind = first_fault-push is.version [] rest r ∙ ap (λ o. option_or o (fault_behind is.version rest r)) is.none in
    ap (λ o. refusal_under o (rest ++ r ∷ [])) is.header ∙ behind

-- the row after a row
abbrev pub row_after : ℕ → ℕ
row_after row = min (row + 1) (2 ^ 32 - 1)

pub rows_go : (rest : List Record) (r : Record) (row : ℕ) → row ≡ row_behind (length rest) → row_after row ≡ row_behind (length (rest ++ r ∷ []))
rows_go rest r row h = omega (arith, h, length_push rest r)

-- ---- a record that is taken

-- the builder with a record more
abbrev pub after : Building → Version → Election → Building
after b v e = record { election = e; version = Some v; row = row_after b.row; fault = b.fault }

taken_first : (b : Building) (r : Record) (v : Version) (e : Election) → StandsFor b [] → TakesRecord None v b.election e r → StandsFor (after b v e) (r ∷ [])
taken_first b r v e s t = record {
  accepted = ap (λ o. refusal_under o []) t.0;
  going = s.going;
  election = t.1 ∙ s.election;
  version = sym t.0;
  row = ap row_after s.row;
}

-- after records none of which is refused, a record that passes its tests is not refused either
not_refused : (b : Building) (h : Record) (rest : List Record) (r : Record) (is : Sound h rest) → StandsFor b (h ∷ rest) → Pass (record_tests is.version b.election r) → refusal_of ((h ∷ rest) ++ r ∷ []) ≡ None
not_refused b h rest r is s passed =
    let here : Pass (record_tests is.version (election_of_records rest) r) = subst (λ x. Pass (record_tests is.version x r)) s.election passed in
    refusal_push h rest r is ∙ ap (option_map (fault_at (row_behind (length rest + 1)))) here.none

taken_next : (b : Building) (h : Record) (rest : List Record) (r : Record) (v : Version) (e : Election) (is : Sound h rest) → StandsFor b (h ∷ rest) → TakesRecord (Some is.version) v b.election e r
    → StandsFor (after b v e) ((h ∷ rest) ++ r ∷ [])
taken_next b h rest r v e is s (same, passes, joins) =
    let good = good_from is.version [] rest no_records is.none in
    let passed : Pass (record_tests is.version (election_of_records rest) r) = subst (λ x. Pass (record_tests is.version x r)) s.election passes in
    record {
      accepted = not_refused b h rest r is s passes;
      going = s.going;
      election = joins ∙ ap (λ x. with_record x r) s.election ∙ sym (grows rest r good is.version passed).election;
      version = ap Some same ∙ sym is.header;
      row = rows_go rest r b.row s.row;
    }

pub taken : (b : Building) (rs : List Record) (r : Record) (v : Version) (e : Election) → StandsFor b rs → TakesRecord b.version v b.election e r → StandsFor (after b v e) (rs ++ r ∷ [])
taken b [] r v e s t = taken_first b r v e s (subst (λ o. TakesRecord o v b.election e r) s.version t)
taken b (h ∷ rest) r v e s t =
    let is = sound h rest s.accepted in
    taken_next b h rest r v e is s (subst (λ o. TakesRecord o v b.election e r) (s.version ∙ is.header) t)

-- ---- a record that is refused

refused_next : (b : Building) (h : Record) (rest : List Record) (r : Record) (k : RecordFault) (is : Sound h rest) → StandsFor b (h ∷ rest) → RefusesRecord (Some is.version) b.election r k
    → RefusesLast ((h ∷ rest) ++ r ∷ []) (fault_at (row_after b.row) k)
refused_next b h rest r k is s refuses =
    let row : row_after b.row ≡ row_behind (length rest + 1) = omega (arith, s.row) in
    elim refuses [
      | inl fails ↦
          let first : FailBy (record_tests is.version (election_of_records rest) r) k = subst (λ x. FailBy (record_tests is.version x r) k) s.election fails in
          inl (refusal_push h rest r is ∙ ap (option_map (fault_at (row_behind (length rest + 1)))) first.first ∙ ap (λ n. Some (fault_at n k)) (sym row))
      | inr wants ↦ inr (not_refused b h rest r is s wants.0, ap (fault_at (row_after b.row)) wants.1)
    ]

refused_first : (b : Building) (r : Record) (k : RecordFault) → StandsFor b [] → RefusesRecord None b.election r k → RefusesLast (r ∷ []) (fault_at (row_after b.row) k)
refused_first b r k s (none, header) =
    let row : row_behind 0 ≡ row_after b.row = ap row_after (sym s.row) in
    inl (ap (λ o. refusal_under o []) none ∙ rw header (ap (λ n. Some (fault_at n (of_record fault.Header))) row))

pub refused : (b : Building) (rs : List Record) (r : Record) (k : RecordFault) → StandsFor b rs → RefusesRecord b.version b.election r k → RefusesLast (rs ++ r ∷ []) (fault_at (row_after b.row) k)
refused b [] r k s refuses = refused_first b r k s (subst (λ o. RefusesRecord o b.election r k) s.version refuses)
refused b (h ∷ rest) r k s refuses =
    let is = sound h rest s.accepted in
    refused_next b h rest r k is s (subst (λ o. RefusesRecord o b.election r k) (s.version ∙ is.header) refuses)

-- ---- the row of a fault

pub row_is : (row : ℕ) (k : FaultKind) → k ≢ fault.NoMemory → row_told row k ≡ row
row_is row fault.Header h = refl
row_is row fault.Fields h = refl
row_is row fault.Kind h = refl
row_is row fault.Name h = refl
row_is row fault.Number h = refl
row_is row fault.Range h = refl
row_is row fault.Unknown h = refl
row_is row fault.Twice h = refl
row_is row fault.Counted h = refl
row_is row fault.TooMany h = refl
row_is row fault.NoLand h = refl
row_is row fault.NoMemory h = absurd (h refl)

next_row : (rs : List Record) (row : ℕ) → row ≡ last_row rs → row_after row ≡ row_behind (length rs)
next_row [] row h = ap row_after h
next_row (r ∷ rest) row h = omega (arith, h)

pub has_row : (b : Building) (rs : List Record) (f : RecordFault) → StandsFor b rs → HasRowBehind (length rs) (fault_at (row_after b.row) f)
has_row b rs f s h = row_is (row_after b.row) f.kind h ∙ next_row rs b.row s.row
