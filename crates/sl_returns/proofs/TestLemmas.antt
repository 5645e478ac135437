-- Lists of tests, one after the other, and what they say of a record that passes them.
use Rattle.std.proofs.Common.{◌≡◌, Bool, true, false, [], ◌++◌, Some, refl, sym, ap, subst, inl, inr, ◌∙◌, Result, Ok, Err, IfErr, OnOk, IsOk}
use Rattle.std.specs.Result.{IsErrAnd}
use Rattle.std.proofs.lemmas.Bool.{false≢true}
use Rattle.std.proofs.lemmas.Option.{none-some}
use Rattle.sl_returns.specs.declared.fault.RecordFault.{RecordFault}
use Rattle.sl_returns.specs.declared.fault.FaultKind.TheVariants as fault
use Rattle.sl_base_terms.specs.Tests.{first_failing}
use Rattle.sl_base_terms.proofs.Tests.{fails_in_row, fails_first, pass_parts}
use Rattle.sl_returns.specs.Faults.{of_record}
use Rattle.sl_returns.specs.Tests.{Tests, one_test, Pass, FailBy, Refuse}
use Rattle.sl_returns.specs.inner.Joining.{OwnFault}

-- where the first tests hold, the others decide
pub passes : (ts us : Tests) → Pass ts → first_failing (ts ++ us) ≡ first_failing us
passes ts us h = fails_in_row ts us ∙ rw h.none refl

-- where one of the first tests fails, the others don't count
pub fails : (ts us : Tests) (k : RecordFault) → FailBy ts k → first_failing (ts ++ us) ≡ Some k
fails ts us k h = fails_first ts us k h.first

-- no tests
pub nothing : Pass []
nothing = record { none = refl }

-- tests after tests that hold
pub both : {ts us : Tests} → Pass ts → Pass us → Pass (ts ++ us)
both {ts} {us} h more = record { none = passes ts us h ∙ more.none }

pub after : {ts us : Tests} {k : RecordFault} → Pass ts → FailBy us k → FailBy (ts ++ us) k
after {ts} {us} {k} h f = record { first = passes ts us h ∙ f.first }

pub here : {ts : Tests} {k : RecordFault} (us : Tests) → FailBy ts k → FailBy (ts ++ us) k
here {ts} {k} us f = record { first = fails ts us k f }

-- what a `?` hands on is that fault
pub exit : {ts : Tests} {k : RecordFault} (r : Result (Unit {0}) RecordFault) → IsErrAnd r (λ e. e ≡ k) → FailBy ts k → IfErr r (Refuse ts)
exit (Ok u) h f = absurd h
exit {ts} (Err e) h f = inl (subst (λ k. FailBy ts k) (sym h) f)

-- the same, where the function itself promises no more than the first fault
pub refusing : {X : Type 0} {ts : Tests} {k : RecordFault} (r : Result X RecordFault) → IsErrAnd r (λ e. e ≡ k) → FailBy ts k → IfErr r (FailBy ts)
refusing (Ok x) h f = absurd h
refusing {X} {ts} (Err e) h f = subst (λ k. FailBy ts k) (sym h) f

-- where every test holds, the returns refuse a record only for lack of memory
pub wanting : {ts : Tests} (r : Result (Unit {0}) RecordFault) → Pass ts → IfErr r (λ k. k ≡ of_record fault.NoMemory) → IfErr r (Refuse ts)
wanting (Ok u) h e = tt
wanting (Err k) h e = inr (h, e)

-- the same, where a `?` hands that on
pub left_wanting : {ts : Tests} {k : RecordFault} (r : Result (Unit {0}) RecordFault) → IsErrAnd r (λ e. e ≡ k) → Pass ts → k ≡ of_record fault.NoMemory → IfErr r (Refuse ts)
left_wanting (Ok u) h passed wants = absurd h
left_wanting (Err e) h passed wants = inr (passed, h ∙ wants)

-- where the returns took a record, its tests hold and they have it
pub taken : {P E : Type 0} (Q : Type 0) (r : Result (Unit {0}) RecordFault) (answer : Result (Unit {0}) E) → IsOk answer → P → OnOk answer Q → OnOk r (P × Q)
taken Q (Err k) answer ok p q = tt
taken Q (Ok u) (Ok v) ok p q = (p, q)
taken Q (Ok u) (Err e) ok p q = absurd (false≢true ok)

-- tests that hold one after the other each hold
pub parts : (ts us : Tests) → Pass (ts ++ us) → Pass ts × Pass us
parts ts us h =
    let both_pass = pass_parts ts us h.none in
    (record { none = both_pass.0 }, record { none = both_pass.1 })

-- a test that holds
pub holds : (b : Bool) (k : RecordFault) → Pass (one_test b k) → b ≡ true
unfolding one_test
holds true k h = refl
holds false k h = absurd (none-some k (sym h.none))

-- where nothing was changed, nothing is, whatever the answer
pub unchanged : {T Q : Type 0} (r : Result T RecordFault) → Q → OwnFault r Q
unchanged (Ok u) q = tt
unchanged (Err k) q = λ own. q

-- out of memory is no fault of the record
pub wants : {T : Type 0} (Q : Type 0) (r : Result T RecordFault) → IfErr r (λ k. k ≡ of_record fault.NoMemory) → OwnFault r Q
wants Q (Ok u) h = tt
wants Q (Err k) h = λ own. absurd (own (ap (λ (f : RecordFault). f.kind) h))
