-- The records that are taken and those that are refused, where each that is refused is left out for those after it.
use Rattle.std.proofs.Common.{◌≡◌, ◌≢◌, ◌+◌, ℕ, suc, List, [], ◌∷◌, ◌++◌, length, slice_get, Option, Some, None, refl, sym, ap, subst, ◌∙◌, arith, append_assoc, inr, Err}
use Rattle.std.specs.Option.{option_map, option_or}
use Rattle.std.proofs.lemmas.List.{append-nil, length_push}
use Rattle.std.proofs.lemmas.Option.{none-some, same_Some}
use Rattle.sl_returns.specs.declared.fault.FaultKind.TheVariants as fault
use Rattle.sl_returns.specs.declared.fault.RecordFault.{RecordFault}
use Rattle.sl_returns.specs.declared.header.Version.{Version}
use Rattle.sl_returns.specs.Cells.{Record}
use Rattle.sl_returns.specs.Faults.{fault_at, row_behind}
use Rattle.sl_returns.specs.Further.{Refusal, in_row, own_fault, refused_from, refused_of, refused_under, refusals_for, taken_from, taken_of}
use Rattle.sl_returns.specs.Headers.{version_of}
use Rattle.sl_returns.specs.Laws.{OthersAreTaken}
use Rattle.sl_returns.specs.Records.{election_of_records}
use Rattle.sl_returns.specs.Returns.{IsRefusedRecord, behind_header, first_fault, lack_of, refusal_of, refusal_under, returns_of, unless}
use Rattle.sl_returns.proofs.Feeding.{first_fault-push, row_is}
use Rattle.sl_returns.proofs.Steps.{IsGood, grows}

-- ---- one record more

pub taken_from-push : (v : Version) (taken rest : List Record) (r : Record) → taken_from v taken (rest ++ r ∷ []) ≡ taken_from v taken rest ++ taken_of (own_fault v (taken_from v taken rest) r) r
taken_from-push v taken [] r = refl
taken_from-push v taken (x ∷ rest) r = taken_from-push v (taken ++ taken_of (own_fault v taken x) x) rest r

pub refused_from-push : (v : Version) (before : ℕ) (taken rest : List Record) (r : Record) → refused_from v before taken (rest ++ r ∷ []) ≡ refused_from v before taken rest ++ refusals_for (in_row (before + length rest) (own_fault v (taken_from v taken rest) r)) r
refused_from-push v before taken [] r =
    let row : before ≡ before + 0 = omega arith in
    append-nil (refusals_for (in_row before (own_fault v taken r)) r) ∙ ap (λ n. refusals_for (in_row n (own_fault v taken r)) r) row
refused_from-push v before taken (x ∷ rest) r =
    let after = taken ++ taken_of (own_fault v taken x) x in
    let here = refusals_for (in_row before (own_fault v taken x)) x in
    let last : ℕ → List Refusal = λ n. refusals_for (in_row n (own_fault v (taken_from v after rest) r)) r in
    let row : before + 1 + length rest ≡ before + length (x ∷ rest) = omega arith in
    ap (λ l. here ++ l) (refused_from-push v (before + 1) after rest r)
    ∙ sym (append_assoc here (refused_from v (before + 1) after rest) (last (before + 1 + length rest)))
    ∙ ap (λ n. (here ++ refused_from v (before + 1) after rest) ++ last n) row

-- the records that are taken are good
pub good_taken : (v : Version) (taken rest : List Record) → IsGood taken → IsGood (taken_from v taken rest)
good_taken v taken [] good = good
good_taken v taken (r ∷ rest) good = good_taken v (taken ++ taken_of (own_fault v taken r) r) rest (go (own_fault v taken r) refl)
  where
    go : (o : Option RecordFault) → own_fault v taken r ≡ o → IsGood (taken ++ taken_of o r)
    go None passed = (grows taken r good v (record { none = passed })).good
    go (Some f) failed = subst IsGood (sym (append-nil taken)) good

-- ---- none is refused

pub all_taken : (v : Version) (before : ℕ) (taken rest : List Record) → refused_from v before taken rest ≡ [] → taken_from v taken rest ≡ taken ++ rest
all_taken v before taken [] h = sym (append-nil taken)
all_taken v before taken (r ∷ rest) h = go (own_fault v taken r) h (λ t more. all_taken v (before + 1) t rest more)
  where
    go : (o : Option RecordFault) → refusals_for (in_row before o) r ++ refused_from v (before + 1) (taken ++ taken_of o r) rest ≡ [] → ((t : List Record) → refused_from v (before + 1) t rest ≡ [] → taken_from v t rest ≡ t ++ rest)
        → taken_from v (taken ++ taken_of o r) rest ≡ taken ++ (r ∷ rest)
    go None h later = later (taken ++ r ∷ []) h ∙ append_assoc taken (r ∷ []) rest
    go (Some f) h later = cc

-- ---- the first that is refused

-- it is the one for which the records are
pub first_from : (v : Version) (before rest : List Record) → first_fault v before rest ≡ option_map (λ x. x.fault) (slice_get (refused_from v (length before + 1) before rest) 0)
first_from v before [] = refl
first_from v before (r ∷ rest) = go (own_fault v before r) (first_from v (before ++ r ∷ []) rest)
  where
    go : (o : Option RecordFault) → first_fault v (before ++ r ∷ []) rest ≡ option_map (λ x. x.fault) (slice_get (refused_from v (length (before ++ r ∷ []) + 1) (before ++ r ∷ []) rest) 0)
        → option_or (in_row (length before + 1) o) (first_fault v (before ++ r ∷ []) rest)
        ≡ option_map (λ x. x.fault) (slice_get (refusals_for (in_row (length before + 1) o) r ++ refused_from v (length before + 1 + 1) (before ++ taken_of o r) rest) 0)
    go None later =
        let row : length (before ++ r ∷ []) + 1 ≡ length before + 1 + 1 = omega (arith, length_push before r) in
        later ∙ ap (λ n. option_map (λ (x : Refusal). x.fault) (slice_get (refused_from v n (before ++ r ∷ []) rest) 0)) row
    go (Some f) later = refl

pub first_of : (rs : List Record) → refusal_of rs ≡ option_map (λ x. x.fault) (slice_get (refused_of rs) 0)
first_of [] = refl
first_of (h ∷ rest) = go (version_of h)
  where
    go : (o : Option Version) → refusal_under o rest ≡ option_map (λ x. x.fault) (slice_get (refused_under o h rest) 0)
    go None = refl
    go (Some v) = first_from v [] rest

-- where a refused record stands among records before which there are so many
record Stands (before : ℕ) (rest : List Record) (x : Refusal) : Type 0 where
  place : ℕ
  there : slice_get rest place ≡ Some x.fields
  row : x.fault.kind ≢ fault.NoMemory → x.fault.row ≡ row_behind (before + place)

stands_first : (before : ℕ) (f : RecordFault) (r : Record) (rest : List Record) → Stands before (r ∷ rest) (record { fault = fault_at (row_behind before) f; fields = r })
stands_first before f r rest =
    let here : before ≡ before + 0 = omega arith in
    record { place = 0; there = refl; row = λ own. row_is (row_behind before) f.kind own ∙ ap row_behind here }

stands_later : (before : ℕ) (r : Record) (rest : List Record) (x : Refusal) → Stands (before + 1) rest x → Stands before (r ∷ rest) x
stands_later before r rest x s =
    let there : before + 1 + s.place ≡ before + suc s.place = omega arith in
    record { place = suc s.place; there = s.there; row = λ own. s.row own ∙ ap row_behind there }

stands_from : (v : Version) (before : ℕ) (taken rest : List Record) (x : Refusal) → slice_get (refused_from v before taken rest) 0 ≡ Some x → Stands before rest x
stands_from v before taken [] x h = absurd (none-some x h)
stands_from v before taken (r ∷ rest) x h = go (own_fault v taken r) h (λ t more. stands_from v (before + 1) t rest x more)
  where
    go : (o : Option RecordFault) → slice_get (refusals_for (in_row before o) r ++ refused_from v (before + 1) (taken ++ taken_of o r) rest) 0 ≡ Some x
        → ((t : List Record) → slice_get (refused_from v (before + 1) t rest) 0 ≡ Some x → Stands (before + 1) rest x) → Stands before (r ∷ rest) x
    go None h later = stands_later before r rest x (later (taken ++ r ∷ []) h)
    go (Some f) h later = subst (λ y. Stands before (r ∷ rest) y) (same_Some _ x h) (stands_first before f r rest)

-- the record that is refused first is among the records, in the row of its fault
pub first_stands : (rs : List Record) (x : Refusal) → slice_get (refused_of rs) 0 ≡ Some x → IsRefusedRecord rs x.fault x.fields
first_stands [] x h = absurd (none-some x h)
first_stands (h ∷ rest) x is = go (version_of h) is
  where
    go : (o : Option Version) → slice_get (refused_under o h rest) 0 ≡ Some x → IsRefusedRecord (h ∷ rest) x.fault x.fields
    go None is = subst (λ (y : Refusal). IsRefusedRecord (h ∷ rest) y.fault y.fields) (same_Some _ x is) (inr (0, refl, λ own. refl))
    go (Some v) is =
        let s = stands_from v 1 [] rest x is in
        let place : 1 + s.place ≡ suc s.place = omega arith in
        inr (suc s.place, s.there, λ own. s.row own ∙ ap row_behind place)

-- and the records are refused for it
pub refused_for_first : (rs : List Record) (x : Refusal) → slice_get (refused_of rs) 0 ≡ Some x → returns_of rs ≡ Err x.fault
refused_for_first rs x h =
    let first = first_of rs ∙ ap (option_map (λ (y : Refusal). y.fault)) h in
    ap (λ o. unless (option_or o (lack_of rs)) (election_of_records (behind_header rs))) first

-- ---- the records that are taken, by themselves

-- none of them is refused
taken_pass : (v : Version) (taken rest : List Record) → first_fault v [] taken ≡ None → first_fault v [] (taken_from v taken rest) ≡ None
taken_pass v taken [] h = h
taken_pass v taken (r ∷ rest) h = taken_pass v (taken ++ taken_of (own_fault v taken r) r) rest (go (own_fault v taken r) refl)
  where
    go : (o : Option RecordFault) → own_fault v taken r ≡ o → first_fault v [] (taken ++ taken_of o r) ≡ None
    go None passed =
        first_fault-push v [] taken r
        ∙ ap (λ a. option_or a (in_row (length taken + 1) (own_fault v taken r))) h
        ∙ ap (in_row (length taken + 1)) passed
    go (Some f) failed = ap (first_fault v []) (append-nil taken) ∙ h

pub others_are_taken : OthersAreTaken
others_are_taken v h rest told = ap (λ o. refusal_under o (taken_from v [] rest)) told ∙ taken_pass v [] rest refl
