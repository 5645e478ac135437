-- The records that reads of a text give in turn are the text's records.
use Rattle.std.proofs.Common.{◌≡◌, ◌≤◌, ◌<◌, ◌+◌, ◌-◌, ℕ, zero, suc, Bool, true, false, List, [], ◌∷◌, ◌++◌, length, Some, None, refl, sym, ap, subst, ◌∙◌, arith, if◌then◌else◌}
use Rattle.std.specs.Prelude.{◌==◌}
use Rattle.std.proofs.lemmas.Bool.{false≢true}
use Rattle.std.proofs.lemmas.List.{append-nil}
use Rattle.std.proofs.lemmas.Option.{none-some, same_Some}
use Rattle.csv.specs.declared.parser.State.{State}
use Rattle.csv.specs.declared.parser.State.TheVariants as st
use Rattle.csv.specs.declared.parser.Action.{Action}
use Rattle.csv.specs.declared.parser.Action.TheVariants as act
use Rattle.csv.specs.declared.parser.Config.{Config}
use Rattle.csv.specs.Machine.{Read, next_record, step, in_field, start_field, start_record, after_end, ends_with, is_end, fields_after, field_after, ends_at_end}
use Rattle.csv.specs.Reading.{Reached, default_config, records, records_from, records_next}

-- the reader stands between two records
abbrev pub Between : State → Type 0
Between s = ends_at_end s ≡ false

-- ---- the end of a record

abbrev cfg : Config
cfg = default_config

-- an end leaves the reader between two records
abbrev EndsBetween : State × Action → Type 0
EndsBetween p = is_end p.1 ≡ true → Between p.0

either : (b : Bool) (p q : State × Action) → EndsBetween p → EndsBetween q → EndsBetween (if b then p else q)
either true p q hp hq = hp
either false p q hp hq = hq

between_after : (c : ℕ) → Between (after_end cfg.terminator c)
between_after c = go (c == 13)
  where
    go : (b : Bool) → Between (if b then st.AfterCr else st.StartRecord)
    go true = refl
    go false = refl

never : (s : State) (a : Action) → is_end a ≡ false → EndsBetween (s, a)
never s a inside h = absurd (false≢true (sym inside ∙ h))

in_field_ends : (c : ℕ) → EndsBetween (in_field cfg c)
in_field_ends c =
    either (c == 44) (st.StartField, act.EndField) _ (never st.StartField act.EndField refl)
    (either (ends_with cfg.terminator c) (after_end cfg.terminator c, act.EndRecord) (st.InField, act.Copy) (λ h. between_after c) (never st.InField act.Copy refl))

start_field_ends : (c : ℕ) → EndsBetween (start_field cfg c)
start_field_ends c = either (c == 34) (st.InQuoted, act.Skip) (in_field cfg c) (never st.InQuoted act.Skip refl) (in_field_ends c)

start_record_ends : (c : ℕ) → EndsBetween (start_record cfg c)
start_record_ends c = either (ends_with cfg.terminator c) (st.StartRecord, act.Skip) (start_field cfg c) (never st.StartRecord act.Skip refl) (start_field_ends c)

step_ends : (s : State) (c : ℕ) → EndsBetween (step cfg s c)
step_ends st.StartRecord c = start_record_ends c
step_ends st.StartField c = start_field_ends c
step_ends st.InField c = in_field_ends c
step_ends st.InQuoted c = either (c == 34) (st.AfterQuote, act.Skip) (st.InQuoted, act.Copy) (never st.AfterQuote act.Skip refl) (never st.InQuoted act.Copy refl)
step_ends st.InEscape c = never st.InQuoted act.Copy refl
step_ends st.AfterQuote c = either (c == 34) (st.InQuoted, act.Copy) (in_field cfg c) (never st.InQuoted act.Copy refl) (in_field_ends c)
step_ends st.InComment c = either (c == 10) (st.StartRecord, act.Skip) (st.InComment, act.Skip) (never st.StartRecord act.Skip refl) (never st.InComment act.Skip refl)
step_ends st.AfterCr c = either (c == 10) (st.StartRecord, act.Skip) (start_record cfg c) (never st.StartRecord act.Skip refl) (start_record_ends c)

-- ---- the next record

-- what a record leaves of a text
record Leaves (xs : List ℕ) (p : Read) : Type 0 where
  few : length p.2 ≤ length xs
  between : Between p.1

next_leaves : (s : State) (fields : List (List ℕ)) (field xs : List ℕ) (p : Read) → next_record cfg s fields field xs ≡ Some p → Leaves xs p
unfolding next_record
next_leaves s fields field [] p h = go (ends_at_end s) h
  where
    go : (b : Bool) → (if b then Some (fields ++ (field ∷ []), st.StartRecord, []) else None) ≡ Some p → Leaves [] p
    go true h = subst (λ (q : Read). Leaves [] q) (same_Some _ p h) (record { few = omega arith; between = refl })
    go false h = absurd (none-some p h)
next_leaves s fields field (c ∷ rest) p h = go (is_end (step cfg s c).1) refl h (next_leaves (step cfg s c).0 (fields_after (step cfg s c).1 fields field) (field_after (step cfg s c).1 c field) rest p)
  where
    go : (b : Bool) → is_end (step cfg s c).1 ≡ b
        → (if b then Some (fields_after (step cfg s c).1 fields field, (step cfg s c).0, rest) else next_record cfg (step cfg s c).0 (fields_after (step cfg s c).1 fields field) (field_after (step cfg s c).1 c field) rest) ≡ Some p
        → (next_record cfg (step cfg s c).0 (fields_after (step cfg s c).1 fields field) (field_after (step cfg s c).1 c field) rest ≡ Some p → Leaves rest p)
        → Leaves (c ∷ rest) p
    go true e h more = subst (λ (q : Read). Leaves (c ∷ rest) q) (same_Some _ p h) (record { few = omega arith; between = step_ends s c e })
    go false e h more = let l = more h in record { few = let f = l.few in omega arith; between = l.between }

-- a record takes a byte
next_takes : (s : State) (xs : List ℕ) (p : Read) → Between s → next_record cfg s [] [] xs ≡ Some p → (length p.2 < length xs) × Between p.1
unfolding next_record
next_takes s [] p between h = absurd (none-some p (sym (ap (λ b. if b then Some ([] ++ ([] ∷ []), st.StartRecord, []) else None) between) ∙ h))
next_takes s (c ∷ rest) p between h = go (is_end (step cfg s c).1) refl h
  where
    go : (b : Bool) → is_end (step cfg s c).1 ≡ b
        → (if b then Some (fields_after (step cfg s c).1 [] [], (step cfg s c).0, rest) else next_record cfg (step cfg s c).0 (fields_after (step cfg s c).1 [] []) (field_after (step cfg s c).1 c []) rest) ≡ Some p
        → (length p.2 < length (c ∷ rest)) × Between p.1
    go true e h = subst (λ (q : Read). (length q.2 < length (c ∷ rest)) × Between q.1) (same_Some _ p h) (omega arith, step_ends s c e)
    go false e h = let l = next_leaves (step cfg s c).0 _ _ rest p h in (let f = l.few in omega arith, l.between)

-- ---- all records

-- the records that were read are few, and the reader stands between two records
few_read : (s s2 : State) (xs ys : List ℕ) (rows : List (List (List ℕ))) → Between s → Reached cfg s xs rows s2 ys → length rows ≤ length xs
unfolding Reached
few_read s s2 xs ys [] between h = omega arith
few_read s s2 xs ys (r ∷ rows) between h =
    let (shorter, next) = next_takes s xs h.0 between h.1 in
    let rest = few_read h.0.1 s2 h.0.2 ys rows next h.3 in
    omega arith

-- the records from a state are those that were read and those after them
records_go : (n : ℕ) (s s2 : State) (xs ys : List ℕ) (rows : List (List (List ℕ))) → Reached cfg s xs rows s2 ys → length rows ≤ n
    → records_from cfg n s xs ≡ rows ++ records_from cfg (n - length rows) s2 ys
unfolding Reached records_from
records_go n s s2 xs ys [] h l =
    let all : n - 0 ≡ n = omega arith in
    rw (h.0, h.1, all) refl
records_go zero s s2 xs ys (r ∷ rows) h l = absurd (omega arith)
records_go (suc n) s s2 xs ys (r ∷ rows) h l =
    let more = records_go n h.0.1 s2 h.0.2 ys rows h.3 (omega arith) in
    let fewer : suc n - length (r ∷ rows) ≡ n - length rows = omega arith in
    ap (records_next (records_from cfg n)) h.1 ∙ rw (h.2, fewer) (ap (λ rs. h.0.0 ∷ rs) more)

-- the records that were read begin the records of the text
pub begin_records : (s2 : State) (xs ys : List ℕ) (rows : List (List (List ℕ))) → Reached cfg st.StartRecord xs rows s2 ys → (more : List (List (List ℕ))) × (records cfg xs ≡ rows ++ more)
begin_records s2 xs ys rows h =
    let few = few_read st.StartRecord s2 xs ys rows refl h in
    (records_from cfg (length xs + 1 - length rows) s2 ys, records_go (length xs + 1) st.StartRecord s2 xs ys rows h (omega arith))

-- where no record is left, they are all the records of the text
pub are_records : (s2 : State) (xs ys : List ℕ) (rows : List (List (List ℕ))) → Reached cfg st.StartRecord xs rows s2 ys → next_record cfg s2 [] [] ys ≡ None → records cfg xs ≡ rows
unfolding records_from
are_records s2 xs ys rows h none =
    let few = few_read st.StartRecord s2 xs ys rows refl h in
    let all = records_go (length xs + 1) st.StartRecord s2 xs ys rows h (omega arith) in
    let left : suc (length xs - length rows) ≡ length xs + 1 - length rows = omega arith in
    all ∙ ap (λ n. rows ++ records_from cfg n s2 ys) (sym left) ∙ ap (λ o. rows ++ records_next (records_from cfg (length xs - length rows)) o) none ∙ append-nil rows
