-- A scan of a text for the place of a cell, byte by byte.
use Rattle.std.proofs.Common.{◌≡◌, ◌≢◌, ◌≤◌, ◌<◌, ◌+◌, ◌-◌, ◌^◌, ℕ, zero, suc, Bool, true, false, List, [], ◌∷◌, ◌++◌, drop, get_or, length, Some, None, nat_eq, refl, sym, ap, ◌∙◌, arith, if◌then◌else◌}
use Rattle.std.proofs.lemmas.Bool.{eqb-true, eqb-false}
use Rattle.std.proofs.lemmas.List.{at_drop_more, at_drop_all, length_push}
use Rattle.csv.specs.declared.parser.State as machine
use Rattle.csv.specs.declared.parser.State.TheVariants as st
use Rattle.csv.specs.declared.parser.Action as effect
use Rattle.csv.specs.Machine.{ends_at_end, field_after, is_end, step}
use Rattle.csv.specs.Reading.{default_config, strip_bom}
use Rattle.sl_returns_places.specs.declared.places.State.{State}
use Rattle.sl_returns_places.specs.declared.places.State.TheVariants as state
use Rattle.sl_returns_places.specs.declared.places.Action.{Action}
use Rattle.sl_returns_places.specs.declared.places.Action.TheVariants as action
use Rattle.sl_returns_places.specs.declared.places.Scan.{Scan}
use Rattle.sl_returns_places.specs.Places.{Cell, cells_after, closed, is_quoted, located, located_in, mark_length, place_among, place_in, place_of, start_after}
use Rattle.sl_returns_places.specs.inner.Scanning.{IsScanning, found_with, machine_action, machine_state, record_begun, with_cell}

-- the place of one of some cells and one more
is_new : (cells : List Cell) (c : Cell) (column : ℕ) → length cells ≡ column → place_among (cells ++ c ∷ []) column ≡ Some (place_of c)
is_new [] c zero e = refl
is_new [] c (suc n) e = absurd (omega (arith, e))
is_new (x ∷ xs) c zero e = absurd (omega (arith, e))
is_new (x ∷ xs) c (suc n) e = is_new xs c n (omega (arith, e))

is_old : (cells : List Cell) (c : Cell) (column : ℕ) → length cells ≢ column → place_among (cells ++ c ∷ []) column ≡ place_among cells column
is_old [] c zero e = absurd (e refl)
is_old [] c (suc n) e = refl
is_old (x ∷ xs) c zero e = refl
is_old (x ∷ xs) c (suc n) e = is_old xs c n (λ same. e (omega (arith, same)))

place_more : (cells : List Cell) (c : Cell) (column : ℕ) → place_among (cells ++ c ∷ []) column ≡ (if nat_eq (length cells) column then Some (place_of c) else place_among cells column)
place_more cells c column = go (nat_eq (length cells) column) refl
  where
    go : (b : Bool) → nat_eq (length cells) column ≡ b → place_among (cells ++ c ∷ []) column ≡ (if b then Some (place_of c) else place_among cells column)
    go true e = is_new cells c column (eqb-true (length cells) column e)
    go false e = is_old cells c column (eqb-false (length cells) column e)

-- what a text gives from a state on, by what its first byte does
located_more : (s : machine.State) (cells : List Cell) (start : ℕ) (field : List ℕ) (at c : ℕ) (rest : List ℕ) (s2 : machine.State) (a : effect.Action) → s2 ≡ (step default_config s c).0 → a ≡ (step default_config s c).1
    → located s cells start field at (c ∷ rest)
    ≡ (if is_end a then cells_after a cells (closed start at field) ∷ located s2 [] (at + 1) [] (at + 1) rest
    else located s2 (cells_after a cells (closed start at field)) (start_after a s2 start at) (field_after a c field) (at + 1) rest)
unfolding located
located_more s cells start field at c rest s2 a h0 h1 = rw (h0, h1) refl

module _ (text : List ℕ) (row column : ℕ) (s : Scan) (at : ℕ) (is : IsScanning text row column s at) (within : at < length text) (byte : ℕ) (here : byte ≡ get_or text at 0) where
  abbrev rest : List ℕ
  rest = drop (at + 1) text

  module _ (next : State) (a : Action) (h0 : machine_state next ≡ (step default_config (machine_state s.state) byte).0) (h1 : machine_action a ≡ (step default_config (machine_state s.state) byte).1) where
    -- what is looked for, by what the byte does
    more : place_in text row column
        ≡ place_among (get_or (if is_end (machine_action a) then cells_after (machine_action a) is.cells (closed s.start at is.field) ∷ located (machine_state next) [] (at + 1) [] (at + 1) rest
        else located (machine_state next) (cells_after (machine_action a) is.cells (closed s.start at is.field)) (start_after (machine_action a) (machine_state next) s.start at)
        (field_after (machine_action a) byte is.field) (at + 1) rest) s.records []) column
    more =
        let left = at_drop_more (located (machine_state s.state) is.cells s.start is.field at) text at 0 within ∙ ap (λ c. located (machine_state s.state) is.cells s.start is.field at (c ∷ rest)) (sym here) in
        is.rest ∙ ap (λ rs. place_among (get_or rs s.records []) column) (left ∙ located_more (machine_state s.state) is.cells s.start is.field at byte rest (machine_state next) (machine_action a) h0 h1)

  abbrev Does : State → Action → Type 0
  Does next a = (machine_state next ≡ (step default_config (machine_state s.state) byte).0) × (machine_action a ≡ (step default_config (machine_state s.state) byte).1)

  pub scanned_copy : (next : State) → Does next action.Copy → IsScanning text row column (record s { state = next; start = s.start }) (at + 1)
  scanned_copy next does = record {
    cells = is.cells;
    field = is.field ++ byte ∷ [];
    rest = more next action.Copy does.0 does.1;
    number = is.number;
    found = is.found;
    few = let few = is.few in omega arith;
  }

  pub scanned_skip : (next : State) (start : ℕ) → Does next action.Skip → (if ends_at_end (machine_state next) then s.start else at + 1) ≡ start → IsScanning text row column (record s { state = next; start = start }) (at + 1)
  scanned_skip next start does begins = record {
    cells = is.cells;
    field = is.field;
    rest = more next action.Skip does.0 does.1 ∙ ap (λ b. place_among (get_or (located (machine_state next) is.cells b is.field (at + 1) rest) s.records []) column) begins;
    number = is.number;
    found = is.found;
    few = let few = is.few in omega arith;
  }

  -- the place that is found when the cell ends
  found_now : found_with s column at false ≡ place_among (is.cells ++ closed s.start at is.field ∷ []) column
  found_now =
      ap (λ n. if nat_eq n column then Some (place_of (closed s.start at is.field)) else s.found) is.number
      ∙ ap (λ o. if nat_eq (length is.cells) column then Some (place_of (closed s.start at is.field)) else o) is.found
      ∙ sym (place_more is.cells (closed s.start at is.field) column)

  pub scanned_cell : (next : State) → at < 2 ^ 64 - 1 → Does next action.EndField → IsScanning text row column (with_cell s next column at) (at + 1)
  scanned_cell next room does = record {
    cells = is.cells ++ closed s.start at is.field ∷ [];
    field = [];
    rest = more next action.EndField does.0 does.1;
    number = let few = is.few in omega (arith, is.number, length_push is.cells (closed s.start at is.field));
    found = found_now;
    few = let few = is.few in omega (arith, length_push is.cells (closed s.start at is.field));
  }

  pub scanned_record : (next : State) → s.records ≢ 0 → Does next action.EndRecord → IsScanning text row column (record_begun next (s.records - 1) (at + 1)) (at + 1)
  scanned_record next some does = record {
    cells = [];
    field = [];
    rest = more next action.EndRecord does.0 does.1 ∙ later s.records some (is.cells ++ closed s.start at is.field ∷ []) (located (machine_state next) [] (at + 1) [] (at + 1) rest);
    number = refl;
    found = refl;
    few = omega arith;
  }
    where
      later : (n : ℕ) → n ≢ 0 → (r : List Cell) (rs : List (List Cell)) → place_among (get_or (r ∷ rs) n []) column ≡ place_among (get_or rs (n - 1) []) column
      later zero some r rs = absurd (some refl)
      later (suc m) some r rs = let less : suc m - 1 ≡ m = omega arith in ap (λ k. place_among (get_or rs k []) column) (sym less)

  pub found_last : (next : State) → s.records ≡ 0 → Does next action.EndRecord → found_with s column at false ≡ place_in text row column
  found_last next none does =
      found_now ∙ sym (more next action.EndRecord does.0 does.1 ∙ ap (λ n. place_among (get_or ((is.cells ++ closed s.start at is.field ∷ []) ∷ located (machine_state next) [] (at + 1) [] (at + 1) rest) n []) column) none)

-- at the end of the text
module _ (text : List ℕ) (row column : ℕ) (s : Scan) (at : ℕ) (is : IsScanning text row column s at) (past : length text ≤ at) where
  abbrev last : Cell
  last = record { start = s.start; behind = at; holds = is.field; is_open = is_quoted (machine_state s.state) }

  ended : place_in text row column ≡ place_among (get_or (if ends_at_end (machine_state s.state) then (is.cells ++ last ∷ []) ∷ [] else []) s.records []) column
  unfolding located
  ended = is.rest ∙ ap (λ rs. place_among (get_or rs s.records []) column) (at_drop_all (located (machine_state s.state) is.cells s.start is.field at) text at past)

  pub found_at_end : s.records ≡ 0 → ends_at_end (machine_state s.state) ≡ true → found_with s column at (is_quoted (machine_state s.state)) ≡ place_in text row column
  found_at_end none inside =
      ap (λ n. if nat_eq n column then Some (place_of last) else s.found) is.number
      ∙ ap (λ o. if nat_eq (length is.cells) column then Some (place_of last) else o) is.found
      ∙ sym (place_more is.cells last column)
      ∙ sym (ended ∙ rw (inside, none) refl)

  pub none_at_end : (s.records ≢ 0) → None ≡ place_in text row column
  none_at_end some = sym (ended ∙ by (ends_at_end (machine_state s.state)) s.records some)
    where
      by : (b : Bool) (n : ℕ) → n ≢ 0 → place_among (get_or (if b then (is.cells ++ last ∷ []) ∷ [] else []) n []) column ≡ None
      by true zero some = absurd (some refl)
      by true (suc n) some = refl
      by false n some = refl

  pub none_between : ends_at_end (machine_state s.state) ≡ false → None ≡ place_in text row column
  none_between outside = sym (ended ∙ ap (λ b. place_among (get_or (if b then (is.cells ++ last ∷ []) ∷ [] else []) s.records []) column) outside)

-- before the first byte after a byte order mark
pub scanned_none : (text : List ℕ) (records column : ℕ) → drop (mark_length text) text ≡ strip_bom text → IsScanning text (records + 1) column (record_begun state.StartRecord records (mark_length text)) (mark_length text)
scanned_none text records column rest = record {
  cells = [];
  field = [];
  rest = by (records + 1) (omega arith) ∙ ap (λ xs. place_among (get_or (located st.StartRecord [] (mark_length text) [] (mark_length text) xs) records []) column) (sym rest);
  number = refl;
  found = refl;
  few = omega arith;
}
  where
    by : (row : ℕ) → row ≡ suc records → place_in text row column ≡ place_among (get_or (located_in text) records []) column
    by row e = ap (λ r. place_in text r column) e
