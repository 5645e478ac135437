-- A plan whose slots and whose stage are 0, 1, 2 and 3, its roles, is judged by evaluation, and with it the plan of any slots.
use Rattle.std.proofs.Common.{◌≡◌, ℕ, zero, suc, ◌<◌, true, ◌||◌, ◌==◌, List, [], ◌∷◌, map, flat_map, Option, None, Some, refl, ap, subst, ◌∙◌}
use Rattle.std.specs.Prelude.{nat_lt}
use Rattle.std.proofs.Math.Bool.{or-true}
use Rattle.std.specs.List.{list_all}
use Rattle.std.proofs.lemmas.Bool.{and_parts, and_from, lt-ltb}
use Rattle.sl_base_terms.specs.declared.shape.Shape.{Shape}
use Rattle.sl_code_instructions.specs.declared.instr.Instr.{Instr}
use Rattle.sl_code_instructions.specs.declared.instr.Instr.TheVariants.{Set}
use Rattle.sl_code_semantics.specs.declared.known.TheConstants.{LAST_CLAUSE}
use Rattle.sl_code_semantics.specs.Kinds.{start_kinds}
use Rattle.sl_code_semantics.specs.Needs.{Context}
use Rattle.sl_compile_plans.specs.Trees.{Tree, Line, Stop, Then, If, Each, Times}
use Rattle.sl_compile_plans.specs.Fine.{is_plain, is_fine, judged_by}
use Rattle.sl_compile_pieces.specs.declared.form.Form.{Form}
use Rattle.sl_compile_pieces.specs.scopes.Forms.{amounts_of, votes_of}
use Rattle.sl_compile_pieces.specs.seats.Slots.{Slots}
use Rattle.sl_compile_plans.proofs.Renaming.{Renaming, renamed_instr, renamed, Renames, renamed_is_fine}
use Rattle.sl_compile_plans.proofs.Modest.{is_modest}
use Rattle.sl_compile_plans.proofs.ProperLists.{all_append, all_parts, Fits, AllFit}
use Rattle.sl_compile_plans.proofs.ProperTrees.{set_number, set_numbers, has_plain_lines, IsRanged, is_ranged, small_ranged}

-- ---- roles

abbrev pub role_of_minima : Option ℕ → Option ℕ
role_of_minima None = None
role_of_minima (Some slot) = Some 3

-- amounts, votes, the result, and the minima if there are any
abbrev pub roles : Option ℕ → Slots
roles minima = record { stage = 0; amounts = 0; votes = 1; minima = role_of_minima minima; result = 2 }

abbrev pub role_context : Form → Context
role_context f = judged_by shapes 1
  where
    shapes : ℕ → Option Shape
    shapes zero = Some (amounts_of f)
    shapes (suc k) = Some (votes_of f)

-- the slot of each role; without minima theirs is the result's
abbrev pub slot_of_minima : Slots → Option ℕ → ℕ
slot_of_minima x None = x.result
slot_of_minima x (Some slot) = slot

abbrev pub slot_of_role : Slots → Option ℕ → ℕ → ℕ
slot_of_role x minima zero = x.amounts
slot_of_role x minima (suc zero) = x.votes
slot_of_role x minima (suc (suc zero)) = x.result
slot_of_role x minima (suc (suc (suc k))) = slot_of_minima x minima

abbrev pub names_of : Slots → Option ℕ → (ℕ → ℕ) → Renaming
names_of x minima number = record { slot = slot_of_role x minima; stage = x.stage; number = number }

-- ---- what is evaluated

-- the plan of roles is fine and sets registers to small numbers alone; under those names it is the plan, and that is modest
pub record IsFineAs (f : Form) (names : Renaming) (role tree : Tree) : Type 0 where
  pub fine : is_fine (role_context f) start_kinds role ≡ true
  pub ranged : is_ranged role ≡ true
  pub same : renamed names role ≡ tree
  pub modest : is_modest 500000 0 350 tree ≡ true

-- ---- what follows from it

-- the slots have the shapes of the form, and there are more stages than the number of that one
pub record HasShapes (slots : ℕ → Option Shape) (stages : ℕ) (f : Form) (x : Slots) : Type 0 where
  pub amounts : slots x.amounts ≡ Some (amounts_of f)
  pub votes : slots x.votes ≡ Some (votes_of f)
  pub result : slots x.result ≡ Some (votes_of f)
  pub minima : (slot : ℕ) → x.minima ≡ Some slot → slots slot ≡ Some (votes_of f)
  pub stage : x.stage < stages

module _ (slots : ℕ → Option Shape) (stages : ℕ) (f : Form) (x : Slots) (has : HasShapes slots stages f x)
    (number : ℕ → ℕ) (numbers : (n : ℕ) → nat_lt 0 (number n) ≡ nat_lt 0 n) where
  minima_there : (minima : Option ℕ) → x.minima ≡ minima → slots (slot_of_minima x minima) ≡ Some (votes_of f)
  minima_there None e = has.result
  minima_there (Some slot) e = has.minima slot e

  names_fit : (minima : Option ℕ) → x.minima ≡ minima → Renames (names_of x minima number) (role_context f) (judged_by slots stages)
  names_fit minima e = record {
    slots = of;
    stage = ap (λ b. (x.stage == LAST_CLAUSE) || b) (lt-ltb x.stage stages has.stage) ∙ or-true (x.stage == LAST_CLAUSE);
    numbers = numbers;
  }
    where
      of : (k : ℕ) (s : Shape) → (role_context f).slots k ≡ Some s → slots (slot_of_role x minima k) ≡ Some s
      of zero s h = has.amounts ∙ h
      of (suc zero) s h = has.votes ∙ h
      of (suc (suc zero)) s h = has.result ∙ h
      of (suc (suc (suc k))) s h = minima_there minima e ∙ h

  pub fine_of : (role tree : Tree) → IsFineAs f (names_of x x.minima number) role tree → is_fine (judged_by slots stages) start_kinds tree ≡ true
  fine_of role tree h =
      subst (λ t. is_fine (judged_by slots stages) start_kinds t ≡ true) h.same
      (renamed_is_fine (names_of x x.minima number) (role_context f) (judged_by slots stages) (names_fit x.minima refl) start_kinds role h.fine)

-- ---- numbers under new names

module _ (names : Renaming) (fits : (n : ℕ) → Fits n → Fits (names.number n)) where
  abbrev Ranged : Tree → Type 0
  Ranged tree = (has_plain_lines tree ≡ true) × AllFit (set_numbers tree)

  instr_ranged : (i : Instr) → is_plain i ≡ true → AllFit (set_number i) → (is_plain (renamed_instr names i) ≡ true) × AllFit (set_number (renamed_instr names i))
  instr_ranged (Set r n) plain h = (refl, (fits n h.0, tt))
  instr_ranged _ plain h = (plain, h)

  line_ranged : (is : List Instr) → Ranged (Line is) → Ranged (Line (map (renamed_instr names) is))
  line_ranged [] h = h
  line_ranged (i ∷ is) h =
      let plains = and_parts (is_plain i) (list_all is_plain is) h.0 in
      let numbers = all_parts Fits (set_number i) (flat_map set_number is) h.1 in
      let first = instr_ranged i plains.0 numbers.0 in
      let rest = line_ranged is (plains.1, numbers.1) in
      (and_from (is_plain (renamed_instr names i)) _ first.0 rest.0, all_append Fits (set_number (renamed_instr names i)) _ first.1 rest.1)

  both_ranged : (a b c d : Tree) → (Ranged a → Ranged c) → (Ranged b → Ranged d) → Ranged (Then a b) → Ranged (Then c d)
  both_ranged a b c d one two h =
      let plains = and_parts (has_plain_lines a) (has_plain_lines b) h.0 in
      let numbers = all_parts Fits (set_numbers a) (set_numbers b) h.1 in
      let first = one (plains.0, numbers.0) in
      let second = two (plains.1, numbers.1) in
      (and_from (has_plain_lines c) (has_plain_lines d) first.0 second.0, all_append Fits (set_numbers c) (set_numbers d) first.1 second.1)

  still_ranged : (tree : Tree) → Ranged tree → Ranged (renamed names tree)
  still_ranged (Line is) h = line_ranged is h
  still_ranged (Stop i) h = instr_ranged i h.0 h.1
  still_ranged (Then a b) h = both_ranged a b (renamed names a) (renamed names b) (still_ranged a) (still_ranged b) h
  still_ranged (If t a b) h = both_ranged a b (renamed names a) (renamed names b) (still_ranged a) (still_ranged b) h
  still_ranged (Each over a) h = still_ranged a h
  still_ranged (Times r m a) h = still_ranged a h

  pub ranged_as : (f : Form) (role tree : Tree) → IsFineAs f names role tree → IsRanged tree
  ranged_as f role tree h =
      let small = small_ranged role h.ranged in
      let all = still_ranged role (small.plain, small.numbers) in
      subst IsRanged h.same (record { plain = all.0; numbers = all.1 })
