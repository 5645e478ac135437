-- How deep the JSON of sheets nests.
use Rattle.std.proofs.Common.{String, ℕ, ◌≤◌, List, [], ◌∷◌, ◌++◌, map, filter, flat_map, zip, bytes_eq, Option, Some, None, Ordering, Less, Equal, Greater, nat_cmp, arith, codes, Result, Ok, Err, IfOk, IfSome, inl, inr, sym, subst}
use Rattle.std.proofs.lemmas.List.{map-append}
use Rattle.std.specs.Cmp.Lexicographic.{slice_cmp}
use Rattle.std.specs.Ordering.{match_ordering}
use Rattle.std.specs.declared.alloc.Global.{Global}
use Rattle.serde_json.specs.Data.{Data, string, Members, no_members, member, put, depth, items_depth, members_depth}
use Rattle.serde_json.specs.View.{view, items_of, items_view}
use Rattle.serde_json.specs.Read.{max_depth}
use Rattle.serde_json.specs.declared.value.Value.{Value}
use Rattle.sl_base_quotients.specs.declared.no_memory.NoMemory.{NoMemory}
use Rattle.sl_law_meaning.specs.declared.fault.Scope.TheVariants as scope
use Rattle.sl_explain_texts.specs.Gains.{Gains}
use Rattle.sl_report_forms.specs.Heads.{head_key}
use Rattle.sl_report_forms.specs.NameTexts.{text_in}
use Rattle.sl_report_forms.specs.declared.cell.Cell.TheVariants as cell
use Rattle.sl_report_forms.specs.declared.cell.Cell.{Cell}
use Rattle.sl_report_forms.specs.declared.heading.Heading.{Heading}
use Rattle.sl_report_forms.specs.declared.heading.Told.{Told}
use Rattle.sl_report_forms.specs.declared.names.Length.TheVariants.{Short}
use Rattle.sl_report_forms.specs.declared.names.Names.{Names}
use Rattle.sl_report_forms.specs.declared.sheet.Head.{Head}
use Rattle.sl_report_forms.specs.declared.sheet.Sheet.{Sheet}
use Rattle.sl_report_forms.specs.JsonForm.{MaybeExplains, NestsWithin, object_of, with_members, cell_value, row_value, sheet_rows, table_value, tables_value, text_or_null, heading_members, hex, input_value, text_member, report_value}

either : (o : Ordering) (a b c : Members) (n : ℕ) → members_depth a ≤ n → members_depth b ≤ n → members_depth c ≤ n → members_depth (match_ordering o a b c) ≤ n
either Less a b c n p q r = p
either Equal a b c n p q r = q
either Greater a b c n p q r = r

pub members_depth-put : (k : List ℕ) (d : Data) (ms : Members) (n : ℕ) → depth d ≤ n → members_depth ms ≤ n → members_depth (put k d ms) ≤ n
members_depth-put k d no_members n p q = omega arith
members_depth-put k d (member l e ms) n p q =
    either (slice_cmp nat_cmp k l) (member k d (member l e ms)) (member l d ms) (member l e (put k d ms)) n (omega arith) (omega arith) (omega (arith, members_depth-put k d ms n p (omega arith)))

with_members_of : {A : Type 0} (key : A → List ℕ) (f : A → Data) (n : ℕ) → ((x : A) → depth (f x) ≤ n) → (ms : Members) (xs : List A) → members_depth ms ≤ n
    → members_depth (with_members ms (map (λ x. (key x, f x)) xs)) ≤ n
with_members_of key f n h ms [] m = m
with_members_of key f n h ms (x ∷ xs) m = with_members_of key f n h (put (key x) (f x) ms) xs (members_depth-put (key x) (f x) ms n (h x) m)

items_of_all : {A : Type 0} (f : A → Data) (n : ℕ) → ((x : A) → depth (f x) ≤ n) → (xs : List A) → items_depth (items_of (map f xs)) ≤ n
items_of_all f n h [] = omega arith
items_of_all f n h (x ∷ xs) = omega (arith, h x, items_of_all f n h xs)

items_of_both : (n : ℕ) (xs ys : List Data) → items_depth (items_of xs) ≤ n → items_depth (items_of ys) ≤ n → items_depth (items_of (xs ++ ys)) ≤ n
items_of_both n [] ys p q = q
items_of_both n (x ∷ xs) ys p q = omega (arith, items_of_both n xs ys (omega arith) q)

items_of_parts : {A : Type 0} (f : A → List Data) (n : ℕ) → ((x : A) → items_depth (items_of (f x)) ≤ n) → (xs : List A) → items_depth (items_of (flat_map f xs)) ≤ n
items_of_parts f n h [] = omega arith
items_of_parts f n h (x ∷ xs) = items_of_both n (f x) (flat_map f xs) (h x) (items_of_parts f n h xs)

of_cell : (n : Names) (c : Cell) → depth (cell_value n c) ≤ 1
of_cell n cell.Empty = omega arith
of_cell n (cell.Text words) = omega arith
of_cell n (cell.Prose words) = omega arith
of_cell n (cell.Number m) = omega arith
of_cell n (cell.Decimal m) = omega arith
of_cell n (cell.Fraction num den) = omega arith
of_cell n (cell.Change m before) = omega arith
of_cell n (cell.Flag is) = omega arith
of_cell n (cell.Word word) = omega arith
of_cell n (cell.Condition cond) = omega arith
of_cell n (cell.Stage stage) = omega arith
of_cell n (cell.Entry entry) = omega arith
of_cell n (cell.EntryName entry scope) = omega arith
of_cell n (cell.Entries entries) = omega arith
of_cell n (cell.Claimants entries seen) = omega (arith, items_of_all (λ entry. string (text_in n Short scope.All entry)) 0 (λ entry. omega arith) entries.items)
of_cell n (cell.Scope scope) = omega arith
of_cell n (cell.ScopeName scope) = omega arith

of_rows : (n : Names) (s : Sheet) → items_depth (items_of (sheet_rows n s)) ≤ 2
of_rows n s = items_of_all (λ row. row_value n s.heads.items row.items) 2
    (λ row. omega (arith, with_members_of {A = Head × Cell} (λ p. head_key p.0) (λ p. cell_value n p.1) 1 (λ p. of_cell n p.1) no_members (zip s.heads.items row.items) (omega arith))) s.rows.items

pub of_tables : (n : Names) (sheets : List Sheet) → depth (tables_value n sheets) ≤ 4
of_tables n sheets =
    omega (
      arith,
      with_members_of {A = Sheet} (λ s. s.key.now) (λ s. table_value n sheets s.key.now) 3
          (λ s. omega (arith, items_of_parts (sheet_rows n) 2 (of_rows n) (filter (λ t. bytes_eq t.key.now s.key.now) sheets))) no_members sheets (omega arith),
    )

pub of_text : (text : Option (List ℕ)) → depth (text_or_null text) ≤ 0
of_text None = omega arith
of_text (Some text) = omega arith

of_word : (word : Option (String Global)) (name digest : List ℕ) → depth (object_of ((codes "input", string name) ∷ text_member (codes "word") word ++ (codes "sha256", string (hex digest)) ∷ [])) ≤ 1
of_word None name digest = omega arith
of_word (Some word) name digest = omega arith

of_why : (told : Option Told) (why : Data) → MaybeExplains told why → depth why ≤ 2
of_why None why h = rw h (omega arith)
of_why (Some told) why h = h.2

pub of_report : (heading : Heading) (status : ℕ) (line : Option (List ℕ)) (why : Data) (n : Names) (sheets : List Sheet) → MaybeExplains heading.told why → depth (report_value (heading_members heading status line why) n sheets) ≤ max_depth
of_report heading status line why n sheets h =
    omega (arith, of_text line, of_why heading.told why h, items_of_all input_value 1 (λ i. of_word i.word i.input.now i.digest) heading.inputs.now, of_tables n sheets)

-- ---- a list that is being filled

abbrev pub AreWithin : ℕ → Option (List Value) → Type 0
AreWithin n o = IfSome o (λ vs. items_depth (items_view vs) ≤ n)

pub made_within : (n : ℕ) (a b : Option (List Value)) (made : Result Value NoMemory) → Gains a b made → IfOk made (NestsWithin n) → AreWithin n a → AreWithin n b
made_within n None b (Ok v) (inl e) q h = subst (AreWithin n) (sym e) tt
made_within n (Some vs) b (Ok v) (inl e) q h =
    subst (AreWithin n) (sym e) (subst (λ ds. items_depth (items_of ds) ≤ n) (sym (map-append view vs (v ∷ []))) (items_of_both n (map view vs) (view v ∷ []) h (omega arith)))
made_within n a b (Ok v) (inr e) q h = subst (AreWithin n) (sym e) tt
made_within n a b (Err e) none q h = subst (AreWithin n) (sym none) tt
