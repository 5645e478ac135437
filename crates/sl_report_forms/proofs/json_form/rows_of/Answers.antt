use Rattle.std.proofs.Common.{arith, ◌≡◌, ℕ, List, [], ◌∷◌, ◌++◌, filter, flat_map, bytes_eq, take, Bool, true, false, cond, refl, sym, ap, ◌∙◌, append-nil}
use Rattle.std.proofs.lemmas.Grind.{common_steps, flat_map-append}
use Rattle.std.proofs.lemmas.List.Elements.{filter-append}
use Rattle.std.proofs.lemmas.List.{take_all}
use Rattle.serde_json.specs.Data.{Data}
use Rattle.sl_report_forms.specs.declared.names.Names.{Names}
use Rattle.sl_report_forms.specs.declared.sheet.Sheet.{Sheet}
use Rattle.sl_report_forms.specs.JsonForm.{sheet_rows}
use Rattle.sl_report_forms.proofs.json_form.rows_of.Goals.{then-eq, else-eq}
use Rattle.sl_report_forms.proofs.json_form.rows_of.Goals as goal

abbrev rows : Names → List ℕ → List Sheet → List Data
rows n key sheets = flat_map (sheet_rows n) (filter (λ s. bytes_eq s.key.now key) sheets)

one_more : (n : Names) (b : Bool) (s : Sheet) → flat_map (sheet_rows n) (cond b (s ∷ []) []) ≡ cond b (sheet_rows n s) []
one_more n true s = append-nil (sheet_rows n s)
one_more n false s = refl

rows-more : (n : Names) (key : List ℕ) (s : Sheet) (b : Bool) → bytes_eq s.key.now key ≡ b → (sheets : List Sheet) → rows n key (sheets ++ s ∷ []) ≡ rows n key sheets ++ cond b (sheet_rows n s) []
rows-more n key s b is sheets =
    ap (flat_map (sheet_rows n)) (filter-append (λ t. bytes_eq t.key.now key) sheets (s ∷ []) ∙ ap (λ a. filter (λ t. bytes_eq t.key.now key) sheets ++ cond a (s ∷ []) []) is)
    ∙ flat_map-append (sheet_rows n) (filter (λ t. bytes_eq t.key.now key) sheets) (cond b (s ∷ []) []) ∙ ap (λ more. rows n key sheets ++ more) (one_more n b s)

pub loop-sheet-preserved : goal.loop-sheet-preserved
loop-sheet-preserved c =
    let key = c.args.key.now in
    let before = take c.loop-sheet.sheet-index c.args.sheets.now in
    elim c.if-eq.branch [
      | then-eq w ↦ let more = rows-more c.args.names.now key c.sheet-item.result true (sym c.eq.ensures ∙ w.if-eq.true) before in grind (arith, common_steps, more)
      | else-eq w ↦ let same = rows-more c.args.names.now key c.sheet-item.result false (sym c.eq.ensures ∙ w.if-eq.false) before in grind (arith, common_steps, same)
    ]

pub returns : goal.returns
returns c = let whole = take_all c.loop-sheet.sheet-index c.args.sheets.now c.loop-sheet-test.false in grind (arith, common_steps, whole)
