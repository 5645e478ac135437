use Rattle.std.proofs.Common.{arith, ◌≡◌, ℕ, List, [], ◌∷◌, ◌++◌, map, take, Option, Some, None, IfSome, is_some, true, inl, inr, refl, sym, ap, subst}
use Rattle.std.proofs.lemmas.List.{take_all}
use Rattle.std.proofs.lemmas.Grind.{common_steps}
use Rattle.std.proofs.lemmas.Option.{none-some, same_Some}
use Rattle.serde_json.specs.Data.{Data, no_members}
use Rattle.serde_json.specs.Find.{get_member}
use Rattle.serde_json.specs.View.{members_view}
use Rattle.sl_report_forms.specs.declared.names.Names.{Names}
use Rattle.sl_report_forms.specs.declared.sheet.Sheet.{Sheet}
use Rattle.sl_report_forms.specs.JsonForm.{Entry, Puts, table_value}
use Rattle.sl_report_forms.proofs.JsonFilling.{Puts-more}
use Rattle.sl_report_forms.proofs.JsonKeys.{AreMade, AreMade-all, put_again}
use Rattle.sl_report_forms.proofs.json_form.tables.Goals.{then-not-has, else-not-has}
use Rattle.sl_report_forms.proofs.json_form.tables.Goals as goal

abbrev tables_of : Names → List Sheet → List Sheet → List (List ℕ × Data)
tables_of n all sheets = map (λ s. (s.key.now, table_value n all s.key.now)) sheets

-- a table that is there already
again : (n : Names) (all sheets : List Sheet) (o : Option (List Entry)) (key : List ℕ) → Puts (Some []) o (tables_of n all sheets) → IfSome o (λ es. true ≡ is_some (get_member key (members_view es)))
    → Puts (Some []) o (tables_of n all sheets ++ (key, table_value n all key) ∷ [])
again n all sheets None key p h = inr refl
again n all sheets (Some es) key (inr e) h = absurd (none-some _ (sym e))
again n all sheets (Some es) key (inl e) h =
    let made = subst (AreMade (table_value n all)) (sym (same_Some _ _ e)) (AreMade-all {A = Sheet} (table_value n all) (λ s. s.key.now) no_members sheets tt) in
    Puts-more (Some []) (Some es) (Some es) (tables_of n all sheets) ((key, table_value n all key) ∷ []) (inl e) (inl (ap Some (sym (put_again (table_value n all) key (members_view es) made (sym h)))))

pub loop-sheet-preserved : goal.loop-sheet-preserved
loop-sheet-preserved c =
    let all = c.args.sheets.now in
    elim c.if-not-has.branch [
      | then-not-has w ↦ grind (arith, common_steps)
      | else-not-has w ↦
          let here = again c.args.names.now all (take c.loop-sheet.sheet-index all) c.loop-sheet.tables c.sheet-item.result.key.now c.loop-sheet.invariant w.if-not-has.ensures in
          grind (arith, common_steps, here)
    ]

pub returns : goal.returns
returns c = let whole = take_all c.loop-sheet.sheet-index c.args.sheets.now c.loop-sheet-test.false in grind (arith, common_steps, whole)
