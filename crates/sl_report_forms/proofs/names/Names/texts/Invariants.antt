use Rattle.std.proofs.Common.{◌≡◌, IfSome, map, string_bytes, take}
use Rattle.sl_report_forms.specs.NameTexts.{text_in}
use Rattle.sl_report_forms.proofs.names.Names.texts.Given as goal

abbrev pub invariant-loop-entry : goal.invariant-loop-entry
invariant-loop-entry l = IfSome l.texts (λ ts. map string_bytes ts ≡ map (text_in l.self l.length l.scope) (take l.entry-index l.entries))
