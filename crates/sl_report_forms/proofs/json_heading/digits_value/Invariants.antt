use Rattle.std.proofs.Common.{◌≡◌, IfSome, take}
use Rattle.sl_report_forms.specs.JsonForm.{hex}
use Rattle.sl_report_forms.proofs.json_heading.digits_value.Given as goal

abbrev pub invariant-loop-byte : goal.invariant-loop-byte
invariant-loop-byte l = IfSome l.digits (λ digits. digits ≡ hex (take l.byte-index l.bytes))
