-- The code of each fault of returns (docs/faults.md): R, and the number of the fault. Out of memory is no fault of returns, and has none.
use Rattle.std.specs.Prelude.{Option, Some, None}
use Rattle.sl_explain_texts.specs.declared.code.FaultCode.{FaultCode}
use Rattle.sl_explain_texts.specs.declared.code.FaultCode.TheVariants.{R01, R02, R03, R04, R05, R06, R07, R08, R09, R10, R11}
use Rattle.sl_returns.specs.declared.fault.FaultKind.{FaultKind}
use Rattle.sl_returns.specs.declared.fault.FaultKind.TheVariants.{Header, Fields, Kind, Name, Number, Range, Unknown, Twice, Counted, TooMany, NoLand, NoMemory}

abbrev pub returns_code : FaultKind → Option FaultCode
returns_code Header = Some R01
returns_code Fields = Some R02
returns_code Kind = Some R03
returns_code Name = Some R04
returns_code Number = Some R05
returns_code Range = Some R06
returns_code Unknown = Some R07
returns_code Twice = Some R08
returns_code Counted = Some R09
returns_code TooMany = Some R10
returns_code NoLand = Some R11
returns_code NoMemory = None
