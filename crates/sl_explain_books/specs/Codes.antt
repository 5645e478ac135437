-- The code of each fault of a rulebook (docs/faults.md). Out of memory is no fault of a rulebook, and has none.
use Rattle.std.specs.Prelude.{Option, Some, None}
use Rattle.sl_explain_texts.specs.declared.code.FaultCode.{FaultCode}
use Rattle.sl_explain_texts.specs.declared.code.FaultCode.TheVariants.{B03, B04, B05, B06, B07, B08, B09, B10, B11, B12, B13, B14, B15, B16, B17, B18, B19, B20, B21}
use Rattle.sl_lex.specs.declared.fault.LexFault.{LexFault}
use Rattle.sl_lex.specs.declared.fault.LexFault.TheVariants as tokens
use Rattle.sl_parse.specs.declared.fault.ParseFault.{ParseFault}
use Rattle.sl_parse.specs.declared.fault.ParseFault.TheVariants as grammar
use Rattle.sl_law_meaning.specs.declared.check_fault.CheckFault.{CheckFault}
use Rattle.sl_law_meaning.specs.declared.check_fault.CheckFault.TheVariants as tests

abbrev pub token_code : LexFault → Option FaultCode
token_code (tokens.BadByte at) = Some B03
token_code (tokens.OpenString at) = Some B04
token_code (tokens.BigNumber at) = Some B05
token_code (tokens.LongName at) = Some B06
token_code tokens.NoMemory = None

abbrev pub grammar_code : ParseFault → Option FaultCode
grammar_code (grammar.Expected at) = Some B07
grammar_code (grammar.TooDeep at) = Some B08
grammar_code (grammar.TooManyStages at) = Some B09
grammar_code (grammar.After at) = Some B10
grammar_code grammar.NoMemory = None

abbrev pub test_code : CheckFault → FaultCode
test_code (tests.Version at) = B11
test_code (tests.HouseRange at) = B12
test_code (tests.PerRange at) = B13
test_code (tests.StageTwice at) = B14
test_code (tests.StageUnknown at) = B15
test_code (tests.Shape at) = B16
test_code (tests.Unit at) = B17
test_code (tests.TwoSplits at) = B18
test_code (tests.MethodOption at) = B19
test_code (tests.CapRange at) = B20
test_code (tests.SeatsShape at) = B21
