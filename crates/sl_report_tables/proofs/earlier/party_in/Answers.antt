use Rattle.std.proofs.Common.{ap, rules, sym, ◌∙◌}
use Rattle.std.specs.Prelude.{option_map}
use Rattle.sl_report_tables.specs.Earlier.{party_told}
use Rattle.sl_report_tables.proofs.EarlierSteps.{five_words, no_direct, no_seats, other_word, party_of, spelled}
use Rattle.sl_report_tables.proofs.earlier.party_in.Goals.{then-is_some-via-then-is_some, then-is_some-via-else-is_some+then-ne}
use Rattle.sl_report_tables.proofs.earlier.party_in.Goals as goal

pub returns-then-is_some : goal.returns-then-is_some
returns-then-is_some c = elim c.then-is_some.branch [
  | then-is_some-via-then-is_some w ↦
      five_words c.args.line.now c.in_ok-word.word.now c.in_ok-word.rest.now c.in_ok-name.name.now c.in_ok-name.rest.now c.in_ok-seats.seats.now c.in_ok-seats.direct.now
      c.cut-4.result c.in_ok-word.ensures c.in_ok-name.ensures c.in_ok-seats.ensures c.cut-4.ensures (sym c.is_some.ensures ∙ w.if-is_some.true)
  | then-is_some-via-else-is_some+then-ne w ↦ other_word c.args.line.now c.in_ok-word.word.now c.in_ok-word.rest.now c.in_ok-word.ensures (search rules)
]

pub returns-in_err-spelled_number : goal.returns-in_err-spelled_number
returns-in_err-spelled_number c =
    ap (option_map party_told) c.from_residual-in_err-spelled_number.ensures
    ∙ no_direct _ c.args.line.now c.in_ok-word.word.now c.in_ok-word.rest.now c.in_ok-name.name.now c.in_ok-name.rest.now c.in_ok-seats.seats.now c.in_ok-seats.direct.now
    c.cut-4.result c.in_ok-word.ensures c.in_ok-name.ensures c.in_ok-seats.ensures c.cut-4.ensures (sym c.is_some.ensures ∙ c.if-is_some.false)
    (sym c.in_err-spelled_number.was ∙ c.spelled_number.ensures ∙ ap spelled c.as_bytes.ensures.value)

pub returns-in_err-seats-2 : goal.returns-in_err-seats-2
returns-in_err-seats-2 c =
    ap (option_map party_told) c.from_residual-in_err-seats-2.ensures
    ∙ no_seats _ c.args.line.now c.in_ok-word.word.now c.in_ok-word.rest.now c.in_ok-name.name.now c.in_ok-name.rest.now c.in_ok-seats.seats.now c.in_ok-seats.direct.now
    c.cut-4.result c.in_ok-word.ensures c.in_ok-name.ensures c.in_ok-seats.ensures c.cut-4.ensures (sym c.is_some.ensures ∙ c.if-is_some.false)
    (sym c.in_err-seats-2.was ∙ c.spelled_number-2.ensures ∙ ap spelled c.as_bytes-2.ensures.value)

pub returns : goal.returns
returns c =
    party_of _ c.args.line.now c.in_ok-word.word.now c.in_ok-word.rest.now c.in_ok-name.name.now c.in_ok-name.rest.now c.in_ok-seats.seats.now c.in_ok-seats.direct.now
    c.cut-4.result c.in_ok-word.ensures c.in_ok-name.ensures c.in_ok-seats.ensures c.cut-4.ensures (sym c.is_some.ensures ∙ c.if-is_some.false)
    c.in_ok-seats-2.seats c.in_ok-spelled_number.field-0 (search rules) (sym c.in_ok-spelled_number.was ∙ c.spelled_number.ensures ∙ ap spelled c.as_bytes.ensures.value)
    (sym c.in_ok-seats-2.was ∙ c.spelled_number-2.ensures ∙ ap spelled c.as_bytes-2.ensures.value)
