use Rattle.std.proofs.Common.{arith, map}
use Rattle.sl_report_parties.proofs.Steps.{at_end}
use Rattle.sl_report_tables.specs.Naming.{short_name, text_of}
use Rattle.sl_report_tables.proofs.MoreNames.{names_next}
use Rattle.sl_report_tables.proofs.naming.winner_names.Goals as goal

pub loop-win-preserved : goal.loop-win-preserved
loop-win-preserved c =
    names_next short_name text_of c.args.returns.now.win_names c.loop-win.win c.win_name.result.now _ _ c.in_ok-name_of.field-0
    c.win_name.ensures c.loop-win.invariant c.in_ok-push.ensures.items c.in_ok-name_of.ensures

pub returns : goal.returns
returns c =
    at_end (map text_of) c.args.returns.now.win_names c.loop-win.win _ (omega (arith, c.loop-win-test.false, c.wins-win-end.ensures.number)) c.loop-win.invariant
