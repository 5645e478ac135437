use Rattle.std.proofs.Common.{arith, map}
use Rattle.sl_report_parties.proofs.Steps.{at_end}
use Rattle.sl_report_tables.specs.Naming.{short_name, text_of}
use Rattle.sl_report_tables.proofs.MoreNames.{names_next}
use Rattle.sl_report_tables.proofs.naming.land_names.Goals as goal

pub loop-land-preserved : goal.loop-land-preserved
loop-land-preserved c =
    names_next short_name text_of c.args.returns.now.land_names c.loop-land.land c.land_name.result.now _ _ c.in_ok-name_of.field-0
    c.land_name.ensures c.loop-land.invariant c.in_ok-push.ensures.items c.in_ok-name_of.ensures

pub returns : goal.returns
returns c =
    at_end (map text_of) c.args.returns.now.land_names c.loop-land.land _ (omega (arith, c.loop-land-test.false, c.lands-land-end.ensures.number)) c.loop-land.invariant
