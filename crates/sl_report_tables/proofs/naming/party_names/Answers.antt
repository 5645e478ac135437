use Rattle.std.proofs.Common.{arith, map}
use Rattle.sl_report_parties.proofs.Steps.{at_end}
use Rattle.sl_report_tables.specs.Naming.{short_name, text_of}
use Rattle.sl_report_tables.proofs.MoreNames.{names_next}
use Rattle.sl_report_tables.proofs.naming.party_names.Goals as goal

pub loop-party-preserved : goal.loop-party-preserved
loop-party-preserved c =
    names_next short_name text_of c.args.returns.now.party_names c.loop-party.party c.party_name.result.now _ _ c.in_ok-name_of.field-0
    c.party_name.ensures c.loop-party.invariant c.in_ok-push.ensures.items c.in_ok-name_of.ensures

pub returns : goal.returns
returns c =
    at_end (map text_of) c.args.returns.now.party_names c.loop-party.party _ (omega (arith, c.loop-party-test.false, c.parties-party-end.ensures.number)) c.loop-party.invariant
