-- The product of the greatest factors fits.
use Rattle.std.proofs.Common.{rules, ◌+◌, ◌*◌, ◌^◌, ◌<◌, ◌≤◌, arith}
use Rattle.std.proofs.lemmas.Nat.{mul-le}
use Rattle.sl_base_quotients.specs.declared.limits.TheConstants.{MAX_SEATS, MAX_LANDS, MAX_PARTIES}
use Rattle.sl_law_meaning.specs.declared.limits.TheConstants.{MAX_WINS}
use Rattle.sl_code_semantics.specs.declared.budget.TheConstants.{STEPS_EACH}
use Rattle.sl_machine.proofs.machine.share.Goals as goal

pub overflow_mul-result-3 : goal.overflow_mul-result-3
overflow_mul-result-3 c =
    let parties : c.parties-parties.result ≤ MAX_PARTIES = omega (arith, c.parties-parties.ensures.number, c.parties-parties.ensures.kept.parties) in
    let lands : c.lands-lands.result ≤ MAX_LANDS = omega (arith, c.lands-lands.ensures.number, c.lands-lands.ensures.kept.lands) in
    let wins : c.wins-wins.result ≤ MAX_WINS = omega (arith, c.wins-wins.ensures.number, c.wins-wins.ensures.kept.winners, c.wins-wins.ensures.kept.wins) in
    let one = mul-le (STEPS_EACH * (c.parties-parties.result + 1)) (c.lands-lands.result + 1) (STEPS_EACH * (MAX_PARTIES + 1)) (MAX_LANDS + 1) (omega arith) (omega arith) in
    let two = mul-le (STEPS_EACH * (c.parties-parties.result + 1) * (c.lands-lands.result + 1)) (MAX_SEATS + c.wins-wins.result + 2) (STEPS_EACH * (MAX_PARTIES + 1) * (MAX_LANDS + 1)) (MAX_SEATS + MAX_WINS + 2) one (omega arith) in
    let fits : STEPS_EACH * (c.parties-parties.result + 1) * (c.lands-lands.result + 1) * (MAX_SEATS + c.wins-wins.result + 2) < 2 ^ 64 = omega (arith, two) in
    search rules
