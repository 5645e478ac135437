-- By Webster's method, so by what holds of it.
use Rattle.std.proofs.Common.{◌-◌}
use Rattle.sl_base_quotients.specs.declared.method.Divisor.TheVariants.{Webster}
use Rattle.sl_law_meaning.specs.book.Trees.{BookTree}
use Rattle.sl_law_fairness.specs.Winners.{independents}
use Rattle.sl_law_fairness.proofs.Deviations.{webster_least_deviations}
use Rattle.sl_law_fairness.proofs.Huntington.{huntingtons_tests}
use Rattle.sl_law_statutes.specs.Trees.{law_of_2023, law_of_2023_order}
use Rattle.sl_law_statutes.specs.Houses.{house_of}
use Rattle.sl_law_statutes.specs.Parties.{party_column, seats_column, AlwaysByWebster}
use Rattle.sl_law_statutes.specs.Best.{AlwaysBest, BestOf2023}
use Rattle.sl_law_statutes.proofs.MoreVotes.{parties_of_2023}

best : (b : BookTree) → AlwaysByWebster b → AlwaysBest b
best b webster e t is means =
    let v = party_column b e in
    let pool = house_of b e - independents e in
    let h = webster e t is means in
    let given = (webster_least_deviations v pool (seats_column e t)).0 h in
    record { least = given.1; moved = (huntingtons_tests Webster v pool (seats_column e t) h.same_length h.total given.0.outside).0 h }

pub best_of_2023 : BestOf2023
best_of_2023 at = (best (law_of_2023 at) (parties_of_2023 at).0, best (law_of_2023_order at) (parties_of_2023 at).1)
