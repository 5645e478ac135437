-- Votes missing are enough, more are, and the parties' scope is the count's.
use Rattle.std.proofs.Common.{◌-◌, ◌<◌, length, arith, sym, subst}
use Rattle.sl_base_quotients.specs.declared.method.Divisor.TheVariants.{Webster}
use Rattle.sl_law_meaning.specs.book.Trees.{BookTree}
use Rattle.sl_law_meaning.specs.methods.Field.{no_minima}
use Rattle.sl_law_meaning.proofs.methods.SeatSums.{length_zeros}
use Rattle.sl_law_meaning.specs.methods.Allocations.{IsDivisorAllocation}
use Rattle.sl_law_fairness.specs.Winners.{independents}
use Rattle.sl_law_margins.specs.MissingVotes.{IsAllocation, AreEnough, with_further}
use Rattle.sl_law_margins.proofs.StayingEnough.{enough_stays_enough}
use Rattle.sl_law_statutes.specs.Trees.{law_of_2023, law_of_2023_order}
use Rattle.sl_law_statutes.specs.Houses.{house_of}
use Rattle.sl_law_statutes.specs.Parties.{party_column, party_seats, seats_column, AlwaysByWebster}
use Rattle.sl_law_statutes.proofs.PartySeats.{length_parties, at_party}
use Rattle.sl_law_statutes.proofs.MoreVotes.{named, votes_of, parties_of_2023}
use Rattle.sl_law_library.proofs.MissingVotes.{AreEnoughFor, EnoughIsEnough, enough}
use Rattle.sl_law_library.specs.Counts.{MissingAreEnough, MissingIn2023}

missing : (b : BookTree) → AlwaysByWebster b → EnoughIsEnough b → MissingAreEnough b
missing b webster law e land party votes is gain can t means x lacks more lots isl u after =
    let n = named e is land party votes gain in
    let v = party_column b e in
    let s = seats_column e t in
    let h : IsDivisorAllocation Webster v (no_minima v) (house_of b e - independents e) s = webster e t is means in
    let within : party < length v = (let l = length_parties e (votes_of b e) in let p = n.1 in omega (arith, l, p)) in
    let own : IsAllocation Webster v s = subst (λ k. IsDivisorAllocation Webster v (no_minima v) k s) (sym h.total) h in
    let sure : AreEnough Webster v s party (votes.counted - gain.before.counted) =
    enough_stays_enough Webster v (no_minima v) s (length_zeros (length v)) own party within x (votes.counted - gain.before.counted) lacks.0 (omega (arith, more)) in
    let here = at_party e (party_seats t) party n.1 in
    let for : AreEnoughFor b e t party (votes.counted - gain.before.counted) = λ r hr. (
    let l = sure r (subst (λ k. IsDivisorAllocation Webster (with_further v party (votes.counted - gain.before.counted)) (no_minima v) k r) (sym h.total) hr) in
    omega (arith, l, here)) in
    law e land party votes is gain can t means for lots isl u after

pub missing_in_2023 : MissingIn2023
missing_in_2023 at = (
  missing (law_of_2023 at) (parties_of_2023 at).0 (enough (law_of_2023 at) (parties_of_2023 at).0 (omega arith, (tt, tt))),
  missing (law_of_2023_order at) (parties_of_2023 at).1 (enough (law_of_2023_order at) (parties_of_2023 at).1 (omega arith, (tt, (tt, tt)))),
)
