-- Votes missing among the parties are enough in the whole count by the statutes of 2023 (docs/margins.md).
use Rattle.std.specs.Prelude.{◌≡◌, ℕ, ◌+◌, ◌<◌, ◌≤◌, true, List, Some}
use Rattle.sl_base_quotients.specs.declared.method.Divisor.TheVariants.{Webster}
use Rattle.sl_law_meaning.specs.declared.election.ListVotes.{ListVotes}
use Rattle.sl_law_meaning.specs.declared.election.Lot.{Lot}
use Rattle.sl_law_meaning.specs.declared.table.Outcome.TheVariants as outcome
use Rattle.sl_law_meaning.specs.book.Trees.{BookTree}
use Rattle.sl_law_meaning.specs.returns.Election.{Election, IsElection, with_list}
use Rattle.sl_law_meaning.specs.returns.Facts.{is_eligible}
use Rattle.sl_law_meaning.specs.meaning.Tables.{SeatTable}
use Rattle.sl_law_meaning.specs.meaning.Means.{Means}
use Rattle.sl_law_statutes.specs.Trees.{law_of_2023, law_of_2023_order}
use Rattle.sl_law_statutes.specs.Parties.{party_column, party_seats, seats_column, IsGain}
use Rattle.sl_law_margins.specs.MissingVotes.{AreMissing}

-- a party that takes part lacks x votes for one more seat among the parties. Where one of its lists gains so many counted votes or more, and all
-- else is equal but the lots, the party has more seats in the table, though others may no longer take part
abbrev pub MissingAreEnough : BookTree → Type 0
MissingAreEnough b =
    (e : Election) (land party : ℕ) (votes : ListVotes) → IsElection e → (gain : IsGain e land party votes) → is_eligible b.eligible e party ≡ true →
    (t : SeatTable) → Means b e (outcome.Table t) → (x : ℕ) → AreMissing Webster (party_column b e) (seats_column e t) party (Some x) →
    gain.before.counted + x ≤ votes.counted → (lots : List Lot) → IsElection (record (with_list e land party votes) { lots = lots }) →
    (u : SeatTable) → Means b (record (with_list e land party votes) { lots = lots }) (outcome.Table u) →
    party_seats t party < party_seats u party

abbrev pub MissingIn2023 : Type 0
MissingIn2023 = (at : ℕ → ℕ) → MissingAreEnough (law_of_2023 at) × MissingAreEnough (law_of_2023_order at)
