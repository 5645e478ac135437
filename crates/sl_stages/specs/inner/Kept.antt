-- How a value of `Returns` keeps an election.
use Rattle.std.specs.Prelude.{map}
use Rattle.sl_stages.specs.declared.returns.Returns.TheInside.{Inside}
use Rattle.sl_law_meaning.specs.returns.Election.{Election}

abbrev pub election_of : Inside → Election
election_of r = record {
  house = r.house;
  land_names = r.lands.items;
  populations = r.populations.items;
  cells = map (λ row. row.items) r.rows.items;
  party_names = r.parties.items;
  minorities = r.minorities.items;
  win_names = r.winners.items;
  wins = r.wins.items;
  lots = r.lots.items;
}
