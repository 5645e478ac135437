-- The winners of a scope (docs/meaning.md, section 1).
use Rattle.std.specs.Prelude.{Bool, true, ◌&&◌}
use Rattle.sl_law_meaning.specs.declared.election.Win.{Win}
use Rattle.sl_law_meaning.specs.declared.fault.Scope.{Scope}
use Rattle.sl_law_meaning.specs.declared.fault.Scope.TheVariants as scope
use Rattle.sl_law_meaning.specs.returns.Facts.{is_in, is_of}

-- a winner is of the scope: of the whole country all are; of a Land those there; of a party, and of its list in a Land, those of the party
abbrev pub is_winner_in : Scope → Win → Bool
is_winner_in scope.All w = true
is_winner_in (scope.Land land) w = is_in land w
is_winner_in (scope.Party party) w = is_of party w
is_winner_in (scope.List land party) w = is_in land w && is_of party w
