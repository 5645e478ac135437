-- What a table holds while seats are awarded from it.
use Rattle.std.specs.Prelude.{Bool, List, [], if◌then◌else◌}
use Rattle.std.specs.Option.{option_map_or}
use Rattle.sl_base_quotients.specs.declared.entry.Entry.{Entry}
use Rattle.sl_base_rankings.specs.Peers.{top}
use Rattle.sl_base_rankings.specs.Ranking.{without}

-- the entries but for the greatest
abbrev pub without_top : List Entry → List Entry
without_top xs = option_map_or (λ first. without first xs) (top xs) []

-- the entries of a table, of which the greatest may be taken and still stand there
abbrev pub held_in : Bool → List Entry → List Entry
held_in is_top_taken xs = if is_top_taken then without_top xs else xs
