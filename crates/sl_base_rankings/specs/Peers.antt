-- Priority tables, each seen as a list of the entries that it holds. Nothing rests on the order of that list (`laws::order_is_free`).
use Rattle.std.specs.Prelude.{ℕ, Bool, List, [], Option, nat_eq}
use Rattle.std.specs.List.{filter, list_all, list_any}
use Rattle.std.specs.Option.{option_map_or}
use Rattle.std.specs.Ordering.{is_eq}
use Rattle.sl_base_quotients.specs.declared.entry.Entry.{Entry}
use Rattle.sl_base_quotients.specs.Quotient.{compare}
use Rattle.sl_base_quotients.specs.Entry.{entry_cmp}
use Rattle.sl_base_rankings.specs.Ranking.{greatest, ranked}

-- the greatest entry
abbrev pub top : List Entry → Option Entry
top entries = greatest entry_cmp entries

-- whether the second entry has the quotient of the first
abbrev pub has_quotient_of : Entry → Entry → Bool
has_quotient_of x y = is_eq (compare x.ratio y.ratio)

-- the peers of the top, which are the entries with its quotient, from the greatest to the smallest
abbrev pub peers : List Entry → List Entry
peers entries = option_map_or (λ first. ranked (filter (has_quotient_of first) entries)) (top entries) []

-- whether a lot names the index of each peer
abbrev pub is_covered : List ℕ → List Entry → Bool
is_covered lot entries = list_all (λ peer. list_any (λ named. nat_eq named peer.index) lot) (peers entries)
