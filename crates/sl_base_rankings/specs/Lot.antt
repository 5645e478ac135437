-- Which peer a lot draws.
use Rattle.std.specs.Prelude.{ℕ, List, length, Option, nat_eq, unwrap_or}
use Rattle.std.specs.List.{position}
use Rattle.std.specs.declared.cmp.Ordering.{Ordering}
use Rattle.std.specs.Ordering.{nat_cmp, on, flip_args, then_cmp}
use Rattle.sl_base_quotients.specs.declared.entry.Entry.{Entry}
use Rattle.sl_base_quotients.specs.Entry.{entry_cmp}
use Rattle.sl_base_rankings.specs.Ranking.{greatest}
use Rattle.sl_base_rankings.specs.Peers.{peers}

-- the place at which a lot first names an index, or the lot's length where it does not
abbrev pub place_in_lot : List ℕ → ℕ → ℕ
place_in_lot lot index = unwrap_or (position (λ named. nat_eq named index) lot) (length lot)

-- the order in which a lot draws, the first as the greatest: the entry whose index stands first in the lot, and those not named
-- come after; then the one with the smaller index; then the one that is greater as an entry
abbrev pub lot_cmp : List ℕ → Entry → Entry → Ordering
lot_cmp lot =
    then_cmp (then_cmp
    (flip_args (on (λ entry. place_in_lot lot entry.index) nat_cmp))
    (flip_args (on (λ entry. entry.index) nat_cmp)))
    entry_cmp

-- the peer that a lot draws first
abbrev pub drawn : List ℕ → List Entry → Option Entry
drawn lot entries = greatest (lot_cmp lot) (peers entries)
