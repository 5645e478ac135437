-- The parties of an earlier seat table beside those of returns; one without a name stands for those who sat without a party (docs/report.md).
use Rattle.std.specs.Prelude.{ℕ, Bool, ◌&&◌, List, is_none, length, nat_lt, option_map, sum_by, unwrap_or}
use Rattle.std.specs.List.{find, position}
use Rattle.std.specs.Str.{bytes_eq}
use Rattle.sl_report_parties.specs.Sums.{capped}
use Rattle.sl_report_parties.specs.declared.earlier.EarlierParty.{EarlierParty}
use Rattle.sl_law_meaning.specs.returns.Election.{Election}

-- the seats of the party of that name, none where there is no such party
abbrev pub seats_before : List ℕ → List EarlierParty → ℕ
seats_before name earlier = unwrap_or (option_map (λ p. p.seats) (find (λ p. bytes_eq name p.name.now) earlier)) 0

-- those of all
abbrev pub all_before : List EarlierParty → ℕ
all_before earlier = capped (sum_by (λ p. p.seats) earlier)

-- it is a party that had a seat, and the returns have none of that name
abbrev pub is_gone : Election → EarlierParty → Bool
is_gone e p = nat_lt 0 (length p.name.now) && (nat_lt 0 p.seats && is_none (position (bytes_eq p.name.now) e.party_names))
