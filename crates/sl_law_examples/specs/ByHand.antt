-- Published results, checked as a reader does it with a pocket calculator (docs/by-hand.md), line by line. Each example is the contract of a
-- function of `by_hand`.
use Rattle.std.specs.Prelude.{◌≡◌, ℕ, ◌+◌, ◌-◌, ◌*◌, ◌<◌, ◌≤◌, true, List, [], ◌∷◌}
use Rattle.sl_base_quotients.specs.declared.method.Divisor.TheVariants.{Webster}
use Rattle.sl_law_meaning.specs.methods.Covering.{IsCovering}
use Rattle.sl_law_meaning.specs.methods.Hamilton.{IsHamiltonAllocation}
use Rattle.sl_law_meaning.specs.methods.LeastHouse.{IsGrowth, GrownTo}
use Rattle.sl_law_fairness.specs.ClosedHouse.{seats_by}
use Rattle.sl_law_examples.specs.Failures.{IsOnly, Free}

-- ---- a divisor

-- by the divisor d so many votes have so many seats: they are between the products of the divisor with the seats less a half and with a half more
pub record IsDivided (d votes seats low high : ℕ) : Type 0 where
  pub is_low : 2 * low ≡ (2 * seats - 1) * d
  pub is_high : 2 * high ≡ (2 * seats + 1) * d
  pub above : low < votes
  pub below : votes < high

abbrev pub votes_2025 : List ℕ
votes_2025 = 11196374 ∷ 10328780 ∷ 8149124 ∷ 5762380 ∷ 4356532 ∷ 2964028 ∷ 76138 ∷ []

abbrev pub seats_2025 : List ℕ
seats_2025 = 164 ∷ 152 ∷ 120 ∷ 85 ∷ 64 ∷ 44 ∷ 1 ∷ []

-- 2025, by the divisor that `report` writes
pub record Divided2025 : Type 0 where
  pub cdu : IsDivided 68100 11196374 164 11134350 11202450
  pub afd : IsDivided 68100 10328780 152 10317150 10385250
  pub spd : IsDivided 68100 8149124 120 8137950 8206050
  pub gruene : IsDivided 68100 5762380 85 5754450 5822550
  pub linke : IsDivided 68100 4356532 64 4324350 4392450
  pub csu : IsDivided 68100 2964028 44 2962350 3030450
  pub ssw : IsDivided 68100 76138 1 34050 102150
  pub only : IsOnly (Free Webster votes_2025 630) seats_2025

-- ---- remainders

-- of 598 seats and so many votes in all, the votes have the share and a remainder
pub record IsQuoted (all votes share rest : ℕ) : Type 0 where
  pub is_share : share * all + rest ≡ 598 * votes
  pub part : rest < all

abbrev pub votes_2005 : List ℕ
votes_2005 = 16194665 ∷ 13136740 ∷ 3494309 ∷ 3838326 ∷ 4648144 ∷ 4118194 ∷ []

-- 2005: the three seats that the shares leave over go to the greatest remainders
pub record Quoted2005 : Type 0 where
  pub spd : IsQuoted 45430378 16194665 213 7739156
  pub cdu : IsQuoted 45430378 13136740 172 41745504
  pub csu : IsQuoted 45430378 3494309 45 45229772
  pub gruene : IsQuoted 45430378 3838326 50 23800048
  pub fdp : IsQuoted 45430378 4648144 61 8337054
  pub linke : IsQuoted 45430378 4118194 54 9439600
  pub only : IsOnly (IsHamiltonAllocation true votes_2005 598) (213 ∷ 173 ∷ 46 ∷ 51 ∷ 61 ∷ 54 ∷ [])

-- ---- growth

abbrev pub votes_2013 : List ℕ
votes_2013 = 14921877 ∷ 11252215 ∷ 3755699 ∷ 3694057 ∷ 3243569 ∷ []

-- as examples/elections/2013.csv has them
abbrev pub floors_2013 : List ℕ
floors_2013 = 242 ∷ 182 ∷ 61 ∷ 60 ∷ 56 ∷ []

-- 2013: the last party has the least divisor, its votes over 55.5, and by it the seats sum to the house
pub record House2013 : Type 0 where
  pub cdu : 3243569 * (2 * 242 - 1) ≤ 14921877 * 111
  pub spd : 3243569 * (2 * 182 - 1) ≤ 11252215 * 111
  pub linke : 3243569 * (2 * 61 - 1) ≤ 3755699 * 111
  pub gruene : 3243569 * (2 * 60 - 1) ≤ 3694057 * 111
  pub seats : seats_by votes_2013 floors_2013 4 ≡ 255 ∷ 193 ∷ 64 ∷ 63 ∷ 56 ∷ []
  pub growth : IsGrowth Webster votes_2013 floors_2013 598 4000 (GrownTo 631)

-- ---- covering

-- four winners for three seats: the one who stays out has a smaller share than each of the others, by cross products
pub record Covered : Type 0 where
  pub harbour : 48000 * 110000 < 52000 * 125000
  pub hills : 48000 * 105000 < 47000 * 125000
  pub valley : 48000 * 102000 < 41000 * 125000
  pub seated : IsOnly (IsCovering (52000 ∷ 47000 ∷ 48000 ∷ 41000 ∷ []) (110000 ∷ 105000 ∷ 125000 ∷ 102000 ∷ []) 3) (1 ∷ 1 ∷ 0 ∷ 1 ∷ [])
