-- The Bundestag of 2013 and of 2025 on the returns in examples/elections, whatever the offsets in the texts of the statutes.
use Rattle.std.specs.Prelude.{ℕ, Bool, true, false, List, [], ◌∷◌, replicate, codes}
use Rattle.sl_law_meaning.specs.declared.count.Records.TheVariants.{Dropped}
use Rattle.sl_law_meaning.specs.declared.table.Placed.TheVariants as placed
use Rattle.sl_law_meaning.specs.meaning.Counts.{IsMeantTable}
use Rattle.sl_law_meaning.specs.meaning.Tables.{SeatTable}
use Rattle.sl_law_meaning.specs.returns.Election.{Election, no_election, with_land}
use Rattle.sl_law_statutes.specs.Trees.{law_of_2013, law_of_2023}
use Rattle.sl_law_certificate_examples.specs.Returns.{with_parties, with_lists, with_winners, table_of, line}

-- ---- 2013: the votes in the whole country, as those of one Land, and the winners of the CSU

abbrev pub parties_of_2013 : List (List ℕ × Bool)
parties_of_2013 = (codes "CDU", false) ∷ (codes "SPD", false) ∷ (codes "LINKE", false) ∷ (codes "GRUENE", false) ∷ (codes "CSU", false) ∷ []

abbrev pub votes_of_2013 : List ℕ
votes_of_2013 = 14921877 ∷ 11252215 ∷ 3755699 ∷ 3694057 ∷ 3243569 ∷ []

abbrev pub winners_of_2013 : List (List ℕ)
winners_of_2013 =
    codes "w1" ∷ codes "w2" ∷ codes "w3" ∷ codes "w4" ∷ codes "w5" ∷ codes "w6" ∷ codes "w7" ∷ codes "w8" ∷ codes "w9"
    ∷ codes "w10" ∷ codes "w11" ∷ codes "w12" ∷ codes "w13" ∷ codes "w14" ∷ codes "w15" ∷ codes "w16" ∷ codes "w17" ∷ codes "w18"
    ∷ codes "w19" ∷ codes "w20" ∷ codes "w21" ∷ codes "w22" ∷ codes "w23" ∷ codes "w24" ∷ codes "w25" ∷ codes "w26" ∷ codes "w27"
    ∷ codes "w28" ∷ codes "w29" ∷ codes "w30" ∷ codes "w31" ∷ codes "w32" ∷ codes "w33" ∷ codes "w34" ∷ codes "w35" ∷ codes "w36"
    ∷ codes "w37" ∷ codes "w38" ∷ codes "w39" ∷ codes "w40" ∷ codes "w41" ∷ codes "w42" ∷ codes "w43" ∷ codes "w44" ∷ codes "w45"
    ∷ codes "w46" ∷ codes "w47" ∷ codes "w48" ∷ codes "w49" ∷ codes "w50" ∷ codes "w51" ∷ codes "w52" ∷ codes "w53" ∷ codes "w54"
    ∷ codes "w55" ∷ codes "w56" ∷ []

abbrev pub election_of_2013 : Election
election_of_2013 = with_winners 4 winners_of_2013 (with_lists 0 votes_of_2013 (with_parties parties_of_2013 (with_land no_election (codes "Bund") 80000000)))

abbrev pub table_of_2013 : SeatTable
table_of_2013 = table_of (line 0 255 0 ∷ line 1 193 0 ∷ line 2 64 0 ∷ line 3 63 0 ∷ line 4 56 56 ∷ []) (replicate 56 placed.OnList)

abbrev pub Bundestag2013 : Type 0
Bundestag2013 = (at : ℕ → ℕ) → IsMeantTable Dropped (law_of_2013 at) election_of_2013 table_of_2013

-- ---- 2025: the votes in the whole country, as those of one Land, and no winners

abbrev pub parties_of_2025 : List (List ℕ × Bool)
parties_of_2025 = (codes "CDU", false) ∷ (codes "AFD", false) ∷ (codes "SPD", false) ∷ (codes "GRUENE", false) ∷ (codes "LINKE", false) ∷ (codes "CSU", false) ∷ (codes "SSW", true) ∷ []

abbrev pub votes_of_2025 : List ℕ
votes_of_2025 = 11196374 ∷ 10328780 ∷ 8149124 ∷ 5762380 ∷ 4356532 ∷ 2964028 ∷ 76138 ∷ []

abbrev pub election_of_2025 : Election
election_of_2025 = with_lists 0 votes_of_2025 (with_parties parties_of_2025 (with_land no_election (codes "Bund") 83000000))

abbrev pub table_of_2025 : SeatTable
table_of_2025 = table_of (line 0 164 0 ∷ line 1 152 0 ∷ line 2 120 0 ∷ line 3 85 0 ∷ line 4 64 0 ∷ line 5 44 0 ∷ line 6 1 0 ∷ []) []

abbrev pub Bundestag2025 : Type 0
Bundestag2025 = (at : ℕ → ℕ) → IsMeantTable Dropped (law_of_2023 at) election_of_2025 table_of_2025
