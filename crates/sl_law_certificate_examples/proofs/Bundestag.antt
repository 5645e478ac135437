-- The certificates of 2013 and 2025. A cut is the divisor of its scope; the infinite one, 1/0, stands where no seat is awarded.
use Rattle.std.proofs.Common.{[], ◌∷◌, arith, refl}
use Rattle.std.specs.Prelude.{codes}
use Rattle.sl_law_meaning.specs.returns.Election.{IsElection, no_election}
use Rattle.sl_law_meaning.proofs.Elections.{is_with_land}
use Rattle.sl_law_statutes.specs.Trees.{law_of_2013, law_of_2023}
use Rattle.sl_law_examples.proofs.SmallReturns.{nothing}
use Rattle.sl_law_certificates.specs.Outcomes.{Certificate}
use Rattle.sl_law_certificates.proofs.Outcomes.{accepted_is_meant}
use Rattle.sl_law_certificate_examples.specs.Bundestag.{parties_of_2013, votes_of_2013, winners_of_2013, election_of_2013, table_of_2013, Bundestag2013}
use Rattle.sl_law_certificate_examples.specs.Bundestag.{parties_of_2025, votes_of_2025, election_of_2025, table_of_2025, Bundestag2025}
use Rattle.sl_law_certificate_examples.proofs.Returns.{are_parties, are_lists, are_winners, told, none_told}

-- ---- 2013

returns_of_2013 : IsElection election_of_2013
returns_of_2013 =
    let land = is_with_land no_election (codes "Bund") 80000000 nothing refl (omega arith) in
    are_winners 4 winners_of_2013 _ (are_lists 0 votes_of_2013 _ (are_parties parties_of_2013 _ land refl) refl) refl

-- `lands`, `first` and the grown house of `upper`: 6487138/111 is the rank of the 56th seat of the CSU, its minimum, which no smaller house meets; and
-- `lower`, where the CSU's winners take all of its seats
abbrev certificate_of_2013 : Certificate
certificate_of_2013 = record {
  stages = []
      ∷ (told (598 ∷ []) 133800 1 ∷ [])
      ∷ (told (242 ∷ 182 ∷ 61 ∷ 60 ∷ 53 ∷ []) 61700 1 ∷ [])
      ∷ []
      ∷ (told (255 ∷ 193 ∷ 64 ∷ 63 ∷ 56 ∷ []) 6487138 111 ∷ [])
      ∷ (told (255 ∷ []) 58600 1 ∷ told (193 ∷ []) 58400 1 ∷ told (64 ∷ []) 59000 1 ∷ told (63 ∷ []) 59000 1 ∷ none_told (56 ∷ []) ∷ [])
      ∷ [];
  lists = [];
}

pub bundestag_2013 : Bundestag2013
bundestag_2013 at = accepted_is_meant (law_of_2013 at) election_of_2013 certificate_of_2013 table_of_2013 returns_of_2013 refl

-- ---- 2025

returns_of_2025 : IsElection election_of_2025
returns_of_2025 =
    let land = is_with_land no_election (codes "Bund") 83000000 nothing refl (omega arith) in
    are_lists 0 votes_of_2025 _ (are_parties parties_of_2025 _ land refl) refl

-- `upper` and `lower`; no list has winners to be seated
abbrev certificate_of_2025 : Certificate
certificate_of_2025 = record {
  stages = []
      ∷ (told (164 ∷ 152 ∷ 120 ∷ 85 ∷ 64 ∷ 44 ∷ 1 ∷ []) 68100 1 ∷ [])
      ∷ (told (164 ∷ []) 68400 1 ∷ told (152 ∷ []) 68000 1 ∷ told (120 ∷ []) 68000 1 ∷ told (85 ∷ []) 68000 1 ∷ told (64 ∷ []) 68000 1
      ∷ told (44 ∷ []) 68000 1 ∷ told (1 ∷ []) 100000 1 ∷ [])
      ∷ [];
  lists = none_told [] ∷ none_told [] ∷ none_told [] ∷ none_told [] ∷ none_told [] ∷ none_told [] ∷ none_told [] ∷ [];
}

pub bundestag_2025 : Bundestag2025
bundestag_2025 at = accepted_is_meant (law_of_2023 at) election_of_2025 certificate_of_2025 table_of_2025 returns_of_2025 refl
