-- How warnings are written (docs/returns.md, section 7).
use Rattle.std.specs.Fmt.{decimal}
use Rattle.std.specs.List.{position, range_with_len}
use Rattle.std.specs.Prelude.{List, None, Option, Some, [], Bool, codes, count_by, false, flat_map, if◌then◌else◌, length, nat_eq, slice_get, ◌++◌, ◌-◌, ◌∷◌, ℕ}
use Rattle.std.specs.Str.{bytes_eq}
use Rattle.sl_explain_texts.specs.Codes.{code_word}
use Rattle.sl_explain_texts.specs.Languages.{row, warning_word}
use Rattle.sl_explain_texts.specs.Messages.{said}
use Rattle.sl_explain_texts.specs.declared.code.FaultCode.TheVariants.{W01, W02, W03, W04, W05, W06, W07, W08, W09, W10, W11, W12, W13, W14, W15, W16, W17, W18, W19, W20}
use Rattle.sl_explain_texts.specs.declared.code.FaultCode.{FaultCode}
use Rattle.sl_explain_texts.specs.declared.language.Language.{Language}
use Rattle.sl_law_meaning.specs.returns.Election.{Election}
use Rattle.sl_report_warnings.specs.Sentences.{sentence_of}
use Rattle.sl_report_warnings.specs.declared.texts.rows.TheConstants as texts
use Rattle.sl_report_warnings.specs.declared.warning.Warning.TheVariants.{EqualPeople, FewParties, FewSecondVotes, FewVotes, LandIsSum, LandWithoutVotes, LandWithoutWinners, LotOfNoEntry, LotOfNoSeats, LotUnused, MinorityEverywhere, MoreVotesThanPeople, NothingCounted, OnePartyAlone, OtherHouse, SeveralParties, StageUnused, SumOfParties, WinnersBesideLists, WinnersWithoutList}
use Rattle.sl_report_warnings.specs.declared.warning.Warning.{Warning}

-- the word for a kind of warnings
abbrev pub key_of : Warning → List ℕ
key_of EqualPeople = codes "people"
key_of (LandWithoutWinners land) = codes "land_without_winners"
key_of (WinnersWithoutList party winners) = codes "winners_without_list"
key_of (WinnersBesideLists land party winners) = codes "winners_beside_lists"
key_of (NothingCounted party lists) = codes "nothing_counted"
key_of (SeveralParties party) = codes "several_parties"
key_of (LotUnused lot) = codes "lot_unused"
key_of (LotOfNoEntry lot shape) = codes "lot_of_no_entry"
key_of (OtherHouse returns book) = codes "house"
key_of (FewParties parties) = codes "few_parties"
key_of (LandWithoutVotes land) = codes "land_without_votes"
key_of (MoreVotesThanPeople land votes people) = codes "more_votes_than_people"
key_of (FewSecondVotes land votes first) = codes "few_second_votes"
key_of (LandIsSum land) = codes "land_is_sum"
key_of (SumOfParties party) = codes "sum_of_parties"
key_of (MinorityEverywhere party) = codes "minority_everywhere"
key_of (FewVotes votes seats) = codes "few_votes"
key_of (OnePartyAlone party) = codes "one_party_alone"
key_of (LotOfNoSeats lot) = codes "lot_of_no_seats"
key_of (StageUnused stage) = codes "stage_unused"

-- the code of a kind of warnings
abbrev pub code_of : Warning → FaultCode
code_of EqualPeople = W01
code_of (LandWithoutWinners land) = W02
code_of (WinnersWithoutList party winners) = W03
code_of (WinnersBesideLists land party winners) = W04
code_of (NothingCounted party lists) = W05
code_of (SeveralParties party) = W06
code_of (LotUnused lot) = W07
code_of (LotOfNoEntry lot shape) = W08
code_of (OtherHouse returns book) = W09
code_of (FewParties parties) = W10
code_of (LandWithoutVotes land) = W11
code_of (MoreVotesThanPeople land votes people) = W12
code_of (FewSecondVotes land votes first) = W13
code_of (LandIsSum land) = W14
code_of (SumOfParties party) = W15
code_of (MinorityEverywhere party) = W16
code_of (FewVotes votes seats) = W17
code_of (OnePartyAlone party) = W18
code_of (LotOfNoSeats lot) = W19
code_of (StageUnused stage) = W20

-- warnings of one kind
abbrev pub are_of_kind : Warning → Warning → Bool
are_of_kind w v = bytes_eq (code_word (code_of w)) (code_word (code_of v))

-- the word for a warning, and its code in brackets, as `warning[W01]: `
abbrev pub head_of : Language → Warning → List ℕ
head_of language w = ((warning_word language ++ codes "[") ++ code_word (code_of w)) ++ codes "]: "

-- how many further ones of its kind there are, where there are some
abbrev pub others_said : Language → ℕ → List ℕ
others_said language others = if nat_eq others 0 then [] else said language (row texts.OTHERS) ((codes "others", decimal others) ∷ [])

-- a warning as a line, with how many further ones of its kind there are
abbrev pub line_of : Language → Election → Warning → (others : ℕ) → List ℕ
line_of language e w others = ((head_of language w ++ sentence_of language e w) ++ others_said language others) ++ codes "\n"

-- the first place is that one
abbrev pub is_at : ℕ → Option ℕ → Bool
is_at number None = false
is_at number (Some first) = nat_eq first number

-- the line of the warning at a place, if it is the first of its kind
abbrev pub line_at : Language → Election → List Warning → ℕ → List ℕ
line_at language e ws number = line_if (slice_get ws number) where
  line_if : Option Warning → List ℕ
  line_if None = []
  line_if (Some w) = if is_at number (position (are_of_kind w) ws) then line_of language e w (count_by (are_of_kind w) ws - 1) else []

-- warnings of returns as they are written: a line for each kind
abbrev pub warning_lines : Language → Election → List Warning → List ℕ
warning_lines language e ws = flat_map (line_at language e ws) (range_with_len 0 (length ws))
