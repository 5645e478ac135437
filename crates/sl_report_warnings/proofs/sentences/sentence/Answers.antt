-- What is said of winners, of lists that count no vote, of a name of several parties, and of a lot.
use Rattle.std.proofs.Common.{◌≡◌, ◌∷◌, [], IfOk, List, codes, subst, ℕ}
use Rattle.sl_explain_texts.specs.Languages.{row}
use Rattle.sl_explain_texts.specs.Messages.{said, says}
use Rattle.sl_report_warnings.specs.Sentences.{lists_in, name_at, no_entry, winners_in}
use Rattle.sl_report_warnings.specs.declared.texts.rows.TheConstants.{NOTHING_COUNTED, SEVERAL_PARTIES, WINNERS_BESIDE_LISTS, WINNERS_WITHOUT_LIST}
use Rattle.sl_report_warnings.proofs.sentences.sentence.Goals as goal

pub returns-in-WinnersWithoutList : goal.returns-in-WinnersWithoutList
returns-in-WinnersWithoutList c =
    rw c.in-WinnersWithoutList.is (subst (λ p. IfOk c.winners_sentence.result (λ text. text.items ≡ says c.args.language (row WINNERS_WITHOUT_LIST) (p ∷ winners_in c.args.language c.in-WinnersWithoutList.winners ∷ [])))
    c.party_name-party.ensures c.winners_sentence.ensures)

pub returns-in-WinnersBesideLists : goal.returns-in-WinnersBesideLists
returns-in-WinnersBesideLists c =
    rw c.in-WinnersBesideLists.is
    (subst (λ l. says_both (name_at c.args.returns.now.party_names c.in-WinnersBesideLists.party) l) c.land_name-land.ensures
    (subst (λ p. says_both p c.land_name-land.result.now) c.party_name-party-in-WinnersBesideLists.ensures c.winners_sentence-in-WinnersBesideLists.ensures)) where
      says_both : List ℕ → List ℕ → Type 0
      says_both party land =
          IfOk c.winners_sentence-in-WinnersBesideLists.result
          (λ text. text.items ≡ says c.args.language (row WINNERS_BESIDE_LISTS) (party ∷ winners_in c.args.language c.in-WinnersBesideLists.winners ∷ land ∷ []))

pub returns-in-NothingCounted : goal.returns-in-NothingCounted
returns-in-NothingCounted c =
    rw c.in-NothingCounted.is (subst (λ p. IfOk c.lists_sentence.result (λ text. text.items ≡ says c.args.language (row NOTHING_COUNTED) (lists_in c.args.language c.in-NothingCounted.lists ∷ p ∷ [])))
    c.party_name.ensures c.lists_sentence.ensures)

pub returns-in-SeveralParties : goal.returns-in-SeveralParties
returns-in-SeveralParties c =
    rw c.in-SeveralParties.is (subst (λ p. IfOk c.text-in-SeveralParties.result (λ text. text.items ≡ says c.args.language (row SEVERAL_PARTIES) (p ∷ [])))
    c.party_name-in-SeveralParties.ensures c.text-in-SeveralParties.ensures)

pub returns-in-LotOfNoEntry : goal.returns-in-LotOfNoEntry
returns-in-LotOfNoEntry c =
    rw c.in-LotOfNoEntry.is (subst (λ stage. IfOk c.entry_sentence.result (λ text. text.items ≡ said c.args.language (no_entry c.in-LotOfNoEntry.shape) ((codes "stage", stage) ∷ [])))
    c.lot_stage-stage.ensures c.entry_sentence.ensures)
