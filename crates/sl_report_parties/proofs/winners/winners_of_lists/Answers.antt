use Rattle.std.proofs.Common.{◌≡◌, ◌≤◌, ◌++◌, ◌∷◌, ℕ, [], length, filter, map, arith, rules, sym, take, ap, ◌∙◌}
use Rattle.std.specs.Prelude.{if◌then◌else◌}
use Rattle.std.specs.List.{enumerate_from}
use Rattle.std.proofs.lemmas.List.{take_all}
use Rattle.std.proofs.lemmas.List.Elements.{All-map}
use Rattle.std.proofs.lemmas.List.FromFn.{length-enumerate_from}
use Rattle.sl_law_meaning.specs.declared.election.Win.{Win}
use Rattle.sl_law_meaning.specs.returns.Election.{IsWin, lands_of, parties_of}
use Rattle.sl_report_parties.proofs.ContestSteps.{numbered_at}
use Rattle.sl_report_parties.proofs.Steps.{all_at, filter_next}
use Rattle.sl_report_parties.proofs.WinnerPlaces.{none_there}
use Rattle.sl_report_parties.specs.inner.Winners.{is_at, list_place}
use Rattle.sl_report_parties.proofs.winners.winners_of_lists.Goals as goal

pub list_place-requires : goal.list_place-requires
list_place-requires c =
    let e = c.args.returns.now in
    all_at (IsWin (lands_of e) (parties_of e)) e.wins c.loop-number.number c.win-win.result c.wins-number-end.ensures.kept.places c.win-win.ensures

pub loop-number-init : goal.loop-number-init
loop-number-init c = record {
  long = search rules;
  on = none_there (map (λ own. own.items) c.in_ok-all.all.items) (All-map (λ row. row ≡ []) (λ own. own.items) c.in_ok-all.all.items c.in_ok-all.ensures.empty);
}

pub loop-number-preserved : goal.loop-number-preserved
loop-number-preserved c =
    let e = c.args.returns.now in
    let i = c.loop-number.number in
    let one : ℕ × Win = (i, c.win-win.result) in
    record {
      long = c.in_ok-push_at.ensures.long ∙ c.loop-number.invariant.long;
      on = λ n.
          c.in_ok-push_at.ensures.pushed n ∙ ap (λ xs. xs ++ (if is_at n c.list_place.result then one ∷ [] else [])) (c.loop-number.invariant.on n)
          ∙ ap (λ o. filter (λ x. is_at n (list_place e x.1)) (take i (enumerate_from 0 e.wins)) ++ (if is_at n o then one ∷ [] else [])) c.list_place.ensures.place
          ∙ sym (filter_next (λ x. is_at n (list_place e x.1)) (enumerate_from 0 e.wins) i one (numbered_at e.wins i c.win-win.result c.win-win.ensures));
    }

pub returns : goal.returns
returns c = λ n.
    let e = c.args.returns.now in
    let long : length (enumerate_from 0 e.wins) ≤ c.loop-number.number = omega (arith, c.loop-number-test.false, c.wins-number-end.ensures.number, length-enumerate_from 0 e.wins) in
    c.loop-number.invariant.on n ∙ ap (filter (λ x. is_at n (list_place e x.1))) (take_all c.loop-number.number (enumerate_from 0 e.wins) long)
