use Rattle.std.proofs.Common.{Bor, List, Result, ap, option_map, subst, sym, ◌≡◌, ◌∙◌, ◌++◌, ◌∷◌, ◌-◌, [], length, drop, ℕ, Ok, Err}
use Rattle.std.proofs.lemmas.List.{append_cancel_right, take-append-drop}
use Rattle.std.proofs.lemmas.Slice.Eq.{bytes_eq-Decides}
use Rattle.std.specs.Prelude.{IsUtf8}
use Rattle.std.specs.Result.{MatchResult, result_ok}
use Rattle.sl_report_tables.specs.Answers.{IsToldLine}
use Rattle.sl_report_tables.proofs.answer.without_end.Goals as goal

-- what is before the end of a line, where it is UTF-8
told : {E : Type 0} (More : E → Type 0) (line before : List ℕ) (r : Result (Bor (List ℕ)) E) → line ≡ before ++ 10 ∷ []
    → MatchResult r (λ s. (s.now ≡ before) × IsUtf8 before) (λ e. ¬ IsUtf8 before × More e) → IsToldLine line (option_map (λ s. s.now) (result_ok r))
told More line before (Ok s) is cases = is ∙ ap (λ b. b ++ 10 ∷ []) (sym cases.0)
told More line before (Err e) is cases = λ other at utf8. cases.0 (subst IsUtf8 (append_cancel_right _ _ _ (sym at ∙ is)) utf8)

pub returns : goal.returns
returns c =
    let line = c.args.line.now in
    let cases = c.in_ok-line.ensures.cases in
    let whole : line ≡ c.in_ok-line.line.now ++ 10 ∷ [] = sym (take-append-drop (length line - 1) line)
    ∙ (λ i. sym cases.1 i ++ (bytes_eq-Decides (drop (length line - 1) line) (10 ∷ [])).0 cases.0 i) in
    subst (λ o. IsToldLine line (option_map (λ (s : Bor (List ℕ)). s.now) o)) (sym c.ok.ensures.value) (told _ line c.in_ok-line.line.now c.from_utf8.result whole c.from_utf8.ensures.cases)
