-- The values of the sentence on a tie, by what each call ensures.
use Rattle.std.proofs.Common.{[], ◌∷◌, ◌≡◌, ◌∙◌, List, subst, ℕ}
use Rattle.sl_explain_faults.proofs.legal.say_tie.Goals as goal
use Rattle.sl_explain_faults.specs.declared.texts.legal.TheConstants.{TIE}
use Rattle.sl_explain_texts.specs.Explainers.{Begins}
use Rattle.sl_explain_texts.specs.Languages.{row_of_fault}
use Rattle.sl_explain_texts.specs.Messages.{says}

by_values : (P : List ℕ → List ℕ → List ℕ → List ℕ → List ℕ → Type 0) (a b c d e a' b' c' d' e' : List ℕ) → a ≡ a' → b ≡ b' → c ≡ c' → d ≡ d' → e ≡ e'
    → P a b c d e → P a' b' c' d' e'
by_values P a b c d e a' b' c' d' e' ea eb ec ed ee known =
    subst (λ x. P a' b' c' d' x) ee (subst (λ x. P a' b' c' x e) ed (subst (λ x. P a' b' x d e) ec (subst (λ x. P a' x c d e) eb (subst (λ x. P x b c d e) ea known))))

pub returns-clause-said : goal.returns-clause-said
returns-clause-said c =
    rw c.requires
    (by_values (λ stage scope seats claims names. Begins c.says.result (says c.args.speaker.language (row_of_fault TIE) (stage ∷ scope ∷ seats ∷ claims ∷ names ∷ []))) _ _ _ _ _ _ _ _ _ _
    c.stage_name-stage.ensures (c.as_slice.ensures.value ∙ c.in_ok-scope.ensures) (c.as_slice-2.ensures.value ∙ c.in_ok-seats.ensures)
    (c.as_slice-3.ensures.value ∙ c.in_ok-claims.ensures) (c.as_slice-4.ensures.value ∙ c.in_ok-names.ensures) c.says.ensures.said)
