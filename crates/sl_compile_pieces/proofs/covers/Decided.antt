-- Lists that yield choices, one after the other, up to the first tie.
use Rattle.std.proofs.Common.{◌≡◌, ℕ, Bool, false, List, [], ◌∷◌, ◌++◌, length, slice_get, sym, ap, ap₂, subst, append_assoc, ◌∙◌, inl, inr, arith}
use Rattle.std.specs.Prelude.{zip, flat_map, filter_map}
use Rattle.std.specs.List.{AllZip}
use Rattle.std.proofs.lemmas.Bool.{false≢true}
use Rattle.std.proofs.lemmas.Grind.{flat_map-append}
use Rattle.std.proofs.lemmas.List.{append-nil, nil_from_length}
use Rattle.std.proofs.lemmas.List.Elements.{filter_map-append}
use Rattle.std.proofs.lemmas.Option.{slice_get_cases}
use Rattle.sl_law_meaning.specs.declared.fault.LegalFault.{LegalFault}
use Rattle.sl_law_meaning.specs.declared.fault.FaultKind.TheVariants as fault
use Rattle.sl_law_meaning.specs.declared.fault.Scope.TheVariants as scope
use Rattle.sl_law_meaning.specs.returns.Election.{Election, IsElection, has_list}
use Rattle.sl_law_meaning.specs.returns.Facts.{lists_of}
use Rattle.sl_law_meaning.specs.methods.Ties.{Choice, Decided, Tied}
use Rattle.sl_law_meaning.specs.meaning.Splits.{entries_at}
use Rattle.sl_law_meaning.specs.meaning.Results.{fault_at}
use Rattle.sl_law_meaning.specs.meaning.Seating.{winner_items, IsSeating, tie_of, seated_on}
use Rattle.sl_law_meaning.specs.laws.OneLaws.{ExactlyOne}
use Rattle.sl_law_meaning.proofs.meaning.ExactlyOne.{one_zip}
use Rattle.sl_law_meaning.proofs.meaning.OneOutcome.{one_seating}
use Rattle.sl_code_instructions.specs.Codes.{CountingCode}
use Rattle.sl_code_semantics.specs.State.{End}
use Rattle.sl_compile_pieces.specs.covers.Covering.{EndsInTie}
use Rattle.sl_compile_pieces.proofs.covers.Pairs.{all_zip_both, zip_both}
use Rattle.sl_compile_pieces.proofs.covers.Winners.{won, each_winner}
use Rattle.sl_compile_pieces.proofs.covers.Ties.{EndsInListTie}

module _ (c : CountingCode) (eligible : ℕ → Bool) (e : Election) (base : List ℕ) where
  -- the choices of these lists are made, without a tie, and these winners are seated
  pub record AreDecided (ls : List (ℕ × ℕ)) (seated : List ℕ) : Type 0 where
    pub choices : List Choice
    pub chosen : AllZip (IsSeating eligible e base) ls choices
    pub no_tie : filter_map (tie_of eligible e (length c.stages)) (zip ls choices) ≡ []
    pub seated_are : flat_map (seated_on eligible e) (zip ls choices) ≡ seated

  pub decided_first : (ls : List (ℕ × ℕ)) → ls ≡ [] → AreDecided ls []
  decided_first ls none = record {
    choices = [];
    chosen = subst (λ ks. AllZip (IsSeating eligible e base) ks []) (sym none) tt;
    no_tie = ap (λ ks. filter_map (tie_of eligible e (length c.stages)) (zip ks [])) none;
    seated_are = ap (λ ks. flat_map (seated_on eligible e) (zip ks [])) none;
  }

  pub decided_more : (ls : List (ℕ × ℕ)) (seated : List ℕ) (l : ℕ × ℕ) (s : List ℕ) → AreDecided ls seated → IsSeating eligible e base l (Decided s) →
      AreDecided (ls ++ l ∷ []) (seated ++ seated_on eligible e (l, Decided s))
  decided_more ls seated l s d choice =
      let R = IsSeating eligible e base in
      let pairs = zip_both R ls (l ∷ []) d.choices (Decided s ∷ []) d.chosen in
      let tie = tie_of eligible e (length c.stages) in
      record {
        choices = d.choices ++ Decided s ∷ [];
        chosen = all_zip_both R ls (l ∷ []) d.choices (Decided s ∷ []) d.chosen (choice, tt);
        no_tie = ap (filter_map tie) pairs ∙ filter_map-append tie (zip ls d.choices) ((l, Decided s) ∷ []) ∙ ap (λ (fs : List LegalFault). fs ++ []) d.no_tie;
        seated_are = ap (flat_map (seated_on eligible e)) pairs ∙ flat_map-append (seated_on eligible e) (zip ls d.choices) ((l, Decided s) ∷ [])
            ∙ ap₂ (λ (ks ns : List ℕ). ks ++ ns) d.seated_are (append-nil (seated_on eligible e (l, Decided s)));
      }

  -- the first list with a tie ends the run: those after it yield some choice
  pub first_tie : (ls : List (ℕ × ℕ)) (seated : List ℕ) (l : ℕ × ℕ) (behind : List (ℕ × ℕ)) (end : End) → IsElection e → AreDecided ls seated → EndsInListTie c eligible e base l end →
      lists_of e ≡ (ls ++ l ∷ []) ++ behind → EndsInTie c e eligible base end
  first_tie ls seated l behind end is d h all =
      let R = IsSeating eligible e base in
      let tie = tie_of eligible e (length c.stages) in
      let rest : ExactlyOne (AllZip R behind) = one_zip R behind (one_seating eligible e is base) in
      let more : List Choice = Tied h.number h.among ∷ rest.one in
      let lists : lists_of e ≡ ls ++ l ∷ behind = all ∙ append_assoc ls (l ∷ []) behind in
      let chosen : AllZip R (ls ++ l ∷ behind) (d.choices ++ more) = all_zip_both R ls (l ∷ behind) d.choices more d.chosen (h.choice, rest.is) in
      let this : LegalFault = fault_at (length c.stages) (scope.List l.0 l.1) (fault.Tie h.number (entries_at (winner_items eligible e l.0 l.1) h.among)) in
      let faults : filter_map tie (zip (ls ++ l ∷ behind) (d.choices ++ more)) ≡ this ∷ filter_map tie (zip behind rest.one) =
      ap (filter_map tie) (zip_both R ls (l ∷ behind) d.choices more d.chosen) ∙ filter_map-append tie (zip ls d.choices) ((l, Tied h.number h.among) ∷ zip behind rest.one)
      ∙ ap (λ (fs : List LegalFault). fs ++ this ∷ filter_map tie (zip behind rest.one)) d.no_tie in
      record {
        choices = d.choices ++ more;
        chosen = record { each = subst (λ ks. AllZip R ks (d.choices ++ more)) (sym lists) chosen };
        fault = this;
        first = (λ z. slice_get (filter_map tie (zip (lists z) (d.choices ++ more))) 0) ∙ ap (λ (fs : List LegalFault). slice_get fs 0) faults;
        is = h.is;
      }

  -- a pair without a list has no winners
  pub nobody_without : (l : ℕ × ℕ) → has_list e l.0 l.1 ≡ false → won eligible e l ≡ []
  nobody_without l bare =
      elim (slice_get_cases (won eligible e l) 0).1 [
        | inl found ↦ absurd (false≢true (sym bare ∙ (each_winner eligible e l 0 found.0 found.2).listed))
        | inr past ↦ nil_from_length (won eligible e l) (let none = past.0 in omega (arith, none))
      ]
