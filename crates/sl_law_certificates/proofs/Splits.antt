-- What is shown of a split is its award, and something told shows it.
use Rattle.std.proofs.Common.{◌≡◌, ℕ, List, [], Some, None, length, sum, nat_eq, sym, ap, ◌∙◌, subst}
use Rattle.std.specs.Prelude.{Option, MatchOption, option_map}
use Rattle.std.specs.Option.{option_or}
use Rattle.std.proofs.lemmas.Bool.{eqb-true, eq-eqb}
use Rattle.std.proofs.lemmas.Option.{same_Some}
use Rattle.sl_base_quotients.specs.declared.method.Method.{Method}
use Rattle.sl_base_quotients.specs.declared.method.Method.TheVariants as by
use Rattle.sl_base_quotients.specs.Quotient.{Quotient}
use Rattle.sl_law_meaning.specs.declared.book.Majority.{Majority}
use Rattle.sl_law_meaning.specs.declared.fault.Item.{Item}
use Rattle.sl_law_meaning.specs.declared.fault.FaultKind.{FaultKind}
use Rattle.sl_law_meaning.specs.book.Typing.{is_prefer}
use Rattle.sl_law_meaning.specs.methods.Ties.{Distinct, Choice, IsChoice}
use Rattle.sl_law_meaning.specs.meaning.Splits.{Award, Refused, award_of, refusal, IsChosen, IsAllocation, IsSplitAward}
use Rattle.sl_law_meaning.specs.laws.Ladders.{Ladders, AreFalling, IsTop}
use Rattle.sl_law_meaning.proofs.methods.DivisorProofs.{divisor_ladders_law}
use Rattle.sl_law_meaning.proofs.methods.HamiltonProofs.{hamilton_ladders_law}
use Rattle.sl_law_certificates.specs.Cuts.{Told, shown_choice}
use Rattle.sl_law_certificates.specs.Awards.{ladders_of, chosen_award, shown_split}
use Rattle.sl_law_certificates.specs.Laws.{IsCut, SplitsAreShown}
use Rattle.sl_law_certificates.proofs.Tests.{if_some, if_true, map_some}
use Rattle.sl_law_certificates.proofs.CutLaws.{choice_meant, choice_found, last_cut}

-- ---- what is chosen by the ladders is chosen in a set with the same choices

module _ (X : List ℕ → Type 0) (l : Ladders) (law : AreFalling l) (items : List Item) (majority : Majority) (lot v : List ℕ) (seats : ℕ) where
  pub chosen_meant : (t : Told) (a : Award) → Distinct lot → ((c : Choice) → IsChoice (IsTop l seats) lot c → IsChoice X lot c) →
      chosen_award l items majority lot v seats t ≡ Some a → IsChosen X lot items majority v seats a
  chosen_meant t a distinct same h =
      let parts = if_some (nat_eq (sum t.seats) seats) (option_map (award_of items majority v seats) (shown_choice l t lot)) a h in
      let found = map_some (award_of items majority v seats) (shown_choice l t lot) a parts.1 in
      let total : sum t.seats ≡ seats = eqb-true (sum t.seats) seats parts.0 in
      record {
        choice = found.0;
        chosen = same found.0 (subst (λ n. IsChoice (IsTop l n) lot found.0) total (choice_meant l law lot distinct t found.0 found.1));
        is = sym found.2;
      }

  -- by seats of the chosen, with any cut
  pub chosen_found : (a : Award) → ((c : Choice) → IsChoice X lot c → IsChoice (IsTop l seats) lot c) → IsChosen X lot items majority v seats a →
      (s : List ℕ) × IsTop l seats s
      × ((q : Quotient) → IsCut l (record { seats = s; cut = q }) → chosen_award l items majority lot v seats (record { seats = s; cut = q }) ≡ Some a)
  chosen_found a same h =
      let found = choice_found l law seats lot h.choice (same h.choice h.chosen) in
      let s : List ℕ = found.0 in
      let top : IsTop l seats s = found.1 in (
        s,
        top,
        λ q cut. if_true (nat_eq (sum s) seats) _ None (Some a) (eq-eqb (sum s) seats top.total)
            (ap (option_map (award_of items majority v seats)) (found.2 q cut) ∙ ap Some (sym h.is)),
      )

-- ---- splits

-- what is told where nothing need be
abbrev pub nothing_told : Told
nothing_told = record { seats = []; cut = record { num = 1; den = 0 } }

refusal_meant : (o : Option FaultKind) (x : Option Award) (P : Type 0) (a : Award) → option_or (option_map (λ kind. Refused kind) o) x ≡ Some a → (x ≡ Some a → P) → MatchOption o P (λ kind. a ≡ Refused kind)
refusal_meant None x P a h f = f h
refusal_meant (Some kind) x P a h f = sym (same_Some (Refused kind) a h)

refusal_found : (o : Option FaultKind) (P : Type 0) (x : Told → Option Award) (a : Award) → MatchOption o P (λ kind. a ≡ Refused kind) →
    (P → (t : Told) × (x t ≡ Some a)) → (t : Told) × (option_or (option_map (λ kind. Refused kind) o) (x t) ≡ Some a)
refusal_found None P x a h f = f h
refusal_found (Some kind) P x a h f = (nothing_told, ap Some (sym h))

falling_of : (method : Method) (majority : Majority) (v m : List ℕ) (seats : ℕ) → length m ≡ length v → AreFalling (ladders_of method majority v m seats)
falling_of (by.Divisor d) majority v m seats long = (divisor_ladders_law d v m long).falling
falling_of by.Hamilton majority v m seats long = (hamilton_ladders_law (is_prefer majority) v seats).falling

from_tops : (method : Method) (majority : Majority) (lot v m : List ℕ) (seats : ℕ) → length m ≡ length v → (c : Choice) →
    IsChoice (IsTop (ladders_of method majority v m seats) seats) lot c → IsChoice (IsAllocation method majority v m seats) lot c
from_tops (by.Divisor d) majority lot v m seats long c h = ((divisor_ladders_law d v m long).choice seats lot c).0 h
from_tops by.Hamilton majority lot v m seats long c h = ((hamilton_ladders_law (is_prefer majority) v seats).choice lot c).0 h

to_tops : (method : Method) (majority : Majority) (lot v m : List ℕ) (seats : ℕ) → length m ≡ length v → (c : Choice) →
    IsChoice (IsAllocation method majority v m seats) lot c → IsChoice (IsTop (ladders_of method majority v m seats) seats) lot c
to_tops (by.Divisor d) majority lot v m seats long c h = ((divisor_ladders_law d v m long).choice seats lot c).1 h
to_tops by.Hamilton majority lot v m seats long c h = ((hamilton_ladders_law (is_prefer majority) v seats).choice lot c).1 h

module _ (method : Method) (majority : Majority) (items : List Item) (lot v m : List ℕ) (seats : ℕ) (a : Award) (distinct : Distinct lot) (long : length m ≡ length v) where
  abbrev l : Ladders
  l = ladders_of method majority v m seats

  abbrev X : List ℕ → Type 0
  X = IsAllocation method majority v m seats

  law : AreFalling l
  law = falling_of method majority v m seats long

  pub split_meant : (t : Told) → shown_split method majority items lot v m seats t ≡ Some a → IsSplitAward method majority items lot v m seats a
  split_meant t h =
      refusal_meant (refusal v m seats) (chosen_award l items majority lot v seats t) _ a h
      (chosen_meant X l law items majority lot v seats t a distinct (from_tops method majority lot v m seats long))

  pub split_found : IsSplitAward method majority items lot v m seats a → (t : Told) × (shown_split method majority items lot v m seats t ≡ Some a)
  split_found h =
      refusal_found (refusal v m seats) _ (chosen_award l items majority lot v seats) a h (λ chosen.
      let found = chosen_found X l law items majority lot v seats a (to_tops method majority lot v m seats long) chosen in
      let s : List ℕ = found.0 in
      let top : IsTop l seats s = found.1 in
      let cut = last_cut l law s (subst (λ n. IsTop l n s) (sym top.total) top) in
      (record { seats = s; cut = cut.0 }, found.2 cut.0 cut.1))

pub splits_are_shown : SplitsAreShown
splits_are_shown method majority items lot v m seats a distinct long = (
  split_found method majority items lot v m seats a distinct long,
  λ h. split_meant method majority items lot v m seats a distinct long h.0 h.1,
)
