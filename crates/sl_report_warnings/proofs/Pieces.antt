-- One piece more after others, and the piece of a lot.
use Rattle.std.proofs.Common.{Bool, List, Some, [], append_assoc, ap, arith, count_by, false, get_or, length, map, refl, suc, sym, true, zero, ◌++◌, ◌+◌, ◌-◌, ◌<◌, ◌||◌, ◌≡◌, ◌∙◌, ◌∷◌, ℕ}
use Rattle.std.specs.List.{flat_map, list_any, position, range_with_len}
use Rattle.std.specs.Prelude.{if◌then◌else◌, slice_get}
use Rattle.sl_report_parties.proofs.Steps.{pieces_more}
use Rattle.sl_explain_texts.specs.declared.language.Language.{Language}
use Rattle.sl_law_meaning.specs.book.Trees.{BookTree, StageTree, stage_of}
use Rattle.sl_law_meaning.specs.declared.book.Stage.{Stage}
use Rattle.sl_law_meaning.specs.declared.election.Lot.{Lot}
use Rattle.sl_law_meaning.specs.returns.Election.{Election}
use Rattle.sl_report_warnings.specs.Heads.{are_of_kind, is_at, line_at, line_of}
use Rattle.sl_report_warnings.specs.Warnings.{of_lot, of_numbered}
use Rattle.sl_report_warnings.specs.declared.warning.Warning.{Warning}

pub pieces_behind : {X : Type 0} (f : ℕ → List X) (n : ℕ) (front xs ys : List X) → xs ≡ front ++ flat_map f (range_with_len 0 n) → ys ≡ xs ++ f n
    → ys ≡ front ++ flat_map f (range_with_len 0 (n + 1))
pieces_behind f n front xs ys so_far joined =
    joined ∙ ap (λ zs. zs ++ f n) so_far ∙ append_assoc front (flat_map f (range_with_len 0 n)) (f n)
    ∙ ap (λ zs. front ++ zs) (pieces_more f n (flat_map f (range_with_len 0 n)) (flat_map f (range_with_len 0 n) ++ f n) refl refl)

pub pieces_end : {X : Type 0} (f : ℕ → List X) (n m : ℕ) (front xs : List X) → n ≡ m → xs ≡ front ++ flat_map f (range_with_len 0 n) → xs ≡ front ++ flat_map f (range_with_len 0 m)
pieces_end f n m front xs is so_far = so_far ∙ ap (λ k. front ++ flat_map f (range_with_len 0 k)) is

pub numbered : (b : BookTree) (e : Election) (n : ℕ) (lot : Lot) → slice_get e.lots n ≡ Some lot → of_numbered b e n ≡ of_lot b e n lot
numbered b e n lot there = rw there refl

-- the line of a warning at its place, by whether it is the first of its kind
pub at_place : (language : Language) (e : Election) (ws : List Warning) (n : ℕ) (w : Warning) (first : Bool) → slice_get ws n ≡ Some w → is_at n (position (are_of_kind w) ws) ≡ first →
    line_at language e ws n ≡ (if first then line_of language e w (count_by (are_of_kind w) ws - 1) else [])
at_place language e ws n w first there is = rw there (ap (λ b. if b then line_of language e w (count_by (are_of_kind w) ws - 1) else []) is)

-- the expression of one of the stages passes, where that at a place does
pub stage_passes : (p : StageTree → Bool) (ss : List Stage) (i : ℕ) (s : Stage) → i < length ss → s ≡ get_or ss i s → p (stage_of s) ≡ true → list_any p (map stage_of ss) ≡ true
stage_passes p [] i s within here passes = absurd (omega arith)
stage_passes p (x ∷ ss) zero s within here passes = ap (λ b. b || list_any p (map stage_of ss)) (ap (λ t. p (stage_of t)) (sym here) ∙ passes)
stage_passes p (x ∷ ss) (suc i) s within here passes = ap (λ b. p (stage_of x) || b) (stage_passes p ss i s (omega arith) here passes) ∙ or_true (p (stage_of x)) where
  or_true : (b : Bool) → (b || true) ≡ true
  or_true true = refl
  or_true false = refl
