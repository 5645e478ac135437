-- Lists of tests in a row.
use Rattle.std.proofs.Common.{◌≡◌, Bool, List, [], ◌∷◌, ◌++◌, Option, Some, None, is_none, true, false, if◌then◌else◌, refl, ◌∙◌, sym}
use Rattle.std.specs.Option.{option_or}
use Rattle.sl_base_terms.specs.Tests.{Test, first_failing}

module _ {F : Type 0} where
  -- the first that fails is that of the first list, or else that of the second
  pub fails_in_row : (a b : List (Test F)) → first_failing (a ++ b) ≡ option_or (first_failing a) (first_failing b)
  fails_in_row [] b = refl
  fails_in_row (t ∷ a) b =
      elim t.holds as (λ h. (if h then first_failing (a ++ b) else Some t.otherwise) ≡ option_or (if h then first_failing a else Some t.otherwise) (first_failing b))
      [ true ↦ fails_in_row a b | false ↦ refl ]

  pub fails_first : (a b : List (Test F)) (f : F) → first_failing a ≡ Some f → first_failing (a ++ b) ≡ Some f
  fails_first a b f h = fails_in_row a b ∙ rw h refl

  pub no_fault : (tests : List (Test F)) → is_none (first_failing tests) ≡ true → first_failing tests ≡ None
  no_fault tests h = elim (first_failing tests) as (λ o. is_none o ≡ true → o ≡ None) [ None ↦ λ p. refl | Some f ↦ λ p. cc ] h

  pub neither : (x y : Option F) → option_or x y ≡ None → (x ≡ None) × (y ≡ None)
  neither None y h = (refl, h)
  neither (Some f) y h = cc

  -- all of both lists hold
  pub pass_parts : (a b : List (Test F)) → first_failing (a ++ b) ≡ None → (first_failing a ≡ None) × (first_failing b ≡ None)
  pass_parts a b h = neither (first_failing a) (first_failing b) (sym (fails_in_row a b) ∙ h)

  pub pass_join : (a b : List (Test F)) → first_failing a ≡ None → first_failing b ≡ None → first_failing (a ++ b) ≡ None
  pass_join a b p q = fails_in_row a b ∙ rw (p, q) refl

  -- the first of them holds, and so do the rest
  pub head_holds : (b : Bool) (rest : Option F) (f : F) → (if b then rest else Some f) ≡ None → (b ≡ true) × (rest ≡ None)
  head_holds true rest f h = (refl, h)
  head_holds false rest f h = cc
