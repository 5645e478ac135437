-- What is in the grammar is read, up to the limits: one part after another, and one token.
use Rattle.std.proofs.Common.{◌≡◌, ◌≤◌, ◌<◌, List, length, Option, Ok, Err, refl, sym, subst, arith}
use Rattle.sl_lex.specs.declared.token.Kind.{Kind}
use Rattle.sl_lex.specs.declared.token.Token.{Token}
use Rattle.sl_parse.specs.Grammar.{one_token, token}
use Rattle.sl_parse.specs.inner.Reading.{Read, ◌>>=◌, one, this, taken}
use Rattle.sl_parse.proofs.TokenTests.{Tests, tests_kind}
use Rattle.sl_parse.proofs.Rules.{IsLimit}

-- A part of the tokens is a value: the reader finds it, or stops in it at a limit, which then doesn't hold of the value.
abbrev pub Finds : {A : Type 0} → Read A → A → List Token → Type 0 → Type 0
Finds (Ok y) x after fits = y ≡ x
Finds (Err e) x after fits = IsLimit e.0 × (length after < length e.1) × (fits → ⊥)

pub record Agrees {A : Type 0} (here after : List Token) (r : Read A) (x : A) (fits : Type 0) : Type 0 where
  pub shorter : length after ≤ length here
  pub finds : Finds r x after fits

pub then_agrees : {A B : Type 0} {here between after : List Token} {F G : Type 0} {y : B} (r : Read A) (f : A → Read B) (x : A) → Agrees here between r x F → (G → F) → Agrees between after (f x) y G → Agrees here after (r >>= f) y G
then_agrees {after = after} {G = G} {y = y} (Ok z) f x h g k = record { shorter = omega (arith, h.shorter, k.shorter); finds = let P : _ → Type 0 = λ w. Finds (f w) y after G in subst P (sym h.finds) k.finds }
then_agrees (Err e) f x h g k = record { shorter = omega (arith, h.shorter, k.shorter); finds = (h.finds.0, omega (arith, h.finds.1, k.shorter), λ fits. h.finds.2 (g fits)) }

pub agreed : {A : Type 0} {F : Type 0} (after : List Token) (y x : A) → y ≡ x → Agrees after after (Ok y) x F
agreed after y x e = record { shorter = omega arith; finds = e }

-- ---- one token

abbrev pub Any : Type 0
Any = Unit {0}

pub one_agrees : {A : Type 0} {P : A → Token → Type 0} (test : Token → Option A) → Tests test P → (x : A) (here after : List Token) → one_token (P x) here after → Agrees here after (one test here) (x, after) Any
one_agrees test tests x here after (t, is, h) =
    let found : one test here ≡ Ok (x, after) = rw (is, tests.takes t x h) refl in
    record { shorter = rw is (omega arith); finds = rw found refl }

pub taken_agrees : (k : Kind) (here after : List Token) → token k here after → Agrees here after (taken k here) after Any
unfolding taken
taken_agrees k here after h =
    then_agrees _ _ (tt, after) (one_agrees (this k) (tests_kind k) tt here after h) (λ fits. tt) (
    agreed after _ _ refl)
