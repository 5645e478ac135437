-- Facts that hold of exactly one thing, from those of their parts.
use Rattle.std.proofs.Common.{◌≡◌, ℕ, List, [], ◌∷◌, Option, Some, None, refl, ap, subst, ◌∙◌}
use Rattle.std.specs.Prelude.{MatchOption}
use Rattle.std.specs.List.{AllZip}
use Rattle.sl_law_meaning.specs.laws.OneLaws.{ExactlyOne}
use Rattle.sl_law_meaning.specs.meaning.Results.{ExprResult, Column, Fault, behind, Continues, Then}

pub same_ones : {A : Type 0} (P : A → Type 0) → ExactlyOne P → (x y : A) → P x → P y → x ≡ y
same_ones P h x y p q = cc (h.only x p, h.only y q)

pub one_equal : {A : Type 0} (v : A) → ExactlyOne (λ x. x ≡ v)
one_equal v = record { one = v; is = refl; only = λ x h. h }

pub one_image : {A B : Type 0} (P : A → Type 0) (f : A → B) → ExactlyOne P → ExactlyOne (λ y. (x : A) × P x × (y ≡ f x))
one_image P f h = record { one = f h.one; is = (h.one, h.is, refl); only = λ y k. k.2 ∙ ap f (h.only k.0 k.1) }

pub one_matched : {T A : Type 0} (o : Option T) (P : A → Type 0) (Q : T → A → Type 0) → (o ≡ None → ExactlyOne P) → ((t : T) → ExactlyOne (Q t)) →
    ExactlyOne (λ x. MatchOption o (P x) (λ t. Q t x))
one_matched None P Q p q = p refl
one_matched (Some t) P Q p q = q t

no_pairs : {A B : Type 0} (R : A → B → Type 0) (ys : List B) → AllZip R [] ys → ys ≡ []
no_pairs R [] h = refl
no_pairs R (y ∷ ys) h = absurd h

more_pairs : {A B : Type 0} (R : A → B → Type 0) (x : A) (xs : List A) (one : B) (all : List B) → ((y : B) → R x y → y ≡ one) → ((ys : List B) → AllZip R xs ys → ys ≡ all) →
    (ys : List B) → AllZip R (x ∷ xs) ys → ys ≡ one ∷ all
more_pairs R x xs one all first rest [] h = absurd h
more_pairs R x xs one all first rest (y ∷ ys) h = cc (first y h.0, rest ys h.1)

pub one_zip : {A B : Type 0} (R : A → B → Type 0) (xs : List A) → ((x : A) → ExactlyOne (R x)) → ExactlyOne (AllZip R xs)
one_zip R [] each = record { one = []; is = tt; only = no_pairs R }
one_zip R (x ∷ xs) each =
    let rest = one_zip R xs each in
    record { one = (each x).one ∷ rest.one; is = ((each x).is, rest.is); only = more_pairs R x xs (each x).one rest.one (each x).only rest.only }

-- ---- one thing after another

continues : (Next : List ℕ → ExprResult → Type 0) (p : ExprResult) → ((c : List ℕ) → ExactlyOne (Next c)) → ExactlyOne (Continues Next p)
continues Next (Fault f) next = one_equal (Fault f)
continues Next (Column c records) next = one_image (Next c) (behind records) (next c)

pub one_then : (First : ExprResult → Type 0) (Next : List ℕ → ExprResult → Type 0) → ExactlyOne First → ((c : List ℕ) → ExactlyOne (Next c)) → ExactlyOne (Then First Next)
one_then First Next f next =
    let after = continues Next f.one next in
    record {
      one = after.one;
      is = record { first = f.one; comes = f.is; goes_on = after.is };
      only = λ r h. after.only r (subst (λ p. Continues Next p r) (f.only h.first h.comes) h.goes_on);
    }
