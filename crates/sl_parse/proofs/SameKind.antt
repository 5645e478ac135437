-- What kinds are the same.
use Rattle.std.proofs.Common.{◌≡◌, ℕ, false, true, refl, ap, eq-eqb}
use Rattle.std.proofs.lemmas.Bool.{eqb-true}
use Rattle.sl_lex.specs.declared.keyword.Keyword.{Keyword}
use Rattle.sl_lex.specs.contracts.keyword.Keyword.{the_type as keyword_type}
use Rattle.sl_lex.specs.contracts.token.Mark.{the_type as mark_type}
use Rattle.sl_lex.specs.declared.token.Mark.{Mark}
use Rattle.sl_lex.specs.declared.token.Kind.{Kind}
use Rattle.sl_lex.specs.declared.token.Kind.TheVariants as kinds
use Rattle.sl_parse.specs.Words.{same_kind}
use denote.Enum.Bare.{same_true, true_same}

-- what follows from the test of two kinds that is false as it computes
from_false : {A : Type 0} → false ≡ true → A
from_false e = absurd cc

pub same-kind : (a b : Kind) → same_kind a b ≡ true → a ≡ b
same-kind (kinds.Keyword a) (kinds.Keyword b) e = ap (λ (w : Keyword). kinds.Keyword w) (same_true keyword_type tt a b e)
same-kind kinds.Name kinds.Name e = refl
same-kind (kinds.Number a) (kinds.Number b) e = ap (λ (n : ℕ). kinds.Number n) (eqb-true _ _ e)
same-kind kinds.Text kinds.Text e = refl
same-kind (kinds.Mark a) (kinds.Mark b) e = ap (λ (m : Mark). kinds.Mark m) (same_true mark_type tt a b e)
same-kind _ _ e = from_false e

pub kind-same : (k : Kind) → same_kind k k ≡ true
kind-same (kinds.Keyword a) = true_same keyword_type a a refl
kind-same kinds.Name = refl
kind-same (kinds.Number n) = eq-eqb n n refl
kind-same kinds.Text = refl
kind-same (kinds.Mark m) = true_same mark_type m m refl
