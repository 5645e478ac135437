-- What is read as an expression is in the grammar and within the limits, and the machine goes along.
use Rattle.std.proofs.Common.{◌≡◌, ℕ, zero, suc, Bool, true, false, cond, List, [], ◌∷◌, Option, Some, None, Err, refl, sym, ◌⊎◌, inl, inr, arith}
use Rattle.sl_lex.specs.declared.token.Token.{Token}
use Rattle.sl_law_meaning.specs.book.Trees.{ExprTree, fact, name}
use Rattle.sl_law_meaning.specs.book.Limits.{depth_of, parts_of}
use Rattle.sl_parse.specs.declared.fault.Cause.TheVariants.{Expected, TooDeep}
use Rattle.sl_parse.specs.declared.form.Form.{Form}
use Rattle.sl_parse.specs.declared.form.Form.TheVariants as forms
use Rattle.sl_parse.specs.Words.{form_of}
use Rattle.sl_parse.specs.Grammar.{IsExpr}
use Rattle.sl_parse.specs.Faults.{Limits, begins_expr}
use Rattle.sl_parse.specs.inner.Reading.{read_form, read_node, no_room, read_expr}
use Rattle.sl_parse.proofs.Machine.{expr, full, next, scan}
use Rattle.sl_parse.proofs.TokenTests.{form-is}
use Rattle.sl_parse.proofs.ReadsArguments.{IsRead, Expr, ExprsRead, reads_sum, reads_pair, reads_split, reads_grow}

module _ (text : List ℕ) (l : Limits) where
  module _ (d : ℕ) (argument : ExprsRead text l d) (p : ℕ) where
    leaf : {here after : List Token} (e : ExprTree) → IsExpr text e here after → parts_of e ≡ 1 → depth_of e ≡ 1 → IsRead text l (suc d) (suc p) here (e, p, after)
    leaf e is parts depth = record { is = is; parts = omega arith; depth = omega arith }

    reads_form : (o : Option Form) (t : Token) (ts : List Token) → form_of t.kind ≡ o → Expr text l (suc d) (suc p) (expr (suc d) ∷ []) (t ∷ ts) (suc p, t ∷ ts) (read_form text (read_expr text d) p o t ts)
    unfolding read_form scan
    reads_form (Some (forms.Fact told)) t ts is = record { same = λ more. rw is refl; told = leaf (fact t.start told) (t, refl, (form-is t.kind _ is, refl)) refl refl }
    reads_form (Some forms.Name) t ts is = record { same = λ more. rw is refl; told = leaf (name t.start _) (t, refl, (form-is t.kind _ is, refl, refl)) refl refl }
    reads_form (Some forms.Sum) t ts is = let r = reads_sum text l d argument p t ts (form-is t.kind _ is) in record { same = λ more. rw is (r.same more); told = r.told }
    reads_form (Some (forms.Pair pairing)) t ts is = let r = reads_pair text l d argument p pairing t ts (form-is t.kind _ is) in record { same = λ more. rw is (r.same more); told = r.told }
    reads_form (Some forms.Split) t ts is = let r = reads_split text l d argument p t ts (form-is t.kind _ is) in record { same = λ more. rw is (r.same more); told = r.told }
    reads_form (Some forms.Grow) t ts is = let r = reads_grow text l d argument p t ts (form-is t.kind _ is) in record { same = λ more. rw is (r.same more); told = r.told }
    reads_form None t ts is = record { same = λ more. rw is refl; told = λ h. absurd h }

  reads_no_room : (d p : ℕ) → (d ≡ 0) ⊎ (p ≡ 0) → ((t : Token) → next text l (expr d) p t ≡ full t) → (ts : List Token) → Expr text l d p (expr d ∷ []) ts (p, ts) (no_room ts)
  unfolding no_room scan
  reads_no_room d p none stops [] = record { same = λ more. refl; told = λ is. absurd is }
  reads_no_room d p none stops (t ∷ ts) = go (begins_expr t.kind) refl
    where
      here : (d ≡ 0) ⊎ (p ≡ 0) → (0 ≡ d) ⊎ (0 ≡ p)
      here (inl e) = inl (sym e)
      here (inr e) = inr (sym e)

      go : (b : Bool) → begins_expr t.kind ≡ b → Expr text l d p (expr d ∷ []) (t ∷ ts) (p, t ∷ ts) (cond b (Err (TooDeep, t ∷ ts)) (Err (Expected, t ∷ ts)))
      go true is = record {
        same = λ more. rw (stops t, is) refl;
        told = λ h. (refl, record { levels = 0; before = 0; to = (refl, refl); begins = (t, ts, refl, is); breaks = here none });
      }
      go false is = record { same = λ more. rw (stops t, is) refl; told = λ h. absurd h }

  pub reads_expr : (d : ℕ) → ExprsRead text l d
  unfolding read_expr read_node scan
  reads_expr zero p ts = reads_no_room 0 p (inl refl) (λ t. refl) ts
  reads_expr (suc d) zero ts = reads_no_room (suc d) 0 (inr refl) (λ t. refl) ts
  reads_expr (suc d) (suc p) [] = record { same = λ more. refl; told = λ is. absurd is }
  reads_expr (suc d) (suc p) (t ∷ ts) = reads_form d (reads_expr d) p (form_of t.kind) t ts refl
