-- Which words are keywords.
use Rattle.std.proofs.Common.{◌≡◌, ℕ, Bool, true, false, cond, List, [], ◌∷◌, Option, Some, refl, sym}
use Rattle.std.specs.List.{find}
use Rattle.std.specs.Str.{bytes_eq}
use Rattle.std.proofs.lemmas.Slice.Eq.{bytes_eq-Decides}
use Rattle.sl_lex.specs.declared.keyword.Keyword.{Keyword}
use Rattle.sl_lex.specs.declared.keyword.Keyword.TheVariants.{Rulebook}
use Rattle.sl_lex.specs.Keywords.{spelling, keyword_of, keywords}

pub keyword_of-spelling : (k : Keyword) → keyword_of (spelling k) ≡ Some k
keyword_of-spelling Rulebook = refl
keyword_of-spelling _ = refl

found_at : {X : Type 0} (test : X → Bool) (x y : X) (later : Option X) → (later ≡ Some x → test x ≡ true) → (b : Bool) → test y ≡ b → cond b (Some y) later ≡ Some x → test x ≡ true
found_at test x y later else_passes true passes e =
    let same : y ≡ x = cc in
    rw same at passes
found_at test x y later else_passes false fails e = else_passes e

-- what is found passes the test
pub found_passes : {X : Type 0} (test : X → Bool) (xs : List X) (x : X) → find test xs ≡ Some x → test x ≡ true
found_passes test [] x e = absurd cc
found_passes test (y ∷ ys) x e = found_at test x y (find test ys) (found_passes test ys x) (test y) refl e

-- a word is a keyword by its spelling alone
pub spelling_from_keyword : (word : List ℕ) (k : Keyword) → keyword_of word ≡ Some k → word ≡ spelling k
spelling_from_keyword word k e = sym ((bytes_eq-Decides (spelling k) word).0 (found_passes (λ k. bytes_eq (spelling k) word) keywords k e))
