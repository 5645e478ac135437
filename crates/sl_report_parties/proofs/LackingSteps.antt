-- The least number that serves for one of some conditions, one condition more.
use Rattle.std.proofs.Common.{◌≡◌, ℕ, ◌+◌, ◌^◌, ◌<◌, ◌≤◌, ◌⊎◌, List, [], ◌∷◌, ◌++◌, Option, Some, None, IfSome, length, take, get_or, min, arith, sym, subst, inl, inr}
use Rattle.std.proofs.lemmas.Bool.{cases_lt}
use Rattle.std.proofs.lemmas.List.{take_more}
use Rattle.sl_report_parties.specs.Lacking.{ForOne, IsLeastIfAny, lesser_of}
use Rattle.sl_law_meaning.specs.declared.book.Cond.{Cond}

abbrev pub Fits : Option ℕ → Type 0
Fits o = IfSome o (λ n. n < 2 ^ 64)

pub lesser_fits : (o p : Option ℕ) → Fits o → Fits p → Fits (lesser_of o p)
lesser_fits None p fits_o fits_p = fits_p
lesser_fits (Some x) None fits_o fits_p = fits_o
lesser_fits (Some x) (Some y) fits_o fits_p = omega (arith, fits_o, fits_p)

not_less : (y m : ℕ) → y < 2 ^ 64 → (m < 2 ^ 64 → ⊥) → y ≤ m
not_less y m small never = elim (cases_lt m y) [ inl h ↦ absurd (never (omega (arith, h, small))) | inr h ↦ h ]

module _ (P Q R : ℕ → Type 0) (left : (n : ℕ) → P n → R n) (right : (n : ℕ) → Q n → R n) (parts : (n : ℕ) → R n → P n ⊎ Q n) where
  pub lesser_serves : (o p : Option ℕ) → Fits o → Fits p → IsLeastIfAny P o → IsLeastIfAny Q p → IsLeastIfAny R (lesser_of o p)
  lesser_serves None None fits_o fits_p none none_too = λ n below h. elim (parts n h) [ inl a ↦ none n below a | inr b ↦ none_too n below b ]
  lesser_serves None (Some y) fits_o fits_p none least = record {
    serves = right y least.serves;
    least = λ m h. elim (parts m h) [ inl a ↦ not_less y m fits_p (λ below. none m below a) | inr b ↦ least.least m b ];
  }
  lesser_serves (Some x) None fits_o fits_p least none = record {
    serves = left x least.serves;
    least = λ m h. elim (parts m h) [ inl a ↦ least.least m a | inr b ↦ not_less x m fits_o (λ below. none m below b) ];
  }
  lesser_serves (Some x) (Some y) fits_o fits_p least other = record {
    serves = elim (cases_lt y x) [
      | inl h ↦ let is : y ≡ min x y = omega (arith, h) in subst R is (right y other.serves)
      | inr h ↦ let is : x ≡ min x y = omega (arith, h) in subst R is (left x least.serves)
    ];
    least = λ m h. elim (parts m h) [
      | inl a ↦ let x_is : x ≤ m = least.least m a in omega (arith, x_is)
      | inr b ↦ let y_is : y ≤ m = other.least m b in omega (arith, y_is)
    ];
  }

module _ (Serves : Cond → ℕ → Type 0) where
  for_front : (cs : List Cond) (c : Cond) (n : ℕ) → ForOne Serves cs n → ForOne Serves (cs ++ c ∷ []) n
  for_front [] c n h = absurd h
  for_front (d ∷ cs) c n (inl h) = inl h
  for_front (d ∷ cs) c n (inr h) = inr (for_front cs c n h)

  for_last : (cs : List Cond) (c : Cond) (n : ℕ) → Serves c n → ForOne Serves (cs ++ c ∷ []) n
  for_last [] c n h = inl h
  for_last (d ∷ cs) c n h = inr (for_last cs c n h)

  for_parts : (cs : List Cond) (c : Cond) (n : ℕ) → ForOne Serves (cs ++ c ∷ []) n → ForOne Serves cs n ⊎ Serves c n
  for_parts [] c n (inl h) = inr h
  for_parts [] c n (inr h) = absurd h
  for_parts (d ∷ cs) c n (inl h) = inl (inl h)
  for_parts (d ∷ cs) c n (inr h) = elim (for_parts cs c n h) [ inl a ↦ inl (inr a) | inr b ↦ inr b ]

  pub one_more : (cs : List Cond) (i : ℕ) (d : Cond) (o p : Option ℕ) → i < length cs → Fits o → Fits p → IsLeastIfAny (ForOne Serves (take i cs)) o → IsLeastIfAny (Serves (get_or cs i d)) p →
      IsLeastIfAny (ForOne Serves (take (i + 1) cs)) (lesser_of o p)
  one_more cs i d o p within fits_o fits_p so_far this =
      subst (λ zs. IsLeastIfAny (ForOne Serves zs) (lesser_of o p)) (sym (take_more cs i d within))
      (lesser_serves (ForOne Serves (take i cs)) (Serves (get_or cs i d)) (ForOne Serves (take i cs ++ get_or cs i d ∷ []))
      (for_front (take i cs) (get_or cs i d)) (for_last (take i cs) (get_or cs i d)) (for_parts (take i cs) (get_or cs i d)) o p fits_o fits_p so_far this)
