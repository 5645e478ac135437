-- Objects of JSON that are being filled.
use Rattle.std.proofs.Common.{◌≡◌, ℕ, List, [], ◌∷◌, ◌++◌, Option, Some, None, option_map, Result, Ok, Err, IfOk, OnErr, inl, inr, refl, sym, ap, subst, ◌∙◌}
use Rattle.std.proofs.lemmas.List.Sums.{fold-append}
use Rattle.std.proofs.lemmas.Option.{none-some, same_Some}
use Rattle.sl_base_quotients.specs.declared.no_memory.NoMemory.{NoMemory}
use Rattle.serde_json.specs.Data.{Data, put, object}
use Rattle.serde_json.specs.View.{view, members_view}
use Rattle.serde_json.specs.declared.value.Value.{Value}
use Rattle.sl_report_forms.specs.JsonForm.{Entry, Puts, object_of, with_members}

emptied : {A B : Type 0} (f : A → B) (o : Option A) → option_map f o ≡ None → o ≡ None
emptied f None e = refl
emptied f (Some x) e = absurd (none-some (f x) (sym e))

pub Puts-more : (a b c : Option (List Entry)) (xs ys : List (List ℕ × Data)) → Puts a b xs → Puts b c ys → Puts a c (xs ++ ys)
Puts-more a b c xs ys p (inr e) = inr e
Puts-more a b c xs ys (inr f) (inl e) = inr (emptied members_view c (e ∙ ap (option_map (λ es. with_members (members_view es) ys)) f))
Puts-more None b c xs ys (inl f) (inl e) = inr (emptied members_view c (e ∙ ap (option_map (λ es. with_members (members_view es) ys)) (emptied members_view b f)))
Puts-more (Some es) None c xs ys (inl f) (inl e) = absurd (none-some _ f)
Puts-more (Some es) (Some fs) c xs ys (inl f) (inl e) =
    inl (e ∙ ap Some (ap (λ all. with_members all ys) (same_Some _ _ f) ∙ sym (fold-append (λ all m. put m.0 m.1 all) (members_view es) xs ys)))

-- a member whose value was made
pub Puts-made : (a b : Option (List Entry)) (key : List ℕ) (made : Result Value NoMemory) (d : Data)
    → IfOk made (λ v. Puts a b ((key, view v) ∷ [])) → OnErr made (b ≡ None) → IfOk made (λ v. view v ≡ d) → Puts a b ((key, d) ∷ [])
Puts-made a b key (Ok v) d p q is = subst (λ e. Puts a b ((key, e) ∷ [])) is p
Puts-made a b key (Err e) d p q is = inr q

-- the same, of which P is known, as it is of d
pub Puts-known : (P : Data → Type 0) (d : Data) → P d → (a b : Option (List Entry)) (key : List ℕ) (made : Result Value NoMemory)
    → IfOk made (λ v. Puts a b ((key, view v) ∷ [])) → OnErr made (b ≡ None) → IfOk made (λ v. P (view v)) → (e : Data) × P e × Puts a b ((key, e) ∷ [])
Puts-known P d known a b key (Ok v) p q h = (view v, h, p)
Puts-known P d known a b key (Err e) p q h = (d, known, inr q)

-- an object that was finished
pub object-made : (o : Option (List Entry)) (all : List (List ℕ × Data)) (d : Data) → Puts (Some []) o all → option_map (λ es. object (members_view es)) o ≡ Some d → d ≡ object_of all
object-made (Some es) all d (inl e) is = sym (same_Some _ _ is) ∙ ap object (same_Some _ _ e)
object-made (Some es) all d (inr e) is = absurd (none-some _ (sym e))
object-made None all d p is = absurd (none-some _ is)
