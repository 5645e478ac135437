-- An object whose members are made of their keys: to put one of them in again changes nothing.
use Rattle.std.proofs.Common.{◌≡◌, ℕ, List, [], ◌∷◌, map, true, false, Some, is_some, Ordering, Less, Equal, Greater, nat_cmp, refl, sym, ap, ◌∙◌, true≢false, is_eq}
use Rattle.std.proofs.lemmas.Cmp.{nat_list_cmp_total}
use Rattle.std.proofs.lemmas.Map.Text.{is_eq-slice_cmp}
use Rattle.std.proofs.lemmas.Slice.Eq.{bytes_eq-Decides}
use Rattle.std.specs.Cmp.Lexicographic.{slice_cmp}
use Rattle.std.specs.Ordering.{match_ordering, ordering_reverse}
use Rattle.serde_json.specs.Data.{Data, Members, no_members, member, put}
use Rattle.serde_json.specs.Find.{get_member}
use Rattle.sl_report_forms.specs.JsonForm.{with_members}

-- the key is below each of the members
abbrev Under : List ℕ → Members → Type 0
Under k no_members = Unit {0}
Under k (member l e ms) = (slice_cmp nat_cmp k l ≡ Less) × Under k ms

-- in the order of their keys, and each is made of its key
abbrev pub AreMade : (List ℕ → Data) → Members → Type 0
AreMade f no_members = Unit {0}
AreMade f (member l e ms) = (e ≡ f l) × Under l ms × AreMade f ms

same_key : (k l : List ℕ) → slice_cmp nat_cmp k l ≡ Equal → k ≡ l
same_key k l e = (bytes_eq-Decides k l).0 (sym (is_eq-slice_cmp k l) ∙ ap is_eq e)

turned : (k l : List ℕ) → slice_cmp nat_cmp k l ≡ Greater → slice_cmp nat_cmp l k ≡ Less
turned k l e = nat_list_cmp_total.antisymm l k ∙ ap ordering_reverse e

Under-lower : (k l : List ℕ) (ms : Members) → slice_cmp nat_cmp k l ≡ Less → Under l ms → Under k ms
Under-lower k l no_members h u = tt
Under-lower k l (member q e ms) h u = (nat_list_cmp_total.trans k l q h u.0, Under-lower k l ms h u.1)

Under-put_at : (o : Ordering) (k l q : List ℕ) (d e : Data) (ms : Members) → slice_cmp nat_cmp k l ≡ Less → Under k (member q e ms) → Under k (put l d ms)
    → Under k (match_ordering o (member l d (member q e ms)) (member q d ms) (member q e (put l d ms)))
Under-put_at Less k l q d e ms h u later = (h, u)
Under-put_at Equal k l q d e ms h u later = u
Under-put_at Greater k l q d e ms h u later = (u.0, later)

Under-put : (k l : List ℕ) (d : Data) (ms : Members) → slice_cmp nat_cmp k l ≡ Less → Under k ms → Under k (put l d ms)
Under-put k l d no_members h u = (h, tt)
Under-put k l d (member q e ms) h u = Under-put_at (slice_cmp nat_cmp l q) k l q d e ms h u (Under-put k l d ms h u.1)

-- a key below all members is not among them
not_among : (k : List ℕ) (ms : Members) → Under k ms → is_some (get_member k ms) ≡ false
not_among k no_members u = refl
not_among k (member l e ms) u = ap (λ o. is_some (match_ordering o (get_member k ms) (Some e) (get_member k ms))) u.0 ∙ not_among k ms u.1

AreMade-put_at : (o : Ordering) (f : List ℕ → Data) (k l : List ℕ) (e : Data) (ms : Members) → slice_cmp nat_cmp k l ≡ o → AreMade f (member l e ms) → AreMade f (put k (f k) ms)
    → AreMade f (match_ordering o (member k (f k) (member l e ms)) (member l (f k) ms) (member l e (put k (f k) ms)))
AreMade-put_at Less f k l e ms is m later = (refl, (is, Under-lower k l ms is m.1), m)
AreMade-put_at Equal f k l e ms is m later = (ap f (same_key k l is), m.1, m.2)
AreMade-put_at Greater f k l e ms is m later = (m.0, Under-put l k (f k) ms (turned k l is) m.1, later)

AreMade-put : (f : List ℕ → Data) (k : List ℕ) (ms : Members) → AreMade f ms → AreMade f (put k (f k) ms)
AreMade-put f k no_members m = (refl, tt, tt)
AreMade-put f k (member l e ms) m = AreMade-put_at (slice_cmp nat_cmp k l) f k l e ms refl m (AreMade-put f k ms m.2)

pub AreMade-all : {A : Type 0} (f : List ℕ → Data) (key : A → List ℕ) (ms : Members) (xs : List A) → AreMade f ms → AreMade f (with_members ms (map (λ x. (key x, f (key x))) xs))
AreMade-all f key ms [] m = m
AreMade-all f key ms (x ∷ xs) m = AreMade-all f key (put (key x) (f (key x)) ms) xs (AreMade-put f (key x) ms m)

put_again_at : (o : Ordering) (f : List ℕ → Data) (k l : List ℕ) (e : Data) (ms : Members) → slice_cmp nat_cmp k l ≡ o → AreMade f (member l e ms)
    → is_some (match_ordering o (get_member k ms) (Some e) (get_member k ms)) ≡ true → (is_some (get_member k ms) ≡ true → put k (f k) ms ≡ ms)
    → match_ordering o (member k (f k) (member l e ms)) (member l (f k) ms) (member l e (put k (f k) ms)) ≡ member l e ms
put_again_at Less f k l e ms is m found later = absurd (true≢false (sym found ∙ not_among k ms (Under-lower k l ms is m.1)))
put_again_at Equal f k l e ms is m found later = ap (λ d. member l d ms) (ap f (same_key k l is) ∙ sym m.0)
put_again_at Greater f k l e ms is m found later = ap (member l e) (later found)

-- a member that is there already is there as it would be put in
pub put_again : (f : List ℕ → Data) (k : List ℕ) (ms : Members) → AreMade f ms → is_some (get_member k ms) ≡ true → put k (f k) ms ≡ ms
put_again f k no_members m found = absurd (true≢false (sym found))
put_again f k (member l e ms) m found = put_again_at (slice_cmp nat_cmp k l) f k l e ms refl m found (put_again f k ms m.2)
