-- Rules for plans that leave something as it was.
use Rattle.std.proofs.Common.{◌≡◌, ℕ, suc, ◌+◌, ◌<◌, ◌≤◌, Bool, true, false, ◌==◌, List, [], ◌∷◌, length, Option, Some, None, slice_get, nat_eq, refl, sym, ap, subst, ◌∙◌, inl, inr, arith}
use Rattle.std.specs.List.{list_any, AllByRecursion as Every}
use Rattle.std.proofs.lemmas.Bool.{or_parts, or_cases, eqb-true}
use Rattle.std.proofs.lemmas.Option.{slice_get_cases}
use Rattle.sl_law_meaning.specs.declared.election.Win.{Win}
use Rattle.sl_law_meaning.specs.returns.Election.{Election, wins_of}
use Rattle.sl_code_instructions.specs.Codes.{CountingCode}
use Rattle.sl_code_semantics.specs.State.{State, End, with_register}
use Rattle.sl_code_semantics.specs.Effects.{with_win}
use Rattle.sl_code_semantics.proofs.effects.Storing.{register_same}
use Rattle.sl_compile_plans.specs.declared.plan.Cursor.{Cursor}
use Rattle.sl_compile_plans.specs.declared.plan.Cursor.TheVariants as cursor
use Rattle.sl_compile_plans.specs.declared.plan.Bound.{Bound}
use Rattle.sl_compile_plans.specs.Trees.{Tree, Each, Times, ones}
use Rattle.sl_compile_plans.specs.Meaning.{Course, Onward, count_of, cursor_of, set_cursor, turns_in, does}
use Rattle.sl_compile_plans.specs.Achieves.{Meets, Achieves}
use Rattle.sl_compile_plans.specs.Frames.{may_write_register, may_move, KeepsRest}
use Rattle.sl_compile_plans.proofs.Rules.{achieves_so, each_achieves, times_achieves}
use Rattle.sl_compile_plans.proofs.Keeping.{plans_keep_the_rest}

-- a list has an element at each place before its end
pub element_there : {X : Type 0} (xs : List X) (i : ℕ) → i < length xs → (x : X) × (slice_get xs i ≡ Some x)
element_there xs i less = elim ((slice_get_cases xs i).1) [
  | inl there ↦ (there.0, there.2)
  | inr past ↦ absurd (omega (arith, past.0))
]

-- what no element of a list passes, this one does not
pub free_of : (p : ℕ → Bool) (rs : List ℕ) → list_any p rs ≡ false → (r : ℕ) → list_any (nat_eq r) rs ≡ true → p r ≡ false
free_of p [] none r there = cc there
free_of p (q ∷ rs) none r there =
    let nor = or_parts (p q) (list_any p rs) none in
    elim (or_cases (nat_eq r q) (list_any (nat_eq r) rs) there) [
      | inl is ↦ ap p (eqb-true r q is) ∙ nor.0
      | inr rest ↦ free_of p rs nor.1 r rest
    ]

-- what holds of each number of a list holds of this one
pub each_of : (P : ℕ → Type 0) (rs : List ℕ) → Every P rs → (r : ℕ) → list_any (nat_eq r) rs ≡ true → P r
each_of P [] all r there = cc there
each_of P (q ∷ rs) all r there = elim (or_cases (nat_eq r q) (list_any (nat_eq r) rs) there) [ inl is ↦ subst P (sym (eqb-true r q is)) all.0 | inr rest ↦ each_of P rs all.1 r rest ]

-- what the plan cannot write is as it was, too
pub achieves_kept : {c : CountingCode} {e : Election} {tree : Tree} {s : State} {Q : State → Type 0} {E : End → Type 0} → Achieves c e tree s Q E → Achieves c e tree s (λ t. Q t × KeepsRest tree s t) E
achieves_kept {c = c} {e = e} {tree = tree} {s = s} {Q = Q} {E = E} h = record { meets = of (does c e tree s) refl h.meets }
  where
    of : (o : Course) → does c e tree s ≡ o → Meets o Q E → Meets o (λ t. Q t × KeepsRest tree s t) E
    of (Onward t) is q = (q, plans_keep_the_rest c e tree s t is)
    of _ is q = q

-- and from both follows what is to hold
pub achieves_keeping : {c : CountingCode} {e : Election} {tree : Tree} {s : State} {Q R : State → Type 0} {E : End → Type 0}
    → Achieves c e tree s Q E → ((t : State) → Q t → KeepsRest tree s t → R t) → Achieves c e tree s R E
achieves_keeping h on = achieves_so (achieves_kept h) (λ t r. on t r.0 r.1)

pub cursor_kept : (over : Cursor) (tree : Tree) (s t : State) → KeepsRest tree s t → may_move tree over ≡ false → cursor_of over t ≡ cursor_of over s
cursor_kept cursor.Party tree s t h free = h.party free
cursor_kept cursor.Land tree s t h free = h.land free
cursor_kept cursor.Win tree s t h free = h.win free

cursor_same : (over : Cursor) (o : Option ℕ) (s : State) → cursor_of over (set_cursor over o s) ≡ o
cursor_same cursor.Party o s = refl
cursor_same _ o s = refl

-- a loop whose body does not move its cursor
pub each_keeping : (Inv : ℕ → State → Type 0) {c : CountingCode} {e : Election} {over : Cursor} {body : Tree} {s : State} {Q : State → Type 0} {E : End → Type 0}
    → may_move body over ≡ false → Inv 0 s
    → ((i : ℕ) (t : State) → i < count_of e over → Inv i t → Achieves c e body (set_cursor over (Some i) t) (Inv (i + 1)) E)
    → ((t : State) → Inv (count_of e over) t → Q (set_cursor over None t))
    → Achieves c e (Each over body) s Q E
each_keeping Inv {over = over} {body = body} free first turn last =
    each_achieves Inv first
    (λ i t below inv. achieves_keeping (turn i t below inv) (λ u h kept. (cursor_kept over body (set_cursor over (Some i) t) u kept free ∙ cursor_same over (Some i) t, h)))
    last

-- a loop over the winners, each of whom is known in his turn
pub wins_keeping : (Inv : ℕ → State → Type 0) {c : CountingCode} {e : Election} {body : Tree} {s : State} {Q : State → Type 0} {E : End → Type 0}
    → may_move body cursor.Win ≡ false → Inv 0 s
    → ((i : ℕ) (w : Win) (t : State) → slice_get e.wins i ≡ Some w → Inv i t → Achieves c e body (with_win (Some i) t) (Inv (i + 1)) E)
    → ((t : State) → Inv (wins_of e) t → Q (with_win None t))
    → Achieves c e (Each cursor.Win body) s Q E
wins_keeping Inv {e = e} free first turn last = each_keeping Inv free first (λ i t below inv. let there = element_there e.wins i below in turn i there.0 t there.1 inv) last

-- a counted loop whose body does not write its register
pub times_keeping : (Inv : ℕ → State → Type 0) {c : CountingCode} {e : Election} {r : ℕ} {m : Bound} {body : Tree} {s : State} {Q : State → Type 0} {E : End → Type 0}
    → (r == ones) ≡ false → may_write_register body r ≡ false → s.registers r ≤ turns_in e m → Inv (s.registers r) s
    → ((w : ℕ) (t : State) → t.registers r ≡ suc w → Inv (suc w) t → Achieves c e body (with_register r w (with_register ones 1 t)) (Inv w) E)
    → ((t : State) → t.registers r ≡ 0 → Inv 0 t → Q t)
    → Achieves c e (Times r m body) s Q E
times_keeping Inv {r = r} {body = body} other free within first turn last =
    times_achieves Inv other within first
    (λ w t is inv.
    achieves_keeping (turn w t is inv)
    (λ u h kept.
    let same : u.registers r ≡ w = kept.registers r free ∙ register_same (with_register ones 1 t) r w in
    (omega (arith, same), subst (λ (n : ℕ). Inv n u) (sym same) h)))
    last
