-- Tests that hold, as the facts that they say.
use Rattle.std.proofs.Common.{◌≡◌, ◌≢◌, List, [], ◌∷◌, ◌++◌, Some, None, true, false, not, ◌||◌, if◌then◌else◌, refl}
use Rattle.sl_base_quotients.specs.declared.method.Method.{Method}
use Rattle.sl_base_quotients.specs.declared.method.Method.TheVariants.{Divisor, Hamilton}
use Rattle.sl_base_terms.specs.declared.shape.Shape.{Shape}
use Rattle.sl_base_terms.specs.declared.shape.Shape.TheVariants as shape
use Rattle.sl_law_meaning.specs.declared.book.Axis.{Axis}
use Rattle.sl_law_meaning.specs.declared.book.Axis.TheVariants as axis
use Rattle.sl_law_meaning.specs.declared.book.Majority.{Majority}
use Rattle.sl_law_meaning.specs.declared.book.Majority.TheVariants as majority
use Rattle.sl_law_meaning.specs.declared.check_fault.CheckFault.{CheckFault}
use Rattle.sl_base_terms.specs.Tests.{Test, first_failing}
use Rattle.sl_law_meaning.specs.book.Typing.{shape_over, can_sum, can_split, is_prefer, is_hamilton}
use Rattle.sl_law_meaning.specs.book.HasType.{Sums, Splits}
use Rattle.sl_base_terms.proofs.Tests.{pass_parts, pass_join}

-- ---- lists

-- all of three lists hold, and of four
pub pass_join3 : (a b c : List (Test CheckFault)) → first_failing a ≡ None → first_failing b ≡ None → first_failing c ≡ None → first_failing (a ++ (b ++ c)) ≡ None
pass_join3 a b c p q r = pass_join a (b ++ c) p (pass_join b c q r)

pub pass_join4 : (a b c d : List (Test CheckFault)) → first_failing a ≡ None → first_failing b ≡ None → first_failing c ≡ None → first_failing d ≡ None → first_failing (a ++ (b ++ (c ++ d))) ≡ None
pass_join4 a b c d p q r s = pass_join a (b ++ (c ++ d)) p (pass_join3 b c d q r s)

pub pass_parts3 : (a b c : List (Test CheckFault)) → first_failing (a ++ (b ++ c)) ≡ None → (first_failing a ≡ None) × (first_failing b ≡ None) × (first_failing c ≡ None)
pass_parts3 a b c h =
    let p = pass_parts a (b ++ c) h in
    let q = pass_parts b c p.1 in
    (p.0, q.0, q.1)

pub pass_parts4 : (a b c d : List (Test CheckFault)) → first_failing (a ++ (b ++ (c ++ d))) ≡ None
    → (first_failing a ≡ None) × (first_failing b ≡ None) × (first_failing c ≡ None) × (first_failing d ≡ None)
pass_parts4 a b c d h =
    let p = pass_parts a (b ++ (c ++ d)) h in
    let q = pass_parts3 b c d p.1 in
    (p.0, q.0, q.1, q.2)

-- each test of a list holds
abbrev pub AllHold : List (Test CheckFault) → Type 0
AllHold [] = Unit {0}
AllHold (t ∷ ts) = (t.holds ≡ true) × AllHold ts

pub all_hold : (ts : List (Test CheckFault)) → AllHold ts → first_failing ts ≡ None
all_hold [] h = refl
all_hold (t ∷ ts) h = rw h.0 (all_hold ts h.1)

pub hold_all : (ts : List (Test CheckFault)) → first_failing ts ≡ None → AllHold ts
hold_all [] pass = tt
hold_all (t ∷ ts) pass =
    elim t.holds as (λ b. (if b then first_failing ts else Some t.otherwise) ≡ None → (b ≡ true) × AllHold ts)
    [ true ↦ λ p. (refl, hold_all ts p) | false ↦ λ p. cc ] pass

-- ---- tests

pub can_sum_is : (s : Shape) (over : Axis) → can_sum s over ≡ true → Sums s over (shape_over over)
can_sum_is shape.List axis.Party h = tt
can_sum_is shape.List axis.Land h = tt
can_sum_is shape.List axis.All h = tt
can_sum_is shape.Party axis.All h = tt
can_sum_is shape.Land axis.All h = tt
can_sum_is _ _ h = cc

pub sums_to : (s : Shape) (over : Axis) (to : Shape) → Sums s over to → (can_sum s over ≡ true) × (shape_over over ≡ to)
sums_to shape.List axis.Party shape.Party h = (refl, refl)
sums_to shape.List axis.Land shape.Land h = (refl, refl)
sums_to shape.List axis.All shape.One h = (refl, refl)
sums_to shape.Party axis.All shape.One h = (refl, refl)
sums_to shape.Land axis.All shape.One h = (refl, refl)
sums_to _ _ _ h = absurd h

pub can_split_is : (s v : Shape) → can_split s v ≡ true → Splits s v
can_split_is shape.One shape.Party h = tt
can_split_is shape.One shape.Land h = tt
can_split_is shape.One shape.List h = tt
can_split_is shape.Party shape.List h = tt
can_split_is shape.Land shape.List h = tt
can_split_is _ _ h = cc

pub splits_can : (s v : Shape) → Splits s v → can_split s v ≡ true
splits_can shape.One shape.Party h = refl
splits_can shape.One shape.Land h = refl
splits_can shape.One shape.List h = refl
splits_can shape.Party shape.List h = refl
splits_can shape.Land shape.List h = refl
splits_can _ _ h = absurd h

-- ---- options

pub preferred_is : (m : Majority) (method : Method) → (not (is_prefer m) || is_hamilton method) ≡ true → m ≡ majority.Prefer → method ≡ Hamilton
preferred_is majority.Prefer (Divisor d) h p = cc
preferred_is _ _ h p = cc

pub preferred_can : (m : Majority) (method : Method) → (m ≡ majority.Prefer → method ≡ Hamilton) → (not (is_prefer m) || is_hamilton method) ≡ true
preferred_can majority.Prefer method h = rw (h refl) refl
preferred_can _ method h = refl

pub not_preferred_is : (m : Majority) → not (is_prefer m) ≡ true → m ≢ majority.Prefer
not_preferred_is majority.Prefer h p = cc
not_preferred_is _ h p = cc

pub not_preferred_can : (m : Majority) → m ≢ majority.Prefer → not (is_prefer m) ≡ true
not_preferred_can majority.Prefer h = absurd (h refl)
not_preferred_can _ h = refl
