-- Few conditions say what many say.
use Rattle.std.proofs.Common.{◌≡◌, ℕ, suc, ◌*◌, ◌<◌, ◌≤◌, Bool, true, false, ◌||◌, List, [], ◌∷◌, ◌++◌, All, Option, None, Some, length, length-append, drop, refl, sym, ap, subst, ◌∙◌, arith}
use Rattle.std.specs.Cmp.{first_so, second_so}
use Rattle.std.proofs.Math.Nat.{mul-le-mul_left, le_of_mul-le-mul_left, mul_comm, mul_left_comm}
use Rattle.std.proofs.Math.Seq.{drop-length}
use Rattle.std.proofs.lemmas.Bool.{leb-true, le-leb}
use Rattle.std.proofs.lemmas.List.Elements.{All-nil, All-cons, All-append}
use Rattle.sl_law_meaning.specs.declared.book.Cond.{Cond}
use Rattle.sl_law_meaning.specs.declared.book.Cond.TheVariants as condition
use Rattle.sl_law_meaning.specs.declared.check_fault.CheckFault.TheVariants as fault
use Rattle.sl_base_terms.specs.Tests.{first_failing}
use Rattle.sl_law_meaning.specs.book.Typing.{condition_tests}
use Rattle.sl_base_terms.proofs.Tests.{head_holds}
use Rattle.sl_law_meaning.specs.returns.Election.{Election}
use Rattle.sl_law_meaning.specs.returns.Facts.{meets, is_eligible, valid_votes, all_valid_votes}
use Rattle.sl_compile_pieces.specs.facts.Laws.{IsShare}
use Rattle.sl_compile.specs.Conditions.{SayTheSame}
use Rattle.sl_blocks.specs.declared.easiest.Share.{Share}
use Rattle.sl_blocks.specs.declared.easiest.Easiest.{Easiest}
use Rattle.sl_blocks.specs.inner.Few.{share_condition, share_in, winners_in, minority_in, all_in, few_of}
use Rattle.sl_compile.specs.inner.Weakest.{is_met, IsFairIn, IsFair}

-- ---- one of two tests

pub or_left : (a b : Bool) → (b ≡ true → a ≡ true) → a ≡ (a || b)
or_left true b h = refl
or_left false true h = h refl
or_left false false h = refl

pub or_right : (a b : Bool) → (a ≡ true → b ≡ true) → b ≡ (a || b)
or_right true b h = h refl
or_right false b h = refl

-- the share that is met more easily: by the first, n of d, if n1 * d2 is at most n2 * d1
share_weaker : (n1 d1 n2 d2 all own : ℕ) → 1 ≤ d2 → n1 * d2 ≤ n2 * d1 → n2 * all ≤ d2 * own → n1 * all ≤ d1 * own
share_weaker n1 d1 n2 d2 all own some less met =
    let first : all * (n1 * d2) ≤ all * (n2 * d1) = mul-le-mul_left all less in
    let second : d1 * (n2 * all) ≤ d1 * (d2 * own) = mul-le-mul_left d1 met in
    let left : d2 * (n1 * all) ≡ all * (n1 * d2) = mul_left_comm d2 n1 all ∙ ap (λ (k : ℕ). n1 * k) (mul_comm d2 all) ∙ sym (mul_left_comm all n1 d2) in
    let middle : all * (n2 * d1) ≡ d1 * (n2 * all) = mul_left_comm all n2 d1 ∙ ap (λ (k : ℕ). n2 * k) (mul_comm all d1) ∙ sym (mul_left_comm d1 n2 all) in
    let right : d1 * (d2 * own) ≡ d2 * (d1 * own) = mul_left_comm d1 d2 own in
    let both : d2 * (n1 * all) ≤ d2 * (d1 * own) = omega (arith, first, second, left, middle, right) in
    le_of_mul-le-mul_left both (omega (arith, some))

pub first_easier : (e : Election) (party : ℕ) (a b : Share) → 1 ≤ b.per → a.share.value * b.per ≤ b.share.value * a.per → is_met e party a ≡ (is_met e party a || is_met e party b)
first_easier e party a b some less =
    or_left (is_met e party a) (is_met e party b)
    (λ met. le-leb (a.share.value * all_valid_votes e) (a.per * valid_votes e party)
    (share_weaker a.share.value a.per b.share.value b.per (all_valid_votes e) (valid_votes e party) some less (leb-true (b.share.value * all_valid_votes e) (b.per * valid_votes e party) met)))

pub second_easier : (e : Election) (party : ℕ) (a b : Share) → 1 ≤ a.per → b.share.value * a.per ≤ a.share.value * b.per → is_met e party b ≡ (is_met e party a || is_met e party b)
second_easier e party a b some less =
    or_right (is_met e party a) (is_met e party b)
    (λ met. le-leb (b.share.value * all_valid_votes e) (b.per * valid_votes e party)
    (share_weaker b.share.value b.per a.share.value a.per (all_valid_votes e) (valid_votes e party) some less (leb-true (a.share.value * all_valid_votes e) (a.per * valid_votes e party) met)))

-- ---- one more condition

or_nil : (p : Bool) → (p || false) ≡ p
or_nil true = refl
or_nil false = refl

-- ---- what holds of them

share_fair : (o : Option Share) → IsFairIn o → All IsShare (share_in o)
share_fair None fair = All-nil IsShare
share_fair (Some s) fair = All-cons IsShare (share_condition s) [] (omega (arith, fair), fair.2) (All-nil IsShare)

winners_fair : (o : Option ℕ) → All IsShare (winners_in o)
winners_fair None = All-nil IsShare
winners_fair (Some n) = All-cons IsShare (condition.Winners n) [] tt (All-nil IsShare)

minority_fair : (b : Bool) → All IsShare (minority_in b)
minority_fair false = All-nil IsShare
minority_fair true = All-cons IsShare condition.Minority [] tt (All-nil IsShare)

all_fair : (b : Bool) → All IsShare (all_in b)
all_fair false = All-nil IsShare
all_fair true = All-cons IsShare condition.All [] tt (All-nil IsShare)

pub few_shares : (few : Easiest) → IsFairIn few.valid → All IsShare (few_of few)
few_shares few fair =
    All-append IsShare (share_in few.valid) (winners_in few.winners ++ (minority_in few.minority ++ all_in few.all)) (share_fair few.valid fair)
    (All-append IsShare (winners_in few.winners) (minority_in few.minority ++ all_in few.all) (winners_fair few.winners)
    (All-append IsShare (minority_in few.minority) (all_in few.all) (minority_fair few.minority) (all_fair few.all)))

few_long : (v : Option Share) (w : Option ℕ) (m a : Bool) → length (share_in v ++ (winners_in w ++ (minority_in m ++ all_in a))) ≤ 4
few_long v w m a =
    let p : length (share_in v) ≤ 1 = one_share v in
    let q : length (winners_in w) ≤ 1 = one_number w in
    let r : length (minority_in m) ≤ 1 = one_minority m in
    let s : length (all_in a) ≤ 1 = one_all a in
    simp length-append (omega (arith, p, q, r, s))
  where
    one_share : (o : Option Share) → length (share_in o) ≤ 1
    one_share None = omega arith
    one_share (Some x) = omega arith

    one_number : (o : Option ℕ) → length (winners_in o) ≤ 1
    one_number None = omega arith
    one_number (Some x) = omega arith

    one_minority : (b : Bool) → length (minority_in b) ≤ 1
    one_minority false = omega arith
    one_minority true = omega arith

    one_all : (b : Bool) → length (all_in b) ≤ 1
    one_all false = omega arith
    one_all true = omega arith

-- ---- the walk over the conditions

-- the few say what the first i conditions say, and the tests of the others hold
pub record SaysFirst (conditions : List Cond) (i : ℕ) (few : Easiest) : Type 0 where
  pub fair : IsFairIn few.valid
  pub same : (e : Election) (party : ℕ) → (is_eligible (few_of few) e party || is_eligible (drop i conditions) e party) ≡ is_eligible conditions e party
  pub tests : first_failing (condition_tests (drop i conditions)) ≡ None

-- a condition whose test holds is fair
pub head_fair : (c : Cond) (cs : List Cond) → first_failing (condition_tests (c ∷ cs)) ≡ None → IsFair c × (first_failing (condition_tests cs) ≡ None)
head_fair (condition.Valid share per) cs pass =
    let h = head_holds _ (first_failing (condition_tests cs)) (fault.PerRange share.at) pass in
    let most = leb-true _ _ (second_so _ _ h.0) in
    let parts = first_so _ _ h.0 in
    ((leb-true _ _ (first_so _ _ parts), leb-true _ _ (second_so _ _ parts), most), h.1)
head_fair _ cs pass = (tt, pass)

next_fair : (conditions : List Cond) (i : ℕ) (c : Cond) → i < length conditions → drop i conditions ≡ c ∷ drop (suc i) conditions →
    first_failing (condition_tests (drop i conditions)) ≡ None → IsFair c × (first_failing (condition_tests (drop (suc i) conditions)) ≡ None)
next_fair conditions i c lt here pass = head_fair c (drop (suc i) conditions) (ap (λ (cs : List Cond). first_failing (condition_tests cs)) (sym here) ∙ pass)

or_assoc : (a b c : Bool) → ((a || b) || c) ≡ (a || (b || c))
or_assoc true b c = refl
or_assoc false b c = refl

pub one_more_said : (conditions : List Cond) (i : ℕ) (few more : Easiest) (c : Cond) → i < length conditions → drop i conditions ≡ c ∷ drop (suc i) conditions →
    SaysFirst conditions i few → IsFairIn more.valid →
    ((e : Election) (party : ℕ) → is_eligible (few_of more) e party ≡ (is_eligible (few_of few) e party || meets e party c)) → SaysFirst conditions (suc i) more
one_more_said conditions i few more c lt here said fair same = record {
  fair = fair;
  same = λ e party.
      ap (λ (b : Bool). b || is_eligible (drop (suc i) conditions) e party) (same e party)
      ∙ or_assoc (is_eligible (few_of few) e party) (meets e party c) (is_eligible (drop (suc i) conditions) e party)
      ∙ ap (λ (cs : List Cond). is_eligible (few_of few) e party || is_eligible cs e party) (sym here)
      ∙ said.same e party;
  tests = (next_fair conditions i c lt here said.tests).1;
}

pub all_said : (conditions : List Cond) (few : Easiest) → SaysFirst conditions (length conditions) few → SayTheSame (few_of few) conditions
all_said conditions few said = record {
  same = λ e party. sym (or_nil (is_eligible (few_of few) e party))
      ∙ ap (λ (cs : List Cond). is_eligible (few_of few) e party || is_eligible cs e party) (sym (drop-length conditions)) ∙ said.same e party;
  long = few_long few.valid few.winners few.minority few.all;
  shares = few_shares few said.fair;
}

pub all_said_at : (conditions : List Cond) (i : ℕ) (few : Easiest) → i ≡ length conditions → SaysFirst conditions i few → SayTheSame (few_of few) conditions
all_said_at conditions i few end said = all_said conditions few (subst (λ (n : ℕ). SaysFirst conditions n few) end said)
