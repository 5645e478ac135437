-- A run on its way through a code goes on from one of the instructions ahead to the next.
use Rattle.std.proofs.Common.{◌≡◌, ◌⊎◌, inl, inr, ◌<◌, ◌≤◌, ◌+◌, ◌*◌, ◌-◌, ℕ, zero, suc, Bool, IsTrue, true, false, List, [], ◌∷◌, length, drop, if◌then◌else◌, refl, sym, ap, subst, ◌∙◌, true≢false, arith}
use Rattle.std.proofs.lemmas.List.{length-drop}
use Rattle.std.proofs.lemmas.Nat.{mul-le}
use Rattle.sl_law_meaning.specs.returns.Election.{Election}
use Rattle.sl_code_instructions.specs.Codes.{CountingCode}
use Rattle.sl_code_instructions.specs.declared.instr.Instr.{Instr}
use Rattle.sl_code_semantics.specs.Agrees.{IsSafe}
use Rattle.sl_code_semantics.specs.Runs.{run}
use Rattle.sl_code_semantics.specs.State.{State}
use Rattle.sl_machine.specs.declared.clock.Clock.{Clock}
use Rattle.sl_code_steps.specs.declared.step.Records.{Records}
use Rattle.sl_code_steps.specs.declared.store.Store.{Store}
use Rattle.sl_machine.specs.declared.way.Standing.{Standing}
use Rattle.sl_machine.specs.inner.Leading.{LeadsTo}
use Rattle.sl_code_steps.specs.inner.Recording.{state_by, ending_by}
use Rattle.sl_machine.specs.inner.UnderWay.{steps_left, IsHere, IsUnderWay, rest_of, GoesOn, IsOut, EndsFirst}
use Rattle.sl_machine.specs.inner.Ways.{is_idle, standing_from}
use Rattle.sl_machine.proofs.runs.Ways.{ComesOn, comes_on}

-- ---- there are no more ahead than the code has instructions

no_more : (b : Bool) (x : Standing) (xs : List Standing) (n : ℕ) → length xs ≤ n → length (if b then xs else (x ∷ xs)) ≤ suc n
no_more true x xs n few = omega (arith, few)
no_more false x xs n few = omega (arith, few)

few_ahead : (k : Records) (p : ℕ) (is : List Instr) → length (standing_from k p is) ≤ length is
few_ahead k p [] = omega arith
few_ahead k p (i ∷ is) = no_more (is_idle k i) (record { instr = i; place = p }) (standing_from k (p + 1) is) (length is) (few_ahead k (p + 1) is)

-- fewer jumps to come outweigh the instructions between two of them
less_work : (m left n next ahead : ℕ) → m + 1 ≤ left → next ≤ n → m * suc n + next < left * suc n + ahead
less_work m left n next ahead fewer few = omega (arith, mul-le (m + 1) (suc n) left (suc n) fewer (omega arith), few)

module _ (k : Records) (c : CountingCode) (e : Election) where
  -- from a place to which the run came, straight or by a jump, it comes straight to the first of those ahead
  record Lands (clock : Clock) (q : ℕ) (s : State) (ahead : List Standing) : Type 0 where
    under_way : IsUnderWay k c e clock ahead s
    same : ending_by k (run c e (steps_left clock q) q s) ≡ rest_of k c e clock ahead s

  comes_lands : (clock : Clock) (q : ℕ) (s : State) (ahead : List Standing) → clock.since ≤ q → ComesOn k c e q s ahead s → Lands clock q s ahead
  comes_lands clock q s [] since comes = elim comes [ ]
  comes_lands clock q s (here ∷ others) since comes =
      let place = here.place in
      let steps : steps_left clock q - (place - q) ≡ steps_left clock place = omega (arith, since, comes.from) in
      record {
        under_way = record { stands = comes.stands; behind = comes.behind; since = omega (arith, since, comes.from); safe = comes.leads.0; none = comes.leads.1 };
        same = comes.leads.2 (steps_left clock q) ∙ ap (λ (n : ℕ). ending_by k (run c e n place s)) steps;
      }

  lands : (clock : Clock) (q : ℕ) (s : State) (ahead : List Standing) → clock.since ≤ q → IsSafe c e q s → state_by k s ≡ s → ahead ≡ standing_from k q (drop q c.instrs) → Lands clock q s ahead
  lands clock q s ahead since safe none are = comes_lands clock q s ahead since (comes_on k c e q s safe none ahead are)

  -- a run begins
  pub begins : (budget : ℕ) (s : State) (ahead : List Standing) → IsSafe c e 0 s → state_by k s ≡ s → ahead ≡ standing_from k 0 (drop 0 c.instrs) →
      IsUnderWay k c e (record { left = budget; since = 0 }) ahead s × (ending_by k (run c e budget 0 s) ≡ rest_of k c e (record { left = budget; since = 0 }) ahead s)
  begins budget s ahead safe none are =
      let there = lands (record { left = budget; since = 0 }) 0 s ahead (omega arith) safe none are in
      let all : budget ≡ budget - (0 - 0) = omega arith in
      (there.under_way, ap (λ (n : ℕ). ending_by k (run c e n 0 s)) all ∙ there.same)

  -- there is one ahead
  pub some_ahead : (clock : Clock) (ahead : List Standing) (s : State) → IsUnderWay k c e clock ahead s → 0 < length ahead
  some_ahead clock [] s under = elim under [ ]
  some_ahead clock (here ∷ others) s under = omega arith

  module _ (clock : Clock) (here : Standing) (others : List Standing) (s t : State) (under : IsHere k c e clock here others s) where
    -- an instruction goes on
    pub goes_further : LeadsTo k c e here.place s 1 (here.place + 1) t → GoesOn k c e clock (here ∷ others) s clock others t
    goes_further leads =
        let q = here.place + 1 in
        let there = lands clock q t others (omega (arith, under.since)) leads.0 leads.1 under.behind in
        let steps : steps_left clock here.place - 1 ≡ steps_left clock q = omega (arith, under.since) in
        record {
          under_way = there.under_way;
          same = leads.2 (steps_left clock here.place) ∙ ap (λ (n : ℕ). ending_by k (run c e n q t)) steps ∙ there.same;
          less = omega arith;
        }

    -- an instruction jumps
    pub jumps_further : (q : ℕ) (next : List Standing) (after : Clock) → LeadsTo k c e here.place s 1 q t → next ≡ standing_from k q (drop q c.instrs) → 0 < steps_left clock here.place →
        after ≡ record { left = steps_left clock here.place - 1; since = q } → GoesOn k c e clock (here ∷ others) s after next t
    jumps_further q next after leads are some is =
        let new : Clock = record { left = steps_left clock here.place - 1; since = q } in
        let there = lands new q t next (omega arith) leads.0 leads.1 are in
        let steps : steps_left clock here.place - 1 ≡ steps_left new q = omega arith in
        let few : length next ≤ length c.instrs = omega (arith, ap length are, few_ahead k q (drop q c.instrs), length-drop q c.instrs) in
        rw is (record {
          under_way = there.under_way;
          same = leads.2 (steps_left clock here.place) ∙ ap (λ (n : ℕ). ending_by k (run c e n q t)) steps ∙ there.same;
          less = less_work (steps_left clock here.place - 1) clock.left (length c.instrs) (length next) (suc (length others)) (omega (arith, some)) few;
        })

-- ---- where a run goes on no further

-- some steps are left, if not none are
pub some_left : (n : ℕ) → (n ≡ 0 → IsTrue false) → n ≡ suc (n - 1)
some_left zero none = absurd (true≢false (sym (none refl)))
some_left (suc n) none = omega arith

-- as there are steps left, it has ended, and the store is as it was
pub ends_as_it_was : (clock now : Clock) (ahead : List Standing) (here : Standing) (others : List Standing) (s t : Store) → ahead ≡ here ∷ others → now ≡ clock →
    (steps_left now here.place ≡ 0 → IsTrue false) → IsOut clock ahead ⊎ (EndsFirst ahead × (t ≡ s)) → (steps_left clock here.place ≡ suc (steps_left clock here.place - 1)) × (t ≡ s)
ends_as_it_was clock now ahead here others s t are same left stops =
    let some : steps_left clock here.place ≡ 0 → IsTrue false = λ none. left (ap (λ (x : Clock). steps_left x here.place) same ∙ none) in
    let found = subst (λ (xs : List Standing). IsOut clock xs ⊎ (EndsFirst xs × (t ≡ s))) are stops in
    (some_left (steps_left clock here.place) some, elim found [ inl out ↦ absurd (true≢false (sym (some out))) | inr ends ↦ ends.1 ])
