-- Bytes that pass the tests of operands spell operands; so bytes spell an instruction, or fail.
use Rattle.std.proofs.Common.{◌≡◌, ℕ, zero, suc, ◌+◌, ◌<◌, ◌≤◌, Bool, false, List, [], ◌∷◌, ◌++◌, length, map, flat_map, replicate, find, get_or, unwrap_or, nat_eq, None, Some, IsTrue, MatchOption, ◌⊎◌, inl, inr, refl, sym, ap, subst, ◌∙◌, arith, lit≤}
use Rattle.std.specs.Int.{w16, w32, w64, from_le_bytes}
use Rattle.std.specs.List.{All, AllByRecursion, range_with_len}
use Rattle.std.proofs.Math.ListN.{get_or-map}
use Rattle.std.proofs.lemmas.Bool.{false≢true, ltb-true}
use Rattle.std.proofs.lemmas.Bool.Decides.{leb_tells}
use Rattle.std.proofs.lemmas.List.Elements.{All-tail}
use Rattle.std.proofs.lemmas.List.FromFn.{get_or-range_with_len}
use Rattle.std.proofs.lemmas.List.{length-replicate}
use Rattle.std.proofs.lemmas.Nat.{le_bytes_2, le_bytes_4, le_bytes_8}
use Rattle.sl_base_quotients.specs.declared.method.TheConstants.{DIVISORS}
use Rattle.sl_base_quotients.specs.declared.method.Divisor.TheVariants as divisors
use Rattle.sl_base_quotients.specs.Quotient.{method_number}
use Rattle.sl_code.specs.declared.fault.Cause.TheVariants as causes
use Rattle.sl_code.specs.declared.fault.Stop.{Stop}
use Rattle.sl_code_instructions.specs.declared.instr.Instr.{Instr}
use Rattle.sl_code_instructions.specs.declared.instr.Instr.TheVariants.{Set, Wland}
use Rattle.sl_code_instructions.specs.declared.operand.TheConstants.{ENTRY_KINDS, RANKINGS, SCOPE_KINDS, INPUTS, END_FAULTS, ROUNDINGS}
use Rattle.sl_code_instructions.specs.declared.operand.EndFault.TheVariants as faults
use Rattle.sl_code_instructions.specs.declared.operand.Entries.TheVariants as entries
use Rattle.sl_code_instructions.specs.declared.operand.Input.TheVariants as inputs
use Rattle.sl_code_instructions.specs.declared.operand.Ranking.TheVariants as rankings
use Rattle.sl_code_instructions.specs.declared.operand.Rounding.TheVariants as roundings
use Rattle.sl_code_instructions.specs.declared.operand.ScopeKind.TheVariants as scopes
use Rattle.sl_code_instructions.specs.declared.parts.Operand.{Operand}
use Rattle.sl_code_instructions.specs.declared.parts.Operand.TheVariants as o
use Rattle.sl_code.specs.Faults.{FailsInstr, missing, meaningless, in_operands, stop_at}
use Rattle.sl_code.specs.Laws.{IsByte}
use Rattle.sl_code_instructions.specs.Numbers.{scope_number, entries_number, ranking_number, input_number, rounding_number, fault_number, cursors_number, table_number}
use Rattle.sl_code.specs.Operands.{bytes_of, tests_of, two_bytes, four_bytes, eight_bytes, is_any, is_below, is_number, is_scope, is_entries, is_ranking, is_input, is_method, is_rounding, is_end_fault}
use Rattle.sl_code_instructions.specs.Proper.{FitsBytes, IsInRange}
use Rattle.sl_code_instructions.specs.Rows.{opcode_of, operands_of}
use Rattle.sl_code.specs.Spelling.{instr_bytes}
use Rattle.sl_code.proofs.Found.{found_in}
use Rattle.sl_code.proofs.Operations.{none_known}
use Rattle.sl_code.proofs.Passing.{Passes, PassOrFail, pass_or_fail, Parted, parted, one_passes, as_many, each_small}
use Rattle.sl_code.proofs.Taking.{Taken}
use Rattle.sl_code.proofs.Values.{one_at, scope_at, entries_at, ranking_at, input_at, method_at, rounding_at, fault_at, all_cursors, cursors, cursors_at, tables, table_at, builders, instr_at}

-- ---- the value of a number that passes

pub number_found : {A : Type 0} (number : A → ℕ) (xs : List A) (other : A) (n : ℕ) → IsTrue (is_number number xs n) → number (one_at number xs other n) ≡ n
number_found number xs other n passes =
    elim (find (λ x. nat_eq (number x) n) xs) as (λ found. MatchOption found (is_number number xs n ≡ false) (λ x. number x ≡ n) → number (unwrap_or found other) ≡ n) [
      | None ↦ λ none. absurd (false≢true (sym none ∙ passes))
      | Some x ↦ λ same. same
    ] (found_in number n xs)

-- numbers in order, from 0
place_found : {A : Type 0} (number : A → ℕ) (xs : List A) (other : A) (n most : ℕ) → map number xs ≡ range_with_len 0 most → number other ≡ 0 → IsTrue (is_below most n) → number (get_or xs n other) ≡ n
place_found number xs other n most ordered first below =
    let there : get_or (map number xs) n (number other) ≡ 0 + n = ap (λ ns. get_or ns n (number other)) ordered ∙ get_or-range_with_len 0 most n (number other) (ltb-true n most below) in
    omega (arith, sym (get_or-map number xs n other) ∙ there)

-- ---- operands

-- an operand like this one, of that number
abbrev operand_at : Operand → ℕ → Operand
operand_at (o.Register r) n = o.Register n
operand_at (o.Slot k) n = o.Slot n
operand_at (o.Stage s) n = o.Stage n
operand_at (o.Target t) n = o.Target n
operand_at (o.Value x) n = o.Value n
operand_at (o.Scope c) n = o.Scope (scope_at n)
operand_at (o.Entries e) n = o.Entries (entries_at n)
operand_at (o.Ranking r) n = o.Ranking (ranking_at n)
operand_at (o.Input i) n = o.Input (input_at n)
operand_at (o.Method m) n = o.Method (method_at n)
operand_at (o.Rounding m) n = o.Rounding (rounding_at n)
operand_at (o.Fault f) n = o.Fault (fault_at n)
operand_at (o.Positive registers) n = o.Positive (record { mask = n })
operand_at (o.Cursors c) n = o.Cursors (cursors_at n)
operand_at (o.Table t) n = o.Table (table_at n)

-- the bytes spell an operand like x
pub record SpellsLike (x : Operand) (bytes : List ℕ) : Type 0 where
  pub number : ℕ
  pub spelled : bytes_of (operand_at x number) ≡ bytes
  pub fits : FitsBytes (operand_at x number)

one_spelled : (x : Operand) (test : ℕ → Bool) (bytes : List ℕ) → ((b : ℕ) → IsTrue (test b) → (bytes_of (operand_at x b) ≡ b ∷ []) × FitsBytes (operand_at x b)) → Passes IsByte (test ∷ []) bytes → SpellsLike x bytes
one_spelled x test bytes spells p =
    let q : (b : ℕ) × (bytes ≡ b ∷ []) × IsTrue (test b) = one_passes test bytes p in
    record { number = q.0; spelled = (spells q.0 q.2).0 ∙ sym q.1; fits = (spells q.0 q.2).1 }

pub operand_spelled : (x : Operand) (bytes : List ℕ) → Passes IsByte (tests_of x) bytes → SpellsLike x bytes
unfolding two_bytes four_bytes eight_bytes
operand_spelled (o.Register r) bytes p = one_spelled (o.Register r) is_any bytes (λ b passes. (refl, tt)) p
operand_spelled (o.Slot k) bytes p = one_spelled (o.Slot k) is_any bytes (λ b passes. (refl, tt)) p
operand_spelled (o.Stage s) bytes p = one_spelled (o.Stage s) is_any bytes (λ b passes. (refl, tt)) p
operand_spelled (o.Target t) bytes p =
    let small : (i : ℕ) → get_or bytes i 0 < 256 = each_small (tests_of (o.Target t)) bytes p in
    record { number = from_le_bytes w32 bytes; spelled = le_bytes_4 bytes _ (as_many (tests_of (o.Target t)) bytes p) small refl; fits = omega (arith, small 0, small 1, small 2, small 3) }
operand_spelled (o.Value x) bytes p =
    let small : (i : ℕ) → get_or bytes i 0 < 256 = each_small (tests_of (o.Value x)) bytes p in
    record { number = from_le_bytes w64 bytes; spelled = le_bytes_8 bytes _ (as_many (tests_of (o.Value x)) bytes p) small refl; fits = omega (arith, small 0, small 1, small 2, small 3, small 4, small 5, small 6, small 7) }
operand_spelled (o.Scope c) bytes p = one_spelled (o.Scope c) is_scope bytes (λ b passes. (ap (λ n. n ∷ []) (number_found scope_number SCOPE_KINDS scopes.All b passes), tt)) p
operand_spelled (o.Entries e) bytes p = one_spelled (o.Entries e) is_entries bytes (λ b passes. (ap (λ n. n ∷ []) (number_found entries_number ENTRY_KINDS entries.Party b passes), tt)) p
operand_spelled (o.Ranking r) bytes p = one_spelled (o.Ranking r) is_ranking bytes (λ b passes. (ap (λ n. n ∷ []) (number_found ranking_number RANKINGS rankings.Quotients b passes), tt)) p
operand_spelled (o.Input i) bytes p = one_spelled (o.Input i) is_input bytes (λ b passes. (ap (λ n. n ∷ []) (number_found input_number INPUTS inputs.Valid b passes), tt)) p
operand_spelled (o.Method m) bytes p = one_spelled (o.Method m) is_method bytes (λ b passes. (ap (λ n. n ∷ []) (number_found method_number DIVISORS divisors.Adams b passes), tt)) p
operand_spelled (o.Rounding m) bytes p = one_spelled (o.Rounding m) is_rounding bytes (λ b passes. (ap (λ n. n ∷ []) (number_found rounding_number ROUNDINGS roundings.Adams b passes), tt)) p
operand_spelled (o.Fault f) bytes p = one_spelled (o.Fault f) is_end_fault bytes (λ b passes. (ap (λ n. n ∷ []) (number_found fault_number END_FAULTS faults.Limit b passes), tt)) p
operand_spelled (o.Positive registers) bytes p =
    let small : (i : ℕ) → get_or bytes i 0 < 256 = each_small (tests_of (o.Positive registers)) bytes p in
    record { number = from_le_bytes w16 bytes; spelled = le_bytes_2 bytes _ (as_many (tests_of (o.Positive registers)) bytes p) small refl; fits = omega (arith, small 0, small 1) }
operand_spelled (o.Cursors c) bytes p = one_spelled (o.Cursors c) (is_below 8) bytes (λ b passes. (ap (λ n. n ∷ []) (place_found cursors_number all_cursors (cursors false false false) b 8 refl refl passes), tt)) p
operand_spelled (o.Table t) bytes p = one_spelled (o.Table t) (is_below 17) bytes (λ b passes. (ap (λ n. n ∷ []) (place_found table_number tables None b 17 refl refl passes), tt)) p

-- operands like these, of those numbers
abbrev operands_at : List Operand → List ℕ → List Operand
operands_at [] ns = []
operands_at (x ∷ xs) [] = []
operands_at (x ∷ xs) (n ∷ ns) = operand_at x n ∷ operands_at xs ns

-- the bytes spell operands like these, of the first of so many numbers
record SpellAll (xs : List Operand) (many : ℕ) (bytes : List ℕ) : Type 0 where
  numbers : List ℕ
  are : length numbers ≡ many
  spelled : flat_map bytes_of (operands_at xs numbers) ≡ bytes
  fit : AllByRecursion FitsBytes (operands_at xs numbers)

all_spelled : (xs : List Operand) (many : ℕ) (bytes : List ℕ) → length xs ≤ many → Passes IsByte (flat_map tests_of xs) bytes → SpellAll xs many bytes
all_spelled [] many [] short p = record { numbers = replicate many 0; are = length-replicate many 0; spelled = refl; fit = tt }
all_spelled [] many (b ∷ bytes) short p = absurd p
all_spelled (x ∷ xs) zero bytes short p = absurd (omega (arith, short))
all_spelled (x ∷ xs) (suc many) bytes short p =
    let q : Parted (tests_of x) (flat_map tests_of xs) bytes = parted (tests_of x) (flat_map tests_of xs) bytes p in
    let one : SpellsLike x q.front = operand_spelled x q.front q.passes in
    let more : SpellAll xs many q.back = all_spelled xs many q.back (omega (arith, short)) q.later in
    record {
      numbers = one.number ∷ more.numbers;
      are = ap suc more.are;
      spelled = ap (λ t. t ++ flat_map bytes_of (operands_at xs more.numbers)) one.spelled ∙ ap (λ t. q.front ++ t) more.spelled ∙ sym q.whole;
      fit = (one.fits, more.fit);
    }

-- ---- instructions

few_operands : (i : Instr) → length (operands_of i) ≤ 4
few_operands (Set a b) = lit≤ tt
few_operands x = lit≤ tt

built_of : (op : ℕ) (ns : List ℕ) → 1 ≤ op → op ≤ 44 → opcode_of (instr_at op ns) ≡ op
unfolding builders instr_at
built_of zero ns low high = absurd (omega (arith, low))
built_of (suc k) ns low high =
    sym (get_or-map (λ (f : List ℕ → Instr). opcode_of (f ns)) builders (suc k) (λ v. Wland)) ∙ get_or-range_with_len 1 44 k 0x13 (omega (arith, high)) ∙ omega arith

built_from : (op a b c d : ℕ) → let ns : List ℕ = a ∷ b ∷ c ∷ d ∷ [] in operands_of (instr_at op ns) ≡ operands_at (operands_of (instr_at op [])) ns
unfolding builders instr_at
built_from op a b c d =
    let ns : List ℕ = a ∷ b ∷ c ∷ d ∷ [] in
    let made : (List ℕ → Instr) → List Operand = λ f. operands_of (f ns) in
    let like : (List ℕ → Instr) → List Operand = λ f. operands_at (operands_of (f [])) ns in
    let same : map made builders ≡ map like builders = refl in
    sym (get_or-map made builders op (λ v. Wland)) ∙ ap (λ (xs : List (List Operand)). get_or xs op []) same ∙ get_or-map like builders op (λ v. Wland)

of_four : (P : List ℕ → Type 0) → ((a b c d : ℕ) → P (a ∷ b ∷ c ∷ d ∷ [])) → (ns : List ℕ) → length ns ≡ 4 → P ns
of_four P p [] l = absurd (omega (arith, l))
of_four P p (a ∷ []) l = absurd (omega (arith, l))
of_four P p (a ∷ b ∷ []) l = absurd (omega (arith, l))
of_four P p (a ∷ b ∷ c ∷ []) l = absurd (omega (arith, l))
of_four P p (a ∷ b ∷ c ∷ d ∷ []) l = p a b c d
of_four P p (a ∷ b ∷ c ∷ d ∷ e ∷ ns) l = absurd (omega (arith, l))

abbrev InstrOrFault : List ℕ → Type 0
InstrOrFault here = Taken instr_bytes IsInRange here ⊎ ((stop : Stop) × FailsInstr here stop)

module _ (op : ℕ) (rest : List ℕ) (low : 1 ≤ op) (high : op ≤ 44) where
  abbrev like : Instr
  like = instr_at op []

  behind_op : PassOrFail (stop_at causes.Op) (flat_map tests_of (operands_of like)) rest → InstrOrFault (op ∷ rest)
  behind_op (inr f) = inr (f.0, in_operands op rest refl (record { like = like; operation = built_of op [] low high; fails = f.1 }))
  behind_op (inl p) =
      let all : SpellAll (operands_of like) 4 p.front = all_spelled (operands_of like) 4 p.front (few_operands like) p.passes in
      let i : Instr = instr_at op all.numbers in
      let same : operands_of i ≡ operands_at (operands_of like) all.numbers = of_four (λ ns. operands_of (instr_at op ns) ≡ operands_at (operands_of like) ns) (built_from op) all.numbers all.are in
      let spelled : flat_map bytes_of (operands_of i) ≡ p.front = ap (flat_map bytes_of) same ∙ all.spelled in
      inl (record {
        element = i;
        is = subst (AllByRecursion FitsBytes) (sym same) all.fit;
        rest = p.rest;
        stands = ap (λ n. n ∷ rest) (sym (built_of op all.numbers low high)) ∙ ap (λ t. opcode_of i ∷ t) (p.stands ∙ ap (λ t. t ++ p.rest) (sym spelled));
        are_bytes = p.are_bytes;
      })

is_known : (op : ℕ) → ((1 ≤ op) × (op ≤ 44)) ⊎ ((op < 1) ⊎ (45 ≤ op))
is_known zero = inr (inl (omega arith))
is_known (suc k) =
    elim (leb_tells (suc k) 44) as (λ t. ((1 ≤ suc k) × (suc k ≤ 44)) ⊎ ((suc k < 1) ⊎ (45 ≤ suc k))) [
      | inl few ↦ inl (omega arith, few.1)
      | inr many ↦ inr (inr (omega (arith, many.1)))
    ]

pub instr_or_fault : (here : List ℕ) → All IsByte here → InstrOrFault here
instr_or_fault [] are = inr (stop_at causes.Short [], missing refl refl)
instr_or_fault (op ∷ rest) are =
    elim (is_known op) as (λ known. InstrOrFault (op ∷ rest)) [
      | inl bounds ↦ behind_op op rest bounds.0 bounds.1 (pass_or_fail (stop_at causes.Op) (flat_map tests_of (operands_of (instr_at op []))) rest (All-tail IsByte op rest are))
      | inr outside ↦ inr (stop_at causes.Op (op ∷ rest), meaningless op rest refl (none_known op outside) refl)
    ]
