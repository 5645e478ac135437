use Rattle.std.proofs.Common.{◌≡◌, ◌<◌, ◌≤◌, ◌+◌, ℕ, List, length, cond, get_or, set, refl, ap, sym, ◌∙◌, eq-eqb, inl, inr, arith}
use Rattle.std.proofs.lemmas.Bool.{cases_eq, ne_eqb}
use Rattle.std.proofs.lemmas.Grind.{get_or_default_zero}
use Rattle.std.proofs.lemmas.List.{get_or_default, get_or-set_same, get_or-set_other}
use Rattle.sl_count_texts.specs.Short.{is_list_of}
use Rattle.sl_count_texts.proofs.Counting.{AreBelow, sums_one, sums_all, read_sum}
use Rattle.sl_count_texts.proofs.party_counts.list_seats.Goals as goal

-- a number of the column grows by one that is not above the greatest
below_one : (column : List ℕ) (n i place read m : ℕ) → length column ≡ n → AreBelow 18446744073709551615 n i column → place < n → read ≡ get_or column place 0 → m ≤ 18446744073709551615
    → AreBelow 18446744073709551615 n (i + 1) (set column place (read + m))
below_one column n i place read m size below within is fits k h =
    elim (cases_eq k place) [
      | inl same ↦
          let here : get_or (set column place (read + m)) place 0 ≡ read + m = get_or-set_same column place (read + m) 0 (omega (arith, size)) in
          let was = below place within in
          rw same (omega (arith, here, was, is, fits))
      | inr other ↦
          let here = get_or-set_other column place k (read + m) 0 other in
          let was = below k h in
          omega (arith, here, was)
    ]

pub loop-list-preserved : goal.loop-list-preserved
loop-list-preserved c =
    let lists = c.args.lists.now in
    let i = c.loop-list.list-index in
    let x = get_or lists i (record { land = 0; party = 0; seats = 0; direct = 0; vacant = 0 }) in
    let column = c.loop-list.column.items in
    let sums = c.loop-list.invariant.sums in
    let within = c.loop-list-test.true in
    let in_column = c.requires i (record { land = 0; party = 0; seats = 0; direct = 0; vacant = 0 }) within in
    let seats : c.from.result ≡ x.seats = c.from.ensures in
    record {
      sums = sums_one (λ party x. cond (is_list_of party x) x.seats 0) lists c.args.parties i column sums x within (get_or_default lists i x _ within)
          x.party c.index_mut.result.now c.from.result _ in_column c.index_mut.ensures.value refl
          (ap (λ b. cond b x.seats 0) (eq-eqb x.party x.party refl) ∙ sym seats)
          (λ k other. ap (λ b. cond b x.seats 0) (ne_eqb x.party k (λ same. other (sym same))));
      below = below_one column c.args.parties i x.party c.index_mut.result.now c.from.result sums.size c.loop-list.invariant.below in_column
          (read_sum (λ party x. cond (is_list_of party x) x.seats 0) lists c.args.parties i column sums x.party c.index_mut.result.now in_column c.index_mut.ensures.value) (omega (arith, seats));
    }

pub returns-clause-seats : goal.returns-clause-seats
returns-clause-seats c =
    sums_all (λ party x. cond (is_list_of party x) x.seats 0) c.args.lists.now c.args.parties c.loop-list.list-index c.loop-list.column.items c.loop-list-test.false c.loop-list.invariant.sums

pub returns-clause-room : goal.returns-clause-room
returns-clause-room c k d within =
    let size = c.loop-list.invariant.sums.size in
    let below = c.loop-list.invariant.below k (omega (arith, size, within)) in
    omega (arith, get_or_default_zero c.loop-list.column.items k d within, below)

pub overflow_add-index_mut : goal.overflow_add-index_mut
overflow_add-index_mut c =
    let lists = c.args.lists.now in
    let i = c.loop-list.list-index in
    let x = get_or lists i (record { land = 0; party = 0; seats = 0; direct = 0; vacant = 0 }) in
    let in_column = c.requires i (record { land = 0; party = 0; seats = 0; direct = 0; vacant = 0 }) c.loop-list-test.true in
    let read = read_sum (λ party x. cond (is_list_of party x) x.seats 0) lists c.args.parties i c.loop-list.column.items c.loop-list.invariant.sums x.party c.index_mut.result.now in_column c.index_mut.ensures.value in
    let most = c.loop-list.invariant.below x.party in_column in
    omega arith
