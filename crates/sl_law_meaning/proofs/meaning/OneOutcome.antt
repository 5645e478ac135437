-- A typed book yields exactly one outcome on an election.
use Rattle.std.proofs.Common.{◌≡◌, ℕ, ◌<◌, ◌≤◌, Bool, true, List, [], ◌∷◌, ◌++◌, None, length, map, min, arith, refl, sym, ap, subst, ◌∙◌}
use Rattle.std.specs.Prelude.{slice_get, filter_map, unwrap_or, option_map}
use Rattle.std.specs.List.{All, zip, enumerate_from}
use Rattle.std.proofs.lemmas.List.{length-map}
use Rattle.std.proofs.lemmas.List.Elements.{All-filter, All-get_or, All-map}
use Rattle.std.proofs.lemmas.List.FromFn.{length-enumerate_from, get_or-enumerate_from}
use Rattle.sl_law_meaning.specs.declared.book.Base.{Base}
use Rattle.sl_law_meaning.specs.declared.book.Base.TheVariants as base
use Rattle.sl_law_meaning.specs.declared.book.LastClause.{LastClause}
use Rattle.sl_law_meaning.specs.declared.book.Seating.{Seating}
use Rattle.sl_law_meaning.specs.declared.book.Seating.TheVariants as seating
use Rattle.sl_law_meaning.specs.declared.check_fault.CheckFault.TheVariants as fault
use Rattle.sl_law_meaning.specs.declared.election.Win.{Win}
use Rattle.sl_law_meaning.specs.declared.table.Outcome.{Outcome}
use Rattle.sl_law_meaning.specs.declared.table.Outcome.TheVariants as outcome
use Rattle.sl_law_meaning.specs.book.Trees.{StageTree, BookTree}
use Rattle.sl_law_meaning.specs.returns.Election.{Election, IsElection, IsWin}
use Rattle.sl_base_terms.specs.Tests.{first_failing, test}
use Rattle.sl_law_meaning.specs.book.Typing.{is_seat_number, columns_of, stage_column, base_tests, tests_of, version_tests, condition_tests, stages_tests, is_typed}
use Rattle.sl_law_meaning.specs.meaning.Columns.{IsLeaf}
use Rattle.sl_law_meaning.specs.meaning.Seating.{base_of}
use Rattle.sl_law_meaning.specs.returns.Facts.{lists_of, list_cell, is_eligible}
use Rattle.sl_law_meaning.specs.laws.MethodLaws.{AllHaveVotes}
use Rattle.sl_law_meaning.specs.methods.Ties.{Choice}
use Rattle.sl_law_meaning.specs.meaning.Lots.{seats_lot}
use Rattle.sl_law_meaning.specs.meaning.Records.{Records}
use Rattle.sl_law_meaning.specs.meaning.Results.{ExprResult, Column, Fault}
use Rattle.sl_law_meaning.specs.meaning.Seating.{winners_of, winner_items, IsSeating, tie_of, cover_table, keep_table}
use Rattle.sl_law_meaning.specs.meaning.Means.{Known, nothing_known, StagesResult, Through, Stopped, with_stage, StagesMean, IsCovered, GoesOn, IsSeated, IsEnd, EndsAs, IsOutcome}
use Rattle.sl_law_meaning.specs.laws.OneLaws.{ExactlyOne, OneStagesResult, OneSeating}
use Rattle.sl_law_meaning.proofs.methods.CoveringProofs.{coverings}
use Rattle.sl_law_meaning.proofs.meaning.ExactlyOne.{one_equal, one_zip}
use Rattle.sl_law_meaning.proofs.meaning.OneAward.{mentions_distinct}
use Rattle.sl_base_terms.proofs.Tests.{no_fault, head_holds, pass_parts}
use Rattle.sl_law_meaning.proofs.meaning.OneResult.{SameNames, one_column, one_run}
use Rattle.sl_law_meaning.proofs.meaning.Members.{all_and_one}

-- ---- covering

votes_numbered : (n lands parties : ℕ) (wins : List Win) → All (IsWin lands parties) wins → All (λ x. 1 ≤ x.1.first) (enumerate_from n wins)
votes_numbered n lands parties wins each k d less =
    let within : k < length wins = omega (arith, less, length-enumerate_from n wins) in
    rw (get_or-enumerate_from n wins k d within) (each k d.1 within).least

module _ (eligible : ℕ → Bool) (e : Election) (is : IsElection e) (base : List ℕ) (l : ℕ × ℕ) where
  have_votes : AllHaveVotes (map (λ x. x.1.first) (winners_of eligible e l.0 l.1))
  have_votes i within =
      All-get_or (λ n. 1 ≤ n) (map (λ x. x.1.first) (winners_of eligible e l.0 l.1)) i 0 within
      (All-map (λ n. 1 ≤ n) (λ x. x.1.first) (winners_of eligible e l.0 l.1)
      (All-filter _ (λ x. 1 ≤ x.1.first) (enumerate_from 0 e.wins) (votes_numbered 0 (length e.land_names) (length e.party_names) e.wins is.places)))

  one_chosen : ExactlyOne (IsSeating eligible e base l)
  one_chosen =
      let won = winners_of eligible e l.0 l.1 in
      let long : length (map {B = ℕ} (λ x. x.1.first) won) ≡ length won = length-map won (λ x. x.1.first) in
      let defined = (coverings (map (λ x. x.1.first) won) (map (λ x. x.1.valid) won) (min (list_cell e base l.0 l.1) (length won)) have_votes).1 (omega (arith, long)) in
      let chosen = defined.one_choice (seats_lot e (winner_items eligible e l.0 l.1)) (mentions_distinct _) in
      record { one = chosen.0; is = chosen.1; only = chosen.2 }

pub one_seating : OneSeating
one_seating = one_chosen

-- what goes on to an end does so from a column
pub goes_through : (p : ExprResult) (Next : List ℕ → Records → Type 0) (end : Known) → GoesOn p Next (Through end) →
    (values : List ℕ) × (records : Records) × (p ≡ Column values records) × Next values records
goes_through (Fault f) Next end h = cc
goes_through (Column values records) Next end h = (values, records, refl, h)

-- ---- the last clause

module _ (b : BookTree) (e : Election) (is : IsElection e) (base : List ℕ) (records : Records) where
  one_covered : ExactlyOne (IsCovered b e base records)
  one_covered =
      let all = one_zip (IsSeating (is_eligible b.eligible e) e base) (lists_of e) (one_seating (is_eligible b.eligible e) e is base) in
      let end : List Choice → Outcome = λ choices. unwrap_or (option_map (λ f. outcome.Fault f) (slice_get (filter_map (tie_of (is_eligible b.eligible e) e (length b.stages)) (zip (lists_of e) choices)) 0))
      (outcome.Table (cover_table b e base records (zip (lists_of e) choices))) in
      record {
        one = end all.one;
        is = record { choices = all.one; each = all.is; is = refl };
        only = λ o h. h.is ∙ ap end (all.only h.choices h.each);
      }

  one_seated : (s : Seating) → ExactlyOne (IsSeated b e s base records)
  one_seated seating.Keep = one_equal (outcome.Table (keep_table b e base records))
  one_seated seating.Cover = one_covered

module _ (b : BookTree) (e : Election) where
  base_column : (k : Known) (last : LastClause) (x : Base) → SameNames k.types k.columns → first_failing (base_tests k.types last.at x) ≡ None →
      ExactlyOne (IsLeaf b e k.columns (base_of (record last { base = x })))
  base_column k last base.Winners names pass = one_equal _
  base_column k last (base.Stage n) names pass = one_column k.types k.columns names n (head_holds _ _ _ pass).0

  one_end : IsElection e → (k : Known) → SameNames k.types k.columns → first_failing (base_tests k.types b.last.at b.last.base) ≡ None → ExactlyOne (IsEnd b e k)
  one_end is k names pass =
      let column = base_column k b.last b.last.base names pass in
      let end = one_seated b e is column.one k.records b.last.seating in
      record {
        one = end.one;
        is = record { base = column.one; is_base = column.is; seated = end.is };
        only = λ o h. end.only o (subst (λ c. IsSeated b e b.last.seating c k.records o) (column.only h.base h.is_base) h.seated);
      }

  -- ---- what is known after the stages

  through : (k : Known) (ss : List StageTree) (end : Known) → SameNames k.types k.columns → StagesMean b e k ss (Through end) → SameNames end.types end.columns × (end.types ≡ columns_of k.types ss)
  through k [] end names run = let same : end ≡ k = cc in (subst (λ j. SameNames j.types j.columns) (sym same) names, ap (λ j. j.types) same)
  through k (s ∷ ss) end names run =
      let on = goes_through run.0 (λ values records. StagesMean b e (with_stage k s values records) ss (Through end)) end run.2 in
      through (with_stage k s on.0 on.1) ss end (all_and_one (λ t c. t.name ≡ c.name) k.types k.columns (stage_column k.types s) (record { name = s.name; values = on.0 }) refl names) on.3

  one_ending : IsElection e → first_failing (base_tests (columns_of [] b.stages) b.last.at b.last.base) ≡ None → (r : StagesResult) → StagesMean b e nothing_known b.stages r → ExactlyOne (EndsAs b e r)
  one_ending is pass (Stopped f) run = one_equal (outcome.Fault f)
  one_ending is pass (Through k) run =
      let known = through nothing_known b.stages k tt run in
      one_end is k known.0 (subst (λ ts. first_failing (base_tests ts b.last.at b.last.base) ≡ None) (sym known.1) pass)

  pub typed_parts : first_failing (tests_of b) ≡ None → (first_failing (stages_tests [] b.stages) ≡ None) × (first_failing (base_tests (columns_of [] b.stages) b.last.at b.last.base) ≡ None)
  typed_parts h =
      let ends = base_tests (columns_of [] b.stages) b.last.at b.last.base in
      let behind = condition_tests b.eligible ++ (stages_tests [] b.stages ++ ends) in
      let house = (pass_parts (version_tests b.version b.last.vacate) (test (is_seat_number b.house.value) (fault.HouseRange b.house.at) ∷ behind) h).1 in
      let conditions = (pass_parts (condition_tests b.eligible) (stages_tests [] b.stages ++ ends) (head_holds _ _ _ house).1).1 in
      pass_parts (stages_tests [] b.stages) ends conditions

  one_through : is_typed b ≡ true → ExactlyOne (StagesMean b e nothing_known b.stages)
  one_through typed = one_run b e nothing_known b.stages tt (typed_parts (no_fault (tests_of b) typed)).0

  pub one_outcome : is_typed b ≡ true → IsElection e → ExactlyOne (IsOutcome b e)
  one_outcome typed is =
      let parts = typed_parts (no_fault (tests_of b) typed) in
      let run = one_through typed in
      let end = one_ending is parts.1 run.one run.is in
      record {
        one = end.one;
        is = record { run = run.one; stages = run.is; ends = end.is };
        only = λ o h. end.only o (subst (λ r. EndsAs b e r o) (run.only h.run h.stages) h.ends);
      }

pub one_stages_result : OneStagesResult
one_stages_result = one_through
