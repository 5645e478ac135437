-- A plain book means the table that it yields.
use Rattle.std.proofs.Common.{◌≡◌, ℕ, ◌<◌, ◌&&◌, true, List, [], Option, Some, None, is_none, nat_eq, map, ◌↔◌, refl, sym, ap, subst, ◌∙◌}
use Rattle.std.specs.Prelude.{IsPermutation}
use Rattle.std.specs.List.{list_all}
use Rattle.std.proofs.lemmas.Bool.{and_parts, false≢true}
use Rattle.std.proofs.lemmas.List.{nil_from_length}
use Rattle.std.proofs.lemmas.List.Sorted.{length_permutation}
use Rattle.sl_law_meaning.specs.declared.book.Base.{Base}
use Rattle.sl_law_meaning.specs.declared.book.Base.TheVariants as base
use Rattle.sl_law_meaning.specs.declared.book.LastClause.{LastClause}
use Rattle.sl_law_meaning.specs.declared.book.Seating.{Seating}
use Rattle.sl_law_meaning.specs.declared.book.Seating.TheVariants as seating
use Rattle.sl_law_meaning.specs.declared.table.ListSeats.{ListSeats}
use Rattle.sl_law_meaning.specs.declared.table.Outcome.{Outcome}
use Rattle.sl_law_meaning.specs.declared.table.Outcome.TheVariants as outcome
use Rattle.sl_law_meaning.specs.meaning.Tables.{SeatTable}
use Rattle.sl_law_meaning.specs.book.Trees.{BookTree}
use Rattle.sl_law_meaning.specs.returns.Votes.{slate_in}
use Rattle.sl_law_meaning.specs.returns.Election.{Election, lands_of, parties_of, list_at}
use Rattle.sl_law_meaning.specs.book.Typing.{splits_in}
use Rattle.sl_law_meaning.specs.meaning.PlainBooks.{IsColumn, ComesTo, is_keep, kept_list, kept_lists, kept_table}
use Rattle.sl_law_meaning.specs.meaning.Columns.{NamedColumn, IsLeaf}
use Rattle.sl_law_meaning.specs.meaning.Seating.{base_of, kept_place}
use Rattle.sl_law_meaning.specs.meaning.Records.{no_records}
use Rattle.sl_law_meaning.specs.meaning.Seating.{placed_on, vacant_of, table_line, kept_seats, keep_table}
use Rattle.sl_law_meaning.specs.meaning.Means.{Through, SameOutcome, IsSeated, EndsAs, Means}
use Rattle.sl_law_meaning.specs.laws.MeaningLaws.{PlainOutcomes}
use Rattle.sl_law_meaning.proofs.meaning.EachList.{each_list_agree}
use Rattle.sl_law_meaning.proofs.meaning.PlacedWinners.{kept_direct}
use Rattle.sl_law_meaning.proofs.meaning.PlainRuns.{bare, AllPlain, from_run, to_run}
use Rattle.sl_law_meaning.proofs.meaning.MeaningProofs.{same_itself}

-- ---- the table

none_vacant : (o : Option ℕ) → is_none o ≡ true → (names : Option ℕ) (seats direct : ℕ) → vacant_of o names seats direct ≡ 0
none_vacant None h names seats direct = refl
none_vacant (Some at) h names seats direct = absurd (false≢true h)

module _ (b : BookTree) (e : Election) (base : List ℕ) (none : is_none b.last.vacate ≡ true) where
  same_line : (land party : ℕ) → land < lands_of e → party < parties_of e → table_line b e (kept_seats b e base) (map (kept_place b e) e.wins) land party ≡ kept_list b e base land party
  same_line land party in_lands in_parties =
      let direct = kept_direct b e land party in_lands in_parties in
      let vacant = none_vacant b.last.vacate none (slate_in (list_at e land party)) (kept_seats b e base land party) (placed_on e (map (kept_place b e) e.wins) land party) in
      cc (direct, vacant)

  same_lists : (keep_table b e base no_records).lists ≡ kept_lists b e base
  same_lists = each_list_agree e (table_line b e (kept_seats b e base) (map (kept_place b e) e.wins)) (kept_list b e base) (λ land party there. same_line land party there.in_lands there.in_parties)

  same_table : keep_table b e base no_records ≡ kept_table b e base
  same_table = ap (λ (l : List ListSeats). record { lists = l; placed = map (kept_place b e) e.wins; steps = []; weights = [] }) same_lists

-- ---- the outcome

no_more : {X : Type 0} (xs : List X) → IsPermutation xs [] → xs ≡ []
no_more xs h = nil_from_length xs (sym (length_permutation xs [] h))

only_table : (o : Outcome) (t : SeatTable) → t.steps ≡ [] → t.weights ≡ [] → SameOutcome o (outcome.Table t) → o ≡ outcome.Table t
only_table (outcome.Fault f) t steps weights h = absurd h
only_table (outcome.Table u) t steps weights h =
    let s = no_more u.steps (subst (IsPermutation u.steps) steps h.steps) in
    let w = no_more u.weights (subst (IsPermutation u.weights) weights h.weights) in
    ap (λ (x : SeatTable). outcome.Table x) (same_parts u t h.lists h.placed (s ∙ sym steps) (w ∙ sym weights))
  where
    same_parts : (x y : SeatTable) → x.lists ≡ y.lists → x.placed ≡ y.placed → x.steps ≡ y.steps → x.weights ≡ y.weights → x ≡ y
    same_parts x y l p s w = λ i. record { lists = l i; placed = p i; steps = s i; weights = w i }

module _ (b : BookTree) (e : Election) where
  -- the base of the last clause is a leaf
  base_column : (columns : List NamedColumn) (last : LastClause) (x : Base) (c : List ℕ) →
      IsLeaf b e columns (base_of (record last { base = x })) c ↔ IsColumn b e columns (base_of (record last { base = x })) c
  base_column columns last base.Winners c = (λ h. h, λ h. h)
  base_column columns last (base.Stage n) c = (λ h. h, λ h. h)

  kept_end : (s : Seating) → is_keep s ≡ true → (base : List ℕ) (o : Outcome) → IsSeated b e s base no_records o ↔ (o ≡ outcome.Table (keep_table b e base no_records))
  kept_end seating.Keep keep base o = (λ h. h, λ h. h)
  kept_end seating.Cover keep base o = absurd (false≢true keep)

  module _ (o : Outcome) (all : AllPlain b.stages) (keep : is_keep b.last.seating ≡ true) (none : is_none b.last.vacate ≡ true) where
    from_plain : Means b e o → (t : SeatTable) × ComesTo b e t × (o ≡ outcome.Table t)
    from_plain means =
        let run = from_run b e [] [] b.stages all means.is.run means.is.stages in
        let end = subst (λ r. EndsAs b e r means.ordered) run.2 means.is.ends in
        let ordered = (kept_end b.last.seating keep end.base means.ordered).0 end.seated ∙ ap (λ (x : SeatTable). outcome.Table x) (same_table b e end.base none) in
        let t = kept_table b e end.base in
        (t, (run.1, end.base, run.3, (base_column run.1 b.last b.last.base end.base).0 end.is_base, refl), only_table o t refl refl (subst (SameOutcome o) ordered means.same))

    to_plain : (t : SeatTable) × ComesTo b e t × (o ≡ outcome.Table t) → Means b e o
    to_plain it =
        let comes = it.1 in
        let run = to_run b e [] [] b.stages all comes.0 comes.2 in
        let t = keep_table b e comes.1 no_records in
        record {
          ordered = outcome.Table t;
          is = record {
            run = Through (bare run.0 comes.0);
            stages = run.1;
            ends = record { base = comes.1; is_base = (base_column comes.0 b.last b.last.base comes.1).1 comes.3; seated = (kept_end b.last.seating keep comes.1 (outcome.Table t)).1 refl };
          };
          same = subst (λ x. SameOutcome x (outcome.Table t)) (sym (it.2 ∙ ap (λ (x : SeatTable). outcome.Table x) (comes.4 ∙ sym (same_table b e comes.1 none)))) (same_itself (outcome.Table t));
        }

pub plain_outcomes : PlainOutcomes
plain_outcomes b e o plain =
    let parts = and_parts (list_all (λ s. nat_eq (splits_in s.expr) 0) b.stages && is_keep b.last.seating) (is_none b.last.vacate) plain in
    let kept = and_parts (list_all (λ s. nat_eq (splits_in s.expr) 0) b.stages) (is_keep b.last.seating) parts.0 in
    (from_plain b e o kept.0 kept.1 parts.1, to_plain b e o kept.0 kept.1 parts.1)
