use Rattle.std.proofs.Common.{◌≡◌, ◌+◌, Some, refl, sym, ap, subst, ◌∙◌, arith}
use Rattle.std.proofs.lemmas.Result.{IfOk-from_err}
use Rattle.sl_law_meaning.specs.book.Trees.{tree_of}
use Rattle.sl_law_meaning.specs.book.Typing.{type_of}
use Rattle.std.specs.Prelude.{[], IfOk, option_map}
use Rattle.sl_compile_pieces.specs.exprs.Pieces.{slot_of, split_piece, grow_piece}
use Rattle.sl_blocks.specs.PlanBlocks.{AreBlocks, HasRoom}
use Rattle.sl_compile.specs.Codes.{HasSoFar}
use Rattle.sl_compile.specs.inner.Earlier.{columns}
use Rattle.sl_compile.specs.inner.Nodes.{MayHave}
use Rattle.sl_compile.proofs.Levels.{low}
use Rattle.sl_compile.proofs.rulebooks.Rows.{blocks_then}
use Rattle.sl_compile.proofs.Places.{room_first, room_rest}
use Rattle.sl_compile.proofs.Stands.{fewer, name_there, copy_there}
use Rattle.sl_compile.proofs.Arguments.{slot_at, none_blocks, slot_on, copy_room, copy_has, copy_blocks, both_asks, both_falls, rest_room, rest_blocks, has_both}
use Rattle.sl_compile.proofs.Arms.{sum_is, sum_asks, sum_can, sum_room, sum_blocks, sum_has, pair_is, over_pair, other_on}
use Rattle.sl_compile.proofs.Splits.{trees_of, over_split, over_growth, growth_fits, can_as, are_as, some_slot, no_slot, arguments_are, minima_none, minima_some, minima_asks, node_room, node_blocks}
use Rattle.sl_compile.proofs.exprs.Site.+expr.Goals.{expr-in-Some+in_ok-has-in-Some, expr-in-None}
use Rattle.sl_compile.proofs.exprs.Site.+expr.Goals as goal

-- ---- two arguments

pub both-expr-requires : goal.both-expr-requires
both-expr-requires t c = ((both_falls _ _ c.decreases).0, (c.requires.left, room_first _ _ _ c.requires.room))

pub both-returns-in_err-left : goal.both-returns-in_err-left
both-returns-in_err-left t c = record { has = IfOk-from_err _ _ c.from_residual.ensures.0; blocks = IfOk-from_err _ _ c.from_residual.ensures.0 }

pub both-overflow_add-level : goal.both-overflow_add-level
both-overflow_add-level t c = omega (arith, c.requires.right.levels)

pub both-expr-requires-2 : goal.both-expr-requires-2
both-expr-requires-2 t c = ((both_falls _ _ c.decreases).1, (c.requires.right, room_rest _ _ _ _ c.requires.room c.in_ok-left.ensures.blocks))

pub both-returns-in_err-right : goal.both-returns-in_err-right
both-returns-in_err-right t c =
    record { has = IfOk-from_err _ _ c.from_residual-in_err-right.ensures.0; blocks = IfOk-from_err _ _ c.from_residual-in_err-right.ensures.0 }

pub both-returns : goal.both-returns
both-returns t c = record {
  has = (c.in_ok-left.ensures.has, c.in_ok-right.ensures.has);
  blocks = blocks_then c.in_ok-left.ensures.blocks c.in_ok-right.ensures.blocks;
}

-- ---- facts, and columns of stages

pub expr-returns-in-Fact : goal.expr-returns-in-Fact
expr-returns-in-Fact t c =
    let is = ap tree_of c.in-Fact.is in
    record { has = c.column_type.ensures ∙ ap (type_of _) (sym is); blocks = none_blocks _ _ _ is refl _ _ }

pub expr-copy-requires : goal.expr-copy-requires
expr-copy-requires t c =
    record { level = low c.requires.fits; room = copy_room _ (ap tree_of c.in-Name.is) c.column-slot.ensures.has _ _ refl c.column-slot.ensures.slot _ c.requires.room }

pub expr-returns-in-Name : goal.expr-returns-in-Name
expr-returns-in-Name t c =
    let is = ap tree_of c.in-Name.is in
    record { has = copy_has _ is c.column-slot.ensures.has _ c.copy.ensures.has; blocks = copy_blocks _ is c.column-slot.ensures.has _ _ refl c.column-slot.ensures.slot _ _ _ (copy_there _ _ _ c.column-slot.ensures.has c.column-slot.ensures.slot (low c.requires.fits) (name_there _ _ is c.requires.fits)) _ _ c.copy.ensures.blocks }

-- ---- sums

pub expr-expr-requires : goal.expr-expr-requires
expr-expr-requires t c = sum_asks _ (sum_is c.in-Sum.is c.deref.ensures) _ _ _ c.decreases c.requires.fits c.requires.room

pub expr-returns-in_err-has-in-Sum : goal.expr-returns-in_err-has-in-Sum
expr-returns-in_err-has-in-Sum t c =
    record { has = IfOk-from_err _ _ c.from_residual.ensures.0; blocks = IfOk-from_err _ _ c.from_residual.ensures.0 }

pub expr-column_slot-requires : goal.expr-column_slot-requires
expr-column_slot-requires t c = low c.requires.fits

pub expr-sum-requires : goal.expr-sum-requires
expr-sum-requires t c =
    let have = c.in_ok-has-in-Sum.ensures in
    let slot = slot_at _ _ _ _ _ _ (c.deref-in-Sum.ensures ∙ sym c.deref.ensures) (c.column_slot.ensures _) have.has in
    record {
      level = low c.requires.fits;
      from = slot_on _ _ have.has slot;
      can = sum_can _ (sum_is c.in-Sum.is c.deref.ensures) c.args.self.now.stage c.args.level have.has slot c.requires.fits;
      room = sum_room _ (sum_is c.in-Sum.is c.deref.ensures) _ _ have.has slot _ _ c.requires.room have.blocks;
    }

pub expr-returns-in_ok-has-in-Sum : goal.expr-returns-in_ok-has-in-Sum
expr-returns-in_ok-has-in-Sum t c =
    let is = sum_is c.in-Sum.is c.deref.ensures in
    let have = c.in_ok-has-in-Sum.ensures in
    let slot = slot_at _ _ _ _ _ _ (c.deref-in-Sum.ensures ∙ sym c.deref.ensures) (c.column_slot.ensures _) have.has in
    record { has = sum_has _ is _ have.has c.sum.ensures.has; blocks = sum_blocks _ is _ _ have.has slot _ _ _ (fewer _ _ 0 (omega arith)) _ _ _ have.blocks c.sum.ensures.blocks }

-- ---- pairs

pub expr-both-requires : goal.expr-both-requires
expr-both-requires t c =
    both_asks (over_pair _ (pair_is c.in-Pair.is c.deref-in-Pair.ensures c.deref-in-Pair-2.ensures) c.requires.fits refl refl) _ c.decreases c.requires.room

pub expr-returns-in_err-of-in-Pair : goal.expr-returns-in_err-of-in-Pair
expr-returns-in_err-of-in-Pair t c =
    record { has = IfOk-from_err _ _ c.from_residual-in_err-of-in-Pair.ensures.0; blocks = IfOk-from_err _ _ c.from_residual-in_err-of-in-Pair.ensures.0 }

pub expr-column_slot-from-requires : goal.expr-column_slot-from-requires
expr-column_slot-from-requires t c = low c.requires.fits

pub expr-overflow_add-level : goal.expr-overflow_add-level
expr-overflow_add-level t c = omega (arith, c.requires.fits.levels)

pub expr-column_slot-other-requires : goal.expr-column_slot-other-requires
expr-column_slot-other-requires t c = low (over_pair 0 (pair_is c.in-Pair.is c.deref-in-Pair.ensures c.deref-in-Pair-2.ensures) c.requires.fits refl refl).right

pub expr-pair-requires : goal.expr-pair-requires
expr-pair-requires t c =
    let is = pair_is c.in-Pair.is c.deref-in-Pair.ensures c.deref-in-Pair-2.ensures in
    let have = c.in_ok-of-in-Pair.ensures in
    let left = slot_at _ _ _ _ _ _ (c.deref-in-Pair-3.ensures ∙ sym c.deref-in-Pair.ensures) (c.column_slot-from.ensures _) have.has.0 in
    let right = slot_at _ _ _ _ _ _ (c.deref-in-Pair-4.ensures ∙ sym c.deref-in-Pair-2.ensures) (c.column_slot-other.ensures _) have.has.1 in
    let over = over_pair _ is c.requires.fits left right in
    record { level = low over.right; left = slot_on _ _ have.has.0 left; right = other_on is c.requires.fits have.has right; room = rest_room over have.has _ _ c.requires.room have.blocks }

pub expr-returns-in_ok-of-in-Pair : goal.expr-returns-in_ok-of-in-Pair
expr-returns-in_ok-of-in-Pair t c =
    let have = c.in_ok-of-in-Pair.ensures in
    let left = slot_at _ _ _ _ _ _ (c.deref-in-Pair-3.ensures ∙ sym c.deref-in-Pair.ensures) (c.column_slot-from.ensures _) have.has.0 in
    let right = slot_at _ _ _ _ _ _ (c.deref-in-Pair-4.ensures ∙ sym c.deref-in-Pair-2.ensures) (c.column_slot-other.ensures _) have.has.1 in
    let over = over_pair _ (pair_is c.in-Pair.is c.deref-in-Pair.ensures c.deref-in-Pair-2.ensures) c.requires.fits left right in
    record { has = has_both over have.has _ c.pair.ensures.has; blocks = rest_blocks over have.has _ _ _ (fewer _ _ 0 (omega arith)) _ _ _ have.blocks c.pair.ensures.blocks }

-- ---- splits

pub expr-both-requires-in-Split : goal.expr-both-requires-in-Split
expr-both-requires-in-Split t c =
    both_asks (over_split _ c.deref-in-Split.ensures c.deref-in-Split-2.ensures c.requires.fits c.in-Split.minima c.in-Split.is).over _ c.decreases c.requires.room

pub expr-returns-in_err-of-in-Split : goal.expr-returns-in_err-of-in-Split
expr-returns-in_err-of-in-Split t c =
    record { has = IfOk-from_err _ _ c.from_residual-in_err-of-in-Split.ensures.0; blocks = IfOk-from_err _ _ c.from_residual-in_err-of-in-Split.ensures.0 }

pub expr-overflow_add-level-in-Some : goal.expr-overflow_add-level-in-Some
expr-overflow_add-level-in-Some t c = omega (arith, c.requires.fits.levels)

pub expr-overflow_add-level-in-Some-2 : goal.expr-overflow_add-level-in-Some-2
expr-overflow_add-level-in-Some-2 t c = omega (arith, c.requires.fits.levels)

pub expr-expr-requires-in-Some : goal.expr-expr-requires-in-Some
expr-expr-requires-in-Some t c =
    let over = over_split _ c.deref-in-Split.ensures c.deref-in-Split-2.ensures c.requires.fits c.in-Split.minima c.in-Split.is in
    let have = c.in_ok-of-in-Split.ensures in
    minima_asks over c.in-Some.is c.deref-in-Some.ensures have.has _ _ c.decreases c.requires.room have.blocks

pub expr-returns-in_err-has-in-Some : goal.expr-returns-in_err-has-in-Some
expr-returns-in_err-has-in-Some t c =
    record { has = IfOk-from_err _ _ c.from_residual-in_err-has-in-Some.ensures.0; blocks = IfOk-from_err _ _ c.from_residual-in_err-has-in-Some.ensures.0 }

pub expr-column_slot-requires-in-Some : goal.expr-column_slot-requires-in-Some
expr-column_slot-requires-in-Some t c =
    let known = columns c.args.self.now.earlier.stages.now c.args.self.now.earlier.types.now in
    let over = over_split 0 c.deref-in-Split.ensures c.deref-in-Split-2.ensures c.requires.fits c.in-Split.minima c.in-Split.is in
    (over.are.minima _ (ap (λ o. option_map (slot_of known (c.args.level + 2)) (trees_of o)) c.in-Some.is)).0

pub expr-column_slot-requires-in-Split : goal.expr-column_slot-requires-in-Split
expr-column_slot-requires-in-Split t c = low c.requires.fits

pub expr-overflow_add-level-in-Split : goal.expr-overflow_add-level-in-Split
expr-overflow_add-level-in-Split t c = omega (arith, c.requires.fits.levels)

pub expr-column_slot-requires-in-Split-2 : goal.expr-column_slot-requires-in-Split-2
expr-column_slot-requires-in-Split-2 t c =
    (over_split 0 c.deref-in-Split.ensures c.deref-in-Split-2.ensures c.requires.fits c.in-Split.minima c.in-Split.is).are.low

pub expr-split-requires : goal.expr-split-requires
expr-split-requires t c =
    let over = over_split _ c.deref-in-Split.ensures c.deref-in-Split-2.ensures c.requires.fits c.in-Split.minima c.in-Split.is in
    let have = c.in_ok-of-in-Split.ensures in
    let known = columns c.args.self.now.earlier.stages.now c.args.self.now.earlier.types.now in
    let minima : c.match-minima.minima ≡ option_map (slot_of known (c.args.level + 2)) (trees_of c.in-Split.minima) = elim c.match-minima.branch [
      | expr-in-Some+in_ok-has-in-Some w ↦ some_slot _ _ _ _ _ _ w.minima-is w.in-Some.is (slot_at known _ _ _ _ _ w.deref-in-Some-2.ensures (w.column_slot-in-Some.ensures known) (w.in_ok-has-in-Some.ensures.has ∙ ap (λ x. type_of known (tree_of x)) w.deref-in-Some.ensures))
      | expr-in-None w ↦ no_slot _ _ _ _ w.minima-is w.in-None.is
    ] in
    let from = arguments_are
    (slot_at _ _ _ _ _ _ (c.deref-in-Split-3.ensures ∙ sym c.deref-in-Split.ensures) (c.column_slot-in-Split.ensures _) have.has.0)
    (slot_at _ _ _ _ _ _ (c.deref-in-Split-4.ensures ∙ sym c.deref-in-Split-2.ensures) (c.column_slot-in-Split-2.ensures _) have.has.1)
    minima in
    record {
      from = are_as have.has from over.are;
      can = can_as have.has over.can;
      may = subst (MayHave c.in-Split.method) (sym minima) over.may;
      room = subst (λ a. HasRoom (split_piece [] c.args.self.now.stage c.args.level c.in_ok-of-in-Split.of.shape c.in_ok-of-in-Split.by.shape a c.in-Split.method c.in-Split.majority) c.match-minima.code.items) (sym from)
          (node_room over have.has c.args.code.now.items c.both-in-Split.new.code.items c.match-minima.code.items c.requires.room have.blocks
          (elim c.match-minima.branch [
            | expr-in-Some+in_ok-has-in-Some w ↦ minima_some over w.in-Some.is w.deref-in-Some.ensures _ _ _ (ap (λ v. v.items) w.code-is) w.in_ok-has-in-Some.ensures.blocks
            | expr-in-None w ↦ minima_none over _ _ w.in-None.is (ap (λ v. v.items) w.code-is)
          ]));
    }

pub expr-returns-after-minima : goal.expr-returns-after-minima
expr-returns-after-minima t c =
    let over = over_split _ c.deref-in-Split.ensures c.deref-in-Split-2.ensures c.requires.fits c.in-Split.minima c.in-Split.is in
    let have = c.in_ok-of-in-Split.ensures in
    let known = columns c.args.self.now.earlier.stages.now c.args.self.now.earlier.types.now in
    let minima : c.match-minima.minima ≡ option_map (slot_of known (c.args.level + 2)) (trees_of c.in-Split.minima) = elim c.match-minima.branch [
      | expr-in-Some+in_ok-has-in-Some w ↦ some_slot _ _ _ _ _ _ w.minima-is w.in-Some.is (slot_at known _ _ _ _ _ w.deref-in-Some-2.ensures (w.column_slot-in-Some.ensures known) (w.in_ok-has-in-Some.ensures.has ∙ ap (λ x. type_of known (tree_of x)) w.deref-in-Some.ensures))
      | expr-in-None w ↦ no_slot _ _ _ _ w.minima-is w.in-None.is
    ] in
    let from = arguments_are
    (slot_at _ _ _ _ _ _ (c.deref-in-Split-3.ensures ∙ sym c.deref-in-Split.ensures) (c.column_slot-in-Split.ensures _) have.has.0)
    (slot_at _ _ _ _ _ _ (c.deref-in-Split-4.ensures ∙ sym c.deref-in-Split-2.ensures) (c.column_slot-in-Split-2.ensures _) have.has.1)
    minima in
    record {
      has = has_both over.over have.has _ c.split.ensures.has;
      blocks = node_blocks over have.has c.split.result _ _ (fewer _ _ (c.args.self.now.stage + 1) (omega arith)) c.args.code.now.items c.both-in-Split.new.code.items c.match-minima.code.items c.split.new.code.items have.blocks
          (subst (λ a. IfOk c.split.result (λ x. AreBlocks (HasSoFar [] (c.args.self.now.stage + 1)) (split_piece [] c.args.self.now.stage c.args.level c.in_ok-of-in-Split.of.shape c.in_ok-of-in-Split.by.shape a c.in-Split.method c.in-Split.majority) c.match-minima.code.items c.split.new.code.items)) from c.split.ensures.blocks)
          (elim c.match-minima.branch [
            | expr-in-Some+in_ok-has-in-Some w ↦ minima_some over w.in-Some.is w.deref-in-Some.ensures _ _ _ (ap (λ v. v.items) w.code-is) w.in_ok-has-in-Some.ensures.blocks
            | expr-in-None w ↦ minima_none over _ _ w.in-None.is (ap (λ v. v.items) w.code-is)
          ]);
    }

-- ---- growths

pub expr-both-requires-in-Grow : goal.expr-both-requires-in-Grow
expr-both-requires-in-Grow t c =
    both_asks (over_growth _ c.deref-in-Grow.ensures c.deref-in-Grow-2.ensures c.requires.fits c.in-Grow.is).over _ c.decreases c.requires.room

pub expr-returns-in_err-of-in-Grow : goal.expr-returns-in_err-of-in-Grow
expr-returns-in_err-of-in-Grow t c =
    record { has = IfOk-from_err _ _ c.from_residual-in_err-of-in-Grow.ensures.0; blocks = IfOk-from_err _ _ c.from_residual-in_err-of-in-Grow.ensures.0 }

pub expr-overflow_add-level-in-Grow : goal.expr-overflow_add-level-in-Grow
expr-overflow_add-level-in-Grow t c = omega (arith, c.requires.fits.levels)

pub expr-expr-requires-in-Grow : goal.expr-expr-requires-in-Grow
expr-expr-requires-in-Grow t c =
    let over = over_growth _ c.deref-in-Grow.ensures c.deref-in-Grow-2.ensures c.requires.fits c.in-Grow.is in
    let have = c.in_ok-of-in-Grow.ensures in
    minima_asks over refl c.deref-in-Grow-3.ensures have.has _ _ c.decreases c.requires.room have.blocks

pub expr-returns-in_err-has-in-Grow : goal.expr-returns-in_err-has-in-Grow
expr-returns-in_err-has-in-Grow t c =
    record { has = IfOk-from_err _ _ c.from_residual-in_err-has-in-Grow.ensures.0; blocks = IfOk-from_err _ _ c.from_residual-in_err-has-in-Grow.ensures.0 }

pub expr-column_slot-requires-in-Grow : goal.expr-column_slot-requires-in-Grow
expr-column_slot-requires-in-Grow t c = low c.requires.fits

pub expr-overflow_add-level-in-Grow-2 : goal.expr-overflow_add-level-in-Grow-2
expr-overflow_add-level-in-Grow-2 t c = omega (arith, c.requires.fits.levels)

pub expr-column_slot-requires-in-Grow-2 : goal.expr-column_slot-requires-in-Grow-2
expr-column_slot-requires-in-Grow-2 t c = (over_growth 0 c.deref-in-Grow.ensures c.deref-in-Grow-2.ensures c.requires.fits c.in-Grow.is).are.low

pub expr-overflow_add-level-in-Grow-3 : goal.expr-overflow_add-level-in-Grow-3
expr-overflow_add-level-in-Grow-3 t c = omega (arith, c.requires.fits.levels)

pub expr-column_slot-requires-in-Grow-3 : goal.expr-column_slot-requires-in-Grow-3
expr-column_slot-requires-in-Grow-3 t c = ((over_growth 0 c.deref-in-Grow.ensures c.deref-in-Grow-2.ensures c.requires.fits c.in-Grow.is).are.minima _ refl).0

pub expr-growth-requires : goal.expr-growth-requires
expr-growth-requires t c =
    let known = columns c.args.self.now.earlier.stages.now c.args.self.now.earlier.types.now in
    let over = over_growth _ c.deref-in-Grow.ensures c.deref-in-Grow-2.ensures c.requires.fits c.in-Grow.is in
    let fit = growth_fits c.deref-in-Grow.ensures c.deref-in-Grow-2.ensures c.requires.fits c.in-Grow.is in
    let have = c.in_ok-of-in-Grow.ensures in
    let from = arguments_are
    (slot_at _ _ _ _ _ _ (c.deref-in-Grow-4.ensures ∙ sym c.deref-in-Grow.ensures) (c.column_slot-in-Grow.ensures _) have.has.0)
    (slot_at _ _ _ _ _ _ (c.deref-in-Grow-5.ensures ∙ sym c.deref-in-Grow-2.ensures) (c.column_slot-in-Grow-2.ensures _) have.has.1)
    (ap Some (slot_at known _ _ _ _ _ c.deref-in-Grow-6.ensures (c.column_slot-in-Grow-3.ensures known) (c.in_ok-has-in-Grow.ensures.has ∙ ap (λ x. type_of known (tree_of x)) c.deref-in-Grow-3.ensures))) in
    record {
      from = are_as have.has from over.are;
      minima = refl;
      can = can_as have.has over.can;
      one = ap (λ t. t.shape) have.has.0 ∙ fit.one;
      few = fit.few;
      room = subst (λ a. HasRoom (grow_piece [] c.args.self.now.stage c.args.level c.in_ok-of-in-Grow.of.shape c.in_ok-of-in-Grow.by.shape a c.in-Grow.method c.in-Grow.majority c.in-Grow.cap.value) c.expr-in-Grow.new.code.items) (sym from)
          (node_room over have.has _ _ _ c.requires.room have.blocks (minima_some over refl c.deref-in-Grow-3.ensures _ _ _ refl c.in_ok-has-in-Grow.ensures.blocks));
    }

pub expr-returns-in_ok-has-in-Grow : goal.expr-returns-in_ok-has-in-Grow
expr-returns-in_ok-has-in-Grow t c =
    let known = columns c.args.self.now.earlier.stages.now c.args.self.now.earlier.types.now in
    let over = over_growth _ c.deref-in-Grow.ensures c.deref-in-Grow-2.ensures c.requires.fits c.in-Grow.is in
    let have = c.in_ok-of-in-Grow.ensures in
    let from = arguments_are
    (slot_at _ _ _ _ _ _ (c.deref-in-Grow-4.ensures ∙ sym c.deref-in-Grow.ensures) (c.column_slot-in-Grow.ensures _) have.has.0)
    (slot_at _ _ _ _ _ _ (c.deref-in-Grow-5.ensures ∙ sym c.deref-in-Grow-2.ensures) (c.column_slot-in-Grow-2.ensures _) have.has.1)
    (ap Some (slot_at known _ _ _ _ _ c.deref-in-Grow-6.ensures (c.column_slot-in-Grow-3.ensures known) (c.in_ok-has-in-Grow.ensures.has ∙ ap (λ x. type_of known (tree_of x)) c.deref-in-Grow-3.ensures))) in
    record {
      has = has_both over.over have.has _ c.growth.ensures.has;
      blocks = node_blocks over have.has _ _ _ (fewer _ _ (c.args.self.now.stage + 1) (omega arith)) _ _ _ _ have.blocks (subst (λ a. IfOk c.growth.result (λ x. AreBlocks (HasSoFar [] (c.args.self.now.stage + 1)) (grow_piece [] c.args.self.now.stage c.args.level c.in_ok-of-in-Grow.of.shape c.in_ok-of-in-Grow.by.shape a c.in-Grow.method c.in-Grow.majority c.in-Grow.cap.value) c.expr-in-Grow.new.code.items c.growth.new.code.items)) from c.growth.ensures.blocks)
          (minima_some over refl c.deref-in-Grow-3.ensures _ _ _ refl c.in_ok-has-in-Grow.ensures.blocks);
    }
