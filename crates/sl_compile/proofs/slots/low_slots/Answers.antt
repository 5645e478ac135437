use Rattle.std.proofs.Common.{◌≡◌, suc, ◌+◌, ◌-◌, ◌∷◌, ◌++◌, append_assoc, flat_map, sym, ap, ◌∙◌, arith}
use Rattle.std.proofs.lemmas.List.{map_more, take_all, append-nil}
use Rattle.std.specs.List.{range_with_len}
use Rattle.sl_base_terms.specs.declared.shape.Shape.TheVariants as shape
use Rattle.sl_law_meaning.specs.declared.fact.Fact.{Fact}
use Rattle.sl_law_meaning.specs.declared.fact.TheConstants.{FACTS}
use Rattle.sl_law_meaning.specs.book.Typing.{fact_type}
use Rattle.sl_compile_pieces.specs.declared.slots.TheConstants.{LEVELS}
use Rattle.sl_compile.specs.Codes.{level_shapes}
use Rattle.sl_compile.proofs.slots.low_slots.Goals as goal

pub loop-level-preserved : goal.loop-level-preserved
loop-level-preserved c =
    let level = c.loop-level._level in
    let next : LEVELS - level ≡ suc (LEVELS - (level + 1)) = omega (arith, c.loop-level-test.true) in
    rw c.in_ok-extend_from_slice-2.ensures.items
    (append_assoc c.loop-level.slots.items level_shapes (flat_map (λ n. level_shapes) (range_with_len (level + 1) (LEVELS - (level + 1))))
    ∙ ap (λ n. c.loop-level.slots.items ++ flat_map (λ n. level_shapes) (range_with_len level n)) (sym next) ∙ c.loop-level.invariant)

pub loop-fact-preserved : goal.loop-fact-preserved
loop-fact-preserved c =
    rw (c.in_ok-push.ensures.items, c.loop-fact.invariant, c.column_type.ensures)
    (ap (λ xs. shape.Party ∷ xs) (sym (map_more (λ (told : Fact). (fact_type told).shape) FACTS c.loop-fact.fact-index _ c.loop-fact-test.true)))

pub loop-level-init : goal.loop-level-init
loop-level-init c =
    rw (c.in_ok-extend_from_slice.ensures.items, c.loop-fact.invariant, take_all c.loop-fact.fact-index FACTS c.loop-fact-test.false)

pub returns : goal.returns
returns c =
    let none : LEVELS - c.loop-level._level ≡ 0 = omega arith in
    sym (append-nil c.loop-level.slots.items) ∙ (rw none at c.loop-level.invariant)
