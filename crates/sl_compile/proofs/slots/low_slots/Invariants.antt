-- The shapes so far are appended, and those of the levels to come make all of them.
use Rattle.std.proofs.Common.{◌≡◌, ◌-◌, ◌∷◌, ◌++◌, map, take, flat_map}
use Rattle.std.specs.List.{range_with_len}
use Rattle.sl_base_terms.specs.declared.shape.Shape.TheVariants as shape
use Rattle.sl_law_meaning.specs.declared.fact.TheConstants.{FACTS}
use Rattle.sl_law_meaning.specs.book.Typing.{fact_type}
use Rattle.sl_compile_pieces.specs.declared.slots.TheConstants.{LEVELS}
use Rattle.sl_compile.specs.Codes.{level_shapes}
use Rattle.sl_compile.specs.inner.Slots.{low_shapes}
use Rattle.sl_compile.proofs.slots.low_slots.Given as goal

abbrev pub invariant-loop-fact : goal.invariant-loop-fact
invariant-loop-fact l = l.slots.items ≡ shape.Party ∷ map (λ told. (fact_type told).shape) (take l.fact-index FACTS)

abbrev pub invariant-loop-level : goal.invariant-loop-level
invariant-loop-level l = l.slots.items ++ flat_map (λ level. level_shapes) (range_with_len l._level (LEVELS - l._level)) ≡ low_shapes
