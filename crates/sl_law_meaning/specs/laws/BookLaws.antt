-- Laws of rulebooks (docs/language.md, sections 3 and 5). Each is the contract of a function of `laws::book`.
use Rattle.std.specs.Prelude.{◌≡◌, ◌↔◌, List, None}
use Rattle.sl_law_meaning.specs.declared.book.ColumnType.{ColumnType}
use Rattle.sl_law_meaning.specs.book.Trees.{ExprTree}
use Rattle.sl_base_terms.specs.Tests.{first_failing}
use Rattle.sl_law_meaning.specs.book.Typing.{Column, expr_tests, type_of}
use Rattle.sl_law_meaning.specs.book.HasType.{HasType}

-- an expression has a type exactly where all its tests hold, and it is the type that the checker finds
abbrev pub TypesByTests : Type 0
TypesByTests =
    (cs : List Column) (e : ExprTree) (t : ColumnType) → HasType cs e t ↔ ((first_failing (expr_tests cs e) ≡ None) × (type_of cs e ≡ t))
