-- What the parser's own types stand for.
use Rattle.sl_parse.specs.declared.expr.Division.{Division}
use Rattle.sl_parse.specs.declared.head.Head.{Head}
use Rattle.sl_law_meaning.specs.book.Trees.{tree_of}
use Rattle.sl_parse.specs.Grammar.{HeadTree}
use Rattle.sl_parse.specs.inner.Reading.{DivisionTree}

abbrev pub head_tree : Head → HeadTree
head_tree h = record { version = h.version; law = h.law.items; house = h.house; eligible = h.eligible.items }

abbrev pub division_tree : Division → DivisionTree
division_tree d = (tree_of d.seats.value, tree_of d.votes.value, d.method)
