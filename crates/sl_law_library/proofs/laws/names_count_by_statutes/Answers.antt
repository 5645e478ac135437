use Rattle.sl_law_library.proofs.Names.{names_count}
use Rattle.sl_law_library.proofs.laws.names_count_by_statutes.Goals as goal

pub returns : goal.returns
returns c = names_count c.books_have_one_verdict.ensures c.texts_have_the_trees.ensures
