use Rattle.sl_law_library.proofs.Texts.{texts_have_the_trees}
use Rattle.sl_law_library.proofs.laws.texts_have_the_trees.Goals as goal

pub returns : goal.returns
returns c = texts_have_the_trees
