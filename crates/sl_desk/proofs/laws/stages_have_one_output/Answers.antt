use Rattle.sl_desk.proofs.OneOutput.{one_stage}
use Rattle.sl_desk.proofs.laws.stages_have_one_output.Goals as goal

pub returns : goal.returns
returns c = one_stage (record {
  one_list = c.one_list.ensures;
  one_lex_fault = c.one_fault.ensures;
  no_fault_of_tokens = c.no_fault_of_tokens.ensures;
  one_tree = c.one_tree.ensures;
  one_parse_fault = c.one_fault-2.ensures;
  tree_or_fault = c.no_fault_of_a_book.ensures;
})
