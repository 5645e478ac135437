use Rattle.sl_desk.proofs.OneVerdict.{one_book_verdict}
use Rattle.sl_desk.proofs.laws.books_have_one_verdict.Goals as goal

pub returns : goal.returns
returns c = one_book_verdict
    (record {
      one_list = c.one_list.ensures;
      one_lex_fault = c.one_fault.ensures;
      no_fault_of_tokens = c.no_fault_of_tokens.ensures;
      one_tree = c.one_tree.ensures;
      one_parse_fault = c.one_fault-2.ensures;
      tree_or_fault = c.no_fault_of_a_book.ensures;
    })
    (record { tokens_or_fault = c.tokens_or_fault.ensures; book_or_fault = c.book_or_fault.ensures })
