use Rattle.std.proofs.Common.{arith}
use Rattle.sl_law_meaning.specs.book.Books.{book_of}
use Rattle.sl_blocks.specs.inner.Few.{few_of}
use Rattle.sl_compile.proofs.Walks.{few_stages}
use Rattle.sl_compile.proofs.Wholes.{passes}
use Rattle.sl_compile.proofs.Books.{book_facts_room, book_stages_room, book_last_room, book_base_tests, book_stands}
use Rattle.sl_compile.proofs.compiler.lay_book.Goals as goal

pub lay_facts-requires-clause-room : goal.lay_facts-requires-clause-room
lay_facts-requires-clause-room c = book_facts_room (few_of c.args.few.now) c.args.book.now c.requires.can c.args.code.now.items c.requires.empty

pub lay_stages-requires-clause-typed : goal.lay_stages-requires-clause-typed
lay_stages-requires-clause-typed c = rw c.deref.ensures.value (passes (book_of c.args.book.now) c.requires.can.typed).stages

pub lay_stages-requires-clause-room : goal.lay_stages-requires-clause-room
lay_stages-requires-clause-room c =
    rw c.deref.ensures.value (book_stages_room (few_of c.args.few.now) c.args.book.now c.requires.can c.args.code.now.items c.lay_facts.new.code.items c.requires.empty
    c.in_ok-lay_facts.ensures)

pub lay_last-requires-clause-room : goal.lay_last-requires-clause-room
lay_last-requires-clause-room c =
    book_last_room (few_of c.args.few.now) c.args.book.now c.requires.can c.args.code.now.items c.lay_facts.new.code.items c.requires.empty c.in_ok-lay_facts.ensures
    c.lay_stages.new.code.items c.deref.result.now c.deref-2.result.now c.in_ok-types.types c.deref.ensures.value c.deref-2.ensures.value c.in_ok-types.ensures.blocks
    c.in_ok-types.ensures.have

pub lay_last-requires-clause-typed : goal.lay_last-requires-clause-typed
lay_last-requires-clause-typed c =
    book_base_tests (few_of c.args.few.now) c.args.book.now c.requires.can c.args.code.now.items c.lay_facts.new.code.items c.requires.empty c.in_ok-lay_facts.ensures
    c.lay_stages.new.code.items c.deref.result.now c.deref-2.result.now c.in_ok-types.types c.deref.ensures.value c.deref-2.ensures.value c.in_ok-types.ensures.blocks
    c.in_ok-types.ensures.have

pub returns-clause-blocks : goal.returns-clause-blocks
returns-clause-blocks c =
    book_stands (few_of c.args.few.now) c.args.book.now c.requires.can c.args.code.now.items c.lay_facts.new.code.items c.requires.empty c.in_ok-lay_facts.ensures
    c.lay_stages.new.code.items c.deref.result.now c.deref-2.result.now c.in_ok-types.types c.deref.ensures.value c.deref-2.ensures.value c.in_ok-types.ensures.blocks
    c.in_ok-types.ensures.have c.lay_last.new.code.items c.push.new.self.items c.halting.result c.in_ok-lay_last.ensures c.halting.ensures c.in_ok-push.ensures.items

pub invariant_of-earlier : goal.invariant_of-earlier
invariant_of-earlier c =
    let few = few_stages c.args.book.now.stages.items c.requires.can.limits in
    record { paired = omega (arith, few, c.args.book.now.stages.ok.0); few = omega (arith, few, c.args.book.now.stages.ok.0) }
