use Rattle.std.proofs.Common.{◌≡◌, ◌∙◌, List, map, sym, ap, arith}
use Rattle.std.proofs.lemmas.List.{length-take-le}
use Rattle.sl_law_meaning.specs.declared.book.Stage.{Stage}
use Rattle.sl_law_meaning.specs.book.Books.{book_of}
use Rattle.sl_law_meaning.specs.book.Trees.{stage_of}
use Rattle.sl_blocks.specs.inner.Few.{few_of}
use Rattle.sl_compile.specs.Codes.{code_stages, book_code}
use Rattle.sl_compile.specs.Laws.{CanCompile}
use Rattle.sl_compile.proofs.Walks.{few_stages}
use Rattle.sl_compile.proofs.Wholes.{passes}
use Rattle.sl_compile.proofs.Books.{book_can, code_is, code_proper}
use Rattle.sl_compile.proofs.compiler.code_of.Goals.{In_ok-stages}
use Rattle.sl_compile.proofs.compiler.code_of.Goals as goal

pub easiest-few-requires : goal.easiest-few-requires
easiest-few-requires c = rw c.deref.ensures.value (passes (book_of c.args.book.now) c.requires).conditions

can : (c : In_ok-stages) → CanCompile (few_of c.easiest-few.result) (book_of c.args.book.now)
can c = book_can c.args.book.now (few_of c.easiest-few.result) c.deref.result.now c.requires c.deref.ensures.value c.easiest-few.ensures.same

named : (c : In_ok-stages) → c.in_ok-stages.stages.items ≡ code_stages 0 (map stage_of c.args.book.now.stages.items)
named c = c.in_ok-stages.ensures.named ∙ ap (λ (ss : List Stage). code_stages 0 (map stage_of ss)) c.deref-3.ensures.value

is : (c : In_ok-stages) →
    record { instrs = c.lay_book.new.code.items; stages = c.in_ok-stages.stages.items; slots = c.add_columns.new.slots.items } ≡ book_code (book_of c.args.book.now) c.lay_book.new.code.items
is c =
    code_is (few_of c.easiest-few.result) c.args.book.now c.lay_book.new.code.items c.in_ok-stages.stages.items c.in_ok-slots.slots.items c.add_columns.new.slots.items
    c.in_ok-types.types c.len.result (can c)
    (named c) (omega arith) (c.len.ensures ∙ c.args.book.now.stages.ok.0)
    c.in_ok-slots.ensures c.in_ok-types.ensures.have c.in_ok-add_columns.ensures

pub new-requires : goal.new-requires
new-requires c =
    code_proper (few_of c.easiest-few.result) c.args.book.now c.lay_book.new.code.items _ c.in_ok-stages.stages.items (can c) c.in_ok-types.ensures.blocks (named c) c.in_ok-stages.ensures.words (is c)

pub returns : goal.returns
returns c =
    let here = (goal.at.returns c).In_ok-stages in
    record { few = few_of c.easiest-few.result; same = (can here).same; instrs = c.lay_book.new.code.items; are = here.in_ok-types.ensures.blocks; is = c.new.ensures ∙ is here }

pub slice_bounds-types-end : goal.slice_bounds-types-end
slice_bounds-types-end c = omega (arith, few_stages c.args.book.now.stages.items c.args.book.now.within_limits, c.len.ensures, c.args.book.now.stages.ok.0)

pub slice_bounds-add_columns-end : goal.slice_bounds-add_columns-end
slice_bounds-add_columns-end c =
    let few = few_stages c.args.book.now.stages.items c.args.book.now.within_limits in
    sym (length-take-le c.len.result c.in_ok-types.types (omega (arith, few, c.len.ensures, c.args.book.now.stages.ok.0)))

pub code_stages-requires : goal.code_stages-requires
code_stages-requires c = rw c.deref-3.ensures.value (few_stages c.args.book.now.stages.items c.args.book.now.within_limits)
