use Rattle.std.proofs.Common.{◌≡◌, ℕ, List, Err, drop}
use Rattle.sl_lex.specs.declared.token.Token.{Token}
use Rattle.sl_parse.specs.declared.fault.Cause.{Cause}
use Rattle.sl_parse.specs.declared.fault.Cause.TheVariants.{Expected, TooDeep, TooManyStages, After}
use Rattle.sl_law_meaning.specs.book.Books.{book_of}
use Rattle.sl_parse.specs.Parsing.{fault_at, limits, FaultIsAt, IsFaultOf}
use Rattle.sl_parse.specs.inner.Reading.{read_book}
use Rattle.sl_parse.proofs.OneTree.{within, is_within, same_book, not_stopped}
use Rattle.sl_parse.proofs.Stands.{is_read, is_fault}
use Rattle.sl_parse.proofs.parser.parse_spans.Goals as goal

is_fault_of : (text : List ℕ) (tokens : List Token) (cause : Cause) (at : ℕ) → FaultIsAt text tokens cause at → IsFaultOf text tokens (fault_at cause at)
is_fault_of text tokens Expected at h = h
is_fault_of text tokens TooDeep at h = h
is_fault_of text tokens TooManyStages at h = h
is_fault_of text tokens After at h = h

pub returns-in-Ok-clause-found : goal.returns-in-Ok-clause-found
returns-in-Ok-clause-found c =
    let h = is_read c.args.text.now limits c.args.tokens.now (book_of c.in-Ok.book) c.in-Ok.ensures in
    (h.is, is_within _ h.within)

pub returns-in-Ok-clause-only : goal.returns-in-Ok-clause-only
returns-in-Ok-clause-only c = λ tree h fits. same_book c.args.text.now limits (book_of c.in-Ok.book) tree c.args.tokens.now c.in-Ok.ensures h (within tree.stages fits)

pub returns-in-Err-At-clause-only : goal.returns-in-Err-At-clause-only
returns-in-Err-At-clause-only c = λ tree h fits.
    let stops : read_book c.args.text.now limits c.args.tokens.now ≡ Err (c.in-Err-At.cause, drop c.in-Err-At.at c.args.tokens.now) = rw c.in-Err-At.field-0-is at c.in-Err-At.ensures in
    absurd (not_stopped c.args.text.now limits _ _ tree c.args.tokens.now stops h (within tree.stages fits))

pub returns-in-Err-At-clause-fault : goal.returns-in-Err-At-clause-fault
returns-in-Err-At-clause-fault c =
    let stops : read_book c.args.text.now limits c.args.tokens.now ≡ Err (c.in-Err-At.cause, drop c.in-Err-At.at c.args.tokens.now) = rw c.in-Err-At.field-0-is at c.in-Err-At.ensures in
    rw c.fault_at.ensures (is_fault_of c.args.text.now c.args.tokens.now c.in-Err-At.cause c.offset.result
    (drop c.in-Err-At.at c.args.tokens.now, is_fault c.args.text.now limits c.args.tokens.now _ _ stops, c.offset.ensures))
