-- The records of the text, each taken or kept as it is read.
use Rattle.std.proofs.Common.{Bor, List, ℕ, ◌++◌, ◌∷◌, [], Some, inl}
use Rattle.csv.specs.Reading.{strip_bom}
use Rattle.csv.specs.Records.{fields_of}
use Rattle.sl_returns.proofs.Reading.{given_all, given_first, given_more, given_none, only_stops}
use Rattle.sl_returns.proofs.Sifting.{all_sifted, sifted_none}
use Rattle.sl_returns.proofs.sieve.sift_all.Goals as goal

pub loop-init : goal.loop-init
loop-init c =
    let from = c.reader_of-reader.ensures in
    record {
      rows = [];
      given = given_none (λ s. Some s.now) c.reader_of-reader.result (strip_bom c.args.bytes.now) from.trims from.ready from.config from.flexible from.source from.state;
      goes = (sifted_none c.args.builder.now c.requires.builder, c.requires.refusals);
    }

pub loop-preserved : goal.loop-preserved
loop-preserved c =
    let inv = c.loop.invariant in
    let step = c.in-Ok-true.ensures in
    let read = rw c.in-Ok-true.field-0-test at (step.reads inv.given.trims inv.given.ready) in
    let fields = fields_of c.read_byte_record.new.row in
    record {
      rows = inv.rows ++ fields ∷ [];
      given = given_more (λ s. Some s.now) c.loop.reader c.read_byte_record.new.self inv.rows fields (strip_bom c.args.bytes.now) inv.given (inl (step.ready inv.given.trims)) step.flexible read;
      goes = c.in_ok-sift-in-Ok-true.ensures.goes inv.rows inv.goes c.if-not-branch.false;
    }

-- after a first record that is no header, no other counts
pub returns-then-not-branch : goal.returns-then-not-branch
returns-then-not-branch c =
    let inv = c.loop.invariant in
    let step = c.in-Ok-true.ensures in
    let read = rw c.in-Ok-true.field-0-test at (step.reads inv.given.trims inv.given.ready) in
    let fields = fields_of c.read_byte_record.new.row in
    let given = given_more (λ (s : Bor (List ℕ)). Some s.now) c.loop.reader c.read_byte_record.new.self inv.rows fields (strip_bom c.args.bytes.now) inv.given (inl (step.ready inv.given.trims)) step.flexible read in
    let (more, all) = given_first (λ (s : Bor (List ℕ)). Some s.now) c.read_byte_record.new.self (inv.rows ++ fields ∷ []) (strip_bom c.args.bytes.now) given in
    rw all (c.in_ok-sift-in-Ok-true.ensures.ends inv.rows inv.goes c.if-not-branch.true more)

-- at the end of the text these are all its records
pub returns-in-Ok-false : goal.returns-in-Ok-false
returns-in-Ok-false c =
    let inv = c.loop.invariant in
    let read = rw c.in-Ok-false.field-0-test at (c.in-Ok-false.ensures.reads inv.given.trims inv.given.ready) in
    let all = given_all (λ (s : Bor (List ℕ)). Some s.now) c.loop.reader c.read_byte_record.new.self inv.rows (fields_of c.read_byte_record.new.row) (strip_bom c.args.bytes.now) inv.given read in
    rw all (all_sifted c.loop.builder c.loop.refusals inv.rows inv.goes.0 inv.goes.1)

pub stopped-requires : goal.stopped-requires
stopped-requires c =
    let inv = c.loop.invariant in
    only_stops (λ (s : Bor (List ℕ)). Some s.now) c.loop.reader c.read_byte_record.new.self c.in-Err.error.kind inv.given.flexible (c.in-Err.ensures.why inv.given.ready)
