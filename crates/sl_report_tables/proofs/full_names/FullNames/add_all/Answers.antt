-- The records of the text, each a pair of names as it is read.
use Rattle.std.proofs.Common.{Bor, List, ℕ, ◌++◌, ◌∷◌, ◌∙◌, [], Some, ap, append_assoc, arith, inl, refl, sym}
use Rattle.std.proofs.lemmas.List.{length-append}
use Rattle.csv.specs.Reading.{strip_bom}
use Rattle.csv.specs.Records.{fields_of}
use Rattle.sl_returns.proofs.Reading.{given_all, given_first, given_more, given_none, only_stops}
use Rattle.sl_report_tables.proofs.PairsOfNames.{all_pairs, first_wrong, none_wrong}
use Rattle.sl_report_tables.proofs.full_names.FullNames.add_all.Goals as goal

pub loop-row-init : goal.loop-row-init
loop-row-init c =
    let from = c.reader_of-reader.ensures in
    record {
      rows = [];
      given = given_none (λ s. Some s.now) c.reader_of-reader.result (strip_bom c.args.bytes.now) from.trims from.ready from.config from.flexible from.source from.state;
      pairs = refl;
      number = refl;
    }

pub loop-row-preserved : goal.loop-row-preserved
loop-row-preserved c =
    let inv = c.loop-row.invariant in
    let step = c.in-Ok-true.ensures in
    let read = rw c.in-Ok-true.field-0-test at (step.reads inv.given.trims inv.given.ready) in
    let fields = fields_of c.read_byte_record.new.row in
    record {
      rows = inv.rows ++ fields ∷ [];
      given = given_more (λ s. Some s.now) c.loop-row.reader c.read_byte_record.new.self inv.rows fields (strip_bom c.args.bytes.now) inv.given (inl (step.ready inv.given.trims)) step.flexible read;
      pairs = all_pairs inv.rows fields inv.pairs (sym c.in_ok-add-in-Ok-true.ensures ∙ c.if-not-branch.false);
      number = let n = inv.number in let more = length-append inv.rows (fields ∷ []) in omega (arith, n, more);
    }

pub returns-then-not-branch : goal.returns-then-not-branch
returns-then-not-branch c =
    let inv = c.loop-row.invariant in
    let step = c.in-Ok-true.ensures in
    let read = rw c.in-Ok-true.field-0-test at (step.reads inv.given.trims inv.given.ready) in
    let fields = fields_of c.read_byte_record.new.row in
    let text = strip_bom c.args.bytes.now in
    let given = given_more (λ (s : Bor (List ℕ)). Some s.now) c.loop-row.reader c.read_byte_record.new.self inv.rows fields text inv.given (inl (step.ready inv.given.trims)) step.flexible read in
    let (more, all) = given_first (λ (s : Bor (List ℕ)). Some s.now) c.read_byte_record.new.self (inv.rows ++ fields ∷ []) text given in
    ap Some inv.number
    ∙ sym (first_wrong c.args.bytes.now inv.rows fields more (all ∙ append_assoc inv.rows (fields ∷ []) more) inv.pairs (sym c.in_ok-add-in-Ok-true.ensures ∙ c.if-not-branch.true))

pub returns-in-Ok-false : goal.returns-in-Ok-false
returns-in-Ok-false c =
    let inv = c.loop-row.invariant in
    let read = rw c.in-Ok-false.field-0-test at (c.in-Ok-false.ensures.reads inv.given.trims inv.given.ready) in
    let all = given_all (λ (s : Bor (List ℕ)). Some s.now) c.loop-row.reader c.read_byte_record.new.self inv.rows (fields_of c.read_byte_record.new.row) (strip_bom c.args.bytes.now) inv.given read in
    sym (none_wrong c.args.bytes.now inv.rows all inv.pairs)

pub stopped-requires : goal.stopped-requires
stopped-requires c =
    let inv = c.loop-row.invariant in
    only_stops (λ (s : Bor (List ℕ)). Some s.now) c.loop-row.reader c.read_byte_record.new.self c.in-Err.error.kind inv.given.flexible (c.in-Err.ensures.why inv.given.ready)
