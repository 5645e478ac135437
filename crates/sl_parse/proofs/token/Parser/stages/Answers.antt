use Rattle.std.proofs.Common.{◌≡◌, ◌+◌, ◌++◌, ◌∷◌, [], map, drop, vec_len, sym, arith}
use Rattle.std.proofs.lemmas.Result.{err_from_is_err_and}
use Rattle.std.proofs.lemmas.List.{map_push}
use Rattle.sl_law_meaning.specs.book.Trees.{stage_of}
use Rattle.sl_parse.specs.Parsing.{limits}
use Rattle.sl_parse.proofs.Loop.{goes_on, stops_in, stops_full, is_done}
use Rattle.sl_parse.proofs.OneTree.{read_within}
use Rattle.sl_parse.proofs.token.Parser.stages.Goals as goal

pub each-preserved : goal.each-preserved
each-preserved c =
    let all = c.args.self.now.tokens.now in
    let s = c.in_ok-stage.stage in
    let e : map stage_of c.push.new.self.items ≡ map stage_of c.each.stages.items ++ stage_of s ∷ [] = rw c.in_ok-push.ensures.items (map_push _ c.each.stages.items s) in
    let n : vec_len c.push.new.self ≡ vec_len c.each.stages + 1 = c.in_ok-push.ensures.len in
    record {
      few = omega arith;
      so_far = rw (e, n) (goes_on c.args.self.now.text.now limits all limits.stages (vec_len c.each.stages) (map stage_of c.each.stages.items) (drop c.each.at all) _ (stage_of s) (drop c.in_ok-stage.next all)
          c.each.invariant.few (omega arith) (sym c.each-test.ensures) c.in_ok-stage.ensures c.each.invariant.so_far);
    }

pub returns-clause-gives : goal.returns-clause-gives
returns-clause-gives c = let all = c.args.self.now.tokens.now in
    is_done c.args.self.now.text.now limits all limits.stages (vec_len c.each.stages) (map stage_of c.each.stages.items) (drop c.each.at all) _ (sym c.each-test.ensures) c.each.invariant.so_far

pub returns-clause-within : goal.returns-clause-within
returns-clause-within c = let all = c.args.self.now.tokens.now in
    read_within c.args.self.now.text.now (drop c.args.at all) (drop c.each.at all) (map stage_of c.each.stages.items)
    (is_done c.args.self.now.text.now limits all limits.stages (vec_len c.each.stages) (map stage_of c.each.stages.items) (drop c.each.at all) _ (sym c.each-test.ensures) c.each.invariant.so_far)

pub returns-in_err-stage-clause-gives : goal.returns-in_err-stage-clause-gives
returns-in_err-stage-clause-gives c =
    let all = c.args.self.now.tokens.now in
    let p = err_from_is_err_and c.from_residual.result c.from_residual.ensures.1 in
    rw (p.1, p.2) (stops_in c.args.self.now.text.now limits all limits.stages (vec_len c.each.stages) (map stage_of c.each.stages.items) (drop c.each.at all) _ c.in_err-stage.field-0.0
    c.each.invariant.few (omega arith) (sym c.each-test.ensures) c.in_err-stage.ensures c.each.invariant.so_far)

pub returns-then-len-eq-MAX_STAGES-clause-gives : goal.returns-then-len-eq-MAX_STAGES-clause-gives
returns-then-len-eq-MAX_STAGES-clause-gives c = let all = c.args.self.now.tokens.now in
    stops_full c.args.self.now.text.now limits all limits.stages (vec_len c.each.stages) (map stage_of c.each.stages.items) (drop c.each.at all) _ (omega arith) (sym c.each-test.ensures) c.each.invariant.so_far
