use Rattle.std.proofs.Common.{◌≡◌, ◌∷◌, [], drop, refl, sym, arith}
use Rattle.std.proofs.lemmas.Result.{err_from_is_err_and}
use Rattle.sl_parse.proofs.ReadsBook.{taken-shorter, read_condition-shorter}
use Rattle.sl_parse.proofs.Loop.{first_read, first_stops, or_goes_on, or_stops, condition_stops, or_is_done}
use Rattle.sl_parse.proofs.token.Parser.conditions.Goals as goal

pub returns-in_err-first : goal.returns-in_err-first
returns-in_err-first c =
    let p = err_from_is_err_and c.from_residual.result c.from_residual.ensures.1 in
    rw (p.1, p.2) (first_stops c.args.self.now.tokens.now c.in_err-first.field-0.0 (drop c.args.at c.args.self.now.tokens.now) c.in_err-first.ensures)

pub each-init : goal.each-init
each-init c =
    let all = c.args.self.now.tokens.now in
    let e : c.push.new.self.items ≡ c.in_ok-first.first ∷ [] = rw (c.in_ok-push.ensures.items, c.new-conditions.ensures.items) refl in
    rw e (first_read (drop c.args.at all) (drop c.in_ok-first.at all) c.in_ok-first.first c.in_ok-first.ensures)

pub returns-in_err-next : goal.returns-in_err-next
returns-in_err-next c =
    let all = c.args.self.now.tokens.now in
    let p = err_from_is_err_and c.from_residual-in_err-next.result c.from_residual-in_err-next.ensures.1 in
    rw (p.1, p.2) (or_stops all c.each.conditions.items (drop c.each.at all) _ c.in_err-next.field-0.0 (sym c.each-test.ensures) c.in_err-next.ensures c.each.invariant)

pub returns-in_err-condition : goal.returns-in_err-condition
returns-in_err-condition c =
    let all = c.args.self.now.tokens.now in
    let p = err_from_is_err_and c.from_residual-in_err-condition.result c.from_residual-in_err-condition.ensures.1 in
    rw (p.1, p.2) (condition_stops all c.each.conditions.items (drop c.each.at all) _ c.in_err-condition.field-0.0 (drop c.in_ok-next.next all) (sym c.each-test.ensures) c.in_ok-next.ensures c.in_err-condition.ensures c.each.invariant)

pub each-smaller : goal.each-smaller
each-smaller c =
    let all = c.args.self.now.tokens.now in
    omega (arith, taken-shorter _ (drop c.each.at all) (drop c.in_ok-next.next all) c.in_ok-next.ensures, read_condition-shorter (drop c.in_ok-next.next all) c.in_ok-condition.condition (drop c.in_ok-condition.next all) c.in_ok-condition.ensures)

pub each-preserved : goal.each-preserved
each-preserved c =
    let all = c.args.self.now.tokens.now in
    rw c.in_ok-push-2.ensures.items (or_goes_on all c.each.conditions.items (drop c.each.at all) _ (drop c.in_ok-next.next all) (drop c.in_ok-condition.next all) c.in_ok-condition.condition
    (sym c.each-test.ensures) c.in_ok-next.ensures c.in_ok-condition.ensures c.each.invariant)

pub returns : goal.returns
returns c = let all = c.args.self.now.tokens.now in or_is_done all c.each.conditions.items (drop c.each.at all) _ (sym c.each-test.ensures) c.each.invariant
