-- One more of the code's instructions.
use Rattle.std.proofs.Common.{◌≡◌, ◌<◌, ◌≤◌, ◌+◌, ℕ, suc, List, [], ◌∷◌, ◌++◌, length, get_or, take, sym, ap, ◌∙◌, arith}
use Rattle.std.proofs.lemmas.List.{length-append, take_all}
use Rattle.sl_code_instructions.specs.declared.instr.Instr.{Instr}
use Rattle.sl_code_instructions.specs.declared.instr.Instr.TheVariants.{Set}
use Rattle.sl_machine.specs.declared.way.Standing.{Standing}
use Rattle.sl_machine.specs.inner.Ways.{standing_from, standing_before}
use Rattle.sl_machine.proofs.runs.Ways.{standing_next, numbers_on}
use Rattle.sl_machine.proofs.way.Way.of.Goals as goal

pub loop-place-preserved : goal.loop-place-preserved
loop-place-preserved g c =
    let k = g.R.Recording.records in
    let code = c.args.code.now in
    let instrs = c.instrs-instrs.result.now in
    let seen : instrs ≡ code.instrs = c.instrs-instrs.ensures.instrs in
    let i = c.loop-place.place in
    let old = c.loop-place.before.items in
    let number = c.len.result in
    let inv = c.loop-place.invariant in
    let there : i < length instrs = c.loop-place-test.true in
    let added : c.push.new.self.items ≡ old ++ (number ∷ []) = c.in_ok-push.ensures.items in
    let next : suc i ≡ i + 1 = omega arith in
    let found : number ≡ length c.loop-place.standing.items = omega (arith, c.len.ensures) in
    let stand : number ≡ standing_before k code (length old) =
    found ∙ ap length inv.standing ∙ ap (λ (is : List Instr). length (standing_from k 0 (take i is))) seen ∙ ap (standing_before k code) (sym inv.counted) in
    record {
      standing = c.in_ok-add.ensures ∙ ap (λ (xs : List Standing). xs ++ standing_from k i (get_or instrs i (Set 0 0) ∷ [])) inv.standing
          ∙ sym (standing_next k instrs i (Set 0 0) there) ∙ ap (λ (n : ℕ). standing_from k 0 (take n instrs)) next;
      counted = omega (arith, ap length added, length-append old (number ∷ []), inv.counted);
      before = λ p within. ap (λ (xs : List ℕ). get_or xs p 0) added
          ∙ numbers_on (standing_before k code) old number (λ q less. inv.before q (omega (arith, less, inv.counted))) stand p (omega (arith, within, inv.counted));
    }

pub returns : goal.returns
returns g c =
    let k = g.R.Recording.records in
    let instrs = c.instrs-instrs.result.now in
    let seen : instrs ≡ c.args.code.now.instrs = c.instrs-instrs.ensures.instrs in
    let past : length instrs ≤ c.loop-place.place = c.loop-place-test.false in
    let inv = c.loop-place.invariant in
    let long = ap (λ (is : List Instr). length is) seen in
    record {
      standing = inv.standing ∙ ap (standing_from k 0) (take_all c.loop-place.place instrs past ∙ seen);
      counted = omega (arith, inv.counted, long, past, c.loop-place.auto.place-end);
      before = λ p within. inv.before p (omega (arith, within, long, past));
    }
