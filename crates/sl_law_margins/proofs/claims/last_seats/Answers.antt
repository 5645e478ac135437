use Rattle.std.proofs.Common.{◌≡◌, ℕ, ◌+◌, [], ◌∷◌, ◌++◌, sym, ap, subst, arith, ◌∙◌, Vec, Global}
use Rattle.std.proofs.lemmas.Bool.{true≢false}
use Rattle.sl_base_quotients.specs.Bounds.{IsLast}
use Rattle.sl_law_meaning.proofs.methods.DivisorProofs.{in_range}
use Rattle.sl_law_margins.proofs.Claimants.{ListsBelow, listed_more, listed_skipped, all_listed, last_iff}
use Rattle.sl_law_margins.proofs.claims.last_seats.Goals as goal
use Rattle.sl_law_margins.proofs.claims.last_seats.Goals.{then-is_last+in_ok-push, else-is_last}

pub loop-entry-preserved : goal.loop-entry-preserved
loop-entry-preserved c =
    let m = c.args.method in
    let v = c.args.weights.now in
    let s = c.args.seats.now in
    let n = c.loop-entry.entry in
    let iff = last_iff m v s c.in-Some.least c.in-Some.ensures n in
    elim c.if-is_last.branch [
      | then-is_last+in_ok-push w ↦
          (let grown : c.if-is_last.entries.items ≡ c.loop-entry.entries.items ++ n ∷ [] =
          ap (λ (x : Vec ℕ Global). x.items) w.entries-is ∙ w.in_ok-push.ensures.items in
          subst (ListsBelow (IsLast m v s) (n + 1)) (sym grown)
          (listed_more (IsLast m v s) n c.loop-entry.entries.items (iff.0 (c.is_last.ensures.0 w.if-is_last.true)) c.loop-entry.invariant))
      | else-is_last w ↦
          subst (ListsBelow (IsLast m v s) (n + 1)) (sym (ap (λ (x : Vec ℕ Global). x.items) w.entries-is))
          (listed_skipped (IsLast m v s) n c.loop-entry.entries.items (λ p. true≢false (sym (c.is_last.ensures.1 (iff.1 p)) ∙ w.if-is_last.false)) c.loop-entry.invariant)
    ]

pub returns : goal.returns
returns c =
    let past = c.loop-entry-test.false in
    all_listed (IsLast c.args.method c.args.weights.now c.args.seats.now) c.loop-entry.entry c.loop-entry.entries.items
    (λ i p. let w = p.weight in let l = in_range c.args.weights.now i w in omega (arith, l, past)) c.loop-entry.invariant
