use Rattle.std.proofs.Common.{Bor, List, None, Some, [], ap, map, subst, sym, take, ◌∙◌, ◌≡◌, ℕ}
use Rattle.std.proofs.lemmas.List.{append-nil, map_more}
use Rattle.sl_terminal_commands.proofs.Columns.{methods_next}
use Rattle.sl_terminal_commands.proofs.varied.methods_of.Goals as goal
use Rattle.sl_terminal_commands.proofs.varied.methods_of.Goals.{in-Some+in_ok-push, in_default}
use Rattle.sl_terminal_commands.specs.Comparisons.{methods_written}

pub loop-word-preserved : goal.loop-word-preserved
loop-word-preserved c =
    let given = λ (w : Bor (List ℕ)). w.now in
    let words = c.args.words.now in
    let i = c.loop-word.word-index in
    let before = map given (take i words) in
    let old = c.loop-word.methods.items in
    let new = c.match-method_of.methods.items in
    let one = map_more given words i record { ref_ptr = (0, 0); now = [] } c.loop-word-test.true in
    subst (λ ws. new ≡ methods_written ws) (sym one)
    (
    elim c.match-method_of.branch [
      | in-Some+in_ok-push w ↦ methods_next before _ old new (Some w.in-Some.method) (sym w.in-Some.is ∙ c.method_of.ensures) c.loop-word.invariant
          (ap (λ m. m.items) w.methods-is ∙ w.in_ok-push.ensures.items)
      | in_default w ↦ methods_next before _ old new None (sym w.in_default.is ∙ c.method_of.ensures) c.loop-word.invariant
          (ap (λ m. m.items) w.methods-is ∙ sym (append-nil old))
    ]
    )
