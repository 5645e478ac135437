use Rattle.std.proofs.Common.{◌≡◌, ◌≤◌, ◌*◌, sum_by, take}
use Rattle.sl_count_texts.proofs.short_form.seats_of_lists.Given as goal

abbrev pub invariant-loop-list : goal.invariant-loop-list
invariant-loop-list l =
    (l.seats ≡ sum_by (λ x. x.seats) (take l.list-index l.lists)) × (l.seats ≤ l.list-index * 18446744073709551615)
