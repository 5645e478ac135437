-- The order of entries: by quotient, then the smaller index as the greater, then by the parts of the ratio (docs/methods.md, section 1).
use Rattle.std.specs.Prelude.{nat_eq, if◌then◌else◌}
use Rattle.std.specs.declared.cmp.Ordering.{Ordering}
use Rattle.std.specs.Ordering.{nat_cmp, on, flip_args, then_cmp}
use Rattle.sl_base_quotients.specs.Quotient.{Quotient, compare}
use Rattle.sl_base_quotients.specs.declared.entry.Entry.{Entry}

-- a quotient as the order reads it. No ratio has numerator 0: there a pair of numbers counts as 0/1, so that this is an order of all pairs
abbrev pub as_ordered : Quotient → Quotient
as_ordered q = record { num = q.num; den = if nat_eq q.num 0 then 1 else q.den }

abbrev pub quotient_cmp : Quotient → Quotient → Ordering
quotient_cmp = on as_ordered compare

abbrev pub entry_cmp : Entry → Entry → Ordering
entry_cmp =
    then_cmp (then_cmp (then_cmp
    (on (λ e. e.ratio) quotient_cmp)
    (flip_args (on (λ e. e.index) nat_cmp)))
    (on (λ e. e.ratio.num) nat_cmp))
    (on (λ e. e.ratio.den) nat_cmp)
