-- What a plan costs, as numbers: so many steps, so many for each party, for each Land, for each pair of both, and the same for each winner.
use Rattle.std.specs.Prelude.{ℕ, ◌+◌, ◌*◌, Bool, true, ◌==◌, ◌&&◌, nat_lt, length}
use Rattle.sl_base_quotients.specs.declared.limits.TheConstants.{MAX_SEATS}
use Rattle.sl_code_semantics.specs.declared.budget.TheConstants.{STEPS_EACH}
use Rattle.sl_compile_plans.specs.declared.plan.Cursor.{Cursor}
use Rattle.sl_compile_plans.specs.declared.plan.Cursor.TheVariants as cursor
use Rattle.sl_compile_plans.specs.declared.plan.Bound.{Bound}
use Rattle.sl_compile_plans.specs.declared.plan.Bound.TheVariants as bound
use Rattle.sl_compile_plans.specs.Trees.{Tree, Line, Stop, Then, If, Each, Times}

pub record Rate : Type 0 where
  pub fixed : ℕ
  pub by_party : ℕ
  pub by_land : ℕ
  pub by_list : ℕ

pub record Price : Type 0 where
  pub plain : Rate
  pub by_win : Rate

-- how many steps that is, with so many parties, Länder and winners
abbrev pub rate_at : ℕ → ℕ → Rate → ℕ
rate_at parties lands r = r.fixed + r.by_party * parties + r.by_land * lands + r.by_list * (lands * parties)

abbrev pub price_at : ℕ → ℕ → ℕ → Price → ℕ
price_at parties lands wins q = rate_at parties lands q.plain + rate_at parties lands q.by_win * wins

-- ---- sums and multiples

abbrev pub nothing : Rate
nothing = record { fixed = 0; by_party = 0; by_land = 0; by_list = 0 }

abbrev pub both_rates : Rate → Rate → Rate
both_rates a b = record { fixed = a.fixed + b.fixed; by_party = a.by_party + b.by_party; by_land = a.by_land + b.by_land; by_list = a.by_list + b.by_list }

abbrev pub both_prices : Price → Price → Price
both_prices a b = record { plain = both_rates a.plain b.plain; by_win = both_rates a.by_win b.by_win }

-- so many steps more
abbrev pub and_steps : ℕ → Price → Price
and_steps n q = record q { plain = record (q.plain) { fixed = q.plain.fixed + n } }

abbrev pub so_many : ℕ → Price
so_many n = record { plain = record { fixed = n; by_party = 0; by_land = 0; by_list = 0 }; by_win = nothing }

abbrev pub rate_times : ℕ → Rate → Rate
rate_times n r = record { fixed = n * r.fixed; by_party = n * r.by_party; by_land = n * r.by_land; by_list = n * r.by_list }

-- for each party, where the rate has no party yet; so for Länder and pairs
abbrev pub for_parties : Rate → Rate
for_parties r = record { fixed = 0; by_party = r.fixed; by_land = 0; by_list = r.by_land }

abbrev pub for_lands : Rate → Rate
for_lands r = record { fixed = 0; by_party = 0; by_land = r.fixed; by_list = r.by_party }

abbrev pub for_lists : Rate → Rate
for_lists r = record { fixed = 0; by_party = 0; by_land = 0; by_list = r.fixed }

abbrev pub without_party : Rate → Bool
without_party r = (r.by_party == 0) && (r.by_list == 0)

abbrev pub without_land : Rate → Bool
without_land r = (r.by_land == 0) && (r.by_list == 0)

abbrev pub only_fixed : Rate → Bool
only_fixed r = (r.by_party == 0) && ((r.by_land == 0) && (r.by_list == 0))

abbrev pub is_nothing : Rate → Bool
is_nothing r = (r.fixed == 0) && only_fixed r

-- ---- loops: the price of a turn, as often as there are turns, where that can be said

abbrev pub for_each_of : Cursor → Price → Price
for_each_of cursor.Party q = record { plain = for_parties q.plain; by_win = for_parties q.by_win }
for_each_of cursor.Land q = record { plain = for_lands q.plain; by_win = for_lands q.by_win }
for_each_of cursor.Win q = record { plain = nothing; by_win = q.plain }

abbrev pub may_be_each : Cursor → Price → Bool
may_be_each cursor.Party q = without_party q.plain && without_party q.by_win
may_be_each cursor.Land q = without_land q.plain && without_land q.by_win
may_be_each cursor.Win q = is_nothing q.by_win

abbrev pub as_often : Bound → Price → Price
as_often (bound.AtMost n) q = record { plain = rate_times n q.plain; by_win = rate_times n q.by_win }
as_often bound.Lists q = record { plain = for_lists q.plain; by_win = for_lists q.by_win }
as_often bound.Wins q = record { plain = nothing; by_win = q.plain }

abbrev pub may_be_often : Bound → Price → Bool
may_be_often (bound.AtMost n) q = true
may_be_often bound.Lists q = only_fixed q.plain && only_fixed q.by_win
may_be_often bound.Wins q = is_nothing q.by_win

-- ---- plans

abbrev pub price_of : Tree → Price
price_of (Line is) = so_many (length is)
price_of (Stop i) = so_many 1
price_of (Then a b) = both_prices (price_of a) (price_of b)
price_of (If t a b) = and_steps 3 (both_prices (price_of a) (price_of b))
price_of (Each over a) = and_steps 2 (for_each_of over (and_steps 2 (price_of a)))
price_of (Times r m a) = and_steps 3 (as_often m (and_steps 5 (price_of a)))

-- no loop multiplies parties by parties, Länder by Länder or winners by winners
abbrev pub has_price : Tree → Bool
has_price (Line is) = true
has_price (Stop i) = true
has_price (Then a b) = has_price a && has_price b
has_price (If t a b) = has_price a && has_price b
has_price (Each over a) = has_price a && may_be_each over (and_steps 2 (price_of a))
has_price (Times r m a) = has_price a && may_be_often m (and_steps 5 (price_of a))

-- ---- shares

-- each number of the rate is at most that one
abbrev pub up_to : ℕ → Rate → Bool
up_to n r = nat_lt r.fixed (n + 1) && (nat_lt r.by_party (n + 1) && (nat_lt r.by_land (n + 1) && nat_lt r.by_list (n + 1)))

-- it is at most a share, whatever the election
abbrev pub is_in_share : Price → Bool
is_in_share q = up_to (STEPS_EACH * (MAX_SEATS + 2)) q.plain && up_to STEPS_EACH q.by_win
