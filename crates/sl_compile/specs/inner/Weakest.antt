-- Few conditions: those that the compiler lays out.
use Rattle.std.specs.Prelude.{ℕ, ◌<◌, ◌≤◌, ◌^◌, Bool, Option, None, Some}
use Rattle.sl_law_meaning.specs.declared.book.Cond.{Cond}
use Rattle.sl_law_meaning.specs.declared.book.Cond.TheVariants as condition
use Rattle.sl_law_meaning.specs.declared.limits.TheConstants.{MAX_PER}
use Rattle.sl_law_meaning.specs.returns.Election.{Election}
use Rattle.sl_law_meaning.specs.returns.Facts.{meets}
use Rattle.sl_blocks.specs.declared.easiest.Share.{Share}
use Rattle.sl_blocks.specs.inner.Few.{share_condition}

-- a party meets the share
abbrev pub is_met : Election → ℕ → Share → Bool
is_met e party s = meets e party (share_condition s)

-- a share of at least one vote and at most all, in at most so many
abbrev pub IsFairShare : Share → Type 0
IsFairShare s = (1 ≤ s.share.value) × (s.share.value ≤ s.per) × (s.per ≤ MAX_PER)

abbrev pub IsFairIn : Option Share → Type 0
IsFairIn None = Unit {0}
IsFairIn (Some s) = IsFairShare s

abbrev pub IsFair : Cond → Type 0
IsFair (condition.Valid share per) = (1 ≤ share.value) × (share.value ≤ per) × (per ≤ MAX_PER)
IsFair _ = Unit {0}

-- a number of winners that fits four bytes
abbrev pub IsSmallIn : Option ℕ → Type 0
IsSmallIn None = Unit {0}
IsSmallIn (Some n) = n < 2 ^ 32
