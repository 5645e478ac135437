-- What is recorded of a list (docs/returns.md, section 2).
use Rattle.std.specs.Prelude.{ℕ, ◌≤◌, Option, Some, None}
use Rattle.std.specs.Option.{ForSome}
use Rattle.sl_base_quotients.specs.declared.limits.TheConstants.{MAX_VOTES}
use Rattle.sl_law_meaning.specs.declared.limits.TheConstants.{MAX_SLATE}
use Rattle.sl_law_meaning.specs.declared.election.ListVotes.{ListVotes}

-- a list's valid votes, its counted votes, and the names left on it; nothing where there is no list
abbrev pub valid_in : Option ListVotes → ℕ
valid_in None = 0
valid_in (Some v) = v.valid

abbrev pub counted_in : Option ListVotes → ℕ
counted_in None = 0
counted_in (Some v) = v.counted

abbrev pub slate_in : Option ListVotes → Option ℕ
slate_in None = None
slate_in (Some v) = v.slate

-- what each list keeps: its counted votes are among its valid ones, and all is within the limits
pub record IsListVotes (v : ListVotes) : Type 0 where
  pub counted : v.counted ≤ v.valid
  pub valid : v.valid ≤ MAX_VOTES
  pub slate : ForSome v.slate (λ n. n ≤ MAX_SLATE)
