-- Where a winner counts in a column of lists.
use Rattle.std.specs.Prelude.{ℕ, ◌+◌, ◌*◌, Option, Some, None}
use Rattle.sl_law_meaning.specs.declared.table.Placed.{Placed}
use Rattle.sl_law_meaning.specs.declared.table.Placed.TheVariants as placed
use Rattle.sl_law_meaning.specs.returns.Election.{Election, parties_of}

-- the number of the pair of Land and party of a winner who is placed on a list
abbrev pub list_place : Election → ℕ → Option ℕ → Placed → Option ℕ
list_place e land (Some party) placed.OnList = Some (land * parties_of e + party)
list_place e land None placed.OnList = None
list_place e land party placed.Single = None
list_place e land party placed.Unseated = None
