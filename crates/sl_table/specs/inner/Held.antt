-- Which of what runs hold fits which returns (docs/output.md, section 1).
use Rattle.std.specs.Prelude.{◌≡◌, ◌*◌, length}
use Rattle.sl_law_meaning.specs.returns.Election.{Election, lands_of, parties_of, wins_of}
use Rattle.sl_code_semantics.specs.Memories.{Held}

-- what a run holds has the seats and the vacant seats of each pair of Land and party, and a place for each winner
pub record FitsHeld (h : Held) (e : Election) : Type 0 where
  pub base : length h.base ≡ lands_of e * parties_of e
  pub vacant : length h.vacant ≡ lands_of e * parties_of e
  pub placed : length h.placed ≡ wins_of e
