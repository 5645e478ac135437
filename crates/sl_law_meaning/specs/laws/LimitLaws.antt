-- The value of each limit of rulebooks and returns (docs/limits.md).
use Rattle.std.specs.Prelude.{◌≡◌}
use Rattle.sl_base_quotients.specs.declared.limits.TheConstants.{MAX_NUMBER, MAX_SEATS, MAX_PARTIES, MAX_LANDS, MAX_VOTES}
use Rattle.sl_law_meaning.specs.declared.limits.TheConstants.{MAX_DEPTH, MAX_PARTS, MAX_PER, MAX_WINS, MAX_LOTS, MAX_SLATE}
use Rattle.sl_base_terms.specs.declared.limits.TheConstants.{MAX_STAGES}

pub record Limits : Type 0 where
  pub stages : MAX_STAGES ≡ 32
  pub depth : MAX_DEPTH ≡ 16
  pub parts : MAX_PARTS ≡ 64
  pub per : MAX_PER ≡ 1000
  pub number : MAX_NUMBER ≡ 999999999
  pub seats : MAX_SEATS ≡ 4000
  pub parties : MAX_PARTIES ≡ 256
  pub lands : MAX_LANDS ≡ 64
  pub wins : MAX_WINS ≡ 2000
  pub lots : MAX_LOTS ≡ 4000
  pub votes : MAX_VOTES ≡ 100000000
  pub slate : MAX_SLATE ≡ 4000
