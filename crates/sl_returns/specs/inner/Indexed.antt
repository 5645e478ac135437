-- What the index of the returns under way holds: just the names and the lots of the election so far.
use Rattle.sl_base_quotients.specs.declared.limits.TheConstants.{MAX_LANDS, MAX_PARTIES}
use Rattle.sl_law_meaning.specs.declared.limits.TheConstants.{MAX_WINS}
use Rattle.sl_law_meaning.specs.returns.Election.{Election}
use Rattle.sl_returns.specs.declared.index.Index.{Index}

abbrev pub index_of : Election → Index
index_of e = record {
  lands = record { limit = MAX_LANDS; names = e.land_names };
  parties = record { limit = MAX_PARTIES; names = e.party_names };
  winners = record { limit = MAX_WINS; names = e.win_names };
  lots = e.lots;
}
