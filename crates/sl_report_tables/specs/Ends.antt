-- What is known of the end of a count that is answered, and its status.
use Rattle.sl_law_meaning.specs.declared.count.End.TheVariants.{Counted, Fault}
use Rattle.sl_law_meaning.specs.declared.count.End.{End}
use Rattle.sl_count_inputs.specs.declared.status.Status.TheVariants as status
use Rattle.sl_count_inputs.specs.declared.status.Status.{Status}
use Rattle.sl_law_meaning.specs.meaning.Counts.{HoldsStages}
use Rattle.sl_law_meaning.specs.book.Trees.{BookTree}
use Rattle.sl_law_meaning.specs.returns.Election.{Election}

abbrev pub end_status : End → Status
end_status (Counted counted) = status.Done
end_status (Fault fault) = status.Legal

-- the columns are those to which the stages of the book come
abbrev pub HoldsEnd : BookTree → Election → End → Type 0
HoldsEnd tree e (Counted counted) = HoldsStages tree e counted.columns.items
HoldsEnd tree e (Fault fault) = Unit {0}
