-- Where an explanation of refused returns points (docs/explanations.md, section 3).
use Rattle.std.specs.Prelude.{List, None, Option, ◌≡◌, ℕ}
use Rattle.sl_count_inputs.specs.declared.refused_election.RefusedElection.TheVariants as election
use Rattle.sl_count_inputs.specs.declared.refused_election.RefusedElection.{RefusedElection}
use Rattle.sl_explain_returns.specs.Places.{IsInRecord}
use Rattle.sl_explain_texts.specs.declared.explanation.Span.{Span}

-- at the record that is refused; at no place where the file is too long
abbrev pub IsOfElection : List ℕ → RefusedElection → Option Span → Type 0
IsOfElection text election.TooLong span = span ≡ None
IsOfElection text (election.Records refused) span = IsInRecord text refused.fault.row span
