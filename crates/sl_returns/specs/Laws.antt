-- What the definitions of returns imply. Each law is the contract of a function of `laws`.
use Rattle.std.specs.Prelude.{[], ◌≡◌, ◌∷◌, ℕ, List, None, Some, Ok, option_map, slice_get, sum_by}
use Rattle.sl_law_meaning.specs.returns.Election.{Election}
use Rattle.sl_law_meaning.specs.returns.Facts.{valid_votes}
use Rattle.sl_returns.specs.declared.cells.TheConstants.{MAX_DIGITS}
use Rattle.sl_returns.specs.declared.header.Version.{Version}
use Rattle.sl_returns.specs.declared.schema.TheConstants.{A}
use Rattle.sl_returns.specs.declared.schema.Kind.TheVariants as kind
use Rattle.sl_returns.specs.Cells.{Record, cell, number_of}
use Rattle.sl_returns.specs.Records.{of_kind, of_party}
use Rattle.sl_returns.specs.Further.{refused_of, taken_from}
use Rattle.sl_returns.specs.Headers.{version_of}
use Rattle.sl_returns.specs.Returns.{behind_header, refusal_of, returns_of}

abbrev pub Limits : Type 0
Limits = MAX_DIGITS ≡ 12

-- the valid votes of a party are the sum of column a over the records of its lists
abbrev pub ValidVotesAreTold : Type 0
ValidVotesAreTold =
    (rs : List Record) (e : Election) (party : ℕ) (name : List ℕ) → returns_of rs ≡ Ok e → slice_get e.party_names party ≡ Some name
    → valid_votes e party ≡ sum_by (λ r. number_of (cell r A)) (of_party name (of_kind kind.List (behind_header rs)))

-- the first of all records that are refused is the one for which the returns are
abbrev pub FirstIsTheFault : Type 0
FirstIsTheFault = (rs : List Record) → refusal_of rs ≡ option_map (λ x. x.fault) (slice_get (refused_of rs) 0)

-- the records that are taken, in a file of their own, are none of them refused
abbrev pub OthersAreTaken : Type 0
OthersAreTaken = (v : Version) (h : Record) (rest : List Record) → version_of h ≡ Some v → refusal_of (h ∷ taken_from v [] rest) ≡ None
