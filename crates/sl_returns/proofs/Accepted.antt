-- Records that make an election: none is refused, and the election is theirs.
use Rattle.std.proofs.Common.{◌≡◌, List, [], ◌∷◌, get_or, Option, Some, None, Result, Ok, IfOk, is_ok, refl, sym, ap, subst, ◌∙◌}
use Rattle.std.specs.List.{slice_get, sum_by}
use Rattle.std.specs.Option.{option_or}
use Rattle.std.proofs.lemmas.Bool.{false≢true}
use Rattle.std.proofs.lemmas.Option.{slice_get_within, get_or_from_slice_get}
use Rattle.sl_law_meaning.specs.returns.Election.{Election}
use Rattle.sl_law_meaning.specs.returns.Facts.{valid_votes}
use Rattle.sl_returns.specs.declared.fault.ReturnsFault.{ReturnsFault}
use Rattle.sl_returns.specs.Cells.{Record}
use Rattle.sl_returns.specs.Records.{election_of_records, land_names, party_names, of_kind}
use Rattle.sl_returns.specs.Returns.{refusal_of, lack_of, behind_header, returns_of, unless}
use Rattle.sl_returns.specs.Laws.{ValidVotesAreTold}
use Rattle.sl_returns.specs.declared.schema.Kind.TheVariants as kind
use Rattle.sl_returns.proofs.ToldVotes.{valid_from, votes_of_rows}
use Rattle.sl_returns.proofs.Steps.{IsGood, no_records}
use Rattle.sl_returns.proofs.Feeding.{neither, sound, good_from}

-- what it says of records that they make an election
pub record Makes (rs : List Record) (e : Election) : Type 0 where
  pub good : IsGood (behind_header rs)
  pub election : e ≡ election_of_records (behind_header rs)

good_behind : (rs : List Record) → refusal_of rs ≡ None → IsGood (behind_header rs)
good_behind [] accepted = no_records
good_behind (r ∷ rest) accepted = let is = sound r rest accepted in good_from is.version [] rest no_records is.none

pub makes : (rs : List Record) (e : Election) → returns_of rs ≡ Ok e → Makes rs e
makes rs e h =
    let (none, same) = go (option_or (refusal_of rs) (lack_of rs)) h in
    record { good = good_behind rs (neither (refusal_of rs) (lack_of rs) none).0; election = sym same }
  where
    go : (o : Option ReturnsFault) → unless o (election_of_records (behind_header rs)) ≡ Ok e → (o ≡ None) × (election_of_records (behind_header rs) ≡ e)
    go None h = (refl, subst (λ (x : Result Election ReturnsFault). IfOk x (λ y. election_of_records (behind_header rs) ≡ y)) h refl)
    go (Some f) h = absurd (false≢true (ap is_ok h))

-- the valid votes of a party are what the records of its lists tell
pub valid_votes_are_told : ValidVotesAreTold
valid_votes_are_told rs e party name h at =
    let is = makes rs e h in
    let behind = behind_header rs in
    let lists = of_kind kind.List behind in
    let lands = land_names behind in
    let parties = party_names behind in
    let good = is.good.kept in
    let found : slice_get parties party ≡ Some name = ap (λ (x : Election). slice_get x.party_names party) (sym is.election) ∙ at in
    let here : get_or parties party [] ≡ name = get_or_from_slice_get parties party name [] found in
    let rows = votes_of_rows lists lands parties party (slice_get_within parties party name found) in
    let told = good.votes_told.sum lands parties name good.lands_once good.parties_once good.lists_known in
    ap (λ (x : Election). valid_votes x party) is.election ∙ rows ∙ ap (λ p. sum_by (valid_from lists p) lands) here ∙ told
