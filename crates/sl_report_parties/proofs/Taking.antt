-- Who takes part, by what each party has.
use Rattle.std.proofs.Common.{◌≡◌, ℕ, ◌<◌, List, length, get_or, is_some, arith, ap, ◌∙◌}
use Rattle.std.proofs.lemmas.List.FromFn.{length-map-range_with_len, get_or-map-range_with_len}
use Rattle.sl_law_meaning.specs.declared.book.Cond.{Cond}
use Rattle.sl_law_meaning.specs.returns.Election.{Election, parties_of}
use Rattle.sl_law_meaning.specs.returns.Facts.{meets, is_eligible}
use Rattle.sl_report_parties.specs.declared.parts.PartyPart.{PartyPart}
use Rattle.sl_report_parties.specs.Parts.{part_of, parts_of}
use Rattle.sl_report_parties.proofs.Steps.{some_first}

module _ (conditions : List Cond) (e : Election) (parts told : List PartyPart) (same : parts ≡ told) (is : told ≡ parts_of conditions e) where
  pub parts_long : length parts ≡ parties_of e
  parts_long = ap length same ∙ ap length is ∙ length-map-range_with_len (part_of conditions e) 0 (parties_of e)

  pub part_at : (party : ℕ) (d : PartyPart) → party < parties_of e → get_or parts party d ≡ part_of conditions e party
  part_at party d within =
      ap (λ ps. get_or ps party d) (same ∙ is) ∙ get_or-map-range_with_len (part_of conditions e) 0 (parties_of e) party party d within (omega arith)

pub part_met : (conditions : List Cond) (e : Election) (party : ℕ) → is_some (part_of conditions e party).met ≡ is_eligible conditions e party
part_met conditions e party = some_first (meets e party) conditions
