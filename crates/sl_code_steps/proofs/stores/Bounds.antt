-- Bounds of what an election has.
use Rattle.std.proofs.Common.{◌≡◌, ℕ, ◌^◌, ◌+◌, ◌*◌, ◌<◌, Option, Some, None, refl, arith}
use Rattle.std.specs.Option.{ForSome}
use Rattle.std.proofs.lemmas.Nat.{mul-le, mul-add-lt}
use Rattle.sl_base_quotients.specs.declared.limits.TheConstants.{MAX_LANDS, MAX_PARTIES}
use Rattle.sl_base_terms.specs.declared.shape.Shape.{Shape}
use Rattle.sl_base_terms.specs.declared.shape.Shape.TheVariants as shape
use Rattle.sl_law_meaning.specs.returns.Election.{Election, IsElection, lands_of, parties_of}
use Rattle.sl_code_instructions.specs.declared.operand.Entries.{Entries}
use Rattle.sl_code_instructions.specs.declared.operand.Entries.TheVariants as entries
use Rattle.sl_code_semantics.specs.Places.{both, cells_of}
use Rattle.sl_code_semantics.specs.Safe.{entries_in}
use Rattle.sl_code_steps.specs.inner.Positions.{Position, cell_there}

pub entries_fit : (e : Election) → IsElection e → (k : Entries) (i : ℕ) → i < entries_in e k → i < 2 ^ 32
entries_fit e kept entries.List i h =
    let most = mul-le (lands_of e) (parties_of e) MAX_LANDS MAX_PARTIES kept.lands kept.parties in
    omega (arith, most)
entries_fit e kept k i h = omega (arith, kept.parties, kept.lands, kept.winners, kept.wins)

-- a list of a Land and a party that there are
list_within : (lands parties : ℕ) (land party : Option ℕ) (i : ℕ) → ForSome land (λ l. l < lands) → ForSome party (λ p. p < parties)
    → both land party (λ l p. l * parties + p) ≡ Some i → i < lands * parties
list_within lands parties None party i h g is = cc
list_within lands parties (Some l) None i h g is = cc
list_within lands parties (Some l) (Some p) i h g is =
    let at : l * parties + p ≡ i = cc in
    omega (arith, mul-add-lt l parties p lands (h l refl) (g p refl))

pub cell_within : (e : Election) (p : Position) (x : Shape) (i : ℕ) → p.parties ≡ parties_of e → ForSome p.party (λ n. n < parties_of e) → ForSome p.land (λ n. n < lands_of e)
    → cell_there x p ≡ Some i → i < cells_of e x
cell_within e p shape.One i many party land is = grind arith
cell_within e p shape.Party i many party land is = party i is
cell_within e p shape.Land i many party land is = land i is
cell_within e p shape.List i many party land is = list_within (lands_of e) (parties_of e) p.land p.party i land party (rw many at is)
