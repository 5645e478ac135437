-- The lots of a code's stages, as numbers of entries of the priority table (docs/machine.md, section 3).
use Rattle.std.specs.Prelude.{ℕ, List, Option, filter_map}
use Rattle.std.specs.Option.{option_map}
use Rattle.sl_base_terms.specs.declared.shape.Shape.TheVariants as shape
use Rattle.sl_law_meaning.specs.declared.fault.Item.{Item}
use Rattle.sl_law_meaning.specs.declared.election.Lot.{Lot}
use Rattle.sl_law_meaning.specs.returns.Election.{Election}
use Rattle.sl_law_meaning.specs.meaning.Scopes.{place}
use Rattle.sl_law_meaning.specs.meaning.Lots.{lots_named, given_entry, given_winner}
use Rattle.sl_code_instructions.specs.declared.operand.Entries.{Entries}
use Rattle.sl_code_instructions.specs.declared.operand.Entries.TheVariants as entries

-- the entry that a lot gives in a table of such entries
abbrev pub given_in : Election → Entries → Lot → Option Item
given_in e entries.Party = given_entry shape.Party
given_in e entries.Land = given_entry shape.Land
given_in e entries.List = given_entry shape.List
given_in e entries.Win = given_winner e

-- the entries that the lots of that name give, in the order of their records
abbrev pub lot_of : Election → Entries → List ℕ → List ℕ
lot_of e k name = filter_map (λ l. option_map (place e) (given_in e k l)) (lots_named name e)
