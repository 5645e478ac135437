-- The lots of a code's stages in tables of each kind of entries.
use Rattle.std.specs.Prelude.{ℕ, List, [], ◌∷◌, ◌++◌, Option, map, codes}
use Rattle.std.specs.Option.{option_map, option_to_list}
use Rattle.sl_law_meaning.specs.declared.election.Lot.{Lot}
use Rattle.sl_law_meaning.specs.returns.Election.{Election}
use Rattle.sl_law_meaning.specs.meaning.Scopes.{place}
use Rattle.sl_code_instructions.specs.Codes.{CountingCode}
use Rattle.sl_code_instructions.specs.declared.operand.Entries.{Entries}
use Rattle.sl_code_instructions.specs.declared.operand.Entries.TheVariants as entries
use Rattle.sl_code_semantics.specs.Drawn.{given_in, lot_of}
use Rattle.sl_code_semantics.specs.State.{PriorityTable}

-- the lot of a stage, in a table of parties, of Länder, of lists, of winners
pub record StageLots : Type 0 where
  pub party : List ℕ
  pub land : List ℕ
  pub list : List ℕ
  pub win : List ℕ

abbrev pub lot_in : Entries → StageLots → List ℕ
lot_in entries.Party l = l.party
lot_in entries.Land l = l.land
lot_in entries.List l = l.list
lot_in entries.Win l = l.win

-- with the entries that one more lot gives
abbrev pub with_lot : Election → Lot → StageLots → StageLots
with_lot e l s = record {
  party = s.party ++ option_to_list (option_map (place e) (given_in e entries.Party l));
  land = s.land ++ option_to_list (option_map (place e) (given_in e entries.Land l));
  list = s.list ++ option_to_list (option_map (place e) (given_in e entries.List l));
  win = s.win ++ option_to_list (option_map (place e) (given_in e entries.Win l));
}

-- the lots of that name
abbrev pub stage_lots : Election → List ℕ → StageLots
stage_lots e name = record { party = lot_of e entries.Party name; land = lot_of e entries.Land name; list = lot_of e entries.List name; win = lot_of e entries.Win name }

-- those of the stages, and after them those of the last clause
abbrev pub lots_for : CountingCode → Election → List StageLots
lots_for c e = map (λ stage. stage_lots e stage.name) c.stages ++ stage_lots e (codes "seats") ∷ []

-- the priority table, while it is on, and the lots that draw from it
pub record LotTable : Type 0 where
  pub on : Option PriorityTable
  pub lots : List StageLots
