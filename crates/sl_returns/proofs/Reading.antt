-- A reader of a text, and the records that it gave.
use Rattle.std.proofs.Common.{◌≡◌, ℕ, List, [], ◌++◌, ◌∷◌, Option, Some, true, false, refl, sym, ◌∙◌}
use Rattle.std.proofs.lemmas.Bool.{false≢true}
use Rattle.csv.specs.declared.error.ErrorKind.{ErrorKind}
use Rattle.csv.specs.declared.error.ErrorKind.TheVariants as problem
use Rattle.csv.specs.declared.parser.State.TheVariants as st
use Rattle.csv.specs.declared.reader.Reader.{Reader}
use Rattle.csv.specs.declared.reader.Trim.TheVariants as trim
use Rattle.csv.proofs.ReadFacts.{rows-end, rows-more}
use Rattle.csv.specs.Reading.{ExplainsRead, Reached, ReadRecord, Ready, default_config, is_flexible, reader_config, reader_state, reader_trim, records, source_of, stops_reader}
use Rattle.sl_returns.specs.Cells.{Record}
use Rattle.sl_returns.proofs.AllRecords.{are_records, begin_records}

-- a reader of a text that has given these records, and the bytes after them
pub record HasGiven {R : Type 0} (rem : R → Option (List ℕ)) (reader : Reader R) (rows : List Record) (text : List ℕ) : Type 0 where
  pub trims : reader_trim reader ≡ trim.None
  pub ready : Ready reader
  pub config : reader_config reader ≡ default_config
  pub flexible : is_flexible reader ≡ true
  pub left : List ℕ
  pub source : source_of rem reader ≡ Some left
  pub reached : Reached default_config st.StartRecord text rows (reader_state reader) left

module _ {R : Type 0} (rem : R → Option (List ℕ)) where
  -- at the start of the text it has given none
  pub given_none : (reader : Reader R) (text : List ℕ) → reader_trim reader ≡ trim.None → Ready reader → reader_config reader ≡ default_config
      → is_flexible reader ≡ true → source_of rem reader ≡ Some text → reader_state reader ≡ st.StartRecord → HasGiven rem reader [] text
  unfolding Reached
  given_none reader text trims ready config flexible source state = record {
    trims = trims;
    ready = ready;
    config = config;
    flexible = flexible;
    left = text;
    source = source;
    reached = (sym state, refl);
  }

  -- and one more after each read that gives one
  pub given_more : (old new : Reader R) (rows : List Record) (fields : Record) (text : List ℕ) → HasGiven rem old rows text → Ready new
      → is_flexible new ≡ is_flexible old → ReadRecord rem old new true fields → HasGiven rem new (rows ++ fields ∷ []) text
  given_more old new rows fields text given ready flexible read =
      let (left, source, reached) = rows-more rem old new fields default_config st.StartRecord text given.left rows given.config given.source given.reached read in
      record {
        trims = read.3 ∙ given.trims;
        ready = ready;
        config = read.2 ∙ given.config;
        flexible = flexible ∙ given.flexible;
        left = left;
        source = source;
        reached = reached;
      }

  -- they begin the records of the text
  pub given_first : (reader : Reader R) (rows : List Record) (text : List ℕ) → HasGiven rem reader rows text
      → (more : List Record) × (records default_config text ≡ rows ++ more)
  given_first reader rows text given = begin_records (reader_state reader) text given.left rows given.reached

  -- and are all of them where a read gives none
  pub given_all : (old new : Reader R) (rows : List Record) (fields : Record) (text : List ℕ) → HasGiven rem old rows text
      → ReadRecord rem old new false fields → records default_config text ≡ rows
  given_all old new rows fields text given read =
      are_records (reader_state old) text given.left rows given.reached (rows-end rem old new fields default_config given.left given.config given.source read)

-- a reader that takes records of any length gives up only where it is stopped
pub only_stops : {R : Type 0} (rem : R → Option (List ℕ)) (old new : Reader R) (kind : ErrorKind) → is_flexible old ≡ true → ExplainsRead rem old new false kind → stops_reader kind ≡ true
only_stops rem old new (problem.Io e) flexible why = refl
only_stops rem old new problem.OutOfMemory flexible why = refl
only_stops rem old new (problem.UnequalLengths pos expected len) flexible why = absurd (false≢true (sym why.0 ∙ flexible))
only_stops rem old new (problem.Utf8 pos err) flexible why = absurd (false≢true why.0)
only_stops rem old new (problem.Serialize text) flexible why = absurd why
only_stops rem old new (problem.Deserialize pos err) flexible why = absurd why
