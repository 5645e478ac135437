-- What is known after the stages of a rulebook: as many columns as stages, under their names, and of the types that the book gives them.
use Rattle.std.proofs.Common.{◌≡◌, ℕ, ◌+◌, List, [], ◌∷◌, ◌++◌, length, map, sym, ap, ◌∙◌, append-nil, append_assoc, length-append, arith}
use Rattle.std.proofs.lemmas.List.{length-map, map-append}
use Rattle.sl_law_meaning.specs.declared.fault.LegalFault.{LegalFault}
use Rattle.sl_law_meaning.specs.book.Trees.{StageTree, BookTree}
use Rattle.sl_law_meaning.specs.book.Typing.{Column, stage_column, columns_of}
use Rattle.sl_law_meaning.specs.returns.Election.{Election}
use Rattle.sl_law_meaning.specs.meaning.Columns.{NamedColumn}
use Rattle.sl_law_meaning.specs.meaning.Records.{Records}
use Rattle.sl_law_meaning.specs.meaning.Results.{ExprResult, Column as Values, Fault}
use Rattle.sl_law_meaning.specs.meaning.Means.{Known, Through, Stopped, nothing_known, with_stage, GoesOn, StagesMean}

-- the types after some stages are as many as those before and the stages
length-columns_of : (types : List Column) (ss : List StageTree) → length (columns_of types ss) ≡ length types + length ss
length-columns_of types [] = omega arith
length-columns_of types (s ∷ ss) =
    let one = length-append types (stage_column types s ∷ []) in
    let rest = length-columns_of (types ++ stage_column types s ∷ []) ss in
    omega (arith, one, rest)

-- so a book has a type for each stage
pub columns_long : (ss : List StageTree) → length (columns_of [] ss) ≡ length ss
columns_long ss = let all = length-columns_of [] ss in omega (arith, all)

-- a run that comes through its stages is not stopped
not_stopped : (end : Known) (f : LegalFault) → Through end ≡ Stopped f → ⊥
not_stopped end f same = cc

-- so it goes on after the first of them
goes_on : {P : Type 0} (first : ExprResult) (Next : List ℕ → Records → Type 0) (end : Known) → ((values : List ℕ) (records : Records) → Next values records → P) →
    GoesOn first Next (Through end) → P
goes_on (Fault f) Next end on stops = absurd (not_stopped end f stops)
goes_on (Values values records) Next end on run = on values records run

abbrev pub names_of : List NamedColumn → List (List ℕ)
names_of columns = map (λ x. x.name) columns

abbrev pub stage_names : List StageTree → List (List ℕ)
stage_names ss = map (λ s. s.name) ss

-- the names with that of one stage more
one_name : (columns : List NamedColumn) (x : NamedColumn) (names : List (List ℕ)) → names_of (columns ++ x ∷ []) ++ names ≡ names_of columns ++ x.name ∷ names
one_name columns x names =
    ap (λ (before : List (List ℕ)). before ++ names) (map-append (λ (y : NamedColumn). y.name) columns (x ∷ [])) ∙ append_assoc (names_of columns) (x.name ∷ []) names

module _ (b : BookTree) (e : Election) where
  -- after some stages more the types are those of their columns too
  types_behind : (k : Known) (ss : List StageTree) (end : Known) → StagesMean b e k ss (Through end) → end.types ≡ columns_of k.types ss
  types_behind k [] end run = let same : end ≡ k = cc in ap (λ (j : Known). j.types) same
  types_behind k (s ∷ ss) end run =
      goes_on run.0 (λ values records. StagesMean b e (with_stage k s values records) ss (Through end)) end
      (λ values records more. types_behind (with_stage k s values records) ss end more) run.2

  -- and the names are theirs too
  names_behind : (k : Known) (ss : List StageTree) (end : Known) → StagesMean b e k ss (Through end) → names_of end.columns ≡ names_of k.columns ++ stage_names ss
  names_behind k [] end run = let same : end ≡ k = cc in ap (λ (j : Known). names_of j.columns) same ∙ sym (append-nil (names_of k.columns))
  names_behind k (s ∷ ss) end run =
      goes_on run.0 (λ values records. StagesMean b e (with_stage k s values records) ss (Through end)) end
      (λ values records more.
      names_behind (with_stage k s values records) ss end more ∙ one_name k.columns (record { name = s.name; values = values }) (stage_names ss))
      run.2

  module _ (known : Known) (means : StagesMean b e nothing_known b.stages (Through known)) where
    -- the types are those that the book gives the stages
    pub known_types : known.types ≡ columns_of [] b.stages
    known_types = types_behind nothing_known b.stages known means

    -- the columns stand under the names of the stages
    pub known_names : map (λ x. x.name) known.columns ≡ map (λ s. s.name) b.stages
    known_names = names_behind nothing_known b.stages known means

    -- and are as many
    pub known_long : length known.columns ≡ length b.stages
    known_long =
        sym (length-map known.columns (λ (x : NamedColumn). x.name)) ∙ ap (λ (names : List (List ℕ)). length names) known_names
        ∙ length-map b.stages (λ (s : StageTree). s.name)
