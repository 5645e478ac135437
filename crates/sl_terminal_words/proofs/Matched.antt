-- What is given to a command, by what its matches say.
use Rattle.std.proofs.Common.{◌≡◌, ◌∙◌, ◌≢◌, Bool, true, false, List, [], Option, Some, None, ap, ap₂, map, option_map, refl}
use Rattle.std.proofs.lemmas.Slice.Eq.{bytes_eq-Decides}
use Rattle.std.specs.Borrow.{Bor}
use Rattle.std.specs.Option.{option_map_or}
use Rattle.std.specs.Prelude.{codes, unwrap_or}
use Rattle.std.specs.Str.{bytes_eq}
use Rattle.std.specs.Str.Parse.{ParsesBool}
use Rattle.clap.proofs.WalkLemmas.{one_text-rows, raw_values-rows}
use Rattle.std.specs.Box.{box_value}
use Rattle.clap.specs.Matches.{ReadsOne, found_of, matched_of, one_text, raw_values, subcommand_name_of}
use Rattle.clap.specs.Simple.{subcommand_rows, subcommand_rows_of}
use Rattle.clap.specs.Walk.{Row, Text, rows_of}
use Rattle.clap.specs.declared.parser.matches.ArgMatches.{ArgMatches}
use Rattle.clap.specs.declared.parser.matches.ArgMatches.TheViews.{out-ArgMatches, out-SubCommand}
use Rattle.clap.specs.declared.parser.matches.Found.{Found}
use Rattle.sl_terminal_words.specs.Requests.{flag_in, words_in}

-- all words of a name
pub some_words : (f : Found) (name : Text) (words : List (Bor Text)) → Some (map (λ word. word.now) words) ≡ option_map raw_values (matched_of f name)
    → map (λ word. word.now) words ≡ words_in (rows_of f) name
some_words f name words e = ap (λ o. unwrap_or o []) (e ∙ raw_values-rows f name)

pub no_words : (f : Found) (name : Text) → None ≡ option_map raw_values (matched_of f name) → [] ≡ words_in (rows_of f) name
no_words f name e = ap (λ o. unwrap_or o []) (e ∙ raw_values-rows f name)

module _ {B : Type 0} (f : B → Text) (g : B → List Row) where
  entered_as : (name : Text) (rows : List Row) (o : Option B) → Some name ≡ option_map f o → Some rows ≡ option_map (λ p. p.1) (option_map {U = Text × List Row} (λ b. (f b, g b)) o)
      → option_map {U = Text × List Row} (λ b. (f b, g b)) o ≡ Some (name, rows)
  entered_as name rows None one other = cc
  entered_as name rows (Some b) one other =
      let names : f b ≡ name = cc in
      let given : g b ≡ rows = cc in
      ap₂ (λ (x : Text) (y : List Row). Some (x, y)) names given

  entered_none : (o : Option B) → None ≡ option_map f o → option_map {U = Text × List Row} (λ b. (f b, g b)) o ≡ None
  entered_none None one = refl
  entered_none (Some b) one = cc

-- the subcommand that a parse entered, by its name and its rows
pub entered_is : (m : ArgMatches) (name : Text) (rows : List Row) → Some name ≡ subcommand_name_of m
    → Some rows ≡ option_map (λ p. p.1) (subcommand_rows (out-ArgMatches m).subcommand) → subcommand_rows_of m ≡ Some (name, rows)
entered_is m name rows one other = entered_as (λ b. (out-SubCommand (box_value b)).name.now) (λ b. rows_of (found_of (out-SubCommand (box_value b)).matches)) name rows (out-ArgMatches m).subcommand one other

pub entered_nothing : (m : ArgMatches) → None ≡ subcommand_name_of m → subcommand_rows_of m ≡ None
entered_nothing m one = entered_none (λ b. (out-SubCommand (box_value b)).name.now) (λ b. rows_of (found_of (out-SubCommand (box_value b)).matches)) (out-ArgMatches m).subcommand one

-- a flag, as its text is read
pub flag_read : (E : Type 0) (f : Found) (name : Text) (flag : Option Bool) → (one_text f name ≡ None → flag ≡ None)
    → ((t : Text) → one_text f name ≡ Some t → ReadsOne {E = E} (λ u r. ParsesBool u r) t flag)
    → unwrap_or flag false ≡ flag_in (rows_of f) name
flag_read E f name flag none some = go (one_text f name) refl ∙ ap (λ o. option_map_or (λ t. bytes_eq t (codes "true")) o false) (one_text-rows f name)
  where
    other : (t : Text) (b : Bool) → bytes_eq t (codes "true") ≡ b → t ≢ codes "true" → false ≡ b
    other t false e differs = refl
    other t true e differs = absurd (differs ((bytes_eq-Decides t (codes "true")).0 e))

    read : (t : Text) (v : Option Bool) → ReadsOne {E = E} (λ u r. ParsesBool u r) t v → unwrap_or v false ≡ bytes_eq t (codes "true")
    read t (Some true) h = rw h refl
    read t (Some false) h = rw h refl
    read t None h = other t (bytes_eq t (codes "true")) refl h.1.0

    go : (o : Option Text) → one_text f name ≡ o → unwrap_or flag false ≡ option_map_or (λ t. bytes_eq t (codes "true")) (one_text f name) false
    go None e = rw (e, none e) refl
    go (Some t) e = rw e (read t flag (some t e))
