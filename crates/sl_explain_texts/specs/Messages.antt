-- Which values a message takes, and what it says with them: its holes, in both languages (docs/explanations.md).
use Rattle.std.specs.Fmt.{decimal}
use Rattle.std.specs.List.{after_first, before_first, ends_with, list_all, list_any, position_or_len, slice_split, zip}
use denote.Ref.{Bor}
use Rattle.std.specs.Option.{option_map_or}
use Rattle.std.specs.Prelude.{◌==◌, ◌≡◌, ◌≤◌, ◌++◌, ◌∷◌, [], ℕ, Bool, true, false, List, codes, find, flat_map, if◌then◌else◌, length, map, nat_eq, nat_lt}
use Rattle.std.specs.Str.{bytes_eq}
use Rattle.sl_explain_texts.specs.Languages.{Message, chosen}
use Rattle.sl_explain_texts.specs.Shown.{repeated}
use Rattle.sl_explain_texts.specs.declared.code.FaultCode.{FaultCode}
use Rattle.sl_explain_texts.specs.declared.language.Language.{Language}

-- the names in braces: `read` is what was read of a name, where one is open; a name that is not closed ends at the next brace that opens one
abbrev pub holes_from : (read : List ℕ) (is_open : Bool) → List ℕ → List (List ℕ)
holes_from read false [] = []
holes_from read true [] = read ∷ []
holes_from read false (c ∷ text) = holes_from [] (c == 123) text
holes_from read true (c ∷ text) =
    if c == 125 then read ∷ holes_from [] false text else (if c == 123 then read ∷ holes_from [] true text else holes_from (read ++ c ∷ []) true text)

-- the holes of a text, by their names, in order
abbrev pub holes_of : List ℕ → List (List ℕ)
holes_of = holes_from [] false

abbrev pub are_among : List (List ℕ) → List (List ℕ) → Bool
are_among xs names = list_all (λ x. list_any (bytes_eq x) names) xs

-- texts in English and in German have the same holes, at most so many in English
abbrev pub AreFilledBy : List ℕ → List ℕ → ℕ → Type 0
AreFilledBy english german values = (length (holes_of english) ≤ values)
    × (are_among (holes_of english) (holes_of german) ≡ true) × (are_among (holes_of german) (holes_of english) ≡ true)

-- so many values fill the holes of a message, in both languages
abbrev pub IsFilledBy : Bor (List ℕ) × Bor (List ℕ) → ℕ → Type 0
IsFilledBy m = AreFilledBy m.0.now m.1.now

-- the same of what is said of a fault
abbrev pub IsSaidBy : FaultCode × Bor (List ℕ) × Bor (List ℕ) → ℕ → Type 0
IsSaidBy s = AreFilledBy s.1.now s.2.now

-- the texts that are lent
abbrev pub texts_of : List (Bor (List ℕ)) → List (List ℕ)
texts_of = map (λ x. x.now)

-- values by the names of the holes of an English text, in their order
abbrev pub named : List ℕ → List (List ℕ) → List (List ℕ × List ℕ)
named english values = zip (holes_of english) values

-- the value of that name, and nothing where there is none
abbrev pub value_of : List (List ℕ × List ℕ) → List ℕ → List ℕ
value_of values name = option_map_or (λ x. x.1) (find (λ x. bytes_eq x.0 name) values) []

-- what is written for a name with that value: the value, and for a name that ends so bytes of an input as a sentence repeats them
abbrev pub put_value : List ℕ → List ℕ → List ℕ
put_value name value = if ends_with nat_eq name (codes ":shown") then repeated value else value

-- what stands behind the first brace that opens a hole, cut at each further one: a name, a brace that closes the hole, and text
abbrev pub opened : List ℕ → List (List ℕ)
opened text = if nat_lt (position_or_len (λ b. b == 123) text) (length text) then slice_split (λ b. b == 123) (after_first (λ b. b == 123) text) else []

-- the name in a hole, and the text behind it
abbrev pub name_in : List ℕ → List ℕ
name_in part = before_first (λ b. b == 125) part

abbrev pub text_behind : List ℕ → List ℕ
text_behind part = after_first (λ b. b == 125) part

-- the value of a hole, and the text behind it
abbrev pub put : List (List ℕ × List ℕ) → List ℕ → List ℕ
put values part = put_value (name_in part) (value_of values (name_in part)) ++ text_behind part

-- a text, with values in its holes
abbrev pub filled : List (List ℕ × List ℕ) → List ℕ → List ℕ
filled values text = before_first (λ b. b == 123) text ++ flat_map (put values) (opened text)

-- what a message says in a language, with values by their names
abbrev pub said : Language → Message → List (List ℕ × List ℕ) → List ℕ
said language m values = filled values (chosen language m.0 m.1)

-- the same with values in the order of the holes of its English text
abbrev pub says : Language → Message → List (List ℕ) → List ℕ
says language m values = said language m (named m.0 values)

-- so many things: the message for one of them or that for more, whose value is the number
abbrev pub counted : Language → ℕ → (one more : Message) → List ℕ
counted language number one more = says language (if nat_eq number 1 then one else more) (decimal number ∷ [])
