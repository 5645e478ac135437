-- The rulebooks of the library: each name, and its text (docs/laws.md).
use Rattle.std.specs.Prelude.{ℕ, List, [], ◌∷◌, ◌++◌, Option, option_map, codes, flat_map, find}
use Rattle.std.specs.Str.{bytes_eq}

-- lines, each with its end
abbrev pub lines : List (List ℕ) → List ℕ
lines = flat_map (λ line. line ++ 10 ∷ [])

-- ---- lines that several books have

-- parties with a share of the valid votes or with winners, and those of minorities
abbrev pub common : List ℕ
common = codes "eligible valid at least 5 per 100 or winners at least 3 or minority;"

-- the house without the winners who are on no list
abbrev pub pool : List ℕ
pool = codes "stage pool = less(house, sum(outside, all));"

-- the house without the winners who are of no party
abbrev pub free_pool : List ℕ
free_pool = codes "stage pool = less(house, sum(independents, all));"

-- the pool among the parties, where the majority clause refuses
abbrev pub webster_upper : List ℕ
webster_upper = codes "stage upper = split(pool, sum(counted, party), webster, majority refuse);"

-- each party's seats among its lists
abbrev pub webster_lower : List ℕ
webster_lower = codes "stage lower = split(upper, counted, webster);"

abbrev pub keep : List ℕ
keep = codes "seats lower keep vacate;"

abbrev pub cover : List ℕ
cover = codes "seats lower cover;"

-- ---- the books

abbrev pub book_1956 : List (List ℕ)
book_1956 =
    codes "rulebook 2;"
    ∷ codes "law \"Bundeswahlgesetz 1956\";"
    ∷ codes "house 494;"
    ∷ common
    ∷ pool
    ∷ codes "stage upper = split(pool, sum(counted, party), jefferson);"
    ∷ codes "stage lower = split(upper, counted, jefferson);"
    ∷ keep
    ∷ []

abbrev pub book_1985 : List (List ℕ)
book_1985 =
    codes "rulebook 2;"
    ∷ codes "law \"Bundeswahlgesetz 1985\";"
    ∷ codes "house 496;"
    ∷ common
    ∷ pool
    ∷ codes "stage upper = split(pool, sum(counted, party), hamilton, majority prefer);"
    ∷ codes "stage lower = split(upper, counted, hamilton);"
    ∷ keep
    ∷ []

abbrev pub book_2008 : List (List ℕ)
book_2008 =
    codes "rulebook 2;"
    ∷ codes "law \"Bundeswahlgesetz 2008\";"
    ∷ codes "house 598;"
    ∷ common
    ∷ pool
    ∷ webster_upper
    ∷ webster_lower
    ∷ keep
    ∷ []

abbrev pub book_2013 : List (List ℕ)
book_2013 =
    codes "rulebook 2;"
    ∷ codes "law \"Bundeswahlgesetz 2013\";"
    ∷ codes "house 598;"
    ∷ common
    ∷ pool
    ∷ codes "stage lands = split(house, population, webster);"
    ∷ codes "stage first = split(less(lands, outside), counted, webster);"
    ∷ codes "stage floor = sum(larger(first, winners), party);"
    ∷ codes "stage upper = grow(pool, sum(counted, party), webster, floor, 4000, majority refuse);"
    ∷ codes "stage lower = split(upper, counted, webster, atleast winners);"
    ∷ keep
    ∷ []

-- what the two books of 2023 have after the title and before the eligible parties, and after these
abbrev pub book_2023_with : List ℕ → List ℕ → List (List ℕ)
book_2023_with title eligible =
    codes "rulebook 1;"
    ∷ title
    ∷ codes "house 630;"
    ∷ eligible
    ∷ free_pool
    ∷ webster_upper
    ∷ webster_lower
    ∷ cover
    ∷ []

abbrev pub book_2023 : List (List ℕ)
book_2023 = book_2023_with (codes "law \"Bundeswahlgesetz 2023\";") (codes "eligible valid at least 5 per 100 or minority;")

abbrev pub book_2023_order : List (List ℕ)
book_2023_order = book_2023_with (codes "law \"Bundeswahlgesetz 2023, order of 2024\";") common

-- ---- names

-- each book by its name
abbrev pub books : List (List ℕ × List (List ℕ))
books =
    (codes "1956", book_1956)
    ∷ (codes "1985", book_1985)
    ∷ (codes "2008", book_2008)
    ∷ (codes "2013", book_2013)
    ∷ (codes "2023", book_2023)
    ∷ (codes "2023-order", book_2023_order)
    ∷ []

-- the text of the book of that name, if there is one
abbrev pub law_text : List ℕ → Option (List ℕ)
law_text name = option_map (λ book. lines book.1) (find (λ book. bytes_eq name book.0) books)
