-- The texts, cut and read.
use Rattle.std.proofs.Common.{◌≡◌, ℕ, ◌≤◌, List, [], ◌∷◌, length, get_or, arith, Option, Some, None, Ok, Err, refl, subst}
use Rattle.std.proofs.lemmas.List.Elements.{All-from_recursion}
use Rattle.std.specs.Prelude.{codes}
use Rattle.sl_lex.specs.declared.token.Token.{Token}
use Rattle.sl_lex.proofs.OneCut.{one_list}
use Rattle.sl_law_meaning.specs.book.Trees.{BookTree}
use Rattle.sl_law_meaning.specs.book.Typing.{check_fault}
use Rattle.sl_parse.specs.Grammar.{IsBook}
use Rattle.sl_parse.specs.Parsing.{limits}
use Rattle.sl_parse.specs.inner.Reading.{Read, taken, read_sum, read_two, read_pair, read_division, read_minima, read_majority, read_refusal, read_split, read_grow, read_form, read_node, no_room, read_expr, read_stage, read_stages, read_valid, read_winners, read_condition_at, read_condition, read_more, read_conditions, read_head, read_vacate, read_last, read_front, read_book}
use Rattle.sl_parse.proofs.OneTree.{one, is_within}
use Rattle.sl_parse.proofs.ReadsBook.{BookRead, InBook, reads_book}
use Rattle.sl_parse.proofs.Rules.{Told}
use Rattle.sl_laws.specs.Books.{law_text, lines, book_1956, book_1985, book_2008, book_2013, book_2023, book_2023_order}
use Rattle.sl_law_statutes.specs.Trees.{law_of_1956, law_of_1985, law_of_2008, law_of_2013, law_of_2023, law_of_2023_order, statutes}
use Rattle.sl_law_library.specs.Texts.{IsTextOfTree, HasStatuteTree, TextsHaveTheTrees}
use Rattle.sl_law_library.proofs.Cutting.{tokens_of, are_tokens}

abbrev ok : Read BookTree → Option BookTree
ok (Ok b) = Some b
ok (Err e) = None

abbrev read : List ℕ → Option (List Token) → Option BookTree
read text None = None
read text (Some ts) = ok (read_book text limits ts)

-- more steps than a text of the library has bytes
abbrev parsed : List ℕ → Option BookTree
parsed text = read text (tokens_of 1000 0 text)

is_read : (text : List ℕ) (ts : List Token) (b : BookTree) (r : Read BookTree) → Told r (BookRead text limits ts) (InBook text limits ts) → ok r ≡ Some b → BookRead text limits ts b
is_read text ts b (Ok x) told e = subst (BookRead text limits ts) (let same : x ≡ b = cc in same) told
is_read text ts b (Err f) told e = absurd cc

only : (text : List ℕ) (b : BookTree) → IsTextOfTree text b → (c : BookTree) → IsTextOfTree text c → c ≡ b
only text b h c k =
    let same : k.0 ≡ h.0 = one_list text k.0 h.0 k.1 h.1 in
    one text h.0 c b (subst (λ ts. IsBook text c ts []) same k.2) h.2

has_tree : (name text : List ℕ) (statute : (ℕ → ℕ) → BookTree) (at : ℕ → ℕ) → law_text name ≡ Some text → length text ≤ 1000 → check_fault (statute at) ≡ None → parsed text ≡ Some (statute at) → HasStatuteTree name statute
has_tree name text statute at named short formed e = go (tokens_of 1000 0 text) refl e
  where
    go : (o : Option (List Token)) → tokens_of 1000 0 text ≡ o → read text o ≡ Some (statute at) → HasStatuteTree name statute
    go None is h = absurd cc
    go (Some ts) is h =
        let found = is_read text ts (statute at) (read_book text limits ts) (reads_book text limits 0 ts).told h in
        let tree : IsTextOfTree text (statute at) = (ts, are_tokens 1000 text ts is, found.is) in
        record { text = text; named = named; short = short; formed = formed; at = at; is = tree; within = is_within (statute at).stages found.within; only = only text (statute at) tree }

abbrev at_of : List ℕ → ℕ → ℕ
at_of offsets place = get_or offsets place 0

abbrev offsets_1956 : List ℕ
offsets_1956 = 76 ∷ 127 ∷ 134 ∷ 139 ∷ 146 ∷ 150 ∷ 192 ∷ 196 ∷ 172 ∷ 180 ∷ 186 ∷ 231 ∷ 239 ∷ 245 ∷ 252 ∷ 0 ∷ 0 ∷ 0 ∷ 0 ∷ 0 ∷ 0 ∷ 0 ∷ 0 ∷ 0 ∷ 0 ∷ 0 ∷ 0 ∷ 0 ∷ 0 ∷ 0 ∷ 0 ∷ 0 ∷ 0 ∷ 279 ∷ 290 ∷ 9 ∷ 47 ∷ []

parsed_1956 : parsed (lines book_1956) ≡ Some (law_of_1956 (at_of offsets_1956))
unfolding taken read_sum read_two read_pair read_division read_minima read_majority read_refusal read_split read_grow read_form read_node no_room read_expr read_stage read_stages read_valid read_winners read_condition_at read_condition read_more read_conditions read_head read_vacate read_last read_front read_book
parsed_1956 = refl

has_1956 : HasStatuteTree (codes "1956") law_of_1956
has_1956 = has_tree (codes "1956") (lines book_1956) law_of_1956 (at_of offsets_1956) refl (omega arith) refl parsed_1956

abbrev offsets_1985 : List ℕ
offsets_1985 = 76 ∷ 127 ∷ 134 ∷ 139 ∷ 146 ∷ 150 ∷ 192 ∷ 196 ∷ 172 ∷ 180 ∷ 186 ∷ 247 ∷ 255 ∷ 261 ∷ 268 ∷ 0 ∷ 0 ∷ 0 ∷ 0 ∷ 0 ∷ 0 ∷ 0 ∷ 0 ∷ 0 ∷ 0 ∷ 0 ∷ 0 ∷ 0 ∷ 0 ∷ 0 ∷ 0 ∷ 0 ∷ 0 ∷ 294 ∷ 305 ∷ 9 ∷ 47 ∷ []

parsed_1985 : parsed (lines book_1985) ≡ Some (law_of_1985 (at_of offsets_1985))
unfolding taken read_sum read_two read_pair read_division read_minima read_majority read_refusal read_split read_grow read_form read_node no_room read_expr read_stage read_stages read_valid read_winners read_condition_at read_condition read_more read_conditions read_head read_vacate read_last read_front read_book
parsed_1985 = refl

has_1985 : HasStatuteTree (codes "1985") law_of_1985
has_1985 = has_tree (codes "1985") (lines book_1985) law_of_1985 (at_of offsets_1985) refl (omega arith) refl parsed_1985

abbrev offsets_2008 : List ℕ
offsets_2008 = 76 ∷ 127 ∷ 134 ∷ 139 ∷ 146 ∷ 150 ∷ 192 ∷ 196 ∷ 172 ∷ 180 ∷ 186 ∷ 246 ∷ 254 ∷ 260 ∷ 267 ∷ 0 ∷ 0 ∷ 0 ∷ 0 ∷ 0 ∷ 0 ∷ 0 ∷ 0 ∷ 0 ∷ 0 ∷ 0 ∷ 0 ∷ 0 ∷ 0 ∷ 0 ∷ 0 ∷ 0 ∷ 0 ∷ 292 ∷ 303 ∷ 9 ∷ 47 ∷ []

parsed_2008 : parsed (lines book_2008) ≡ Some (law_of_2008 (at_of offsets_2008))
unfolding taken read_sum read_two read_pair read_division read_minima read_majority read_refusal read_split read_grow read_form read_node no_room read_expr read_stage read_stages read_valid read_winners read_condition_at read_condition read_more read_conditions read_head read_vacate read_last read_front read_book
parsed_2008 = refl

has_2008 : HasStatuteTree (codes "2008") law_of_2008
has_2008 = has_tree (codes "2008") (lines book_2008) law_of_2008 (at_of offsets_2008) refl (omega arith) refl parsed_2008

abbrev offsets_2013 : List ℕ
offsets_2013 = 76 ∷ 127 ∷ 134 ∷ 139 ∷ 146 ∷ 150 ∷ 351 ∷ 355 ∷ 332 ∷ 340 ∷ 345 ∷ 418 ∷ 426 ∷ 432 ∷ 439 ∷ 172 ∷ 180 ∷ 186 ∷ 193 ∷ 221 ∷ 229 ∷ 235 ∷ 240 ∷ 247 ∷ 257 ∷ 282 ∷ 290 ∷ 294 ∷ 301 ∷ 308 ∷ 381 ∷ 388 ∷ 465 ∷ 481 ∷ 492 ∷ 9 ∷ 47 ∷ []

parsed_2013 : parsed (lines book_2013) ≡ Some (law_of_2013 (at_of offsets_2013))
unfolding taken read_sum read_two read_pair read_division read_minima read_majority read_refusal read_split read_grow read_form read_node no_room read_expr read_stage read_stages read_valid read_winners read_condition_at read_condition read_more read_conditions read_head read_vacate read_last read_front read_book
parsed_2013 = refl

has_2013 : HasStatuteTree (codes "2013") law_of_2013
has_2013 = has_tree (codes "2013") (lines book_2013) law_of_2013 (at_of offsets_2013) refl (omega arith) refl parsed_2013

abbrev offsets_2023 : List ℕ
offsets_2023 = 76 ∷ 105 ∷ 112 ∷ 117 ∷ 124 ∷ 128 ∷ 175 ∷ 179 ∷ 155 ∷ 163 ∷ 169 ∷ 229 ∷ 237 ∷ 243 ∷ 250 ∷ 0 ∷ 0 ∷ 0 ∷ 0 ∷ 0 ∷ 0 ∷ 0 ∷ 0 ∷ 0 ∷ 0 ∷ 0 ∷ 0 ∷ 0 ∷ 0 ∷ 0 ∷ 0 ∷ 0 ∷ 0 ∷ 275 ∷ 0 ∷ 9 ∷ 47 ∷ []

parsed_2023 : parsed (lines book_2023) ≡ Some (law_of_2023 (at_of offsets_2023))
unfolding taken read_sum read_two read_pair read_division read_minima read_majority read_refusal read_split read_grow read_form read_node no_room read_expr read_stage read_stages read_valid read_winners read_condition_at read_condition read_more read_conditions read_head read_vacate read_last read_front read_book
parsed_2023 = refl

has_2023 : HasStatuteTree (codes "2023") law_of_2023
has_2023 = has_tree (codes "2023") (lines book_2023) law_of_2023 (at_of offsets_2023) refl (omega arith) refl parsed_2023

abbrev offsets_2023_order : List ℕ
offsets_2023_order = 91 ∷ 142 ∷ 149 ∷ 154 ∷ 161 ∷ 165 ∷ 212 ∷ 216 ∷ 192 ∷ 200 ∷ 206 ∷ 266 ∷ 274 ∷ 280 ∷ 287 ∷ 0 ∷ 0 ∷ 0 ∷ 0 ∷ 0 ∷ 0 ∷ 0 ∷ 0 ∷ 0 ∷ 0 ∷ 0 ∷ 0 ∷ 0 ∷ 0 ∷ 0 ∷ 0 ∷ 0 ∷ 0 ∷ 312 ∷ 0 ∷ 9 ∷ 62 ∷ []

parsed_2023_order : parsed (lines book_2023_order) ≡ Some (law_of_2023_order (at_of offsets_2023_order))
unfolding taken read_sum read_two read_pair read_division read_minima read_majority read_refusal read_split read_grow read_form read_node no_room read_expr read_stage read_stages read_valid read_winners read_condition_at read_condition read_more read_conditions read_head read_vacate read_last read_front read_book
parsed_2023_order = refl

has_2023_order : HasStatuteTree (codes "2023-order") law_of_2023_order
has_2023_order = has_tree (codes "2023-order") (lines book_2023_order) law_of_2023_order (at_of offsets_2023_order) refl (omega arith) refl parsed_2023_order

pub texts_have_the_trees : TextsHaveTheTrees
texts_have_the_trees = (
  All-from_recursion (λ statute. HasStatuteTree statute.0 statute.1) statutes (has_1956, (has_1985, (has_2008, (has_2013, (has_2023, (has_2023_order, tt)))))),
  refl,
)
