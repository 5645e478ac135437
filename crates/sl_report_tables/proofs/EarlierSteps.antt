-- The words of a line, by where it is cut at its first blank; and lines, one more.
use Rattle.std.proofs.Common.{◌≡◌, ℕ, ◌+◌, ◌<◌, Bool, true, false, cond, List, [], ◌∷◌, ◌++◌, Option, None, Some, length, arith, ap, is_some, map, not, refl, suc, sym, take, true≢false, ◌∙◌, ◌||◌, ◌&&◌, ◌-◌}
use Rattle.std.specs.Borrow.{Bor}
use Rattle.std.specs.List.{after_first, before_first, cons_option, filter_map, fold, list_all, list_any, position, position_or_len}
use Rattle.std.specs.Prelude.{MatchOption, codes, if◌then◌else◌, nat_eq, nat_lt, slice_get, sum_by}
use Rattle.std.specs.Str.Lines.{lines}
use Rattle.std.proofs.lemmas.Bool.{lt-ltb}
use Rattle.std.proofs.lemmas.List.{length-map, map-append, take_more}
use Rattle.std.proofs.lemmas.List.Folds.{list_all-map}
use Rattle.std.proofs.lemmas.List.Elements.{All-from_get_or, filter_map-append}
use Rattle.std.proofs.lemmas.Option.{get_or_from_slice_get, slice_get_within}
use Rattle.std.proofs.lemmas.List.Splits.{length-slice_split, slice_split_first, slice_split_none}
use Rattle.std.proofs.lemmas.List.Sums.{fails_before_first}
use Rattle.std.specs.Str.{bytes_eq}
use Rattle.sl_returns.specs.Cells.{is_number, number_of}
use Rattle.sl_report_parties.specs.Earlier.{all_before}
use Rattle.sl_report_parties.specs.Sums.{capped}
use Rattle.sl_report_parties.specs.declared.earlier.EarlierParty.{EarlierParty}
use Rattle.sl_report_tables.specs.Earlier.{is_line, is_table, others_told, party_told, told_parties, told_party, total_told, with_others, words}
use Rattle.sl_report_parties.proofs.Steps.{any_is}

pub one_word : (line : List ℕ) → position_or_len (λ b. nat_eq b 32) line ≡ length line → words line ≡ line ∷ []
one_word line none =
    slice_split_none (λ b. nat_eq b 32) line
    (All-from_get_or (λ b. nat_eq b 32 ≡ false) line 0 (λ k within. fails_before_first (λ b. nat_eq b 32) line k 0 (omega (arith, none, within))))

pub first_word : (line before after : List ℕ) → position_or_len (λ b. nat_eq b 32) line < length line → before ≡ before_first (λ b. nat_eq b 32) line →
    after ≡ after_first (λ b. nat_eq b 32) line → words line ≡ before ∷ words after
first_word line before after within is_before is_after =
    slice_split_first (λ b. nat_eq b 32) line 0 within ∙ ap (λ w. w ∷ words (after_first (λ b. nat_eq b 32) line)) (sym is_before) ∙ ap (λ rest. before ∷ words rest) (sym is_after)

-- there is an element that fails exactly where not all pass
pub some_wrong : {X : Type 0} (p : X → Bool) (xs : List X) → is_some (position (λ x. not (p x)) xs) ≡ not (list_all p xs)
some_wrong {X} p xs = there (nat_lt (position_or_len (λ x. not (p x)) xs) (length xs)) (position_or_len (λ x. not (p x)) xs) ∙ any_is (λ x. not (p x)) xs ∙ any_fails xs
  where
    there : (b : Bool) (n : ℕ) → is_some (cond b (Some n) None) ≡ b
    there true n = refl
    there false n = refl

    either : (b c d : Bool) → c ≡ not d → (not b || c) ≡ not (b && d)
    either true c d rest = rest
    either false c d rest = refl

    any_fails : (ys : List X) → list_any (λ x. not (p x)) ys ≡ not (list_all p ys)
    any_fails [] = refl
    any_fails (y ∷ ys) = either (p y) (list_any (λ x. not (p x)) ys) (list_all p ys) (any_fails ys)

pub not_empty : {X : Type 0} (xs : List X) (b : Bool) → nat_eq (length xs) 0 ≡ false → not (nat_lt 0 (length xs) && b) ≡ not b
not_empty [] b empty = absurd (true≢false empty)
not_empty (x ∷ xs) b some = ap (λ c. not (c && b)) (lt-ltb 0 (suc (length xs)) (omega arith))

found_next : {X Y : Type 0} (h : X → Option Y) (xs : List X) (n : ℕ) (x : X) → slice_get xs n ≡ Some x →
    filter_map h (take (n + 1) xs) ≡ filter_map h (take n xs) ++ filter_map h (x ∷ [])
found_next h xs n x there =
    ap (filter_map h) (take_more xs n x (slice_get_within xs n x there) ∙ ap (λ y. take n xs ++ y ∷ []) (get_or_from_slice_get xs n x x there))
    ∙ filter_map-append h (take n xs) (x ∷ [])

-- the parties of one line more
pub parties_more : (xs : List (Bor (List ℕ))) (n : ℕ) (x : Bor (List ℕ)) (ys zs : List (List ℕ × ℕ)) → slice_get xs n ≡ Some x →
    ys ≡ filter_map (λ l. told_party (words l.now)) (take n xs) → zs ≡ ys ++ filter_map (λ l. told_party (words l)) (x.now ∷ []) →
    zs ≡ filter_map (λ l. told_party (words l.now)) (take (n + 1) xs)
parties_more xs n x ys zs there so_far pushed =
    pushed ∙ ap (λ v. v ++ filter_map (λ l. told_party (words l)) (x.now ∷ [])) so_far
    ∙ sym (found_next (λ l. told_party (words l.now)) xs n x there)

-- a line of more than four words tells no party
too_many : (word name seats direct after : List ℕ) → told_party (word ∷ name ∷ seats ∷ direct ∷ words after) ≡ None
too_many word name seats direct after = of_some (words after) (omega (arith, length-slice_split (λ b. nat_eq b 32) after))
  where
    of_some : (more : List (List ℕ)) → 0 < length more → told_party (word ∷ name ∷ seats ∷ direct ∷ more) ≡ None
    of_some [] none = absurd (omega (arith, none))
    of_some (m ∷ more) some = refl

none_case : {X P : Type 0} (Q : X → Type 0) (o : Option X) → MatchOption o P Q → is_some o ≡ false → P
none_case Q None case none = case
none_case Q (Some x) case none = absurd (true≢false none)

-- the number that some bytes spell
abbrev pub spelled : List ℕ → Option ℕ
spelled c = if is_number c then Some (number_of c) else None

spelled_some : (n : ℕ) (c : List ℕ) → Some n ≡ spelled c → (is_number c ≡ true) × (n ≡ number_of c)
spelled_some n c = is (is_number c) (number_of c)
  where
    or_zero : Option ℕ → ℕ
    or_zero None = 0
    or_zero (Some k) = k

    is : (b : Bool) (m : ℕ) → Some n ≡ (if b then Some m else None) → (b ≡ true) × (n ≡ m)
    is true m same = (refl, ap or_zero same)
    is false m same = absurd (true≢false (ap is_some same))

spelled_none : (c : List ℕ) → None ≡ spelled c → is_number c ≡ false
spelled_none c = is (is_number c) (number_of c)
  where
    is : (b : Bool) (m : ℕ) → None ≡ (if b then Some m else None) → b ≡ false
    is true m same = absurd (true≢false (sym (ap is_some same)))
    is false m same = refl

and_false : (b : Bool) → (b && false) ≡ false
and_false true = refl
and_false false = refl

module _ {X : Type 0} (Q : X → Type 0) (line word rest name more seats direct : List ℕ) (after : Option X) (first : words line ≡ word ∷ words rest)
    (second : words rest ≡ name ∷ words more) (third : words more ≡ seats ∷ words direct) (fourth : MatchOption after (words direct ≡ direct ∷ []) Q) (none : is_some after ≡ false) where
  four : words line ≡ word ∷ name ∷ seats ∷ direct ∷ []
  four = first ∙ ap (λ ws. word ∷ ws) (second ∙ ap (λ ws. name ∷ ws) (third ∙ ap (λ ws. seats ∷ ws) (none_case Q after fourth none)))

  -- the party of a line of four words
  pub party_of : (n m : ℕ) → bytes_eq word (codes "party") ≡ true → Some m ≡ spelled direct → Some n ≡ spelled seats → Some (name, n) ≡ told_party (words line)
  party_of n m is_party direct_is seats_is =
      ap (λ k. Some (name, k)) (spelled_some n seats seats_is).1
      ∙ ap (λ b. if true && true && b then Some (name, number_of seats) else None) (sym (spelled_some m direct direct_is).0)
      ∙ ap (λ b. if true && b && is_number direct then Some (name, number_of seats) else None) (sym (spelled_some n seats seats_is).0)
      ∙ ap (λ b. if b && is_number seats && is_number direct then Some (name, number_of seats) else None) (sym is_party)
      ∙ sym (ap told_party four)

  -- no party, where the last word is no number
  pub no_direct : None ≡ spelled direct → None ≡ told_party (words line)
  no_direct not_told =
      sym (
      ap told_party four
      ∙ ap (λ b. if bytes_eq word (codes "party") && is_number seats && b then Some (name, number_of seats) else None) (spelled_none direct not_told)
      ∙ ap (λ b. if b then Some (name, number_of seats) else None) (and_false (bytes_eq word (codes "party") && is_number seats)))

  -- no party, where the word before it is no number
  pub no_seats : None ≡ spelled seats → None ≡ told_party (words line)
  no_seats not_told =
      sym (
      ap told_party four
      ∙ ap (λ b. if bytes_eq word (codes "party") && b && is_number direct then Some (name, number_of seats) else None) (spelled_none seats not_told)
      ∙ ap (λ b. if b && is_number direct then Some (name, number_of seats) else None) (and_false (bytes_eq word (codes "party"))))

some_case : {X : Type 0} (P : Type 0) (Q : X → Type 0) (o : Option X) → MatchOption o P Q → is_some o ≡ true → (x : X) × Q x
some_case P Q None case some = absurd (true≢false (sym some))
some_case P Q (Some x) case some = (x, case)

-- no party, where words stand after the fourth one
pub five_words : (line word rest name more seats direct : List ℕ) (after : Option (Bor (List ℕ) × Bor (List ℕ))) → words line ≡ word ∷ words rest →
    words rest ≡ name ∷ words more → words more ≡ seats ∷ words direct →
    MatchOption after (words direct ≡ direct ∷ []) (λ x. words direct ≡ x.0.now ∷ words x.1.now) → is_some after ≡ true → None ≡ told_party (words line)
five_words line word rest name more seats direct after first second third fourth some =
    let cut = some_case (words direct ≡ direct ∷ []) (λ (x : Bor (List ℕ) × Bor (List ℕ)). words direct ≡ x.0.now ∷ words x.1.now) after fourth some in
    sym (
    ap told_party (first ∙ ap (λ ws. word ∷ ws) (second ∙ ap (λ ws. name ∷ ws) (third ∙ ap (λ ws. seats ∷ ws) cut.1)))
    ∙ too_many word name seats cut.0.0.now cut.0.1.now)

-- no party, where the first word is another one
pub other_word : (line word rest : List ℕ) → words line ≡ word ∷ words rest → bytes_eq word (codes "party") ≡ false → None ≡ told_party (words line)
other_word line word rest first other = sym (ap told_party first ∙ of (words rest))
  where
    of : (ws : List (List ℕ)) → told_party (word ∷ ws) ≡ None
    of [] = refl
    of (a ∷ []) = refl
    of (a ∷ b ∷ []) = refl
    of (a ∷ b ∷ d ∷ []) = ap (λ p. if p && is_number b && is_number d then Some (a, number_of b) else None) other
    of (a ∷ b ∷ d ∷ e ∷ ws) = refl

-- a text by its lines
pub table_is : (text : List ℕ) (all : List (Bor (List ℕ))) → map (λ l. l.now) all ≡ lines text → is_table text ≡ (nat_lt 0 (length all) && list_all (λ l. is_line l.now) all)
table_is text all are =
    ap (λ ls. nat_lt 0 (length ls) && list_all is_line ls) (sym are)
    ∙ ap (λ n. nat_lt 0 n && list_all is_line (map (λ l. l.now) all)) (length-map all (λ l. l.now))
    ∙ ap (λ b. nat_lt 0 (length all) && b) (list_all-map is_line (λ l. l.now) all)

-- the parties that lines tell, lent or not
told_each : (ls : List (Bor (List ℕ))) → filter_map (λ l. told_party (words l.now)) ls ≡ told_parties (map (λ l. l.now) ls)
told_each [] = refl
told_each (l ∷ ls) = ap (cons_option (told_party (words l.now))) (told_each ls)

told_seats : (n : ℕ) (ps : List EarlierParty) → fold (λ m p. m + p.seats) n ps ≡ fold (λ m p. m + p.1) n (map party_told ps)
told_seats n [] = refl
told_seats n (p ∷ ps) = told_seats (n + p.seats) ps

-- with those who sit without a party behind the parties that lines tell, these are all
pub all_told : (lines : List (Bor (List ℕ))) (found new : List EarlierParty) (x : EarlierParty) → map party_told found ≡ filter_map (λ l. told_party (words l.now)) lines →
    x.name.now ≡ [] → x.seats ≡ total_told (map (λ l. l.now) lines) - all_before found → new ≡ found ++ x ∷ [] → map party_told new ≡ with_others (map (λ l. l.now) lines)
all_told lines found new x are name seats pushed =
    ap (map party_told) pushed ∙ map-append party_told found (x ∷ []) ∙ ap (λ ps. ps ++ party_told x ∷ []) told ∙ ap (λ p. told_parties texts ++ p ∷ []) (λ i. (name i, amount i))
  where
    texts : List (List ℕ)
    texts = map (λ l. l.now) lines

    told : map party_told found ≡ told_parties texts
    told = are ∙ told_each lines

    amount : x.seats ≡ others_told texts
    amount = seats ∙ ap (λ n. total_told texts - capped n) (told_seats 0 found ∙ ap (sum_by (λ p. p.1)) told)
