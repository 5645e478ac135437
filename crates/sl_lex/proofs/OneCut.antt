-- A text is cut in one way at most, and shows one fault at most.
use Rattle.std.proofs.Common.{◌≡◌, ℕ, ◌-◌, List, [], ◌∷◌, ◌++◌, length, take, drop, refl, sym, ap, ◌∙◌, arith}
use Rattle.std.proofs.lemmas.List.{take_at, drop_at}
use Rattle.sl_lex.specs.declared.token.Token.{Token}
use Rattle.sl_lex.specs.declared.fault.LexFault.{LexFault}
use Rattle.sl_lex.specs.declared.fault.LexFault.TheVariants.{BadByte, OpenString, BigNumber, LongName, NoMemory}
use Rattle.sl_lex.specs.Pieces.{Form, word, number, IsPiece, IsLongest, BeginsNone}
use Rattle.sl_lex.specs.Tokens.{Piece, IsCut, IsTooMuch, tokens_from, AreTokens, BeginsTooMuch, ShowsAt, IsFault}
use Rattle.sl_lex.proofs.Forms.{first_byte, one_form}

same_form : (f g : Form) (bytes : List ℕ) → IsPiece f bytes → IsPiece g bytes → f ≡ g
same_form f g [] h k = absurd h
same_form f g (b ∷ bytes) h k = one_form f g b (first_byte f b bytes h) (first_byte g b bytes k)

-- at most one piece is the longest
same_longest : (f g : Form) (a b x y : List ℕ) → IsLongest f a x → IsLongest g b y → a ++ x ≡ b ++ y → (f ≡ g) × (a ≡ b) × (x ≡ y)
same_longest f g a b x y h k e =
    let size : length b ≡ length a = omega (arith, h.longest g b y k.is (sym e), k.longest f a x h.is e) in
    let fronts : a ≡ b = sym (take_at a x (length a) refl) ∙ ap (take (length a)) e ∙ take_at b y (length a) size in
    let rests : x ≡ y = sym (drop_at a x (length a) refl) ∙ ap (drop (length a)) e ∙ drop_at b y (length a) size in
    (same_form f g a h.is (rw fronts k.is), fronts, rests)

-- no piece is cut off here
abbrev IsStop : List ℕ → Type 0
IsStop here = (f : Form) (bytes behind : List ℕ) → here ≡ bytes ++ behind → IsLongest f bytes behind → (IsTooMuch f bytes → ⊥) → ⊥

no_piece : (f : Form) (bytes behind : List ℕ) → [] ≡ bytes ++ behind → IsPiece f bytes → ⊥
no_piece f [] behind e h = h
no_piece f (b ∷ bytes) behind e h = absurd cc

stop_at_end : IsStop []
stop_at_end = λ f bytes behind e longest fits. no_piece f bytes behind e longest.is

not_much : (f : Form) (here : List ℕ) → BeginsTooMuch f here → IsStop here
not_much f here h = λ g bytes behind e longest fits.
    let same = same_longest f g h.0 bytes h.1 behind h.3 longest (sym h.2 ∙ e) in
    fits (rw (same.0, same.1) at h.4)

stop_at_fault : (at : ℕ) (here : List ℕ) (fault : LexFault) → ShowsAt at here fault → IsStop here
stop_at_fault at [] fault h = absurd h
stop_at_fault at (b ∷ bytes) (BadByte n) h = λ g piece behind e longest fits. h.1 g piece behind longest.is e
stop_at_fault at (b ∷ bytes) (OpenString n) h = λ g piece behind e longest fits. h.1 g piece behind longest.is e
stop_at_fault at (b ∷ bytes) (BigNumber n) h = not_much number (b ∷ bytes) h.1
stop_at_fault at (b ∷ bytes) (LongName n) h = not_much word (b ∷ bytes) h.1
stop_at_fault at (b ∷ bytes) NoMemory h = absurd h

abbrev piece_of : Form → List ℕ → Piece
piece_of f bytes = record { form = f; bytes = bytes }

same_piece : (p q : Piece) → p.form ≡ q.form → p.bytes ≡ q.bytes → p ≡ q
same_piece p q e f = ap (λ (g : Form). piece_of g p.bytes) e ∙ ap (λ (bytes : List ℕ). piece_of q.form bytes) f

one_cut : (ps qs : List Piece) (here x y : List ℕ) → IsStop x → IsStop y → IsCut ps here x → IsCut qs here y → (ps ≡ qs) × (x ≡ y)
one_cut [] [] here x y stop_x stop_y h k = (refl, sym h ∙ k)
one_cut [] (q ∷ qs) here x y stop_x stop_y h k = absurd (stop_x q.form q.bytes k.0 (sym h ∙ k.1) k.2 k.3)
one_cut (p ∷ ps) [] here x y stop_x stop_y h k = absurd (stop_y p.form p.bytes h.0 (sym k ∙ h.1) h.2 h.3)
one_cut (p ∷ ps) (q ∷ qs) here x y stop_x stop_y h k =
    let heads = same_longest p.form q.form p.bytes q.bytes h.0 k.0 h.2 k.2 (sym h.1 ∙ k.1) in
    let tails = one_cut ps qs h.0 x y stop_x stop_y h.4 (rw heads.2 k.4) in
    let same : p ≡ q = same_piece p q heads.0 heads.1 in
    (ap (λ (r : Piece). r ∷ ps) same ∙ ap (λ (rs : List Piece). q ∷ rs) tails.0, tails.1)

pub one_list : (source : List ℕ) (a b : List Token) → AreTokens source a → AreTokens source b → a ≡ b
one_list source a b h k =
    let same = one_cut h.0 k.0 source [] [] stop_at_end stop_at_end h.1 k.1 in
    h.2 ∙ ap (tokens_from 0) same.0 ∙ sym k.2

pub no_fault_of_tokens : (source : List ℕ) (tokens : List Token) (fault : LexFault) → AreTokens source tokens → IsFault source fault → ⊥
no_fault_of_tokens source tokens fault h k =
    let same = one_cut h.0 k.0 source [] k.1 stop_at_end (stop_at_fault (length source - length k.1) k.1 fault k.3) h.1 k.2 in
    rw (← same.1) at k.3

none_or_much : (f : Form) (here : List ℕ) → BeginsNone here → BeginsTooMuch f here → ⊥
none_or_much f here h k = h f k.0 k.1 k.3.is k.2

number_or_word : (here : List ℕ) → BeginsTooMuch number here → BeginsTooMuch word here → ⊥
number_or_word here h k =
    let same = same_longest number word h.0 k.0 h.1 k.1 h.3 k.3 (sym h.2 ∙ k.2) in
    let apart : number ≡ word = same.0 in
    absurd cc

one_shown : (at : ℕ) (here : List ℕ) (a b : LexFault) → ShowsAt at here a → ShowsAt at here b → a ≡ b
one_shown at [] a b h k = absurd h
one_shown at (c ∷ bytes) NoMemory b h k = absurd h
one_shown at (c ∷ bytes) (BadByte m) (BadByte n) h k = ap (λ i. BadByte i) (h.0 ∙ sym k.0)
one_shown at (c ∷ bytes) (BadByte m) (OpenString n) h k = absurd (h.2 k.2)
one_shown at (c ∷ bytes) (BadByte m) (BigNumber n) h k = absurd (none_or_much number (c ∷ bytes) h.1 k.1)
one_shown at (c ∷ bytes) (BadByte m) (LongName n) h k = absurd (none_or_much word (c ∷ bytes) h.1 k.1)
one_shown at (c ∷ bytes) (OpenString m) (BadByte n) h k = absurd (k.2 h.2)
one_shown at (c ∷ bytes) (OpenString m) (OpenString n) h k = ap (λ i. OpenString i) (h.0 ∙ sym k.0)
one_shown at (c ∷ bytes) (OpenString m) (BigNumber n) h k = absurd (none_or_much number (c ∷ bytes) h.1 k.1)
one_shown at (c ∷ bytes) (OpenString m) (LongName n) h k = absurd (none_or_much word (c ∷ bytes) h.1 k.1)
one_shown at (c ∷ bytes) (BigNumber m) (BadByte n) h k = absurd (none_or_much number (c ∷ bytes) k.1 h.1)
one_shown at (c ∷ bytes) (BigNumber m) (OpenString n) h k = absurd (none_or_much number (c ∷ bytes) k.1 h.1)
one_shown at (c ∷ bytes) (BigNumber m) (BigNumber n) h k = ap (λ i. BigNumber i) (h.0 ∙ sym k.0)
one_shown at (c ∷ bytes) (BigNumber m) (LongName n) h k = absurd (number_or_word (c ∷ bytes) h.1 k.1)
one_shown at (c ∷ bytes) (LongName m) (BadByte n) h k = absurd (none_or_much word (c ∷ bytes) k.1 h.1)
one_shown at (c ∷ bytes) (LongName m) (OpenString n) h k = absurd (none_or_much word (c ∷ bytes) k.1 h.1)
one_shown at (c ∷ bytes) (LongName m) (BigNumber n) h k = absurd (number_or_word (c ∷ bytes) k.1 h.1)
one_shown at (c ∷ bytes) (LongName m) (LongName n) h k = ap (λ i. LongName i) (h.0 ∙ sym k.0)
one_shown at (c ∷ bytes) a NoMemory h k = absurd k

pub one_fault : (source : List ℕ) (a b : LexFault) → IsFault source a → IsFault source b → a ≡ b
one_fault source a b h k =
    let shown = λ (rest : List ℕ). length source - length rest in
    let same = one_cut h.0 k.0 source h.1 k.1 (stop_at_fault (shown h.1) h.1 a h.3) (stop_at_fault (shown k.1) k.1 b k.3) h.2 k.2 in
    one_shown (shown h.1) h.1 a b h.3 (rw same.1 k.3)
