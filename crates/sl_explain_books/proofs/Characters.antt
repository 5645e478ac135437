-- First bytes that are UTF-8, as they are tested.
use Rattle.std.proofs.Common.{◌≡◌, ◌∙◌, ℕ, ◌-◌, ◌≤◌, ◌&&◌, Bool, List, ap, arith, length, sym, take}
use Rattle.std.specs.List.{slice_range}
use Rattle.std.specs.Str.{is_utf8}
use Rattle.std.proofs.lemmas.Bool.{le-leb}
use Rattle.sl_explain_books.specs.Characters.{is_front}

pub fronted : (text bytes : List ℕ) (n : ℕ) (b : Bool) → n ≤ length text → bytes ≡ slice_range text 0 n → b ≡ is_utf8 bytes → b ≡ is_front text n
fronted text bytes n b within same is =
    let all : n - 0 ≡ n = omega arith in
    is ∙ ap is_utf8 (same ∙ ap (λ k. take k text) all) ∙ sym (ap (λ (t : Bool). t && is_utf8 (take n text)) (le-leb n (length text) within))
