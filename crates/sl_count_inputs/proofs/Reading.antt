-- What is said of the bytes that were read is said of those of the input.
use Rattle.std.proofs.Common.{Bool, IfSome, List, None, Option, Some, [], cond, length, subst, sym, ◌≡◌, ◌≤◌, ℕ}
use Rattle.std.proofs.lemmas.Bool.{le-leb}
use Rattle.sl_count_inputs.specs.Texts.{IsReadText}

pub said_of_known : (IsSaid : List ℕ → Type 0) (limit : ℕ) (known : Option (List ℕ)) (bytes : List ℕ) → IfSome known (λ all. (bytes ≡ all) × (length all ≤ limit)) → IsSaid bytes
    → IfSome known IsSaid
said_of_known IsSaid limit None bytes same said = tt
said_of_known IsSaid limit (Some all) bytes same said = subst IsSaid same.0 said

-- the text of an input that is whole
pub whole_text : (limit : ℕ) (known : Option (List ℕ)) (bytes : List ℕ) → IfSome known (λ all. (bytes ≡ all) × (length all ≤ limit)) → IfSome known (λ all. IsReadText limit all bytes)
whole_text limit None bytes same = tt
whole_text limit (Some all) bytes same = subst (λ (b : Bool). bytes ≡ cond b all []) (sym (le-leb (length all) limit same.1)) same.0
