-- A text of which a prefix was written.
use Rattle.std.proofs.Common.{◌≡◌, ℕ, List, ◌++◌, take, drop, length, Option, Result, Ok, Err, ap, sym, ◌∙◌, append_assoc}
use Rattle.std.proofs.lemmas.List.{take-append-drop}
use Rattle.std.proofs.KnownBytes.{Appends-trans}
use Rattle.std.proofs.Math.Seq.{take-append_seam}
use Rattle.std.specs.Io.KnownBytes.{Appends}
use Rattle.std.specs.Result.{IsErr}
use Rattle.sl_count_inputs.specs.Writing.{AppendsPrefix, Writes}

-- what grew by the first part of a text grew by a prefix of it
pub prefix_of : (old new : Option (List ℕ)) (text prefix rest : List ℕ) → text ≡ prefix ++ rest → Appends old new prefix → AppendsPrefix old new text
prefix_of old new text prefix rest e h = (length prefix, rw (e, take-append_seam prefix rest) h)

-- where a call of the sink failed
pub writes_prefix : {X E : Type 0} (text : List ℕ) (old new : Option (List ℕ)) (r : Result X E) → IsErr r → AppendsPrefix old new text → Writes text old new r
writes_prefix text old new (Ok x) h written = absurd cc
writes_prefix text old new (Err e) h written = written

-- a text of two parts: the first was written, and then the second
pub writes_both : {X E : Type 0} (a b : List ℕ) (old mid new : Option (List ℕ)) (r : Result X E) → Appends old mid a → Writes b mid new r → Writes (a ++ b) old new r
writes_both a b old mid new (Ok x) first second = Appends-trans old mid new a b first second
writes_both a b old mid new (Err e) first second =
    let n : ℕ = second.0 in
    let parts : a ++ b ≡ (a ++ take n b) ++ drop n b = ap (λ r. a ++ r) (sym (take-append-drop n b)) ∙ sym (append_assoc a (take n b) (drop n b)) in
    prefix_of old new (a ++ b) (a ++ take n b) (drop n b) parts (Appends-trans old mid new a (take n b) first second.1)

-- the first part failed
pub fails_first : {X E : Type 0} (a b : List ℕ) (old new : Option (List ℕ)) (r : Result X E) → IsErr r → AppendsPrefix old new a → Writes (a ++ b) old new r
fails_first a b old new r failed written =
    let n : ℕ = written.0 in
    let parts : a ++ b ≡ take n a ++ (drop n a ++ b) = ap (λ r. r ++ b) (sym (take-append-drop n a)) ∙ append_assoc (take n a) (drop n a) b in
    writes_prefix (a ++ b) old new r failed (prefix_of old new (a ++ b) (take n a) (drop n a ++ b) parts written.1)
