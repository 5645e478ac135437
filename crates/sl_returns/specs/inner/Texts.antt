-- A text in memory, as a reader of bytes.
use Rattle.std.specs.Prelude.{ℕ, List, Option, Some}
use Rattle.std.proofs.Common.{Bor}

-- the bytes that it has left, which are known
abbrev pub left_of : Bor (List ℕ) → Option (List ℕ)
left_of s = Some s.now
