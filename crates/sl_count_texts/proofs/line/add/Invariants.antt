use Rattle.std.proofs.Common.{◌≡◌, ◌+◌, ◌++◌, take, vec_len, vec_capacity}
use Rattle.sl_count_texts.proofs.line.add.Given as goal

abbrev pub invariant-loop-byte : goal.invariant-loop-byte
invariant-loop-byte l =
    (l.bytes.items ≡ l.initial.bytes.items ++ take l.byte-index l.more)
    × ((vec_len l.bytes ≡ vec_len l.initial.bytes + l.byte-index) × (vec_capacity l.bytes ≡ vec_capacity l.initial.bytes))
