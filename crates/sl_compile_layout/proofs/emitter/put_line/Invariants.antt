use Rattle.std.proofs.Common.{◌≡◌, ◌+◌, ◌≤◌, ◌++◌, map, take, vec_len, vec_capacity}
use Rattle.sl_compile_layout.specs.inner.Layout.{filled}
use Rattle.sl_compile_plans.specs.Trees.{known_after_all}
use Rattle.sl_compile_layout.proofs.emitter.put_line.Given as goal

abbrev pub invariant-loop-part : goal.invariant-loop-part
invariant-loop-part l = record {
  known : l.known ≡ known_after_all l.initial.known (map (filled l.given) (take l.part-index l.parts));
  items : l.code.items ≡ l.initial.code.items ++ map (filled l.given) (take l.part-index l.parts);
  len : vec_len l.code ≡ vec_len l.initial.code + l.part-index;
  capacity : vec_capacity l.initial.code ≤ vec_capacity l.code;
}
