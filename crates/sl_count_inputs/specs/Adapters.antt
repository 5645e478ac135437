-- What a source over a reader of std and a sink over a writer of std hold.
use Rattle.std.specs.Prelude.{ℕ}
use Rattle.sl_count_inputs.specs.declared.source.FromRead.{FromRead}
use Rattle.sl_count_inputs.specs.declared.sink.ToWrite.{ToWrite}

abbrev pub reader_under : {R : Type 0} → FromRead R → R
reader_under s = s.reader

abbrev pub reader_failures : {R : Type 0} → FromRead R → ℕ
reader_failures s = s.failures

abbrev pub writer_under : {W : Type 0} → ToWrite W → W
writer_under s = s.writer

abbrev pub writer_failures : {W : Type 0} → ToWrite W → ℕ
writer_failures s = s.failures
