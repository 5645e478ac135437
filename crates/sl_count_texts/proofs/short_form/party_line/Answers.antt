use Rattle.std.proofs.Common.{rules, append_assoc}
use Rattle.std.proofs.lemmas.Option.{get_or_from_slice_get}
use Rattle.std.proofs.lemmas.Result.{IfOk-equal}
use Rattle.sl_count_texts.proofs.short_form.party_line.Goals as goal

pub returns : goal.returns
returns c = search (rules, IfOk-equal, append_assoc, get_or_from_slice_get)
