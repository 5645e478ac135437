use Rattle.std.proofs.Common.{◌∙◌, ap, map}
use Rattle.std.proofs.lemmas.Result.{IfOk-weaker}
use Rattle.clap.specs.Words.{found_of}
use Rattle.sl_terminal_words.proofs.Matched.{no_words, some_words}
use Rattle.sl_terminal_words.proofs.given.words_in.Goals as goal

pub returns-in-Some : goal.returns-in-Some
returns-in-Some c = IfOk-weaker c.from_slice.result _ _ (λ v h. ap (map (λ word. word.now)) h
    ∙ some_words (found_of c.args.given.now) c.args.name.now c.in-Some.words.now c.in-Some.ensures) c.from_slice.ensures.items

pub returns-in-None : goal.returns-in-None
returns-in-None c = ap (map (λ word. word.now)) c.new.ensures.items ∙ no_words (found_of c.args.given.now) c.args.name.now c.in-None.ensures
