-- The settings of the reader.
use Rattle.std.proofs.Common.{◌≡◌, ◌∙◌, true, false, ap, inr}
use Rattle.csv.specs.Reading.{builder_config, builder_is_flexible, builder_names_headers, builder_trim, with_flexible, with_names_headers}
use Rattle.csv.specs.declared.reader.ReaderBuilder.{ReaderBuilder}
use Rattle.sl_returns.proofs.read.reader_of.Goals as goal

abbrev settings : ReaderBuilder → ReaderBuilder
settings b = with_flexible (with_names_headers b false) true

pub returns-clause-trims : goal.returns-clause-trims
returns-clause-trims c =
    let setup : c.flexible.result.now ≡ settings c.new.result = c.flexible.ensures ∙ ap (λ b. with_flexible b true) c.has_headers.ensures in
    c.from_reader.ensures.trim ∙ ap builder_trim setup ∙ c.new.ensures.trim

pub returns-clause-ready : goal.returns-clause-ready
returns-clause-ready c =
    let setup : c.flexible.result.now ≡ settings c.new.result = c.flexible.ensures ∙ ap (λ b. with_flexible b true) c.has_headers.ensures in
    inr (inr (c.from_reader.ensures.has_headers ∙ ap builder_names_headers setup, c.from_reader.ensures.headers))

pub returns-clause-config : goal.returns-clause-config
returns-clause-config c =
    let setup : c.flexible.result.now ≡ settings c.new.result = c.flexible.ensures ∙ ap (λ b. with_flexible b true) c.has_headers.ensures in
    c.from_reader.ensures.config ∙ ap builder_config setup ∙ c.new.ensures.config

pub returns-clause-flexible : goal.returns-clause-flexible
returns-clause-flexible c =
    let setup : c.flexible.result.now ≡ settings c.new.result = c.flexible.ensures ∙ ap (λ b. with_flexible b true) c.has_headers.ensures in
    c.from_reader.ensures.flexible ∙ ap builder_is_flexible setup
