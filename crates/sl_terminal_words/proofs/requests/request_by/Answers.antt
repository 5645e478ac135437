use Rattle.std.proofs.Common.{◌∙◌, Some, ap, ap₂, option_map, sym}
use Rattle.clap.specs.Words.{found_of, rows_of}
use Rattle.sl_terminal_words.specs.Requests.{page_of, reported}
use Rattle.sl_terminal_words.proofs.Reporting.{report_asked}
use Rattle.sl_terminal_words.proofs.requests.request_by.Goals as goal

pub returns-in-Some : goal.returns-in-Some
returns-in-Some c =
    let page = page_of c.in-Some.what in
    let made = ap (option_map page_of) (sym c.in-Some.is) ∙ c.in_ok-what.ensures in
    ap₂ (λ form names. Some (reported page form names)) c.form_of.ensures c.word_in.ensures
    ∙ report_asked c.args.name (rows_of (found_of c.args.given.now)) page made
