-- A command that reports asks for that report.
use Rattle.std.proofs.Common.{◌≡◌, ◌∙◌, Bool, true, false, List, Some, None, ap, codes, option_map, refl}
use Rattle.clap.specs.Walk.{Row, Text}
use Rattle.sl_terminal_words.specs.Requests.{Page, View, Wish, flag_in, form_by, page_by, reported, reported_by, seat_table, seats, shown_by, step_table, steps, table_page, wish_by, word_in}
use Rattle.sl_terminal_words.specs.declared.help.Name.{Name}
use Rattle.sl_terminal_words.specs.declared.help.Name.TheVariants.{Count, Steps, Stage, Check, Code, Run, Law, Explain, Report, Stages, Totals, Compare}

-- the report of a page, in the form and with the names that are given
abbrev report_of_page : List Row → Page → Wish
report_of_page given page = reported page (form_by given) (word_in given (codes "names"))

-- a command that has a page to report only where JSON is asked for, and has one, is to report
table_asked : (table : Text → Text → Page) (command : Name) (view : View) (given : List Row) (page : Page) → Some page ≡ table_page table given
    → reported_by command given ≡ shown_by command view given
table_asked table command view given page is = go (flag_in given (codes "json")) refl
  where
    go : (asked : Bool) → flag_in given (codes "json") ≡ asked → reported_by command given ≡ shown_by command view given
    go true e = rw e refl
    go false e =
        let none : Some page ≡ None = is ∙ (rw e refl) in
        cc

pub report_asked : (command : Name) (given : List Row) (page : Page) → Some page ≡ page_by command given
    → Some (reported page (form_by given) (word_in given (codes "names"))) ≡ wish_by command given
report_asked Count given page is = ap (option_map (report_of_page given)) is ∙ table_asked seat_table Count seats given page is
report_asked Steps given page is = ap (option_map (report_of_page given)) is ∙ table_asked step_table Steps steps given page is
report_asked Report given page is = ap (option_map (report_of_page given)) is
report_asked Stages given page is = ap (option_map (report_of_page given)) is
report_asked Totals given page is = ap (option_map (report_of_page given)) is
report_asked Compare given page is = ap (option_map (report_of_page given)) is
report_asked Stage given page is = cc
report_asked Check given page is = cc
report_asked Code given page is = cc
report_asked Run given page is = cc
report_asked Law given page is = cc
report_asked Explain given page is = cc
