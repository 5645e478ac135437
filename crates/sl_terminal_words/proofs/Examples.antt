-- What command lines ask for, as the definitions have it.
use Rattle.std.proofs.Common.{◌≡◌, List, [], ◌∷◌, None, Some, codes, false, refl, true}
use Rattle.clap.proofs.OnLiterals.{clap_on_literals}
use Rattle.clap.specs.Walk.{Text}
use Rattle.clap.specs.declared.error.kind.ErrorKind.TheVariants as kind
use Rattle.sl_explain_texts.specs.declared.code.FaultCode.TheVariants.{B15}
use Rattle.sl_explain_texts.specs.declared.language.Language.TheVariants.{German}
use Rattle.sl_terminal_words.specs.Answers.{asked_in, faults_in}
use Rattle.sl_terminal_words.specs.Requests.{Wish, compiled, counted, explained, reported, seat_table, seats, short, stage}
use Rattle.sl_terminal_words.specs.declared.options.Options.{Options}
use Rattle.sl_report_forms.specs.declared.shape.Shape.TheVariants as form

abbrev spoken : Wish → Wish × Options
spoken wish = (wish, record { is_quiet = false; language = None })

abbrev of_count : List Text
of_count = codes "seatlaw" ∷ codes "count" ∷ codes "book" ∷ codes "returns" ∷ []

count : asked_in of_count ≡ Some (spoken (counted seats (codes "book") (codes "returns")))
unfolding clap_on_literals asked_in
count = refl

count_is_well : faults_in of_count ≡ []
unfolding clap_on_literals faults_in
count_is_well = refl

count_in_json : asked_in (codes "seatlaw" ∷ codes "count" ∷ codes "--json" ∷ codes "b" ∷ codes "r" ∷ [])
    ≡ Some (spoken (reported (seat_table (codes "b") (codes "r")) form.Json None))
unfolding clap_on_literals asked_in
count_in_json = refl

no_returns : faults_in (codes "seatlaw" ∷ codes "count" ∷ codes "book" ∷ []) ≡ kind.MissingRequiredArgument ∷ []
unfolding clap_on_literals faults_in
no_returns = refl

stage_in_german : asked_in (codes "seatlaw" ∷ codes "stage" ∷ codes "-q" ∷ codes "book" ∷ codes "--lang" ∷ codes "de" ∷ codes "returns" ∷ codes "floor" ∷ [])
    ≡ Some (counted (stage (codes "floor")) (codes "book") (codes "returns"), record { is_quiet = true; language = Some German })
unfolding clap_on_literals asked_in
stage_in_german = refl

code_by_force : asked_in (codes "seatlaw" ∷ codes "code" ∷ codes "book" ∷ codes "out" ∷ codes "--force" ∷ []) ≡ Some (spoken (compiled (codes "book") (codes "out") true))
unfolding clap_on_literals asked_in
code_by_force = refl

code_over_book : asked_in (codes "seatlaw" ∷ codes "code" ∷ codes "book" ∷ codes "book" ∷ []) ≡ None
unfolding clap_on_literals asked_in
code_over_book = refl

explain : asked_in (codes "seatlaw" ∷ codes "explain" ∷ codes "b15" ∷ []) ≡ Some (spoken (explained B15))
unfolding clap_on_literals asked_in
explain = refl

press : asked_in (codes "seatlaw" ∷ codes "report" ∷ codes "--short" ∷ codes "--before=old" ∷ codes "--html" ∷ codes "book" ∷ codes "--names" ∷ codes "n" ∷ codes "returns" ∷ [])
    ≡ Some (spoken (reported (short (codes "book") (codes "returns") (Some (codes "old"))) form.Html (Some (codes "n"))))
unfolding clap_on_literals asked_in
press = refl
