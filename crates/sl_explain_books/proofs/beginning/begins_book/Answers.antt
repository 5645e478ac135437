use Rattle.std.proofs.Common.{◌≡◌, ◌∙◌, map, refl, inl, subst, eq-eqb, eqb-true}
use Rattle.sl_parse.specs.declared.fault.Cause.TheVariants.{Expected, TooDeep, TooManyStages, After}
use Rattle.sl_law_meaning.specs.book.Books.{book_of}
use Rattle.sl_explain_books.specs.Beginnings.{examples, example_of, AreBeginning, IsBeginning}
use Rattle.sl_parse.specs.Parsing.{FaultIsAt}
use Rattle.sl_explain_books.proofs.Beginnings.{stand_in, ends_early, no_other}
use Rattle.sl_explain_books.proofs.beginning.begins_book.Goals as goal

pub parse_spans-requires : goal.parse_spans-requires
parse_spans-requires c = rw (c.as_slice.ensures.value, c.in_ok-tokens.ensures) (stand_in c.args.sorts.now)

pub returns-in-Ok : goal.returns-in-Ok
returns-in-Ok c =
    let is : c.as_slice.result.now ≡ map example_of c.args.sorts.now = c.as_slice.ensures.value ∙ c.in_ok-tokens.ensures in
    let begins : AreBeginning c.args.sorts.now = subst (IsBeginning examples) is (inl (book_of c.in-Ok.field-0, c.in-Ok.ensures.found.0, c.in-Ok.ensures.found.1)) in
    (λ yes. begins, λ h. refl)

pub returns-in-Err-Expected : goal.returns-in-Err-Expected
returns-in-Err-Expected c =
    let is : c.as_slice.result.now ≡ map example_of c.args.sorts.now = c.as_slice.ensures.value ∙ c.in_ok-tokens.ensures in
    let there : FaultIsAt examples (map example_of c.args.sorts.now) Expected c.in-Err-Expected.at = rw (is, c.in-Err-Expected.field-0-is) at c.in-Err-Expected.ensures.fault in (
      λ yes. ends_early examples (map example_of c.args.sorts.now) (stand_in c.args.sorts.now) (subst (FaultIsAt examples (map example_of c.args.sorts.now) Expected) (eqb-true c.in-Err-Expected.at 8 yes) there),
      λ h. eq-eqb _ _ (no_other examples (map example_of c.args.sorts.now) Expected c.in-Err-Expected.at there h).1,
    )

pub returns-in-Err-TooDeep : goal.returns-in-Err-TooDeep
returns-in-Err-TooDeep c =
    let is : c.as_slice.result.now ≡ map example_of c.args.sorts.now = c.as_slice.ensures.value ∙ c.in_ok-tokens.ensures in
    let there : FaultIsAt examples (map example_of c.args.sorts.now) TooDeep c.in-Err-TooDeep.field-0-0 = rw (is, c.in-Err-TooDeep.field-0-is) at c.in-Err-TooDeep.ensures.fault in
    (λ yes. absurd cc, λ h. let e = (no_other examples (map example_of c.args.sorts.now) TooDeep c.in-Err-TooDeep.field-0-0 there h).0 in absurd cc)

pub returns-in-Err-TooManyStages : goal.returns-in-Err-TooManyStages
returns-in-Err-TooManyStages c =
    let is : c.as_slice.result.now ≡ map example_of c.args.sorts.now = c.as_slice.ensures.value ∙ c.in_ok-tokens.ensures in
    let there : FaultIsAt examples (map example_of c.args.sorts.now) TooManyStages c.in-Err-TooManyStages.field-0-0 = rw (is, c.in-Err-TooManyStages.field-0-is) at c.in-Err-TooManyStages.ensures.fault in
    (λ yes. absurd cc, λ h. let e = (no_other examples (map example_of c.args.sorts.now) TooManyStages c.in-Err-TooManyStages.field-0-0 there h).0 in absurd cc)

pub returns-in-Err-After : goal.returns-in-Err-After
returns-in-Err-After c =
    let is : c.as_slice.result.now ≡ map example_of c.args.sorts.now = c.as_slice.ensures.value ∙ c.in_ok-tokens.ensures in
    let there : FaultIsAt examples (map example_of c.args.sorts.now) After c.in-Err-After.field-0-0 = rw (is, c.in-Err-After.field-0-is) at c.in-Err-After.ensures.fault in
    (λ yes. absurd cc, λ h. let e = (no_other examples (map example_of c.args.sorts.now) After c.in-Err-After.field-0-0 there h).0 in absurd cc)
