use Rattle.std.proofs.Common.{◌-◌, ◌*◌, arith, ap, ◌∙◌}
use Rattle.std.specs.Int.{div_ceil}
use Rattle.sl_report_parties.proofs.Short.{least_is}
use Rattle.sl_report_parties.proofs.parts.votes_short.Goals as goal

pub returns-then-more-from : goal.returns-then-more-from
returns-then-more-from c =
    let is = c.div_ceil-more.ensures
    ∙ ap (λ a. div_ceil (a * c.from-2.result - c.from-3.result * c.from-4.result) c.from-5.result) c.from.ensures
    ∙ ap (λ a. div_ceil (c.args.share * a - c.from-3.result * c.from-4.result) c.from-5.result) c.from-2.ensures
    ∙ ap (λ a. div_ceil (c.args.share * c.args.all - a * c.from-4.result) c.from-5.result) c.from-3.ensures
    ∙ ap (λ a. div_ceil (c.args.share * c.args.all - c.args.per * a) c.from-5.result) c.from-4.ensures
    ∙ ap (λ a. div_ceil (c.args.share * c.args.all - c.args.per * c.args.has) a) c.from-5.ensures in
    let short = ap (λ a. a * c.from-2.result) c.from.ensures ∙ ap (λ a. c.args.share * a) c.from-2.ensures in
    let held = ap (λ a. a * c.from-4.result) c.from-3.ensures ∙ ap (λ a. c.args.per * a) c.from-4.ensures in
    least_is c.args.share c.args.per c.args.has c.args.all (omega (arith, c.if-wanted-held.false, short, held)) c.if-per-share.false c.div_ceil-more.result is

pub returns-else-more-from : goal.returns-else-more-from
returns-else-more-from c =
    let is = c.div_ceil-more.ensures
    ∙ ap (λ a. div_ceil (a * c.from-2.result - c.from-3.result * c.from-4.result) c.from-5.result) c.from.ensures
    ∙ ap (λ a. div_ceil (c.args.share * a - c.from-3.result * c.from-4.result) c.from-5.result) c.from-2.ensures
    ∙ ap (λ a. div_ceil (c.args.share * c.args.all - a * c.from-4.result) c.from-5.result) c.from-3.ensures
    ∙ ap (λ a. div_ceil (c.args.share * c.args.all - c.args.per * a) c.from-5.result) c.from-4.ensures
    ∙ ap (λ a. div_ceil (c.args.share * c.args.all - c.args.per * c.args.has) a) c.from-5.ensures in
    let short = ap (λ a. a * c.from-2.result) c.from.ensures ∙ ap (λ a. c.args.share * a) c.from-2.ensures in
    let held = ap (λ a. a * c.from-4.result) c.from-3.ensures ∙ ap (λ a. c.args.per * a) c.from-4.ensures in
    let best = least_is c.args.share c.args.per c.args.has c.args.all (omega (arith, c.if-wanted-held.false, short, held)) c.if-per-share.false c.div_ceil-more.result is in
    λ more fits enough. omega (arith, fits, best.least more enough, c.if-more-from.false, c.from-6.ensures)
