-- The plans of the last clause yield the table that the book means, or end the run with the first tie.
use Rattle.std.proofs.Common.{◌≡◌, length, refl}
use Rattle.sl_law_meaning.specs.declared.book.Seating.{Seating}
use Rattle.sl_law_meaning.specs.declared.book.Seating.TheVariants as seating
use Rattle.sl_law_meaning.specs.book.Trees.{BookTree}
use Rattle.sl_law_meaning.specs.returns.Election.{Election, IsElection}
use Rattle.sl_law_meaning.specs.meaning.Means.{Known}
use Rattle.sl_code_instructions.specs.Codes.{CountingCode}
use Rattle.sl_code_semantics.specs.State.{State}
use Rattle.sl_compile_pieces.specs.exprs.Slots.{HasBookSlots}
use Rattle.sl_compile_pieces.proofs.exprs.Following.{AllAchieve, all_more, all_then}
use Rattle.sl_compile_pieces.specs.closing.Trees.{base_slot, seating_pieces}
use Rattle.sl_compile_pieces.specs.closing.Closing.{BeginsClosing, EndsInOutcome, ClosingsAchieve}
use Rattle.sl_compile_pieces.proofs.closing.Bases.{HasBase, base_is}
use Rattle.sl_compile_pieces.proofs.closing.Seated.{HasSeated}
use Rattle.sl_compile_pieces.proofs.closing.Kept.{kept_all}
use Rattle.sl_compile_pieces.proofs.closing.Covered.{covered_all}
use Rattle.sl_compile_pieces.proofs.closing.Vacancies.{vacated}
use Rattle.sl_compile_pieces.proofs.closing.Tables.{closed}

module _ (c : CountingCode) (b : BookTree) (e : Election) (k : Known) (before s : State) (is : IsElection e) (slots : HasBookSlots c k.types)
    (stages : length c.stages ≡ length b.stages) (begins : BeginsClosing b e k before s) (h : HasBase c b e k b.last s) where
  -- the winners are kept, or the lists cover them
  seated : (how : Seating) → b.last.seating ≡ how → AllAchieve c e (seating_pieces (base_slot k.types b.last.base) how) s (HasSeated b e k s) (EndsInOutcome b e k)
  seated seating.Keep keeps = kept_all c b e k before s is slots begins h keeps
  seated seating.Cover covers = covered_all c b e k before s is slots stages begins h covers

pub closings_achieve : ClosingsAchieve
closings_achieve c b e k before s typed is slots stages pass begins =
    let h : HasBase c b e k b.last s = base_is c b e k before s typed is slots begins.behind b.last.base pass in
    (all_then (seated c b e k before s is slots stages begins h b.last.seating refl)
    (λ t g. all_more (vacated c e k.types slots t b.last.vacate) (λ u v. closed c b e k k.types slots s t u g v) (λ x end. end))).all
