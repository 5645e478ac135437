-- The faults are listed one after another, until nothing is refused.
use Rattle.std.proofs.Common.{◌≡◌, [], ◌∷◌, ◌++◌, Option, None, Some, arith, refl, true}
use Rattle.std.specs.Prelude.{is_none}
use Rattle.sl_law_meaning.specs.declared.check_fault.CheckFault.{CheckFault}
use Rattle.sl_law_meaning.specs.book.Books.{book_of}
use Rattle.sl_explain_books.specs.Further.{none, one_more}
use Rattle.sl_explain_books.proofs.further.Further.of.Goals as goal

no_fault : (o : Option CheckFault) → is_none o ≡ true → o ≡ None
no_fault None h = refl
no_fault (Some f) h = absurd cc

pub loop-init : goal.loop-init
loop-init c = record { faults = []; leaves = rw (c.in_ok-left.ensures, c.of.ensures) none; tells = record { lines = omega arith; more = omega arith } }

pub loop-preserved : goal.loop-preserved
loop-preserved c =
    let inv = c.loop.invariant in
    record {
      faults = inv.faults ++ c.in-Err.fault ∷ [];
      leaves = rw (c.in_ok-left-in-Err.ensures, c.of-in-Err.ensures, c.in-Err.ensures.err.0) (one_more c.in-Err.fault inv.leaves c.in-Err.ensures.err.1);
      tells = c.in_ok-add-in-Err.ensures inv.faults inv.tells;
    }

pub returns-in-Ok : goal.returns-in-Ok
returns-in-Ok c =
    let inv = c.loop.invariant in
    record { faults = inv.faults; all = record { left = book_of c.loop.left; leaves = inv.leaves; good = no_fault _ (c.in-Ok.ensures.exact.0 refl) }; tells = inv.tells }
