-- What fails under Hamilton's method.
use Rattle.std.proofs.Common.{[], ◌∷◌, get_or, arith, refl, ap}
use Rattle.sl_law_examples.specs.Failures.{Alabama, MoreVotes, NewEntry, NotCoherent}
use Rattle.sl_law_examples.proofs.Allocated.{hamilton_only}

pub alabama : Alabama
alabama = record {
  three = hamilton_only (3 ∷ 3 ∷ 1 ∷ []) (1 ∷ 1 ∷ 1 ∷ []) refl refl;
  four = hamilton_only (3 ∷ 3 ∷ 1 ∷ []) (2 ∷ 2 ∷ 0 ∷ []) refl refl;
  ten = hamilton_only (6 ∷ 6 ∷ 2 ∷ []) (4 ∷ 4 ∷ 2 ∷ []) refl refl;
  eleven = hamilton_only (6 ∷ 6 ∷ 2 ∷ []) (5 ∷ 5 ∷ 1 ∷ []) refl refl;
}

pub more_votes : MoreVotes
more_votes = record {
  before = hamilton_only (5 ∷ 1 ∷ 3 ∷ []) (3 ∷ 0 ∷ 2 ∷ []) refl refl;
  after = hamilton_only (6 ∷ 1 ∷ 6 ∷ []) (2 ∷ 1 ∷ 2 ∷ []) refl refl;
  earlier = hamilton_only (4 ∷ 15 ∷ 15 ∷ []) (1 ∷ 1 ∷ 1 ∷ []) refl refl;
  later = hamilton_only (5 ∷ 14 ∷ 6 ∷ []) (0 ∷ 2 ∷ 1 ∷ []) refl refl;
}

pub new_entry : NewEntry
new_entry = record {
  before = hamilton_only (6 ∷ 1 ∷ []) (3 ∷ 0 ∷ []) refl refl;
  after = hamilton_only (6 ∷ 1 ∷ 6 ∷ []) (2 ∷ 1 ∷ 2 ∷ []) refl refl;
  due = refl;
}

pub not_coherent : NotCoherent
not_coherent = record {
  all = new_entry.after.0;
  parts = λ h. let e = ap (λ xs. get_or xs 0 0) (new_entry.before.1 (2 ∷ 1 ∷ []) h) in absurd (omega (arith, e));
}
