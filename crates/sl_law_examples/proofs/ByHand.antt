-- Published results by products, and that these seats are the only ones, by tests that compute.
use Rattle.std.proofs.Common.{zero, suc, true, [], ◌∷◌, arith, refl}
use Rattle.sl_base_quotients.specs.declared.method.Divisor.TheVariants.{Webster}
use Rattle.sl_law_meaning.specs.laws.MethodLaws.{AllHaveVotes}
use Rattle.sl_law_examples.specs.ByHand.{Divided2025, votes_2025, seats_2025, Quoted2005, votes_2005, Covered}
use Rattle.sl_law_examples.proofs.Allocated.{divisor_only, hamilton_only_with, covering_only}

pub divided_2025 : Divided2025
divided_2025 = record {
  cdu = record { is_low = refl; is_high = refl; above = omega arith; below = omega arith };
  afd = record { is_low = refl; is_high = refl; above = omega arith; below = omega arith };
  spd = record { is_low = refl; is_high = refl; above = omega arith; below = omega arith };
  gruene = record { is_low = refl; is_high = refl; above = omega arith; below = omega arith };
  linke = record { is_low = refl; is_high = refl; above = omega arith; below = omega arith };
  csu = record { is_low = refl; is_high = refl; above = omega arith; below = omega arith };
  ssw = record { is_low = refl; is_high = refl; above = omega arith; below = omega arith };
  only = divisor_only Webster votes_2025 (0 ∷ 0 ∷ 0 ∷ 0 ∷ 0 ∷ 0 ∷ 0 ∷ []) seats_2025 refl refl refl;
}

pub quoted_2005 : Quoted2005
quoted_2005 = record {
  spd = record { is_share = refl; part = omega arith };
  cdu = record { is_share = refl; part = omega arith };
  csu = record { is_share = refl; part = omega arith };
  gruene = record { is_share = refl; part = omega arith };
  fdp = record { is_share = refl; part = omega arith };
  linke = record { is_share = refl; part = omega arith };
  only = hamilton_only_with true votes_2005 (213 ∷ 173 ∷ 46 ∷ 51 ∷ 61 ∷ 54 ∷ []) refl refl;
}

four : AllHaveVotes (52000 ∷ 47000 ∷ 48000 ∷ 41000 ∷ [])
four zero l = omega arith
four (suc zero) l = omega arith
four (suc (suc zero)) l = omega arith
four (suc (suc (suc zero))) l = omega arith
four (suc (suc (suc (suc i)))) l = absurd (omega (arith, l))

pub covered : Covered
covered = record {
  harbour = omega arith;
  hills = omega arith;
  valley = omega arith;
  seated = covering_only (52000 ∷ 47000 ∷ 48000 ∷ 41000 ∷ []) (110000 ∷ 105000 ∷ 125000 ∷ 102000 ∷ []) (1 ∷ 1 ∷ 0 ∷ 1 ∷ []) four refl refl;
}
