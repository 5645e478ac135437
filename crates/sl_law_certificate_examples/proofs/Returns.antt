-- Returns of one Land are returns, by tests that are evaluated.
use Rattle.std.proofs.Common.{◌≡◌, ℕ, ◌+◌, Bool, true, ◌&&◌, List, [], ◌∷◌, Option, Some, None, length, arith, refl, nat_lt, nat_le}
use Rattle.std.specs.Prelude.{is_none}
use Rattle.std.proofs.lemmas.Bool.{and_parts, ltb-true, leb-true, false≢true}
use Rattle.sl_base_quotients.specs.declared.limits.TheConstants.{MAX_PARTIES}
use Rattle.sl_base_quotients.specs.Names.{name_fault}
use Rattle.sl_law_meaning.specs.declared.limits.TheConstants.{MAX_WINS}
use Rattle.sl_law_meaning.specs.returns.Election.{Election, IsElection, with_party, with_list, with_win}
use Rattle.sl_law_meaning.proofs.Elections.{is_with_party, is_with_list, is_with_win}
use Rattle.sl_law_examples.specs.VotesThatCost.{votes}
use Rattle.sl_law_examples.specs.Tables.{winner_by}
use Rattle.sl_law_examples.proofs.SmallReturns.{are_votes, is_winner_by}
use Rattle.sl_law_certificates.specs.Cuts.{Told}
use Rattle.sl_law_certificate_examples.specs.Returns.{with_parties, with_lists, with_winners}

is_nothing : {A : Type 0} (o : Option A) → is_none o ≡ true → o ≡ None
is_nothing None h = refl
is_nothing (Some x) h = absurd (false≢true h)

-- ---- parties

abbrev pub parties_join : List (List ℕ × Bool) → Election → Bool
parties_join [] e = true
parties_join (p ∷ ps) e = is_none (name_fault (record { limit = MAX_PARTIES; names = e.party_names }) p.0) && parties_join ps (with_party e p.0 p.1)

pub are_parties : (ps : List (List ℕ × Bool)) (e : Election) → IsElection e → parties_join ps e ≡ true → IsElection (with_parties ps e)
are_parties [] e is pass = is
are_parties (p ∷ ps) e is pass =
    let parts = and_parts _ _ pass in
    are_parties ps (with_party e p.0 p.1) (is_with_party e p.0 p.1 is (is_nothing _ parts.0)) parts.1

-- ---- lists

abbrev pub lists_join : ℕ → List ℕ → Election → Bool
lists_join n [] e = true
lists_join n (v ∷ vs) e =
    nat_lt 0 (length e.land_names) && (nat_lt n (length e.party_names) && (nat_le v 100000000 && lists_join (n + 1) vs (with_list e 0 n (votes v))))

pub are_lists : (n : ℕ) (vs : List ℕ) (e : Election) → IsElection e → lists_join n vs e ≡ true → IsElection (with_lists n vs e)
are_lists n [] e is pass = is
are_lists n (v ∷ vs) e is pass =
    let one = and_parts _ _ pass in
    let two = and_parts _ _ one.1 in
    let three = and_parts _ _ two.1 in
    are_lists (n + 1) vs (with_list e 0 n (votes v))
    (is_with_list e 0 n (votes v) is (ltb-true _ _ one.0) (ltb-true _ _ two.0) (are_votes v (leb-true _ _ three.0))) three.1

-- ---- winners

abbrev pub winners_join : ℕ → List (List ℕ) → Election → Bool
winners_join party [] e = true
winners_join party (name ∷ names) e =
    is_none (name_fault (record { limit = MAX_WINS; names = e.win_names }) name)
    && (nat_lt 0 (length e.land_names) && (nat_lt party (length e.party_names) && winners_join party names (with_win e name (winner_by 0 party 1 2))))

pub are_winners : (party : ℕ) (names : List (List ℕ)) (e : Election) → IsElection e → winners_join party names e ≡ true → IsElection (with_winners party names e)
are_winners party [] e is pass = is
are_winners party (name ∷ names) e is pass =
    let one = and_parts _ _ pass in
    let two = and_parts _ _ one.1 in
    let three = and_parts _ _ two.1 in
    are_winners party names (with_win e name (winner_by 0 party 1 2))
    (is_with_win e name (winner_by 0 party 1 2) is (is_nothing _ one.0)
    (is_winner_by (length e.land_names) (length e.party_names) 0 party 1 2 (ltb-true _ _ two.0) (ltb-true _ _ three.0) (omega arith) (omega arith) (omega arith)))
    three.1

-- ---- what is told: seats with a cut of so much; with none, of which any cut is one

abbrev pub told : List ℕ → ℕ → ℕ → Told
told seats num den = record { seats = seats; cut = record { num = num; den = den } }

abbrev pub none_told : List ℕ → Told
none_told seats = told seats 1 0
