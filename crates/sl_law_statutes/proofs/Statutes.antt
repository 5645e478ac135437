-- The laws of the statutes.
use Rattle.std.proofs.Common.{◌≡◌, ℕ, ◌-◌, true, List, [], ◌∷◌, max, sum, arith, refl, sym, ap, subst, ◌∙◌}
use Rattle.std.proofs.lemmas.List.Sums.{AllPass-from_list_all}
use Rattle.std.specs.List.{AllZip}
use Rattle.sl_base_quotients.specs.declared.method.Divisor.TheVariants.{Jefferson, Webster}
use Rattle.sl_base_quotients.specs.declared.method.Method.{Method}
use Rattle.sl_base_quotients.specs.declared.method.Method.TheVariants as by
use Rattle.sl_law_meaning.specs.declared.book.Majority.{Majority}
use Rattle.sl_law_meaning.specs.declared.book.Majority.TheVariants as majority
use Rattle.sl_law_meaning.specs.declared.book.Seating.TheVariants as seating
use Rattle.sl_law_meaning.specs.declared.fact.Fact.{Fact}
use Rattle.sl_law_meaning.specs.declared.fact.Fact.TheVariants as facts
use Rattle.sl_law_meaning.specs.declared.table.ListSeats.{ListSeats}
use Rattle.sl_law_meaning.specs.book.Trees.{BookTree}
use Rattle.sl_law_meaning.specs.book.Typing.{is_typed}
use Rattle.sl_law_meaning.specs.returns.Election.{Election, IsElection}
use Rattle.sl_law_meaning.specs.returns.Facts.{lists_of}
use Rattle.sl_law_meaning.specs.meaning.Columns.{IsLeaf, fact_column}
use Rattle.sl_law_meaning.specs.meaning.Seating.{base_of}
use Rattle.sl_law_meaning.specs.meaning.Means.{Through, nothing_known, StagesMean}
use Rattle.sl_law_fairness.specs.Winners.{IsBase, base_seats, winners_on, IsLine}
use Rattle.sl_law_fairness.proofs.Bases.{end_of, sum_of_base}
use Rattle.sl_law_fairness.proofs.Winners.{keep_seats_all, keep_total}
use Rattle.sl_law_fairness.proofs.Covering.{cover_keeps_base}
use Rattle.sl_law_statutes.specs.Trees.{law_of_1956, law_of_1985, law_of_2008, law_of_2013, law_of_2023, law_of_2023_order, keep, cover, shares, statutes}
use Rattle.sl_law_statutes.specs.Statutes.{LastClauses, AreWellFormed, WinnersUpTo2013, HaveTheLarger, ListsUpTo2008, HasRoom, WinnersOf2013}
use Rattle.sl_law_statutes.specs.Houses.{house_of, AlwaysGrowsByOverhang, AlwaysKeepsItsSize, OverhangOf1956, OverhangOf1985, OverhangOf2008, TotalOf2023, TotalOf2023Order}
use Rattle.sl_law_statutes.proofs.Shares.{lists_have, lists_share, outside_in_all, independents_in_all}

pub last_clauses : LastClauses
last_clauses at = (refl, refl, refl, refl, refl, refl)

pub are_well_formed : AreWellFormed
are_well_formed at = AllPass-from_list_all (λ statute. is_typed (statute.1 at)) statutes refl

-- ---- all winners sit

pub winners_up_to_2013 : WinnersUpTo2013
winners_up_to_2013 at =
    (λ e t. keep_seats_all (law_of_1956 at) e t refl, λ e t. keep_seats_all (law_of_1985 at) e t refl, λ e t. keep_seats_all (law_of_2008 at) e t refl, λ e t. keep_seats_all (law_of_2013 at) e t refl)

larger : (b : BookTree) → is_typed b ≡ true → b.last.seating ≡ seating.Keep → HaveTheLarger b
larger b typed keeps e t base is is_base means = (keep_total b e base t typed is keeps is_base means).0

pub lists_up_to_2008 : ListsUpTo2008
lists_up_to_2008 at = (larger (law_of_1956 at) refl refl, larger (law_of_1985 at) refl refl, larger (law_of_2008 at) refl refl)

-- ---- room for the winners

zip_weaker : {X Y : Type 0} (R S : X → Y → Type 0) → ((x : X) (y : Y) → R x y → S x y) → (xs : List X) (ys : List Y) → AllZip R xs ys → AllZip S xs ys
zip_weaker R S imp [] [] all = tt
zip_weaker R S imp [] (y ∷ ys) all = absurd all
zip_weaker R S imp (x ∷ xs) [] all = absurd all
zip_weaker R S imp (x ∷ xs) (y ∷ ys) all = (imp x y all.0, zip_weaker R S imp xs ys all.1)

has_room : (b : BookTree) (e : Election) (base : List ℕ) (l : ℕ × ℕ) (s : ListSeats) → IsLine l (max (base_seats e base l) (winners_on b e l)) (winners_on b e l) s → HasRoom b e l s
has_room b e base l s is =
    let all = is.seats in
    record { line = record { land = is.land; party = is.party; seats = refl; direct = is.direct }; room = omega (arith, all) }

pub winners_of_2013 : WinnersOf2013
winners_of_2013 at e t is means =
    let b = law_of_2013 at in
    let end = end_of b e t means in
    zip_weaker (λ l. IsLine l (max (base_seats e end.base l) (winners_on b e l)) (winners_on b e l)) (HasRoom b e) (has_room b e end.base) (lists_of e) t.lists
    (keep_total b e end.base t refl is refl end.is_base means).0

-- ---- the size of the house

module _ (at : ℕ → ℕ) (told : Fact) (method : Method) (m : Majority) (b : BookTree) (typed : is_typed b ≡ true) (e : Election) (is : IsElection e) where
  base_shares : b.stages ≡ shares at told method m → base_of b.last ≡ base_of (keep at) → (base : List ℕ) → IsBase b e base → sum base ≡ house_of b e - sum (fact_column b e told)
  base_shares stages last base h =
      sym (sum_of_base b e base typed is h)
      ∙ lists_have method m b e base (house_of b e - sum (fact_column b e told))
      (lists_share at told method m b e h.known (subst (λ ss. StagesMean b e nothing_known ss (Through h.known)) stages h.through) base (subst (λ x. IsLeaf b e h.known.columns x base) last h.is))

module _ (at : ℕ → ℕ) (method : Method) (m : Majority) (b : BookTree) (typed : is_typed b ≡ true) where
  grows : b.stages ≡ shares at facts.Outside method m → b.last ≡ keep at → AlwaysGrowsByOverhang b
  grows stages last e t is means =
      let end = end_of b e t means in
      let total = (keep_total b e end.base t typed is (ap (λ l. l.seating) last) end.is_base means).1 in
      let base = base_shares at facts.Outside method m b typed e is stages (ap base_of last) end.base end.is_base ∙ ap (λ n. house_of b e - n) (outside_in_all b e is) in
      record { base = end.base; shares = record { is_base = end.is_base; amount = base }; total = total; house = omega (arith, total, base) }

  keeps : b.stages ≡ shares at facts.Independents method m → b.last ≡ cover at → AlwaysKeepsItsSize b
  keeps stages last e t is means =
      let end = end_of b e t means in
      let total = (cover_keeps_base b e end.base t typed is (ap (λ l. l.seating) last) end.is_base means).1 in
      let base = base_shares at facts.Independents method m b typed e is stages (ap base_of last) end.base end.is_base ∙ ap (λ n. house_of b e - n) (independents_in_all b e is) in
      record { base = end.base; shares = record { is_base = end.is_base; amount = base }; total = total; house = omega (arith, total, base) }

pub overhang_of_1956 : OverhangOf1956
overhang_of_1956 at = grows at (by.Divisor Jefferson) majority.Free (law_of_1956 at) refl refl refl

pub overhang_of_1985 : OverhangOf1985
overhang_of_1985 at = grows at by.Hamilton majority.Prefer (law_of_1985 at) refl refl refl

pub overhang_of_2008 : OverhangOf2008
overhang_of_2008 at = grows at (by.Divisor Webster) majority.Refuse (law_of_2008 at) refl refl refl

pub total_of_2023 : TotalOf2023
total_of_2023 at = keeps at (by.Divisor Webster) majority.Refuse (law_of_2023 at) refl refl refl

pub total_of_2023_order : TotalOf2023Order
total_of_2023_order at = keeps at (by.Divisor Webster) majority.Refuse (law_of_2023_order at) refl refl refl
