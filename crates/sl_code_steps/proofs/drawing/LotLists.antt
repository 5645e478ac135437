-- The lots of a name, lot by lot.
use Rattle.std.proofs.Common.{◌≡◌, ℕ, ◌+◌, ◌<◌, Bool, true, false, List, [], ◌∷◌, ◌++◌, length, take, get_or, filter, filter_map, Option, Some, None, option_map, option_to_list, if◌then◌else◌, refl, sym, ap, ◌∙◌, append-nil, inl, inr}
use Rattle.std.specs.Str.{bytes_eq}
use Rattle.std.proofs.lemmas.Bool.{cases_Bool}
use Rattle.std.proofs.lemmas.List.{take_more}
use Rattle.std.proofs.lemmas.List.Elements.{filter_map-append, filter-append}
use Rattle.sl_law_meaning.specs.declared.election.Lot.{Lot}
use Rattle.sl_law_meaning.specs.returns.Election.{Election}
use Rattle.sl_law_meaning.specs.meaning.Scopes.{place}
use Rattle.sl_code_instructions.specs.declared.operand.Entries.{Entries}
use Rattle.sl_code_instructions.specs.declared.operand.Entries.TheVariants as entries
use Rattle.sl_code_semantics.specs.Drawn.{given_in}
use Rattle.sl_code_steps.specs.inner.Lots.{StageLots, with_lot}

module _ (e : Election) (k : Entries) (name : List ℕ) where
  -- the entries that those of these lots give that have the name
  abbrev pub given_by : List Lot → List ℕ
  given_by ls = filter_map (λ l. option_map (place e) (given_in e k l)) (filter (λ l. bytes_eq name l.stage) ls)

  pub given_more : (ls : List Lot) (i : ℕ) (d : Lot) → i < length ls → given_by (take (i + 1) ls) ≡ given_by (take i ls) ++ given_by (get_or ls i d ∷ [])
  given_more ls i d h =
      ap given_by (take_more ls i d h)
      ∙ ap (filter_map (λ l. option_map (place e) (given_in e k l))) (filter-append (λ l. bytes_eq name l.stage) (take i ls) (get_or ls i d ∷ []))
      ∙ filter_map-append (λ l. option_map (place e) (given_in e k l)) (filter (λ l. bytes_eq name l.stage) (take i ls)) (filter (λ l. bytes_eq name l.stage) (get_or ls i d ∷ []))

  given_one : (l : Lot) (named : Bool) (o : Option ℕ) → bytes_eq name l.stage ≡ named → option_map (place e) (given_in e k l) ≡ o
      → given_by (l ∷ []) ≡ option_to_list (if named then o else None)
  given_one l false o h g = rw h refl
  given_one l true None h g = rw h (rw g refl)
  given_one l true (Some i) h g = rw h (rw g refl)

  -- one lot more
  pub given_next : (ls : List Lot) (i : ℕ) (l : Lot) (o : Option ℕ) → i < length ls → l ≡ get_or ls i l
      → o ≡ (if bytes_eq name l.stage then option_map (place e) (given_in e k l) else None) → given_by (take (i + 1) ls) ≡ given_by (take i ls) ++ option_to_list o
  given_next ls i l o h is g =
      given_more ls i l h
      ∙ ap (λ (m : Lot). given_by (take i ls) ++ given_by (m ∷ [])) (sym is)
      ∙ ap (λ (xs : List ℕ). given_by (take i ls) ++ xs) (given_one l (bytes_eq name l.stage) (option_map (place e) (given_in e k l)) refl refl ∙ ap option_to_list (sym g))

-- ---- in tables of each kind
module _ (e : Election) (name : List ℕ) where
  -- what these lots give
  abbrev pub lots_given : List Lot → StageLots
  lots_given ls = record {
    party = given_by e entries.Party name ls;
    land = given_by e entries.Land name ls;
    list = given_by e entries.List name ls;
    win = given_by e entries.Win name ls;
  }

  -- one lot more
  pub lots_next : (ls : List Lot) (i : ℕ) (l : Lot) → i < length ls → l ≡ get_or ls i l
      → lots_given (take (i + 1) ls) ≡ (if bytes_eq name l.stage then with_lot e l (lots_given (take i ls)) else lots_given (take i ls))
  lots_next ls i l h is =
      elim (cases_Bool (bytes_eq name l.stage)) [
        | inl t ↦
            let more : (k : Entries) → given_by e k name (take (i + 1) ls) ≡ given_by e k name (take i ls) ++ option_to_list (option_map (place e) (given_in e k l)) =
            λ k. given_next e k name ls i l (option_map (place e) (given_in e k l)) h is (rw t refl) in
            rw t (λ j. record { party = more entries.Party j; land = more entries.Land j; list = more entries.List j; win = more entries.Win j })
        | inr f ↦
            let same : (k : Entries) → given_by e k name (take (i + 1) ls) ≡ given_by e k name (take i ls) =
            λ k. given_next e k name ls i l None h is (rw f refl) ∙ append-nil (given_by e k name (take i ls)) in
            rw f (λ j. record { party = same entries.Party j; land = same entries.Land j; list = same entries.List j; win = same entries.Win j })
      ]
