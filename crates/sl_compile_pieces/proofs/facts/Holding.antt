-- What columns hold: by party, by Land, by list; and plans that change one column alone.
use Rattle.std.proofs.Common.{◌≡◌, ◌≢◌, ℕ, ◌+◌, ◌*◌, ◌/◌, ◌%◌, ◌<◌, false, List, [], ◌∷◌, Option, get_or, if◌then◌else◌, refl, sym, ap, ◌∙◌, arith}
use Rattle.std.proofs.lemmas.Bool.{lt-ltb}
use Rattle.std.proofs.lemmas.Nat.{div-add-mod'}
use Rattle.std.proofs.lemmas.List.FromFn.{length-map-range_with_len, get_or-map-range_with_len}
use Rattle.sl_base_terms.specs.declared.shape.Shape.{Shape}
use Rattle.sl_base_terms.specs.declared.shape.Shape.TheVariants as shape
use Rattle.sl_law_meaning.specs.declared.election.ListVotes.{ListVotes}
use Rattle.sl_law_meaning.specs.returns.Election.{Election, lands_of, parties_of, list_at}
use Rattle.sl_law_meaning.specs.returns.Facts.{by_party, by_land, by_list}
use Rattle.sl_law_meaning.proofs.meaning.ListPlaces.{length_by_list, by_list_at}
use Rattle.sl_code_instructions.specs.Codes.{CountingCode}
use Rattle.sl_code_semantics.specs.State.{State}
use Rattle.sl_code_semantics.specs.Effects.{from_lists}
use Rattle.sl_code_semantics.proofs.soundness.KeptTables.{list_parts}
use Rattle.sl_code_semantics.proofs.soundness.KeptEntries.{list_below}
use Rattle.sl_compile_plans.specs.Trees.{Tree}
use Rattle.sl_compile_plans.specs.Achieves.{Achieves, Never}
use Rattle.sl_compile_plans.specs.Frames.{may_write_slot, may_seat, may_record_step, may_record_weight}
use Rattle.sl_compile_plans.proofs.KeepingRules.{achieves_keeping}
use Rattle.sl_compile_pieces.proofs.scopes.Scopes.{land_again, party_again}
use Rattle.sl_compile_pieces.specs.columns.Columns.{HoldsColumn, GetsColumn}

-- ---- the place of a pair of Land and party

module _ (e : Election) (land party : ℕ) (less : party < parties_of e) where
  pub place_within : land < lands_of e → land * parties_of e + party < lands_of e * parties_of e
  place_within in_lands = list_below land party (lands_of e) (parties_of e) in_lands less

  -- what the returns say of a list, in a column of them
  pub list_told : (f : Option ListVotes → ℕ) → land < lands_of e → from_lists e f (land * parties_of e + party) ≡ f (list_at e land party)
  list_told f in_lands =
      let place : ℕ = land * parties_of e + party in
      ap (λ b. if b then f (list_at e (place / parties_of e) (place % parties_of e)) else 0) (lt-ltb place (lands_of e * parties_of e) (place_within in_lands))
      ∙ ap (λ l. f (list_at e l (place % parties_of e))) (land_again e land party less) ∙ ap (λ p. f (list_at e land p)) (party_again e land party less)

-- ---- columns

module _ (e : Election) (column : ℕ → ℕ) where
  module _ (f : ℕ → ℕ) where
    pub holds_parties : ((q : ℕ) → q < parties_of e → column q ≡ f q) → HoldsColumn e shape.Party column (by_party e f)
    holds_parties same = record {
      long = length-map-range_with_len f 0 (parties_of e);
      at = λ q less. same q less ∙ sym (get_or-map-range_with_len f 0 (parties_of e) q q 0 less (omega arith));
    }

    pub party_held : HoldsColumn e shape.Party column (by_party e f) → (q : ℕ) → q < parties_of e → column q ≡ f q
    party_held h q less = h.at q less ∙ get_or-map-range_with_len f 0 (parties_of e) q q 0 less (omega arith)

    pub holds_lands : ((q : ℕ) → q < lands_of e → column q ≡ f q) → HoldsColumn e shape.Land column (by_land e f)
    holds_lands same = record {
      long = length-map-range_with_len f 0 (lands_of e);
      at = λ q less. same q less ∙ sym (get_or-map-range_with_len f 0 (lands_of e) q q 0 less (omega arith));
    }

  pub holds_one : (value : ℕ) → column 0 ≡ value → HoldsColumn e shape.One column (value ∷ [])
  holds_one value h = record {
    long = refl;
    at = λ q less. (let first : q ≡ 0 = omega arith in ap column first ∙ h ∙ ap (λ n. get_or (value ∷ []) n 0) (sym first));
  }

  pub holds_lists : (f : ℕ → ℕ → ℕ) → ((land party : ℕ) → land < lands_of e → party < parties_of e → column (land * parties_of e + party) ≡ f land party)
      → HoldsColumn e shape.List column (by_list e f)
  holds_lists f same = record {
    long = length_by_list e f;
    at = λ q less. (
        let parts = list_parts q (lands_of e) (parties_of e) less in
        let place : q / parties_of e * parties_of e + q % parties_of e ≡ q = div-add-mod' q (parties_of e) in
        ap column (sym place) ∙ same (q / parties_of e) (q % parties_of e) parts.0 parts.1
        ∙ sym (by_list_at e f (q / parties_of e) (q % parties_of e) parts.0 parts.1) ∙ ap (λ n. get_or (by_list e f) n 0) place);
  }

-- ---- plans that change one column

-- the plan writes no other slot
abbrev pub WritesOnly : ℕ → Tree → Type 0
WritesOnly slot tree = (k : ℕ) → k ≢ slot → may_write_slot tree k ≡ false

-- it neither records nor seats
pub record IsSilent (tree : Tree) : Type 0 where
  pub steps : may_record_step tree ≡ false
  pub weights : may_record_weight tree ≡ false
  pub seats : may_seat tree ≡ false

pub gets_column : {c : CountingCode} {e : Election} {tree : Tree} {s : State} (at : Shape) (slot : ℕ) (values : List ℕ)
    → Achieves c e tree s (λ t. HoldsColumn e at (t.columns slot) values) Never
    → WritesOnly slot tree → IsSilent tree → Achieves c e tree s (GetsColumn e at slot values s) Never
gets_column at slot values h only silent =
    achieves_keeping h
    (λ t k kept. record {
      holds = k;
      changes = record { columns = λ j q other. kept.columns j (only j other) q; steps = kept.steps_kept silent.steps; weights = kept.weights_kept silent.weights; placed = kept.placed silent.seats };
    })
