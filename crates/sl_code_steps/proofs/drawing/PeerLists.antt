-- Entries that are taken off a table from the front of its ranking, as many as there are peers.
use Rattle.std.proofs.Common.{◌≡◌, ℕ, ◌+◌, ◌<◌, ◌∷◌, ◌++◌, [], List, length, map, take, drop, get_or, Option, Some, None, All, IsPermutation, IsSome, refl, sym, ap, subst, ◌∙◌, arith}
use Rattle.std.specs.Option.{option_map, ForSome}
use Rattle.std.proofs.lemmas.List.{length-take, length-drop, drop-drop, drop_more, map_more}
use Rattle.std.proofs.lemmas.List.Sorted.{All-permutation, IsPermutation-sym}
use Rattle.std.proofs.lemmas.Option.{same_Some}
use Rattle.sl_base_quotients.specs.declared.entry.Entry.{Entry}
use Rattle.sl_base_quotients.specs.Entry.{entry_cmp}
use Rattle.sl_base_quotients.specs.Quotient.{FitsRatio}
use Rattle.sl_base_rankings.specs.Ranking.{ranked}
use Rattle.sl_base_rankings.specs.Peers.{top, peers}
use Rattle.sl_base_rankings.proofs.Fronts.{ranked_behind, peers_in_front}
use Rattle.sl_base_rankings.proofs.Greatest.{greatest-None}
use Rattle.sl_base_rankings.proofs.Orders.{entry_order}
use Rattle.sl_base_rankings.proofs.Rankings.{ranked-permutation}
use Rattle.sl_law_meaning.specs.declared.fault.Item.{Item}
use Rattle.sl_law_meaning.specs.returns.Election.{Election}
use Rattle.sl_code_steps.specs.declared.priority.TableKind.{TableKind}
use Rattle.sl_code_semantics.specs.State.{PriorityTable}
use Rattle.sl_code_semantics.specs.Places.{item_of}
use Rattle.sl_code_semantics.specs.Safe.{entries_in}
use Rattle.sl_code_steps.proofs.Priorities.{alike, table_with}

top_of : (xs : List Entry) (first : Option Entry) → top xs ≡ first → 0 < length (ranked xs) → IsSome first
top_of xs (Some x) h some = refl
top_of xs None h some =
    let none : length (ranked xs) ≡ 0 = ap (λ ys. length (ranked ys)) (greatest-None entry_cmp entry_order xs h) in
    absurd (omega arith)

module _ (xs : List Entry) (ratios : All (λ x. FitsRatio x.ratio) xs) where
  -- while fewer entries are taken than there are peers, there is a top
  pub top_left : (ys : List Entry) (i : ℕ) → i < length (peers xs) → ranked ys ≡ drop i (ranked xs) → IsSome (top ys)
  top_left ys i more rest =
      let peers_fit = ap length (peers_in_front xs ratios) ∙ length-take (length (peers xs)) (ranked xs) in
      let long = ap length rest ∙ length-drop i (ranked xs) in
      top_of ys (top ys) refl (omega (arith, peers_fit, long))

  -- as many as there are peers are the peers
  pub peers_taken : peers (ranked xs) ≡ take (length (peers xs)) (ranked xs)
  peers_taken = sym (alike xs).same_peers ∙ peers_in_front xs ratios

-- ys is left of a table that held xs, from which so many entries were taken; x is taken next, and leaves zs
module _ (xs ys zs : List Entry) (x : Entry) (i : ℕ) (first : top ys ≡ Some x) (left : IsPermutation ys (x ∷ zs)) (rest : ranked ys ≡ drop i (ranked xs)) where
  next : drop i (ranked xs) ≡ x ∷ ranked zs
  next = sym rest ∙ ranked_behind x ys zs first left

  pub rest_behind : ranked zs ≡ drop (i + 1) (ranked xs)
  rest_behind = ap (drop 1) (sym next) ∙ drop-drop 1 i (ranked xs)

  pub one_more : (f : Entry → Item) (items : List Item) → items ≡ map f (take i (ranked xs)) → items ++ f x ∷ [] ≡ map f (take (i + 1) (ranked xs))
  one_more f items so_far =
      let long = sym (length-drop i (ranked xs)) ∙ ap length next in
      let within : i < length (ranked xs) = omega (arith, long) in
      let split = drop_more (ranked xs) i x within in
      let here : get_or (ranked xs) i x ≡ x = cc (next, split) in
      ap (λ ys. ys ++ f x ∷ []) so_far ∙ ap (λ y. map f (take i (ranked xs)) ++ f y ∷ []) (sym here) ∙ sym (map_more f (ranked xs) i x within)

-- a table of that kind, seen as it is while it is on
module _ (e : Election) (kind : Option TableKind) (k : TableKind) (xs : List Entry) (now : Option PriorityTable) (on : kind ≡ Some k) (view : option_map (λ k. table_with k xs) kind ≡ now) where
  seen : now ≡ Some (table_with k xs)
  seen = sym view ∙ ap (option_map (λ k. table_with k xs)) on

  pub range_held : ForSome now (λ t. All (λ x. x.index < entries_in e t.entries) t.contents) → All (λ x. x.index < entries_in e k.entries) xs
  range_held range =
      let P : Entry → Type 0 = λ x. x.index < entries_in e k.entries in
      All-permutation P (ranked xs) xs (IsPermutation-sym xs (ranked xs) (ranked-permutation xs)) (range (table_with k xs) seen)

  pub peers_told : (ps : List Entry) (items : List Item) → peers (ranked xs) ≡ ps → items ≡ map (λ x. item_of e k.entries x.index) ps
      → option_map (λ t. map (λ x. item_of e t.entries x.index) (peers t.contents)) now ≡ Some items
  peers_told ps items all told = rw seen (ap (λ qs. Some (map (λ x. item_of e k.entries x.index) qs)) all ∙ ap Some (sym told))

  -- the table that is left when the peers are taken
  pub rest_told : (ys : List Entry) (still : Option TableKind) → still ≡ Some k → ranked ys ≡ drop (length (peers xs)) (ranked xs)
      → ForSome now (λ t. option_map (λ k. table_with k ys) still ≡ Some (record t { contents = drop (length (peers t.contents)) t.contents }))
  rest_told ys still same rest t is =
      let left : ranked ys ≡ drop (length (peers (ranked xs))) (ranked xs) = rest ∙ ap (λ ps. drop (length ps) (ranked xs)) (alike xs).same_peers in
      let Left : PriorityTable → Type 0 = λ t. Some (table_with k ys) ≡ Some (record t { contents = drop (length (peers t.contents)) t.contents }) in
      rw same (subst Left (same_Some (table_with k xs) t (sym seen ∙ is)) (ap (λ zs. Some (record { entries = k.entries; ranking = k.ranking; contents = zs })) left))
