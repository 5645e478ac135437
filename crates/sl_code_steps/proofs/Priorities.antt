-- The priority table, as the entries of a `Prio` make it.
use Rattle.std.proofs.Common.{◌≡◌, ℕ, ◌<◌, Bool, List, [], ◌∷◌, slice_get, Option, Some, None, is_some, Result, Ok, Err, OnOk, OnErr, All, IsPermutation, IsSome, refl, sym, ap, subst, ◌∙◌}
use Rattle.std.specs.Prelude.{if◌then◌else◌}
use Rattle.std.specs.Option.{option_map, option_and_then, ForSome}
use Rattle.std.proofs.lemmas.Bool.{true≢false}
use Rattle.std.proofs.lemmas.Option.{same_Some}
use Rattle.std.proofs.lemmas.List.Elements.{All-cons, All-head, All-tail}
use Rattle.std.proofs.lemmas.List.Sorted.{All-permutation, IsPermutation-sym}
use Rattle.sl_base_quotients.specs.declared.entry.Entry.{Entry}
use Rattle.sl_base_quotients.specs.Quotient.{FitsRatio}
use Rattle.sl_law_meaning.specs.returns.Election.{Election}
use Rattle.sl_base_rankings.specs.Ranking.{ranked}
use Rattle.sl_base_rankings.specs.Peers.{top, peers, is_covered}
use Rattle.sl_base_rankings.specs.Lot.{drawn}
use Rattle.sl_base_rankings.specs.Laws.{AnswersAlike}
use Rattle.sl_base_rankings.specs.Lot.{lot_cmp}
use Rattle.sl_base_rankings.proofs.Greatest.{greatest-None}
use Rattle.sl_base_rankings.proofs.Orders.{lot_order}
use Rattle.sl_base_rankings.proofs.Rankings.{ranked-permutation}
use Rattle.sl_base_rankings.proofs.LawProofs.{order_is_free, first_peers}
use Rattle.sl_base_rankings.proofs.RankedEntries.{ranked_alike, ranked_with_one_more, ranked_without_one}
use Rattle.sl_prio.specs.inner.Marks.{IsPassed}
use Rattle.sl_code_steps.specs.declared.priority.TableKind.{TableKind}
use Rattle.sl_code_steps.specs.declared.priority.PriorityTable.TheInside.{Inside}
use Rattle.sl_code_steps.specs.declared.priority.Taken.{Taken}
use Rattle.sl_code_semantics.specs.State.{State, PriorityTable}
use Rattle.sl_code_semantics.specs.Places.{at_entry}
use Rattle.sl_code_semantics.specs.Effects.{Goes, Jumps, given, takes, mark_of, with_entry}
use Rattle.sl_code_semantics.specs.Safe.{entries_in}
use Rattle.sl_code_steps.specs.inner.Lots.{LotTable}
use Rattle.sl_code_steps.specs.inner.Tables.{FitsMark, HasMarks, HasPassed, table_in}

-- ---- a table that is on

abbrev pub table_with : TableKind → List Entry → PriorityTable
table_with k xs = record { entries = k.entries; ranking = k.ranking; contents = ranked xs }

pub contents_of : (kind : Option TableKind) (xs : List Entry) (x : PriorityTable) → option_map (λ k. table_with k xs) kind ≡ Some x → x.contents ≡ ranked xs
contents_of None xs x h = cc
contents_of (Some k) xs x h = ap (λ t. t.contents) (sym (same_Some (table_with k xs) x h))

pub alike : (xs : List Entry) → AnswersAlike xs (ranked xs)
alike xs = order_is_free xs (ranked xs) (ranked-permutation xs)

pub seen_peers : (kind : Option TableKind) (xs : List Entry) (x : PriorityTable) → option_map (λ k. table_with k xs) kind ≡ Some x → peers xs ≡ peers x.contents
seen_peers kind xs x h = (alike xs).same_peers ∙ ap peers (sym (contents_of kind xs x h))

-- what the lot of a stage does where it names every peer, and where it does not
pub covered_is : (kind : Option TableKind) (k : TableKind) (xs : List Entry) (now : Option PriorityTable) (lot : List ℕ) (s : State) (result : Bool)
    → kind ≡ Some k → option_map (λ k. table_with k xs) kind ≡ now → result ≡ is_covered lot xs
    → given now (λ t. if is_covered lot t.contents then Goes s else Jumps s) ≡ (if result then Goes s else Jumps s)
covered_is kind k xs now lot s result is view told =
    rw (← view, is) (ap (λ (b : Bool). if b then Goes s else Jumps s) (sym ((alike xs).same_covers lot) ∙ sym told))

-- the same entries in another order make the same table, and keep what it keeps
module _ (t : Inside) (ys : List Entry) (h : IsPermutation t.prio ys) where
  pub same_table : table_in (record t { prio = ys }) ≡ table_in t
  same_table = ap (λ (zs : List Entry). option_map (λ (k : TableKind). record { entries = k.entries; ranking = k.ranking; contents = zs }) t.kind) (sym (ranked_alike t.prio ys h))

  pub same_on : {now : LotTable} → record { on = table_in t; lots = t.lots } ≡ now → record { on = table_in (record t { prio = ys }); lots = t.lots } ≡ now
  same_on view = ap (λ (on : Option PriorityTable). record { on = on; lots = t.lots }) same_table ∙ view

  pub same_kept : HasMarks t × All (λ x. FitsRatio x.ratio) t.prio × HasPassed t → HasMarks (record t { prio = ys }) × All (λ x. FitsRatio x.ratio) ys × HasPassed (record t { prio = ys })
  same_kept kept = (
    (λ kind is. All-permutation (λ x. FitsMark kind.ranking x.ratio) t.prio ys h (kept.0 kind is)),
    All-permutation (λ x. FitsRatio x.ratio) t.prio ys h kept.1,
    (λ kind is lot at. subst (λ (ps : List Entry). IsPassed lot t.draws.passed ps) (order_is_free t.prio ys h).same_peers (kept.2 kind is lot at)),
  )

pub top_there : (kind : Option TableKind) (xs : List Entry) → IsSome (option_and_then (λ x. top x.contents) (option_map (λ k. table_with k xs) kind)) → IsSome (top xs)
top_there None xs h = cc
top_there (Some k) xs h = subst (λ (o : Option Entry). IsSome o) (sym (alike xs).same_top) h

drawn_some : (lot : List ℕ) (xs : List Entry) (o : Option Entry) → drawn lot xs ≡ o → IsSome (top xs) → IsSome o
drawn_some lot xs (Some x) h some = refl
drawn_some lot xs None h some =
    let empty : peers xs ≡ [] = greatest-None (lot_cmp lot) (lot_order lot) (peers xs) h in
    let none : None ≡ top xs = sym (ap (λ ps. slice_get ps 0) empty) ∙ first_peers xs in
    absurd (true≢false (sym some ∙ ap is_some (sym none)))

-- where there is a top, a lot draws an entry
pub drawn_there : (lot : List ℕ) (xs : List Entry) → IsSome (top xs) → IsSome (drawn lot xs)
drawn_there lot xs some = drawn_some lot xs (drawn lot xs) refl some

-- ---- entries that go in and are taken

pub taken_fits : (P : Entry → Type 0) (xs ys : List Entry) (x : Entry) → IsPermutation xs (x ∷ ys) → All P xs → P x × All P ys
taken_fits P xs ys x h all =
    let both = All-permutation P xs (x ∷ ys) h all in
    (All-head P x ys both, All-tail P x ys both)

pub takes_from : (k : TableKind) (xs ys : List Entry) (x : Entry) (o : Option Entry) (e : Election) (s : State) → o ≡ Some x → IsPermutation xs (x ∷ ys)
    → takes e (table_with k xs) o s ≡ Goes (at_entry e k.entries x.index (record s { table = Some (table_with k ys); mark = mark_of k.ranking x.ratio }))
takes_from k xs ys x o e s is h =
    rw is (ap (λ (zs : List Entry). Goes (at_entry e k.entries x.index (record s { table = Some (record { entries = k.entries; ranking = k.ranking; contents = zs }); mark = mark_of k.ranking x.ratio }))) (ranked_without_one x xs ys h))

pub taken_is : (kind : Option TableKind) (k : TableKind) (xs ys : List Entry) (x : Entry) (taken : Taken) (now : Option PriorityTable) (pick : List Entry → Option Entry)
    → kind ≡ Some k → option_map (λ k. table_with k xs) kind ≡ now → taken ≡ record { entries = k.entries; index = x.index; mark = mark_of k.ranking x.ratio }
    → pick (ranked xs) ≡ Some x → IsPermutation xs (x ∷ ys) → (e : Election) (s : State)
    → given now (λ t. takes e t (pick t.contents) s) ≡ Goes (at_entry e taken.entries taken.index (record s { table = option_map (λ k. table_with k ys) kind; mark = taken.mark }))
taken_is kind k xs ys x taken now pick is view told first h e s =
    rw (← view, is, told) (takes_from k xs ys x (pick (ranked xs)) e s first h)

pub taken_within : (e : Election) (kind : Option TableKind) (k : TableKind) (xs ys : List Entry) (x : Entry) (taken : Taken) (now : Option PriorityTable)
    → kind ≡ Some k → option_map (λ k. table_with k xs) kind ≡ now → taken ≡ record { entries = k.entries; index = x.index; mark = mark_of k.ranking x.ratio }
    → IsPermutation xs (x ∷ ys) → ForSome now (λ t. All (λ x. x.index < entries_in e t.entries) t.contents) → taken.index < entries_in e taken.entries
taken_within e kind k xs ys x taken now is view told h all =
    let P : Entry → Type 0 = λ x. x.index < entries_in e k.entries in
    let ranked_in : All P (ranked xs) = all (table_with k xs) (sym view ∙ ap (option_map (λ k. table_with k xs)) is) in
    let held : All P xs = All-permutation P (ranked xs) xs (IsPermutation-sym xs (ranked xs) (ranked-permutation xs)) ranked_in in
    rw told (taken_fits P xs ys x h held).0

module _ {T E : Type 0} where
  pub put_fits : (P : Entry → Type 0) (xs ys : List Entry) (x : Entry) (r : Result T E) → OnOk r (IsPermutation (x ∷ xs) ys) → OnErr r (ys ≡ xs) → P x → All P xs → All P ys
  put_fits P xs ys x (Ok u) added same fits all = All-permutation P (x ∷ xs) ys added (All-cons P x xs fits all)
  put_fits P xs ys x (Err e) added same fits all = subst (λ (zs : List Entry). All P zs) (sym same) all

  pub put_enters : (kind : Option TableKind) (xs ys : List Entry) (x : Entry) (now : Option PriorityTable) (r : Result T E)
      → OnOk r (IsPermutation (x ∷ xs) ys) → option_map (λ k. table_with k xs) kind ≡ now → OnOk r (option_map (λ k. table_with k ys) kind ≡ option_map (with_entry x) now)
  put_enters None xs ys x now (Ok u) added view = rw (← view) refl
  put_enters (Some k) xs ys x now (Ok u) added view =
      rw (← view) (ap (λ (zs : List Entry). Some (record { entries = k.entries; ranking = k.ranking; contents = zs })) (ranked_with_one_more x xs ys added))
  put_enters kind xs ys x now (Err e) added view = tt
