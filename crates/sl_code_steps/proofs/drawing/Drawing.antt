-- What is said of the table that is on, where there is a top.
use Rattle.std.proofs.Common.{◌≡◌, ◌≢◌, ℕ, suc, List, Option, Some, None, IsSome, option_map, refl, ap, ◌∙◌}
use Rattle.std.specs.Option.{option_and_then}
use Rattle.std.proofs.lemmas.Option.{same_Some}
use Rattle.sl_base_quotients.specs.declared.entry.Entry.{Entry}
use Rattle.sl_base_rankings.specs.Peers.{top}
use Rattle.sl_law_meaning.specs.declared.fault.Item.{Item}
use Rattle.sl_law_meaning.specs.declared.fault.Scope.{Scope}
use Rattle.sl_law_meaning.specs.returns.Election.{Election}
use Rattle.sl_code_semantics.specs.Drawn.{lot_of}
use Rattle.sl_code_semantics.specs.State.{PriorityTable}
use Rattle.sl_code_semantics.specs.Effects.{Effect, NoCase, given, where_positive}

given_some : (o : Option Entry) (x : Effect) → IsSome o → given o (λ first. x) ≡ x
given_some None x h = cc
given_some (Some first) x h = refl

-- where there is a top, a lot has something to draw from
pub topped : (e : Election) (go : PriorityTable → List ℕ → Effect) (table : Option PriorityTable) (name : Option (List ℕ)) → IsSome (option_and_then (λ t. top t.contents) table)
    → given table (λ t. given (top t.contents) (λ first. given name (λ n. go t (lot_of e t.entries n)))) ≡ given table (λ t. given name (λ n. go t (lot_of e t.entries n)))
topped e go None name some = refl
topped e go (Some t) name some = given_some (top t.contents) (given name (λ n. go t (lot_of e t.entries n))) some

-- what is said of the table's entries, where there is a top
pub said_there : {A : Type 0} (table : Option PriorityTable) (said : PriorityTable → A) (x : A) (go : A → Effect) → IsSome (option_and_then (λ t. top t.contents) table)
    → option_map said table ≡ Some x → given table (λ t. given (top t.contents) (λ first. go (said t))) ≡ go x
said_there None said x go some h = cc
said_there (Some t) said x go some h = given_some (top t.contents) (go (said t)) some ∙ ap go (same_Some (said t) x h)

item_there : (index : Option ℕ) (item : ℕ → Item) (go : ℕ → Effect) → given index go ≢ NoCase → IsSome (option_map item index)
item_there None item go h = absurd (h refl)
item_there (Some i) item go h = refl

-- an instruction that records the entry at the cursors has one
pub entry_there : (n : ℕ) (stage : Option ℕ) (scope : Option Scope) (table : Option PriorityTable) (index : PriorityTable → Option ℕ) (item : PriorityTable → ℕ → Item)
    (go : ℕ → Scope → PriorityTable → ℕ → Effect) → where_positive n (given stage (λ a. given scope (λ b. given table (λ t. given (index t) (λ i. go a b t i))))) ≢ NoCase
    → IsSome (option_and_then (λ t. option_map (item t) (index t)) table)
entry_there (suc n) (Some a) (Some b) (Some t) index item go h = item_there (index t) (item t) (go a b t) h
entry_there n stage scope table index item go h = absurd (h refl)
