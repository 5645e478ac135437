-- The tie is of all peers, and its scope is not the table's.
use Rattle.std.proofs.Common.{◌≡◌, ℕ, List, Option, IsSome, map, refl, sym, ap, subst, ◌∙◌}
use Rattle.sl_law_meaning.specs.declared.fault.FaultKind.{FaultKind}
use Rattle.sl_law_meaning.specs.declared.fault.FaultKind.TheVariants as fault
use Rattle.sl_law_meaning.specs.declared.fault.Item.{Item}
use Rattle.sl_law_meaning.specs.declared.fault.Scope.{Scope}
use Rattle.sl_law_meaning.specs.returns.Election.{Election}
use Rattle.sl_code_instructions.specs.declared.operand.ScopeKind.{ScopeKind}
use Rattle.sl_code_instructions.specs.declared.operand.ScopeKind.TheVariants as kind
use Rattle.sl_code_instructions.specs.Codes.{CountingCode}
use Rattle.sl_base_rankings.specs.Peers.{peers}
use Rattle.sl_code_semantics.specs.State.{State, PriorityTable}
use Rattle.sl_code_semantics.specs.Places.{item_of, scope_at}
use Rattle.sl_code_semantics.specs.Effects.{faults}
use Rattle.sl_code_steps.specs.inner.Stores.{state_of}
use Rattle.sl_code_steps.proofs.drawing.Drawing.{said_there}
use Rattle.sl_code_steps.proofs.store.Store.end_with_tie.Goals as goal

same_scope : (k : ScopeKind) (s : State) (table : Option PriorityTable) → scope_at k s ≡ scope_at k (record s { table = table })
same_scope kind.All s table = refl
same_scope x s table = refl

same_fault : (code : CountingCode) (e : Election) (stage : ℕ) (k : ScopeKind) (why : FaultKind) (s : State) (table : Option PriorityTable)
    → faults code e stage k why (record s { table = table }) ≡ faults code e stage k why s
same_fault code e stage kind.All why s table = refl
same_fault code e stage x why s table = refl

pub fault-requires-clause-scope : goal.fault-requires-clause-scope
fault-requires-clause-scope c =
    subst (λ (o : Option Scope). IsSome o) (same_scope c.args.scope (state_of c.args.self.now) c.take_peers.new.self.on) c.requires.scope

pub returns-clause-follows : goal.returns-clause-follows
returns-clause-follows c =
    let e = c.args.returns.now in
    let s = state_of c.args.self.now in
    let items = c.in_ok-take_peers.field-0.items in
    let said : PriorityTable → List Item = λ t. map (λ x. item_of e t.entries x.index) (peers t.contents) in
    c.fault.ensures e
    ∙ same_fault c.args.code.now e c.args.stage c.args.scope (fault.Tie c.register-seats.result c.new-names.result) s c.take_peers.new.self.on
    ∙ ap (λ (names : List Item). faults c.args.code.now e c.args.stage c.args.scope (fault.Tie c.register-seats.result names) s) c.new-names.ensures
    ∙ ap (λ (seats : ℕ). faults c.args.code.now e c.args.stage c.args.scope (fault.Tie seats items) s) c.register-seats.ensures
    ∙ sym (said_there c.args.self.now.table.on said items
    (λ names. faults c.args.code.now e c.args.stage c.args.scope (fault.Tie (s.registers c.args.seats) names) s) c.requires.top c.in_ok-take_peers.ensures.items)
