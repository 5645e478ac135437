-- Splits and growths, whose arguments are in scratch columns.
use Rattle.std.proofs.Common.{◌≡◌, ℕ, get_or, ◌+◌, ◌<◌, ◌≤◌, Bool, true, false, ◌==◌, if◌then◌else◌, List, [], ◌∷◌, All, length, Option, None, Some, slice_get, ap, subst, ◌∙◌, arith}
use Rattle.std.specs.Prelude.{option_map}
use Rattle.std.proofs.lemmas.Bool.{false≢true, ne_eqb}
use Rattle.std.proofs.lemmas.Option.{same_Some}
use Rattle.sl_base_quotients.specs.declared.limits.TheConstants.{MAX_SEATS, MAX_WEIGHT}
use Rattle.sl_base_quotients.specs.declared.method.Divisor.{Divisor}
use Rattle.sl_base_quotients.specs.declared.method.Method.{Method}
use Rattle.sl_base_quotients.specs.declared.method.Method.TheVariants as by
use Rattle.sl_law_meaning.specs.declared.book.Majority.{Majority}
use Rattle.sl_base_terms.specs.declared.shape.Shape.{Shape}
use Rattle.sl_base_terms.specs.declared.shape.Shape.TheVariants as shape
use Rattle.sl_law_meaning.specs.declared.limits.TheConstants.{MAX_DEPTH}
use Rattle.sl_base_terms.specs.declared.limits.TheConstants.{MAX_STAGES}
use Rattle.sl_law_meaning.specs.book.Typing.{Column, can_split}
use Rattle.sl_law_meaning.specs.returns.Election.{Election, IsElection}
use Rattle.sl_law_meaning.specs.meaning.Results.{ExprResult, Stand}
use Rattle.sl_law_meaning.specs.meaning.Expressions.{IsSplit, IsGrown}
use Rattle.sl_law_meaning.specs.laws.OneLaws.{FitsMethod}
use Rattle.sl_code_instructions.specs.declared.code.CodeStage.{CodeStage}
use Rattle.sl_code_instructions.specs.Codes.{CountingCode}
use Rattle.sl_code_semantics.specs.declared.known.TheConstants.{LAST_CLAUSE}
use Rattle.sl_code_semantics.specs.State.{State}
use Rattle.sl_code_semantics.specs.Effects.{stage_of, name_of}
use Rattle.sl_compile_plans.specs.Trees.{Tree}
use Rattle.sl_compile_plans.specs.Achieves.{Achieves}
use Rattle.sl_compile_plans.proofs.Rules.{achieves_so}
use Rattle.sl_compile_pieces.specs.columns.Columns.{HoldsColumn}
use Rattle.sl_compile_pieces.specs.scopes.Forms.{Form, AllParties, AllLands, AllLists, ListsOfParty, ListsInLand, amounts_of, votes_of, groups_of}
use Rattle.sl_compile_pieces.specs.seats.Slots.{Slots, HasSlots}
use Rattle.sl_compile_pieces.specs.nodes.Scopes as node
use Rattle.sl_compile_pieces.specs.nodes.Nodes.{HasResult, EndsWith}
use Rattle.sl_compile_pieces.specs.nodes.Trees.{split_tree, grow_tree}
use Rattle.sl_compile_pieces.proofs.nodes.Arguments.{cells_within}
use Rattle.sl_compile_pieces.proofs.nodes.Nodes.{splits_achieve, growths_achieve}
use Rattle.sl_compile_pieces.specs.exprs.Slots.{passing, StandsOn, FIRST_STAGE_SLOT}
use Rattle.sl_compile_pieces.specs.declared.arguments.Arguments.{Arguments}
use Rattle.sl_compile_pieces.specs.exprs.Pieces.{form_by, node_slots}
use Rattle.sl_compile_pieces.proofs.exprs.Following.{AllAchieve, all_one}
use Rattle.sl_compile_pieces.proofs.exprs.Places.{first_of, stages_above, outside, stands_apart, amounts_stand_apart}
use Rattle.sl_compile_pieces.specs.exprs.Meaning.{ComesTo}

-- ---- the columns of arguments and of results

comes_node : (e : Election) (f : Form) (x : Slots) (IsResult : ExprResult → Type 0) (first : ℕ) (s t : State) → first ≤ x.result → x.result < FIRST_STAGE_SLOT → HasResult e f x IsResult s t
    → ComesTo e IsResult (votes_of f) x.result first s t
comes_node e f x IsResult first s t from within h = record {
  values = h.values;
  records = h.records;
  result = h.result;
  column = h.column;
  columns = λ k q apart. h.columns k q (outside k first x.result apart from within);
  adds = h.adds;
}

-- ---- the slots of a split or a growth

-- the stage is one of the code, under its name
pub record HasStage (c : CountingCode) (stage : ℕ) (name : List ℕ) : Type 0 where
  pub stage_is : stage_of c.stages stage ≡ Some stage
  pub named : name_of c.stages stage ≡ Some name

pub has_stage : (c : CountingCode) (stage : ℕ) (name : List ℕ) (of : CodeStage) → stage < MAX_STAGES → slice_get c.stages stage ≡ Some of → of.name ≡ name → HasStage c stage name
has_stage c stage name of few staged named =
    let not_last : (stage == LAST_CLAUSE) ≡ false = ne_eqb stage LAST_CLAUSE (λ (same : stage ≡ LAST_CLAUSE). omega (arith, same, few)) in
    record {
      stage_is = ap (λ (b : Bool). if b then Some (length c.stages) else option_map (λ stage'. stage) (slice_get c.stages stage)) not_last ∙ ap (option_map (λ (s : CodeStage). stage)) staged;
      named = ap (λ (b : Bool). if b then name_of c.stages LAST_CLAUSE else option_map (λ stage. stage.name) (slice_get c.stages stage)) not_last
          ∙ ap (option_map (λ (s : CodeStage). s.name)) staged ∙ ap Some named;
    }

-- the slot of an argument is there, on that level
pub record IsThere (c : CountingCode) (level : ℕ) (s : Shape) (slot : ℕ) : Type 0 where
  pub there : slice_get c.slots slot ≡ Some s
  pub on : StandsOn level s slot

-- those of seats and votes are, and of minima, if there are any, one level after the other
pub record HasArguments (c : CountingCode) (level : ℕ) (s v : Shape) (from : Arguments) : Type 0 where
  pub amounts : IsThere c level s from.amounts
  pub votes : IsThere c (level + 1) v from.votes
  pub minima : (slot : ℕ) → from.minima ≡ Some slot → IsThere c (level + 2) v slot

pub without_minima : (c : CountingCode) (level : ℕ) (s v : Shape) (amounts votes : ℕ) → IsThere c level s amounts → IsThere c (level + 1) v votes
    → HasArguments c level s v (record { amounts = amounts; votes = votes; minima = None })
without_minima c level s v amounts votes a b = record { amounts = a; votes = b; minima = λ slot is. cc }

pub with_minima : (c : CountingCode) (level : ℕ) (s v : Shape) (amounts votes minima : ℕ) → IsThere c level s amounts → IsThere c (level + 1) v votes
    → IsThere c (level + 2) v minima → HasArguments c level s v (record { amounts = amounts; votes = votes; minima = Some minima })
with_minima c level s v amounts votes minima a b m =
    record { amounts = a; votes = b; minima = λ slot is. subst (IsThere c (level + 2) v) (same_Some minima slot is) m }

module _ (c : CountingCode) (types : List Column) (stage : ℕ) (name : List ℕ) (level : ℕ) (stands : HasStage c stage name)
    (passing_are : (k : ℕ) (s : Shape) → k ≤ MAX_DEPTH → slice_get c.slots (passing k s) ≡ Some s) (low : level + 1 ≤ MAX_DEPTH) (from : Arguments) where
  has_slots : (f : Form) → HasArguments c level (amounts_of f) (votes_of f) from → HasSlots c f (node_slots types stage level from (votes_of f)) name
  has_slots f has = record {
    amounts = has.amounts.there;
    votes = has.votes.there;
    minima = λ slot is. (has.minima slot is).there;
    result = passing_are level (votes_of f) (omega (arith, low));
    not_amounts = amounts_stand_apart f level from.amounts has.amounts.on;
    not_votes = stands_apart level (level + 1) (votes_of f) (votes_of f) from.votes (omega arith) has.votes.on;
    not_minima = λ slot is. stands_apart level (level + 2) (votes_of f) (votes_of f) slot (omega arith) (has.minima slot is).on;
    stage = stands.stage_is;
    named = stands.named;
  }

  module _ (e : Election) (is : IsElection e) (amounts votes : List ℕ) (u : State) (weights : All (λ weight. weight ≤ MAX_WEIGHT) votes) where
    -- the columns of the amounts, of the votes, and of the minima if there are any
    abbrev pub Holds : (s v : Shape) (minima : Option (List ℕ)) → Type 0
    Holds s v minima = HoldsColumn e s (u.columns from.amounts) amounts × HoldsColumn e v (u.columns from.votes) votes × node.HoldsMinima e v from.minima u minima

    holds_arguments : (f : Form) (minima : Option (List ℕ)) → Holds (amounts_of f) (votes_of f) minima
        → node.HoldsArguments e f (node_slots types stage level from (votes_of f)) amounts votes minima u
    holds_arguments f minima h = record {
      amounts_are = h.0;
      votes_are = h.1;
      minima_are = h.2;
      weights = λ k g within. cells_within MAX_WEIGHT e (get_or (groups_of e f) k g).entries votes weights;
    }

    node_all : (f : Form) (tree : Tree) (IsResult : ExprResult → Type 0)
        → Achieves c e tree u (HasResult e f (node_slots types stage level from (votes_of f)) IsResult u) (EndsWith IsResult)
        → AllAchieve c e (tree ∷ []) u (ComesTo e IsResult (votes_of f) (passing level (votes_of f)) (first_of level) u) (EndsWith IsResult)
    node_all f tree IsResult h =
        all_one (achieves_so h
        (λ t k. comes_node e f (node_slots types stage level from (votes_of f)) IsResult (first_of level) u t (omega arith)
        (stages_above level (votes_of f) (omega (arith, low))) k))

    abbrev at_votes : Shape → Stand
    at_votes v = record { stage = stage; name = name; shape = v }

    -- what is shown of a split, and of a growth, in the form of these shapes
    abbrev Splits : (minima : Option (List ℕ)) (method : Method) (majority : Majority) → Form → (s v : Shape) → Type 0
    Splits minima method majority f s v =
        HasArguments c level s v from → Holds s v minima
        → AllAchieve c e (split_tree f (node_slots types stage level from v) method majority ∷ []) u
        (ComesTo e (IsSplit e (at_votes v) amounts votes s method majority minima) v (passing level v) (first_of level) u)
        (EndsWith (IsSplit e (at_votes v) amounts votes s method majority minima))

    abbrev Grows : (minima : List ℕ) (d : Divisor) (majority : Majority) (cap : ℕ) → Form → (s v : Shape) → Type 0
    Grows minima d majority cap f s v =
        s ≡ shape.One → HasArguments c level s v from → Holds s v (Some minima)
        → AllAchieve c e (grow_tree f (node_slots types stage level from v) d majority cap ∷ []) u
        (ComesTo e (IsGrown e (at_votes v) amounts votes (by.Divisor d) majority minima cap) v (passing level v) (first_of level) u)
        (EndsWith (IsGrown e (at_votes v) amounts votes (by.Divisor d) majority minima cap))

    split_formed : (minima : Option (List ℕ)) (method : Method) (majority : Majority) → FitsMethod method minima → (f : Form)
        → Splits minima method majority f (amounts_of f) (votes_of f)
    split_formed minima method majority fits f has holds =
        node_all f _ _ (splits_achieve c e f (node_slots types stage level from (votes_of f)) name amounts votes minima method majority u is
        (has_slots f has) fits (holds_arguments f minima holds))

    grow_formed : (minima : List ℕ) (d : Divisor) (majority : Majority) (cap : ℕ) → cap ≤ MAX_SEATS → (f : Form)
        → Grows minima d majority cap f (amounts_of f) (votes_of f)
    grow_formed minima d majority cap small f one has holds =
        node_all f _ _ (growths_achieve c e f (node_slots types stage level from (votes_of f)) name amounts votes minima d majority cap u is
        (has_slots f has) one small (holds_arguments f (Some minima) holds))

    by_form : (P : Form → Shape → Shape → Type 0) → ((f : Form) → P f (amounts_of f) (votes_of f)) → (s v : Shape) → can_split s v ≡ true → P (form_by s v) s v
    by_form P each shape.One shape.Party can = each AllParties
    by_form P each shape.One shape.Land can = each AllLands
    by_form P each shape.One shape.List can = each AllLists
    by_form P each shape.Party shape.List can = each ListsOfParty
    by_form P each shape.Land shape.List can = each ListsInLand
    by_form P each _ _ can = absurd (false≢true can)

    pub split_all : (minima : Option (List ℕ)) (method : Method) (majority : Majority) → FitsMethod method minima → (s v : Shape) → can_split s v ≡ true
        → HasArguments c level s v from → Holds s v minima
        → AllAchieve c e (split_tree (form_by s v) (node_slots types stage level from v) method majority ∷ []) u
        (ComesTo e (IsSplit e (record { stage = stage; name = name; shape = v }) amounts votes s method majority minima) v (passing level v) (first_of level) u)
        (EndsWith (IsSplit e (record { stage = stage; name = name; shape = v }) amounts votes s method majority minima))
    split_all minima method majority fits s v can = by_form (Splits minima method majority) (split_formed minima method majority fits) s v can

    pub grow_all : (minima : List ℕ) (d : Divisor) (majority : Majority) (cap : ℕ) → cap ≤ MAX_SEATS → (s v : Shape) → can_split s v ≡ true
        → s ≡ shape.One → HasArguments c level s v from → Holds s v (Some minima)
        → AllAchieve c e (grow_tree (form_by s v) (node_slots types stage level from v) d majority cap ∷ []) u
        (ComesTo e (IsGrown e (record { stage = stage; name = name; shape = v }) amounts votes (by.Divisor d) majority minima cap) v (passing level v) (first_of level) u)
        (EndsWith (IsGrown e (record { stage = stage; name = name; shape = v }) amounts votes (by.Divisor d) majority minima cap))
    grow_all minima d majority cap small s v can = by_form (Grows minima d majority cap) (grow_formed minima d majority cap small) s v can
