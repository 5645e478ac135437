-- Splits and growths, from what their plans achieve in each scope.
use Rattle.std.proofs.Common.{Some, subst}
use Rattle.sl_base_terms.specs.declared.shape.Shape.{Shape}
use Rattle.sl_law_meaning.specs.meaning.Scopes.{scopes}
use Rattle.sl_law_meaning.specs.meaning.Results.{ExprResult, Stand, IsShared}
use Rattle.sl_law_meaning.specs.meaning.Expressions.{IsSplitIn, split_records, IsGrowthIn, growth_records}
use Rattle.sl_law_meaning.specs.laws.OneLaws.{ExactlyOne}
use Rattle.sl_law_meaning.proofs.meaning.OneResult.{one_split_award, one_growth_award}
use Rattle.sl_compile_plans.specs.Achieves.{Achieves}
use Rattle.sl_compile_pieces.specs.scopes.Forms.{votes_of}
use Rattle.sl_compile_pieces.specs.nodes.Trees.{split_scope, grow_scope, grow_tree}
use Rattle.sl_compile_pieces.specs.nodes.Scopes.{stand}
use Rattle.sl_compile_pieces.specs.nodes.Nodes.{HasResult, EndsWith, SplitsAchieve, GrowthsAchieve}
use Rattle.sl_compile_pieces.proofs.nodes.Joining.{scopes_are_joined}
use Rattle.sl_compile_pieces.proofs.nodes.SplitScopes.{split_scopes_achieve}
use Rattle.sl_compile_pieces.proofs.nodes.GrowthScopes.{growth_scopes_achieve}

pub splits_achieve : SplitsAchieve
splits_achieve c e f x name amounts votes minima method majority state election slots fits holds =
    let at : Stand = stand f x name in
    scopes_are_joined c e f x name amounts votes minima (IsSplitIn e at amounts votes method majority minima) (split_records e at amounts votes method majority minima)
    (split_scope f x method majority) state slots
    (λ g. let award : ExactlyOne (IsSplitIn e at amounts votes method majority minima g) = one_split_award e at amounts votes method majority minima fits g in (award.one, award.is))
    (split_scopes_achieve c e f x name amounts votes minima method majority election slots fits) holds

pub growths_achieve : GrowthsAchieve
growths_achieve c e f x name amounts votes minima d majority cap state election slots one small holds =
    let at : Stand = stand f x name in
    let Result : Shape → ExprResult → Type 0 =
    λ over. IsShared e at amounts (IsGrowthIn e at amounts votes d majority minima cap) (growth_records e at amounts votes d minima) (scopes e over (votes_of f)) in
    subst (λ over. Achieves c e (grow_tree f x d majority cap) state (HasResult e f x (Result over) state) (EndsWith (Result over))) one
    (scopes_are_joined c e f x name amounts votes (Some minima) (IsGrowthIn e at amounts votes d majority minima cap) (growth_records e at amounts votes d minima)
    (grow_scope f x d majority cap) state slots
    (λ g. let award : ExactlyOne (IsGrowthIn e at amounts votes d majority minima cap g) = one_growth_award e at amounts votes d majority minima cap g in (award.one, award.is))
    (growth_scopes_achieve c e f x name amounts votes minima d majority cap election slots small) holds)
