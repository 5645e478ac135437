-- The stages of a rulebook by their names.
use Rattle.std.proofs.Common.{◌≡◌, ℕ, List, map, sym, ap, ◌∙◌}
use Rattle.std.proofs.lemmas.Simd.{map-map}
use Rattle.std.specs.List.{position}
use Rattle.std.specs.Str.{bytes_eq}
use Rattle.sl_base_quotients.proofs.NameLists.{position-map}
use Rattle.sl_law_meaning.specs.declared.book.Stage.{Stage as BookStage}
use Rattle.sl_law_meaning.specs.book.Trees.{StageTree, stage_of}

-- among the names of a book's stages it has the number that it has among the stages
pub number_among : (name : List ℕ) (stages : List BookStage) → position (λ s. bytes_eq name s.name) stages ≡ position (bytes_eq name) (map (λ s. s.name) (map stage_of stages))
number_among name stages =
    sym (position-map (λ (s : BookStage). s.name) (bytes_eq name) stages) ∙ ap (position (bytes_eq name)) (sym (map-map (λ (s : StageTree). s.name) stage_of stages))
