-- What is laid out of a plan (docs/blocks.md, section 5).
use Rattle.std.specs.Prelude.{◌≡◌, ℕ, List, ◌++◌, length}
use Rattle.sl_base_quotients.specs.declared.method.Divisor.{Divisor}
use Rattle.sl_base_quotients.specs.declared.method.Method.{Method}
use Rattle.sl_base_terms.specs.declared.shape.Shape.{Shape}
use Rattle.sl_code_instructions.specs.declared.instr.Instr.{Instr}
use Rattle.sl_compile_plans.specs.Trees.{Tree}
use Rattle.sl_compile_plans.specs.Laid.{laid}
use Rattle.sl_compile_pieces.specs.declared.form.Form.{Form}
use Rattle.sl_compile_pieces.specs.nodes.Trees.{split_tree, grow_tree}
use Rattle.sl_blocks.specs.declared.job.Job.{Job}
use Rattle.sl_blocks.specs.inner.Jobs.{slots_of, IsJob}

-- the code after is the code before, p instructions, with the plan's after a declaration
abbrev pub IsLaid : Tree → ℕ → List Instr → List Instr → Type 0
IsLaid tree p before after = after ≡ before ++ laid p tree

-- the code after is the code before with the plan of that split (sl_compile_pieces, nodes) after a declaration
abbrev pub IsLaidSplit : (shapes : List Shape) (j : Job) (method : Method) → List Instr → List Instr → Type 0
IsLaidSplit shapes j method before after =
    (f : Form) → IsJob shapes f j → IsLaid (split_tree f (slots_of j) method j.majority) (length before) before after

-- and that of a growth
abbrev pub IsLaidGrowth : (shapes : List Shape) (j : Job) (d : Divisor) (cap : ℕ) → List Instr → List Instr → Type 0
IsLaidGrowth shapes j d cap before after =
    (f : Form) → IsJob shapes f j → IsLaid (grow_tree f (slots_of j) d j.majority cap) (length before) before after
