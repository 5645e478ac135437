-- The tree that a plan stands for (docs/plans.md, section 6).
use Rattle.std.specs.Prelude.{List, map, slice_get, unwrap_or}
use Rattle.sl_code_instructions.specs.declared.instr.Instr.{Instr}
use Rattle.sl_code_instructions.specs.declared.instr.Instr.TheVariants.{Set}
use Rattle.sl_compile_layout.specs.declared.plan.Part.{Part}
use Rattle.sl_compile_layout.specs.declared.plan.Part.TheVariants as part
use Rattle.sl_compile_layout.specs.declared.plan.Plan.{Plan}
use Rattle.sl_compile_layout.specs.declared.plan.Plan.TheVariants as plan
use Rattle.sl_compile_plans.specs.Trees.{Tree, Line, Stop, Then, If, Each, Times, ones}

-- the instruction of a part, where these are given. One that is not given leaves all as it is, but for the register of ones
abbrev pub filled : List Instr → Part → Instr
filled given (part.Fixed i) = i
filled given (part.Given n) = unwrap_or (slice_get given n) (Set ones 1)

abbrev pub tree_of : List Instr → Plan → Tree
tree_of given (plan.Line parts) = Line (map (filled given) parts.now)
tree_of given (plan.Stop x) = Stop (filled given x)
tree_of given (plan.Then' p a q b) = Then (tree_of given a) (tree_of given b)
tree_of given (plan.If' t p a q b) = If t (tree_of given a) (tree_of given b)
tree_of given (plan.Each' over p a) = Each over (tree_of given a)
tree_of given (plan.Times' r m p a) = Times r m (tree_of given a)
