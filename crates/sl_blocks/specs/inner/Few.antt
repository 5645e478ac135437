-- Few conditions as the program has them.
use Rattle.std.specs.Prelude.{ℕ, ◌<◌, ◌^◌, Bool, true, false, List, [], ◌∷◌, ◌++◌, flat_map, All, Option, None, Some, unwrap_or}
use Rattle.sl_law_meaning.specs.declared.book.Cond.{Cond}
use Rattle.sl_law_meaning.specs.declared.book.Cond.TheVariants as condition
use Rattle.sl_law_meaning.specs.book.Limits.{condition_numbers}
use Rattle.sl_code_instructions.specs.declared.instr.Instr.{Instr}
use Rattle.sl_code_instructions.specs.declared.instr.Instr.TheVariants.{Set}
use Rattle.sl_compile_pieces.specs.declared.registers.TheConstants.{OTHER as number}
use Rattle.sl_blocks.specs.declared.easiest.Share.{Share}
use Rattle.sl_blocks.specs.declared.easiest.Easiest.{Easiest}

abbrev pub share_condition : Share → Cond
share_condition s = condition.Valid s.share s.per

abbrev pub share_in : Option Share → List Cond
share_in None = []
share_in (Some s) = share_condition s ∷ []

abbrev pub winners_in : Option ℕ → List Cond
winners_in None = []
winners_in (Some least) = condition.Winners least ∷ []

abbrev pub minority_in : Bool → List Cond
minority_in false = []
minority_in true = condition.Minority ∷ []

abbrev pub all_in : Bool → List Cond
all_in false = []
all_in true = condition.All ∷ []

abbrev pub few_of : Easiest → List Cond
few_of few = share_in few.valid ++ (winners_in few.winners ++ (minority_in few.minority ++ all_in few.all))

-- conditions whose numbers fit four bytes
abbrev pub AreSmall : List Cond → Type 0
AreSmall few = All (λ n. n < 2 ^ 32) (flat_map condition_numbers few)

-- the numbers of the share, 0 where there is none
abbrev pub votes_of : Option Share → ℕ
votes_of None = 0
votes_of (Some s) = s.share.value

abbrev pub per_of : Option Share → ℕ
per_of None = 0
per_of (Some s) = s.per

-- the instructions of the blanks in the plan of the eligible parties
abbrev pub given_of : Easiest → List Instr
given_of few = Set number (votes_of few.valid) ∷ (Set number (per_of few.valid) ∷ (Set number (unwrap_or few.winners 0) ∷ []))
