-- How a value of `Cell` keeps what is recorded of a list, in three numbers.
use Rattle.std.proofs.Common.{◌≡◌, ℕ, Bool, true, false, Option, None, Some, nat_eq, refl, sym, if◌then◌else◌}
use Rattle.std.specs.Option.{unwrap_or}
use Rattle.std.proofs.lemmas.Bool.{eqb-true}
use Rattle.sl_stages.specs.declared.cell.TheConstants.{NONE}
use Rattle.sl_stages.specs.declared.cell.Cell.TheInside.{Inside}
use Rattle.sl_law_meaning.specs.declared.election.ListVotes.{ListVotes}

-- the names left, if they are given
abbrev slate_told : ℕ → Option ℕ
slate_told slate = if nat_eq slate NONE then None else Some slate

abbrev pub votes_in : Inside → Option ListVotes
votes_in c = if nat_eq c.valid NONE then None else Some (record { valid = c.valid; counted = c.counted; slate = slate_told c.slate })

-- the inverse
abbrev pub cell_of : Option ListVotes → Inside
cell_of None = record { valid = NONE; counted = 0; slate = NONE }
cell_of (Some v) = record { valid = v.valid; counted = v.counted; slate = unwrap_or v.slate NONE }

-- a cell without a list has nothing else
pub record IsPlain (c : Inside) : Type 0 where
  pub counted : c.valid ≡ NONE → c.counted ≡ 0
  pub slate : c.valid ≡ NONE → c.slate ≡ NONE

slate_again : (slate : ℕ) → unwrap_or (slate_told slate) NONE ≡ slate
slate_again slate = go (nat_eq slate NONE) refl
  where
    go : (none : Bool) → nat_eq slate NONE ≡ none → unwrap_or (if none then None else Some slate) NONE ≡ slate
    go true is = sym (eqb-true slate NONE is)
    go false is = refl

pub kept_again : (c : Inside) → IsPlain c → cell_of (votes_in c) ≡ c
kept_again c plain = go (nat_eq c.valid NONE) refl
  where
    go : (none : Bool) → nat_eq c.valid NONE ≡ none → cell_of (if none then None else Some (record { valid = c.valid; counted = c.counted; slate = slate_told c.slate })) ≡ c
    go true is =
        let blank = eqb-true c.valid NONE is in
        λ i. record { valid = sym blank i; counted = sym (plain.counted blank) i; slate = sym (plain.slate blank) i }
    go false is = λ i. record { valid = c.valid; counted = c.counted; slate = slate_again c.slate i }
