-- Few conditions that say of each party what many say (docs/compiler.md, section 7).
use Rattle.std.specs.Prelude.{◌≡◌, ℕ, ◌≤◌, List, length, All}
use Rattle.sl_law_meaning.specs.declared.book.Cond.{Cond}
use Rattle.sl_law_meaning.specs.returns.Election.{Election}
use Rattle.sl_law_meaning.specs.returns.Facts.{is_eligible}
use Rattle.sl_compile_pieces.specs.facts.Laws.{IsShare}

-- by the few conditions the same parties are eligible, whatever the returns are; of each kind there is one at most
pub record SayTheSame (few conditions : List Cond) : Type 0 where
  pub same : (e : Election) (party : ℕ) → is_eligible few e party ≡ is_eligible conditions e party
  pub long : length few ≤ 4
  pub shares : All IsShare few
