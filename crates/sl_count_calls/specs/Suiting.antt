-- What inputs come to, made for what is asked for.
use Rattle.std.specs.Prelude.{◌≡◌}
use Rattle.sl_count_calls.specs.declared.view.View.TheVariants.{Steps}
use Rattle.sl_count_calls.specs.declared.view.View.{View}
use Rattle.sl_count_calls.specs.Fitting.{FitsJudged}
use Rattle.sl_count_calls.specs.declared.judged.Judged.{Judged}
use Rattle.sl_law_meaning.specs.declared.count.Records.TheVariants.{Kept}
use Rattle.sl_law_meaning.specs.declared.count.Records.{Records}

-- records that do for it: steps are shown where they are kept
abbrev pub Suits : View → Records → Type 0
Suits Steps r = r ≡ Kept
Suits _ r = Unit {0}

-- it was made with such records
abbrev pub IsFor : View → Judged → Type 0
IsFor view judged = (r : Records) × Suits view r × FitsJudged r judged
