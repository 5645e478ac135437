-- What an explanation has at the begin, what stays as it was while it is put together, and what it has at the end.
use Rattle.std.specs.Global.{Vec}
use Rattle.std.specs.Prelude.{◌≡◌, ℕ, List, [], IfOk, Ok, Result}
use Rattle.sl_base_quotients.specs.declared.no_memory.NoMemory.{NoMemory}
use Rattle.sl_explain_texts.specs.declared.explainer.Explainer.{Explainer}
use Rattle.sl_explain_texts.specs.declared.explanation.Explanation.{Explanation}

-- the sentence on the fault, and no record yet; or memory has run out
abbrev pub Begins : Explainer → List ℕ → Type 0
Begins explainer text = IfOk explainer.sentence (λ s. s.items ≡ text) × IfOk explainer.records (λ rs. rs.items ≡ [])

-- the code of the fault, its place, the sentence on it and the records are as they were
abbrev pub Keeps : Explainer → Explainer → Type 0
Keeps before after = (after.code ≡ before.code) × (after.span ≡ before.span) × (after.sentence ≡ before.sentence) × (after.records ≡ before.records)

-- the code, the place and the sentence are as they were, and these are the records
abbrev pub KeepsWith : Explainer → Explainer → Result (Vec (Vec ℕ)) NoMemory → Type 0
KeepsWith before after records = (after.code ≡ before.code) × (after.span ≡ before.span) × (after.sentence ≡ before.sentence) × (after.records ≡ records)

-- the explanation has that code, that place, that sentence and those records
abbrev pub Makes : Explainer → Explanation → Type 0
Makes explainer x = (x.code ≡ explainer.code) × (x.span ≡ explainer.span) × (explainer.sentence ≡ Ok x.sentence) × (explainer.records ≡ Ok x.records)

-- something was added to an explanation, and these are as they were
abbrev pub IsOf : Explanation → Explanation → Type 0
IsOf before after = (after.code ≡ before.code) × (after.span ≡ before.span) × (after.sentence ≡ before.sentence) × (after.records ≡ before.records)
