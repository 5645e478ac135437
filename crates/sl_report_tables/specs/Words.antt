-- Which method a book writes with a word (docs/language.md, section 2).
use Rattle.std.specs.Prelude.{ℕ, List, Option, option_and_then}
use Rattle.sl_lex.specs.Keywords.{keyword_of}
use Rattle.sl_lex.specs.declared.token.Kind.TheVariants as kinds
use Rattle.sl_parse.specs.Words.{method_of}
use Rattle.sl_base_quotients.specs.declared.method.Method.{Method}

-- the method that the keyword so spelled stands for
abbrev pub method_written : List ℕ → Option Method
method_written word = option_and_then (λ k. method_of (kinds.Keyword k)) (keyword_of word)
