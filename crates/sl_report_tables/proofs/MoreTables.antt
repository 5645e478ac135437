-- Lists of tables, one table more, and the scopes of one stage more.
use Rattle.std.proofs.Common.{◌≡◌, ◌∙◌, ◌≤◌, ℕ, ◌+◌, List, [], ◌∷◌, ◌++◌, None, Option, Some, append_assoc, ap, length, map, refl, subst, sym, take}
use Rattle.std.proofs.lemmas.List.Concat.{flat_map-append}
use Rattle.std.proofs.lemmas.List.{append-nil, map_push, take_all}
use Rattle.std.proofs.lemmas.Result.{IfOk-at_ok}
use Rattle.std.specs.List.{AllZip, flat_map, range_with_len}
use Rattle.std.specs.Prelude.{IfOk, Ok, Result, option_map, slice_get}
use Rattle.sl_base_quotients.specs.declared.no_memory.NoMemory.{NoMemory}
use Rattle.sl_report_forms.specs.Tables.{Table, table_of}
use Rattle.sl_report_forms.specs.declared.sheet.Sheet.{Sheet}
use Rattle.sl_report_parties.proofs.Steps.{map_next, range_more}
use Rattle.sl_law_meaning.proofs.meaning.Members.{all_and_one}

-- a sheet of that table more
pub table_pushed : (before after : List Sheet) (s : Sheet) (t : Table) → after ≡ before ++ s ∷ [] → table_of s ≡ t → map table_of after ≡ map table_of before ++ t ∷ []
table_pushed before after s t pushed is = ap (map table_of) pushed ∙ map_push table_of before s ∙ ap (λ v. map table_of before ++ v ∷ []) is

-- a sheet is added, if there was memory for it
abbrev pub Adds : Result Sheet NoMemory → List Sheet → List Sheet → Type 0
Adds r before after = (s : Sheet) × (r ≡ Ok s) × (after ≡ before ++ s ∷ [])

module _ {r : Result Sheet NoMemory} {ts : List Table} (before after : List Sheet) where
  -- that table more
  pub table_added : (t : Table) → map table_of before ≡ ts → IfOk r (λ s. table_of s ≡ t) → Adds r before after → map table_of after ≡ ts ++ t ∷ []
  table_added t so_far is more = table_pushed before after more.0 t more.2 (IfOk-at_ok (λ s. table_of s ≡ t) more.1 is) ∙ ap (λ v. v ++ t ∷ []) so_far

  -- a table of that kind more
  pub kind_added : (P : Table → Type 0) → map table_of before ≡ ts → IfOk r (λ s. P (table_of s)) → Adds r before after →
      ((t : Table) × P t × (map table_of after ≡ ts ++ t ∷ []))
  kind_added P so_far is more = (
    table_of more.0,
    IfOk-at_ok (λ s. P (table_of s)) more.1 is,
    table_pushed before after more.0 (table_of more.0) more.2 refl ∙ ap (λ v. v ++ table_of more.0 ∷ []) so_far,
  )

module _ {X : Type 0} (f : X → Table) (xs : List X) (i : ℕ) where
  -- the table of one element more, after others
  pub tables_next : (x : X) (front : List Table) {r : Result Sheet NoMemory} (before after : List Sheet) → slice_get xs i ≡ Some x →
      map table_of before ≡ front ++ map f (take i xs) → IfOk r (λ s. table_of s ≡ f x) → Adds r before after → map table_of after ≡ front ++ map f (take (i + 1) xs)
  tables_next x front before after at so_far is more =
      table_added before after (f x) so_far is more ∙ append_assoc front (map f (take i xs)) (f x ∷ [])
      ∙ ap (λ v. front ++ v) (map_next f xs i x (map f (take i xs)) (map f (take i xs) ++ f x ∷ []) (f x) at refl refl refl)

  pub tables_end : (front : List Table) (after : List Table) → length xs ≤ i → after ≡ front ++ map f (take i xs) → after ≡ front ++ map f xs
  tables_end front after past so_far = so_far ∙ ap (λ ys. front ++ map f ys) (take_all i xs past)

-- what is found of one number more, number by number
pub groups_more : {A : Type 0} (P : ℕ → List A → Type 0) (n : ℕ) (found before after : List A) →
    ((each : List (List A)) × AllZip P (range_with_len 0 n) each × (before ≡ flat_map (λ xs. xs) each)) → P n found → after ≡ before ++ found →
    ((each : List (List A)) × AllZip P (range_with_len 0 (n + 1)) each × (after ≡ flat_map (λ xs. xs) each))
groups_more P n found before after so_far is more = (
  so_far.0 ++ found ∷ [],
  subst (λ ns. AllZip P ns (so_far.0 ++ found ∷ [])) (sym (range_more n)) (all_and_one P (range_with_len 0 n) so_far.0 n found is so_far.1),
  more ∙ ap (λ xs. xs ++ found) so_far.2 ∙ ap (λ xs. flat_map (λ xs. xs) so_far.0 ++ xs) (sym (append-nil found)) ∙ sym (flat_map-append (λ xs. xs) so_far.0 (found ∷ [])),
)

pub option_twice : {A B C : Type 0} (f : A → B) (g : B → C) (o : Option A) → option_map g (option_map f o) ≡ option_map (λ a. g (f a)) o
option_twice f g None = refl
option_twice f g (Some a) = refl
