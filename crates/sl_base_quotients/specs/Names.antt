-- Lists of names: each once, each well spelled, at most as many as the list's limit (docs/returns.md, section 3).
use Rattle.std.specs.Prelude.{◌≡◌, ℕ, ◌≤◌, ◌⊎◌, ◌&&◌, ◌||◌, Bool, not, List, length, Option, Some, None, IsTrue, nat_eq, nat_le, nat_lt, slice_get, if◌then◌else◌}
use Rattle.std.specs.List.{list_any, list_all, All, position}
use Rattle.std.specs.Char.{is_ascii_alphanumeric}
use Rattle.std.specs.Option.{option_or}
use Rattle.std.specs.Str.{bytes_eq}
use Rattle.sl_base_quotients.specs.declared.spelling.TheConstants.{MAX_NAME_BYTES}
use Rattle.sl_base_quotients.specs.declared.spelling.NameFault.{NameFault}
use Rattle.sl_base_quotients.specs.declared.spelling.NameFault.TheVariants.{Empty, TooLong, BadByte, Twice, Full, NoMemory}

-- the names in the order in which they came, and how many there may be
pub record NameList : Type 0 where
  pub limit : ℕ
  pub names : List (List ℕ)

-- whether b is a letter, a digit, `_` or `-`
abbrev pub is_name_byte : ℕ → Bool
is_name_byte b = is_ascii_alphanumeric b || nat_eq b 95 || nat_eq b 45

-- what is wrong with the spelling of a name, the first that applies
abbrev pub spelling_fault : List ℕ → Option NameFault
spelling_fault name =
    if nat_eq (length name) 0 then Some Empty else
    if nat_lt MAX_NAME_BYTES (length name) then Some TooLong else
    if not (list_all is_name_byte name) then Some BadByte else
    None

-- whether a name is well spelled
abbrev pub is_name : List ℕ → Bool
is_name name = not (nat_eq (length name) 0) && nat_le (length name) MAX_NAME_BYTES && list_all is_name_byte name

-- whether the list has the name
abbrev pub has_name : NameList → List ℕ → Bool
has_name list name = list_any (bytes_eq name) list.names

-- why a name can't join the list, the first that applies
abbrev pub name_fault : NameList → List ℕ → Option NameFault
name_fault list name =
    option_or (spelling_fault name) (
    if has_name list name then Some Twice else
    if nat_le list.limit (length list.names) then Some Full else
    None)

-- e refuses the name: the first fault that applies, or, where none does, out of memory
abbrev pub Refuses : NameList → List ℕ → NameFault → Type 0
Refuses list name e = (name_fault list name ≡ Some e) ⊎ ((name_fault list name ≡ None) × (e ≡ NoMemory))

-- the number of a name
abbrev pub number_of : NameList → List ℕ → Option ℕ
number_of list name = position (bytes_eq name) list.names

-- what is true of each list of names
pub record IsNameList (list : NameList) : Type 0 where
  pub within : length list.names ≤ list.limit
  pub spelled : All (λ name. IsTrue (is_name name)) list.names
  pub once : (name : List ℕ) (i j : ℕ) → slice_get list.names i ≡ Some name → slice_get list.names j ≡ Some name → i ≡ j
