-- A name that stands at a place: it is found there, and passes the tests of a name that is to be known.
use Rattle.std.proofs.Common.{◌≡◌, ℕ, true, List, Option, Some, None, IsTrue, slice_get, refl, sym, ap, subst, ◌∙◌}
use Rattle.std.proofs.lemmas.Option.{slice_get_within, get_or_from_slice_get}
use Rattle.sl_base_quotients.specs.Names.{NameList, IsNameList, is_name}
use Rattle.sl_base_quotients.proofs.NameLists.{number_stands, number_lacks}
use Rattle.sl_returns.specs.Cells.{number_in}
use Rattle.sl_returns.specs.Tests.{Pass, one_test, name_tests, known_tests, known_name_tests}

module _ (list : NameList) (is : IsNameList list) (name : List ℕ) (n : ℕ) (at : slice_get list.names n ≡ Some name) where
  pub number_there : number_in list.names name ≡ Some n
  number_there = go (number_in list.names name) refl
    where
      go : (found : Option ℕ) → number_in list.names name ≡ found → number_in list.names name ≡ Some n
      go None same = absurd (number_lacks list name same n at)
      go (Some m) same = same ∙ ap Some (is.once name m n (number_stands list name (Some m) (sym same)) at)

  spelled_there : is_name name ≡ true
  spelled_there = subst (λ (x : List ℕ). IsTrue (is_name x)) (get_or_from_slice_get list.names n name name at) (is.spelled n name (slice_get_within list.names n name at))

  pub known_there : (column : ℕ) → Pass (known_name_tests list.names column name)
  unfolding known_tests name_tests one_test
  known_there column = let spelled = spelled_there in let found = number_there in record { none = rw (spelled, found) refl }
