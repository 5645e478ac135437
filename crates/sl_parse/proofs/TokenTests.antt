-- The tests of one token, and what the tokens are that they take.
use Rattle.std.proofs.Common.{◌≡◌, ℕ, Bool, true, false, cond, List, Option, Some, None, refl, ap}
use Rattle.std.specs.Prelude.{codes, ◌&&◌, slice_range, ◌+◌, ◌-◌}
use Rattle.std.specs.Str.{bytes_eq}
use Rattle.std.proofs.lemmas.Bool.{and_parts}
use Rattle.std.proofs.lemmas.Slice.Eq.{bytes_eq-Decides}
use Rattle.sl_base_quotients.specs.declared.method.Divisor.TheVariants as divisors
use Rattle.sl_base_quotients.specs.declared.method.Method.{Method}
use Rattle.sl_base_quotients.specs.declared.method.Method.TheVariants as methods
use Rattle.sl_lex.specs.declared.keyword.Keyword.TheVariants as keywords
use Rattle.sl_lex.specs.declared.token.Kind.{Kind}
use Rattle.sl_lex.specs.declared.token.Kind.TheVariants as kinds
use Rattle.sl_lex.specs.declared.token.Token.{Token}
use Rattle.sl_parse.specs.Spans.{bytes_of}
use Rattle.sl_law_meaning.specs.declared.fact.Fact.TheVariants as facts
use Rattle.sl_law_meaning.specs.declared.book.Pairing.TheVariants as pairings
use Rattle.sl_parse.specs.declared.form.Form.{Form}
use Rattle.sl_parse.specs.declared.form.Form.TheVariants as forms
use Rattle.sl_law_meaning.specs.declared.book.Axis.{Axis}
use Rattle.sl_law_meaning.specs.declared.book.Axis.TheVariants as axes
use Rattle.sl_law_meaning.specs.declared.book.Base.{Base}
use Rattle.sl_law_meaning.specs.declared.book.Base.TheVariants as bases
use Rattle.sl_law_meaning.specs.declared.book.Majority.{Majority}
use Rattle.sl_law_meaning.specs.declared.book.Majority.TheVariants as majorities
use Rattle.sl_law_meaning.specs.declared.book.Number.{Number}
use Rattle.sl_law_meaning.specs.declared.book.Seating.{Seating}
use Rattle.sl_law_meaning.specs.declared.book.Seating.TheVariants as seatings
use Rattle.sl_parse.specs.Words.{same_kind, stands_for, axis_word, all_axes, axis_of, seating_word, all_seatings, seating_of, method_word, all_methods, method_of, first_kind, all_forms, form_of}
use Rattle.sl_parse.specs.inner.Reading.{this, number_of, number_in, name_in, vacate_in, quoted_in, axis_in, seating_in, method_in, preference_of, preference_in, base_of, base_in}
use Rattle.sl_lex.proofs.Words.{found_passes}
use Rattle.sl_parse.proofs.SameKind.{same-kind, kind-same}

-- the test of a token, and what a token that it takes is
pub record Tests {A : Type 0} (test : Token → Option A) (P : A → Token → Type 0) : Type 0 where
  pub is : (t : Token) (x : A) → test t ≡ Some x → P x t
  pub takes : (t : Token) (x : A) → P x t → test t ≡ Some x

if-some : {A : Type 0} (b : Bool) (x y : A) → cond b (Some x) None ≡ Some y → (b ≡ true) × (x ≡ y)
if-some true x y e = (refl, cc)
if-some false x y e = absurd cc

pub tests_kind : (k : Kind) → Tests (this k) (λ x t. t.kind ≡ k)
tests_kind k = record {
  is = λ t x e. same-kind t.kind k (if-some (same_kind t.kind k) tt x e).0;
  takes = λ t x e. rw (e, kind-same k) refl;
}

number-is : (k : Kind) (at : ℕ) (n : Number) → number_of k at ≡ Some n → (k ≡ kinds.Number n.value) × (at ≡ n.at)
number-is (kinds.Number m) at n e = let same : record { value = m; at = at } ≡ n = cc in (ap (λ (x : Number). kinds.Number x.value) same, ap (λ (x : Number). x.at) same)
number-is _ at n e = absurd cc

pub tests_number : Tests number_in (λ n t. (t.kind ≡ kinds.Number n.value) × (t.start ≡ n.at))
tests_number = record { is = λ t n e. number-is t.kind t.start n e; takes = λ t n e. rw (e.0, e.1) refl }

pub tests_name : (text : List ℕ) → Tests (name_in text) (λ x t. (t.kind ≡ kinds.Name) × (bytes_of text t ≡ x.0) × (t.start ≡ x.1))
tests_name text = record {
  is = λ t x e.
      let h = if-some (same_kind t.kind kinds.Name) (bytes_of text t, t.start) x e in
      (same-kind t.kind kinds.Name h.0, ap (λ (y : List ℕ × ℕ). y.0) h.1, ap (λ (y : List ℕ × ℕ). y.1) h.1);
  takes = λ t x e. rw (e.0, e.1, e.2) refl;
}

pub tests_quoted : (text : List ℕ) → Tests (quoted_in text) (λ x t. (t.kind ≡ kinds.Text) × (slice_range text (t.start + 1) (t.end - 1) ≡ x))
tests_quoted text = record {
  is = λ t x e.
      let h = if-some (same_kind t.kind kinds.Text) (slice_range text (t.start + 1) (t.end - 1)) x e in
      (same-kind t.kind kinds.Text h.0, h.1);
  takes = λ t x e. rw (e.0, e.1) refl;
}

-- ---- words

-- what a kind stands for has that kind
stands-is : {A : Type 0} (kind_of : A → Kind) (all : List A) (k : Kind) (x : A) → stands_for kind_of all k ≡ Some x → k ≡ kind_of x
stands-is kind_of all k x e = same-kind k (kind_of x) (found_passes (λ y. same_kind k (kind_of y)) all x e)

stands : {A : Type 0} (kind_of : A → Kind) (all : List A) → ((x : A) → stands_for kind_of all (kind_of x) ≡ Some x) → Tests (λ t. stands_for kind_of all t.kind) (λ x t. t.kind ≡ kind_of x)
stands kind_of all taken = record { is = λ t x e. stands-is kind_of all t.kind x e; takes = λ t x e. rw e (taken x) }

axis-taken : (x : Axis) → axis_of (kinds.Keyword (axis_word x)) ≡ Some x
axis-taken axes.All = refl
axis-taken _ = refl

pub tests_axis : Tests axis_in (λ x t. t.kind ≡ kinds.Keyword (axis_word x))
tests_axis = stands _ all_axes axis-taken

seating-taken : (x : Seating) → seating_of (kinds.Keyword (seating_word x)) ≡ Some x
seating-taken seatings.Keep = refl
seating-taken _ = refl

pub tests_seating : Tests seating_in (λ x t. t.kind ≡ kinds.Keyword (seating_word x))
tests_seating = stands _ all_seatings seating-taken

method-taken : (x : Method) → method_of (kinds.Keyword (method_word x)) ≡ Some x
method-taken (methods.Divisor divisors.Adams) = refl
method-taken _ = refl

pub tests_method : Tests method_in (λ x t. t.kind ≡ kinds.Keyword (method_word x))
tests_method = stands _ all_methods method-taken

pub form-is : (k : Kind) (x : Form) → form_of k ≡ Some x → k ≡ first_kind x
form-is = stands-is first_kind all_forms

pub form-taken : (x : Form) → form_of (first_kind x) ≡ Some x
form-taken (forms.Fact facts.House) = refl
form-taken (forms.Pair pairings.Less) = refl
form-taken _ = refl

-- the words of a majority clause
abbrev pub IsPreference : Majority → Kind → Type 0
IsPreference majorities.Free k = ⊥
IsPreference majorities.Prefer k = k ≡ kinds.Keyword keywords.Prefer
IsPreference majorities.Refuse k = k ≡ kinds.Keyword keywords.Refuse

preference-is : (k : Kind) (x : Majority) → preference_of k ≡ Some x → IsPreference x k
preference-is (kinds.Keyword keywords.Prefer) majorities.Prefer e = refl
preference-is (kinds.Keyword keywords.Refuse) majorities.Refuse e = refl
preference-is _ x e = absurd cc

preference-taken : (k : Kind) (x : Majority) → IsPreference x k → preference_of k ≡ Some x
preference-taken k majorities.Free h = absurd h
preference-taken k majorities.Prefer h = rw h refl
preference-taken k majorities.Refuse h = rw h refl

pub tests_preference : Tests preference_in (λ x t. IsPreference x t.kind)
tests_preference = record { is = λ t x e. preference-is t.kind x e; takes = λ t x e. preference-taken t.kind x e }

-- what the last clause is about
abbrev pub IsBaseToken : List ℕ → Base × ℕ → Token → Type 0
IsBaseToken text (bases.Winners, at) t = (t.kind ≡ kinds.Keyword keywords.Winners) × (t.start ≡ at)
IsBaseToken text (bases.Stage name, at) t = (t.kind ≡ kinds.Name) × (bytes_of text t ≡ name) × (t.start ≡ at)

base-is : (text : List ℕ) (t : Token) (k : Kind) (x : Base × ℕ) → t.kind ≡ k → base_of text t k ≡ Some x → IsBaseToken text x t
base-is text t (kinds.Keyword keywords.Winners) x kind e = let same : (bases.Winners, t.start) ≡ x = cc in rw (← same) (kind, refl)
base-is text t kinds.Name x kind e = let same : (bases.Stage (bytes_of text t), t.start) ≡ x = cc in rw (← same) (kind, refl, refl)
base-is text t _ x kind e = absurd cc

base-taken : (text : List ℕ) (t : Token) (x : Base × ℕ) → IsBaseToken text x t → base_in text t ≡ Some x
base-taken text t (bases.Winners, at) h = rw (h.0, h.1) refl
base-taken text t (bases.Stage name, at) h = rw (h.0, h.1, h.2) refl

pub tests_base : (text : List ℕ) → Tests (base_in text) (IsBaseToken text)
tests_base text = record { is = λ t x e. base-is text t t.kind x refl e; takes = λ t x e. base-taken text t x e }

pub tests_vacate : (text : List ℕ) → Tests (vacate_in text) (λ at t. (t.kind ≡ kinds.Name) × (bytes_of text t ≡ codes "vacate") × (t.start ≡ at))
tests_vacate text = record {
  is = λ t at e.
      let h = if-some (same_kind t.kind kinds.Name && bytes_eq (bytes_of text t) (codes "vacate")) t.start at e in
      let k = and_parts (same_kind t.kind kinds.Name) (bytes_eq (bytes_of text t) (codes "vacate")) h.0 in
      (same-kind t.kind kinds.Name k.0, (bytes_eq-Decides (bytes_of text t) (codes "vacate")).0 k.1, h.1);
  takes = λ t at e. rw (e.0, (bytes_eq-Decides (bytes_of text t) (codes "vacate")).1 e.1, e.2) refl;
}
