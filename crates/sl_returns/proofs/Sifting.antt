-- A builder that takes one record more, or leaves it out for its fault.
use Rattle.std.proofs.Common.{◌≡◌, ◌≢◌, ◌+◌, ℕ, List, [], ◌∷◌, ◌++◌, length, slice_get, Option, Some, None, is_some, true, false, refl, sym, ap, subst, ◌∙◌, arith, inl, inr}
use Rattle.std.specs.Option.{option_map}
use Rattle.std.proofs.lemmas.Bool.{false≢true, true≢false}
use Rattle.std.proofs.lemmas.List.{append-nil}
use Rattle.std.proofs.lemmas.Option.{none-some}
use Rattle.sl_law_meaning.specs.returns.Election.{Election}
use Rattle.sl_returns.specs.declared.fault.FaultKind.TheVariants as fault
use Rattle.sl_returns.specs.declared.fault.RecordFault.{RecordFault}
use Rattle.sl_returns.specs.declared.fault.ReturnsFault.{ReturnsFault}
use Rattle.sl_returns.specs.declared.header.Version.{Version}
use Rattle.sl_returns.specs.declared.sieve.Refusals.{Refusals}
use Rattle.csv.specs.declared.reader.Reader.{Reader}
use Rattle.sl_returns.specs.Cells.{Record}
use Rattle.sl_returns.specs.Faults.{fault_at, of_record, row_behind}
use Rattle.sl_returns.specs.Further.{Refusal, in_row, own_fault, refused_from, refused_of, refused_under, refusals_for, taken_from, taken_of}
use Rattle.sl_returns.specs.Headers.{version_of}
use Rattle.sl_returns.specs.Records.{election_of_records}
use Rattle.sl_returns.specs.Returns.{behind_header}
use Rattle.sl_returns.specs.Tests.{FailBy, Pass, record_tests}
use Rattle.sl_returns.specs.inner.Building.{Building, StandsFor}
use Rattle.sl_returns.specs.inner.Joining.{RefusesRecord, TakesRecord, with_record}
use Rattle.sl_returns.specs.inner.Sifting.{GoesOn, HasEnded, HasSifted, IsHeaded, IsSifted, Keeps, Sifts, taken_among, taken_under}
use Rattle.sl_returns.proofs.Feeding.{after, row_after, rows_go}
use Rattle.sl_returns.proofs.Reading.{HasGiven}
use Rattle.sl_returns.proofs.Refusals.{all_taken, first_of, good_taken, refused_from-push, taken_from-push}
use Rattle.sl_returns.proofs.Steps.{grows, no_records}

-- the records that a reader has given are taken, or kept as refused
pub record IsSifting {R : Type 0} (rem : R → Option (List ℕ)) (reader : Reader R) (builder : Building) (kept : Refusals) (text : List ℕ) : Type 0 where
  pub rows : List Record
  pub given : HasGiven rem reader rows text
  pub goes : GoesOn builder kept rows

-- ---- records after a header

module _ (b : Building) (h : Record) (rest : List Record) (r : Record) (u : Version) (told : version_of h ≡ Some u) (s : HasSifted b (h ∷ rest)) where
  abbrev taken : List Record
  taken = taken_from u [] rest

  stands : b.election ≡ election_of_records taken
  stands = s.election ∙ ap (λ o. election_of_records (taken_under o rest)) told

  -- the records that are taken with one more, of which this is known
  taken_more : (o : Option RecordFault) → own_fault u taken r ≡ o → taken_among ((h ∷ rest) ++ r ∷ []) ≡ taken ++ taken_of o r
  taken_more o is = ap (λ w. taken_under w (rest ++ r ∷ [])) told ∙ taken_from-push u [] rest r ∙ ap (λ w. taken ++ taken_of w r) is

  refused_more : (o : Option RecordFault) → own_fault u taken r ≡ o → refused_of ((h ∷ rest) ++ r ∷ []) ≡ refused_of (h ∷ rest) ++ refusals_for (in_row (1 + length rest) o) r
  refused_more o is =
      ap (λ w. refused_under w h (rest ++ r ∷ [])) told
      ∙ refused_from-push u 1 [] rest r
      ∙ ap (λ w. refused_from u 1 [] rest ++ refusals_for (in_row (1 + length rest) w) r) is
      ∙ ap (λ w. refused_under w h rest ++ refusals_for (in_row (1 + length rest) o) r) (sym told)

-- ---- a record that is taken

taken_first : (b : Building) (r : Record) (v : Version) (e : Election) → HasSifted b [] → TakesRecord None v b.election e r → Sifts (after b v e) [] r None
taken_first b r v e s t = record {
  goes = λ u is. (
    record {
      headed = (v, t.0);
      going = s.going;
      election = t.1 ∙ s.election ∙ sym (ap (λ o. election_of_records (taken_under o [])) t.0);
      version = sym t.0;
      row = ap row_after s.row;
    },
    ap (λ o. refused_under o r []) t.0,
  );
  ends = λ none. absurd (none-some v (sym none));
}

taken_next : (b : Building) (h : Record) (rest : List Record) (r : Record) (v : Version) (e : Election) (u : Version) (told : version_of h ≡ Some u) → HasSifted b (h ∷ rest) → TakesRecord (Some u) v b.election e r → Sifts (after b v e) (h ∷ rest) r None
taken_next b h rest r v e u told s (same, passes, joins) =
    let election = stands b h rest r u told s in
    let passed : Pass (record_tests u (election_of_records (taken_from u [] rest)) r) = subst (λ x. Pass (record_tests u x r)) election passes in
    let grown = grows (taken_from u [] rest) r (good_taken u [] rest no_records) u passed in
    let more = taken_more b h rest r u told s None passed.none in
    record {
      goes = λ w is. (
        record {
          headed = (u, told);
          going = s.going;
          election = joins ∙ ap (λ x. with_record x r) election ∙ sym grown.election ∙ ap election_of_records (sym more);
          version = ap Some same ∙ sym told;
          row = rows_go rest r b.row s.row;
        },
        refused_more b h rest r u told s None passed.none,
      );
      ends = λ none. absurd (none-some v (sym none));
    }

pub sifts_taken : (b : Building) (rs : List Record) (r : Record) (v : Version) (e : Election) → HasSifted b rs → TakesRecord b.version v b.election e r → Sifts (after b v e) rs r None
sifts_taken b [] r v e s t = taken_first b r v e s (subst (λ o. TakesRecord o v b.election e r) s.version t)
sifts_taken b (h ∷ rest) r v e s t =
    let (u, told) = s.headed in
    taken_next b h rest r v e u told s (subst (λ o. TakesRecord o v b.election e r) (s.version ∙ told) t)

-- ---- a record that is refused

-- the builder after a record that is left out
abbrev pub past : Building → Building
past b = record { election = b.election; version = b.version; row = row_after b.row; fault = b.fault }

refused_first : (b : Building) (r : Record) (k : RecordFault) → HasSifted b [] → RefusesRecord None b.election r k → Sifts (past b) [] r (Some (fault_at (row_after b.row) k))
refused_first b r k s (none, header) =
    let row : row_behind 0 ≡ row_after b.row = ap row_after (sym s.row) in
    record {
      goes = λ v is. absurd (none-some v (sym s.version ∙ is));
      ends = λ ended more. (
        fault_at (row_after b.row) k,
        refl,
        ap (λ o. refused_under o r more) none
            ∙ ap (λ n. refusals_for (Some (fault_at n (of_record fault.Header))) r) row
            ∙ ap (λ f. refusals_for (Some (fault_at (row_after b.row) f)) r) (sym header),
      );
    }

refused_next : (b : Building) (h : Record) (rest : List Record) (r : Record) (k : RecordFault) (u : Version) (told : version_of h ≡ Some u) → HasSifted b (h ∷ rest) → FailBy (record_tests u b.election r) k
    → Sifts (past b) (h ∷ rest) r (Some (fault_at (row_after b.row) k))
refused_next b h rest r k u told s fails =
    let election = stands b h rest r u told s in
    let failed : FailBy (record_tests u (election_of_records (taken_from u [] rest)) r) k = subst (λ x. FailBy (record_tests u x r) k) election fails in
    let more = taken_more b h rest r u told s (Some k) failed.first ∙ append-nil (taken_from u [] rest) in
    let row : row_behind (1 + length rest) ≡ row_after b.row = omega (arith, s.row) in
    record {
      goes = λ w is. (
        record {
          headed = (u, told);
          going = s.going;
          election = election ∙ ap election_of_records (sym more);
          version = s.version;
          row = rows_go rest r b.row s.row;
        },
        refused_more b h rest r u told s (Some k) failed.first ∙ ap (λ n. refused_of (h ∷ rest) ++ refusals_for (Some (fault_at n k)) r) row,
      );
      ends = λ none. absurd (none-some u (sym none ∙ s.version ∙ told));
    }

pub sifts_refused : (b : Building) (rs : List Record) (r : Record) (k : RecordFault) → HasSifted b rs → RefusesRecord b.version b.election r k → k.kind ≢ fault.NoMemory → Sifts (past b) rs r (Some (fault_at (row_after b.row) k))
sifts_refused b [] r k s refuses own = refused_first b r k s (subst (λ o. RefusesRecord o b.election r k) s.version refuses)
sifts_refused b (h ∷ rest) r k s refuses own =
    let (u, told) = s.headed in
    let here : RefusesRecord (Some u) b.election r k = subst (λ o. RefusesRecord o b.election r k) (s.version ∙ told) refuses in
    elim here [
      | inl fails ↦ refused_next b h rest r k u told s fails
      | inr wants ↦ absurd (own (ap (λ (f : RecordFault). f.kind) wants.1))
    ]

-- ---- the begin and the end

pub sifted_none : (b : Building) → StandsFor b [] → HasSifted b []
sifted_none b s = record { headed = tt; going = s.going; election = s.election; version = s.version; row = s.row }

taken_all : (rs : List Record) → IsHeaded rs → refused_of rs ≡ [] → taken_among rs ≡ behind_header rs
taken_all [] headed none = refl
taken_all (h ∷ rest) (v, told) none = ap (λ o. taken_under o rest) told ∙ all_taken v 1 [] rest (sym (ap (λ o. refused_under o h rest) told) ∙ none)

-- where no record is refused, the builder has taken them all
pub stands_for : (b : Building) (rs : List Record) → HasSifted b rs → refused_of rs ≡ [] → StandsFor b rs
stands_for b rs s none = record {
  accepted = first_of rs ∙ ap (λ l. option_map (λ (x : Refusal). x.fault) (slice_get l 0)) none;
  going = s.going;
  election = s.election ∙ ap election_of_records (taken_all rs s.headed none);
  version = s.version;
  row = s.row;
}

pub all_sifted : (b : Building) (kept : Refusals) (rs : List Record) → HasSifted b rs → Keeps kept (refused_of rs) → IsSifted b kept rs
all_sifted b kept rs s keeps = record { keeps = keeps; good = stands_for b rs s }

not_none : (xs : List Refusal) (x : Refusal) → xs ++ x ∷ [] ≡ [] → ⊥
not_none [] x h = cc
not_none (y ∷ xs) x h = cc

-- after a first record that is no header, no other counts
pub ended : (b : Building) (kept : Refusals) (rs all : List Record) (x : Refusal) → refused_of all ≡ refused_of rs ++ x ∷ [] → Keeps kept (refused_of rs ++ x ∷ []) → IsSifted b kept all
ended b kept rs all x is keeps = record {
  keeps = subst (λ l. Keeps kept l) (sym is) keeps;
  good = λ none. absurd (not_none (refused_of rs) x (sym is ∙ none));
}

unversioned : (o : Option Version) → is_some o ≡ false → o ≡ None
unversioned None h = refl
unversioned (Some v) h = absurd (true≢false h)

pub has_ended : (b : Building) (kept : Refusals) (rs : List Record) (r : Record) (found : Option ReturnsFault) → Sifts b rs r found → is_some b.version ≡ false → Keeps kept (refused_of rs ++ refusals_for found r) → HasEnded b kept (rs ++ r ∷ [])
has_ended b kept rs r found s none keeps more =
    let (f, is, all) = s.ends (unversioned b.version none) more in
    ended b kept rs ((rs ++ r ∷ []) ++ more) (record { fault = f; fields = r }) (all ∙ ap (λ o. refused_of rs ++ refusals_for o r) is) (subst (λ o. Keeps kept (refused_of rs ++ refusals_for o r)) is keeps)

-- after a header there is more to read
versioned : (o : Option Version) → is_some o ≡ true → (v : Version) × (o ≡ Some v)
versioned None h = absurd (false≢true h)
versioned (Some v) h = (v, refl)

pub goes_on : (b : Building) (kept : Refusals) (rs : List Record) (r : Record) (found : Option ReturnsFault) → Sifts b rs r found → is_some b.version ≡ true → Keeps kept (refused_of rs ++ refusals_for found r) → GoesOn b kept (rs ++ r ∷ [])
goes_on b kept rs r found s told keeps =
    let (v, is) = versioned b.version told in
    let (sifted, all) = s.goes v is in
    (sifted, subst (λ l. Keeps kept l) (sym all) keeps)
