-- The rows of the records to pack, "each record 9 before 7", as a walk. A record is fine if its numbers fit and it is above the one before it. Either all
-- records are fine and no row is given, or the first one that is not gives row 9, or else row 7 (`PacksAs`). The first row that is given is the one that this
-- walk gives (`packs_as`, `packs_as_is`).
use Prim.Native.Nat.{ℕ, suc, ◌+◌, ◌<◌}
use mathlib.Core.Path.{◌≡◌, refl, sym, ap, subst, ◌∙◌}
use mathlib.Core.Bool.{Bool, true, false, false≢true, not-eq-not}
use mathlib.Core.List.{List, [], ◌∷◌, ◌++◌, append-nil}
use mathlib.Core.Logic.{inl, inr, ⊎_elim, ◌↔◌}
use Rattle.std.specs.Prelude.{Option, None, Some}
use native.Mathlib.Omega.{arith}
use lib.ListN.{length}
use Rattle.lists.proofs.SizesTested.{lt_iff, or_iff}
use Rattle.answers.specs.declared.refusals.Refusal.{Refusal}
use Rattle.answers.specs.declared.refusals.Refusal.TheVariants.{NotAbove, NumberInRecord}
use Rattle.answers.specs.Rows.{first_given}
use Rattle.silences.specs.Silences.{Address, Silence, is_above}
use Rattle.silences.specs.Packing.{most_ring_number, most_ceiling, is_too_large, record_rows}
use Rattle.silences.specs.Faults.{NumbersFit, AllFit, TooLarge}
use Rattle.silences.proofs.AscendingAfter.{AscendingAfter, last_after}

-- `s` is record number `j` of the records `ss`, which are numbered from `i` on, and `fine` are those before it: they are fine.
pub record RecordStands (last : Option Address) (i : ℕ) (ss fine : List Silence) (j : ℕ) (s : Silence) : Type 0 where
  pub later : List Silence
  pub records_are : ss ≡ fine ++ s ∷ later
  pub number_is : j ≡ i + length fine
  pub all_fit : AllFit fine
  pub ascends : AscendingAfter last fine

-- The first row that the records `ss` give: none if all are fine, else row 9 or row 7 at the first that is not. They are numbered from `i` on, after `last`.
pub data PacksAs (last : Option Address) (i : ℕ) (ss : List Silence) : Option Refusal → Type 0 where
  packed_all : AllFit ss → AscendingAfter last ss → PacksAs last i ss None
  stopped_number : {fine : List Silence} {j : ℕ} {s : Silence} → RecordStands last i ss fine j s → TooLarge s → PacksAs last i ss (Some (NumberInRecord j))
  stopped_record : {fine : List Silence} {j : ℕ} {s : Silence} → RecordStands last i ss fine j s → NumbersFit s
      → is_above (last_after last fine) s.address ≡ false
      → PacksAs last i ss (Some (NotAbove j))

-- The test of row 9 passes exactly when a number of the record is too large.
pub too_large_iff : (s : Silence) → (is_too_large s ≡ true) ↔ TooLarge s
too_large_iff s = or_iff (lt_iff most_ring_number s.address.ring_number) (lt_iff most_ceiling s.ceiling)

-- The test of row 9 fails exactly when the record's numbers fit.
pub fits_iff : (s : Silence) → (is_too_large s ≡ false) ↔ NumbersFit s
fits_iff s = (
  λ e.
      let ring_le : most_ring_number < s.address.ring_number → ⊥ = λ h. false≢true (sym e ∙ (too_large_iff s).1 (inl h)) in
      let ceiling_le : most_ceiling < s.ceiling → ⊥ = λ h. false≢true (sym e ∙ (too_large_iff s).1 (inr h)) in
      record { ring_number_le = omega arith; ceiling_le = omega arith },
  λ f. (not-eq-not {b = false}).0 (λ e. ⊎_elim (λ h. omega (arith, f.ring_number_le)) (λ h. omega (arith, f.ceiling_le)) ((too_large_iff s).0 e)),
)

-- If the numbers of all records fit, they do with one record more whose numbers fit.
pub all_fit_more : (ss : List Silence) (s : Silence) → AllFit ss → NumbersFit s → AllFit (ss ++ s ∷ [])
all_fit_more [] s fit h = (h, tt)
all_fit_more (t ∷ ss) s fit h = (fit.0, all_fit_more ss s fit.1 h)

module _ (last : Option Address) (i : ℕ) where
  -- the first row that records give
  abbrev first : List Silence → Option Refusal
  first ss = first_given (record_rows last i ss)

  module _ (s : Silence) (ss : List Silence) where
    -- row 9: a number that is too large
    first_number : TooLarge s → first (s ∷ ss) ≡ Some (NumberInRecord i)
    unfolding record_rows first_given
    first_number h = rw ((too_large_iff s).1 h)

    module _ (fit : NumbersFit s) where
      -- row 7: a record that is not above the one before it
      first_order : is_above last s.address ≡ false → first (s ∷ ss) ≡ Some (NotAbove i)
      unfolding record_rows first_given
      first_order above = rw ((fits_iff s).1 fit, above)

      -- one that is fine gives no row, and the records after it decide
      first_step : is_above last s.address ≡ true → first (s ∷ ss) ≡ first_given (record_rows (Some s.address) (suc i) ss)
      unfolding record_rows first_given
      first_step above = rw ((fits_iff s).1 fit, above)

      -- a record further on, seen from a fine record before it
      stands_before : {fine : List Silence} {j : ℕ} {t : Silence} → is_above last s.address ≡ true → RecordStands (Some s.address) (suc i) ss fine j t
          → RecordStands last i (s ∷ ss) (s ∷ fine) j t
      stands_before above r =
          record {
            later = r.later;
            records_are = ap (λ (l : List Silence). s ∷ l) r.records_are;
            number_is = omega (arith, r.number_is);
            all_fit = (fit, r.all_fit);
            ascends = (above, r.ascends);
          }

      -- what the walk gives, seen from a fine record before it
      packs_before : {o : Option Refusal} → is_above last s.address ≡ true → PacksAs (Some s.address) (suc i) ss o → PacksAs last i (s ∷ ss) o
      packs_before above (packed_all all_fit ascends) = packed_all (fit, all_fit) (above, ascends)
      packs_before above (stopped_number r g) = stopped_number (stands_before above r) g
      packs_before above (stopped_record r g o) = stopped_record (stands_before above r) g o

    -- the first record stands at its own number
    stands_first : RecordStands last i (s ∷ ss) [] i s
    stands_first = record { later = ss; records_are = refl; number_is = omega arith; all_fit = tt; ascends = tt }

    -- one record, and then the walk on
    walk_record : PacksAs (Some s.address) (suc i) ss (first_given (record_rows (Some s.address) (suc i) ss)) → PacksAs last i (s ∷ ss) (first (s ∷ ss))
    walk_record more = by_size (is_too_large s) refl
      where
        by_order : NumbersFit s → (t : Bool) → is_above last s.address ≡ t → PacksAs last i (s ∷ ss) (first (s ∷ ss))
        by_order fit true above = rw (first_step fit above) (packs_before fit above more)
        by_order fit false above = rw (first_order fit above) (stopped_record stands_first fit above)

        by_size : (t : Bool) → is_too_large s ≡ t → PacksAs last i (s ∷ ss) (first (s ∷ ss))
        by_size true e = let large = (too_large_iff s).0 e in rw (first_number large) (stopped_number stands_first large)
        by_size false e = by_order ((fits_iff s).0 e) (is_above last s.address) refl

-- the walk over all records
walk : (last : Option Address) (i : ℕ) (ss : List Silence) → PacksAs last i ss (first_given (record_rows last i ss))
unfolding record_rows first_given
walk last i [] = packed_all tt tt
walk last i (s ∷ ss) = walk_record last i s ss (walk (Some s.address) (suc i) ss)

-- If the first row that the records give is o, then the walk gives o.
pub packs_as : (last : Option Address) (i : ℕ) (ss : List Silence) (o : Option Refusal) → first_given (record_rows last i ss) ≡ o → PacksAs last i ss o
packs_as last i ss o e = subst (PacksAs last i ss) e (walk last i ss)

-- past fine records the rest decides
pack_on : (fine rest : List Silence) (last : Option Address) (i j : ℕ) → AllFit fine → AscendingAfter last fine → j ≡ i + length fine
    → first_given (record_rows last i (fine ++ rest)) ≡ first_given (record_rows (last_after last fine) j rest)
pack_on [] rest last i j fit ascends e = let same : i ≡ j = omega arith in ap (λ (n : ℕ). first_given (record_rows last n rest)) same
pack_on (s ∷ fine) rest last i j fit ascends e =
    first_step last i s (fine ++ rest) fit.0 ascends.0 ∙ pack_on fine rest (Some s.address) (suc i) j fit.1 ascends.1 (omega arith)

-- past the fine records before a record, that record decides
stands_on : {last : Option Address} {i : ℕ} {ss fine : List Silence} {j : ℕ} {s : Silence} (r : RecordStands last i ss fine j s)
    → first_given (record_rows last i ss) ≡ first_given (record_rows (last_after last fine) j (s ∷ r.later))
stands_on {last} {i} {fine = fine} {j = j} {s = s} r =
    ap (λ (l : List Silence). first_given (record_rows last i l)) r.records_are
    ∙ pack_on fine (s ∷ r.later) last i j r.all_fit r.ascends r.number_is

-- If the walk gives o, then o is the first row that the records give.
pub packs_as_is : {last : Option Address} {i : ℕ} {ss : List Silence} {o : Option Refusal} → PacksAs last i ss o → first_given (record_rows last i ss) ≡ o
unfolding record_rows first_given
packs_as_is {last} {i} {ss} (packed_all fit ascends) =
    ap (λ (l : List Silence). first_given (record_rows last i l)) (sym (append-nil ss)) ∙ pack_on ss [] last i (i + length ss) fit ascends refl
packs_as_is {last} (stopped_number {fine = fine} {j = j} {s = s} r g) = stands_on r ∙ first_number (last_after last fine) j s r.later g
packs_as_is {last} (stopped_record {fine = fine} {j = j} {s = s} r g o) = stands_on r ∙ first_order (last_after last fine) j s r.later g o
