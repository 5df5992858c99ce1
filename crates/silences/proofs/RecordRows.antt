-- When the records to pack give row 9 or 7, and at which record: exactly at the first faulty one, 9 before 7. They give no other row, and none exactly when no
-- record is faulty. The walk over the records stops at the first faulty one (`PacksAs`), and all records before it are fine.
use Prim.Native.Nat.{ℕ}
use mathlib.Core.Logic.{◌↔◌}
use mathlib.Core.Path.{◌≡◌}
use mathlib.Core.List.{List}
use Rattle.std.specs.Prelude.{Option, None, Some}
use native.Mathlib.Omega.{arith}
use Rattle.answers.specs.declared.refusals.Refusal.{Refusal}
use Rattle.answers.specs.declared.refusals.Refusal.TheVariants.{NotAbove, NumberInRecord}
use Rattle.silences.specs.Silences.{Silence, Ascending}
use Rattle.silences.specs.Packing.{silences_of, record_fault}
use Rattle.silences.specs.Faults.{AllFit, IsRecord, IsNumberFault, IsRecordFault}
use Rattle.silences.proofs.AscendingAfter.{ascending_after_iff, not_above_iff}
use Rattle.silences.proofs.RecordsPacked.{RecordStands, PacksAs, packed_all, stopped_number, stopped_record, packs_as, packs_as_is}

module _ (words : List ℕ) where
  -- what the walk over all records gives
  packs : (o : Option Refusal) → record_fault words ≡ o → PacksAs None 0 (silences_of words) o
  packs = packs_as None 0 (silences_of words)

  -- the record where the walk stops, in the words of the walk and in those of the specs
  record_iff : {fine : List Silence} {j : ℕ} {s : Silence} → RecordStands None 0 (silences_of words) fine j s ↔ IsRecord words j fine s
  record_iff {fine} = (
    λ r. record { later = r.later; records_are = r.records_are; number_is = omega (arith, r.number_is); all_fit = r.all_fit; ascending = (ascending_after_iff fine).1 r.ascends },
    λ r. record { later = r.later; records_are = r.records_are; number_is = omega (arith, r.number_is); all_fit = r.all_fit; ascends = (ascending_after_iff fine).0 r.ascending },
  )

  -- What holds of rows 9 and 7 holds of the refusal that the records give: they give no other.
  pub records_have : (P : Refusal → Type 0) → ((j : ℕ) → P (NumberInRecord j)) → ((j : ℕ) → P (NotAbove j)) → (q : Refusal) → record_fault words ≡ Some q → P q
  records_have P nine seven q e = go q (packs (Some q) e)
    where
      go : (q : Refusal) → PacksAs None 0 (silences_of words) (Some q) → P q
      go _ (stopped_number {j = j} r g) = nine j
      go _ (stopped_record {j = j} r g o) = seven j

  -- The records give no row exactly when they ascend and their numbers fit.
  pub records_none_iff : (record_fault words ≡ None) ↔ (AllFit (silences_of words) × Ascending (silences_of words))
  records_none_iff = (λ e. fine (packs None e), λ h. packs_as_is (packed_all h.0 ((ascending_after_iff (silences_of words)).0 h.1)))
    where
      fine : PacksAs None 0 (silences_of words) None → AllFit (silences_of words) × Ascending (silences_of words)
      fine (packed_all fit ascends) = (fit, (ascending_after_iff (silences_of words)).1 ascends)

  -- The records give row 9 at record j exactly when all before it are fine and a number of it is too large.
  pub records_9_iff : (j : ℕ) → (record_fault words ≡ Some (NumberInRecord j)) ↔ IsNumberFault words j
  records_9_iff j = (λ e. fault j (packs (Some (NumberInRecord j)) e), λ f. packs_as_is (stopped_number (record_iff.1 f.is_record) f.too_large))
    where
      fault : (i : ℕ) → PacksAs None 0 (silences_of words) (Some (NumberInRecord i)) → IsNumberFault words i
      fault i (stopped_number {fine = fine} {s = s} r g) = record { fine = fine; here = s; is_record = record_iff.0 r; too_large = g }

  -- The records give row 7 at record j exactly when all before it are fine, its numbers fit, and it isn't above the one before it.
  pub records_7_iff : (j : ℕ) → (record_fault words ≡ Some (NotAbove j)) ↔ IsRecordFault words j
  records_7_iff j = (
    λ e. fault j (packs (Some (NotAbove j)) e),
    λ f. packs_as_is (stopped_record (record_iff.1 f.is_record) f.fits ((not_above_iff f.fine f.here.address).1 f.not_above)),
  )
    where
      fault : (i : ℕ) → PacksAs None 0 (silences_of words) (Some (NotAbove i)) → IsRecordFault words i
      fault i (stopped_record {fine = fine} {s = s} r g o) =
          record { fine = fine; here = s; is_record = record_iff.0 r; fits = g; not_above = (not_above_iff fine s.address).0 o }
