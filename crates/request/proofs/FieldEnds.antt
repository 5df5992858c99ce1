-- Where a field ends, as `FieldKind::end` returns it (`end_of`): past the field if it stands, and refusal 11 at its beginning if it does not.
use Prim.Native.Nat.{ℕ}
use mathlib.Core.Path.{◌≡◌, refl, sym}
use mathlib.Core.Bool.{Bool, true, false}
use mathlib.Core.List.{List, ◌∷◌}
use native.Mathlib.Omega.{arith}
use Rattle.std.specs.Prelude.{Result, Ok, Err}
use Rattle.answers.specs.declared.refusals.Refusal.{Refusal}
use Rattle.answers.specs.declared.refusals.Refusal.TheVariants.{Input}
use Rattle.request.specs.declared.field.FieldKind.{FieldKind}
use Rattle.request.specs.Fields.{next_at, is_field_at}
use Rattle.request.specs.Input.{first_fault}
use Rattle.request.specs.RowEleven.{IsFieldAt, NoFieldAt}
use Rattle.request.specs.Parsing.{end_of, IsFieldEnd}
use Rattle.request.proofs.FieldStands.{field_iff, no_field_iff}

-- A field was read: it stands, and the next one begins at its end.
pub record FieldRead (kind : FieldKind) (input : List ℕ) (at end : ℕ) : Type 0 where
  pub field : IsFieldAt kind input at
  pub ends : end ≡ next_at input at

-- `Ok` is not `Err`
ok_not_err : {end : ℕ} {refusal : Refusal} → ◌≡◌ {A = Result ℕ Refusal} (Ok end) (Err refusal) → ⊥
ok_not_err e = cc

module _ {kind : FieldKind} {input : List ℕ} {at : ℕ} where
  -- With no field here, the fault is here.
  pub end_missing : NoFieldAt kind input at → IsFieldEnd kind input at (Err (Input at))
  unfolding end_of
  end_missing missing = record { is = simp ((no_field_iff kind input at).1 missing); within = tt }

  -- With a field here, the next one begins at its end.
  pub end_whole : {end : ℕ} → IsFieldAt kind input at → end ≡ next_at input at → IsFieldEnd kind input at (Ok end)
  unfolding end_of
  end_whole stands ends = record { is = simp ((field_iff kind input at).1 stands, ends); within = (omega (arith, ends), omega (arith, ends, stands.not_cut)) }

  -- An end that is returned is that of a field that stands.
  pub end_stands : {end : ℕ} → IsFieldEnd kind input at (Ok end) → FieldRead kind input at end
  unfolding end_of
  end_stands {end} read = go (is_field_at kind input at) refl read.is
    where
      go : (t : Bool) → is_field_at kind input at ≡ t → Ok end ≡ end_of kind input at → FieldRead kind input at end
      go true stands h = let e : Ok end ≡ Ok (next_at input at) = simp stands at h in record { field = (field_iff kind input at).0 stands; ends = cc }
      go false missing h = let e : Ok end ≡ Err (Input at) = simp missing at h in elim (ok_not_err e) [ ]

  -- A refusal that is returned is refusal 11 here, where no field stands.
  pub end_refused : {refusal : Refusal} → IsFieldEnd kind input at (Err refusal) → NoFieldAt kind input at × (refusal ≡ Input at)
  unfolding end_of
  end_refused {refusal} read = go (is_field_at kind input at) refl read.is
    where
      go : (t : Bool) → is_field_at kind input at ≡ t → Err refusal ≡ end_of kind input at → NoFieldAt kind input at × (refusal ≡ Input at)
      go true stands h = let e : Err refusal ≡ Ok (next_at input at) = simp stands at h in elim (ok_not_err (sym e)) [ ]
      go false missing h = let e : Err refusal ≡ Err (Input at) = simp missing at h in ((no_field_iff kind input at).0 missing, cc)

  -- Where a field stands, the first fault is the first among the later fields, from its end on.
  pub end_passed : {end : ℕ} → IsFieldEnd kind input at (Ok end) → (kinds : List FieldKind) → first_fault (kind ∷ kinds) input at ≡ first_fault kinds input end
  unfolding first_fault
  end_passed read kinds =
      let here = end_stands read in
      simp ((field_iff kind input at).1 here.field, here.ends)
