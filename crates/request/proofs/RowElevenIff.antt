-- `request_of` gives row 11 with a place exactly when `IsInputFault` holds of that place: the input is too long and the place is 0, or the first field that does not
-- stand begins, or should begin, there. By induction on the fields, the computed fault is the first (`fault_found`) and the first is computed (`fault_first`).
use Prim.Native.Nat.{ℕ}
use mathlib.Core.Path.{◌≡◌, refl, subst}
use mathlib.Core.Bool.{Bool, true, false, cond}
use mathlib.Core.Logic.{◌↔◌}
use mathlib.Core.List.{List, [], ◌∷◌}
use Rattle.std.specs.Prelude.{Option, None, Some}
use native.Mathlib.Omega.{arith}
use lib.Dec.{ltb}
use lib.ListN.{length}
use borrow.Author.Tests.{ltb-true, ltb-false, lt-ltb, le-ltb}
use Rattle.answers.specs.declared.refusals.Refusal.TheVariants.{Input}
use Rattle.answers.specs.Paper.{refused}
use Rattle.answers.proofs.AnswerCases.{accepted_not_refused}
use Rattle.request.specs.declared.field.FieldKind.{FieldKind}
use Rattle.request.specs.Fields.{input_fields, next_at, is_field_at}
use Rattle.request.specs.Input.{most_input, first_fault, input_fault, request_by, request_of}
use Rattle.request.specs.RowEleven.{FirstFault, here, later, IsInputFault, longer, no_field}
use Rattle.request.proofs.FieldStands.{field_iff, no_field_iff}

module _ (input : List ℕ) where
  -- equal options hold equal places
  place_same : {a b : ℕ} → Some a ≡ Some b → a ≡ b
  place_same e = cc

  -- `none` is not `some`
  none_not_some : {place : ℕ} → None ≡ Some place → ⊥
  none_not_some e = let z : ◌≡◌ {A = ℕ} 0 1 = cc in omega arith

  -- the fault that `first_fault` gives is the first
  fault_found : (kinds : List FieldKind) (at : ℕ) {place : ℕ} → first_fault kinds input at ≡ Some place → FirstFault input kinds at place
  unfolding first_fault
  fault_found [] at e = absurd (none_not_some e)
  fault_found (kind ∷ kinds) at {place} e = go (is_field_at kind input at) refl (fault_found kinds (next_at input at)) e
    where
      go : (t : Bool) → is_field_at kind input at ≡ t → (first_fault kinds input (next_at input at) ≡ Some place → FirstFault input kinds (next_at input at) place)
          → cond t (first_fault kinds input (next_at input at)) (Some at) ≡ Some place → FirstFault input (kind ∷ kinds) at place
      go true stands among_later e = later ((field_iff kind input at).0 stands) (among_later e)
      go false missing among_later e = subst (FirstFault input (kind ∷ kinds) at) (place_same e) (here ((no_field_iff kind input at).0 missing))

  -- the first fault is the one that `first_fault` gives
  fault_first : {kinds : List FieldKind} {at place : ℕ} → FirstFault input kinds at place → first_fault kinds input at ≡ Some place
  unfolding first_fault
  fault_first (here missing) = simp ((no_field_iff _ input _).1 missing)
  fault_first (later stands fault) = simp ((field_iff _ input _).1 stands, fault_first fault)

  -- `input_fault` gives the place of row 11
  fault_iff : (place : ℕ) → (input_fault input ≡ Some place) ↔ IsInputFault input place
  unfolding input_fault
  fault_iff place = (λ e. to (ltb most_input (length input)) refl e, from)
    where
      to : (t : Bool) → ltb most_input (length input) ≡ t → cond t (Some 0) (first_fault input_fields input 0) ≡ Some place → IsInputFault input place
      to true long e = subst (IsInputFault input) (place_same e) (longer (ltb-true most_input (length input) long))
      to false short e = no_field (ltb-false most_input (length input) short) (fault_found input_fields 0 e)

      from : {place : ℕ} → IsInputFault input place → input_fault input ≡ Some place
      from (longer long) = simp (lt-ltb most_input (length input) long)
      from (no_field short fault) = simp (le-ltb most_input (length input) short, fault_first fault)

  -- Row 11, "the program's input isn't as laid down": an input is refused by 11 with a place exactly when `IsInputFault` holds of that place.
  pub row_11_iff : (place : ℕ) → (request_of input ≡ refused (Input place)) ↔ IsInputFault input place
  unfolding request_of
  row_11_iff place = (λ h. go (input_fault input) refl h, λ fault. simp ((fault_iff place).1 fault))
    where
      go : (o : Option ℕ) → input_fault input ≡ o → request_by input o ≡ refused (Input place) → IsInputFault input place
      go None e h = absurd (accepted_not_refused refl h)
      go (Some found) e h = let same : found ≡ place = cc in subst (IsInputFault input) same ((fault_iff found).0 e)
