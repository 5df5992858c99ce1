-- The test `is_field_at` is true exactly where a field stands (`IsFieldAt`): its four comparisons are the record's four facts.
use Prim.Native.Nat.{ℕ}
use mathlib.Core.Path.{◌≡◌, sym, ◌∙◌}
use mathlib.Core.Bool.{true, false, false≢true}
use mathlib.Core.List.{List}
use mathlib.Core.Logic.{◌↔◌}
use lib.Dec.{leb, eqb}
use lib.ListN.{length, get_or}
use borrow.Author.Tests.{le-leb, eq-eqb, leb-true, eqb-true}
use Rattle.lists.proofs.Cases.{and_true, not_passed}
use Rattle.fields.specs.Tagged.{length_at}
use Rattle.request.specs.declared.field.FieldKind.{FieldKind}
use Rattle.request.specs.Fields.{next_at, is_field_at}
use Rattle.request.specs.RowEleven.{IsFieldAt, NoFieldAt}

module _ (kind : FieldKind) (input : List ℕ) (at : ℕ) where
  -- The test `is_field_at` is true exactly where a field of this kind stands.
  pub field_iff : (is_field_at kind input at ≡ true) ↔ IsFieldAt kind input at
  unfolding is_field_at
  field_iff = (
    passed,
    λ f.
        simp (
          eq-eqb (get_or input at 0) kind.tag f.tag_is,
          le-leb kind.least (length_at input at) f.least_le,
          le-leb (length_at input at) kind.most f.most_le,
          le-leb (next_at input at) (length input) f.not_cut,
        ),
  )
    where
      passed : is_field_at kind input at ≡ true → IsFieldAt kind input at
      passed h =
          let tagged = and_true (eqb (get_or input at 0) kind.tag) _ h in
          let long = and_true (leb kind.least (length_at input at)) _ tagged.1 in
          let short = and_true (leb (length_at input at) kind.most) _ long.1 in
          record {
            tag_is = eqb-true (get_or input at 0) kind.tag tagged.0;
            least_le = leb-true kind.least (length_at input at) long.0;
            most_le = leb-true (length_at input at) kind.most short.0;
            not_cut = leb-true (next_at input at) (length input) short.1;
          }

  -- The test `is_field_at` is false exactly where no field of this kind stands.
  pub no_field_iff : (is_field_at kind input at ≡ false) ↔ NoFieldAt kind input at
  no_field_iff = (λ e f. false≢true (sym e ∙ field_iff.1 f), λ none. sym (not_passed (is_field_at kind input at) (λ e. none (field_iff.0 e))))
