-- The contract of `FieldKind::end`, the private method that reads one field. Nothing here is part of what `read_request` means.
use Rattle.std.specs.Prelude.{ℕ, ◌+◌, ◌≤◌, ◌≡◌, cond, List, length, IfOk}
use Rattle.std.specs.Prelude.{Result, Ok, Err}
use Rattle.answers.specs.declared.refusals.Refusal.{Refusal}
use Rattle.answers.specs.declared.refusals.Refusal.TheVariants.{Input}
use Rattle.fields.specs.Tagged.{head_length}
use Rattle.request.specs.declared.field.FieldKind.{FieldKind}
use Rattle.request.specs.Fields.{next_at, is_field_at}

-- Where the field of this kind that begins at `at` ends, if it stands; if it does not, refusal 11 where it begins or should begin.
unfoldable pub end_of : FieldKind → List ℕ → ℕ → Result ℕ Refusal
end_of kind input at =
    let whole : Result ℕ Refusal = Ok (next_at input at) in
    let fault : Result ℕ Refusal = Err (Input at) in
    cond (is_field_at kind input at) whole fault

-- The contract of `FieldKind::end`: it returns `end_of`, and where a field ends its head lies within the input before that.
pub record IsFieldEnd (kind : FieldKind) (input : List ℕ) (at : ℕ) (r : Result ℕ Refusal) : Type 0 where
  pub is : r ≡ end_of kind input at
  pub within : IfOk r (λ end. (at + head_length ≤ end) × (end ≤ length input))
