-- `request::field::FieldKind::end` meets its contract. Each test that fails shows that no field of the kind stands here; where all pass, one does.
use native.Mathlib.Omega.{arith}
use Rattle.fields.proofs.NumberWithin.{number_read}
use Rattle.request.proofs.FieldEnds.{end_missing, end_whole}
use Rattle.request.proofs.field.FieldKind.end.Goals as goal
use Rattle.request.proofs.field.FieldKind.end.Goals.{then-input-lt-HEAD_LENGTH-via-then-input-lt-HEAD_LENGTH, then-input-lt-HEAD_LENGTH-via-else-input-lt-HEAD_LENGTH+then-input-at, then-input-lt-HEAD_LENGTH-via-else-input-lt-HEAD_LENGTH+else-input-at+then-input-at-2}
use Rattle.request.proofs.field.FieldKind.end.Goals.{then-long-self-via-then-long-self, then-long-self-via-else-long-self+then-self-long, then-long-self-via-else-long-self+else-self-long+then-input-at-3}

-- no room for a head; cut in its head; another tag
pub returns-then-input-lt-HEAD_LENGTH : goal.returns-then-input-lt-HEAD_LENGTH
returns-then-input-lt-HEAD_LENGTH c =
    end_missing (λ f.
    elim c.then-input-lt-HEAD_LENGTH.branch [
      | then-input-lt-HEAD_LENGTH-via-then-input-lt-HEAD_LENGTH w ↦ omega (arith, f.not_cut, w.if-input-lt-HEAD_LENGTH.true)
      | then-input-lt-HEAD_LENGTH-via-else-input-lt-HEAD_LENGTH+then-input-at w ↦ omega (arith, f.not_cut, w.if-input-at.true, w.if-input-lt-HEAD_LENGTH.false)
      | then-input-lt-HEAD_LENGTH-via-else-input-lt-HEAD_LENGTH+else-input-at+then-input-at-2 w ↦ w.if-input-at-2.true f.tag_is
    ])

-- too short; too long; cut in its value
pub returns-then-long-self : goal.returns-then-long-self
returns-then-long-self c =
    let long_is = number_read c.number_at-long.ensures (omega arith) (omega arith) in
    end_missing (λ f.
    elim c.then-long-self.branch [
      | then-long-self-via-then-long-self w ↦ omega (arith, f.least_le, long_is, w.if-long-self.true)
      | then-long-self-via-else-long-self+then-self-long w ↦ omega (arith, f.most_le, long_is, w.if-self-long.true)
      | then-long-self-via-else-long-self+else-self-long+then-input-at-3 w ↦ omega (arith, f.not_cut, long_is, w.if-input-at-3.true)
    ])

-- whole
pub returns : goal.returns
returns c =
    let long_is = number_read c.number_at-long.ensures (omega arith) (omega arith) in
    end_whole (record { tag_is = c.if-input-at-2.false; least_le = omega arith; most_le = omega arith; not_cut = omega arith }) (omega arith)
