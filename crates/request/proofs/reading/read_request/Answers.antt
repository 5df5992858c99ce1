-- `request::reading::read_request` meets its contract. An input that is too long, and the first field that does not stand, is refused by 11 (`field_refused`); if all five
-- stand (`AllRead`), their numbers and values are the parts of the request.
use native.Mathlib.Omega.{arith}
use mathlib.Core.Path.{refl}
use Rattle.request.specs.RowEleven.{longer}
use Rattle.fields.proofs.NumberWithin.{number_read}
use Rattle.request.proofs.FieldEnds.{end_stands}
use Rattle.request.proofs.RequestRead.{AllRead, request_refused, fault_later, field_refused, request_parts}
use Rattle.request.proofs.reading.read_request.Goals as goal

-- too long
pub returns-then-input-gt-MOST_INPUT : goal.returns-then-input-gt-MOST_INPUT
returns-then-input-gt-MOST_INPUT c = request_refused (longer (omega arith))

-- the first field that does not stand: the cell
pub returns-in_err-cell_end : goal.returns-in_err-cell_end
returns-in_err-cell_end c = field_refused (omega arith) c.in_err-cell_end.ensures (λ fault. fault) c.from_residual.ensures.1

-- the ring number
pub returns-in_err-ring_number_end : goal.returns-in_err-ring_number_end
returns-in_err-ring_number_end c =
    field_refused (omega arith) c.in_err-ring_number_end.ensures (λ fault. fault_later c.in_ok-cell_end.ensures fault) c.from_residual-in_err-ring_number_end.ensures.1

-- the allowance
pub returns-in_err-allowance_end : goal.returns-in_err-allowance_end
returns-in_err-allowance_end c =
    field_refused (omega arith) c.in_err-allowance_end.ensures
    (λ fault. fault_later c.in_ok-cell_end.ensures (fault_later c.in_ok-ring_number_end.ensures fault)) c.from_residual-in_err-allowance_end.ensures.1

-- the ring
pub returns-in_err-ring_end : goal.returns-in_err-ring_end
returns-in_err-ring_end c =
    field_refused (omega arith) c.in_err-ring_end.ensures
    (λ fault. fault_later c.in_ok-cell_end.ensures (fault_later c.in_ok-ring_number_end.ensures (fault_later c.in_ok-allowance_end.ensures fault)))
    c.from_residual-in_err-ring_end.ensures.1

-- the line
pub returns-in_err-line_end : goal.returns-in_err-line_end
returns-in_err-line_end c =
    field_refused (omega arith) c.in_err-line_end.ensures
    (λ fault. fault_later c.in_ok-cell_end.ensures (fault_later c.in_ok-ring_number_end.ensures (fault_later c.in_ok-allowance_end.ensures (fault_later c.in_ok-ring_end.ensures fault))))
    c.from_residual-in_err-line_end.ensures.1

-- all five stand
pub returns : goal.returns
returns c =
    let read : AllRead c.args.input.now _ _ _ _ _ = record {
      short = omega arith;
      cell_read = c.in_ok-cell_end.ensures;
      ring_number_read = c.in_ok-ring_number_end.ensures;
      allowance_read = c.in_ok-allowance_end.ensures;
      ring_read = c.in_ok-ring_end.ensures;
      line_read = c.in_ok-line_end.ensures;
    } in
    let cell = end_stands c.in_ok-cell_end.ensures in
    let ring_number = end_stands c.in_ok-ring_number_end.ensures in
    let allowance = end_stands c.in_ok-allowance_end.ensures in
    request_parts read
    (number_read c.number_at.ensures (omega arith) (omega (arith, cell.ends, cell.field.least_le, cell.field.not_cut)))
    (number_read c.number_at-2.ensures (omega arith) (omega (arith, ring_number.ends, ring_number.field.least_le, ring_number.field.not_cut)))
    (number_read c.number_at-3.ensures (omega arith) (omega (arith, allowance.ends, allowance.field.least_le, allowance.field.not_cut)))
    refl refl refl
