-- `silences::field::address_at` meets its contract: it reads the three numbers of the address. The ring number's two bytes fit sixteen bits.
use native.Mathlib.Omega.{arith}
use Rattle.fields.proofs.NumberWithin.{number_read}
use Rattle.silences.specs.Reading.{address_at}
use Rattle.silences.proofs.field.address_at.Goals as goal

pub returns : goal.returns
unfolding address_at
returns c =
    let cell_is = number_read c.number_at-cell.ensures (omega arith) (omega arith) in
    let ring_number_is = number_read c.number_at-ring_number.ensures (omega arith) (omega arith) in
    let start_is = number_read c.number_at-start.ensures (omega arith) (omega arith) in
    λ i. record { cell = cell_is i; ring_number = ring_number_is i; start = start_is i }
