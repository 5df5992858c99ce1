-- "Zero is an ordinary cell, ring number and start; no value means 'all'": a list of one silence, whatever its numbers are, hides up to its ceiling at the
-- address of that silence and nothing at any other. The empty list hides nothing.
use Prim.Native.Nat.{ℕ, ◌≤◌}
use mathlib.Core.Logic.Iff
use mathlib.Core.Logic.{◌↔◌}
use mathlib.Core.Path.{◌≡◌, refl, sym, ap, ◌∙◌}
use mathlib.Core.Bool.{true, false, or-false}
use mathlib.Core.List.{[], ◌∷◌}
use Rattle.silences.specs.Silences.{Address, address, Silence, silence, covers, hides}
use Rattle.silences.proofs.HidesIff.{covers_iff}

module _ (s : Silence) (cell ring_number start distance : ℕ) where
  -- whether a list of one silence hides a finding is whether that silence covers it
  one_covers : hides (s ∷ []) (address cell ring_number start) distance ≡ covers s (address cell ring_number start) distance
  unfolding hides
  one_covers = or-false (covers s (address cell ring_number start) distance)

  -- A list of one silence hides at exactly the cell, ring number and start of that silence, zero or not, and up to its ceiling.
  pub one_silence_iff : (hides (s ∷ []) (address cell ring_number start) distance ≡ true)
      ↔ ((s.address.cell ≡ cell) × (s.address.ring_number ≡ ring_number) × (s.address.start ≡ start) × (distance ≤ s.ceiling))
  one_silence_iff =
      Iff.trans (λ e. sym one_covers ∙ e, λ e. one_covers ∙ e)
      (Iff.trans (covers_iff s (address cell ring_number start) distance) (
        λ h. (ap (λ (a : Address). a.cell) h.0, ap (λ (a : Address). a.ring_number) h.0, ap (λ (a : Address). a.start) h.0, h.1),
        λ h. ((λ i. record { cell = h.0 i; ring_number = h.1 i; start = h.2 i }), h.3),
      ))

-- A silence of the address (0, 0, 0) hides at no other address than cell 0, ring number 0, start 0, whatever its ceiling is.
pub zero_hides_zero : (ceiling cell ring_number start distance : ℕ) → hides (silence (address 0 0 0) ceiling ∷ []) (address cell ring_number start) distance ≡ true
    → (0 ≡ cell) × (0 ≡ ring_number) × (0 ≡ start)
zero_hides_zero ceiling cell ring_number start distance e =
    let h = (one_silence_iff (silence (address 0 0 0) ceiling) cell ring_number start distance).0 e in
    (h.0, h.1, h.2)

-- The empty list hides nothing.
pub empty_hides_nothing : (a : Address) (distance : ℕ) → hides [] a distance ≡ false
unfolding hides
empty_hides_nothing a distance = refl
