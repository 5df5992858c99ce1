-- Numbers and their bytes, for any count of bytes. A number that fits is read back from its bytes (`number_of_bytes`), and the bytes of a number that was read
-- are the bytes it was read from (`bytes_of_number`). Induction on the count: the last byte is the number mod 256, the others hold the number divided by 256.
use Prim.Native.Nat.{ℕ, zero, suc, ◌+◌, ◌*◌, ◌/◌, ◌%◌, ◌^◌, ◌≤◌, ◌<◌}
use mathlib.Core.Path.{◌≡◌, refl, sym, ap, ap₂, ◌∙◌}
use mathlib.Core.List.{List, [], ◌∷◌, ◌++◌, append_assoc}
use native.Mathlib.Nat.{div-add-mod', pow-suc}
use native.Mathlib.Omega.{arith}
use lib.ListN.{length, get_or, take, drop, length-append, length-drop}
use lib.Seq.{take-suc, get_or-drop, get_or-append-add, get_or_at}
use Rattle.fields.specs.Numbers.{bytes_of, number_at}
use Rattle.lists.specs.Bounds.{IsBytes}

-- A number in `count` bytes has `count` bytes.
pub bytes_of_length : (count number : ℕ) → length (bytes_of count number) ≡ count
unfolding bytes_of
bytes_of_length zero number = refl
bytes_of_length (suc count) number = omega (arith, length-append (bytes_of count (number / 256)) (number % 256 ∷ []), bytes_of_length count (number / 256))

-- A number below 256^(count + 1), divided by 256, is below 256^count.
without_last : (count number : ℕ) → number < 256 ^ suc count → number / 256 < 256 ^ count
without_last count number h = omega (arith, pow-suc 256 count)

-- A number below 256^count is read back from its `count` bytes, wherever they stand.
pub number_of_bytes : (count number : ℕ) (front rest : List ℕ) → number < 256 ^ count
    → number_at count (front ++ (bytes_of count number ++ rest)) (length front) ≡ number
unfolding bytes_of number_at
number_of_bytes zero number front rest h = omega arith
number_of_bytes (suc count) number front rest h =
    let high : List ℕ = bytes_of count (number / 256) in
    let low : ℕ = number % 256 in
    let regrouped : front ++ (high ++ low ∷ [] ++ rest) ≡ front ++ (high ++ low ∷ rest) = ap (λ (l : List ℕ). front ++ l) (append_assoc high (low ∷ []) rest) in
    let high_is : number_at count (front ++ (high ++ low ∷ rest)) (length front) ≡ number / 256 =
    number_of_bytes count (number / 256) front (low ∷ rest) (without_last count number h) in
    let low_is : get_or (front ++ (high ++ low ∷ rest)) (length front + count) 0 ≡ low =
    get_or-append-add front (high ++ low ∷ rest) count 0 ∙ get_or_at high low rest 0 count (bytes_of_length count (number / 256)) in
    ap (λ (l : List ℕ). number_at count l (length front) * 256 + get_or l (length front + count) 0) regrouped
    ∙ ap₂ (λ (a b : ℕ). a * 256 + b) high_is low_is
    ∙ div-add-mod' number 256

module _ (book : List ℕ) (bytes : IsBytes book) where
  -- The number in `count` bytes is below 256^count.
  pub number_at_lt : (count at : ℕ) → number_at count book at < 256 ^ count
  unfolding number_at
  number_at_lt zero at = omega arith
  number_at_lt (suc count) at = omega (arith, number_at_lt count at, pow-suc 256 count, bytes.each_lt (at + count))

  -- The bytes of the number in `count` bytes are those bytes.
  pub bytes_of_number : (count at : ℕ) → at + count ≤ length book → bytes_of count (number_at count book at) ≡ take count (drop at book)
  unfolding bytes_of number_at
  bytes_of_number zero at h = refl
  bytes_of_number (suc count) at h =
      let high : ℕ = number_at count book at in
      let low : ℕ = get_or book (at + count) 0 in
      let high_is : (high * 256 + low) / 256 ≡ high = omega (arith, bytes.each_lt (at + count)) in
      let low_is : (high * 256 + low) % 256 ≡ low = omega (arith, bytes.each_lt (at + count)) in
      ap₂ (λ (a b : ℕ). bytes_of count a ++ b ∷ []) high_is low_is
      ∙ ap₂ (λ (l : List ℕ) (b : ℕ). l ++ b ∷ []) (bytes_of_number count at (omega arith)) (sym (get_or-drop at book count 0))
      ∙ sym (take-suc (drop at book) count 0 (omega (arith, length-drop at book)))
