-- Numbers and fields written one after the other in bytes, and read back. If the bytes of a number stand from a byte offset on, the number is read back and the
-- rest stands behind it (`laid_number`, `laid_number_rest`). The same holds for a field (`laid_tag`, `laid_long`, `laid_value`, `laid_rest`). Conversely, where a
-- number or a field was read, its bytes stand (`number_then`, `field_then`).
use Prim.Native.Nat.{ℕ, zero, suc, ◌+◌, ◌*◌, ◌^◌, ◌≤◌, ◌<◌}
use mathlib.Core.Path.{◌≡◌, refl, sym, ap, ap₂, ◌∙◌}
use mathlib.Core.List.{List, [], ◌∷◌, ◌++◌, append_assoc}
use native.Mathlib.Omega.{arith}
use native.Mathlib.Nat.{add-zero}
use native.Mathlib.Numerals.{add-one}
use lib.ListN.{length, get_or, take, drop, length-append, length-drop, take-append-drop}
use lib.Seq.{drop-cons, drop-drop, get_or-drop, length-take-le, drop-append_seam, drop_at}
use Rattle.lists.specs.Bounds.{IsBytes}
use Rattle.fields.specs.Numbers.{bytes_of, number_at}
use Rattle.fields.specs.Tagged.{tag_bytes, length_bytes, head_length, field, length_at, field_end}
use Rattle.fields.proofs.NumberBytes.{bytes_of_length, number_of_bytes, bytes_of_number}

-- Reading from byte offset at + i is reading from offset i after the first `at` bytes are dropped.
number_at_drop : (count : ℕ) (bytes : List ℕ) (at i : ℕ) → number_at count bytes (at + i) ≡ number_at count (drop at bytes) i
unfolding number_at
number_at_drop zero bytes at i = refl
number_at_drop (suc count) bytes at i =
    let same : at + i + count ≡ at + (i + count) = omega arith in
    ap₂ (λ (a b : ℕ). a * 256 + b) (number_at_drop count bytes at i) (ap (λ (n : ℕ). get_or bytes n 0) same ∙ sym (get_or-drop at bytes (i + count) 0))

-- The bytes of a number stand from byte offset `at` on, followed by `rest`.
module _ (bytes : List ℕ) (at count number : ℕ) (rest : List ℕ) (laid : drop at bytes ≡ bytes_of count number ++ rest) where
  -- A number whose bytes stand at `at` is read back there, if it fits its bytes.
  pub laid_number : number < 256 ^ count → number_at count bytes at ≡ number
  laid_number fits =
      sym (ap (number_at count bytes) (add-zero at))
      ∙ number_at_drop count bytes at 0
      ∙ ap (λ (l : List ℕ). number_at count l 0) laid
      ∙ number_of_bytes count number [] rest fits

  -- If the bytes of a number stand at `at`, followed by `rest`, then `rest` stands just past the number.
  pub laid_number_rest : drop (at + count) bytes ≡ rest
  laid_number_rest = sym (drop-drop count at bytes) ∙ ap (drop count) laid ∙ drop_at (bytes_of count number) rest count (bytes_of_length count number)

-- The bytes of a field stand from byte offset `at` on, followed by `rest`.
module _ (bytes : List ℕ) (at tag : ℕ) (value rest : List ℕ) (laid : drop at bytes ≡ field tag value ++ rest) where
  -- If a field stands at `at`, the byte there is its tag.
  pub laid_tag : get_or bytes at 0 ≡ tag
  laid_tag = sym (ap (λ (n : ℕ). get_or bytes n 0) (add-zero at)) ∙ sym (get_or-drop at bytes 0 0) ∙ ap (λ (l : List ℕ). get_or l 0 0) laid

  -- The length bytes stand behind the tag.
  laid_length : drop (at + tag_bytes) bytes ≡ bytes_of length_bytes (length value) ++ (value ++ rest)
  laid_length = sym (drop-drop tag_bytes at bytes) ∙ ap (drop tag_bytes) laid ∙ append_assoc (bytes_of length_bytes (length value)) value rest

  -- If a field stands at `at`, its length bytes give the length of its value, if that fits two bytes.
  pub laid_long : length value < 256 ^ length_bytes → length_at bytes at ≡ length value
  laid_long = laid_number bytes (at + tag_bytes) length_bytes (length value) (value ++ rest) laid_length

  -- If a field stands at `at`, followed by `rest`, its value and then `rest` stand behind its head.
  pub laid_value : drop (at + head_length) bytes ≡ value ++ rest
  laid_value =
      let head : at + head_length ≡ at + tag_bytes + length_bytes = omega arith in
      ap (λ (n : ℕ). drop n bytes) head ∙ laid_number_rest bytes (at + tag_bytes) length_bytes (length value) (value ++ rest) laid_length

  -- If a field stands at `at`, followed by `rest`, then `rest` stands just past the field.
  pub laid_rest : drop (field_end at (length value)) bytes ≡ rest
  laid_rest = sym (drop-drop (length value) (at + head_length) bytes) ∙ ap (drop (length value)) laid_value ∙ drop-append_seam value rest

  -- A field that stands at `at` is not cut off.
  pub laid_within : field_end at (length value) ≤ length bytes
  laid_within = omega (arith, simp (length-drop, length-append, bytes_of_length) at (ap length laid))

module _ (bytes : List ℕ) (is_bytes : IsBytes bytes) where
  -- The bytes from `at` on are the bytes of the number read there, and then the rest.
  pub number_then : (count at : ℕ) → at + count ≤ length bytes → drop at bytes ≡ bytes_of count (number_at count bytes at) ++ drop (at + count) bytes
  number_then count at within =
      sym (take-append-drop count (drop at bytes))
      ∙ ap₂ (λ (a b : List ℕ). a ++ b) (sym (bytes_of_number bytes is_bytes count at within)) (drop-drop count at bytes)

  -- If the length bytes at `at` are `long` and the field is not cut off, the bytes from `at` on are the field of that tag and value, and then the rest.
  pub field_then : (at long : ℕ) → length_at bytes at ≡ long → field_end at long ≤ length bytes
      → drop at bytes ≡ field (get_or bytes at 0) (take long (drop (at + head_length) bytes)) ++ drop (field_end at long) bytes
  field_then at long says within =
      let value : List ℕ = take long (drop (at + head_length) bytes) in
      let value_long : length_at bytes at ≡ length value =
      says ∙ sym (length-take-le long (drop (at + head_length) bytes) (simp length-drop (omega arith))) in
      let head : at + tag_bytes + length_bytes ≡ at + head_length = omega arith in
      let value_then : drop (at + tag_bytes + length_bytes) bytes ≡ value ++ drop (field_end at long) bytes =
      ap (λ (n : ℕ). drop n bytes) head
      ∙ sym (take-append-drop long (drop (at + head_length) bytes)) ∙ ap (λ (l : List ℕ). value ++ l) (drop-drop long (at + head_length) bytes) in
      drop-cons bytes at 0 (omega arith)
      ∙ ap (λ (n : ℕ). get_or bytes at 0 ∷ drop n bytes) (sym (add-one at))
      ∙ ap (λ (l : List ℕ). get_or bytes at 0 ∷ l)
      (number_then length_bytes (at + tag_bytes) (omega arith)
      ∙ ap₂ (λ (n : ℕ) (l : List ℕ). bytes_of length_bytes n ++ l) value_long value_then
      ∙ sym (append_assoc (bytes_of length_bytes (length value)) value (drop (field_end at long) bytes)))
