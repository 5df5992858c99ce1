-- `number_within` by the two tests of its definition: it is `number_at` for at most 4 bytes that all lie within those given, and else 0.
use Prim.Native.Nat.{ℕ, ◌+◌, ◌≤◌, ◌<◌}
use mathlib.Core.Path.{◌≡◌, ◌∙◌}
use mathlib.Core.Bool.{and-false}
use mathlib.Core.List.{List}
use lib.ListN.{length}
use borrow.Author.Tests.{le-leb, lt-leb}
use Rattle.fields.specs.Numbers.{number_at, most_number_bytes, number_within, IsNumberRead}

module _ (count : ℕ) (bytes : List ℕ) (at : ℕ) where
  -- For at most 4 bytes that all lie within those given, `number_within` is the number in them.
  pub number_within_is : count ≤ most_number_bytes → at + count ≤ length bytes → number_within count bytes at ≡ number_at count bytes at
  unfolding number_within
  number_within_is few within = simp (le-leb count most_number_bytes few, le-leb (at + count) (length bytes) within)

  -- For more than 4 bytes, `number_within` is 0.
  pub number_within_many : most_number_bytes < count → number_within count bytes at ≡ 0
  unfolding number_within
  number_within_many many = simp (lt-leb count most_number_bytes many)

  -- For bytes that reach past the end, `number_within` is 0.
  pub number_within_past : length bytes < at + count → number_within count bytes at ≡ 0
  unfolding number_within
  number_within_past past = simp (lt-leb (at + count) (length bytes) past, and-false)

-- A result that meets the contract of `number_at`, for at most 4 bytes that all lie within those given, is the number in them.
pub number_read : {bytes : List ℕ} {at count r : ℕ} → IsNumberRead bytes at count r → count ≤ most_number_bytes → at + count ≤ length bytes → r ≡ number_at count bytes at
number_read {bytes} {at} {count} read few within = read.is ∙ number_within_is count bytes at few within
