-- Document 01, "Silence book": "numbers high byte first". Defined for any count of bytes; a silence has numbers of 2 and of 4 bytes.
--
--   bytes_of            number to bytes
--   number_at           bytes to number
--   most_number_bytes   4, the most bytes of a number that is read
--   number_within       bytes to number, for any byte offset and count
--   IsNumberRead        the contract of `number_at`
use Rattle.std.specs.Prelude.{ℕ, zero, suc, ◌+◌, ◌*◌, ◌/◌, ◌%◌, ◌^◌, ◌<◌, ◌≡◌, cond, ◌&&◌, List, [], ◌∷◌, ◌++◌, leb, length, get_or}

-- A number in `count` bytes, high byte first: the last byte is the number mod 256, and those before it are the bytes of the number divided by 256.
unfoldable pub bytes_of : ℕ → ℕ → List ℕ
bytes_of zero number = []
bytes_of (suc count) number = bytes_of count (number / 256) ++ number % 256 ∷ []

-- The number in the `count` bytes from byte offset `at`, high byte first: 256 times the number in all but the last byte, plus the last byte.
unfoldable pub number_at : ℕ → List ℕ → ℕ → ℕ
number_at zero bytes at = 0
number_at (suc count) bytes at = number_at count bytes at * 256 + get_or bytes (at + count) 0

-- A number that is read has at most 4 bytes, as "cell (4 bytes)".
abbrev pub most_number_bytes : ℕ
most_number_bytes = 4

-- The number in the `count` bytes from byte offset `at`, if `count` is at most 4 and they all lie within the bytes given; else 0.
unfoldable pub number_within : ℕ → List ℕ → ℕ → ℕ
number_within count bytes at =
    let number : ℕ = number_at count bytes at in
    cond (leb count most_number_bytes && leb (at + count) (length bytes)) number 0

-- The contract of `number_at`, which returns r: r is `number_within`, and it fits `count` bytes.
pub record IsNumberRead (bytes : List ℕ) (at count r : ℕ) : Type 0 where
  pub is : r ≡ number_within count bytes at
  pub lt : r < 256 ^ count
