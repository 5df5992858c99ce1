-- Records laid out as numbers, one after the other without a gap: findings and silences as words, silences as a book's bytes. A record has `width` numbers.
use Rattle.std.specs.Prelude.{ℕ, zero, suc, ◌/◌, List, [], ◌∷◌, ◌++◌, length, take, drop}

-- The numbers of a list of records; `numbers` gives those of one record.
unfoldable pub numbers_of_each : {A : Type 0} → (A → List ℕ) → List A → List ℕ
numbers_of_each numbers [] = []
numbers_of_each numbers (x ∷ xs) = numbers x ++ numbers_of_each numbers xs

-- The first `count` records of a list of numbers; `of` gives the record of its `width` numbers.
unfoldable pub first_records : {A : Type 0} → ℕ → ℕ → (List ℕ → A) → List ℕ → List A
first_records zero width of numbers = []
first_records (suc count) width of numbers = of (take width numbers) ∷ first_records count width of (drop width numbers)

-- The records of a list of numbers. If fewer than `width` numbers are left over at its end, they are dropped. (Laws: `records_step`, `records_end`.)
unfoldable pub records_of : {A : Type 0} → ℕ → (List ℕ → A) → List ℕ → List A
records_of width of numbers = first_records (length numbers / width) width of numbers
