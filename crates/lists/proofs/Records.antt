-- Records laid out as numbers, one after the other, and read back: how many numbers there are, that two lists of records are laid out one after the other, and
-- that laying out and reading back undo each other. The laws hold for any kind of record and any width; findings, silences and fields cite them.
use Prim.Native.Nat.{ℕ, zero, suc, ◌+◌, ◌-◌, ◌*◌, ◌/◌, ◌%◌, ◌≤◌, ◌<◌}
use mathlib.Core.Path.{◌≡◌, refl, sym, ap, ap₂, ◌∙◌}
use mathlib.Core.List.{List, [], ◌∷◌, ◌++◌, map, append-nil, append_assoc}
use native.Mathlib.Nat.{mul-zero, mul-suc, div-eq_of_lt, div-eq-sub-div, mod-add-div}
use native.Mathlib.Numerals.{add-one}
use native.Mathlib.Omega.{arith}
use lib.ListN.{length, get_or, take, drop, length-append, length-drop, take-append-drop}
use lib.Seq.{drop-drop, take_at, drop_at, length-take-le, get_or-take, get_or-drop}
use Rattle.lists.specs.ByPlace.{list_of}
use Rattle.lists.proofs.ByPlace.{list_of_is}
use Rattle.lists.specs.Records.{numbers_of_each, first_records, records_of}

module _ {A : Type 0} (numbers : A → List ℕ) where
  -- If each record has `width` numbers, a list of records has `width` times as many numbers as records.
  pub each_length : (width : ℕ) → ((x : A) → length (numbers x) ≡ width) → (xs : List A) → length (numbers_of_each numbers xs) ≡ width * length xs
  unfolding numbers_of_each
  each_length width each [] = sym (mul-zero width)
  each_length width each (x ∷ xs) =
      length-append (numbers x) (numbers_of_each numbers xs)
      ∙ ap₂ (λ (a b : ℕ). a + b) (each x) (each_length width each xs)
      ∙ omega (arith, mul-suc width (length xs))

  -- The numbers of two lists of records joined are the numbers of the first, then those of the second.
  pub each_append : (a b : List A) → numbers_of_each numbers (a ++ b) ≡ numbers_of_each numbers a ++ numbers_of_each numbers b
  unfolding numbers_of_each
  each_append [] b = refl
  each_append (x ∷ a) b =
      ap (λ (l : List ℕ). numbers x ++ l) (each_append a b) ∙ sym (append_assoc (numbers x) (numbers_of_each numbers a) (numbers_of_each numbers b))

  -- The numbers of a record added at the end stand at the end.
  pub each_more : (xs : List A) (x : A) → numbers_of_each numbers (xs ++ x ∷ []) ≡ numbers_of_each numbers xs ++ numbers x
  unfolding numbers_of_each
  each_more xs x = each_append xs (x ∷ []) ∙ ap (λ (l : List ℕ). numbers_of_each numbers xs ++ l) (append-nil (numbers x))

-- Of the `width` numbers from place `at` on, number j is the list's number at place `at` + j.
pub part_at : (width : ℕ) (numbers : List ℕ) (at j : ℕ) → j < width → get_or (take width (drop at numbers)) j 0 ≡ get_or numbers (at + j) 0
part_at width numbers at j l = get_or-take width (drop at numbers) j 0 l ∙ get_or-drop at numbers j 0

-- The `width` numbers from place `at` on, as a list given place by place.
pub part_places : (numbers : List ℕ) (at width : ℕ) → at + width ≤ length numbers → take width (drop at numbers) ≡ list_of width (λ j. get_or numbers (at + j) 0)
part_places numbers at width within =
    list_of_is (take width (drop at numbers)) width (λ j. get_or numbers (at + j) 0) (length-take-le width (drop at numbers) (simp length-drop (omega arith)))
    (part_at width numbers at)

module _ {A : Type 0} (width : ℕ) (of : List ℕ → A) (Some-number : 0 < width) where
  -- If the list has a whole record at its front, its records are that one and those of the rest.
  records_cons : (numbers : List ℕ) → width ≤ length numbers → records_of width of numbers ≡ of (take width numbers) ∷ records_of width of (drop width numbers)
  unfolding records_of first_records
  records_cons numbers h =
      let rest : length numbers - width ≡ length (drop width numbers) = simp length-drop in
      let one_more : length numbers / width ≡ suc (length (drop width numbers) / width) =
      div-eq-sub-div Some-number h ∙ ap (λ (n : ℕ). n / width + 1) rest ∙ add-one (length (drop width numbers) / width) in
      ap (λ (count : ℕ). first_records count width of numbers) one_more

  -- If a whole record stands from place `at` on, it is the next one, and the others come from place `at` + `width` on.
  pub records_step : (numbers : List ℕ) (at : ℕ) → at + width ≤ length numbers
      → records_of width of (drop at numbers) ≡ of (take width (drop at numbers)) ∷ records_of width of (drop (at + width) numbers)
  records_step numbers at h =
      records_cons (drop at numbers) (simp length-drop (omega arith))
      ∙ ap (λ (l : List ℕ). of (take width (drop at numbers)) ∷ records_of width of l) (drop-drop width at numbers)

  -- If fewer than `width` numbers stand from place `at` on, there is no record.
  pub records_end : (numbers : List ℕ) (at : ℕ) → length numbers < at + width → records_of width of (drop at numbers) ≡ []
  unfolding records_of first_records
  records_end numbers at h =
      let few : length (drop at numbers) < width = simp length-drop (omega arith) in
      ap (λ (count : ℕ). first_records count width of (drop at numbers)) (div-eq_of_lt few)

  -- The number of records is the number of numbers divided by `width`, rounded down.
  pub records_length : (numbers : List ℕ) → length (records_of width of numbers) ≡ length numbers / width
  unfolding records_of first_records
  records_length numbers = first_length (length numbers / width) numbers
    where
      first_length : (count : ℕ) (numbers : List ℕ) → length (first_records count width of numbers) ≡ count
      first_length zero numbers = refl
      first_length (suc count) numbers = ap suc (first_length count (drop width numbers))

  -- Records laid out and read again: if each has `width` numbers, reading gives `of` of each one's numbers, in their order.
  pub records_of_each : {B : Type 0} (numbers : B → List ℕ) → ((x : B) → length (numbers x) ≡ width) → (xs : List B)
      → records_of width of (numbers_of_each numbers xs) ≡ map (λ x. of (numbers x)) xs
  unfolding numbers_of_each
  records_of_each numbers each [] = records_end [] 0 (omega arith)
  records_of_each numbers each (x ∷ xs) =
      let rest : List ℕ = numbers_of_each numbers xs in
      records_cons (numbers x ++ rest) (omega (arith, each x, length-append (numbers x) rest))
      ∙ ap₂ (λ (y : A) (ys : List A). y ∷ ys) (ap of (take_at (numbers x) rest width (each x)))
      (ap (records_of width of) (drop_at (numbers x) rest width (each x)) ∙ records_of_each numbers each xs)

  module _ (numbers : A → List ℕ) where
    -- Records laid out and read back are the same records, if each has `width` numbers and is read back as itself.
    pub records_of_words : ((x : A) → length (numbers x) ≡ width) → ((x : A) → of (numbers x) ≡ x) → (xs : List A) → records_of width of (numbers_of_each numbers xs) ≡ xs
    records_of_words each back xs = records_of_each numbers each xs ∙ same xs
      where
        same : (ys : List A) → map (λ x. of (numbers x)) ys ≡ ys
        same [] = refl
        same (y ∷ ys) = ap₂ (λ (z : A) (zs : List A). z ∷ zs) (back y) (same ys)

    -- Numbers read as records and laid out again are the same numbers, if their count is a multiple of `width` and each `width` of them come back as they were.
    pub words_of_records : ((l : List ℕ) → length l ≡ width → numbers (of l) ≡ l) → (l : List ℕ) → length l % width ≡ 0 → numbers_of_each numbers (records_of width of l) ≡ l
    unfolding records_of first_records numbers_of_each
    words_of_records back l whole = first_words (length l / width) l (omega (arith, mod-add-div (length l) width))
      where
        first_words : (count : ℕ) (l : List ℕ) → length l ≡ width * count → numbers_of_each numbers (first_records count width of l) ≡ l
        first_words zero [] e = refl
        first_words zero (x ∷ l) e = absurd (omega (arith, mul-zero width))
        first_words (suc count) l e =
            let long : width ≤ length l = omega (arith, mul-suc width count) in
            ap₂ (λ (a b : List ℕ). a ++ b) (back (take width l) (length-take-le width l long))
            (first_words count (drop width l) (simp length-drop (omega (arith, mul-suc width count))))
            ∙ take-append-drop width l
