-- Silences and their words determine each other: `silences_of` and `words_of_silences` undo each other, on words whose number is a multiple of 4. A walk through
-- the words meets the silence of the next four (`silences_of_record`), or none (`silences_of_few`). By the laws of records of any width (Records of crates/lists).
-- If the words are 32-bit words and their numbers fit, the silences are in range.
use Prim.Native.Nat.{ℕ, suc, ◌*◌, ◌%◌, ◌<◌}
use mathlib.Core.Path.{◌≡◌, refl, sym, ap, ap₂, ◌∙◌}
use mathlib.Core.List.{List, [], ◌∷◌, ◌++◌}
use native.Mathlib.Omega.{arith}
use lib.ListN.{length, get_or, length-append}
use lib.Seq.{take_at, drop_at}
use Rattle.lists.specs.Bounds.{IsWords}
use Rattle.lists.specs.ByPlace.{list_of}
use Rattle.lists.specs.Records.{numbers_of_each}
use Rattle.lists.proofs.ByPlace.{list_of_is}
use Rattle.lists.proofs.Records.{each_length, records_step, records_end, records_of_words, words_of_records}
use Rattle.silences.specs.Silences.{Silence, AllInRange}
use Rattle.silences.specs.Packing.{silence_words, words_of_silences, record_words, silence_of_words, silences_of}
use Rattle.silences.specs.Faults.{AllFit}

-- Silences have four words each.
pub words_length : (ss : List Silence) → length (words_of_silences ss) ≡ record_words * length ss
words_length = each_length silence_words record_words (λ s. refl)

-- The silences of the words of silences are those silences.
pub silences_of_words : (ss : List Silence) → silences_of (words_of_silences ss) ≡ ss
silences_of_words = records_of_words record_words silence_of_words (omega arith) silence_words (λ s. refl) (λ s. refl)

-- The words of the silences of words are those words, if their number is a multiple of 4.
pub words_of_silences_lem : (words : List ℕ) → length words % record_words ≡ 0 → words_of_silences (silences_of words) ≡ words
unfolding list_of
words_of_silences_lem =
    words_of_records record_words silence_of_words (omega arith) silence_words (λ l long. sym (list_of_is l record_words (λ i. get_or l i 0) long (λ p h. refl)))

-- Words whose number is a multiple of 4 have a fourth as many silences.
pub silences_length : (words : List ℕ) → length words % record_words ≡ 0 → record_words * length (silences_of words) ≡ length words
silences_length words h = sym (words_length (silences_of words)) ∙ ap length (words_of_silences_lem words h)

-- If words begin with the four words of a record, these are the first silence, and the rest follow.
pub silences_of_record : (words four rest : List ℕ) → words ≡ four ++ rest → length four ≡ record_words → silences_of words ≡ silence_of_words four ∷ silences_of rest
silences_of_record words four rest is long =
    ap silences_of is
    ∙ records_step record_words silence_of_words (omega arith) (four ++ rest) 0 (omega (arith, long, length-append four rest))
    ∙ ap₂ (λ (l m : List ℕ). silence_of_words l ∷ silences_of m) (take_at four rest record_words long) (drop_at four rest record_words long)

-- Fewer than four words are no silence.
pub silences_of_few : (words : List ℕ) → length words < record_words → silences_of words ≡ []
silences_of_few words few = records_end record_words silence_of_words (omega arith) words 0 few

-- Silences whose words are 32-bit words are in range, if their numbers fit.
pub silences_in_range : (ss : List Silence) → IsWords (words_of_silences ss) → AllFit ss → AllInRange ss
unfolding numbers_of_each
silences_in_range [] w fit = tt
silences_in_range (s ∷ ss) w fit = (
  record { cell_lt = w.each_lt 0; ring_number_lt = omega (arith, fit.0.ring_number_le); start_lt = w.each_lt 2; ceiling_lt = omega (arith, fit.0.ceiling_le) },
  silences_in_range ss (record { each_lt = λ i. w.each_lt (suc (suc (suc (suc i)))) }) fit.1,
)

-- The numbers of silences in range fit.
pub in_range_fit : (ss : List Silence) → AllInRange ss → AllFit ss
in_range_fit [] h = tt
in_range_fit (s ∷ ss) h =
    (record { ring_number_le = omega (arith, h.0.ring_number_lt); ceiling_le = omega (arith, h.0.ceiling_lt) }, in_range_fit ss h.1)
