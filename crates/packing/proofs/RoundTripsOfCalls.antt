-- Round trips, for any answers that meet the contracts. If `pack` accepts words and `unpack` is given the book that it wrote, with room, then `unpack` accepts
-- and writes those words (`pack_unpack`). If `unpack` accepts a book of at most 1,000 records and `pack` is given the words that it wrote, with room, then
-- `pack` accepts and writes a book of the same silences, and the same bytes where tag 21 is absent (`unpack_pack`). Both return the same number of records. Of
-- more records `pack` refuses the words by row 8 (`unpack_pack_many`). By RoundTrips of crates/silences; what an accepted call returns and writes is proved
-- once for both calls (`gives_records`, `gave`).
use Prim.Native.Nat.{ℕ, ◌*◌, ◌≤◌, ◌<◌}
use mathlib.Core.Path.{◌≡◌, refl, sym, ap, ◌∙◌}
use mathlib.Core.List.{List}
use Rattle.std.specs.Prelude.{Option, Some}
use native.Mathlib.Omega.{arith}
use lib.ListN.{length, take}
use Rattle.lists.specs.Bounds.{IsBytes, IsWords}
use Rattle.answers.specs.declared.refusals.Refusal.{Refusal}
use Rattle.answers.specs.declared.refusals.Refusal.TheVariants.{WordCount}
use Rattle.answers.specs.Paper.{accepted}
use Rattle.answers.specs.Rows.{answer_by}
use Rattle.answers.proofs.AnswerByRows.{answer_gives_iff}
use Rattle.silences.specs.Silences.{Silence}
use Rattle.silences.specs.Layout.{packed_length, layout, most_silences}
use Rattle.silences.specs.Reading.{silences_read, read_book}
use Rattle.silences.specs.Packing.{words_of_silences, record_words, silences_of, area_at_exit, pack_refusal, packed, unpack_refusal, unpacked}
use Rattle.silences.specs.Books.{LaidDown, NoTag21}
use Rattle.silences.proofs.LayoutRead.{layout_length}
use Rattle.silences.proofs.WordsOfSilences.{words_length}
use Rattle.silences.proofs.AreaAtExit.{area_front}
use Rattle.silences.proofs.RoundTrips.{packed_unpacked, packed_words_are, unpacked_packed, many_refused, unpacked_read_back, unpacked_bytes}
use Rattle.silences.proofs.UnpackRows.{unpacked_accepted_iff}
use Rattle.std.specs.Prelude.{Result}
use Rattle.std.specs.Prelude.{Ok, Err}
use Rattle.book.specs.Calls.{paper_of, records_paper, IsUnpacked}
use Rattle.book.proofs.RowNumbers.{records_iff}
use Rattle.book.proofs.OneAnswer.{paper_unique}
use Rattle.packing.specs.Calls.{IsPacked}

module _ (output : List Silence → List ℕ) (each : ℕ) (length_is : (ss : List Silence) → length (output ss) ≡ each * length ss) (o : Option Refusal)
    (ss : List Silence) (area : List ℕ) (n : ℕ) (out : List ℕ) (wrote : out ≡ area_at_exit output (answer_by o ss) area) where
  -- if the definition gives n silences, the call returns n records, and the area at exit begins with their output
  gives_records : (ts : List Silence) → answer_by o ss ≡ accepted ts → length ts ≡ n → (r : Result ℕ Refusal) → paper_of r ≡ records_paper (answer_by o ss)
      → (r ≡ Ok n) × (take (each * n) out ≡ output ts)
  gives_records ts is records_is r paper =
      let given = (answer_gives_iff ss ts o).0 is in (
        (records_iff o ss r paper n).1 (given.0, ap length given.1 ∙ records_is),
        ap (take (each * n)) wrote ∙ area_front output area (answer_by o ss) ts (each * n) is (length_is ts ∙ ap (λ (i : ℕ). each * i) records_is),
      )

  -- if the call returned n records, the definition gives n silences, and the area at exit begins with their output
  gave : paper_of (Ok n) ≡ records_paper (answer_by o ss) → (answer_by o ss ≡ accepted ss) × (length ss ≡ n) × (take (each * n) out ≡ output ss)
  gave paper =
      let has = (records_iff o ss (Ok n) paper n).0 refl in
      let is = (answer_gives_iff ss ss o).1 (has.0, refl) in
      (is, has.1, (gives_records ss is has.1 (Ok n) paper).1)

-- If `pack` returned n records, `unpack` with room, given the 15·n bytes that `pack` wrote, returns n records and writes the same words.
pub pack_unpack : (words area : List ℕ) (n : ℕ) (out : List ℕ) → IsWords words → IsPacked words area (Ok n) out
    → (area' : List ℕ) (r : Result ℕ Refusal) (out' : List ℕ) → record_words * n ≤ length area' → IsUnpacked (take (packed_length * n) out) area' r out'
    → (r ≡ Ok n) × (take (record_words * n) out' ≡ words)
unfolding packed unpacked
pack_unpack words area n out are_words pack area' r out' room unpack =
    let ss : List Silence = silences_of words in
    let book : List ℕ = take (packed_length * n) out in
    let was = gave layout packed_length layout_length (pack_refusal words (length area)) ss area n out pack.written pack.paper in
    let words_are : words_of_silences ss ≡ words = packed_words_are words (length area) ss was.0 in
    let enough : length words ≤ length area' = omega (arith, ap length words_are, words_length ss, was.1) in
    let accepts : unpacked book (length area') ≡ accepted ss =
    ap (λ (b : List ℕ). unpacked b (length area')) was.2 ∙ packed_unpacked words (length area) (length area') ss are_words was.0 enough in
    let back =
    gives_records words_of_silences record_words words_length (unpack_refusal book (length area')) (silences_read book) area' n out' unpack.written ss accepts was.1 r
    unpack.paper in
    (back.0, back.1 ∙ words_are)

-- If `unpack` returned n records, at most 1,000, `pack` with room, given the 4·n words that `unpack` wrote, returns n records, and the 15·n bytes that it
-- writes read back as the same silences. They are the same bytes if the book has no field of tag 21.
pub unpack_pack : (book area : List ℕ) (n : ℕ) (out : List ℕ) → IsBytes book → IsUnpacked book area (Ok n) out → n ≤ most_silences
    → (area' : List ℕ) (r : Result ℕ Refusal) (out' : List ℕ) → packed_length * n ≤ length area' → IsPacked (take (record_words * n) out) area' r out'
    → (r ≡ Ok n) × (read_book (take (packed_length * n) out') ≡ read_book book) × (LaidDown NoTag21 (silences_read book) book → take (packed_length * n) out' ≡ book)
unfolding packed unpacked
unpack_pack book area n out are_bytes unpack few area' r out' room pack =
    let ss : List Silence = silences_read book in
    let words : List ℕ = take (record_words * n) out in
    let was = gave words_of_silences record_words words_length (unpack_refusal book (length area)) ss area n out unpack.written unpack.paper in
    let enough : length (layout ss) ≤ length area' = omega (arith, layout_length ss, was.1) in
    let few_read : length ss ≤ most_silences = omega (arith, was.1) in
    let accepts : packed words (length area') ≡ accepted ss =
    ap (λ (l : List ℕ). packed l (length area')) was.2 ∙ unpacked_packed book are_bytes (length area) ss was.0 few_read (length area') enough in
    let back =
    gives_records layout packed_length layout_length (pack_refusal words (length area')) (silences_of words) area' n out' pack.written ss accepts was.1 r pack.paper in
    let reads_back = unpacked_read_back book are_bytes (length area) ss was.0 few_read in
    let reads : read_book book ≡ accepted ss = ((unpacked_accepted_iff book (length area) ss).0 was.0).0 in
    (back.0, ap read_book back.1 ∙ reads_back ∙ sym reads, λ laid. back.1 ∙ unpacked_bytes book are_bytes (length area) ss was.0 laid)

-- If `unpack` returned more than 1,000 records, `pack`, given the words that it wrote, refuses them by row 8.
pub unpack_pack_many : (book area : List ℕ) (n : ℕ) (out : List ℕ) → IsUnpacked book area (Ok n) out → most_silences < n
    → (area' : List ℕ) (r : Result ℕ Refusal) (out' : List ℕ) → IsPacked (take (record_words * n) out) area' r out' → r ≡ Err WordCount
unfolding packed unpacked
unpack_pack_many book area n out unpack many area' r out' pack =
    let ss : List Silence = silences_read book in
    let words : List ℕ = take (record_words * n) out in
    let was = gave words_of_silences record_words words_length (unpack_refusal book (length area)) ss area n out unpack.written unpack.paper in
    let refuses : pack_refusal words (length area') ≡ Some WordCount =
    ap (λ (l : List ℕ). pack_refusal l (length area')) was.2 ∙ many_refused ss (omega (arith, was.1)) (length area') in
    paper_unique r (Err WordCount) (pack.paper ∙ ap (λ (o : Option Refusal). records_paper (answer_by o (silences_of words))) refuses)
