-- Document 01's sample of the report program, whole, and samples of our own: refusal 11 at several places, the order of refusals, and the digits of numbers.
-- The checker computes each from the definitions.
use Rattle.std.specs.Prelude.{ℕ, ◌≡◌, refl, List, [], ◌∷◌, ◌++◌, replicate, take}
use Rattle.meaning.specs.Counting.{count, lowest, some_below}
use Rattle.meaning.specs.Meanings.{window, holds_mark, differs, distance, lowest_rotation, rotations_reaching}
use Rattle.meaning.specs.Findings.{found_at, findings_below}
use Rattle.meaning.specs.Stretch.{begins, fits}
use Rattle.meaning.specs.Rules.{read_edge, read_left, read_window, windows_from, candidates_of}
use Rattle.meaning.specs.Looks.{read_looks, tally_looks, verify_looks}
use Rattle.lists.specs.Texts.{ascii}
use Rattle.fields.specs.Numbers.{number_at, bytes_of}
use Rattle.silences.specs.Silences.{is_below, is_same, covers, hides}
use Rattle.fields.specs.Tagged.{is_whole}
use Rattle.silences.specs.Layout.{kind_by_tag}
use Rattle.silences.specs.Reading.{address_at, silence_at, field_by, field_at, fields_from, read_from, book_rows, read_book}
use Rattle.answers.specs.Rows.{first_given}
use Rattle.findings.specs.Admitting.{ring_rows, limit_rows, admit_rows}
use Rattle.outlines.specs.Report.{taken_by, report_rows}
use Rattle.request.specs.Fields.{is_field_at}
use Rattle.request.specs.Input.{first_fault, input_fault, parts_from, request_of, laid_down}
use Rattle.reply.specs.Decimal.{digits_within, decimal}
use Rattle.reply.specs.Lines.{lf, first_line, finding_line, finding_lines, last_line, refusal_line_of}
use Rattle.reply.specs.Answering.{report_lines, request_text, answer_text}

-- The fields of "34 00 04 00 00 00 07 35 00 02 00 02 33 00 01 00 31 00 02 61 61 32 00 03 61 61 61".
unfoldable sample_fields : List ℕ
sample_fields =
    0x34 ∷ 0x00 ∷ 0x04 ∷ 0x00 ∷ 0x00 ∷ 0x00 ∷ 0x07 ∷ 0x35 ∷ 0x00 ∷ 0x02 ∷ 0x00 ∷ 0x02 ∷ 0x33 ∷ 0x00 ∷ 0x01 ∷ 0x00 ∷ 0x31 ∷ 0x00 ∷ 0x02 ∷ 0x61 ∷ 0x61
    ∷ 0x32 ∷ 0x00 ∷ 0x03 ∷ 0x61 ∷ 0x61 ∷ 0x61 ∷ []

-- Then its book: "21 00 0A 00 00 00 07 00 02 00 00 00 01".
unfoldable sample_book : List ℕ
sample_book = 0x21 ∷ 0x00 ∷ 0x0a ∷ 0x00 ∷ 0x00 ∷ 0x00 ∷ 0x07 ∷ 0x00 ∷ 0x02 ∷ 0x00 ∷ 0x00 ∷ 0x00 ∷ 0x01 ∷ []

-- A line of the text: these letters, and LF.
abbrev printed : List ℕ → List ℕ
printed letters = letters ++ lf ∷ []

-- "Output, whole": the text for the sample's input. Document 02, ticket 1, adds the ties to a finding's line.
sample_right : answer_text (sample_fields ++ sample_book)
    ≡ printed (ascii "cell 7 ring 2 edges 2 allow 0") ++ (printed (ascii "0 0 0 2") ++ printed (ascii "found 2 hidden 1 looks 12"))
unfolding sample_fields sample_book ascii answer_text request_of input_fault first_fault parts_from is_field_at number_at request_text report_lines first_line finding_line finding_lines last_line digits_within decimal report_rows ring_rows limit_rows admit_rows holds_mark first_given book_rows read_book read_from fields_from field_at field_by kind_by_tag is_whole address_at silence_at is_below is_same covers hides taken_by findings_below found_at window lowest_rotation rotations_reaching lowest distance count differs read_looks tally_looks verify_looks windows_from candidates_of read_window read_left read_edge begins fits some_below
sample_right = refl

-- The sample's input is this request, laid down.
sample_laid_down : laid_down (record { cell = 7; ring_number = 2; allowance = 0; ring = ascii "aa"; line = ascii "aaa"; book = sample_book }) ≡ sample_fields ++ sample_book
unfolding sample_fields sample_book ascii laid_down bytes_of
sample_laid_down = refl

-- Refusal 11. An empty input: place 0. Cut in its first head, in its first value, behind its first field, within the ring, behind the ring. Another tag first.
-- An input of 32,769 bytes: place 0.
row_11 : (answer_text [] ≡ printed (ascii "refused 11 place 0"))
    × (answer_text (take 2 sample_fields) ≡ printed (ascii "refused 11 place 0"))
    × (answer_text (take 6 sample_fields) ≡ printed (ascii "refused 11 place 0"))
    × (answer_text (take 7 sample_fields) ≡ printed (ascii "refused 11 place 7"))
    × (answer_text (take 20 sample_fields) ≡ printed (ascii "refused 11 place 16"))
    × (answer_text (take 21 sample_fields) ≡ printed (ascii "refused 11 place 21"))
    × (answer_text (0x35 ∷ sample_fields) ≡ printed (ascii "refused 11 place 0"))
    × (answer_text (sample_fields ++ replicate 32742 0x21) ≡ printed (ascii "refused 11 place 0"))
unfolding sample_fields ascii answer_text request_of input_fault first_fault parts_from is_field_at number_at refusal_line_of digits_within decimal
row_11 = (refl, refl, refl, refl, refl, refl, refl, refl)

-- The input of cell 7, ring number 2, this allowance, this ring, a line of `n` edges and no book.
abbrev fields_with : ℕ → List ℕ → ℕ → List ℕ
fields_with k ring n = laid_down (record { cell = 7; ring_number = 2; allowance = k; ring = ring; line = replicate n 0x61; book = [] })

-- "Refusal 11 comes before all others": an empty ring is refused by 1, and by 11 where its line is cut as well; a line of 4,097 edges is wrongly long, so 11 at
-- the offset where its field begins. The empty ring is also 1 before 2, and the fourth sample 2 before 6. "Book places count from the book's first byte": a
-- book of one byte is refused by 6 at place 0, a book whose second field is cut by 6 at place 13, and two equal records by 7 at place 13.
order_of_rows : (answer_text (fields_with 0 [] 3) ≡ printed (ascii "refused 1 place 0"))
    × (answer_text (take 21 (fields_with 0 [] 3)) ≡ printed (ascii "refused 11 place 19"))
    × (answer_text (fields_with 0 (ascii "a") 4097) ≡ printed (ascii "refused 11 place 20"))
    × (answer_text (fields_with 1 (ascii "a") 3 ++ 0x21 ∷ []) ≡ printed (ascii "refused 2 place 0"))
    × (answer_text (sample_fields ++ 0x21 ∷ []) ≡ printed (ascii "refused 6 place 0"))
    × (answer_text (sample_fields ++ (sample_book ++ 0x21 ∷ [])) ≡ printed (ascii "refused 6 place 13"))
    × (answer_text (sample_fields ++ (sample_book ++ sample_book)) ≡ printed (ascii "refused 7 place 13"))
unfolding sample_fields sample_book ascii laid_down bytes_of answer_text request_of input_fault first_fault parts_from is_field_at number_at request_text refusal_line_of digits_within decimal report_rows ring_rows limit_rows admit_rows holds_mark some_below first_given book_rows read_book read_from fields_from field_at field_by kind_by_tag is_whole address_at silence_at is_below
order_of_rows = (refl, refl, refl, refl, refl, refl, refl)

-- Refusal 12, "a ring holding 255" (document 02, ticket 2): the mark is the ring's first edge, its last, its only one. It comes after 11, where the line is cut
-- as well, and "after 1 and before 2": the fourth sample has 257 edges, the last k = m and a book of one byte.
row_12 : (answer_text (fields_with 0 (255 ∷ ascii "a") 3) ≡ printed (ascii "refused 12 place 0"))
    × (answer_text (fields_with 0 (ascii "a" ++ 255 ∷ []) 3) ≡ printed (ascii "refused 12 place 0"))
    × (answer_text (take 22 (fields_with 0 (255 ∷ []) 3)) ≡ printed (ascii "refused 11 place 20"))
    × (answer_text (fields_with 0 (replicate 257 255) 3) ≡ printed (ascii "refused 1 place 0"))
    × (answer_text (fields_with 1 (255 ∷ []) 3 ++ 0x21 ∷ []) ≡ printed (ascii "refused 12 place 0"))
unfolding ascii laid_down bytes_of answer_text request_of input_fault first_fault parts_from is_field_at number_at request_text refusal_line_of digits_within decimal report_rows ring_rows limit_rows admit_rows holds_mark some_below first_given
row_12 = (refl, refl, refl, refl, refl)

-- Digits: no leading zero, and a 0 for zero.
digits_right : (decimal 0 ≡ ascii "0") × (decimal 9 ≡ ascii "9") × (decimal 10 ≡ ascii "10") × (decimal 4096 ≡ ascii "4096") × (decimal 4294967295 ≡ ascii "4294967295")
unfolding ascii digits_within decimal
digits_right = (refl, refl, refl, refl, refl)
