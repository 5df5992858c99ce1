-- `outlines_unpack` and `outlines_pack` meet the demands. Both answer by their rows, so demand 1 follows as for every call (RowsAgree). A book is accepted
-- exactly when it lays down silences (`accepted_iff` of crates/silences). Unpacking gives back the words that were packed; packing what was unpacked, up to
-- 1,000 records, gives a book of the same silences.
use Prim.Native.Nat.{ℕ, ◌*◌, ◌≤◌, ◌<◌}
use mathlib.Core.Path.{◌≡◌, refl, sym, ap, subst, ◌∙◌}
use mathlib.Core.Logic.Iff
use mathlib.Core.Logic.{◌↔◌, ◌⊎◌, inl, inr}
use mathlib.Core.List.{List}
use Rattle.std.specs.Prelude.{Option, None, Some}
use native.Mathlib.Omega.{arith}
use lib.ListN.{length, take}
use Rattle.lists.specs.Areas.{written}
use Rattle.lists.specs.Bounds.{IsBytes, IsWords}
use Rattle.lists.proofs.Areas.{written_front}
use Rattle.answers.specs.declared.refusals.Refusal.{Refusal}
use Rattle.answers.specs.declared.refusals.Refusal.TheVariants.{Field, NotAbove, NumberInRecord}
use Rattle.answers.specs.Paper.{Answer, accepted, refused, Paper, answer_paper}
use Rattle.answers.specs.Rows.{first_given, answer_by, area_by}
use Rattle.answers.proofs.OneAnswer.{number_in}
use Rattle.answers.proofs.AnswerCases.{accepted_unique}
use Rattle.silences.specs.Silences.{Silence}
use Rattle.silences.specs.Layout.{packed_length, layout, most_silences}
use Rattle.silences.specs.Books.{IsBook}
use Rattle.silences.specs.Reading.{silences_read, book_rows, read_book}
use Rattle.silences.specs.Packing.{record_words, silences_of, words_of_silences, area_at_exit, room_row, pack_rows, pack_refusal, packed, unpack_rows, unpack_refusal, unpacked}
use Rattle.silences.specs.Faults.{IsPackable}
use Rattle.silences.proofs.LayoutRead.{layout_length}
use Rattle.silences.proofs.AcceptedIsBook.{book_accepted, accepted_iff, book_silences_unique}
use Rattle.silences.proofs.RoundTrips.{packable_book, few_packable, few_book, laid_layout}
use Rattle.silences.proofs.WordsOfSilences.{words_length, words_of_silences_lem, silences_of_words}
use Rattle.silences.proofs.BookRows.{is_row_5, fault_has, fault_6_iff, fault_7_iff, book_accepted_iff}
use Rattle.silences.proofs.RecordRows.{records_have, records_9_iff, records_7_iff}
use Rattle.silences.proofs.UnpackRows.{unpacked_accepted_iff}
use Rattle.silences.proofs.PackRows.{is_row_8, is_room_row, packed_accepted_iff}
use Rattle.book.specs.Calls.{records_paper}
use Rattle.outlines.specs.Report.{ReportCounts, no_report_counts}
use Rattle.exports.specs.declared.answering.Answer.{Answer as AnswerStruct}
use Rattle.exports.specs.Exported.{paper_in_struct, one_count_in_struct, IsExported, IsPackExported, IsUnpackExported}
use Rattle.exports.specs.Demands.{row_of, book_table, pack_table, UnpackDemand2, PackDemand2, GivesBack, ReadsBack, UnpackMeets, PackMeets}
use Rattle.exports.proofs.RowsAgree.{Agrees, AllAgree, agree_append, row_agrees, faults_agree, demand_1_met}

-- What an accepted pack or unpack returns and writes, for the records `ss`.
record GivesRecords (output : List Silence → List ℕ) (ss : List Silence) (area : List ℕ) (r : AnswerStruct) (out : List ℕ) : Type 0 where
  accepted_is : r.refusal ≡ 0
  found_is : r.found ≡ length ss
  written_is : out ≡ written (output ss) area

module _ (output : List Silence → List ℕ) (a : Answer (List Silence)) (area : List ℕ) {out : List ℕ} {r : AnswerStruct}
    (e : IsExported (paper_in_struct one_count_in_struct (records_paper a)) (area_at_exit output a area) r out) where
  -- where the definition accepts with silences, the call is accepted, returns their number and writes their output
  gives_records : (ss : List Silence) → a ≡ accepted ss → GivesRecords output ss area r out
  gives_records ss is = record {
    accepted_is = ap (λ (p : Paper ReportCounts). p.number) e.paper ∙ rw is refl;
    found_is = ap (λ (p : Paper ReportCounts). p.counts.found) e.paper ∙ rw is refl;
    written_is = e.written ∙ rw is refl;
  }

  -- where the call is accepted, the definition accepts with some silences
  accepted_has : r.refusal ≡ 0 → (ss : List Silence) × (a ≡ accepted ss)
  accepted_has zero_is = go a refl (sym (ap (λ (p : Paper ReportCounts). p.number) e.paper) ∙ zero_is)
    where
      go : (b : Answer (List Silence)) → a ≡ b → (records_paper b).number ≡ 0 → (ss : List Silence) × (a ≡ accepted ss)
      go (accepted ss) is z = (ss, is)
      go (refused q) is z = absurd (omega (arith, (number_in q).0))

module _ (book area : List ℕ) {out : List ℕ} {r : AnswerStruct} (bytes : IsBytes book) (e : IsUnpackExported book area r out) where
  -- a book of silences is unpacked where there is room
  book_given : (ss : List Silence) → IsBook ss book → length (words_of_silences ss) ≤ length area → GivesRecords words_of_silences ss area r out
  book_given ss is_book room = gives_records words_of_silences (unpacked book (length area)) area e ss ((unpacked_accepted_iff book (length area) ss).1 (book_accepted book ss is_book, omega (arith, words_length ss, room)))

  -- a book that is unpacked is a book of silences, and there was room
  unpacked_has : r.refusal ≡ 0 → (ss : List Silence) × IsBook ss book × (length (words_of_silences ss) ≤ length area)
  unpacked_has zero_is =
      let h = accepted_has words_of_silences (unpacked book (length area)) area e zero_is in
      let b = (unpacked_accepted_iff book (length area) h.0).0 h.1 in
      (h.0, (accepted_iff book h.0 bytes).0 b.0, omega (arith, words_length h.0, b.1))

  -- a book has one list of silences only, so any list that it is a book of is the one unpacked
  the_book : (ss : List Silence) → IsBook ss book → r.refusal ≡ 0 → GivesRecords words_of_silences ss area r out
  the_book ss is_book zero_is =
      let h = unpacked_has zero_is in
      let same : h.0 ≡ ss = book_silences_unique h.0 ss book h.1 is_book in
      book_given ss is_book (subst (λ (l : List Silence). length (words_of_silences l) ≤ length area) same h.2)

  -- `outlines_unpack` meets demand 2.
  unpack_demand_2 : UnpackDemand2 book area r out
  unpack_demand_2 = record {
    accepted_iff = (unpacked_has, λ h. (book_given h.0 h.1 h.2).accepted_is);
    found_is = λ ss is_book zero_is. (the_book ss is_book zero_is).found_is;
    words_are = λ ss is_book zero_is. (the_book ss is_book zero_is).written_is;
  }

module _ (words area : List ℕ) {out : List ℕ} {r : AnswerStruct} (are_words : IsWords words) (e : IsPackExported words area r out) where
  -- words that can be packed are packed where there is room
  words_given : IsPackable words → length (layout (silences_of words)) ≤ length area → GivesRecords layout (silences_of words) area r out
  words_given can room = gives_records layout (packed words (length area)) area e (silences_of words) ((packed_accepted_iff words (length area) (silences_of words)).1 (can, refl, room))

  -- words that are packed can be packed, and there was room
  packed_has : r.refusal ≡ 0 → IsPackable words × (length (layout (silences_of words)) ≤ length area)
  packed_has zero_is =
      let h = accepted_has layout (packed words (length area)) area e zero_is in
      let p = (packed_accepted_iff words (length area) h.0).0 h.1 in
      (p.0, subst (λ (l : List Silence). length (layout l) ≤ length area) p.1 p.2)

  -- `outlines_pack` meets demand 2.
  pack_demand_2 : PackDemand2 words area r out
  pack_demand_2 = record {
    accepted_iff = (packed_has, λ h. (words_given h.0 h.1).accepted_is);
    found_is = λ zero_is. let h = packed_has zero_is in (words_given h.0 h.1).found_is;
    book_is = λ zero_is. packable_book words are_words (packed_has zero_is).0;
    bytes_are = λ zero_is. let h = packed_has zero_is in (words_given h.0 h.1).written_is;
  }

-- The book that an accepted `outlines_pack` wrote, unpacked with room for its words, gives the words back.
pub pack_unpack : (words area : List ℕ) {out : List ℕ} {r : AnswerStruct} → IsWords words → IsPackExported words area r out → r.refusal ≡ 0
    → (area' : List ℕ) {out' : List ℕ} {r' : AnswerStruct} → length words ≤ length area' → IsUnpackExported (take (length (layout (silences_of words))) out) area' r' out'
    → GivesBack words r r' out'
pack_unpack words area {out} {r} are_words e zero_is area' {out'} {r'} room e' =
    let ss : List Silence = silences_of words in
    let packs = pack_demand_2 words area are_words e in
    let front : take (length (layout ss)) out ≡ layout ss = written_front (layout ss) area (packs.bytes_are zero_is) (length (layout ss)) refl in
    let back : words_of_silences ss ≡ words = words_of_silences_lem words (packs.accepted_iff.0 zero_is).0.word_count.multiple in
    let unpacks : IsUnpackExported (layout ss) area' r' out' = subst (λ (b : List ℕ). IsUnpackExported b area' r' out') front e' in
    let given = gives_records words_of_silences (unpacked (layout ss) (length area')) area' unpacks ss ((unpacked_accepted_iff (layout ss) (length area') ss).1
    (book_accepted (layout ss) ss (packs.book_is zero_is), omega (arith, room, ap length back, words_length ss))) in
    record {
      accepted = given.accepted_is;
      found_is = given.found_is ∙ sym (packs.found_is zero_is);
      front_is = written_front (words_of_silences ss) area' given.written_is (length words) (ap length back) ∙ back;
    }

-- The words that an accepted `outlines_unpack` of at most 1,000 records wrote, packed with room, give a book of the same silences, and the same bytes where tag
-- 21 is absent.
pub unpack_pack : (book area : List ℕ) {out : List ℕ} {r : AnswerStruct} → IsBytes book → IsUnpackExported book area r out → r.refusal ≡ 0 → r.found ≤ most_silences
    → (area' : List ℕ) {out' : List ℕ} {r' : AnswerStruct} → packed_length * r.found ≤ length area' → IsPackExported (take (record_words * r.found) out) area' r' out'
    → ReadsBack book r r' out'
unpack_pack book area {out} {r} bytes e zero_is few area' {out'} {r'} room e' =
    let has = unpacked_has book area bytes e zero_is in
    let ss : List Silence = has.0 in
    let was = the_book book area bytes e ss has.1 zero_is in
    let long : length (words_of_silences ss) ≡ record_words * r.found = words_length ss ∙ ap (λ (n : ℕ). record_words * n) (sym was.found_is) in
    let front : take (record_words * r.found) out ≡ words_of_silences ss = written_front (words_of_silences ss) area was.written_is (record_words * r.found) long in
    let packs : IsPackExported (words_of_silences ss) area' r' out' = subst (λ (w : List ℕ). IsPackExported w area' r' out') front e' in
    let few_read : length ss ≤ most_silences = omega (arith, was.found_is) in
    let given = gives_records layout (packed (words_of_silences ss) (length area')) area' packs ss ((packed_accepted_iff (words_of_silences ss) (length area') ss).1
    (few_packable ss book has.1 few_read, sym (silences_of_words ss), omega (arith, layout_length ss, was.found_is))) in
    record {
      accepted = given.accepted_is;
      found_is = given.found_is ∙ sym was.found_is;
      silences = ss;
      was_book = has.1;
      front = layout ss;
      front_length = omega (arith, layout_length ss, given.found_is);
      front_is = written_front (layout ss) area' given.written_is (length (layout ss)) refl;
      is_book = few_book ss book has.1 few_read;
      same_bytes = λ laid. sym (laid_layout laid);
    }

-- the paper of pack and unpack in the struct, by the first row that is given
records_by : (o : Option Refusal) (ss : List Silence)
    → paper_in_struct one_count_in_struct (records_paper (answer_by o ss)) ≡ answer_paper no_report_counts (answer_by o (one_count_in_struct (length ss)))
records_by None ss = refl
records_by (Some q) ss = refl

-- the area at exit of pack and unpack, by the first row that is given
area_by_lem : (output : List Silence → List ℕ) (o : Option Refusal) (ss : List Silence) (area : List ℕ)
    → area_at_exit output (answer_by o ss) area ≡ area_by o (written (output ss) area) area
area_by_lem output None ss area = refl
area_by_lem output (Some q) ss area = refl

-- For a book of bytes, its rows agree with those of the page of demands: 5, then the first faulty field.
pub book_agrees : (book : List ℕ) → IsBytes book → AllAgree (book_rows book) (book_table book)
unfolding book_rows
book_agrees book bytes = (
  row_agrees (is_row_5 book) refl,
  λ _. (
    faults_agree Field NotAbove (λ p. (refl, refl)) (λ p. (refl, refl)) (fault_6_iff book bytes) (fault_7_iff book bytes)
        (fault_has book (λ (q : Refusal). ((p : ℕ) × (q ≡ Field p)) ⊎ ((p : ℕ) × (q ≡ NotAbove p))) (λ at. inl (at, refl)) (λ at. inr (at, refl))),
    λ _. tt,
  ),
)

module _ (book area : List ℕ) {out : List ℕ} {r : AnswerStruct} (bytes : IsBytes book) (e : IsUnpackExported book area r out) where
  -- row 10 agrees where no row of the book is given: the bytes are a book then, and its words lack room
  room_agrees : first_given (book_rows book) ≡ None
      → Agrees (room_row (words_of_silences (silences_read book)) (length area)) (row_of 10 ((ss : List Silence) × IsBook ss book × (length area < length (words_of_silences ss))))
  room_agrees none_given number place =
      let read : read_book book ≡ accepted (silences_read book) = (book_accepted_iff book (silences_read book)).1 (none_given, refl) in
      let there : (length area < length (words_of_silences (silences_read book))) ↔ ((ss : List Silence) × IsBook ss book × (length area < length (words_of_silences ss))) = (
        λ short. (silences_read book, (accepted_iff book (silences_read book) bytes).0 read, short),
        λ h. subst (λ (l : List Silence). length area < length (words_of_silences l)) (accepted_unique (book_accepted book h.0 h.1) read) h.2,
      ) in
      let plain = row_agrees (is_room_row (words_of_silences (silences_read book)) (length area)) refl number place in
      Iff.trans (λ h. (h.0, h.1, there.1 h.2), λ h. (h.0, h.1, there.0 h.2)) plain

  -- `outlines_unpack` meets the demands, for a book of bytes.
  pub unpack_meets : UnpackMeets book area r out
  unfolding unpacked unpack_rows
  unpack_meets = record {
    demand_1 =
        demand_1_met
        (agree_append (book_rows book) (book_table book) _ _ (book_agrees book bytes) (λ none_given. (room_agrees none_given, λ _. tt)))
        (record {
          paper = e.paper ∙ records_by (unpack_refusal book (length area)) (silences_read book);
          written = e.written ∙ area_by_lem words_of_silences (unpack_refusal book (length area)) (silences_read book) area;
        });
    demand_2 = unpack_demand_2 book area bytes e;
  }

-- the rows of packing agree with those of the page: 8, then the first faulty record, then 10
pack_agrees : (words : List ℕ) (room : ℕ) → AllAgree (pack_rows words room) (pack_table words room)
unfolding pack_rows
pack_agrees words room = (
  row_agrees (is_row_8 words room) refl,
  λ _. (
    faults_agree NumberInRecord NotAbove (λ p. (refl, refl)) (λ p. (refl, refl)) (records_9_iff words) (records_7_iff words)
        (records_have words (λ (q : Refusal). ((p : ℕ) × (q ≡ NumberInRecord p)) ⊎ ((p : ℕ) × (q ≡ NotAbove p))) (λ j. inl (j, refl)) (λ j. inr (j, refl))),
    λ _. (row_agrees (is_room_row (layout (silences_of words)) room) refl, λ _. tt),
  ),
)

-- `outlines_pack` meets the demands, for 32-bit words.
pub pack_meets : (words area : List ℕ) {out : List ℕ} {r : AnswerStruct} → IsWords words → IsPackExported words area r out → PackMeets words area r out
unfolding packed
pack_meets words area are_words e = record {
  demand_1 = demand_1_met (pack_agrees words (length area)) (record {
    paper = e.paper ∙ records_by (pack_refusal words (length area)) (silences_of words);
    written = e.written ∙ area_by_lem layout (pack_refusal words (length area)) (silences_of words) area;
  });
  demand_2 = pack_demand_2 words area are_words e;
}
