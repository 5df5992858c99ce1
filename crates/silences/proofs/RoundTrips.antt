-- Round trips of the definitions. Words that packing accepts come back from unpacking, word for word: what packing writes is a book of their silences
-- (AcceptedIsBook), which have the words (WordsOfSilences). A book of at most 1,000 records that unpacking accepts comes back from packing as a book of the
-- same silences, and as the same bytes if it has no field of tag 21. The words of a longer book are refused by row 8.
use Prim.Native.Nat.{ℕ, ◌*◌, ◌≤◌, ◌<◌}
use mathlib.Core.Logic.{◌⊎◌, inl, inr}
use mathlib.Core.Path.{◌≡◌, refl, sym, ap, ap₂, subst, ◌∙◌}
use mathlib.Core.List.{List, ◌++◌}
use Rattle.std.specs.Prelude.{Some}
use native.Mathlib.Omega.{arith}
use lib.ListN.{length}
use Rattle.answers.specs.declared.refusals.Refusal.TheVariants.{WordCount}
use Rattle.answers.specs.Paper.{accepted}
use Rattle.silences.specs.Silences.{Silence, AllInRange, Ascending}
use Rattle.silences.specs.Layout.{exact_tag, exact_kind, ceiling_tag, ceiling_kind, value_of, packed_tag, packed_kind, field_of, layout, most_silences}
use Rattle.silences.specs.Reading.{read_book}
use Rattle.silences.specs.Packing.{words_of_silences, silences_of, record_words, pack_refusal, packed, unpacked}
use Rattle.lists.specs.Bounds.{IsBytes, IsWords}
use Rattle.lists.specs.Records.{numbers_of_each}
use Rattle.fields.specs.Tagged.{field}
use Rattle.silences.specs.Books.{LaidDown, no_field, one_field, NoTag21, IsBook}
use Rattle.silences.specs.Faults.{AllFit, IsPackable}
use Rattle.silences.proofs.FieldTest.{kind_cases}
use Rattle.silences.proofs.LayoutRead.{layout_length, layout_laid_down}
use Rattle.silences.proofs.AcceptedIsBook.{book_accepted, accepted_iff}
use Rattle.silences.proofs.WordsOfSilences.{words_length, silences_of_words, words_of_silences_lem, silences_length, silences_in_range, in_range_fit}
use Rattle.silences.proofs.UnpackRows.{unpacked_accepted_iff}
use Rattle.silences.proofs.PackRows.{pack_8_iff, packed_accepted_iff}

-- If the words can be packed, what packing writes is a book of their silences.
pub packable_book : (words : List ℕ) → IsWords words → IsPackable words → IsBook (silences_of words) (layout (silences_of words))
packable_book words w p =
    let ss : List Silence = silences_of words in
    let in_range : AllInRange ss = silences_in_range ss (subst IsWords (sym (words_of_silences_lem words p.word_count.multiple)) w) p.all_fit in
    record {
      laid_down = layout_laid_down tt ss in_range;
      in_range = in_range;
      ascending = p.ascending;
      length_le = omega (arith, layout_length ss, silences_length words p.word_count.multiple, p.word_count.words_le);
    }

module _ (ss : List Silence) (book : List ℕ) (b : IsBook ss book) where
  -- The words of a book's silences can be packed, if these are at most 1,000.
  pub few_packable : length ss ≤ most_silences → IsPackable (words_of_silences ss)
  few_packable few =
      let same : ss ≡ silences_of (words_of_silences ss) = sym (silences_of_words ss) in
      record {
        word_count = record { multiple = omega (arith, words_length ss); words_le = omega (arith, words_length ss) };
        all_fit = subst AllFit same (in_range_fit ss b.in_range);
        ascending = subst Ascending same b.ascending;
      }

  -- What packing writes for a book's silences is a book of the same silences, if these are at most 1,000.
  pub few_book : length ss ≤ most_silences → IsBook ss (layout ss)
  few_book few =
      record { laid_down = layout_laid_down tt ss b.in_range; in_range = b.in_range; ascending = b.ascending; length_le = omega (arith, layout_length ss) }

-- If packing the words gives `ss`, unpacking the layout of `ss` gives `ss`, given room for as many words.
pub packed_unpacked : (words : List ℕ) (room room' : ℕ) (ss : List Silence) → IsWords words → packed words room ≡ accepted ss → length words ≤ room'
    → unpacked (layout ss) room' ≡ accepted ss
packed_unpacked words room room' ss w e fits =
    let a : IsPackable words × (ss ≡ silences_of words) × (length (layout ss) ≤ room) = (packed_accepted_iff words room ss).0 e in
    let b : IsBook ss (layout ss) = subst (λ (l : List Silence). IsBook l (layout l)) (sym a.1) (packable_book words w a.0) in
    let words_are : record_words * length (silences_of words) ≡ length words = silences_length words a.0.word_count.multiple in
    (unpacked_accepted_iff (layout ss) room' ss).1 (book_accepted (layout ss) ss b, omega (arith, words_length ss, ap (λ (l : List Silence). length l) a.1))

-- If packing the words gives `ss`, the words of `ss` are those words.
pub packed_words_are : (words : List ℕ) (room : ℕ) (ss : List Silence) → packed words room ≡ accepted ss → words_of_silences ss ≡ words
packed_words_are words room ss e =
    let a : IsPackable words × (ss ≡ silences_of words) × (length (layout ss) ≤ room) = (packed_accepted_iff words room ss).0 e in
    ap words_of_silences a.1 ∙ words_of_silences_lem words a.0.word_count.multiple

-- Bytes that lay down silences without tag 21 are what packing writes for them.
pub laid_layout : {ss : List Silence} {book : List ℕ} → LaidDown NoTag21 ss book → book ≡ layout ss
unfolding numbers_of_each field_of
laid_layout no_field = refl
laid_layout (one_field {tag = tag} {s = s} {here = here} not_exact f more) =
    ap₂ (λ (a b : List ℕ). a ++ b) (f.bytes_are ∙ own (kind_cases tag f.kind f.kind_is)) (laid_layout more)
  where
    own : ((tag ≡ exact_tag) × (f.kind ≡ exact_kind)) ⊎ ((tag ≡ ceiling_tag) × (f.kind ≡ ceiling_kind))
        → field tag (value_of f.kind s) ≡ field packed_tag (value_of packed_kind s)
    own (inl is) = absurd (not_exact is.0)
    own (inr is) = λ i. field (is.0 i) (value_of (is.1 i) s)

-- Packing refuses the words of more than 1,000 silences by row 8, whatever the room is.
pub many_refused : (ss : List Silence) → most_silences < length ss → (room : ℕ) → pack_refusal (words_of_silences ss) room ≡ Some WordCount
many_refused ss many room = (pack_8_iff (words_of_silences ss) room).1 (inr (omega (arith, words_length ss)))

module _ (book : List ℕ) (bytes : IsBytes book) (room : ℕ) (ss : List Silence) (e : unpacked book room ≡ accepted ss) where
  -- What unpacking accepts is a book.
  pub unpacked_book : IsBook ss book
  unpacked_book = (accepted_iff book ss bytes).0 ((unpacked_accepted_iff book room ss).0 e).0

  -- If unpacking a book gives at most 1,000 silences, packing their words gives them, given room.
  pub unpacked_packed : length ss ≤ most_silences → (room' : ℕ) → length (layout ss) ≤ room' → packed (words_of_silences ss) room' ≡ accepted ss
  unpacked_packed few room' fits =
      (packed_accepted_iff (words_of_silences ss) room' ss).1
      (few_packable ss book unpacked_book few, sym (silences_of_words ss), fits)

  -- If unpacking a book gives at most 1,000 silences, what packing writes for them reads back as the same silences.
  pub unpacked_read_back : length ss ≤ most_silences → read_book (layout ss) ≡ accepted ss
  unpacked_read_back few = book_accepted (layout ss) ss (few_book ss book unpacked_book few)

  -- If a book without tag 21 lays down the silences that unpacking gives, what packing writes for them is that book.
  pub unpacked_bytes : LaidDown NoTag21 ss book → layout ss ≡ book
  unpacked_bytes laid = sym (laid_layout laid)
