-- The loop of `put_records`, which writes the words of an accepted book. Before the field at `at` the words of the records before it stand in the area, up to
-- `to`, and the fields of the others stand from `at` on (`FieldsRead`), to the book's end. So a whole field is the next of them, and there is room for its words;
-- and where no whole field stands, all words are written.
use Prim.Native.Nat.{ℕ, ◌+◌, ◌*◌, ◌≤◌}
use mathlib.Core.Path.{◌≡◌, refl, sym, ap, ap₂, ◌∙◌}
use mathlib.Core.List.{List, [], ◌∷◌, ◌++◌, append-nil, append_assoc}
use Rattle.std.specs.Prelude.{Option, None, Some}
use native.Mathlib.Nat.{zero-add}
use native.Mathlib.Omega.{arith}
use lib.ListN.{length, length-append}
use Rattle.lists.specs.Areas.{written, written_at}
use Rattle.lists.specs.Records.{numbers_of_each}
use Rattle.lists.proofs.Areas.{written_length, written_at_append}
use Rattle.lists.proofs.Records.{each_more}
use Rattle.answers.specs.Paper.{Answer, accepted}
use Rattle.silences.specs.Silences.{Address, Silence}
use Rattle.silences.specs.Reading.{whole, faulty, field_at, read_book, book_refusal, silences_read}
use Rattle.silences.specs.Packing.{silence_words, words_of_silences, record_words, area_at_exit}
use Rattle.silences.proofs.BookRows.{book_accepted_iff}
use Rattle.silences.proofs.FieldTest.{faulty_not_whole, whole_silence_unique, whole_next_unique, field_ends}
use Rattle.silences.proofs.FieldsRead.{FieldsRead, none_read, one_read}
use Rattle.silences.proofs.AcceptedIsBook.{IsReadWhole, accepted_whole_iff}

-- the silence `s` is the first of `ss`, which are read to the book's end, and the others are read from `next` on
record IsFirst (book : List ℕ) (ss : List Silence) (stop : ℕ) (s : Silence) (next : ℕ) : Type 0 where
  pub others : List Silence
  pub fields : FieldsRead book (Some s.address) next others stop
  pub all_is : ss ≡ s ∷ others

-- a whole field is the first of those that are read from there to the book's end
whole_is_first : {book : List ℕ} {last : Option Address} {at stop : ℕ} {ss : List Silence} {s : Silence} {next : ℕ} → FieldsRead book last at ss stop
    → length book ≤ stop → whole s next ≡ field_at book at → IsFirst book ss stop s next
whole_is_first {book = book} {at = at} {s = s} {next = next} none_read end is = absurd (omega (arith, field_ends book at s next (sym is)))
whole_is_first {s = s} {next = next} (one_read {s = t} {next = n} {ss = others} e above more) end is =
    let same : whole t n ≡ whole s next = sym e ∙ sym is in
    let first_is : t ≡ s = whole_silence_unique same in
    let next_is : n ≡ next = whole_next_unique same in
    record { others = others; fields = rw (first_is, next_is) at more; all_is = ap (λ (f : Silence). f ∷ others) first_is }

-- where no whole field stands, none is left
faulty_is_last : {book : List ℕ} {last : Option Address} {at stop : ℕ} {ss : List Silence} → FieldsRead book last at ss stop → faulty ≡ field_at book at → ss ≡ []
faulty_is_last none_read is = refl
faulty_is_last (one_read e above more) is = absurd (faulty_not_whole (is ∙ e))

-- with a written at the beginning, writing b right behind it gives the area with a ++ b written
written_behind : (a b area : List ℕ) → length a ≤ length area → written_at (length a) b (written a area) ≡ written (a ++ b) area
unfolding written_at
written_behind a b area room = rw zero-add at (written_at_append 0 a b area (omega arith))

-- The invariant: the words of the records before the field at `at` are written, up to `to`, and the fields of the others stand from `at` to the book's end.
pub record PutSoFar (book area words : List ℕ) (at to : ℕ) : Type 0 where
  pub last : Option Address
  pub put : List Silence
  pub others : List Silence
  pub stop : ℕ
  pub fields : FieldsRead book last at others stop
  pub stop_ge : length book ≤ stop
  pub all_is : read_book book ≡ accepted (put ++ others)
  pub to_is : to ≡ length (words_of_silences put)
  pub room : to + record_words * length others ≤ length area
  pub words_is : words ≡ written (words_of_silences put) area

module _ {book area : List ℕ} where
  -- The invariant holds before the first field.
  pub put_start : book_refusal book ≡ None → record_words * length (silences_read book) ≤ length area → PutSoFar book area area 0 0
  unfolding written numbers_of_each
  put_start none room =
      let all : read_book book ≡ accepted (silences_read book) = (book_accepted_iff book (silences_read book)).1 (none, refl) in
      let read : IsReadWhole (silences_read book) book = (accepted_whole_iff book (silences_read book)).0 all in
      record {
        last = None;
        put = [];
        others = silences_read book;
        stop = read.stop;
        fields = read.fields;
        stop_ge = read.stop_ge;
        all_is = all;
        to_is = refl;
        room = omega arith;
        words_is = refl;
      }

  module _ {words : List ℕ} {at to : ℕ} (inv : PutSoFar book area words at to) where
    -- The area keeps its length.
    pub put_length_is : length words ≡ length area
    put_length_is = ap length inv.words_is ∙ written_length (words_of_silences inv.put) area (omega (arith, inv.to_is, inv.room))

    -- Where no whole field stands, the area is as the contract says.
    pub put_end : faulty ≡ field_at book at → words ≡ area_at_exit words_of_silences (read_book book) area
    put_end is =
        inv.words_is
        ∙ sym (ap (λ (a : Answer (List Silence)). area_at_exit words_of_silences a area)
        (inv.all_is ∙ ap (λ (l : List Silence). accepted (inv.put ++ l)) (faulty_is_last inv.fields is) ∙ ap accepted (append-nil inv.put)))

    module _ {s : Silence} {next : ℕ} (is : whole s next ≡ field_at book at) where
      -- the field is the next of those left
      next_field : IsFirst book inv.others inv.stop s next
      next_field = whole_is_first inv.fields inv.stop_ge is

      -- There is room for its words.
      pub put_room_le : to + record_words ≤ length words
      put_room_le = omega (arith, put_length_is, inv.room, ap length next_field.all_is)

      -- The invariant holds again once the words of its record are written behind the others.
      pub put_turn : {out : List ℕ} → out ≡ written_at to (silence_words s) words → PutSoFar book area out next (to + record_words)
      put_turn {out} out_is =
          let f : IsFirst book inv.others inv.stop s next = next_field in
          let long = ap length (each_more silence_words inv.put s) ∙ length-append (words_of_silences inv.put) (silence_words s) in
          record {
            last = Some s.address;
            put = inv.put ++ s ∷ [];
            others = f.others;
            stop = inv.stop;
            fields = f.fields;
            stop_ge = inv.stop_ge;
            all_is = inv.all_is ∙ ap (λ (l : List Silence). accepted (inv.put ++ l)) f.all_is ∙ ap accepted (sym (append_assoc inv.put (s ∷ []) f.others));
            to_is = omega (arith, inv.to_is, long);
            room = omega (arith, inv.room, ap length f.all_is);
            words_is =
                out_is
                ∙ ap₂ (λ (n : ℕ) (l : List ℕ). written_at n (silence_words s) l) inv.to_is inv.words_is
                ∙ written_behind (words_of_silences inv.put) (silence_words s) area (omega (arith, inv.to_is, inv.room))
                ∙ ap (λ (l : List ℕ). written l area) (sym (each_more silence_words inv.put s));
          }
