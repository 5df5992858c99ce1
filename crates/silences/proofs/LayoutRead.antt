-- Fields read from the first byte lay down their silences, which ascend and are in range (`read_fine`). Conversely, what lays down such silences is read
-- (`fine_read`). Field by field, by the two laws of FieldBytes. The first direction requires that the book's elements are bytes. What packing writes lays down
-- its silences (`layout_laid_down`).
use Prim.Native.Nat.{ℕ, ◌+◌, ◌*◌, ◌≤◌}
use mathlib.Core.Path.{◌≡◌, refl, sym, ap, subst, ◌∙◌}
use mathlib.Core.List.{List, [], ◌∷◌, ◌++◌, append_assoc}
use Rattle.std.specs.Prelude.{Option, None, Some}
use native.Mathlib.Omega.{arith}
use lib.ListN.{length, take, drop, length-append, take-append-drop}
use lib.Seq.{take_at, drop-drop, drop-append_seam, length-take-le}
use Rattle.lists.specs.Bounds.{IsBytes}
use Rattle.lists.specs.Records.{numbers_of_each}
use Rattle.lists.proofs.Records.{each_length}
use Rattle.fields.specs.Tagged.{head_length}
use Rattle.silences.specs.Silences.{Address, Silence, AllInRange}
use Rattle.silences.specs.Layout.{exact_kind, value_length, packed_length, field_of, layout, packed_tag}
use Rattle.silences.specs.Books.{LaidDown, no_field, one_field, AnyTag}
use Rattle.silences.specs.Faults.{IsFineBefore}
use Rattle.silences.proofs.FieldTest.{kind_length_le, field_ends}
use Rattle.silences.proofs.FieldBytes.{field_of_length, packed_length_lem, packed_field, field_of_silence, FieldStands, silence_of_field}
use Rattle.silences.proofs.AscendingAfter.{AscendingAfter, ascending_after_iff}
use Rattle.silences.proofs.FieldsRead.{FieldsRead, none_read, one_read}

-- What packing writes has 15 bytes for each silence.
pub layout_length : (ss : List Silence) → length (layout ss) ≡ packed_length * length ss
layout_length = each_length field_of packed_length packed_length_lem

-- What packing writes for silences in range lays them down, under any tags that allow its own.
pub layout_laid_down : {Allowed : ℕ → Type 0} → Allowed packed_tag → (ss : List Silence) → AllInRange ss → LaidDown Allowed ss (layout ss)
unfolding numbers_of_each
layout_laid_down allowed [] in_range = no_field
layout_laid_down allowed (s ∷ ss) in_range = one_field allowed (packed_field s in_range.0.ceiling_lt) (layout_laid_down allowed ss in_range.1)

-- What lays down silences has at least 13 bytes for each.
pub laid_length_le : {Allowed : ℕ → Type 0} {ss : List Silence} {bytes : List ℕ} → LaidDown Allowed ss bytes
    → (head_length + value_length exact_kind) * length ss ≤ length bytes
laid_length_le no_field = omega arith
laid_length_le (one_field {tag = tag} {here = here} {rest = rest} allowed f more) =
    omega (arith, laid_length_le more, field_of_length f, kind_length_le tag f.kind f.kind_is, length-append here rest)

-- The silences that are read ascend, the first above `last`.
pub read_ascends : {book : List ℕ} {last : Option Address} {at : ℕ} {ss : List Silence} {stop : ℕ} → FieldsRead book last at ss stop → AscendingAfter last ss
read_ascends none_read = tt
read_ascends (one_read e above more) = (above, read_ascends more)

-- reading stops within the book
read_stop_le : {book : List ℕ} {last : Option Address} {at : ℕ} {ss : List Silence} {stop : ℕ} → FieldsRead book last at ss stop → at ≤ length book
    → stop ≤ length book
read_stop_le none_read h = h
read_stop_le {book} (one_read {at = at} {s = s} {next = next} e above more) h = read_stop_le more (field_ends book at s next e).1

-- At `at` the book has bytes that lay down these silences, up to `stop`.
record LaidFrom (book : List ℕ) (at : ℕ) (ss : List Silence) (stop : ℕ) : Type 0 where
  pub bytes : List ℕ
  pub laid_down : LaidDown AnyTag ss bytes
  pub bytes_are : drop at book ≡ bytes ++ drop stop book
  pub stop_is : stop ≡ at + length bytes

module _ (book : List ℕ) (bytes : IsBytes book) where
  -- the silences that are read are in range
  read_in_range : {last : Option Address} {at : ℕ} {ss : List Silence} {stop : ℕ} → FieldsRead book last at ss stop → AllInRange ss
  read_in_range none_read = tt
  read_in_range (one_read {at = at} {s = s} {next = next} e above more) = ((silence_of_field book bytes at s next e).in_range, read_in_range more)

  -- their bytes lay them down
  read_laid : {last : Option Address} {at : ℕ} {ss : List Silence} {stop : ℕ} → FieldsRead book last at ss stop → LaidFrom book at ss stop
  read_laid none_read = record { bytes = []; laid_down = no_field; bytes_are = refl; stop_is = omega arith }
  read_laid (one_read {at = at} {s = s} {next = next} {ss = ss} {stop = stop} e above more) =
      let here : FieldStands book at s next = silence_of_field book bytes at s next e in
      let rest : LaidFrom book next ss stop = read_laid more in
      record {
        bytes = here.here ++ rest.bytes;
        laid_down = one_field tt here.is_field rest.laid_down;
        bytes_are =
            here.bytes_are
            ∙ ap (λ (l : List ℕ). here.here ++ l) rest.bytes_are
            ∙ sym (append_assoc here.here rest.bytes (drop stop book));
        stop_is = omega (arith, here.next_is, rest.stop_is, length-append here.here rest.bytes);
      }

  -- If fields are read from the first byte up to `stop`, everything before `stop` is fine.
  pub read_fine : {ss : List Silence} {stop : ℕ} → FieldsRead book None 0 ss stop → IsFineBefore book stop ss
  read_fine {ss} {stop} f =
      let all : LaidFrom book 0 ss stop = read_laid f in
      let front : take stop book ≡ all.bytes = ap (take stop) all.bytes_are ∙ take_at all.bytes (drop stop book) stop (omega (arith, all.stop_is)) in
      record {
        at_le = read_stop_le f (omega arith);
        laid_down = subst (LaidDown AnyTag ss) (sym front) all.laid_down;
        in_range = read_in_range f;
        ascending = (ascending_after_iff ss).1 (read_ascends f);
      }

-- what lays down silences is read, wherever it stands
laid_read : {ss : List Silence} {bytes : List ℕ} (last : Option Address) (book rest : List ℕ) (at stop : ℕ) → LaidDown AnyTag ss bytes → AllInRange ss
    → AscendingAfter last ss → drop at book ≡ bytes ++ rest → stop ≡ at + length bytes → FieldsRead book last at ss stop
laid_read last book rest at stop no_field in_range ascends laid is_stop =
    let stays : at ≡ stop = omega arith in
    subst (FieldsRead book last at []) stays none_read
laid_read last book rest at stop (one_field {s = s} {here = here} {rest = others} allowed f more) in_range ascends laid is_stop =
    let laid_here : drop at book ≡ here ++ (others ++ rest) = laid ∙ append_assoc here others rest in
    let laid_next : drop (at + length here) book ≡ others ++ rest =
    sym (drop-drop (length here) at book) ∙ ap (drop (length here)) laid_here ∙ drop-append_seam here (others ++ rest) in
    one_read (field_of_silence f in_range.0 book at (others ++ rest) laid_here) ascends.0
    (laid_read (Some s.address) book rest (at + length here) stop more in_range.1 ascends.1 laid_next (omega (arith, length-append here others)))

-- If everything before `at` is fine, reading from the first byte reads those silences up to `at`.
pub fine_read : (book : List ℕ) (ss : List Silence) (at : ℕ) → IsFineBefore book at ss → FieldsRead book None 0 ss at
fine_read book ss at f =
    laid_read None book (drop at book) 0 at f.laid_down f.in_range ((ascending_after_iff ss).0 f.ascending)
    (sym (take-append-drop at book)) (omega (arith, length-take-le at book f.at_le))
