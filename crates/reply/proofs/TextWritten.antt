-- A text written piece by piece. Putting some bytes and then more bytes puts both, one after the other, and requires no room (`written_then`). A whole text for which
-- there is room stands at the area's beginning (`text_stands`), because with room no byte is left out (`put_bytes_sets`).
use Prim.Native.Nat.{ℕ, suc, ◌+◌, ◌≤◌, ◌<◌}
use mathlib.Core.Path.{◌≡◌, refl, sym, ap, ◌∙◌}
use mathlib.Core.List.{List, [], ◌∷◌, ◌++◌}
use native.Mathlib.Numerals.{add-one}
use native.Mathlib.Omega.{arith}
use lib.ListN.{length, set, length-set}
use lib.Seq.{sets}
use borrow.Author.Tests.{lt-ltb, le-ltb}
use Rattle.lists.specs.Areas.{written}
use Rattle.lists.proofs.Areas.{written_more}
use Rattle.reply.specs.declared.writer.Writer.{Writer}
use Rattle.reply.specs.Writing.{Text, text_in, text_of, put_byte, put_bytes, HasPut, IsText}

-- Putting two lists of bytes at once is putting the first and then the second.
pub put_bytes_append : (a b : List ℕ) (text : Text) → put_bytes (a ++ b) text ≡ put_bytes b (put_bytes a text)
unfolding put_bytes
put_bytes_append [] b text = refl
put_bytes_append (byte ∷ a) b text = put_bytes_append a b (put_byte byte text)

-- A byte is stored where there is room for it.
pub byte_stored : (byte : ℕ) (area : List ℕ) (at : ℕ) → at < length area → text_in (set area at byte) (at + 1) ≡ put_bytes (byte ∷ []) (text_in area at)
unfolding put_bytes put_byte
byte_stored byte area at room = simp (lt-ltb at (length area) room)

-- A byte is left out where there is no room for it.
pub byte_left_out : (byte : ℕ) (area : List ℕ) (at : ℕ) → length area ≤ at → text_in area at ≡ put_bytes (byte ∷ []) (text_in area at)
unfolding put_bytes put_byte
byte_left_out byte area at full = simp (le-ltb at (length area) full)

-- Putting `a` and then `b` puts `a ++ b`.
pub written_then : {a b : List ℕ} {first mid last : Writer} → HasPut a first mid → HasPut b mid last → HasPut (a ++ b) first last
written_then {a} {b} {first} one two = record {
  is = two.is ∙ ap (put_bytes b) one.is ∙ sym (put_bytes_append a b (text_of first));
  same_area = two.same_area ∙ one.same_area;
}

-- Putting some bytes puts equal bytes.
pub written_same : {a b : List ℕ} {first last : Writer} → a ≡ b → HasPut a first last → HasPut b first last
written_same e has_put = rw e at has_put

-- with room for all, each byte is stored behind the one before it
put_bytes_sets : (bytes area : List ℕ) (at : ℕ) → at + length bytes ≤ length area → put_bytes bytes (text_in area at) ≡ text_in (sets area at bytes) (at + length bytes)
unfolding put_bytes
put_bytes_sets [] area at room = let none_more : at ≡ at + 0 = omega arith in ap (text_in area) none_more
put_bytes_sets (byte ∷ bytes) area at room =
    let more : suc at + length bytes ≡ at + length (byte ∷ bytes) = omega arith in
    ap (put_bytes bytes) (sym (byte_stored byte area at (omega arith)) ∙ ap (text_in (set area at byte)) (add-one at))
    ∙ put_bytes_sets bytes (set area at byte) (suc at) (simp length-set (omega arith))
    ∙ ap (text_in (sets area at (byte ∷ bytes))) more

-- A text for which there is room, put from byte offset 0 on, stands whole at the area's beginning.
pub text_stands : {text : List ℕ} {first last : Writer} → first.next ≡ 0 → length text ≤ length first.area.now → HasPut text first last
    → IsText text first.area.now last.next last.area.now
unfolding written
text_stands {text} {first} {last} begins room has_put =
    let whole : text_of last ≡ text_in (sets first.area.now 0 text) (0 + length text) =
    has_put.is ∙ ap (λ (at : ℕ). put_bytes text (text_in first.area.now at)) begins ∙ put_bytes_sets text first.area.now 0 (omega arith) in
    let next_is : last.next ≡ 0 + length text = ap (λ (t : Text). t.next) whole in
    let area_is : last.area.now ≡ sets first.area.now 0 text = ap (λ (t : Text). t.area) whole in
    record { long_is = omega arith; written = area_is ∙ written_more [] text first.area.now (omega arith) }

-- A whole text that is written is an equal text written.
pub text_same : {a b area out : List ℕ} {long : ℕ} → a ≡ b → IsText a area long out → IsText b area long out
text_same e is_text = rw e at is_text

-- What the lent area ends as is what the writer left in it.
pub text_ends : {text area left out : List ℕ} {long : ℕ} → out ≡ left → IsText text area long left → IsText text area long out
text_ends e is_text = rw e is_text
