-- A loop that puts bytes piece by piece. Before each turn, the bytes left, put over the text as it is now, give what all the bytes give over the text as it was at
-- the start. A turn puts the first piece of what is left; at the end nothing is left.
--
--   bytes, first    all the bytes, and the writer at the start
--   left, now       the bytes left, and the writer now
use mathlib.Core.Path.{◌≡◌, refl, sym, ap, ◌∙◌}
use Prim.Native.Nat.{ℕ}
use mathlib.Core.List.{List, [], ◌++◌}
use Rattle.reply.specs.declared.writer.Writer.{Writer}
use Rattle.reply.specs.Writing.{text_of, put_bytes, HasPut}
use Rattle.reply.proofs.TextWritten.{put_bytes_append}

-- The invariant of a loop that puts bytes piece by piece.
pub record StillToPut (left bytes : List ℕ) (first now : Writer) : Type 0 where
  pub whole_is : put_bytes left (text_of now) ≡ put_bytes bytes (text_of first)
  pub same_area : now.area.ghost_name ≡ first.area.ghost_name

-- At the start all bytes are left.
pub put_start : {bytes : List ℕ} {first : Writer} → StillToPut bytes bytes first first
put_start = record { whole_is = refl; same_area = refl }

module _ {left bytes : List ℕ} {first now : Writer} (so_far : StillToPut left bytes first now) where
  -- A turn puts the next piece.
  pub put_turn : {piece rest : List ℕ} {last : Writer} → left ≡ piece ++ rest → HasPut piece now last → StillToPut rest bytes first last
  put_turn {piece} {rest} pieces piece_put = record {
    whole_is = ap (put_bytes rest) piece_put.is
        ∙ sym (put_bytes_append piece rest (text_of now))
        ∙ ap (λ (l : List ℕ). put_bytes l (text_of now)) (sym pieces)
        ∙ so_far.whole_is;
    same_area = piece_put.same_area ∙ so_far.same_area;
  }

  -- At the end all bytes are put.
  pub put_end : left ≡ [] → HasPut bytes first now
  unfolding put_bytes
  put_end none_left = record { is = ap (λ (l : List ℕ). put_bytes l (text_of now)) (sym none_left) ∙ so_far.whole_is; same_area = so_far.same_area }
