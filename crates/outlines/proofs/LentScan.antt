-- What a call lends to `scan_line` (`Lent` of crates/windows): with an accepted book it can be scanned, and what is scanned is the list that the call searches, the
-- line or the closed line.
use Prim.Native.Nat.{ℕ}
use mathlib.Core.Path.{◌≡◌, subst}
use mathlib.Core.List.{List}
use Rattle.std.specs.Prelude.{None}
use lib.ListN.{length}
use Rattle.silences.specs.Reading.{book_refusal}
use Rattle.windows.specs.Windows.{Parts, whole_line}
use Rattle.windows.proofs.LentParts.{Lent}
use Rattle.outlines.specs.LineScan.{CanScanLine, LineScanned}

module _ {ring : List ℕ} {p : Parts} {k room : ℕ} {searched : List ℕ} (lent : Lent ring p k room searched) where
  -- If the book is accepted, the precondition of `scan_line` holds.
  pub can_scan_line : {book words : List ℕ} → book_refusal book ≡ None → length words ≡ room → CanScanLine ring p k book words
  can_scan_line book_read size = record { can_search = rw size lent.can_search; joined = lent.joined; book_read = book_read }

  -- The whole line that was scanned is the list that the call searches.
  pub searched_scanned : {cell ring_number : ℕ} {book words : List ℕ} {found hid looks : ℕ} {out : List ℕ}
      → LineScanned cell ring_number ring (whole_line (length ring) p) k book words found hid looks out
      → LineScanned cell ring_number ring searched k book words found hid looks out
  searched_scanned {cell} {ring_number} {book} {words} {found} {hid} {looks} {out} done =
      subst (λ (l : List ℕ). LineScanned cell ring_number ring l k book words found hid looks out) lent.whole_is done
