-- An area after numbers are written into it. Written at its beginning, they stand at the front, the rest is as it was, and more can be stored behind them.
-- Written from any place on, two parts may be written one after the other (`written_at_append`), or the last number may be stored first (`written_at_last`): so a
-- writer may go forwards or backwards.
use Prim.Native.Nat.{ℕ, suc, ◌+◌, ◌-◌, ◌≤◌, ◌<◌}
use mathlib.Core.Path.{◌≡◌, refl, sym, ap, ◌∙◌}
use mathlib.Core.List.{List, [], ◌∷◌, ◌++◌, append_assoc}
use mathlib.Core.Logic.{dite}
use native.Mathlib.Decide.{dec_lt}
use native.Mathlib.Omega.{arith}
use lib.ListN.{length, get_or, take, drop, set, length-append, length-drop, take-append-drop, get_or-append}
use lib.Seq.{sets, sets-eq, take_at, drop_at, get_or-append-add, get_or-drop, take-append_seam, drop-append-add, drop-drop, length-take-le, append_snoc, set_split, take-set-le, drop-set-add, ext_get_or}
use Rattle.lists.specs.Areas.{written, written_at}
use Rattle.lists.specs.ByPlace.{list_of, StoredFirst}
use Rattle.lists.proofs.ByPlace.{list_of_length, list_of_at}

module _ (numbers area : List ℕ) where
  -- If the numbers fit, the area keeps its length.
  pub written_length : length numbers ≤ length area → length (written numbers area) ≡ length area
  unfolding written
  written_length h = simp (length-append, length-drop) (omega arith)

  -- At the front stand the numbers.
  pub written_at_lem : (p : ℕ) → p < length numbers → get_or (written numbers area) p 0 ≡ get_or numbers p 0
  unfolding written
  written_at_lem p l = get_or-append numbers (drop (length numbers) area) 0 p l

  -- "Words after the last one written keep their values."
  pub written_rest : (j : ℕ) → get_or (written numbers area) (length numbers + j) 0 ≡ get_or area (length numbers + j) 0
  unfolding written
  written_rest j = get_or-append-add numbers (drop (length numbers) area) j 0 ∙ get_or-drop (length numbers) area j 0

  -- The first `length numbers` elements of the area are the numbers written.
  pub written_front : {out : List ℕ} → out ≡ written numbers area → (n : ℕ) → length numbers ≡ n → take n out ≡ numbers
  unfolding written
  written_front is n long = ap (take n) is ∙ take_at numbers (drop (length numbers) area) n long

  -- The area after writing has at least as many elements as were written.
  pub written_le : {out : List ℕ} → out ≡ written numbers area → length numbers ≤ length out
  unfolding written
  written_le is = omega (arith, ap length is, length-append numbers (drop (length numbers) area))

-- A loop that has stored f p at each of the first m places p of an area has written these m numbers at its beginning.
pub stored_written : {m : ℕ} {f : ℕ → ℕ} {area out : List ℕ} → StoredFirst m f area out → m ≤ length area → out ≡ written (list_of m f) area
stored_written {m} {f} {area} {out} stored room =
    let numbers : List ℕ = list_of m f in
    let size : length numbers ≡ m = list_of_length m f in
    ext_get_or 0 out (written numbers area) (stored.size ∙ sym (written_length numbers area (omega arith)))
    (λ p l.
    dite (dec_lt p m)
    (λ before. stored.first p before ∙ sym (written_at_lem numbers area p (omega arith) ∙ list_of_at m f p before))
    (λ behind.
    let place : length numbers + (p - m) ≡ p = omega (arith, behind) in
    stored.rest p (omega (arith, behind)) ∙ sym (rw place at (written_rest numbers area (p - m)))))

-- With a written at the beginning, storing b right behind it gives the area with a ++ b written, if both fit.
pub written_more : (a b area : List ℕ) → length a + length b ≤ length area → sets (written a area) (length a) b ≡ written (a ++ b) area
unfolding written
written_more a b area room =
    sets-eq b (a ++ drop (length a) area) (length a) (simp (length-append, length-drop) (omega arith))
    ∙ simp (take-append_seam, drop-append-add, drop-drop, length-append)

-- Writing from place 0 on is writing at the area's beginning.
pub written_at_zero : (numbers area : List ℕ) → written_at 0 numbers area ≡ written numbers area
unfolding written_at
written_at_zero numbers area = refl

module _ (at : ℕ) where
  -- Writing no numbers changes nothing.
  pub written_at_none : (area : List ℕ) → written_at at [] area ≡ area
  unfolding written_at written
  written_at_none area = take-append-drop at area

  -- Writing a from a place on, and then b right behind it, is writing a ++ b from that place on.
  pub written_at_append : (a b area : List ℕ) → at + length a ≤ length area → written_at (at + length a) b (written_at at a area) ≡ written_at at (a ++ b) area
  unfolding written_at written
  written_at_append a b area h =
      let front : List ℕ = take at area ++ a in
      let behind : List ℕ = drop (length a) (drop at area) in
      let front_length : length front ≡ at + length a = length-append (take at area) a ∙ ap (λ (n : ℕ). n + length a) (length-take-le at area (omega arith)) in
      ap (written_at (at + length a) b) (sym (append_assoc (take at area) a behind))
      ∙ (λ i. take_at front behind (at + length a) front_length i ++ (b ++ drop (length b) (drop_at front behind (at + length a) front_length i)))
      ∙ append_assoc (take at area) a (b ++ drop (length b) behind)
      ∙ ap (λ (l : List ℕ). take at area ++ l) (sym (append_assoc a b (drop (length b) behind)))
      ∙ ap (λ (l : List ℕ). take at area ++ (a ++ b ++ l)) (drop-drop (length b) (length a) (drop at area) ∙ ap (λ (n : ℕ). drop n (drop at area)) (sym (length-append a b)))

  -- The last number may be stored first: storing it, and then writing the others before it, is writing them all.
  pub written_at_last : (numbers : List ℕ) (number : ℕ) (area : List ℕ) → at + length numbers < length area
      → written_at at numbers (set area (at + length numbers) number) ≡ written_at at (numbers ++ number ∷ []) area
  unfolding written_at written
  written_at_last numbers number area h =
      let behind : List ℕ = drop at area in
      let room : length numbers < length behind = simp length-drop (omega arith) in
      let stored : drop (length numbers) (set behind (length numbers) number) ≡ number ∷ drop (suc (length numbers)) behind =
      ap (drop (length numbers)) (set_split behind (length numbers) number room)
      ∙ drop_at (take (length numbers) behind) (number ∷ drop (suc (length numbers)) behind) (length numbers) (length-take-le (length numbers) behind (omega arith)) in
      let long : suc (length numbers) ≡ length (numbers ++ number ∷ []) = omega (arith, length-append numbers (number ∷ [])) in
      (λ i. take-set-le at area (at + length numbers) number (omega arith) i ++ (numbers ++ drop (length numbers) (drop-set-add at area (length numbers) number i)))
      ∙ ap (λ (l : List ℕ). take at area ++ (numbers ++ l)) stored
      ∙ ap (λ (l : List ℕ). take at area ++ l) (sym (append_snoc numbers number (drop (suc (length numbers)) behind)))
      ∙ ap (λ (n : ℕ). take at area ++ (numbers ++ number ∷ [] ++ drop n behind)) long
