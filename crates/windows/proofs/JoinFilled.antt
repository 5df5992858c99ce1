-- How `fill_join` fills the join area, and what the windows out of it are. The line's last m − 1
-- edges and its first m − 1, copied one behind the other, are `join_of` of crates/meaning. With the filled part of the area lent beside the line, the whole line is the
-- closed line (`closed_parts`).
use Prim.Native.Nat.{ℕ, ◌+◌, ◌-◌, ◌*◌, ◌≤◌, ◌<◌}
use mathlib.Core.Path.{◌≡◌, refl, sym, ap, ap₂, ◌∙◌}
use mathlib.Core.Bool.{Bool, true, false, cond}
use mathlib.Core.Logic.{◌↔◌, ⊎_elim}
use mathlib.Core.List.{List, ◌++◌}
use native.Mathlib.Omega.{arith}
use lib.ListN.{length, take, drop, length-append, length-drop, take-append-drop}
use lib.Seq.{length-take-le, take_all, take_at, drop-append-add, drop-drop}
use Rattle.std.specs.List.{slice_range}
use Rattle.std.proofs.lemmas.Slice.{take-put_mid, drop-put_mid}
use borrow.Rule.Slice.PartMut.{put_mid}
use Rattle.lists.specs.Areas.{written}
use Rattle.lists.proofs.Cases.{le_or_lt}
use Rattle.lists.proofs.SizesTested.{lt_iff, le_iff, and_iff, test_fails}
use Rattle.meaning.specs.Closed.{closed_line, join_of, joined_with}
use Rattle.meaning.proofs.ClosedLine.{closed_short}
use Rattle.meaning.proofs.JoinArea.{join_lasts, join_closes, joined_long, joined_short, joined_length, joined_first}
use Rattle.windows.specs.Windows.{parts, whole_line, Joined}
use Rattle.windows.specs.Joins.{can_join, IsJoinFilled}
use Rattle.windows.proofs.WindowEdges.{whole_long, whole_short}

-- Two lists of n numbers, written over an area of at least 2·n one behind the other.
laid : (a b area : List ℕ) (n : ℕ) → length a ≡ n → length b ≡ n → put_mid n (n + n - n) (a ++ drop n area) b ≡ written (a ++ b) area
unfolding written
laid a b area n a_long b_long =
    let rest : List ℕ = drop n area in
    let within : n ≤ length (a ++ rest) = omega (arith, length-append a rest) in
    let both : n + n ≡ length a + n = omega arith in
    let all : n + n ≡ length (a ++ b) = omega (arith, length-append a b) in
    sym (take-append-drop (n + n) (put_mid n (n + n - n) (a ++ rest) b))
    ∙ ap₂ (λ (l r : List ℕ). l ++ r)
    (take-put_mid n (n + n - n) (a ++ rest) b (n + n) (omega arith) within ∙ ap (λ (l : List ℕ). l ++ b) (take_at a rest n a_long))
    (drop-put_mid n (n + n - n) (a ++ rest) b (n + n) (omega arith) within (omega arith)
    ∙ ap (λ (k : ℕ). drop k (a ++ rest)) both ∙ drop-append-add a rest n ∙ drop-drop n n area ∙ ap (λ (k : ℕ). drop k area) all)

-- The test `can_join` passes exactly when the area can be filled.
pub can_join_iff : (m n joins : ℕ) → (can_join m n joins ≡ true) ↔ ((0 < m) × ((m ≤ n) × (2 * m - 2 ≤ joins)))
can_join_iff m n joins = and_iff (lt_iff 0 m) (and_iff (le_iff m n) (le_iff (2 * m - 2) joins))

module _ (line : List ℕ) (m : ℕ) (join : List ℕ) where
  abbrev n : ℕ
  n = length line

  -- If the area can be filled, copying the line's last m − 1 edges and behind them its first m − 1 meets the contract of `fill_join`.
  pub is_filled : (lasts firsts : List ℕ) → 0 < m → m ≤ n → 2 * m - 2 ≤ length join → lasts ≡ slice_range line (n - (m - 1)) n
      → firsts ≡ take (m - 1) line
      → IsJoinFilled line m join (m - 1 + (m - 1)) (put_mid (m - 1) (m - 1 + (m - 1) - (m - 1)) (lasts ++ drop (m - 1) join) firsts)
  unfolding join_of
  is_filled lasts firsts some long room lasts_slice firsts_are =
      let passes = (can_join_iff m n (length join)).1 (some, (long, room)) in
      let end : List ℕ = drop (n - (m - 1)) line in
      let lasts_are : lasts ≡ end = lasts_slice ∙ take_all (n - (n - (m - 1))) end (omega (arith, length-drop (n - (m - 1)) line)) in
      record {
        used_is = rw passes (omega arith);
        filled = rw passes
            (laid lasts firsts join (m - 1) (ap length lasts_are ∙ length-drop (n - (m - 1)) line ∙ omega arith)
            (ap length firsts_are ∙ length-take-le (m - 1) line (omega arith))
            ∙ ap₂ (λ (l r : List ℕ). written (l ++ r) join) lasts_are firsts_are
            ∙ sym (joined_long m line join long));
      }

-- Windows come from no more bytes than the area has.
pub used_le : {line : List ℕ} {m : ℕ} {join : List ℕ} {r : ℕ} {out : List ℕ} → IsJoinFilled line m join r out → r ≤ length out
used_le {line} {m} {join} is =
    rw (is.used_is, is.filled)
    (go (can_join m (length line) (length join)) refl)
  where
    go : (t : Bool) → can_join m (length line) (length join) ≡ t → cond t (2 * m - 2) 0 ≤ length (cond t (joined_with m line join) join)
    go true passes =
        let can = (can_join_iff m (length line) (length join)).0 passes in
        omega (arith, can.1.1, joined_length m line join (λ _. can.1.1))
    go false fails = omega arith

-- The parts that a closed search hands on: the line, and the used part of the filled area. The area is right, and the whole line is the closed line.
pub record ClosedParts (m : ℕ) (line used : List ℕ) : Type 0 where
  pub joined : Joined m (parts line used)
  pub whole_is : whole_line m (parts line used) ≡ closed_line m line

-- If the area has room where it is needed, a closed search hands on the right parts, and the area holds what it must.
pub closed_parts : {line : List ℕ} {m : ℕ} {join : List ℕ} {r : ℕ} {out : List ℕ} → 0 < m → (m ≤ length line → 2 * m - 2 ≤ length join)
    → IsJoinFilled line m join r out → ClosedParts m line (take r out) × (out ≡ joined_with m line join)
closed_parts {line} {m} {join} {r} {out} some room is =
    ⊎_elim
    (λ long.
    let passes = (can_join_iff m (length line) (length join)).1 (some, (long, room long)) in
    let out_is : out ≡ joined_with m line join = rw passes at is.filled in
    let used_is : r ≡ 2 * m - 2 = rw passes at is.used_is in
    let part : take r out ≡ join_of m line = (λ j. take (used_is j) (out_is j)) ∙ joined_first m line join long in (
      record {
        joined = record { lasts = λ _ _. ap (take (m - 1)) part ∙ join_lasts m line long };
        whole_is = whole_long m (parts line (take r out)) some long ∙ ap (λ (l : List ℕ). line ++ take (m - 1) (drop (m - 1) l)) part ∙ join_closes m line long;
      },
      out_is,
    ))
    (λ short.
    let fails = test_fails (can_join_iff m (length line) (length join)) (λ h. omega (arith, h.1.0)) in (
      record {
        joined = record { lasts = λ long _. absurd (omega arith) };
        whole_is = whole_short m (parts line (take r out)) short ∙ sym (closed_short m line short);
      },
      (rw (sym fails) at is.filled) ∙ sym (joined_short m line join short),
    ))
    (le_or_lt m (length line))
