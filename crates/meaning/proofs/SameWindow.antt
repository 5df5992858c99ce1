-- Distances, starts and findings depend on the m edges of a window alone. If two lines have the same edges there, what holds for the one holds for the other.
use Prim.Native.Nat.{ℕ, ◌<◌}
use mathlib.Core.Path.{◌≡◌, sym, ap, ◌∙◌}
use mathlib.Core.List.{List}
use native.Mathlib.Omega.{arith}
use lib.Dec.{eqb}
use lib.ListN.{length}
use borrow.Author.Tests.{ne_eqb}
use Rattle.meaning.specs.Meanings.{rotation_edge, FitsInLine, mark, IsStart, window_edge, unequal, differs, distance, reaches, rotations_reaching}
use Rattle.meaning.specs.Findings.{Finding, IsFinding}
use Rattle.meaning.proofs.Count.{count_same}
use Rattle.meaning.proofs.Starts.{unmarked_is_start, marked_no_start}

-- The window at i in line a has the same m edges as the window at j in line b.
pub record SameWindow (m : ℕ) (a : List ℕ) (i : ℕ) (b : List ℕ) (j : ℕ) : Type 0 where
  pub edge_is : (q : ℕ) → q < m → window_edge a i q ≡ window_edge b j q

-- If the one window has the edges of the other, the other has the edges of the one.
pub same_sym : {m : ℕ} {a : List ℕ} {i : ℕ} {b : List ℕ} {j : ℕ} → SameWindow m a i b j → SameWindow m b j a i
same_sym same = record { edge_is = λ q l. sym (same.edge_is q l) }

module _ (ring a : List ℕ) (i : ℕ) (b : List ℕ) (j : ℕ) (same : SameWindow (length ring) a i b j) where
  -- Two windows with the same edges have the same distance under each rotation.
  pub same_distance : (r : ℕ) → distance ring a i r ≡ distance ring b j r
  unfolding distance differs
  same_distance r =
      count_same (differs ring a i r) (differs ring b j r) 0 (length ring)
      (λ q _ l. ap (λ (x : ℕ). unequal x (rotation_edge ring r q)) (same.edge_is q (omega arith)))

  -- For two windows with the same edges, as many rotations reach a distance.
  pub same_reaching : (d : ℕ) → rotations_reaching ring a i d ≡ rotations_reaching ring b j d
  unfolding rotations_reaching
  same_reaching d =
      count_same (reaches ring a i d) (reaches ring b j d) 0 (length ring)
      (λ r _ _. ap (λ (x : ℕ). eqb x d) (same_distance r))

  -- Of two windows with the same edges, if the first is at a start, so is the second, if it fits in its line.
  pub same_start : FitsInLine ring b j → IsStart ring a i → IsStart ring b j
  same_start fits start =
      unmarked_is_start ring b j fits
      (λ q l. ne_eqb (window_edge b j q) mark (λ is. marked_no_start ring a i q l (same.edge_is q l ∙ is) start))

-- A finding of line a is a finding of line b, with the same four numbers, if its window fits in b and has the same edges there.
pub same_finding : (ring a b : List ℕ) (k : ℕ) (f : Finding) → SameWindow (length ring) a f.start b f.start → FitsInLine ring b f.start
    → IsFinding ring a k f → IsFinding ring b k f
same_finding ring a b k f same fits is =
    let distances = same_distance ring a f.start b f.start same in
    record {
      is_start = same_start ring a f.start b f.start same fits is.is_start;
      is_rotation = is.is_rotation;
      distance_is = is.distance_is ∙ distances f.rotation;
      at_most_k = is.at_most_k;
      least = λ r l. omega (arith, is.least r l, distances r);
      lowest = λ r l. omega (arith, is.lowest r l, distances r);
      ties_are = is.ties_are ∙ same_reaching ring a f.start b f.start same f.distance;
    }
