-- `vertices::importing::import_vertices` meets its contract: its returns are the rows 15, 16 and 10 in this order, or the edges written (ImportCases).
use mathlib.Core.Logic.{inl, inr}
use Rattle.vertices.proofs.ImportCases.{right_count, refused_count, refused_pair, refused_room, imported}
use Rattle.vertices.proofs.importing.import_vertices.Goals.{then-count-lt-FEWEST_VERTICES-via-then-count-lt-FEWEST_VERTICES, then-count-lt-FEWEST_VERTICES-via-else-count-lt-FEWEST_VERTICES+then-count-gt-MOST_VERTICES}
use Rattle.vertices.proofs.importing.import_vertices.Goals as goal

-- An odd count of numbers: row 15.
pub returns-then-numbers-eq1 : goal.returns-then-numbers-eq1
returns-then-numbers-eq1 c = refused_count _ _ (inl c.if-numbers-eq1.true)

-- Fewer than 3 vertices, or more than 4,096: row 15.
pub returns-then-count-lt-FEWEST_VERTICES : goal.returns-then-count-lt-FEWEST_VERTICES
returns-then-count-lt-FEWEST_VERTICES c =
    refused_count _ _ (inr (elim c.then-count-lt-FEWEST_VERTICES.branch [
      | then-count-lt-FEWEST_VERTICES-via-then-count-lt-FEWEST_VERTICES w ↦ inl w.if-count-lt-FEWEST_VERTICES.true
      | then-count-lt-FEWEST_VERTICES-via-else-count-lt-FEWEST_VERTICES+then-count-gt-MOST_VERTICES w ↦ inr w.if-count-gt-MOST_VERTICES.true
    ]))

-- Row 16.
pub returns-in-Some : goal.returns-in-Some
returns-in-Some c = refused_pair _ _ (right_count c.if-numbers-eq1.false c.if-count-lt-FEWEST_VERTICES.false c.if-count-gt-MOST_VERTICES.false) c.in-Some.ensures

-- Row 10.
pub returns-then-edges-count : goal.returns-then-edges-count
returns-then-edges-count c =
    refused_room _ _ (right_count c.if-numbers-eq1.false c.if-count-lt-FEWEST_VERTICES.false c.if-count-gt-MOST_VERTICES.false) c.in_default.ensures c.if-edges-count.true

-- All edges written.
pub returns : goal.returns
returns c =
    imported _ _ (right_count c.if-numbers-eq1.false c.if-count-lt-FEWEST_VERTICES.false c.if-count-gt-MOST_VERTICES.false) c.in_default.ensures c.if-edges-count.false c.put_edges.ensures
