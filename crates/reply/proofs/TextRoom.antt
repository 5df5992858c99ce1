-- No text is longer than the program's array (`most_text`), because its numbers have few digits (`decimal_length_le`). A report shows at most one finding for each edge
-- of the line; a start is below the line's length, a rotation and a distance below the ring's, ties at most the ring's, and looks are at most 3·m·n.
use Prim.Native.Nat.{ℕ, ◌*◌, ◌^◌, ◌≤◌, ◌<◌}
use mathlib.Core.Path.{refl}
use mathlib.Core.List.{List, [], ◌∷◌, Memᴰ}
use native.Mathlib.Nat.{mul-le-mul}
use native.Mathlib.Omega.{arith}
use lib.ListN.{length, length-append}
use Rattle.lists.specs.Texts.{ascii}
use Rattle.meaning.specs.Findings.{Finding, findings}
use Rattle.meaning.proofs.FindingsBelow.{below_length_le}
use Rattle.meaning.proofs.LookBound.{quick_looks_most}
use Rattle.meaning.proofs.Ties.{ties_most}
use Rattle.silences.specs.Silences.{Silence}
use Rattle.findings.specs.Admitting.{most_ring, Admitted}
use Rattle.outlines.specs.Report.{shown, ReportCounts, report_counts}
use Rattle.outlines.proofs.ShownExactly.{shown_iff}
use Rattle.outlines.proofs.ShownAndHidden.{shown_hidden_length}
use Rattle.request.specs.Fields.{line_field}
use Rattle.request.specs.Input.{Request}
use Rattle.reply.specs.Lines.{first_line, finding_line, finding_lines, last_line, refusal_line_of}
use Rattle.reply.specs.Answering.{report_lines}
use Rattle.reply.specs.Writing.{most_finding_line, most_text}
use Rattle.reply.proofs.DecimalDigits.{decimal_length_le}

-- The line of a refusal whose number and place fit 64 bits is no longer than the array.
pub refusal_line_le : (number place : ℕ) → number < 2 ^ 64 → place < 2 ^ 64 → length (refusal_line_of number place) ≤ most_text
unfolding refusal_line_of ascii
refusal_line_le number place number_lt place_lt =
    simp length-append (omega (arith, decimal_length_le 19 number (omega arith), decimal_length_le 19 place (omega arith)))

-- A finding of a ring and a line within the program's limits.
record Short (f : Finding) : Type 0 where
  pub start_lt : f.start < line_field.most
  pub rotation_lt : f.rotation < most_ring
  pub distance_lt : f.distance < most_ring
  pub ties_le : f.ties ≤ most_ring

-- each line of such findings has at most `most_finding_line` bytes
finding_lines_le : (fs : List Finding) → ((f : Finding) → Memᴰ f fs → Short f) → length (finding_lines fs) ≤ most_finding_line * length fs
unfolding finding_lines finding_line
finding_lines_le [] short = omega arith
finding_lines_le (f ∷ fs) short =
    let here : Short f = short f (Memᴰ.head refl) in
    simp length-append
    (omega (
      arith,
      decimal_length_le 3 f.start (omega arith),
      decimal_length_le 2 f.rotation (omega arith),
      decimal_length_le 2 f.distance (omega arith),
      decimal_length_le 2 f.ties (omega arith),
      finding_lines_le fs (λ g m. short g (Memᴰ.tail m)),
    ))

module _ (q : Request) (room : ℕ) (admitted : Admitted q.ring q.allowance (length q.line) room)
    (line_le : length q.line ≤ line_field.most) (silences : List Silence) where
  abbrev all : List Finding
  all = findings q.ring q.line q.allowance

  abbrev seen : List Finding
  seen = shown silences q.cell q.ring_number all

  abbrev counts : ReportCounts
  counts = report_counts q.ring q.line q.allowance q.cell q.ring_number silences

  -- a shown finding's numbers are short
  shown_short : (f : Finding) → Memᴰ f seen → Short f
  shown_short f m =
      let is = ((shown_iff silences q.cell q.ring_number q.ring q.line q.allowance admitted.some_edge f).0 m).0 in
      record {
        start_lt = omega (arith, is.is_start.fits_in_line);
        rotation_lt = omega (arith, is.is_rotation, admitted.most_ring);
        distance_lt = omega (arith, is.at_most_k, admitted.allowed, admitted.most_ring);
        ties_le = omega (arith, ties_most q.ring q.line q.allowance f is, admitted.most_ring);
      }

  -- The lines of an accepted report are no longer than the array.
  pub report_lines_le : q.cell < 2 ^ 32 → q.ring_number < 2 ^ 16 → length (report_lines q silences) ≤ most_text
  unfolding report_lines first_line last_line ascii
  report_lines_le cell_lt ring_number_lt =
      let findings_le : length all ≤ line_field.most = omega (arith, below_length_le q.ring q.line q.allowance (length q.line)) in
      let lengths = shown_hidden_length silences q.cell q.ring_number all in
      let looks_le : counts.looks ≤ 3 * most_ring * line_field.most =
      omega (
        arith,
        quick_looks_most q.ring q.line q.allowance admitted.some_edge,
        mul-le-mul {n₁ = 3 * length q.ring} {m₁ = length q.line} {n₂ = 3 * most_ring} {m₂ = line_field.most} (omega (arith, admitted.most_ring)) line_le,
      ) in
      simp length-append
      (omega (
        arith,
        decimal_length_le 9 q.cell (omega arith),
        decimal_length_le 4 q.ring_number (omega arith),
        decimal_length_le 2 (length q.ring) (omega (arith, admitted.most_ring)),
        decimal_length_le 2 q.allowance (omega (arith, admitted.allowed, admitted.most_ring)),
        finding_lines_le seen shown_short,
        decimal_length_le 3 counts.found (omega arith),
        decimal_length_le 3 counts.hidden (omega arith),
        decimal_length_le 6 counts.looks (omega arith),
      ))
