-- Document 01, "Meanings": the finding; and from "What each call returns" how findings are laid out as words. Document 02, ticket 1, adds the ties: "a finding
-- becomes four words: start, rotation, distance, ties".
-- `IsFinding` is the sentence to believe. `findings` is the list that survey and scan write. `findings_iff` of proofs/ joins them.
use Rattle.std.specs.Prelude.{ℕ, zero, suc, ◌≤◌, ◌<◌, ◌≡◌, cond, ◌&&◌, List, [], ◌∷◌, ◌++◌, leb, length}
use Rattle.lists.specs.Records.{numbers_of_each}
use Rattle.meaning.specs.Meanings.{IsStart, is_start, distance, lowest_rotation, least_distance, rotations_reaching, ties}

-- A finding "carries start, rotation, distance", and ties.
pub record Finding : Type 0 where
  pub start : ℕ
  pub rotation : ℕ
  pub distance : ℕ
  pub ties : ℕ

-- "A finding is a start whose least distance over all r is at most k. It carries start, rotation, distance: the least distance, and the
-- lowest r that reaches it." It also carries ties, "how many rotations reach the least distance" (document 02, ticket 1).
pub record IsFinding (ring line : List ℕ) (k : ℕ) (f : Finding) : Type 0 where
  pub is_start : IsStart ring line f.start
  pub is_rotation : f.rotation < length ring
  pub distance_is : f.distance ≡ distance ring line f.start f.rotation
  pub at_most_k : f.distance ≤ k
  pub least : (r : ℕ) → r < length ring → f.distance ≤ distance ring line f.start r
  pub lowest : (r : ℕ) → r < f.rotation → f.distance < distance ring line f.start r
  pub ties_are : f.ties ≡ rotations_reaching ring line f.start f.distance

-- What a finding at place i carries: the least distance, the lowest rotation that reaches it, and how many reach it.
abbrev pub finding_at : List ℕ → List ℕ → ℕ → Finding
finding_at ring line i =
    record { start = i; rotation = lowest_rotation ring line i; distance = least_distance ring line i; ties = ties ring line i }

-- The list with the finding at place i if i is a start whose least distance is at most k, and else the empty list.
unfoldable pub found_at : List ℕ → List ℕ → ℕ → ℕ → List Finding
found_at ring line k i =
    let found : List Finding = finding_at ring line i ∷ [] in
    cond (is_start ring line i && leb (least_distance ring line i) k) found []

-- The findings at places below i, "by rising start".
unfoldable pub findings_below : List ℕ → List ℕ → ℕ → ℕ → List Finding
findings_below ring line k zero = []
findings_below ring line k (suc i) = findings_below ring line k i ++ found_at ring line k i

-- All findings of a ring, a line and an allowance: those at the line's places. The plain survey "gives the same findings" as the quick scan.
abbrev pub findings : List ℕ → List ℕ → ℕ → List Finding
findings ring line k = findings_below ring line k (length line)

-- "by rising start": the starts of a list rise strictly, the first is at least lo, and all are below hi. For the empty list: lo ≤ hi.
abbrev pub Rising : ℕ → ℕ → List Finding → Type 0
Rising lo hi [] = lo ≤ hi
Rising lo hi (f ∷ fs) = (lo ≤ f.start) × Rising (suc f.start) hi fs

-- "Findings go as .. 32-bit words .. into the lent words, by rising start"; "a finding becomes four words" (document 02, ticket 1): the number of words of a
-- finding. (That each word is below 2^32 follows from the limits of ring and line.)
abbrev pub words_each : ℕ
words_each = 4

-- The words of one finding: "start, rotation, distance, ties" (document 02, ticket 1).
abbrev pub finding_words : Finding → List ℕ
finding_words f = f.start ∷ f.rotation ∷ f.distance ∷ f.ties ∷ []

-- The words of a list of findings, one after the other without a gap.
abbrev pub words_of : List Finding → List ℕ
words_of fs = numbers_of_each finding_words fs
