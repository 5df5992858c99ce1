-- The meanings and rules of document 01, in its order and its words, with the ties, the boundary marks and the closed line of document 02, tickets 1 to 3, and
-- the edge codes of ticket 6. Read the modules in the order of the list at the end.
-- Nothing here is code. A ring and a stretch are lists of edge codes, and a line may also hold marks; places, starts, rotations, distances and looks are numbers.
-- Document 01 says "Here every byte value 0 to 255 is an edge code like any other". Since document 02, ticket 2, this holds for 0 to 254, and 255 is a boundary
-- mark. Beyond that the meanings and rules only ask whether two edge codes are equal. What a code says of its edge, the length class and the octant, stands in
-- EdgeCodes (document 02, ticket 6); there codes 248 to 255 are no edges.
-- Elsewhere: the refusals, and ring places and line places as two types ("never added or compared directly"), in crates/answers; the silence book
-- in crates/silences.
--
-- | the document's word          | here                                         | module      |
-- |------------------------------|----------------------------------------------|-------------|
-- | m, n, k                      | `length ring`, `length line`, `k`            |             |
-- | rotation r at place q        | `rotation_edge ring r q`                     | Meanings    |
-- | window in the line           | `FitsInLine`; the test `fits_in_line`        | Meanings    |
-- | window past the line's end   | `IsPastLine`                                 | Meanings    |
-- | start                        | `IsStart`; the test `is_start`               | Meanings    |
-- | window                       | `window`; its edges `window_edge`            | Meanings    |
-- | mark, holding one            | `mark`, `is_mark`, `HoldsMark`; `holds_mark` | Meanings    |
-- | differ at place q            | `differs ring line i r q`                    | Meanings    |
-- | distance                     | `distance ring line i r`                     | Meanings    |
-- | least distance, lowest r     | `least_distance`, `lowest_rotation`          | Meanings    |
-- | ties (document 02)           | `ties`                                       | Meanings    |
-- | finding                      | `IsFinding`; the list `findings`             | Findings    |
-- | by rising start              | `Rising`                                     | Findings    |
-- | words of findings            | `words_of`                                   | Findings    |
-- | stretch that fits            | `Fits`; the test `fits`                      | Stretch     |
-- | window as far as it is read  | `Reading`                                    | Rules       |
-- | rules 1 to 3                 | `windows`, `read_window`, `read_edge`        | Rules       |
-- | left at break k+1, at a mark | `is_stopped`                                 | Rules       |
-- | next window (rule 3)         | `next_start`                                 | Rules       |
-- | candidate (rule 4)           | `is_candidate`, `candidates`                 | Rules       |
-- | reported (rule 4)            | `reported`                                   | Rules       |
-- | what the rules report        | `quick_findings`                             | Rules       |
-- | looks of reading (rule 1)    | `read_looks`                                 | Looks       |
-- | looks of verifying (rule 5)  | `tally_looks`, `afresh_looks`, `step_looks`  | Looks       |
-- | looks (rules 1 and 5)        | `quick_looks`                                | Looks       |
-- | looks of the plain survey    | `survey_looks`                               | Looks       |
-- | closed line (document 02)    | `closed_line`; window edges `closed_edge`    | Closed      |
-- | start, distance on it        | `IsClosedStart`, `closed_distance`           | Closed      |
-- | finding on it                | `IsClosedFinding`                            | Closed      |
-- | join area                    | `join_of`, `joined_with`                     | Closed      |
-- | edge code (document 02)      | `edge_code`; the test `is_edge`              | EdgeCodes   |
-- | length class, octant         | `length_class`, `octant_of`                  | EdgeCodes   |
-- | samples P1 to P12            | `samples`, `samples_right`                   | Samples     |
-- | samples of our own           | `own_samples`, `own_samples_right`           | Samples     |
-- | samples with marks           | `mark_samples`, `mark_samples_right`         | Samples     |
-- | samples of closed lines      | `closed_samples`, `closed_samples_right`     | Samples     |
-- | readings that look right     | each refuted                                 | Misread     |
-- | document 01 before marks     | `findings_before`, `quick_looks_before`      | BeforeMarks |
-- | (helpers)                    | `count`, `lowest`, `some_below`,             | Counting    |
-- |                              | `first_below`                                |             |
--
-- The table leaves out the parts of these definitions: `one_if`, `first_from` (Counting); `unequal`, `reaches`, `rotations_reaching` (Meanings); `Finding`, `finding_at`,
-- `found_at`, `findings_below`, `words_each`, `finding_words` (Findings); `begins` (Stretch); `unread`, `mark_read`, `grown_read`, `broken_read`, `read_left`,
-- `windows_from`, `candidates_of` (Rules); `verify_looks`, `survey_looks_below` (Looks); `closed_reaching` (Closed); `octants`, `length_classes`, `edge_codes`
-- (EdgeCodes); `Sample`, `finding`, `answered`, `marked`, `join_samples_right` (Samples); those of BeforeMarks.
--
-- Where a window, a tally or a sweep has a `start`, this is the place where its window begins; since document 02, ticket 2, that place need not be a start.
--
-- Where a word has two forms, the lower-case one computes, and the upper-case one states the same as a fact: window in the line, mark held, start, finding, fit.
-- proofs/ has the laws that join the two: `fits_line_iff`, `holds_iff`, `start_iff`, `findings_iff`, `fits_iff`.
pub mod Counting
pub mod Meanings
pub mod Findings
pub mod Stretch
pub mod Rules
pub mod Looks
pub mod Closed
pub mod EdgeCodes
pub mod Samples
pub mod Misread
pub mod BeforeMarks
