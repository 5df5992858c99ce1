-- The sweep of the quick scan goes from window to window (rules 1 to 3) up to the next candidate and verifies it (rules 4 and 5). It has two definitions: one as the
-- code computes, on every input, whatever vectors, doubled ring, join area and counts are lent; one as the rules say. If the ring holds no mark, its own vectors and
-- double are lent, the counts are the tally of the last verified start, and the join area is right, the two are the same for the whole line. A law joins them at
-- each level:
--
-- |                           | computed, on every input         | by the rules                                    | joined by                           |
-- |---------------------------|----------------------------------|-------------------------------------------------|-------------------------------------|
-- | one window (rules 1 to 3) | `read_by` (Reads)                | `IsWindowRead` (ReadingRules)                   | `read_by_rules` (ReadByRules)       |
-- | up to the next candidate  | `windows_by` (Reads)             | `IsWindowsRead` (SweepRules)                    | `windows_by_rules` (WindowsByRules) |
-- | a start verified (rule 5) | `tally_by` (Sweeps)              | `Verified` of crates/tally, looks `tally_looks` | `tally_by_rules` (TallyByRules)     |
-- | the sweep (rules 1 to 5)  | `sweep_by`, `IsSweptBy` (Sweeps) | `IsSweptOn` (SweepRules)                        | `swept_by_rules` (SweptByRules)     |
--
-- The conditions of these laws on what is lent are `OwnVectors` (ReadingRules), `CanVerify` (VerifyingRules), `CanSweepOn` (SweepRules) and, for the join area,
-- `Joined` of crates/windows. The contract of `sweep_on` is the computed definition alone, so that it holds on every input; scan and report use the rules.
-- docs/DECISIONS.md, entry 19, says why. Read the modules in this order.
pub mod Reads
pub mod Sweeps
pub mod ReadingRules
pub mod VerifyingRules
pub mod SweepRules
