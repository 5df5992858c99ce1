-- `findings::putting::put_finding` meets its contract: its ends are the cases of the test (`PutCases`).
use native.Mathlib.Omega.{arith}
use Rattle.findings.proofs.PutCases.{put_yes, put_no, words_told, none_told}
use Rattle.findings.proofs.putting.put_finding.Goals as goal

-- The finding can be put.
pub returns-in-Some : goal.returns-in-Some
returns-in-Some c =
    let told = words_told _ c.in-Some.ensures in
    put_yes _ _ _ (record { room = omega arith; words = told.0 }) told.1 c.copy_from_slice.ensures.after

-- One of its numbers is no 32-bit word.
pub returns-in_default : goal.returns-in_default
returns-in_default c = put_no _ _ _ (λ can. none_told _ c.in_default.ensures can.words)

-- There is no room.
pub returns-else-before-words : goal.returns-else-before-words
returns-else-before-words c = put_no _ _ _ (λ can. omega (arith, can.room))
