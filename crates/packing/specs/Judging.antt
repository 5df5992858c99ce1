-- A definition for the contract of `judge`, the packer's private function that tests all records before a byte is written. No public contract uses it.
--
--   fault_of    the refusal that `judge` returned, if it returned one
use Rattle.std.specs.Prelude.{Option, None, Some}
use Rattle.std.specs.Prelude.{Result, Ok, Err}
use Rattle.answers.specs.declared.refusals.Refusal.{Refusal}

-- The refusal of a returned `Result`. `Ok` says that no record is faulty.
abbrev pub fault_of : Result (Unit {0}) Refusal → Option Refusal
fault_of (Ok u) = None
fault_of (Err refusal) = Some refusal
