-- `reversal::codes::reversed_code` meets its contract. By `list_of_at` the list of the 256 reversed codes has at place `code` the reversed code of `code`. The
-- checker computes that list and compares the table with it, all 256 entries: this is the test that the whole table follows the rule.
use borrow.Author.Rules.{rules}
use Rattle.lists.specs.ByPlace.{list_of}
use Rattle.lists.proofs.ByPlace.{list_of_at}
use Rattle.reversal.specs.Reversing.{reversed_code}
use Rattle.reversal.proofs.EveryCode.{all_codes}
use Rattle.reversal.proofs.codes.reversed_code.Goals as goal

pub returns : goal.returns
unfolding list_of reversed_code
returns c = record { is = list_of_at all_codes reversed_code c.args.code (search rules) }
