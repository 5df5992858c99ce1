-- The contracts of the public functions on a book, one record each, for every input, accepted or refused. `paper` is the returned value as document 01's
-- number, place and number of records; `written` is the lent area at exit. "Packer and unpacker return the number of records"; so does reading.
-- `is` gives the result of `seek`, `seek_on` and `hides`.
--
--   answer_of, paper_of            a returned `Result` as an answer, and its paper
--   record_count, records_paper    an answer with the number of silences instead of the silences, and its paper
--   IsUnpacked, IsRead, IsSought, IsSoughtOn, IsHidingAsked    the contracts of `unpack`, `read`, `seek`, `seek_on` and `hides`
use Rattle.std.specs.Prelude.{ℕ, ◌≡◌, Bool, List, length}
use Rattle.std.specs.Prelude.{Option, Result}
use Rattle.answers.specs.declared.refusals.Refusal.{Refusal}
use Rattle.answers.specs.Paper.{Answer, accepted, refused, Paper, answer_paper, answer_from}
use Rattle.silences.specs.declared.addresses.Address.{Address as AddressStruct}
use Rattle.silences.specs.declared.addresses.Field.{Field}
use Rattle.silences.specs.Silences.{Silence}
use Rattle.silences.specs.Reading.{read_book}
use Rattle.silences.specs.Addresses.{address_of, sought_of}
use Rattle.silences.specs.Packing.{words_of_silences, unpacked, area_at_exit}
use Rattle.book.specs.Seeking.{seek_field, seek_from, is_hiding}

-- A returned `Result` as an answer: accepted with a number of records, or refused.
abbrev pub answer_of : Result ℕ Refusal → Answer ℕ
answer_of = answer_from (λ (records : ℕ). records)

-- The paper of a returned `Result`: number, place and number of records.
abbrev pub paper_of : Result ℕ Refusal → Paper ℕ
paper_of r = answer_paper 0 (answer_of r)

-- "the number of records": the answer with the number of silences instead of the silences. A refusal stays as it is.
abbrev pub record_count : Answer (List Silence) → Answer ℕ
record_count (accepted ss) = accepted (length ss)
record_count (refused refusal) = refused refusal

-- The paper of an answer of silences: number, place and number of records.
abbrev pub records_paper : Answer (List Silence) → Paper ℕ
records_paper a = answer_paper 0 (record_count a)

-- The contract of `unpack`, which returns `r` and leaves the lent words `area` as `out`.
pub record IsUnpacked (book area : List ℕ) (r : Result ℕ Refusal) (out : List ℕ) : Type 0 where
  pub paper : paper_of r ≡ records_paper (unpacked book (length area))
  pub written : out ≡ area_at_exit words_of_silences (unpacked book (length area)) area

-- The contract of `read`, which returns `r`.
pub record IsRead (book : List ℕ) (r : Result ℕ Refusal) : Type 0 where
  pub paper : paper_of r ≡ records_paper (read_book book)

-- The contract of `seek`, which seeks the address from byte offset `from` on and returns `r`.
pub record IsSought (book : List ℕ) (from : ℕ) (address : AddressStruct) (r : Option Field) : Type 0 where
  pub is : sought_of r ≡ seek_from book (address_of address) from

-- The contract of `seek_on`, which returns `r`. If the field `held` is not below the address, it is kept; else the address is sought from just past it. If
-- `held` is `None`, so is `r`.
pub record IsSoughtOn (book : List ℕ) (held : Option Field) (address : AddressStruct) (r : Option Field) : Type 0 where
  pub is : sought_of r ≡ seek_field (address_of address) (sought_of held) (seek_from book (address_of address))

-- The contract of `hides`, which returns `r`: whether `sought` is a field and its silence hides a finding with this address and this distance.
pub record IsHidingAsked (sought : Option Field) (address : AddressStruct) (distance : ℕ) (r : Bool) : Type 0 where
  pub is : r ≡ is_hiding (address_of address) distance (sought_of sought)
