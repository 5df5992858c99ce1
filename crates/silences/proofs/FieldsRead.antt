-- Reading as a walk. From a byte offset whole fields are read, each above the one before it, up to an offset where reading stops (`FieldsRead`). It stops at
-- the book's end, at a faulty field, or at a record that isn't above the last (`ReadsAs`). `read_from` gives what this walk gives (`reads_as`, `reads_as_is`).
use Prim.Native.Nat.{ℕ, ◌+◌, ◌≤◌, ◌<◌}
use mathlib.Core.Logic.{⊎_elim}
use mathlib.Core.Path.{◌≡◌, refl, ap, subst, ◌∙◌}
use mathlib.Core.Bool.{Bool, true, false}
use mathlib.Core.List.{List, [], ◌∷◌, ◌++◌}
use Rattle.std.specs.Prelude.{Option, Some}
use native.Mathlib.Omega.{arith}
use lib.ListN.{length}
use Rattle.lists.proofs.Cases.{le_or_lt}
use Rattle.answers.specs.declared.refusals.Refusal.{Refusal}
use Rattle.answers.specs.declared.refusals.Refusal.TheVariants.{Field, NotAbove}
use Rattle.answers.specs.Paper.{Answer, accepted, refused}
use Rattle.silences.specs.Silences.{Address, Silence, is_above}
use Rattle.silences.specs.Reading.{FieldAt, whole, faulty, field_at, before, read_from}
use Rattle.silences.proofs.FieldTest.{field_ends}
use Rattle.silences.proofs.FieldInduction.{field_induction}
use Rattle.silences.proofs.ReadFrom.{read_from_end, read_from_faulty, read_from_not_above, read_from_above}
use Rattle.silences.proofs.AscendingAfter.{last_after}

-- From `at` to `stop` the book has whole fields of these silences, each above the one before it, the first above `last`.
pub data FieldsRead (book : List ℕ) : Option Address → ℕ → List Silence → ℕ → Type 0 where
  none_read : {last : Option Address} {at : ℕ} → FieldsRead book last at [] at
  one_read : {last : Option Address} {at : ℕ} {s : Silence} {next : ℕ} {ss : List Silence} {stop : ℕ} → field_at book at ≡ whole s next → is_above last s.address ≡ true
      → FieldsRead book (Some s.address) next ss stop → FieldsRead book last at (s ∷ ss) stop

-- What reading from `at` gives, by where it stops: at the book's end, at a faulty field, or at a record that isn't above the last.
pub data ReadsAs (book : List ℕ) (last : Option Address) (at : ℕ) : Answer (List Silence) → Type 0 where
  read_all : {ss : List Silence} {stop : ℕ} → FieldsRead book last at ss stop → length book ≤ stop → ReadsAs book last at (accepted ss)
  stopped_faulty : {ss : List Silence} {stop : ℕ} → FieldsRead book last at ss stop → stop < length book → field_at book stop ≡ faulty
      → ReadsAs book last at (refused (Field stop))
  stopped_order : {ss : List Silence} {stop : ℕ} {s : Silence} {next : ℕ} → FieldsRead book last at ss stop → field_at book stop ≡ whole s next
      → is_above (last_after last ss) s.address ≡ false → ReadsAs book last at (refused (NotAbove stop))

-- puts silences in front of those read; a refusal stays as it is
abbrev before_all : List Silence → Answer (List Silence) → Answer (List Silence)
before_all [] a = a
before_all (s ∷ ss) a = before s (before_all ss a)

-- in front of no silences they are all
before_all_accepted : (ss : List Silence) → before_all ss (accepted []) ≡ accepted ss
before_all_accepted [] = refl
before_all_accepted (s ∷ ss) = ap (before s) (before_all_accepted ss)

-- a refusal stays
before_all_refused : (ss : List Silence) (r : Refusal) → before_all ss (refused r) ≡ refused r
before_all_refused [] r = refl
before_all_refused (s ∷ ss) r = ap (before s) (before_all_refused ss r)

-- If the field where the walk stands is whole and above the last, the walk goes one field further.
pub read_more : {book : List ℕ} {last : Option Address} {at : ℕ} {ss : List Silence} {stop : ℕ} {s : Silence} {next : ℕ} → FieldsRead book last at ss stop
    → field_at book stop ≡ whole s next → is_above (last_after last ss) s.address ≡ true → FieldsRead book last at (ss ++ s ∷ []) next
read_more none_read e above = one_read e above none_read
read_more (one_read e' above' more) e above = one_read e' above' (read_more more e above)

-- A walk meets no more fields than there are bytes from `at` on.
pub read_length_le : {book : List ℕ} {last : Option Address} {at : ℕ} {ss : List Silence} {stop : ℕ} → FieldsRead book last at ss stop
    → at ≤ length book → at + length ss ≤ length book
read_length_le none_read h = omega arith
read_length_le {book} (one_read {at = at} {s = s} {next = next} e above more) h =
    let ends : (at < next) × (next ≤ length book) = field_ends book at s next e in
    omega (arith, read_length_le more ends.1)

-- one field more before a walk
reads_before : {book : List ℕ} {last : Option Address} {at : ℕ} {s : Silence} {next : ℕ} {a : Answer (List Silence)} → field_at book at ≡ whole s next
    → is_above last s.address ≡ true → ReadsAs book (Some s.address) next a → ReadsAs book last at (before s a)
reads_before e above (read_all f h) = read_all (one_read e above f) h
reads_before e above (stopped_faulty f h n) = stopped_faulty (one_read e above f) h n
reads_before e above (stopped_order f n o) = stopped_order (one_read e above f) n o

module _ (book : List ℕ) where
  -- `read_from` gives the silences of the fields read, and then what it reads from where they end
  read_on_lem : {last : Option Address} {at : ℕ} {ss : List Silence} {stop : ℕ} → FieldsRead book last at ss stop
      → read_from book last at ≡ before_all ss (read_from book (last_after last ss) stop)
  read_on_lem none_read = refl
  read_on_lem (one_read {last = last} {at = at} {s = s} e above more) = read_from_above book last at e above ∙ ap (before s) (read_on_lem more)

  -- If the walk gives `a`, then `read_from` gives `a`.
  pub reads_as_is : {last : Option Address} {at : ℕ} {a : Answer (List Silence)} → ReadsAs book last at a → read_from book last at ≡ a
  reads_as_is (read_all {ss = ss} {stop = stop} f h) = read_on_lem f ∙ ap (before_all ss) (read_from_end book _ stop h) ∙ before_all_accepted ss
  reads_as_is (stopped_faulty {ss = ss} {stop = stop} f h n) = read_on_lem f ∙ ap (before_all ss) (read_from_faulty book _ stop h n) ∙ before_all_refused ss (Field stop)
  reads_as_is (stopped_order {ss = ss} {stop = stop} f n o) = read_on_lem f ∙ ap (before_all ss) (read_from_not_above book _ stop n o) ∙ before_all_refused ss (NotAbove stop)

  -- at the end nothing more is read
  walk_end : (last : Option Address) (at : ℕ) → length book ≤ at → ReadsAs book last at (read_from book last at)
  walk_end last at h = rw (read_from_end book last at h) (read_all none_read h)

  -- before it one field, and then the walk from just past it
  walk_field : (last : Option Address) (at : ℕ)
      → ((s : Silence) (next : ℕ) → field_at book at ≡ whole s next → ReadsAs book (Some s.address) next (read_from book (Some s.address) next))
      → at < length book → ReadsAs book last at (read_from book last at)
  walk_field last at more l = by_field (field_at book at) refl
    where
      by_order : (s : Silence) (next : ℕ) → field_at book at ≡ whole s next → (t : Bool) → is_above last s.address ≡ t → ReadsAs book last at (read_from book last at)
      by_order s next e false above = rw (read_from_not_above book last at e above) (stopped_order none_read e above)
      by_order s next e true above = rw (read_from_above book last at e above) (reads_before e above (more s next e))

      by_field : (f : FieldAt) → field_at book at ≡ f → ReadsAs book last at (read_from book last at)
      by_field faulty e = rw (read_from_faulty book last at l e) (stopped_faulty none_read l e)
      by_field (whole s next) e = by_order s next e (is_above last s.address) refl

  -- the walk from any offset
  walk : (at : ℕ) (last : Option Address) → ReadsAs book last at (read_from book last at)
  walk =
      field_induction book (λ (at : ℕ). (last : Option Address) → ReadsAs book last at (read_from book last at))
      (λ at more last. ⊎_elim (walk_end last at) (walk_field last at (λ s next e. more s next e (Some s.address))) (le_or_lt (length book) at))

  -- If `read_from` gives `a`, then the walk gives `a`.
  pub reads_as : (last : Option Address) (at : ℕ) (a : Answer (List Silence)) → read_from book last at ≡ a → ReadsAs book last at a
  reads_as last at a e = subst (ReadsAs book last at) e (walk at last)
