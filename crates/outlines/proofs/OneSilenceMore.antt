-- One silence more in a book. It hides at one address more, and each start has at most one finding, so it hides at most one finding more. A silence that has
-- the address of no finding, or a ceiling below the distance of the finding there, changes nothing. Neither does one of another cell or ring number. The laws
-- hold for the rows of any search that accept no empty ring.
use Prim.Native.Nat.{ℕ, suc, ◌+◌, ◌≤◌, ◌<◌}
use mathlib.Core.Path.{◌≡◌, refl, ap, ◌∙◌}
use mathlib.Core.Logic.Iff
use mathlib.Core.Logic.{◌⊎◌, ◌↔◌}
use mathlib.Core.Bool.{Bool, true, false, cond, ◌||◌, not-eq-not}
use mathlib.Core.List.{List, [], ◌∷◌, ◌++◌}
use Rattle.std.specs.Prelude.{Option, None}
use native.Mathlib.Omega.{arith}
use lib.ListN.{length}
use Rattle.lists.proofs.SizesTested.{or_iff}
use Rattle.meaning.specs.Findings.{Finding, IsFinding, findings}
use Rattle.meaning.specs.Findings.{Rising}
use Rattle.meaning.proofs.Rising.{rising_from, findings_rising}
use Rattle.answers.specs.declared.refusals.Refusal.{Refusal}
use Rattle.answers.specs.Paper.{accepted}
use Rattle.answers.specs.Rows.{first_given}
use Rattle.silences.specs.Silences.{Address, address, Silence, covers, hides}
use Rattle.silences.specs.Reading.{read_book}
use Rattle.silences.proofs.HidesIff.{covers_iff}
use Rattle.std.specs.Prelude.{Result}
use Rattle.outlines.specs.declared.quick.ReportCounts.{ReportCounts as ReportCountsStruct}
use Rattle.outlines.specs.Report.{is_hidden, taken_by, hidden, IsReportedBy}
use Rattle.outlines.proofs.SilencesAlike.{HidesAlike, hidden_same, reports_same}

-- the first two of three tests joined by "or" can be exchanged
or_other : (a b c : Bool) → (a || (b || c)) ≡ (b || (a || c))
or_other true true c = refl
or_other true false c = refl
or_other false b c = refl

-- a silence does not cover what is not at its address and within its ceiling
not_covered : (s : Silence) (a : Address) (distance : ℕ) → ((s.address ≡ a) × (distance ≤ s.ceiling) → ⊥) → covers s a distance ≡ false
not_covered s a distance never = (not-eq-not {b = false}).0 (λ e. never ((covers_iff s a distance).0 e))

-- one finding in front of two lists of the same length, hidden or not in each: the first list is at most one longer
one_at_most : (f : Finding) (a b : Bool) (l l' : List Finding) → length l ≡ length l' → length (cond a (f ∷ l) l) ≤ length (cond b (f ∷ l') l') + 1
one_at_most f true true l l' e = omega arith
one_at_most f true false l l' e = omega arith
one_at_most f false true l l' e = omega arith
one_at_most f false false l l' e = omega arith

-- one finding in front of two lists, hidden in both or in neither: if the first list was at most one longer, it still is
one_later : (f : Finding) (a : Bool) (l l' : List Finding) → length l ≤ length l' + 1 → length (cond a (f ∷ l) l) ≤ length (cond a (f ∷ l') l') + 1
one_later f true l l' e = omega arith
one_later f false l l' e = omega arith

module _ (cell ring_number : ℕ) (s : Silence) (xs ys : List Silence) where
  -- whether s covers a finding
  abbrev covered : Finding → Bool
  covered f = covers s (address cell ring_number f.start) f.distance

  -- with s among them, the silences hide what s covers, and for the rest what they hide without it
  hides_one_more : (zs : List Silence) (a : Address) (distance : ℕ)
      → hides (zs ++ s ∷ ys) a distance ≡ (covers s a distance || hides (zs ++ ys) a distance)
  unfolding hides
  hides_one_more [] a distance = refl
  hides_one_more (z ∷ zs) a distance =
      ap (λ (t : Bool). covers z a distance || t) (hides_one_more zs a distance)
      ∙ or_other (covers z a distance) (covers s a distance) (hides (zs ++ ys) a distance)

  -- One silence more hides at most its own address: with s among them the silences hide a finding exactly when s has its address and a ceiling of at least its
  -- distance, or they hide it without s.
  pub silence_more_iff : (f : Finding) → (is_hidden (xs ++ s ∷ ys) cell ring_number f ≡ true)
      ↔ (((s.address ≡ address cell ring_number f.start) × (f.distance ≤ s.ceiling)) ⊎ (is_hidden (xs ++ ys) cell ring_number f ≡ true))
  silence_more_iff f =
      rw (hides_one_more xs (address cell ring_number f.start) f.distance)
      (or_iff (covers_iff s (address cell ring_number f.start) f.distance) Iff.rfl)

  -- a finding that s does not cover is hidden with s exactly when it is hidden without it
  hidden_alike : (f : Finding) → covered f ≡ false → is_hidden (xs ++ s ∷ ys) cell ring_number f ≡ is_hidden (xs ++ ys) cell ring_number f
  hidden_alike f e = hides_one_more xs (address cell ring_number f.start) f.distance ∙ ap (λ (t : Bool). t || is_hidden (xs ++ ys) cell ring_number f) e

  -- s covers nothing at a start other than its own
  other_start : (f : Finding) → (s.address.start ≡ f.start → ⊥) → covered f ≡ false
  other_start f differs = not_covered s (address cell ring_number f.start) f.distance (λ h. differs (ap (λ (a : Address). a.start) h.0))

  -- of findings by rising start, one silence more hides at most one finding more
  one_more : (lo hi : ℕ) (fs : List Finding) → Rising lo hi fs
      → length (hidden (xs ++ s ∷ ys) cell ring_number fs) ≤ length (hidden (xs ++ ys) cell ring_number fs) + 1
  unfolding taken_by
  one_more lo hi [] rising = omega arith
  one_more lo hi (f ∷ fs) rising = go (covered f) refl (one_more (suc f.start) hi fs rising.1)
    where
      go : (t : Bool) → covered f ≡ t
          → length (hidden (xs ++ s ∷ ys) cell ring_number fs) ≤ length (hidden (xs ++ ys) cell ring_number fs) + 1
          → length (cond (is_hidden (xs ++ s ∷ ys) cell ring_number f) (f ∷ hidden (xs ++ s ∷ ys) cell ring_number fs) (hidden (xs ++ s ∷ ys) cell ring_number fs))
          ≤ length (cond (is_hidden (xs ++ ys) cell ring_number f) (f ∷ hidden (xs ++ ys) cell ring_number fs) (hidden (xs ++ ys) cell ring_number fs)) + 1
      go true e rest =
          let here : s.address.start ≡ f.start = ap (λ (a : Address). a.start) ((covers_iff s (address cell ring_number f.start) f.distance).0 e).0 in
          let alike : HidesAlike (xs ++ s ∷ ys) (xs ++ ys) cell ring_number fs =
          λ g m. hidden_alike g (other_start g (λ q. omega (arith, rising_from (suc f.start) hi fs rising.1 g m))) in
          one_at_most f (is_hidden (xs ++ s ∷ ys) cell ring_number f) (is_hidden (xs ++ ys) cell ring_number f) _ _
          (ap (λ (l : List Finding). length l) (hidden_same (xs ++ s ∷ ys) (xs ++ ys) cell ring_number fs alike))
      go false e rest = rw (hidden_alike f e) (one_later f (is_hidden (xs ++ ys) cell ring_number f) _ _ rest)

  module _ (ring line : List ℕ) (k : ℕ) where
    -- With one silence more, at most one finding more is hidden.
    pub silence_hides_one_le : length (hidden (xs ++ s ∷ ys) cell ring_number (findings ring line k)) ≤ length (hidden (xs ++ ys) cell ring_number (findings ring line k)) + 1
    silence_hides_one_le = one_more 0 (length line) (findings ring line k) (findings_rising ring line k)

    module _ (rows : List (Option Refusal)) (some_edge : first_given rows ≡ None → 0 < length ring) (book book' words : List ℕ)
        (is : read_book book ≡ accepted (xs ++ s ∷ ys)) (is' : read_book book' ≡ accepted (xs ++ ys))
        (r r' : Result ReportCountsStruct Refusal) (out out' : List ℕ) (p : IsReportedBy rows cell ring_number ring line k book words r out)
        (p' : IsReportedBy rows cell ring_number ring line k book' words r' out') where
      -- "A silence that names no finding hides nothing", nor does one whose ceiling is below the distance of the finding that it names: without it the report
      -- is the same.
      pub idle_silence_same : ((f : Finding) → IsFinding ring line k f → s.address ≡ address cell ring_number f.start → f.distance ≤ s.ceiling → ⊥)
          → (r ≡ r') × (out ≡ out')
      idle_silence_same idle =
          reports_same (xs ++ s ∷ ys) (xs ++ ys) cell ring_number rows ring line some_edge k book book' words is is'
          (λ f h. hidden_alike f (not_covered s (address cell ring_number f.start) f.distance (λ c. idle f h c.0 c.1))) r r' out out' p p'

      -- A silence of another cell changes nothing.
      pub other_cell_same : (s.address.cell ≡ cell → ⊥) → (r ≡ r') × (out ≡ out')
      other_cell_same other = idle_silence_same (λ f h e within. other (ap (λ (a : Address). a.cell) e))

      -- A silence of another ring number changes nothing.
      pub other_ring_number_same : (s.address.ring_number ≡ ring_number → ⊥) → (r ≡ r') × (out ≡ out')
      other_ring_number_same other = idle_silence_same (λ f h e within. other (ap (λ (a : Address). a.ring_number) e))
