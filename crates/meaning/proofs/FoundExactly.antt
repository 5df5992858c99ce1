-- For a ring that is not empty, the list `findings` has every finding and nothing else: f is in it exactly when `IsFinding` holds for f, and it has a finding
-- at a start exactly when some rotation differs from the window in at most k places. The list joins the lists `found_at` of all places, so a member comes from
-- one place. The lowest rotation is unique, so what `IsFinding` describes is what `finding_at` computes.
use Prim.Native.Nat.{ℕ, zero, suc, ◌≤◌, ◌<◌}
use mathlib.Core.Path.{◌≡◌, refl, sym, ap, ◌∙◌, subst}
use mathlib.Core.Logic.{◌↔◌, ⊎_elim}
use mathlib.Core.List.{List, [], ◌∷◌, Memᴰ}
use native.Mathlib.Nat.{eq-or-lt_of_le, le_of_suc-le-suc}
use native.Mathlib.Omega.{arith}
use lib.ListN.{length}
use Rattle.meaning.specs.Meanings.{IsStart, distance, lowest_rotation, least_distance, rotations_reaching, ties}
use Rattle.meaning.specs.Findings.{Finding, IsFinding, finding_at, found_at, findings_below, findings}
use Rattle.meaning.proofs.Lowest.{lowest_unique}
use Rattle.meaning.proofs.Places.{lowest_rotation_is, found_yes, found_mem}

module _ (ring line : List ℕ) (k : ℕ) where
  -- A finding in the list below n is the finding of its own start, and the least distance there is at most k.
  below_mem : (n : ℕ) (f : Finding) → Memᴰ f (findings_below ring line k n)
      → (f ≡ finding_at ring line f.start) × IsStart ring line f.start × (least_distance ring line f.start ≤ k)
  unfolding findings_below
  below_mem zero f h = absurd (mathlib.Core.List.Memᴰ.not-nil h)
  below_mem (suc n) f h =
      ⊎_elim
      (λ m. below_mem n f m)
      (λ m.
      let r = found_mem ring line k n f m in
      let at : n ≡ f.start = sym (ap (λ (g : Finding). g.start) r.0) in
      subst (λ (i : ℕ). (f ≡ finding_at ring line i) × IsStart ring line i × (least_distance ring line i ≤ k)) at r)
      (mathlib.Core.List.Memᴰ.append_cases (findings_below ring line k n) h)

  -- A start below n whose least distance is at most k has its finding in the list.
  mem_below : (n i : ℕ) → i < n → IsStart ring line i → least_distance ring line i ≤ k
      → Memᴰ (finding_at ring line i) (findings_below ring line k n)
  unfolding findings_below
  mem_below zero i l s h = absurd (omega arith)
  mem_below (suc n) i l s h =
      ⊎_elim
      (λ q.
      let here : Memᴰ (finding_at ring line i) (found_at ring line k i) =
      rw (found_yes ring line k i s h) (mathlib.Core.List.Memᴰ.head refl)
      in
      mathlib.Core.List.Memᴰ.append_right (findings_below ring line k n) (subst (λ (j : ℕ). Memᴰ (finding_at ring line i) (found_at ring line k j)) q here))
      (λ m. mathlib.Core.List.Memᴰ.append_left (found_at ring line k n) (mem_below n i m s h))
      (eq-or-lt_of_le (le_of_suc-le-suc l))

  module _ (pos : 0 < length ring) where
    -- What `finding_at` gives at a start whose least distance is at most k is a finding.
    at_yes : (i : ℕ) → IsStart ring line i → least_distance ring line i ≤ k → IsFinding ring line k (finding_at ring line i)
    at_yes i start near =
        let low = lowest_rotation_is ring line pos i in
        record { is_start = start; is_rotation = low.below; distance_is = refl; at_most_k = near; least = low.least; lowest = low.first; ties_are = refl }

    -- What `found_at` gives at a place is a finding.
    pub found_is : (i : ℕ) (f : Finding) → found_at ring line k i ≡ f ∷ [] → IsFinding ring line k f
    found_is i f e =
        let r = found_mem ring line k i f (rw e (mathlib.Core.List.Memᴰ.head refl)) in
        subst (IsFinding ring line k) (sym r.0) (at_yes i r.1 r.2)

    -- Every member of the list is a finding.
    findings_yes : (f : Finding) → Memᴰ f (findings ring line k) → IsFinding ring line k f
    findings_yes f h =
        let r = below_mem (length line) f h in
        subst (IsFinding ring line k) (sym r.0) (at_yes f.start r.1 r.2)

    -- The rotation of a finding is the lowest at which the distance is least.
    rotation_is : (f : Finding) → IsFinding ring line k f → f.rotation ≡ lowest_rotation ring line f.start
    rotation_is f h =
        lowest_unique (distance ring line f.start) (length ring) f.rotation (lowest_rotation ring line f.start)
        (record {
          below = h.is_rotation;
          least = λ s l. omega (arith, h.least s l, h.distance_is);
          first = λ s l. omega (arith, h.lowest s l, h.distance_is);
        })
        (lowest_rotation_is ring line pos f.start)

    -- Every finding is in the list.
    findings_by : (f : Finding) → IsFinding ring line k f → Memᴰ f (findings ring line k)
    findings_by f h =
        let i : ℕ = f.start in
        let rotation = rotation_is f h in
        let far : f.distance ≡ least_distance ring line i = h.distance_is ∙ ap (distance ring line i) rotation in
        let tied : f.ties ≡ ties ring line i = h.ties_are ∙ ap (rotations_reaching ring line i) far in
        let whole : f ≡ finding_at ring line i = λ j. record { start = i; rotation = rotation j; distance = far j; ties = tied j } in
        mathlib.Core.List.Memᴰ.cast whole
        (mem_below (length line) i (omega (arith, h.is_start.fits_in_line)) h.is_start (omega (arith, h.at_most_k)))

    -- For a ring that is not empty, f is in the list of findings exactly when it is a finding: its start is a start, its distance is the one under its
    -- rotation and at most k, no rotation has a smaller distance, no lower rotation has the same, and its ties are the number of rotations that have that distance.
    pub findings_iff : (f : Finding) → Memᴰ f (findings ring line k) ↔ IsFinding ring line k f
    findings_iff f = (findings_yes f, findings_by f)

    -- For a ring that is not empty, the list of findings has one at i exactly when i is a start and some rotation differs from its window in at most k places.
    pub found_iff : (i : ℕ)
        → ((f : Finding) × (f.start ≡ i) × Memᴰ f (findings ring line k))
        ↔ (IsStart ring line i × ((r : ℕ) × (r < length ring) × (distance ring line i r ≤ k)))
    found_iff i = (
      λ w.
          let f : Finding = w.0 in
          let h = findings_yes f w.2 in
          let near : distance ring line f.start f.rotation ≤ k = omega (arith, h.distance_is, h.at_most_k) in (
            subst (IsStart ring line) w.1 h.is_start,
            (f.rotation, h.is_rotation, subst (λ (j : ℕ). distance ring line j f.rotation ≤ k) w.1 near),
          ),
      λ w.
          let low = lowest_rotation_is ring line pos i in (
            finding_at ring line i,
            refl,
            mem_below (length line) i (omega (arith, w.0.fits_in_line)) w.0 (omega (arith, low.least w.1.0 w.1.1, w.1.2)),
          ),
    )
