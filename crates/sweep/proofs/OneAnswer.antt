-- The contract of `sweep_on` is one equation for the answer and the counts at exit, so it determines both.
use Prim.Native.Nat.{ℕ}
use mathlib.Core.Path.{◌≡◌, sym, ap, ◌∙◌}
use mathlib.Core.List.{List}
use Rattle.occurrences.specs.declared.table.EdgeVectors.{EdgeVectors}
use Rattle.windows.specs.Windows.{Parts}
use Rattle.sweep.specs.declared.sweeping.Sweep.{Sweep}
use Rattle.sweep.specs.declared.sweeping.Swept.{Swept}
use Rattle.sweep.specs.Sweeps.{SweepResult, IsSweptBy}

-- Any two answers that meet the contract of `sweep_on` are equal, and so are the counts at exit.
pub one_sweep : (ring doubled : List ℕ) (table : EdgeVectors) (p : Parts) (k : ℕ) (at : Sweep) (old new new' : List ℕ) (r r' : Swept)
    → IsSweptBy ring doubled table p k at old new r → IsSweptBy ring doubled table p k at old new' r' → (r ≡ r') × (new ≡ new')
one_sweep ring doubled table p k at old new new' r r' a b =
    let same : ◌≡◌ {A = SweepResult} (record { swept = r; counts = new }) (record { swept = r'; counts = new' }) = a.is ∙ sym b.is in
    (ap (λ (s : SweepResult). s.swept) same, ap (λ (s : SweepResult). s.counts) same)
