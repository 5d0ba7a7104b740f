-- The invariant of valid settings.
use Rattle.std.specs.Prelude.{◌≡◌, ℕ, ◌≤◌, Option, IsTrue, Bool, true, false, is_some, not, ◌&&◌, ◌||◌, nat_le}
use Rattle.std.specs.Bool.{beq}
use Rattle.mode_set.specs.declared.modes.Shape.{Shape}
use Rattle.mode_set.specs.declared.modes.Shape.TheVariants.{Qpsk, Qam16, Qam64}
use Rattle.mode_set.specs.declared.modes.Hierarchy.{Hierarchy}
use Rattle.mode_set.specs.declared.modes.Hierarchy.TheVariants.{Flat, Alpha1, Alpha2, Alpha4}
use Rattle.mode_set.specs.declared.modes.Rate.{Rate}

-- there is no hierarchy
abbrev pub is_flat : Hierarchy → Bool
is_flat Flat = true
is_flat Alpha1 = false
is_flat Alpha2 = false
is_flat Alpha4 = false

-- the constellation is QPSK
abbrev pub is_qpsk : Shape → Bool
is_qpsk Qpsk = true
is_qpsk Qam16 = false
is_qpsk Qam64 = false

-- QPSK has no hierarchy, the LP rate is given exactly with one, and the numbers are in range
pub record IsKept (shape : Shape) (hierarchy : Hierarchy) (rate_lp : Option Rate) (workers max_symbols : ℕ) : Type
    0 where
  pub qpsk : IsTrue (is_qpsk shape) → IsTrue (is_flat hierarchy)
  pub lp : is_some rate_lp ≡ not (is_flat hierarchy)
  pub some_worker : 1 ≤ workers
  pub few_workers : workers ≤ 16
  pub some_symbol : 1 ≤ max_symbols

-- the first two conditions, for the parameters of super-frames
pub record IsKeptEntry (shape : Shape) (hierarchy : Hierarchy) (rate_lp : Option Rate) : Type 0 where
  pub qpsk : IsTrue (is_qpsk shape) → IsTrue (is_flat hierarchy)
  pub lp : is_some rate_lp ≡ not (is_flat hierarchy)

-- whether parameters fit one another
abbrev pub fit_together : Shape → Hierarchy → Option Rate → Bool
fit_together shape hierarchy rate_lp = (not (is_qpsk shape) || is_flat hierarchy)
    && beq (is_some rate_lp) (not (is_flat hierarchy))

-- whether the parameters fit and the numbers are in range
abbrev pub fit : Shape → Hierarchy → Option Rate → ℕ → ℕ → Bool
fit shape hierarchy rate_lp workers most = fit_together shape hierarchy rate_lp
    && (nat_le 1 workers && (nat_le workers 16 && nat_le 1 most))
