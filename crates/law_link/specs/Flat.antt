-- A symbol received through a flat channel (one gain for all carriers), and how well correction restores it.
use Rattle.std.specs.Prelude.{◌≡◌, ℕ, ◌+◌, ◌^◌, ◌<◌, ◌≤◌, IsTrue, List, slice_index, get_or, ℤ, pos, ◌+ℤ◌, ◌-ℤ◌, ◌*ℤ◌}
use Rattle.std.specs.Prelude.{nat_abs}
use Rattle.std.specs.Int.{w16}
use Rattle.std.specs.Int.RustNames.{FitsSigned}
use Rattle.mode_set.specs.StreamTable.{carriers}
use Rattle.mode_set.specs.declared.modes.Mode.{Mode}
use Rattle.pilots.specs.Reference.{reference}
use Rattle.qam_map.specs.Points.{distance}
use Rattle.qam_map.specs.declared.cell.Cell.{Cell}
use Rattle.pilots.specs.Around.{is_pilot}
use Rattle.cell_equal.specs.Equal.{blank, unturned, equalised}
use Rattle.cell_equal.specs.declared.equalised.Equalised.{Equalised}

-- the parts are values of a cell
pub record IsCell (c : Cell) : Type 0 where
  pub re : FitsSigned w16 c.re
  pub im : FitsSigned w16 c.im

-- a transmitted symbol: valid cells, and pilots with their signs (EN 300 744, 4.5.5)
pub record IsSent (m : Mode) (l : ℕ) (sent : ℕ → Cell) : Type 0 where
  pub cells : (k : ℕ) → k < carriers m → IsCell (sent k)
  pub pilots : (k : ℕ) → k < carriers m → IsTrue (is_pilot m l k) → sent k
      ≡ record { re = unturned (reference k) (pos 21845); im = pos 0 }

-- a gain of (a + b i) / 16384, at least half the nominal amplitude ..
abbrev pub IsStrong : ℤ → ℤ → Type 0
IsStrong a b = 2 ^ 26 ≤ nat_abs a ^ 2 + nat_abs b ^ 2

-- .. and at most the nominal amplitude
pub record IsFlat (a b : ℤ) : Type 0 where
  pub least : 2 ^ 26 ≤ nat_abs a ^ 2 + nat_abs b ^ 2
  pub most : nat_abs a ^ 2 + nat_abs b ^ 2 ≤ 2 ^ 28

-- the received cell is the sent one times the gain, within 1 on each axis
pub record CameThrough (a b : ℤ) (sent received : Cell) : Type 0 where
  pub re : distance (pos 16384 *ℤ received.re) (a *ℤ sent.re -ℤ b *ℤ sent.im) ≤ 16384
  pub im : distance (pos 16384 *ℤ received.im) (a *ℤ sent.im +ℤ b *ℤ sent.re) ≤ 16384

-- the corrected cell is within `most` of the sent one on each axis, and counts
pub record IsRestored (most : ℕ) (sent : Cell) (e : Equalised) : Type 0 where
  pub re : distance e.cell.re sent.re ≤ most
  pub im : distance e.cell.im sent.im ≤ most
  pub weight : 1 ≤ e.weight

-- symbol l was received complete through such a gain, and all its cells count
pub record HasCome (m : Mode) (a b : ℤ) (sent : ℕ → Cell) (received : List Cell) (weights : List ℕ) : Type 0 where
  pub cells : (k : ℕ) → k < carriers m → CameThrough a b (sent k) (get_or received k blank)
  pub counts : (k : ℕ) → k < carriers m → 1 ≤ slice_index weights k

-- after correction each of its carriers is that close
abbrev pub ComesBack : ℕ → Mode → ℕ → (ℕ → Cell) → List Cell → List ℕ → Type 0
ComesBack most m l sent received weights = (k : ℕ) → k < carriers m
    → IsRestored most (sent k) (equalised m l received weights k)

-- a symbol is restored from a flat channel ..
abbrev pub FlatGainIsRemoved : Type 0
FlatGainIsRemoved = (m : Mode) (l : ℕ) (a b : ℤ) (sent : ℕ → Cell) (received : List Cell) (weights : List ℕ)
    → IsFlat a b → IsSent m l sent → HasCome m a b sent received weights → ComesBack 64 m l sent received weights

-- .. and even closer for any gain, however strong
abbrev pub StrongGainIsRemoved : Type 0
StrongGainIsRemoved = (m : Mode) (l : ℕ) (a b : ℤ) (sent : ℕ → Cell) (received : List Cell) (weights : List ℕ)
    → IsStrong a b → IsSent m l sent → HasCome m a b sent received weights → ComesBack 17 m l sent received weights
