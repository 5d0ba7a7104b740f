-- The state of a tracker: the symbols that it has received and given.
use Rattle.std.specs.Prelude.{◌≡◌, ℕ, ◌+◌, ◌-◌, ◌^◌, ◌≤◌, Bool, false, List, map, Option}
use Rattle.mode_set.specs.StreamTable.{carriers}
use Rattle.mode_set.specs.declared.modes.Mode.{Mode}
use Rattle.mode_set.specs.declared.settings.Settings.{Settings}
use Rattle.tracking.specs.Comb.{points}
use Rattle.tracking.specs.Tracking.{Symbol, comb}
use Rattle.track_motion.specs.Kept.{AreLow, KeepsChanges}
use Rattle.track_motion.specs.Means.{AreMeans, AreSmall}
use Rattle.track_motion.specs.declared.residues.Residues.{Residues}
use Rattle.track_pilots.specs.Window.{WindowState, StandsFor}
use Rattle.track_ring.specs.Ring.{RingState, Keeps}

-- space for the gains at the comb points, twice, and at all carriers
pub record HasRoom (m : Mode) (at_points turned at_carriers : ℕ) : Type 0 where
  pub gains : at_points ≡ points m
  pub centred : turned ≡ points m
  pub all : at_carriers ≡ carriers m

-- the visible state of a tracker
pub record TrackerState : Type 0 where
  pub settings : Settings
  pub window : WindowState
  pub ring : RingState
  pub means : Option Residues
  pub changes : List ℕ
  pub given : ℕ
  pub ended : Bool

-- before the end the last seven symbols are not yet given, after it at most these
pub record IsTracking (m : Mode) (t : TrackerState) : Type 0 where
  pub mode : t.settings.mode ≡ m
  pub same : t.ring.count ≡ t.window.count
  pub within : t.given ≤ t.window.count
  pub late : t.window.count ≤ t.given + 7
  pub going : t.ended ≡ false → t.given ≡ t.window.count - 7
  pub few : t.window.count ≤ 2 ^ 32
  pub small : AreSmall t.means
  pub low : AreLow t.changes

-- the symbols received
pub record Tracks (t : TrackerState) (symbols : List Symbol) : Type 0 where
  pub window : StandsFor t.settings.mode t.window (map (λ x. x.cells) symbols)
  pub ring : Keeps (carriers t.settings.mode) t.ring symbols
  pub means : AreMeans (comb t.settings symbols) (t.given - 1) t.means
  pub changes : KeepsChanges (comb t.settings symbols) t.changes
