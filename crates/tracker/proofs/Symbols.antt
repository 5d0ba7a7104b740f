-- What the calls for a symbol give, in the words of the definitions.
use Rattle.std.proofs.Common.{◌≡◌, ℕ, List, length, map, ap, sym, ◌∙◌}
use Rattle.std.specs.Prelude.{Option}
use Rattle.std.proofs.lemmas.List.{length-map}
use Rattle.mode_set.specs.declared.modes.Guard.{Guard}
use Rattle.mode_set.specs.declared.modes.Mode.{Mode}
use Rattle.mode_set.specs.declared.settings.Settings.{Settings}
use Rattle.qam_map.specs.declared.cell.Cell.{Cell}
use Rattle.tracking.specs.BadSymbols.{middle}
use Rattle.tracking.specs.Comb.{Comb, comb_of}
use Rattle.tracking.specs.InFrequency.{carrier_gain}
use Rattle.tracking.specs.InTime.{point_gain}
use Rattle.tracking.specs.Moving.{mean_residue, motion, motion_of}
use Rattle.tracking.specs.Tracking.{Symbol, comb, gain}
use Rattle.tracking.specs.declared.motion.Motion.TheVariants.{Slow}
use Rattle.track_motion.specs.Means.{AreMeans, slow_of, fast_of}
use Rattle.track_motion.specs.declared.residues.Residues.{Residues}
use Rattle.track_arithmetic.specs.declared.complex.Complex.{Complex}
use Rattle.track_cells.specs.Gains.{gain_of}

pub motion_is : (g : Guard) (c : Comb) (m : ℕ) (means : Option Residues) → AreMeans c m means → motion_of g (slow_of means) (fast_of means) ≡ motion g c m
unfolding motion
motion_is g c m means are = ap (λ (z : Option ℕ). motion_of g z (fast_of means)) are.slow ∙ ap (motion_of g (mean_residue c Slow m)) are.fast

pub gain_is : (s : Settings) (symbols : List Symbol) (mode : Mode) (m k : ℕ) (gains all : List Complex) → s.mode ≡ mode → gains ≡ all → gain_of all k ≡ carrier_gain s.guard mode (point_gain s.guard (comb_of mode (map (λ (x : Symbol). x.cells) symbols)) m) k
    → gain_of gains k ≡ gain s (comb s symbols) m k
unfolding gain
gain_is s symbols mode m k gains all es ea e =
    ap (λ (z : List Complex). gain_of z k) ea ∙ e ∙ ap (λ (z : Mode). carrier_gain s.guard z (point_gain s.guard (comb_of z (map (λ (x : Symbol). x.cells) symbols)) m) k) (sym es)

pub middle_in : (mode other : Mode) (cells : List (List Cell)) (m : ℕ) → mode ≡ other → middle (comb_of mode cells) m ≡ middle (comb_of other cells) m
middle_in mode other cells m e = ap (λ (z : Mode). middle (comb_of z cells) m) e

pub length_of : (symbols : List Symbol) → length (map (λ (x : Symbol). x.cells) symbols) ≡ length symbols
length_of symbols = length-map symbols (λ (x : Symbol). x.cells)
