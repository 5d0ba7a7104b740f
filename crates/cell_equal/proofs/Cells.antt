-- A corrected cell is writable.
use Rattle.std.proofs.Common.{ℕ, ◌≤◌, arith, Bool, true, false}
use Rattle.std.specs.Prelude.{ℤ, pos, negsuc, ◌==◌, if◌then◌else◌, min}
use Rattle.std.specs.Int.{saturate_signed, w16}
use Rattle.std.specs.Int.RustNames.{FitsSigned}
use Rattle.std.proofs.lemmas.Int.{ints}
use Rattle.qam_map.specs.declared.cell.Cell.{Cell}
use Rattle.frame_build.specs.ReadBack.{IsWritable}
use Rattle.cell_equal.specs.Equal.{blank, power, divided, weight_of, corrected, CorrectedAreCells}
use Rattle.cell_equal.specs.declared.gain.Gain.{Gain}
use Rattle.cell_equal.specs.declared.equalised.Equalised.{Equalised}

in_range : (z : ℤ) → FitsSigned w16 (saturate_signed w16 z)
in_range (pos n) = omega (arith, ints)
in_range (negsuc n) = omega (arith, ints)

abbrev CanBe : Equalised → Type 0
CanBe e = IsWritable e.cell e.weight

few : (zero_before : Bool) (w : ℕ) → (if zero_before then 0 else min 15 w) ≤ 15
few true w = omega arith
few false w = omega arith

chosen : (nothing zero_before : Bool) (g : Gain) (c : Cell) → CanBe (if nothing then record { cell = blank; weight = 0 } else record { cell = divided g c; weight = if zero_before then 0 else weight_of g })
chosen true zero_before g c = record { re = omega (arith, ints); im = omega (arith, ints); weight_most = omega arith }
chosen false zero_before g c = record { re = in_range _; im = in_range _; weight_most = few zero_before _ }

pub corrected_are_cells : CorrectedAreCells
unfolding corrected
corrected_are_cells g c w = chosen (power g == 0) (w == 0) g c
