-- Settings of the vectors.
use Rattle.std.proofs.Common.{refl, arith}
use Rattle.std.specs.Prelude.{Some, None}
use Rattle.mode_set.specs.Kept.{IsKept}
use Rattle.mode_set.specs.Plans.{no_plan}
use Rattle.mode_set.specs.declared.modes.Mode.TheVariants.{M2k}
use Rattle.mode_set.specs.declared.modes.Shape.TheVariants.{Qpsk, Qam16}
use Rattle.mode_set.specs.declared.modes.Hierarchy.TheVariants.{Flat, Alpha2}
use Rattle.mode_set.specs.declared.modes.Rate.{Rate}
use Rattle.mode_set.specs.declared.modes.Rate.TheVariants.{R1of2}
use Rattle.mode_set.specs.declared.modes.Guard.TheVariants.{G1of32}
use Rattle.mode_set.specs.declared.modes.Start.TheVariants.{Zero, Any}
use Rattle.mode_set.specs.declared.settings.Settings.{Settings}

pub kept_flat : IsKept Qpsk Flat None 1 1000000
kept_flat = record { qpsk = λ _. refl; lp = refl; some_worker = omega arith; few_workers = omega arith; some_symbol = omega arith }

pub kept_16 : (r : Rate) → IsKept Qam16 Alpha2 (Some r) 1 1000000
kept_16 r = record { qpsk = λ q. q; lp = refl; some_worker = omega arith; few_workers = omega arith; some_symbol = omega arith }

-- QPSK at 1/2 in the 2K mode
abbrev pub base : Settings
base = record { mode = M2k; shape = Qpsk; hierarchy = Flat; rate_hp = R1of2; rate_lp = None; guard = G1of32; cell_id = None; start = Zero; workers = 1; max_symbols = 1000000; plan = no_plan; kept = kept_flat }

-- the same, received from the middle on
abbrev pub midst : Settings
midst = record { mode = M2k; shape = Qpsk; hierarchy = Flat; rate_hp = R1of2; rate_lp = None; guard = G1of32; cell_id = None; start = Any; workers = 1; max_symbols = 1000000; plan = no_plan; kept = kept_flat }

-- 16-QAM with α = 2 in the 2K mode, HP at 1/2
abbrev pub layered : Rate → Settings
layered lp = record { mode = M2k; shape = Qam16; hierarchy = Alpha2; rate_hp = R1of2; rate_lp = Some lp; guard = G1of32; cell_id = None; start = Zero; workers = 1; max_symbols = 1000000; plan = no_plan; kept = kept_16 lp }
