-- Settings of the vectors.
use Rattle.std.proofs.Common.{refl, arith}
use Rattle.std.specs.Prelude.{Some, None}
use Rattle.mode_set.specs.Kept.{IsKept}
use Rattle.mode_set.specs.Plans.{no_plan}
use Rattle.mode_set.specs.declared.modes.Mode.{Mode}
use Rattle.mode_set.specs.declared.modes.Shape.{Shape}
use Rattle.mode_set.specs.declared.modes.Shape.TheVariants.{Qam16, Qam64}
use Rattle.mode_set.specs.declared.modes.Hierarchy.TheVariants.{Flat, Alpha2}
use Rattle.mode_set.specs.declared.modes.Rate.{Rate}
use Rattle.mode_set.specs.declared.modes.Guard.TheVariants.{G1of32}
use Rattle.mode_set.specs.declared.modes.Start.TheVariants.{Zero}
use Rattle.mode_set.specs.declared.settings.Settings.{Settings}

pub kept_flat : (shape : Shape) → IsKept shape Flat None 1 1000000
kept_flat shape = record { qpsk = λ _. refl; lp = refl; some_worker = omega arith; few_workers = omega arith; some_symbol = omega arith }

pub kept_271 : (shape : Shape) → IsKept shape Flat None 1 271
kept_271 shape = record { qpsk = λ _. refl; lp = refl; some_worker = omega arith; few_workers = omega arith; some_symbol = omega arith }

pub kept_16 : (r : Rate) → IsKept Qam16 Alpha2 (Some r) 1 1000000
kept_16 r = record { qpsk = λ q. q; lp = refl; some_worker = omega arith; few_workers = omega arith; some_symbol = omega arith }

pub kept_64 : (r : Rate) → IsKept Qam64 Alpha2 (Some r) 1 1000000
kept_64 r = record { qpsk = λ q. q; lp = refl; some_worker = omega arith; few_workers = omega arith; some_symbol = omega arith }

-- settings without a hierarchy
abbrev pub flat : Mode → Shape → Rate → Settings
flat mode shape rate = record { mode = mode; shape = shape; hierarchy = Flat; rate_hp = rate; rate_lp = None; guard = G1of32; cell_id = None; start = Zero; workers = 1; max_symbols = 1000000; plan = no_plan; kept = kept_flat shape }

-- the same with a limit of 271 symbols
abbrev pub limited : Mode → Shape → Rate → Settings
limited mode shape rate = record { mode = mode; shape = shape; hierarchy = Flat; rate_hp = rate; rate_lp = None; guard = G1of32; cell_id = None; start = Zero; workers = 1; max_symbols = 271; plan = no_plan; kept = kept_271 shape }

-- settings with α = 2
abbrev pub two_16 : Mode → Rate → Rate → Settings
two_16 mode hp lp = record { mode = mode; shape = Qam16; hierarchy = Alpha2; rate_hp = hp; rate_lp = Some lp; guard = G1of32; cell_id = None; start = Zero; workers = 1; max_symbols = 1000000; plan = no_plan; kept = kept_16 lp }

abbrev pub two_64 : Mode → Rate → Rate → Settings
two_64 mode hp lp = record { mode = mode; shape = Qam64; hierarchy = Alpha2; rate_hp = hp; rate_lp = Some lp; guard = G1of32; cell_id = None; start = Zero; workers = 1; max_symbols = 1000000; plan = no_plan; kept = kept_64 lp }
