-- Worked values of the definitions.
use Rattle.std.proofs.Common.{◌≡◌, refl}
use Rattle.spec_words.specs.Words.{numbers}
use Rattle.mode_set.specs.declared.modes.Mode.TheVariants.{M2k}
use Rattle.pilots.specs.Around.{pilot_below, pilot_above, is_pilot}
use Rattle.pilots.specs.Carriers.{kind, is_continual, is_scattered, is_tps, tps_carriers}

-- in symbol 0 carrier 50 is between two continual pilots, in symbol 1 carrier 5 between two scattered ones
pub below_50 : pilot_below M2k 0 50 ≡ 48
unfolding pilot_below is_pilot kind is_continual is_scattered is_tps tps_carriers numbers
below_50 = refl

pub above_50 : pilot_above M2k 0 50 ≡ 54
unfolding pilot_above is_pilot kind is_continual is_scattered is_tps tps_carriers numbers
above_50 = refl

pub below_5 : pilot_below M2k 1 5 ≡ 3
unfolding pilot_below is_pilot kind is_continual is_scattered is_tps tps_carriers numbers
below_5 = refl

pub above_5 : pilot_above M2k 1 5 ≡ 15
unfolding pilot_above is_pilot kind is_continual is_scattered is_tps tps_carriers numbers
above_5 = refl
