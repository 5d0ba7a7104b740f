-- The known facts on the payload carriers of both modes.
use Rattle.std.proofs.Common.{ℕ}
use Rattle.mode_set.specs.declared.modes.Mode.{Mode}
use Rattle.mode_set.specs.declared.modes.Mode.TheVariants.{M2k, M8k}
use Rattle.law_link.specs.Counted.{AreCounted}

pub both_modes : ((l : ℕ) → AreCounted M2k l) → ((l : ℕ) → AreCounted M8k l) → (m : Mode) (l : ℕ) → AreCounted m l
both_modes f g M2k l = f l
both_modes f g M8k l = g l
