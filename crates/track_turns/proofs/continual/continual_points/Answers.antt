-- The tables are computed.
use Rattle.std.proofs.Common.{◌≡◌, ℕ, ◌<◌, List, length, get_or, ap, sym, ◌∙◌, subst}
use Rattle.mode_set.specs.declared.modes.Mode.{Mode}
use Rattle.tracking.specs.Comb.{continual_points, points}
use Rattle.track_turns.specs.declared.continual.TheConstants.{CONTINUAL_2K, CONTINUAL_8K}
use Rattle.track_turns.proofs.Tables.{points_2k, points_8k, within_2k, within_8k}
use Rattle.track_turns.proofs.continual.continual_points.Goals as goal

pub returns-in-M2k-clause-is : goal.returns-in-M2k-clause-is
returns-in-M2k-clause-is c = points_2k ∙ ap continual_points (sym c.in-M2k.is)

pub returns-in-M2k-clause-within : goal.returns-in-M2k-clause-within
returns-in-M2k-clause-within c = subst (λ (m : Mode). (i : ℕ) → i < length CONTINUAL_2K → get_or CONTINUAL_2K i 0 < points m) (sym c.in-M2k.is) within_2k

pub returns-in-M8k-clause-is : goal.returns-in-M8k-clause-is
returns-in-M8k-clause-is c = points_8k ∙ ap continual_points (sym c.in-M8k.is)

pub returns-in-M8k-clause-within : goal.returns-in-M8k-clause-within
returns-in-M8k-clause-within c = subst (λ (m : Mode). (i : ℕ) → i < length CONTINUAL_8K → get_or CONTINUAL_8K i 0 < points m) (sym c.in-M8k.is) within_8k
