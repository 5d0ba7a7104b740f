-- The tables are the list of the mode.
use Rattle.std.proofs.Common.{ℕ, ◌<◌, ◌≤◌, List, length, sym, ap, subst}
use Rattle.std.specs.Prelude.{All}
use Rattle.spec_words.specs.Words.{numbers}
use Rattle.mode_set.specs.StreamTable.{carriers}
use Rattle.pilots.specs.Carriers.{tps_carriers}
use Rattle.pilots.proofs.TpsCarriers.{few_carriers, carriers_within}
use Rattle.pilots.proofs.kinds.tps_carriers.Goals as goal

pub returns-in-M2k-clause-carriers : goal.returns-in-M2k-clause-carriers
unfolding tps_carriers
returns-in-M2k-clause-carriers c = sym (ap tps_carriers c.in-M2k.is)

pub returns-in-M2k-clause-few : goal.returns-in-M2k-clause-few
unfolding tps_carriers
returns-in-M2k-clause-few c = subst (λ (z : List ℕ). length z ≤ 68) (ap tps_carriers c.in-M2k.is) (few_carriers c.args.mode)

pub returns-in-M2k-clause-within : goal.returns-in-M2k-clause-within
unfolding tps_carriers
returns-in-M2k-clause-within c = subst (λ (z : List ℕ). All (λ k. k < carriers c.args.mode) z) (ap tps_carriers c.in-M2k.is) (carriers_within c.args.mode)

pub returns-in-M8k-clause-carriers : goal.returns-in-M8k-clause-carriers
unfolding tps_carriers numbers
returns-in-M8k-clause-carriers c = sym (ap tps_carriers c.in-M8k.is)

pub returns-in-M8k-clause-few : goal.returns-in-M8k-clause-few
unfolding tps_carriers numbers
returns-in-M8k-clause-few c = subst (λ (z : List ℕ). length z ≤ 68) (ap tps_carriers c.in-M8k.is) (few_carriers c.args.mode)

pub returns-in-M8k-clause-within : goal.returns-in-M8k-clause-within
unfolding tps_carriers numbers
returns-in-M8k-clause-within c = subst (λ (z : List ℕ). All (λ k. k < carriers c.args.mode) z) (ap tps_carriers c.in-M8k.is) (carriers_within c.args.mode)
