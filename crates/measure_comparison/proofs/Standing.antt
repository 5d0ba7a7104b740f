-- Where a comparer stands.
use Rattle.std.proofs.Common.{◌++◌}
use Rattle.mode_set.specs.declared.modes.Stream.{Stream}
use Rattle.mode_set.specs.declared.modes.Stream.TheVariants.{Hp, Lp}
use Rattle.inner_chain.specs.Labels.{register_of}
use Rattle.measure_known_bits.specs.Passing.{HasPassed}
use Rattle.measure_known_bits.specs.Laws as measure_known_bits
use Rattle.measure_comparison.specs.Seen.{known_of}
use Rattle.measure_comparison.specs.Laws.{MoreBitsKnown}

pub more_known : measure_known_bits.MoreBitsKnown → MoreBitsKnown
more_known more m x hp lp known new h = record { next = h.next; streams = each }
  where
    each : (σ : Stream) → HasPassed x.settings σ m (known_of (record hp { waiting = hp.waiting ++ new Hp }) (record lp { waiting = lp.waiting ++ new Lp }) σ) (register_of x.coder σ) (known σ ++ new σ)
    each Hp = more x.settings Hp m hp (register_of x.coder Hp) (known Hp) (new Hp) (h.streams Hp)
    each Lp = more x.settings Lp m lp (register_of x.coder Lp) (known Lp) (new Lp) (h.streams Lp)
