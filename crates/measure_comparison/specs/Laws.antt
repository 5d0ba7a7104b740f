-- The laws of compared symbols. Each is the clause of a public function of module laws.
use Rattle.std.specs.Prelude.{◌≡◌, ℕ, Bool, List, [], ◌++◌}
use Rattle.mode_set.specs.declared.modes.Stream.{Stream}
use Rattle.mode_set.specs.declared.modes.Stream.TheVariants.{Hp, Lp}
use Rattle.conv_code.specs.Coded.{zeros}
use Rattle.measure_known_bits.specs.Seen.{KnownState}
use Rattle.measure_known_bits.specs.Laws.{nothing_known}
use Rattle.measure_comparison.specs.Seen.{ComparerState}
use Rattle.measure_comparison.specs.Standing.{StandsBefore}

-- before the first symbol, with registers of zeros and no known bit
abbrev pub StandsAtFirst : Type 0
StandsAtFirst = (x : ComparerState) (hp lp : KnownState) → x.next ≡ 0 → x.coder.hp ≡ zeros → x.coder.lp ≡ zeros → hp
    ≡ nothing_known → lp ≡ nothing_known
    → StandsBefore 0 x hp lp (λ σ. [])

-- more known bits of each stream are pending
abbrev pub MoreBitsKnown : Type 0
MoreBitsKnown = (m : ℕ) (x : ComparerState) (hp lp : KnownState) (known more : Stream → List Bool)
    → StandsBefore m x hp lp known
    → StandsBefore m x (record hp { waiting = hp.waiting ++ more Hp }) (record lp { waiting = lp.waiting ++ more Lp })
    (λ σ. known σ ++ more σ)
