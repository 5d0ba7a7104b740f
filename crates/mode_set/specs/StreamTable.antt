-- The streams of a transmission, and the size of a symbol and a super-frame in each.
use Rattle.std.specs.Prelude.{ℕ, ◌+◌, ◌-◌, ◌*◌, ◌/◌, Bool, true, not, if◌then◌else◌, unwrap_or}
use Rattle.mode_set.specs.Kept.{is_flat}
use Rattle.mode_set.specs.declared.modes.Mode.{Mode}
use Rattle.mode_set.specs.declared.modes.Mode.TheVariants.{M2k, M8k}
use Rattle.mode_set.specs.declared.modes.Shape.{Shape}
use Rattle.mode_set.specs.declared.modes.Shape.TheVariants.{Qpsk, Qam16, Qam64}
use Rattle.mode_set.specs.declared.modes.Hierarchy.{Hierarchy}
use Rattle.mode_set.specs.declared.modes.Rate.{Rate}
use Rattle.mode_set.specs.declared.modes.Rate.TheVariants.{R1of2, R2of3, R3of4, R5of6, R7of8}
use Rattle.mode_set.specs.declared.modes.Stream.{Stream}
use Rattle.mode_set.specs.declared.modes.Stream.TheVariants.{Hp, Lp}
use Rattle.mode_set.specs.declared.settings.Settings.{Settings}

-- K, the carriers of a symbol
abbrev pub carriers : Mode → ℕ
carriers M2k = 1705
carriers M8k = 6817

-- Nmax, the payload carriers of a symbol
abbrev pub payload : Mode → ℕ
payload M2k = 1512
payload M8k = 6048

-- v, the bits of a label
abbrev pub label_bits : Shape → ℕ
label_bits Qpsk = 2
label_bits Qam16 = 4
label_bits Qam64 = 6

-- HP always exists, LP exactly if there is a hierarchy
abbrev pub has_stream : Hierarchy → Stream → Bool
has_stream h Hp = true
has_stream h Lp = not (is_flat h)

-- the bits of a label that carry a stream
abbrev pub width : Shape → Hierarchy → Stream → ℕ
width s h Hp = if is_flat h then label_bits s else 2
width s h Lp = if is_flat h then 0 else label_bits s - 2

-- a rate k/n takes k input bits ..
abbrev pub steps_in_period : Rate → ℕ
steps_in_period R1of2 = 1
steps_in_period R2of3 = 2
steps_in_period R3of4 = 3
steps_in_period R5of6 = 5
steps_in_period R7of8 = 7

-- .. to n coded bits, one more
abbrev pub sent_in_period : Rate → ℕ
sent_in_period r = steps_in_period r + 1

-- the code rate of a stream
abbrev pub rate : Settings → Stream → Rate
rate s Hp = s.rate_hp
rate s Lp = unwrap_or s.rate_lp R1of2

-- the coded bits of a symbol
abbrev pub coded : Settings → Stream → ℕ
coded s σ = payload s.mode * width s.shape s.hierarchy σ

-- the input bits of a symbol, one for each step
abbrev pub need : Settings → Stream → ℕ
need s σ = coded s σ * steps_in_period (rate s σ) / sent_in_period (rate s σ)

-- P, the outer words of 1632 bits in the 272 symbols of a super-frame
abbrev pub words_per_super_frame : Settings → Stream → ℕ
words_per_super_frame s σ = 272 * need s σ / 1632
