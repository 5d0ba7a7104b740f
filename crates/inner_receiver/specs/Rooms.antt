-- The greatest size of a stream in one symbol.
use Rattle.std.specs.Prelude.{ℕ, ◌*◌, ◌/◌, if◌then◌else◌}
use Rattle.mode_set.specs.StreamTable.{payload}
use Rattle.mode_set.specs.declared.modes.Mode.{Mode}
use Rattle.mode_set.specs.declared.modes.Stream.{Stream}
use Rattle.mode_set.specs.declared.modes.Stream.TheVariants.{Hp, Lp}
use Rattle.mode_set.specs.declared.settings.Settings.{Settings}
use Rattle.symbol_parameters.specs.Spans.{exists_in}

-- the most steps of a stream in a symbol, at rate 7/8: HP has at most six bits on each payload carrier, LP four
abbrev pub most_steps : Mode → Stream → ℕ
most_steps m Hp = 21 * payload m / 4
most_steps m Lp = 7 * payload m / 2

-- the same for these settings: 0 if the stream does not exist
abbrev pub most_pairs : Settings → Stream → ℕ
most_pairs s σ = if exists_in s σ then most_steps s.mode σ else 0
