-- The answer of a modulator.
use Rattle.std.specs.Prelude.{Option, Some, None}
use Rattle.mode_set.specs.declared.modes.Stream.{Stream}
use Rattle.mode_set.specs.declared.modes.Stream.TheVariants as streams
use Rattle.modulator.specs.declared.want.Want.{Want}
use Rattle.modulator.specs.declared.want.Want.TheVariants.{Hp, Lp, Symbol}

-- a packet of a stream is wanted, or a symbol is ready
abbrev pub stream_of : Want → Option Stream
stream_of Hp = Some streams.Hp
stream_of Lp = Some streams.Lp
stream_of Symbol = None
