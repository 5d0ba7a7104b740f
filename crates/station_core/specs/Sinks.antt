-- The meaning of an output port of a station in memory.
use Rattle.std.specs.Option.{option_copied}
use Rattle.station_core.specs.Meaning.{Sink}
use Rattle.station_core.specs.declared.sink.Writing.{Writing}

-- the state of an output port
abbrev pub sink_of : Writing → Sink
sink_of w = record { asked = option_copied w.asked; created = w.created; closed = w.closed; written = w.bytes.items }
