-- A modulator as the work sees it.
use Rattle.std.specs.Prelude.{ℕ, ◌+◌, Option}
use Rattle.mode_set.specs.declared.modes.Stream.{Stream}
use Rattle.mode_set.specs.declared.modes.Stream.TheVariants.{Hp, Lp}
use Rattle.mode_set.specs.declared.settings.Settings.{Settings}
use Rattle.transmission.specs.Agenda.{next_stream}
use Rattle.modulator.specs.State.{Transmitter}

-- its settings, the symbols made, and the packets put into each stream
pub record Seen : Type 0 where
  pub settings : Settings
  pub made : ℕ
  pub hp : ℕ
  pub lp : ℕ

-- the visible state of a modulator without its parts
abbrev pub seen_of : Transmitter → Seen
seen_of t = record { settings = t.settings; made = t.made; hp = t.hp; lp = t.lp }

-- the stream of the next packet to put; none if the next symbol has enough
abbrev pub wanted : Seen → Option Stream
wanted t = next_stream t.settings t.made t.hp t.lp

-- one more packet of a stream
abbrev pub with_one : Stream → Seen → Seen
with_one Hp t = record t { hp = t.hp + 1 }
with_one Lp t = record t { lp = t.lp + 1 }
