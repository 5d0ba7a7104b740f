-- The visible state of a modulator, and its meaning.
use Rattle.std.specs.Prelude.{◌≡◌, ℕ, ◌+◌, ◌/◌, ◌%◌, ◌^◌, ◌≤◌, Bool, List, [], ◌∷◌, ◌++◌, length, Option, Some, None}
use Rattle.std.specs.Prelude.{IfSome}
use Rattle.mode_set.specs.StreamTable.{payload}
use Rattle.mode_set.specs.declared.modes.Mode.{Mode}
use Rattle.mode_set.specs.declared.modes.Stream.{Stream}
use Rattle.mode_set.specs.declared.modes.Stream.TheVariants.{Hp, Lp}
use Rattle.mode_set.specs.declared.settings.Settings.{Settings}
use Rattle.outer_chain.specs.Sent.{packet_at}
use Rattle.outer_chain.specs.Sending.{Sender}
use Rattle.symbol_parameters.specs.Spans.{steps_before}
use Rattle.inner_chain.specs.Labels.{TxState, IsBefore}
use Rattle.frame_build.specs.State.{NextSymbol}
use Rattle.transmission.specs.Transmission.{Inputs, by_stream, paths_at}
use Rattle.transmission.specs.Agenda.{next_stream}
use Rattle.modulator.specs.Streams.{HoldsBits}

-- the parts of a modulator: the sender of each stream's outer code, the pending bits of each stream, the inner coder
pub record Parts : Type 0 where
  pub hp_sender : Sender
  pub lp_sender : Sender
  pub hp_waiting : List Bool
  pub lp_waiting : List Bool
  pub inner : TxState

-- the visible state: the settings, the symbols made, the packets put into each stream, and the parts, which contracts
-- only pass on
pub record Transmitter : Type 0 where
  pub settings : Settings
  pub made : ℕ
  pub hp : ℕ
  pub lp : ℕ
  pub parts : Parts

-- the packets put into a stream: 1632 bits each, used by symbols or pending
abbrev pub packets_in : ℕ → List Bool → ℕ
packets_in taken waiting = (taken + length waiting) / 1632

-- the visible state of these parts after this many symbols
abbrev pub transmitter : Settings → ℕ → Parts → Transmitter
transmitter s made parts = record {
  settings = s;
  made = made;
  hp = packets_in (steps_before s Hp made)
      parts.hp_waiting;
  lp = packets_in (steps_before s Lp made) parts.lp_waiting;
  parts = parts;
}

-- The invariant of a modulator. Its parts have the same settings and symbol, it has made at most 2^32 symbols, each
-- stream has whole packets, and there is space for the labels of a symbol.
pub record IsKept (m : Mode) (s : Settings) (made : ℕ) (parts : Parts) (next : NextSymbol) (room : ℕ) : Type 0 where
  pub mode : s.mode ≡ m
  pub inner : parts.inner.settings ≡ s
  pub hp_register : length parts.inner.hp ≡ 6
  pub lp_register : length parts.inner.lp ≡ 6
  pub out : next.settings ≡ s
  pub symbol : next.number ≡ made % 272
  pub few : made ≤ 2 ^ 32
  pub hp_whole : (steps_before s Hp made + length parts.hp_waiting) % 1632 ≡ 0
  pub lp_whole : (steps_before s Lp made + length parts.lp_waiting) % 1632 ≡ 0
  pub labels : payload s.mode ≤ room

-- the stream of the next packet to put; none if the next symbol has enough
abbrev pub wanted : Transmitter → Option Stream
wanted t = next_stream t.settings t.made t.hp t.lp

-- The packets put are the first ones of these streams, followed by null packets without end. The symbols made used the
-- first of their bits.
pub record HasPut (t : Transmitter) (inputs : Inputs) : Type 0 where
  pub settings : t.parts.inner.settings ≡ t.settings
  pub hp : HoldsBits t.parts.hp_sender t.parts.hp_waiting (inputs Hp) t.hp (steps_before t.settings Hp t.made)
  pub lp : HoldsBits t.parts.lp_sender t.parts.lp_waiting (inputs Lp) t.lp (steps_before t.settings Lp t.made)
  pub inner : IsBefore t.parts.inner (paths_at t.settings inputs t.made)

-- The packets put into the modulator are exactly these lists.
pub record StandsFor (t : Transmitter) (packets : Inputs) : Type 0 where
  pub hp : length (packets Hp) ≡ t.hp
  pub lp : length (packets Lp) ≡ t.lp
  pub put : HasPut t packets

-- the packet is the next wanted one of these streams
abbrev pub IsNext : Transmitter → Inputs → List ℕ → Type 0
IsNext t inputs packet = IfSome (wanted t) (λ σ. packet ≡ packet_at (inputs σ) (by_stream t.hp t.lp σ))

-- one more packet of a stream
abbrev pub with_packet : Inputs → Option Stream → List ℕ → Inputs
with_packet packets None p σ = packets σ
with_packet packets (Some Hp) p Hp = packets Hp ++ p ∷ []
with_packet packets (Some Hp) p Lp = packets Lp
with_packet packets (Some Lp) p Hp = packets Hp
with_packet packets (Some Lp) p Lp = packets Lp ++ p ∷ []

-- no packets of either stream
abbrev pub no_packets : Inputs
no_packets σ = []

-- the wanted stream has one more packet
abbrev pub HasOneMore : Option Stream → Transmitter → Transmitter → Type 0
HasOneMore None old new = (new.hp ≡ old.hp) × (new.lp ≡ old.lp)
HasOneMore (Some Hp) old new = (new.hp ≡ old.hp + 1) × (new.lp ≡ old.lp)
HasOneMore (Some Lp) old new = (new.hp ≡ old.hp) × (new.lp ≡ old.lp + 1)
