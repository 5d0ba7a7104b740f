-- The inputs of a modulation, packet by packet.
use Rattle.std.specs.Prelude.{◌≡◌, ℕ, ◌+◌, ◌-◌, ◌*◌, ◌/◌, ◌≤◌, if◌then◌else◌, List, [], length, drop, Option, Some}
use Rattle.std.specs.Prelude.{None, Result, Ok, Err, ⊤}
use Rattle.std.specs.Option.{option_map}
use Rattle.station_core.specs.Meaning.{Meaning}
use Rattle.station_core.specs.declared.ports.InPort.{InPort}
use Rattle.station_core.specs.declared.ports.InPort.TheVariants as ins
use Rattle.mode_set.specs.declared.modes.Stream.{Stream}
use Rattle.mode_set.specs.declared.modes.Stream.TheVariants.{Hp, Lp}
use Rattle.outer_chain.specs.Sent.{packet_at}
use Rattle.transmission.specs.Agenda.{packet_refusal}
use Rattle.transmission.specs.Transmission.{by_stream}
use Rattle.cmd_base.specs.declared.refusal.Refusal.{Refusal}
use Rattle.cmd_base.specs.declared.refusal.Refusal.TheVariants.{ReadFault, NotSync, Limit}
use Rattle.cmd_base.specs.Packets.{whole_packets, tail_of}
use Rattle.cmd_modulate.specs.ModulateCommand.{inputs_of, refused_by}
use Rattle.cmd_modulate.specs.declared.input.PacketInput.{PacketInput}

-- the input port of a stream
abbrev pub port_of : Stream → InPort
port_of Hp = ins.Hp
port_of Lp = ins.Lp

-- the bytes left to read of a stream, if its file was opened
abbrev pub lp_left : Meaning → List ℕ
lp_left m = if m.lp.attached then m.lp.left else []

-- the bytes left to read of each stream
abbrev pub left_of : Meaning → Stream → List ℕ
left_of m = by_stream m.hp.left (lp_left m)

-- only the bytes left at the port of a stream and the count of read faults have changed
abbrev pub ReadsAt : Stream → Meaning → Meaning → Type 0
ReadsAt Hp old new = new ≡ record old { hp = record old.hp { left = new.hp.left }; read_faults = new.read_faults }
ReadsAt Lp old new = new ≡ record old { lp = record old.lp { left = new.lp.left }; read_faults = new.read_faults }

-- the bytes left of a file after `taken` packets, and the number of packets put, including null packets after its end
abbrev pub HasLeft : List ℕ → List ℕ → ℕ → Option ℕ → ℕ → Type 0
HasLeft file left taken None put = (left ≡ drop (188 * taken) file) × (put ≡ taken)
HasLeft file left taken (Some tail) put = (left ≡ []) × (taken ≡ whole_packets file) × (tail ≡ tail_of file)
    × (taken ≤ put)

-- an input has read so far in a file, and `put` packets of it were put
pub record Reads (file left : List ℕ) (input : PacketInput) (put : ℕ) : Type 0 where
  pub within : 188 * input.taken ≤ length file
  pub rest : HasLeft file left input.taken input.tail put

-- the bytes taken from a file are at most some whole packets, all of which were put, and one packet more
pub record IsNear (file left : List ℕ) (put : ℕ) : Type 0 where
  pub bytes : ℕ
  pub packets : ℕ
  pub few : bytes ≤ 188 * (packets + 1)
  pub were_put : packets ≤ put
  pub whole : packets ≤ whole_packets file
  pub left_is : left ≡ drop bytes file

-- bytes read are a packet, the end, or a rejected packet
abbrev pub IsTaking : Result (List ℕ) Refusal → Type 0
IsTaking (Ok packet) = ⊤
IsTaking (Err (NotSync stream n)) = ⊤
IsTaking (Err (Limit n)) = ⊤
IsTaking (Err refusal) = ⊥

-- The next packet of a stream after `put` packets, or why there is none. After a failed read the whole packets taken
-- are those that were put.
abbrev pub Gives : ℕ → (Stream → List ℕ) → Stream → ℕ → List ℕ → PacketInput → Result (List ℕ) Refusal → Type 0
Gives limit files σ put left input (Ok packet) =
    (packet ≡ packet_at (inputs_of files σ) put) × (packet_refusal limit (inputs_of files) σ put ≡ None)
    × Reads (files σ) left input (put + 1)
Gives limit files σ put left input (Err ReadFault) = (input.tail ≡ None)
    × ((length (files σ) - length left) / 188 ≡ put) × IsNear (files σ) left put
Gives limit files σ put left input (Err refusal) = (option_map refused_by (packet_refusal limit (inputs_of files) σ put)
    ≡ Some refusal) × IsNear (files σ) left put
