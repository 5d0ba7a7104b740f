-- The work of a modulation, symbol by symbol.
use Rattle.std.specs.Prelude.{◌≡◌, ◌≢◌, ◌⊎◌, ℕ, ◌-◌, ◌*◌, ◌/◌, ◌<◌, ◌≤◌, List, [], ◌++◌, length, take, drop, true}
use Rattle.std.specs.Prelude.{Option, Some, None, is_some, Result, Ok, Err}
use Rattle.std.specs.Option.{option_map}
use Rattle.station_core.specs.Meaning.{Meaning}
use Rattle.mode_set.specs.declared.modes.Stream.{Stream}
use Rattle.mode_set.specs.declared.modes.Stream.TheVariants.{Hp, Lp}
use Rattle.mode_set.specs.declared.settings.Settings.{Settings}
use Rattle.transmission.specs.Transmission.{Inputs, by_stream}
use Rattle.transmission.specs.SuperFrames.{super_frames, symbols_of}
use Rattle.outer_chain.specs.Sent.{packet_at}
use Rattle.transmission.specs.Agenda.{packet_refusal}
use Rattle.transmission.specs.AgendaLaws.{IsAt}
use Rattle.cmd_base.specs.declared.refusal.Refusal.{Refusal}
use Rattle.cmd_base.specs.declared.refusal.Refusal.TheVariants.{ReadFault, WriteFault}
use Rattle.cmd_base.specs.Packets.{most_packets_taken}
use Rattle.cmd_modulate.specs.ModulateCommand.{HoldsSymbolsSoFar, cells_sent, inputs_of, modulation_refusal, refused_by}
use Rattle.cmd_modulate.specs.ModulateCommand.{transmission_counts, file_of_symbols}
use Rattle.cmd_modulate.specs.declared.counts.TransmissionCounts.{TransmissionCounts}
use Rattle.cmd_modulate.specs.declared.inputs.PacketInputs.{PacketInputs}
use Rattle.cmd_modulate.specs.declared.input.PacketInput.{PacketInput}
use Rattle.cmd_modulate.specs.Inputs.{IsNear, Reads, left_of}
use Rattle.cmd_modulate.specs.Seen.{Seen, with_one}

-- an input that has not reached its end is attached
pub record AreOpen (inputs : PacketInputs) (m : Meaning) : Type 0 where
  pub hp : inputs.hp.tail ≡ None → m.hp.attached ≡ true
  pub lp : inputs.lp.tail ≡ None → m.lp.attached ≡ true

-- at most as many packets as the limit were taken from either input
pub record AreWithin (limit : ℕ) (inputs : PacketInputs) : Type 0 where
  pub hp : inputs.hp.taken ≤ limit
  pub lp : inputs.lp.taken ≤ limit

-- only the bytes left of the inputs and the count of read faults have changed
abbrev pub KeepsOutputs : Meaning → Meaning → Type 0
KeepsOutputs old new = new ≡ record old {
  hp = record old.hp { left = new.hp.left };
  lp = record old.lp
      { left = new.lp.left };
  read_faults = new.read_faults;
}

-- only the bytes left of the inputs, the bytes written and pending at Cells, and the counts of faults have changed
abbrev pub KeepsOthers : Meaning → Meaning → Type 0
KeepsOthers old new = new ≡ record old {
  hp = record old.hp { left = new.hp.left };
  lp = record old.lp { left = new.lp.left };
  cells_out = record old.cells_out { written = new.cells_out.written };
  read_faults = new.read_faults;
  write_faults = new.write_faults;
  pending = new.pending;
}

-- both inputs were read as far as their packets were put
pub record BothRead (files : Stream → List ℕ) (m : Meaning) (inputs : PacketInputs) (t : Seen) : Type 0 where
  pub hp : Reads (files Hp) (left_of m Hp) inputs.hp t.hp
  pub lp : Reads (files Lp) (left_of m Lp) inputs.lp t.lp

-- the number of whole packets taken from a file compared with those put: the same, except for null packets after its
-- end
pub record TellsPut (file left : List ℕ) (input : PacketInput) (put : ℕ) : Type 0 where
  pub all : input.tail ≡ None → (length file - length left) / 188 ≡ put
  pub most : (length file - length left) / 188 ≤ put
  pub none : is_some input.tail ≡ true → left ≡ []

-- the same for both streams
pub record BothTell (files : Stream → List ℕ) (m : Meaning) (inputs : PacketInputs) (t : Seen) : Type 0 where
  pub hp : TellsPut (files Hp) (left_of m Hp) inputs.hp t.hp
  pub lp : TellsPut (files Lp) (left_of m Lp) inputs.lp t.lp

-- the bytes taken from either input are at most some whole packets, which were put, and one packet more
pub record AreNear (files : Stream → List ℕ) (m : Meaning) (t : Seen) : Type 0 where
  pub hp : IsNear (files Hp) (left_of m Hp) t.hp
  pub lp : IsNear (files Lp) (left_of m Lp) t.lp

-- at most the bytes that a run may take were taken from a file
abbrev pub TakesFew : ℕ → List ℕ → List ℕ → Type 0
TakesFew limit file left = (k : ℕ) × (k ≤ most_packets_taken limit file) × (left ≡ drop k file)

-- the same for both files
pub record TakeFew (limit : ℕ) (files left : Stream → List ℕ) : Type 0 where
  pub hp : TakesFew limit (files Hp) (left Hp)
  pub lp : TakesFew limit (files Lp) (left Lp)

-- the next packet of a stream, or why there is none
abbrev pub GivesOf : ℕ → (Stream → List ℕ) → Stream → Seen → Meaning → PacketInputs → Result (List ℕ) Refusal → Type 0
GivesOf limit files σ t m inputs (Ok packet) =
    (packet ≡ packet_at (inputs_of files σ) (by_stream t.hp t.lp σ))
    × (packet_refusal limit (inputs_of files) σ (by_stream t.hp t.lp σ) ≡ None)
    × BothRead files m inputs (with_one σ t)
GivesOf limit files σ t m inputs (Err ReadFault) = ((by_stream inputs.hp inputs.lp σ).tail ≡ None)
    × BothTell files m inputs t × AreNear files m t
GivesOf limit files σ t m inputs (Err refusal) =
    (option_map refused_by (packet_refusal limit (inputs_of files) σ (by_stream t.hp t.lp σ)) ≡ Some refusal)
    × AreNear files m t

-- The work is at a point of its order before any refusal, and the transmitter has had the packets of both inputs as far
-- as they were read.
pub record IsAtWork (limit : ℕ) (files : Stream → List ℕ) (m : Meaning) (inputs : PacketInputs) (t : Seen)
    (put : Inputs → Type 0) : Type 0 where
  pub at : IsAt t.settings limit (inputs_of files) t.made t.hp t.lp
  pub stands : put (inputs_of files)
  pub read : BothRead files m inputs t

-- the next symbol belongs to the transmission, and is within the limit of symbols
pub record IsDue (files : Stream → List ℕ) (t : Seen) : Type 0 where
  pub more : t.made < symbols_of t.settings (inputs_of files)
  pub within : t.made < t.settings.max_symbols

-- why the work stops before a symbol: the first refusal of all, or a failed read
abbrev pub Stops : ℕ → (Stream → List ℕ) → Meaning → Seen → Refusal → Type 0
Stops limit files m t ReadFault = HoldsSymbolsSoFar t.settings limit files (left_of m) (file_of_symbols t.settings
    (inputs_of files) t.made)
Stops limit files m t WriteFault = ⊥
Stops limit files m t refusal =
    (modulation_refusal t.settings limit (inputs_of files) ≡ Some refusal)
    × (cells_sent t.settings limit (inputs_of files) ≡ file_of_symbols t.settings (inputs_of files) t.made)

-- the work continues or stops
abbrev pub GoesOn : ℕ → (Stream → List ℕ) → Meaning → PacketInputs → Seen → (Inputs → Type 0)
    → Result (Unit {0}) Refusal → Type 0
GoesOn limit files m inputs t put (Ok u) = IsAtWork limit files m inputs t put
GoesOn limit files m inputs t put (Err refusal) = Stops limit files m t refusal × TakeFew limit files (left_of m)

-- the bytes at Cells if the work ends with a refusal
abbrev pub Ends : Settings → ℕ → (Stream → List ℕ) → Meaning → Refusal → Type 0
Ends s limit files m ReadFault = HoldsSymbolsSoFar s limit files (left_of m) m.cells_out.written
Ends s limit files m WriteFault = (k : ℕ) × (m.cells_out.written ≡ take k (cells_sent s limit (inputs_of files)))
Ends s limit files m refusal =
    (modulation_refusal s limit (inputs_of files) ≡ Some refusal)
    × (m.cells_out.written ≡ cells_sent s limit (inputs_of files))

-- only the bytes written and pending at Cells, and the count of write faults have changed
abbrev pub WritesCells : Meaning → Meaning → Type 0
WritesCells old new = new ≡ record old {
  cells_out = record old.cells_out { written = new.cells_out.written };
  write_faults = new.write_faults;
  pending = new.pending;
}

-- these bytes were written, or a prefix of them
abbrev pub WritesBytes : List ℕ → Meaning → Meaning → Result (Unit {0}) Refusal → Type 0
WritesBytes bytes old new (Ok u) = new.cells_out.written ≡ old.cells_out.written ++ bytes
WritesBytes bytes old new (Err refusal) = (refusal ≡ WriteFault) × (k : ℕ)
    × (new.cells_out.written ≡ old.cells_out.written ++ take k bytes)

-- the header and the symbols made were written
pub record IsWritten (limit : ℕ) (files : Stream → List ℕ) (m : Meaning) (inputs : PacketInputs) (t : Seen)
    (put : Inputs → Type 0) : Type 0 where
  pub work : IsAtWork limit files m inputs t put
  pub written : m.cells_out.written ≡ file_of_symbols t.settings (inputs_of files) t.made

-- one more symbol, or a refusal
abbrev pub Sends : ℕ → (Stream → List ℕ) → Meaning → PacketInputs → Seen → (Inputs → Type 0) → Result (Unit {0}) Refusal
    → Type 0
Sends limit files m inputs t put (Ok u) = IsWritten limit files m inputs t put
Sends limit files m inputs t put (Err refusal) = Ends t.settings limit files m refusal × TakeFew limit files (left_of m)

-- the counts, once all inputs have ended and exactly their super-frames were sent
abbrev pub CountsAt : Settings → PacketInputs → ℕ → Option TransmissionCounts → Type 0
CountsAt s inputs symbols (Some counts) =
    (inputs.hp.tail ≡ Some counts.hp.tail) × (counts.hp.packets ≡ inputs.hp.taken)
    × (inputs.lp.tail ≡ Some counts.lp.tail) × (counts.lp.packets ≡ inputs.lp.taken)
    × (super_frames s (by_stream inputs.hp.taken inputs.lp.taken) ≡ Some counts.super_frames)
    × (symbols ≡ 272 * counts.super_frames)
CountsAt s inputs symbols None =
    (inputs.hp.tail ≡ None) ⊎ ((inputs.lp.tail ≡ None) ⊎ ((n : ℕ) → super_frames s
    (by_stream inputs.hp.taken inputs.lp.taken) ≡ Some n → symbols ≢ 272 * n))

-- the whole work
abbrev pub Modulates : Settings → ℕ → (Stream → List ℕ) → Meaning → Result TransmissionCounts Refusal → Type 0
Modulates s limit files m (Ok counts) =
    (counts ≡ transmission_counts s files) × (left_of m Hp ≡ []) × (left_of m Lp ≡ [])
    × (modulation_refusal s limit (inputs_of files) ≡ None) × (m.cells_out.written ≡ cells_sent s limit
    (inputs_of files)) × TakeFew limit files (left_of m)
Modulates s limit files m (Err refusal) = Ends s limit files m refusal × TakeFew limit files (left_of m)
