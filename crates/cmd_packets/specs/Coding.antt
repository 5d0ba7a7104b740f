-- The work of a command that codes the packets of HP in order: the input left and the bytes written, for each result.
-- `coded n input` is the output for the first n packets of an input.
use Rattle.std.specs.Prelude.{◌⊎◌, length, ◌/◌, ◌≡◌, ◌<◌, ◌≤◌, ◌+◌, ◌-◌, ◌*◌, ◌++◌, ℕ, List, [], take, drop, Result, Ok}
use Rattle.std.specs.Prelude.{Err, Option, None, Some, true, false, ⊤}
use Rattle.station_core.specs.Meaning.{Meaning}
use Rattle.mode_set.specs.declared.modes.Stream.TheVariants.{Hp}
use Rattle.cmd_base.specs.declared.counts.Counts.{Counts}
use Rattle.cmd_base.specs.declared.refusal.Refusal.{Refusal}
use Rattle.cmd_base.specs.declared.refusal.Refusal.TheVariants.{Usage, Settings, ReadFault, WriteFault, NotSync, Memory}
use Rattle.cmd_base.specs.declared.refusal.Refusal.TheVariants.{Limit, Cells}
use Rattle.cmd_base.specs.Packets.{first_packets, whole_packets, is_sync, AcceptsFirst, counts_of}

-- only the bytes left of HP, the bytes written and pending at Bytes, and the counts have changed
abbrev pub KeepsOthers : Meaning → Meaning → Type 0
KeepsOthers old new = new ≡ record old {
  hp = record old.hp { left = new.hp.left };
  bytes_out = record old.bytes_out { written = new.bytes_out.written };
  read_faults = new.read_faults;
  write_faults = new.write_faults;
  pending = new.pending;
}

-- One packet of the input left, with output `piece`: the input then left, and the bytes written
abbrev pub Step : ℕ → List ℕ → List ℕ → List ℕ → List ℕ → List ℕ → Result (Option ℕ) Refusal → Type 0
Step number piece input before left after (Ok None) =
    (188 ≤ length input) × (is_sync input 0 ≡ true) × (left ≡ drop 188 input) × (after ≡ before ++ piece)
Step number piece input before left after (Ok (Some tail)) =
    (tail < 188) × (tail ≡ length input) × (left ≡ []) × (after ≡ before)
Step number piece input before left after (Err (NotSync stream n)) =
    (stream ≡ Hp) × (n ≡ number) × (188 ≤ length input) × (is_sync input 0 ≡ false) × (left ≡ drop 188 input)
    × (after ≡ before)
Step number piece input before left after (Err (Limit n)) = ⊥
Step number piece input before left after (Err ReadFault) =
    (k : ℕ) × (k < 188) × (k ≤ length input) × (left ≡ drop k input) × (after ≡ before)
Step number piece input before left after (Err WriteFault) =
    (k : ℕ) × (188 ≤ length input) × (is_sync input 0 ≡ true) × (left ≡ drop 188 input)
    × (after ≡ before ++ take k piece)
Step number piece input before left after (Err Usage) = ⊥
Step number piece input before left after (Err (Cells reason)) = ⊥
Step number piece input before left after (Err (Settings reason)) = ⊥
Step number piece input before left after (Err Memory) = ⊥

-- the packet was taken, and its output was written, or a prefix of it
abbrev pub OnTaken : Result (Option ℕ) Refusal → Type 0 → Type 0
OnTaken (Ok None) P = P
OnTaken (Err WriteFault) P = P
OnTaken answer P = ⊤

-- The end of the input, or one packet more, after as many as the limit
abbrev pub EndsAtLimit : ℕ → List ℕ → List ℕ → List ℕ → List ℕ → Result Counts Refusal → Type 0
EndsAtLimit limit input before left after (Ok counts) =
    (counts.packets ≡ limit) × (counts.tail ≡ length input) × (counts.tail < 188) × (left ≡ []) × (after ≡ before)
EndsAtLimit limit input before left after (Err (NotSync stream n)) = ⊥
EndsAtLimit limit input before left after (Err (Limit n)) = (n ≡ limit) × (188 ≤ length input) × (left ≡ drop 188 input)
    × (after ≡ before)
EndsAtLimit limit input before left after (Err ReadFault) =
    (k : ℕ) × (k < 188) × (k ≤ length input) × (left ≡ drop k input) × (after ≡ before)
EndsAtLimit limit input before left after (Err WriteFault) = ⊥
EndsAtLimit limit input before left after (Err Usage) = ⊥
EndsAtLimit limit input before left after (Err (Cells reason)) = ⊥
EndsAtLimit limit input before left after (Err (Settings reason)) = ⊥
EndsAtLimit limit input before left after (Err Memory) = ⊥

-- All packets of an input: the input left and the bytes written, for each result
abbrev pub Codes : (List (List ℕ) → List ℕ) → ℕ → List ℕ → List ℕ → List ℕ → List ℕ → Result Counts Refusal → Type 0
Codes coded limit input before left after (Ok counts) =
    (counts ≡ counts_of input) × AcceptsFirst limit input (whole_packets input)
    × (left ≡ []) × (after ≡ before ++ coded (first_packets (whole_packets input) input))
Codes coded limit input before left after (Err (NotSync stream n)) =
    (stream ≡ Hp) × AcceptsFirst limit input n × (n < whole_packets input) × (n < limit) × (is_sync input n ≡ false)
    × (left ≡ drop (188 * (n + 1)) input) × (after ≡ before ++ coded (first_packets n input))
Codes coded limit input before left after (Err (Limit n)) =
    (n ≡ limit) × AcceptsFirst limit input n × (n < whole_packets input)
    × (left ≡ drop (188 * (n + 1)) input) × (after ≡ before ++ coded (first_packets n input))
Codes coded limit input before left after (Err ReadFault) =
    (n : ℕ) × (n ≡ (length input - length left) / 188) × (n ≤ whole_packets input) × AcceptsFirst limit input n
    × ((j : ℕ) × (j < 188) × (left ≡ drop (188 * n + j) input)) × (after ≡ before ++ coded (first_packets n input))
Codes coded limit input before left after (Err WriteFault) =
    (n : ℕ) × (k : ℕ) × (n ≤ whole_packets input) × AcceptsFirst limit input n
    × (left ≡ drop (188 * n) input) × (after ≡ before ++ take k (coded (first_packets n input)))
Codes coded limit input before left after (Err Usage) = ⊥
Codes coded limit input before left after (Err (Cells reason)) = ⊥
Codes coded limit input before left after (Err (Settings reason)) = ⊥
Codes coded limit input before left after (Err Memory) = ⊥

-- The end of the coding, which gives the last piece
abbrev pub EndsCoding : List ℕ → List ℕ → List ℕ → List ℕ → List ℕ → Result (Unit {0}) Refusal → Type 0
EndsCoding piece input before left after (Ok u) = (left ≡ input) × (after ≡ before ++ piece)
EndsCoding piece input before left after (Err WriteFault) = (k : ℕ) × (left ≡ input) × (after ≡ before ++ take k piece)
EndsCoding piece input before left after (Err refusal) = ⊥

-- All packets of an input and the end of their coding; `ended packets` is their whole output. A write fault may appear
-- only when the output is flushed after another refusal.
abbrev pub CodesWhole : (List (List ℕ) → List ℕ) → (List (List ℕ) → List ℕ) → ℕ → List ℕ → List ℕ → List ℕ → List ℕ
    → Result Counts Refusal → Type 0
CodesWhole coded ended limit input before left after (Ok counts) =
    (counts ≡ counts_of input) × AcceptsFirst limit input (whole_packets input)
    × (left ≡ []) × (after ≡ before ++ ended (first_packets (whole_packets input) input))
CodesWhole coded ended limit input before left after (Err WriteFault) =
    ((r : Refusal) × Codes coded limit input before left after (Err r))
    ⊎ (AcceptsFirst limit input (whole_packets input) × (left ≡ [])
    × ((k : ℕ) × (after ≡ before ++ take k (ended (first_packets (whole_packets input) input)))))
CodesWhole coded ended limit input before left after (Err refusal)
    = Codes coded limit input before left after (Err refusal)
