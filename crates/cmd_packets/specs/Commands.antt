-- The commands `disperse`, `outer` and `inner`: each codes the packets of a transport file, in order.
use Rattle.std.specs.Prelude.{◌≡◌, ◌≢◌, ◌≤◌, ◌⊎◌, ◌+◌, ◌-◌, ◌/◌, ℕ, ⊤, List, [], ◌∷◌, length, Option, None, Some, false}
use Rattle.station_core.specs.declared.ports.InPort.TheVariants as ins
use Rattle.mode_set.specs.declared.settings.Settings.{Settings}
use Rattle.outer_chain.specs.Sent.{sent_bytes}
use Rattle.cmd_base.specs.declared.refusal.Refusal.{Refusal}
use Rattle.cmd_base.specs.Command.{Command, Files}
use Rattle.cmd_base.specs.Ports.{by_input, byte_names}
use Rattle.cmd_base.specs.Packets.{whole_packets, accepted, AreAccepted, first_packets, packets_of, counts_of}
use Rattle.cmd_base.specs.Packets.{packet_refusal, most_packets_taken, closing_line}
use Rattle.cmd_base.specs.SettingsFile.{most_settings, settings_refusal}
use Rattle.cmd_base.specs.StatedSettings.{settings_of}
use Rattle.cmd_packets.specs.DispersedPackets.{dispersed_packets}
use Rattle.cmd_packets.specs.InnerBytes.{inner_bytes, filled_inner_bytes}

-- The output of a command for packets, given the files of a run.
pub record Coding : Type 1 where
  -- the output for packets if more may follow
  pub Gives : Files → List (List ℕ) → List ℕ → Type 0
  -- the whole output for packets, after the last one
  pub GivesInAll : Files → List (List ℕ) → List ℕ → Type 0

-- the output is the same whether or not more packets may follow
abbrev pub plain_coding : (List (List ℕ) → List ℕ) → Coding
plain_coding coded = record {
  Gives = λ file packets bytes. bytes ≡ coded packets;
  GivesInAll = λ file packets bytes. bytes ≡ coded packets;
}

-- disperse: energy dispersal
abbrev pub dispersing : Coding
dispersing = plain_coding dispersed_packets

-- outer: energy dispersal, outer code and outer interleaver
abbrev pub outer_coding : Coding
outer_coding = plain_coding sent_bytes

-- inner: the same bytes after the inner code, at the HP rate of the settings in this file. At the end the last byte is
-- filled with zeros.
abbrev pub inner_coding : List ℕ → Coding
inner_coding settings = record {
  Gives = λ file packets bytes. (s : Settings) × (settings_of (file settings) ≡ Some s)
      × (bytes ≡ inner_bytes s.rate_hp (sent_bytes packets));
  GivesInAll = λ file packets bytes. (s : Settings) × (settings_of (file settings) ≡ Some s)
      × (bytes ≡ filled_inner_bytes s.rate_hp (sent_bytes packets));
}

-- some whole packet of the input is rejected
abbrev pub IsRefused : ℕ → List ℕ → Type 0
IsRefused limit input = accepted limit input ≢ whole_packets input

-- The output is that of all packets of the input or, if one is rejected, of those before it.
abbrev pub CodesTo : Coding → ℕ → Files → List ℕ → List ℕ → Type 0
CodesTo k limit file input bytes =
    (AreAccepted limit (file input) × k.GivesInAll file (packets_of (file input)) bytes)
    ⊎ (IsRefused limit (file input) × k.Gives file (first_packets (accepted limit (file input)) (file input)) bytes)

-- The report is the closing line, or has no line before the refusal if a packet is rejected.
abbrev pub ClosesWith : ℕ → List ℕ → List ℕ → Type 0
ClosesWith limit input lines = (AreAccepted limit input × (lines ≡ closing_line (counts_of input)))
    ⊎ (IsRefused limit input × (lines ≡ []))

-- the number of whole packets taken from an input, given the bytes left
abbrev pub packets_taken : List ℕ → List ℕ → ℕ
packets_taken input left = (length input - length left) / 188

-- After a failed read the output is that of the whole packets taken, all of them accepted.
abbrev pub CodesSoFar : Coding → ℕ → Files → List ℕ → List ℕ → List ℕ → Type 0
CodesSoFar k limit file input left bytes =
    k.Gives file (first_packets (packets_taken (file input) left) (file input)) bytes
    × (packets_taken (file input) left ≤ accepted limit (file input))

-- the refusal of the settings, if the command has any
abbrev pub coding_early : Option (List ℕ) → Files → Option Refusal
coding_early None file = None
coding_early (Some settings) file = settings_refusal (file settings)

-- A command that codes packets: its settings, if any, its statuses, its coding, its input and its output. Bytes is the
-- only output, so its definition names no port.
abbrev pub coding_command : Option (List ℕ) → List ℕ → Coding → List ℕ → List ℕ → Command
coding_command settings statuses k input output = record {
  reads = by_input settings (Some input) None None;
  writes = byte_names output;
  statuses = statuses;
  memory_at_work = false;
  LacksAtWork = λ limit file unread. ⊥;
  early_refusal = coding_early settings;
  header = λ file. None;
  work_refusal = λ limit file. packet_refusal limit (file input);
  most_taken = λ limit file. by_input (most_settings + 1) (most_packets_taken limit (file input)) 0 0;
  Comes = λ limit file port bytes. CodesTo k limit file input bytes;
  Prints = λ limit file lines. ClosesWith limit (file input) lines;
  ComesSoFar = λ limit file unread port bytes. CodesSoFar k limit file input (unread ins.Hp) bytes;
  PrintsSoFar = λ limit file unread lines. lines ≡ [];
  Own = λ limit file. ⊤;
}

-- disperse TS OUT
abbrev pub disperse_command : List ℕ → List ℕ → Command
disperse_command input output = coding_command None (0 ∷ 4 ∷ 5 ∷ 6 ∷ 8 ∷ []) dispersing input output

-- outer TS OUT
abbrev pub outer_command : List ℕ → List ℕ → Command
outer_command input output = coding_command None (0 ∷ 4 ∷ 5 ∷ 6 ∷ 7 ∷ 8 ∷ []) outer_coding input output

-- inner SETTINGS TS OUT
abbrev pub inner_command : List ℕ → List ℕ → List ℕ → Command
inner_command settings input output = coding_command (Some settings) (0 ∷ 3 ∷ 4 ∷ 5 ∷ 6 ∷ 7 ∷ 8 ∷ []) (inner_coding
    settings) input output
