-- The commands `modulate SETTINGS HP CELLS` and `modulate SETTINGS HP LP CELLS`: their outputs, from the settings, the
-- limit of packets and the files alone.
use Rattle.std.specs.Prelude.{◌≡◌, ℕ, ◌+◌, ◌-◌, ◌/◌, ◌<◌, ◌≤◌, Bool, true, ⊤, if◌then◌else◌, List, [], ◌∷◌, ◌++◌}
use Rattle.std.specs.Prelude.{length, codes, decimal, Option, Some, None, is_some, option_and_then, unwrap_or, false}
use Rattle.std.specs.Option.{option_map}
use Rattle.station_core.specs.declared.ports.InPort.TheVariants as ins
use Rattle.mode_set.specs.declared.modes.Stream.{Stream}
use Rattle.mode_set.specs.declared.modes.Stream.TheVariants.{Hp, Lp}
use Rattle.mode_set.specs.declared.settings.Settings.{Settings as TheSettings}
use Rattle.frame_build.specs.CellFile.{header}
use Rattle.transmission.specs.Transmission.{Inputs, by_stream, first_symbols}
use Rattle.transmission.specs.SuperFrames.{super_frames, symbols_of, tx}
use Rattle.transmission.specs.Agenda.{IsEnoughFor, first_refusal, symbols_sent, packet_refusal}
use Rattle.transmission.specs.Agenda as agenda
use Rattle.cmd_base.specs.declared.refusal.Refusal.{Refusal}
use Rattle.cmd_base.specs.declared.refusal.Refusal.TheVariants.{NotSync, Limit}
use Rattle.cmd_base.specs.Command.{Command, Files, Unread, named}
use Rattle.cmd_base.specs.Ports.{by_input, cell_names}
use Rattle.cmd_base.specs.Packets.{packets_of, counts_of, packets_line, most_packets_taken}
use Rattle.cmd_base.specs.SettingsFile.{most_settings}
use Rattle.cmd_base.specs.StatedSettings.{settings_of}
use Rattle.cmd_base.specs.StreamForm.{fitting_refusal}
use Rattle.cmd_modulate.specs.declared.counts.TransmissionCounts.{TransmissionCounts}

-- the files of the streams; empty for a stream that does not exist
abbrev pub files_of : Files → List ℕ → Option (List ℕ) → Stream → List ℕ
files_of file hp lp = by_stream (file hp) (named file lp)

-- the packets of the streams are the whole packets of their files
abbrev pub inputs_of : (Stream → List ℕ) → Inputs
inputs_of files σ = packets_of (files σ)

-- the refusal of a run, from that of its work
abbrev pub refused_by : agenda.Refusal → Refusal
refused_by (agenda.Limit n) = Limit n
refused_by (agenda.NotSync σ p) = NotSync σ p

-- the refusal of the work, if any
abbrev pub modulation_refusal : TheSettings → ℕ → Inputs → Option Refusal
modulation_refusal s limit inputs = option_map refused_by (first_refusal s limit inputs)

-- the cell file of the first n symbols: the header of the mode, then the symbols
abbrev pub file_of_symbols : TheSettings → Inputs → ℕ → List ℕ
file_of_symbols s inputs n = header s.mode ++ first_symbols s inputs n

-- the cell file sent: all cells of the transmission, or those of the symbols before the refusal
abbrev pub sent_by : TheSettings → ℕ → Inputs → Option agenda.Refusal → List ℕ
sent_by s limit inputs None = header s.mode ++ tx s inputs
sent_by s limit inputs (Some refusal) = file_of_symbols s inputs (symbols_sent s limit inputs)

-- the cell file of a run: up to the first refusal, if there is one
abbrev pub cells_sent : TheSettings → ℕ → Inputs → List ℕ
cells_sent s limit inputs = sent_by s limit inputs (first_refusal s limit inputs)

-- the counts: the packets of the streams, and the super-frames (endless work has none, and is refused)
abbrev pub transmission_counts : TheSettings → (Stream → List ℕ) → TransmissionCounts
transmission_counts s files = record {
  hp = counts_of (files Hp);
  lp = counts_of (files Lp);
  super_frames = unwrap_or
      (super_frames s (λ σ. length (inputs_of files σ))) 0;
}

-- the closing line for the super-frames
abbrev pub super_frames_line : ℕ → List ℕ
super_frames_line n = codes "superframes " ++ decimal n ++ codes "\n"

-- the closing lines of a modulation, with LP or without
abbrev pub transmission_lines : Bool → TransmissionCounts → List ℕ
transmission_lines two counts =
    packets_line Hp counts.hp ++ ((if two then packets_line Lp counts.lp else [])
    ++ super_frames_line counts.super_frames)

-- the lines printed: the closing lines, or none if there is a refusal
abbrev pub modulation_lines : TheSettings → ℕ → Bool → (Stream → List ℕ) → List ℕ
modulation_lines s limit two files = if is_some (modulation_refusal s limit (inputs_of files)) then [] else
    transmission_lines two (transmission_counts s files)

-- the bytes left unread of the file of a stream
abbrev pub left_unread : Unread → Stream → List ℕ
left_unread unread = by_stream (unread ins.Hp) (unread ins.Lp)

-- the number of whole packets taken from a stream
abbrev pub taken_of : (files left : Stream → List ℕ) → Stream → ℕ
taken_of files left σ = (length (files σ) - length (left σ)) / 188

-- After a failed read Cells holds its header and as many symbols as the whole packets taken suffice for; null packets
-- follow an input whose end was reached. Nothing before them is refused.
pub record HoldsSymbolsSoFar (s : TheSettings) (limit : ℕ) (files left : Stream → List ℕ) (written : List ℕ) : Type
    0 where
  pub met : Stream → Bool
  pub at_end : (σ : Stream) → met σ ≡ true → left σ ≡ []
  -- Of the streams with nothing left, at most one has not reached its end: the one whose read failed, if that read
  -- would have met the end.
  pub one_unmet : (σ τ : Stream) → left σ ≡ [] → met σ ≡ false → left τ ≡ [] → met τ ≡ false → σ ≡ τ
  pub symbols : ℕ
  -- they are not all of the transmission
  pub among : symbols < symbols_of s (inputs_of files)
  pub enough : IsEnoughFor s (taken_of files left) met symbols
  pub is : written ≡ file_of_symbols s (inputs_of files) symbols
  pub in_order : symbols ≤ symbols_sent s limit (inputs_of files)
  -- the limit is checked before the packets of a symbol are taken
  pub within : symbols < s.max_symbols
  pub accepted : (σ : Stream) (p : ℕ) → p < taken_of files left σ → packet_refusal limit (inputs_of files) σ p ≡ None

-- modulate SETTINGS HP CELLS, or modulate SETTINGS HP LP CELLS. Cells is the only output, so its definition names no
-- port. At most the accepted packets and one more are taken from a transport file.
abbrev pub modulate_command : List ℕ → List ℕ → Option (List ℕ) → List ℕ → Command
modulate_command settings hp lp cells = record {
  reads = by_input (Some settings) (Some hp) lp None;
  writes = cell_names cells;
  statuses = 0 ∷ 3 ∷ 4 ∷ 5 ∷ 6 ∷ 7 ∷ 8 ∷ [];
  memory_at_work = false;
  LacksAtWork = λ limit file unread. ⊥;
  early_refusal = λ file. fitting_refusal (file settings) lp;
  header = λ file. None;
  work_refusal = λ limit file. option_and_then (λ s. modulation_refusal s limit (inputs_of (files_of file hp lp)))
      (settings_of (file settings));
  most_taken = λ limit file. by_input (most_settings + 1) (most_packets_taken limit (file hp))
      (most_packets_taken limit (named file lp)) 0;
  Comes = λ limit file port bytes. (s : TheSettings) × (settings_of (file settings) ≡ Some s)
      × (bytes ≡ cells_sent s limit (inputs_of (files_of file hp lp)));
  Prints = λ limit file lines. (s : TheSettings) × (settings_of (file settings) ≡ Some s)
      × (lines ≡ modulation_lines s limit (is_some lp) (files_of file hp lp));
  ComesSoFar = λ limit file unread port bytes.
      (s : TheSettings) × (settings_of (file settings) ≡ Some s)
      × HoldsSymbolsSoFar s limit (files_of file hp lp) (left_unread unread) bytes;
  PrintsSoFar = λ limit file unread lines. lines ≡ [];
  Own = λ limit file. ⊤;
}
