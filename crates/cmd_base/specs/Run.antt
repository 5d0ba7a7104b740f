-- The promise of a run. `old` and `new` are the states of the station before and after the run of a command, `limit` is
-- the most packets taken from a transport file, and `status` is the result. A station may or may not know the contents
-- of its files; clauses on contents hold if it does. A count of faults rose in the run if it is greater after it than
-- before, or is at its greatest number.
use Rattle.std.specs.Prelude.{◌≡◌, ◌≢◌, ◌≤◌, ◌⊎◌, ◌++◌, ℕ, true, false, List, [], ◌∷◌, take, drop, None}
use Rattle.station_core.specs.Meaning.{Meaning, IsUntouched, source_at, sink_at}
use Rattle.station_core.specs.Causes.{Rose}
use Rattle.station_core.specs.declared.ports.InPort.{InPort}
use Rattle.station_core.specs.declared.ports.InPort.TheVariants.{Settings, Hp, Lp, Cells}
use Rattle.station_core.specs.declared.ports.OutPort.{OutPort}
use Rattle.cmd_base.specs.Command.{Command, Files, IsInput, IsOutput, is_among, refusal_of, input_file, unread}
use Rattle.cmd_base.specs.Header.{header_size, IsHeaderTaken}
use Rattle.cmd_base.specs.Text.{status_of, text_at}

-- Report holds the lines, then the text: all of it, or a prefix if a write to Report failed.
pub record Reports (old new : Meaning) (lines text : List ℕ) : Type 0 where
  pub front : (k : ℕ) × (new.report.written ≡ lines ++ take k text)
  pub whole : (Rose old.report_faults new.report_faults → ⊥) → new.report.written ≡ lines ++ text

-- No file but the settings was requested.
pub record AsksSettingsAlone (m : Meaning) : Type 0 where
  pub sources : (port : InPort) → port ≢ Settings → (source_at port m).asked ≡ None
  pub sinks : (port : OutPort) → (sink_at port m).asked ≡ None

-- The length of the header at the start of an input; only cells have one.
abbrev pub header_at : Command → Meaning → InPort → ℕ
header_at c m Settings = 0
header_at c m Hp = 0
header_at c m Lp = 0
header_at c m Cells = header_size (c.header m.file)

-- Every output was created, and all are empty.
pub record AreMadeEmpty (c : Command) (m : Meaning) : Type 0 where
  pub made : (out : OutPort) → IsOutput c out → (sink_at out m).created ≡ true
  pub empty : m.tells ≡ true → (out : OutPort) → IsOutput c out → (sink_at out m).written ≡ []

-- Nothing past the header was taken from the input at the port.
abbrev pub IsUntaken : Command → Meaning → InPort → Type 0
IsUntaken c m port = (k : ℕ) × (k ≤ header_at c m port) × (unread c m port ≡ drop k (input_file m.file c port))

-- a run of command c with this limit, from `old` to `new`, that returned this status
pub record Run (c : Command) (limit : ℕ) (old new : Meaning) (status : ℕ) : Type 0 where
  -- STATUSES The status is one of the command's own.
  pub known : is_among status c.statuses ≡ true
  -- Status 5 is given only if a read failed, or an input could not be opened.
  pub read_fault : status ≡ 5 → Rose old.read_faults new.read_faults
  -- Status 6 is given only if a write failed, or an output could not be created or closed.
  pub write_fault : status ≡ 6 → Rose old.write_faults new.write_faults ⊎ Rose old.close_faults new.close_faults
  -- If the arguments and files give a refusal, status 6 is given only if a write failed, or an output could not be
  -- created: an output that cannot be closed after a refusal changes neither status nor text.
  pub refusal_first : old.tells ≡ true → refusal_of limit old.file c ≢ None → status ≡ 6
      → Rose old.write_faults new.write_faults
  -- At every status but 5 no read has failed, with one exception: at 6 a write may have failed before it that only a
  -- later flush reported. At 0 no write and no close has failed either.
  pub reads_kept : status ≢ 5 → (new.read_faults ≡ old.read_faults)
      ⊎ ((status ≡ 6) × Rose old.write_faults new.write_faults)
  pub writes_kept : status ≡ 0 → new.write_faults ≡ old.write_faults
  pub closes_kept : status ≡ 0 → new.close_faults ≡ old.close_faults
  -- A failed write comes first: at every status but 6 no write has failed, except one to Report.
  pub written_first : status ≢ 6 → (Rose old.report_faults new.report_faults → ⊥) → new.write_faults ≡ old.write_faults
  -- At every status but 0 and 6 all bytes given to the outputs were passed to their files, and no fault of this is left
  -- to report: the outputs were flushed before they were closed. At 0 their closing has shown it.
  pub handed_over : status ≢ 0 → status ≢ 6 → new.pending ≡ false
  -- Every other status but 7, lack of memory, is the one that the arguments and files give.
  pub exact : old.tells ≡ true → status ≢ 5 → status ≢ 6 → status ≢ 7 → status ≡ status_of (refusal_of limit old.file c)
  -- If they give no refusal and nothing fails, the run succeeds or lacks memory.
  pub complete : old.tells ≡ true → refusal_of limit old.file c ≡ None
      → (Rose old.read_faults new.read_faults → ⊥) → (Rose old.write_faults new.write_faults → ⊥)
      → (Rose old.close_faults new.close_faults → ⊥)
      → (status ≡ 0) ⊎ (status ≡ 7)
  -- FILES AND THEIR ORDER Only the command's files are requested, each at its port.
  pub sources : (port : InPort) → ((source_at port new).asked ≡ None) ⊎ ((source_at port new).asked ≡ c.reads port)
  pub sinks : (port : OutPort) → ((sink_at port new).asked ≡ None) ⊎ ((sink_at port new).asked ≡ c.writes port)
  -- Settings come first: no other file is requested before they were opened, read to their end and accepted.
  pub settings_first : IsInput c Settings → AsksSettingsAlone new
      ⊎ ((new.settings.attached ≡ true) × (old.tells ≡ true → (new.settings.left ≡ []) ×
      (c.early_refusal old.file ≡ None)))
  -- LP's input is requested only after HP's was opened, and an output only after every input was.
  pub lp_behind_hp : (new.lp.asked ≡ None) ⊎ (new.hp.attached ≡ true)
  pub outputs_behind_inputs : (out : OutPort) → ((sink_at out new).asked ≡ None)
      ⊎ ((port : InPort) → IsInput c port → (source_at port new).attached ≡ true)
  -- An output that was not requested was not created.
  pub unasked : (out : OutPort) → IsOutput c out → (sink_at out new).asked ≡ None → IsUntouched (sink_at out new)
  -- LP's output is requested only after HP's was created.
  pub lp_made_behind_hp : (new.lp_out.asked ≡ None) ⊎ (new.hp_out.created ≡ true)
  -- And, if contents are known, only if the cells begin with their header and it was read.
  pub outputs_behind_header : old.tells ≡ true → (out : OutPort) → ((sink_at out new).asked ≡ None)
      ⊎ IsHeaderTaken (c.header old.file) (input_file old.file c Cells) (unread c new Cells)
  -- Before all outputs were created, nothing is taken from other inputs than the settings, except the cells' header.
  pub work_behind_outputs : old.tells ≡ true → (port : InPort) → port ≢ Settings → IsInput c port
      → IsUntaken c new port ⊎ ((out : OutPort) → IsOutput c out → (sink_at out new).created ≡ true)
  -- The bytes taken from an input are its first ones, at most as many as the command says.
  pub taken : old.tells ≡ true → (port : InPort) → IsInput c port → (source_at port new).attached ≡ true
      → (k : ℕ) × (k ≤ c.most_taken limit old.file port) × ((source_at port new).left ≡ drop k
      (input_file old.file c port))
  -- At status 0 every input was opened and read to its end.
  pub opened : status ≡ 0 → (port : InPort) → IsInput c port → (source_at port new).attached ≡ true
  pub read_out : status ≡ 0 → old.tells ≡ true → (port : InPort) → IsInput c port → (source_at port new).left ≡ []
  -- Every output created is closed, at any status. At 0, 4, 8, 10 and 11 every output was created.
  pub closed : (out : OutPort) → IsOutput c out → (sink_at out new).created ≡ true → (sink_at out new).closed ≡ true
  pub made : is_among status (0 ∷ 4 ∷ 8 ∷ 10 ∷ 11 ∷ []) ≡ true → (out : OutPort) → IsOutput c out
      → (sink_at out new).created ≡ true
  -- Nothing else of the station changes: its files are the same, and Report stays open.
  pub same_telling : new.tells ≡ old.tells
  pub same_files : new.file ≡ old.file
  pub report_open : new.report.closed ≡ old.report.closed
  -- OUTPUTS AT STATUS 0 Each output holds exactly what the command defines for it, and Report holds its lines.
  pub done : old.tells ≡ true → status ≡ 0 → (out : OutPort) → IsOutput c out
      → c.Comes limit old.file out (sink_at out new).written
  pub done_report : old.tells ≡ true → status ≡ 0 → c.Prints limit old.file new.report.written
  -- AT 2, 3 AND 7: invalid command line, rejected settings, lack of memory
  -- No file but the settings was requested. (At 7 every output may be created and empty, if the work allocates memory
  -- and, if contents are known, the bytes taken allow a lack of it.) Report holds the text.
  pub early : is_among status (2 ∷ 3 ∷ []) ≡ true → AsksSettingsAlone new
  pub lacking : status ≡ 7 → AsksSettingsAlone new ⊎ ((c.memory_at_work ≡ true) × AreMadeEmpty c new)
  pub lacking_at_work : old.tells ≡ true → status ≡ 7 → AsksSettingsAlone new
      ⊎ c.LacksAtWork limit old.file (unread c new)
  pub early_report : old.tells ≡ true → is_among status (2 ∷ 3 ∷ 7 ∷ []) ≡ true
      → Reports old new [] (text_at c limit old.file status)
  -- AT 9: cells without their header No output was requested or created. Nothing past the header was taken from the
  -- cells. Report holds the text.
  pub unheaded : status ≡ 9 → (out : OutPort) → IsOutput c out → IsUntouched (sink_at out new)
  pub unheaded_taken : old.tells ≡ true → status ≡ 9 → (port : InPort) → port ≢ Settings → IsInput c port
      → IsUntaken c new port
  pub unheaded_report : old.tells ≡ true → status ≡ 9 → Reports old new [] (text_at c limit old.file status)
  -- AT 4 AND 8: a rejected packet, a limit exceeded. AT 10 AND 11: no frame in the cells, or one of another form
  -- Each output holds what precedes the refusal: nothing at 10 and 11. Report holds the lines before it, then the text.
  pub refused : old.tells ≡ true → is_among status (4 ∷ 8 ∷ 10 ∷ 11 ∷ []) ≡ true → (out : OutPort) → IsOutput c out
      → c.Comes limit old.file out (sink_at out new).written
  pub refused_report : old.tells ≡ true → is_among status (4 ∷ 8 ∷ 10 ∷ 11 ∷ []) ≡ true
      → (lines : List ℕ) × c.Prints limit old.file lines × Reports old new lines (text_at c limit old.file status)
  -- AT 5: a failed read Each output created holds the output for the bytes taken. Report holds their lines, then the
  -- text.
  pub stopped : old.tells ≡ true → status ≡ 5 → (out : OutPort) → IsOutput c out → (sink_at out new).created ≡ true
      → c.ComesSoFar limit old.file (unread c new) out (sink_at out new).written
  pub stopped_report : old.tells ≡ true → status ≡ 5
      → (lines : List ℕ) × c.PrintsSoFar limit old.file (unread c new) lines
      × Reports old new lines (text_at c limit old.file status)
  -- AT 6: a failed write, or an output that could not be created or closed
  -- Each output created holds a prefix of what the command defines for it, Report a prefix of its lines, then the text.
  pub front : old.tells ≡ true → status ≡ 6 → (out : OutPort) → IsOutput c out → (sink_at out new).created ≡ true
      → (bytes : List ℕ) × c.Comes limit old.file out bytes × ((k : ℕ) × ((sink_at out new).written ≡ take k bytes))
  pub front_report : old.tells ≡ true → status ≡ 6
      → (lines : List ℕ) × c.Prints limit old.file lines × ((k : ℕ) × Reports old new (take k lines)
      (text_at c limit old.file status))
  -- THE COMMAND'S OWN LAWS The command's definitions obey its own laws, over all files: a station that knows no
  -- contents is no exception.
  pub own : (file : Files) → c.Own limit file
