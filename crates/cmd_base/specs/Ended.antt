-- The state when the work of a command has ended and its outputs are closed, before the text of a refusal is written;
-- `r` is the refusal, if any. It implies the promise of the run, for any command.
use Rattle.std.specs.Prelude.{◌≡◌, ◌≢◌, ◌≤◌, ◌⊎◌, ℕ, ⊤, true, List, [], take, drop, Option, None, Some}
use Rattle.station_core.specs.Meaning.{Meaning, IsUntouched, source_at, sink_at}
use Rattle.station_core.specs.Causes.{Rose}
use Rattle.station_core.specs.declared.ports.InPort.{InPort}
use Rattle.station_core.specs.declared.ports.InPort.TheVariants as ins
use Rattle.station_core.specs.declared.ports.OutPort.{OutPort}
use Rattle.station_core.specs.declared.ports.OutPort.TheVariants as outs
use Rattle.cmd_base.specs.declared.refusal.Refusal.{Refusal}
use Rattle.cmd_base.specs.declared.refusal.Refusal.TheVariants.{Usage, Settings, ReadFault, WriteFault, NotSync, Memory}
use Rattle.cmd_base.specs.declared.refusal.Refusal.TheVariants.{Limit, Cells}
use Rattle.cmd_base.specs.declared.refusal.CellsRefusal.TheVariants.{Header, NoPlace, AnnouncedForm}
use Rattle.cmd_base.specs.Header.{IsHeaderTaken}
use Rattle.cmd_base.specs.Command.{Command, Files, IsInput, IsOutput, is_among, refusal_of, input_file, unread}
use Rattle.cmd_base.specs.Run.{AreMadeEmpty, AsksSettingsAlone, IsUntaken}
use Rattle.cmd_base.specs.Text.{status_of}
use Rattle.cmd_base.specs.Causes.{AreReadsKept, IsSettled}

-- A write failed, or an output could not be created. If the arguments and files give no refusal, also: an output could
-- not be closed.
abbrev pub IsWriteFault : Command → ℕ → Meaning → Meaning → Type 0
IsWriteFault c limit old mid = Rose old.write_faults mid.write_faults
    ⊎ (Rose old.close_faults mid.close_faults × (old.tells ≡ true → refusal_of limit old.file c ≡ None))

-- A fault is only reported if its count rose. After a refusal an output may fail to close, and is counted.
abbrev pub IsCaused : Command → ℕ → Meaning → Meaning → Option Refusal → Type 0
IsCaused c limit old mid None = (mid.read_faults ≡ old.read_faults) × (mid.write_faults ≡ old.write_faults)
    × (mid.close_faults ≡ old.close_faults)
IsCaused c limit old mid (Some ReadFault) = Rose old.read_faults mid.read_faults
IsCaused c limit old mid (Some WriteFault) = AreReadsKept old mid × IsWriteFault c limit old mid
IsCaused c limit old mid (Some Usage) = mid.read_faults ≡ old.read_faults
IsCaused c limit old mid (Some (Settings reason)) = mid.read_faults ≡ old.read_faults
IsCaused c limit old mid (Some (NotSync stream n)) = mid.read_faults ≡ old.read_faults
IsCaused c limit old mid (Some Memory) = mid.read_faults ≡ old.read_faults
IsCaused c limit old mid (Some (Limit n)) = mid.read_faults ≡ old.read_faults
IsCaused c limit old mid (Some (Cells reason)) = mid.read_faults ≡ old.read_faults

-- After a refusal other than a write fault, all bytes given to the outputs were passed to their files, and no write
-- failed.
abbrev pub IsSettledAt : Meaning → Meaning → Option Refusal → Type 0
IsSettledAt old mid None = ⊤
IsSettledAt old mid (Some WriteFault) = ⊤
IsSettledAt old mid (Some refusal) = IsSettled old mid

-- A refusal other than a fault or lack of memory is the one that the arguments and files give.
abbrev pub IsExact : Command → ℕ → Meaning → Option Refusal → Type 0
IsExact c limit old (Some ReadFault) = ⊤
IsExact c limit old (Some WriteFault) = ⊤
IsExact c limit old (Some Memory) = ⊤
IsExact c limit old None = old.tells ≡ true → refusal_of limit old.file c ≡ None
IsExact c limit old (Some Usage) = old.tells ≡ true → refusal_of limit old.file c ≡ Some Usage
IsExact c limit old (Some (Settings reason)) = old.tells ≡ true → refusal_of limit old.file c ≡ Some (Settings reason)
IsExact c limit old (Some (NotSync stream n)) = old.tells ≡ true → refusal_of limit old.file c ≡ Some (NotSync stream n)
IsExact c limit old (Some (Limit n)) = old.tells ≡ true → refusal_of limit old.file c ≡ Some (Limit n)
IsExact c limit old (Some (Cells reason)) = old.tells ≡ true → refusal_of limit old.file c ≡ Some (Cells reason)

-- every output was created
abbrev pub AreMade : Command → Meaning → Type 0
AreMade c m = (out : OutPort) → IsOutput c out → (sink_at out m).created ≡ true

-- each output holds what the command defines for it, and Report its lines
pub record Hold (c : Command) (limit : ℕ) (old mid : Meaning) : Type 0 where
  pub made : AreMade c mid
  pub outputs : old.tells ≡ true → (out : OutPort) → IsOutput c out
      → c.Comes limit old.file out (sink_at out mid).written
  pub report : old.tells ≡ true → c.Prints limit old.file mid.report.written

-- each output created holds the output for the bytes taken, and Report their lines
pub record HoldSoFar (c : Command) (limit : ℕ) (old mid : Meaning) : Type 0 where
  pub outputs : old.tells ≡ true → (out : OutPort) → IsOutput c out → (sink_at out mid).created ≡ true
      → c.ComesSoFar limit old.file (unread c mid) out (sink_at out mid).written
  pub report : old.tells ≡ true → c.PrintsSoFar limit old.file (unread c mid) mid.report.written

-- each output created holds a prefix of what the command defines for it, and Report a prefix of its lines
pub record HoldFronts (c : Command) (limit : ℕ) (old mid : Meaning) : Type 0 where
  pub outputs : old.tells ≡ true → (out : OutPort) → IsOutput c out → (sink_at out mid).created ≡ true
      → (bytes : List ℕ) × c.Comes limit old.file out bytes × ((k : ℕ) × ((sink_at out mid).written ≡ take k bytes))
  pub report : old.tells ≡ true → (lines : List ℕ) × c.Prints limit old.file lines
      × ((k : ℕ) × (mid.report.written ≡ take k lines))

-- no file but the settings was requested, and nothing was written to Report
pub record HoldNothing (old mid : Meaning) : Type 0 where
  pub asks : AsksSettingsAlone mid
  pub report : old.tells ≡ true → mid.report.written ≡ []

-- no output was requested or created, nothing past the header was taken of the cells, and nothing was written to Report
pub record HoldUnheaded (c : Command) (old mid : Meaning) : Type 0 where
  pub outputs : (out : OutPort) → IsOutput c out → IsUntouched (sink_at out mid)
  pub taken : old.tells ≡ true → (port : InPort) → port ≢ ins.Settings → IsInput c port → IsUntaken c mid port
  pub report : old.tells ≡ true → mid.report.written ≡ []

-- or, if the work allocates memory and the files allow a lack of it: every output was created and is empty, and so is
-- Report
pub record HoldEmpty (c : Command) (limit : ℕ) (old mid : Meaning) : Type 0 where
  pub at_work : c.memory_at_work ≡ true
  pub lacks : old.tells ≡ true → c.LacksAtWork limit old.file (unread c mid)
  pub outputs : AreMadeEmpty c mid
  pub report : old.tells ≡ true → mid.report.written ≡ []

-- what the outputs hold after an end with this refusal, or without one
abbrev pub Leaves : Command → ℕ → Meaning → Meaning → Option Refusal → Type 0
Leaves c limit old mid None = Hold c limit old mid
Leaves c limit old mid (Some (NotSync stream n)) = Hold c limit old mid
Leaves c limit old mid (Some (Limit n)) = Hold c limit old mid
Leaves c limit old mid (Some ReadFault) = HoldSoFar c limit old mid
Leaves c limit old mid (Some WriteFault) = HoldFronts c limit old mid
Leaves c limit old mid (Some Usage) = HoldNothing old mid
Leaves c limit old mid (Some (Settings reason)) = HoldNothing old mid
Leaves c limit old mid (Some Memory) = HoldNothing old mid ⊎ HoldEmpty c limit old mid
Leaves c limit old mid (Some (Cells Header)) = HoldUnheaded c old mid
Leaves c limit old mid (Some (Cells NoPlace)) = Hold c limit old mid
Leaves c limit old mid (Some (Cells AnnouncedForm)) = Hold c limit old mid

-- the work has ended with this refusal, or without one
pub record Ended (c : Command) (limit : ℕ) (old mid : Meaning) (r : Option Refusal) : Type 0 where
  pub known : is_among (status_of r) c.statuses ≡ true
  pub caused : IsCaused c limit old mid r
  pub settled : IsSettledAt old mid r
  -- no count has fallen
  pub later_reads : old.read_faults ≤ mid.read_faults
  pub later_writes : old.write_faults ≤ mid.write_faults
  pub later_report : old.report_faults ≤ mid.report_faults
  pub exact : IsExact c limit old r
  -- the files and their order, as in the promise of a run
  pub sources : (port : InPort) → ((source_at port mid).asked ≡ None) ⊎ ((source_at port mid).asked ≡ c.reads port)
  pub sinks : (port : OutPort) → ((sink_at port mid).asked ≡ None) ⊎ ((sink_at port mid).asked ≡ c.writes port)
  pub settings_first : IsInput c ins.Settings → AsksSettingsAlone mid
      ⊎ ((mid.settings.attached ≡ true) × (old.tells ≡ true → (mid.settings.left ≡ []) ×
      (c.early_refusal old.file ≡ None)))
  pub lp_behind_hp : (mid.lp.asked ≡ None) ⊎ (mid.hp.attached ≡ true)
  pub outputs_behind_inputs : (out : OutPort) → ((sink_at out mid).asked ≡ None)
      ⊎ ((port : InPort) → IsInput c port → (source_at port mid).attached ≡ true)
  pub unasked : (out : OutPort) → IsOutput c out → (sink_at out mid).asked ≡ None → IsUntouched (sink_at out mid)
  pub outputs_behind_header : old.tells ≡ true → (out : OutPort) → ((sink_at out mid).asked ≡ None)
      ⊎ IsHeaderTaken (c.header old.file) (input_file old.file c ins.Cells) (unread c mid ins.Cells)
  pub lp_made_behind_hp : (mid.lp_out.asked ≡ None) ⊎ (mid.hp_out.created ≡ true)
  pub work_behind_outputs : old.tells ≡ true → (port : InPort) → port ≢ ins.Settings → IsInput c port
      → IsUntaken c mid port ⊎ AreMade c mid
  pub taken : old.tells ≡ true → (port : InPort) → IsInput c port → (source_at port mid).attached ≡ true
      → (k : ℕ) × (k ≤ c.most_taken limit old.file port) × ((source_at port mid).left ≡ drop k
      (input_file old.file c port))
  pub opened : r ≡ None → (port : InPort) → IsInput c port → (source_at port mid).attached ≡ true
  pub read_out : r ≡ None → old.tells ≡ true → (port : InPort) → IsInput c port → (source_at port mid).left ≡ []
  pub closed : (out : OutPort) → IsOutput c out → (sink_at out mid).created ≡ true → (sink_at out mid).closed ≡ true
  pub no_report : c.writes outs.Report ≡ None
  pub same_telling : mid.tells ≡ old.tells
  pub same_files : mid.file ≡ old.file
  pub report_open : mid.report.closed ≡ old.report.closed
  -- the outputs
  pub leaves : Leaves c limit old mid r
  pub own : (file : Files) → c.Own limit file
