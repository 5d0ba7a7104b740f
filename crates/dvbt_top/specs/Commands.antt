-- The forms of the command line, the form of a list of arguments, and its command. Each command is defined in the crate
-- that runs it.
use Rattle.std.specs.Prelude.{◌≡◌, ℕ, ⊤, List, [], ◌∷◌, Option, None, Some, codes, if◌then◌else◌, false}
use Rattle.std.specs.Option.{option_copied, option_map}
use Rattle.std.specs.Str.{bytes_eq}
use Rattle.cmd_base.specs.Command.{Command}
use Rattle.cmd_base.specs.declared.refusal.Refusal.TheVariants.{Usage}
use Rattle.cmd_packets.specs.Commands.{disperse_command, outer_command, inner_command}
use Rattle.cmd_modulate.specs.ModulateCommand.{modulate_command}
use Rattle.cmd_receive.specs.ReceiveCommand.{receive_command}
use Rattle.cmd_rescue.specs.RescueCommand.{rescue_command}
use Rattle.cmd_trial.specs.TrialCommand.{trial_command}
use Rattle.cmd_tune.specs.TuneCommand.{tune_command}
use Rattle.cmd_align.specs.AlignCommand.{align_command}
use Rattle.cmd_measure.specs.MeasureCommand.{measure_command}
use Rattle.cmd_convert.specs.UpgradeCommand.{upgrade_command}
use Rattle.cmd_convert.specs.EqualiseCommand.{equalise_command}
use Rattle.cmd_track.specs.TrackCommand.{track_command}
use Rattle.dvbt_top.specs.Number.{number_of}
use Rattle.dvbt_top.specs.declared.form.Form.{Form}
use Rattle.dvbt_top.specs.declared.form.Form.TheVariants as forms

-- the coding of the packets of a transport file
pub data Coding : Type 0 where
  -- disperse: energy dispersal
  Disperse : Coding
  -- outer: energy dispersal, outer code and outer interleaver
  Outer : Coding
  -- inner: and then the inner code, at the HP rate of the settings file of this name
  Inner : List ℕ → Coding

-- the forms of the command line
pub data Order : Type 0 where
  -- disperse TS OUT, outer TS OUT, inner SETTINGS TS OUT
  Code : Coding → List ℕ → List ℕ → Order
  -- modulate SETTINGS HP CELLS, modulate SETTINGS HP LP CELLS
  Modulate : List ℕ → List ℕ → Option (List ℕ) → List ℕ → Order
  -- receive SETTINGS CELLS HP, receive SETTINGS CELLS HP LP
  Receive : List ℕ → List ℕ → List ℕ → Option (List ℕ) → Order
  -- rescue SETTINGS CELLS HP, rescue SETTINGS CELLS HP LP
  Rescue : List ℕ → List ℕ → List ℕ → Option (List ℕ) → Order
  -- tune SETTINGS CELLS HP, tune SETTINGS CELLS HP LP
  Tune : List ℕ → List ℕ → List ℕ → Option (List ℕ) → Order
  -- align SETTINGS IN OUT
  Align : List ℕ → List ℕ → List ℕ → Order
  -- measure SETTINGS CELLS
  Measure : List ℕ → List ℕ → Order
  -- upgrade SETTINGS OLD NEW
  Upgrade : List ℕ → List ℕ → List ℕ → Order
  -- equalise SETTINGS IN OUT
  Equalise : List ℕ → List ℕ → List ℕ → Order
  -- track SETTINGS IN OUT
  Track : List ℕ → List ℕ → List ℕ → Order
  -- trial SETTINGS NUMBER
  Trial : List ℕ → ℕ → Order

-- the coding of a one-word name
abbrev pub coding_of : List ℕ → Option Coding
coding_of name = if bytes_eq name (codes "disperse") then Some Disperse else if bytes_eq name (codes "outer") then Some
    Outer else None

-- the form of a list of arguments, if it is valid
abbrev pub order_of : List (List ℕ) → Option Order
order_of (name ∷ first ∷ second ∷ []) = if bytes_eq name (codes "trial") then option_map (λ number. Trial first number)
    (number_of second)
    else if bytes_eq name (codes "measure") then Some (Measure first second)
    else option_map (λ coding. Code coding first second) (coding_of name)
order_of (name ∷ settings ∷ input ∷ output ∷ []) = if bytes_eq name (codes "inner") then Some (Code (Inner settings)
    input output)
    else if bytes_eq name (codes "modulate") then Some (Modulate settings input None output)
    else if bytes_eq name (codes "receive") then Some (Receive settings input output None)
    else if bytes_eq name (codes "rescue") then Some (Rescue settings input output None)
    else if bytes_eq name (codes "tune") then Some (Tune settings input output None)
    else if bytes_eq name (codes "align") then Some (Align settings input output)
    else if bytes_eq name (codes "upgrade") then Some (Upgrade settings input output)
    else if bytes_eq name (codes "equalise") then Some (Equalise settings input output)
    else if bytes_eq name (codes "track") then Some (Track settings input output) else None
order_of (name ∷ settings ∷ first ∷ second ∷ third ∷ []) = if bytes_eq name (codes "modulate") then Some (Modulate
    settings first (Some second) third)
    else if bytes_eq name (codes "receive") then Some (Receive settings first second (Some third))
    else if bytes_eq name (codes "rescue") then Some (Rescue settings first second (Some third))
    else if bytes_eq name (codes "tune") then Some (Tune settings first second (Some third)) else None
order_of words = None

-- the command and the arguments of a valid command line
abbrev pub order : Form → Order
order (forms.Disperse input output) = Code Disperse input.now output.now
order (forms.Outer input output) = Code Outer input.now output.now
order (forms.Modulate settings hp lp cells) = Modulate settings.now hp.now (option_copied lp) cells.now
order (forms.Inner settings input output) = Code (Inner settings.now) input.now output.now
order (forms.Receive settings cells hp lp) = Receive settings.now cells.now hp.now (option_copied lp)
order (forms.Rescue settings cells hp lp) = Rescue settings.now cells.now hp.now (option_copied lp)
order (forms.Tune settings cells hp lp) = Tune settings.now cells.now hp.now (option_copied lp)
order (forms.Align settings old_cells new_cells) = Align settings.now old_cells.now new_cells.now
order (forms.Measure settings cells) = Measure settings.now cells.now
order (forms.Upgrade settings old_cells new_cells) = Upgrade settings.now old_cells.now new_cells.now
order (forms.Equalise settings old_cells new_cells) = Equalise settings.now old_cells.now new_cells.now
order (forms.Track settings old_cells new_cells) = Track settings.now old_cells.now new_cells.now
order (forms.Trial settings number) = Trial settings.now number

-- invalid arguments: they are refused, and no file is requested
abbrev pub no_command : Command
no_command = record {
  reads = λ port. None;
  writes = λ port. None;
  statuses = 2 ∷ [];
  memory_at_work = false;
  LacksAtWork = λ limit file unread. ⊥;
  early_refusal = λ file. Some Usage;
  header = λ file. None;
  work_refusal = λ limit file. None;
  most_taken = λ limit file port. 0;
  Comes = λ limit file port bytes. bytes ≡ [];
  Prints = λ limit file lines. lines ≡ [];
  ComesSoFar = λ limit file unread port bytes. bytes ≡ [];
  PrintsSoFar = λ limit file unread lines. lines ≡ [];
  Own = λ limit file. ⊤;
}

-- the command for parsed arguments; an invalid command line is refused
abbrev pub command_for : Option Order → Command
command_for None = no_command
command_for (Some (Code Disperse input output)) = disperse_command input output
command_for (Some (Code Outer input output)) = outer_command input output
command_for (Some (Code (Inner settings) input output)) = inner_command settings input output
command_for (Some (Modulate settings hp lp cells)) = modulate_command settings hp lp cells
command_for (Some (Receive settings cells hp lp)) = receive_command settings cells hp lp
command_for (Some (Rescue settings cells hp lp)) = rescue_command settings cells hp lp
command_for (Some (Tune settings cells hp lp)) = tune_command settings cells hp lp
command_for (Some (Align settings old new)) = align_command settings old new
command_for (Some (Measure settings cells)) = measure_command settings cells
command_for (Some (Upgrade settings old new)) = upgrade_command settings old new
command_for (Some (Equalise settings old new)) = equalise_command settings old new
command_for (Some (Track settings old new)) = track_command settings old new
command_for (Some (Trial settings number)) = trial_command settings number

-- the command for a list of arguments
abbrev pub command_of : List (List ℕ) → Command
command_of words = command_for (order_of words)
