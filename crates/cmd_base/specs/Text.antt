-- The lines of the report, and the statuses.
use Rattle.std.specs.Prelude.{ℕ, List, [], ◌++◌, ◌==◌, Option, None, Some, codes, decimal, if◌then◌else◌}
use Rattle.rx_report.specs.Streams.{stream_text}
use Rattle.cmd_base.specs.declared.refusal.Refusal.{Refusal}
use Rattle.mode_set.specs.Keys.{key_text}
use Rattle.cmd_base.specs.Command.{Command, Files, refusal_of}
use Rattle.cmd_base.specs.declared.refusal.SettingsRefusal.{SettingsRefusal}
use Rattle.cmd_base.specs.declared.refusal.SettingsRefusal.TheVariants as settings
use Rattle.cmd_base.specs.declared.refusal.Refusal.TheVariants.{Usage, Settings, ReadFault, WriteFault, NotSync, Memory}
use Rattle.cmd_base.specs.declared.refusal.Refusal.TheVariants.{Limit, Cells}
use Rattle.cmd_base.specs.declared.refusal.CellsRefusal.{CellsRefusal}
use Rattle.cmd_base.specs.declared.refusal.CellsRefusal.TheVariants as cells

-- the text for rejected settings
abbrev pub settings_text : SettingsRefusal → List ℕ
settings_text settings.TooLong = codes "too long"
settings_text settings.NotToml = codes "not toml"
settings_text (settings.Unknown place) = codes "unknown " ++ decimal place
settings_text (settings.Missing key) = codes "missing " ++ key_text key
settings_text (settings.Value key) = codes "value " ++ key_text key
settings_text (settings.Clash key) = codes "clash " ++ key_text key
settings_text settings.Form = codes "form"

-- the text for rejected cells
abbrev pub cells_text : CellsRefusal → List ℕ
cells_text cells.Header = codes "cells header"
cells_text cells.NoPlace = codes "tune none"
cells_text cells.AnnouncedForm = codes "tune form"

-- the text of a refusal
abbrev pub refusal_text : Refusal → List ℕ
refusal_text Usage = codes "usage\n"
refusal_text (Settings reason) = codes "settings " ++ settings_text reason ++ codes "\n"
refusal_text ReadFault = codes "read fault\n"
refusal_text WriteFault = codes "write fault\n"
refusal_text (NotSync stream n) = stream_text stream ++ codes " packet " ++ decimal n ++ codes "\n"
refusal_text Memory = codes "memory\n"
refusal_text (Limit n) = codes "limit " ++ decimal n ++ codes "\n"
refusal_text (Cells reason) = cells_text reason ++ codes "\n"

-- the text of a refusal, or none
abbrev pub text_if_refused : Option Refusal → List ℕ
text_if_refused None = []
text_if_refused (Some refusal) = refusal_text refusal

-- the status if cells are refused
abbrev pub cells_status : CellsRefusal → ℕ
cells_status cells.Header = 9
cells_status cells.NoPlace = 10
cells_status cells.AnnouncedForm = 11

-- the status of a refusal
abbrev pub refusal_status : Refusal → ℕ
refusal_status Usage = 2
refusal_status (Settings reason) = 3
refusal_status ReadFault = 5
refusal_status WriteFault = 6
refusal_status (NotSync stream n) = 4
refusal_status Memory = 7
refusal_status (Limit n) = 8
refusal_status (Cells reason) = cells_status reason

-- the status of a run, by its refusal
abbrev pub status_of : Option Refusal → ℕ
status_of None = 0
status_of (Some refusal) = refusal_status refusal

-- the text at the end of the report for a status: of a fault, of lack of memory, or of the refusal that the arguments
-- and files give
abbrev pub text_at : Command → ℕ → Files → ℕ → List ℕ
text_at c limit file status =
    if status == 5 then refusal_text ReadFault else if status == 6 then refusal_text WriteFault
    else if status == 7 then refusal_text Memory else text_if_refused (refusal_of limit file c)
