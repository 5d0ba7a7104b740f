-- Bytes that wait at a port of a station over files.
use Rattle.std.specs.Prelude.{◌≡◌}
use Rattle.station_files.specs.declared.buffer.Buffer.{Buffer}
use Rattle.station_files.specs.declared.writing.FileWriting.{FileWriting}
use Rattle.station_files.specs.declared.writing.Fault.TheVariants.{Absent}

-- no byte waits
abbrev pub IsEmpty : Buffer → Type 0
IsEmpty b = b.start ≡ b.end

-- the port has no bytes waiting to be written
abbrev pub IsOut : {F : Type 0} → FileWriting F → Type 0
IsOut w = IsEmpty w.buffer

-- and no write to its file has failed
pub record IsSettled {F : Type 0} (w : FileWriting F) : Type 0 where
  pub out : IsOut w
  pub faultless : w.fault ≡ Absent
