-- All output ports together.
use Rattle.std.specs.Prelude.{◌≡◌, ◌≢◌}
use Rattle.station_files.specs.declared.outputs.Outputs.{Outputs}
use Rattle.station_files.specs.declared.writing.Fault.TheVariants.{Untold}
use Rattle.station_files.specs.Ports.{sink_of}
use Rattle.station_files.specs.Waiting.{IsOut}

-- no port has bytes waiting to be written
pub record AllOut {F : Type 0} (o : Outputs F) : Type 0 where
  pub cells : IsOut o.cells
  pub hp : IsOut o.hp
  pub lp : IsOut o.lp
  pub bytes : IsOut o.bytes

-- a call has reported every file fault met so far
pub record AllTold {F : Type 0} (o : Outputs F) : Type 0 where
  pub cells : o.cells.fault ≢ Untold
  pub hp : o.hp.fault ≢ Untold
  pub lp : o.lp.fault ≢ Untold
  pub bytes : o.bytes.fault ≢ Untold

-- the meanings of the ports have not changed
pub record SameSinks {F : Type 0} (old new : Outputs F) : Type 0 where
  pub cells : sink_of new.cells ≡ sink_of old.cells
  pub hp : sink_of new.hp ≡ sink_of old.hp
  pub lp : sink_of new.lp ≡ sink_of old.lp
  pub bytes : sink_of new.bytes ≡ sink_of old.bytes
