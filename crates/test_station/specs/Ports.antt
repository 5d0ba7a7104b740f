-- The known state of a station between two calls of a test.
use Rattle.std.specs.Prelude.{◌≡◌, Bool, true, false, None}
use Rattle.station_core.specs.Meaning.{Meaning}

-- the flags are true of the station, and Report is open
pub record AreTrue (bytes_asked bytes_open hp_asked hp_attached : Bool) (m : Meaning) : Type 0 where
  pub report_created : m.report.created ≡ true
  pub report_open : m.report.closed ≡ false
  pub unasked : bytes_asked ≡ false → m.bytes_out.asked ≡ None
  pub created : bytes_open ≡ true → m.bytes_out.created ≡ true
  pub unclosed : bytes_open ≡ true → m.bytes_out.closed ≡ false
  pub hp_unasked : hp_asked ≡ false → m.hp.asked ≡ None
  pub attached : hp_attached ≡ true → m.hp.attached ≡ true
