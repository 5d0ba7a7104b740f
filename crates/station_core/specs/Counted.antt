-- Counts of the calls made at each port, and of those that failed.
use Rattle.std.specs.Prelude.{ℕ, ◌≡◌, ◌≤◌, ◌+◌, min, List, slice_index, slice_set, Result, OnOk, OnErr}
use Rattle.station_core.specs.declared.station.Failed.{Failed}
use Rattle.station_core.specs.Causes.{Rose, greatest_count}

-- the number of the next call at a port, counted from 1
abbrev pub next_call : List ℕ → ℕ → ℕ
next_call calls port = min (slice_index calls port + 1) greatest_count

-- one more call at a port
abbrev pub counted : List ℕ → ℕ → List ℕ
counted calls port = slice_set calls port (next_call calls port)

-- A call counts its fault: the count rises if it fails, and stays if it does not.
pub record CountsFault {t : Type 0} (result : Result t Failed) (before now : ℕ) : Type 0 where
  pub uncounted : OnOk result (now ≡ before)
  pub cause : OnErr result (Rose before now)
  pub later : before ≤ now
  pub bounded : OnErr result (now ≤ greatest_count)
