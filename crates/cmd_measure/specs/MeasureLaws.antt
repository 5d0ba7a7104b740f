-- Laws of `measure`: its report is unique, its lines follow one another and add up, and a correctly decoded
-- transmission is measured against the cells sent.
use Rattle.std.specs.Prelude.{◌≡◌, ℕ, List, Option, Some}
use Rattle.mode_set.specs.declared.settings.Settings.{Settings}
use Rattle.measurement.specs.Laws.{LiveBeginsFinal, LiveBeginsLive}
use Rattle.law_measurement.specs.Own.{FramesAreExact, FramesAreNear}
use Rattle.law_measurement.specs.Remade.{ErrorIsFromSent, RemadeAreSent}
use Rattle.law_measurement.specs.Totals.{ClosingIsReceived, LinesAddUp}
use Rattle.cmd_receive.specs.OneOutput.{AtMostOne, ExactlyOne}
use Rattle.cmd_receive.specs.Received.{cells_in}
use Rattle.cmd_measure.specs.Measured.{LinesCome, LinesSoFar}

-- The report is unique. After a failed read that leaves `left` unread there is at most one.
pub record IsOneReport (s : Settings) (file : List ℕ) : Type 0 where
  pub lines : ExactlyOne (LinesCome s (cells_in file))
  pub lines_so_far : (left : List ℕ) → AtMostOne (LinesSoFar (Some s) file left)

-- the laws, from the stated settings, if any, and the file of cells
pub record MeasureLaws (stated : Option Settings) (file : List ℕ) : Type 0 where
  pub one : (s : Settings) → stated ≡ Some s → IsOneReport s file
  -- The lines defined so far are a prefix of those for more bytes, so far and at the end.
  pub live : LiveBeginsLive
  pub last : LiveBeginsFinal
  -- The counts of words, reports and frames over all super-frames add up to the closing lines, which are those of a
  -- reception.
  pub sums : LinesAddUp
  pub closing : ClosingIsReceived
  -- If the known bits of a compared symbol are the bits sent, it is compared with the cells sent, and the error is
  -- against them, whatever was received.
  pub sent : RemadeAreSent
  pub error : ErrorIsFromSent
  -- A transmission's own cells, from start zero, have no error and nothing wrong, muted, corrected, bad, unphased or
  -- repaired.
  pub own : FramesAreExact
  -- The same within the tolerance of its cells, with a bounded error.
  pub noise : FramesAreNear
