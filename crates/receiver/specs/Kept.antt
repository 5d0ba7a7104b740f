-- The invariant of a receiver.
use Rattle.std.specs.Prelude.{◌≡◌, ℕ, ◌+◌, ◌^◌, ◌<◌, ◌≤◌, Bool, false}
use Rattle.receiver.specs.Ready.{IsKeptStream}
use Rattle.inner_receiver.specs.declared.frames.FrameReader.{FrameReader}
use Rattle.receiver.specs.declared.stream.StreamRx.{StreamRx}

-- until the end both streams and the reader of TPS words have had the symbols taken
pub record IsReceiving (taken : ℕ) (hp lp : StreamRx) (frames : FrameReader) (ended : Bool) : Type 0 where
  pub hp_kept : ended ≡ false → IsKeptStream hp taken
  pub lp_kept : ended ≡ false → IsKeptStream lp taken
  pub few_taken : taken ≤ 2 ^ 32
  pub symbol : frames.symbol < 68
  pub few_frames : frames.read + frames.bad ≤ taken
