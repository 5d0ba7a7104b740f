-- The state of the reader of TPS words.
use Rattle.std.specs.Prelude.{◌≡◌, ℕ, ◌+◌, ◌-◌, ◌/◌, ◌%◌, ◌<◌, ◌≤◌, false, List, length, take, get_or}
use Rattle.mode_set.specs.declared.modes.Mode.{Mode}
use Rattle.pilots.specs.Carriers.{tps_carriers}
use Rattle.qam_map.specs.declared.cell.Cell.{Cell}
use Rattle.reception.specs.Frames.{frame_bit, frame_bits, CountsWords}
use Rattle.inner_receiver.specs.declared.frames.FrameReader.{FrameReader}

-- The reader has had the symbols before n, with these TPS cells. It keeps the TPS cells of the last one, the bits of
-- the frame so far, and the counts of the frames before.
pub record FrameStands (mode : Mode) (x : FrameReader) (cells : ℕ → List Cell) (n : ℕ) : Type 0 where
  pub symbol : x.symbol ≡ n % 68
  pub before : 0 < n % 68 → take (length (tps_carriers mode)) x.before ≡ cells (n - 1)
  pub bits : (i : ℕ) → i + 1 < n % 68 → get_or x.bits (i + 1) false ≡ frame_bit cells (n / 68) i
  pub counts : CountsWords (frame_bits cells) (n / 68) x.read x.bad

-- It has also had the cells of symbol n and its vote, but has not yet advanced.
pub record IsVoted (mode : Mode) (x : FrameReader) (cells : ℕ → List Cell) (n : ℕ) : Type 0 where
  pub symbol : x.symbol ≡ n % 68
  pub before : take (length (tps_carriers mode)) x.before ≡ cells n
  pub bits : (i : ℕ) → i + 1 ≤ n % 68 → get_or x.bits (i + 1) false ≡ frame_bit cells (n / 68) i
  pub counts : CountsWords (frame_bits cells) (n / 68) x.read x.bad
