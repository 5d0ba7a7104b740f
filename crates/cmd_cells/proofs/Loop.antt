-- The loop over the symbols: its state in the middle.
use Rattle.std.proofs.Common.{◌≡◌, ℕ, ◌*◌, ◌<◌, ◌^◌, List, length, arith}
use Rattle.station_core.specs.Meaning.{Meaning}
use Rattle.cmd_cells.specs.Symbols.{symbols}
use Rattle.cmd_cells.specs.Work.{GoesOn, Work, Written}
use Rattle.cmd_cells.specs.Cells.{IsWorking}
use Rattle.cmd_cells.proofs.Counting.{symbols_are}

-- after fewer than 2^32 symbols the work continues
pub goes : (w : Work) → 0 < w.size → (standing : List ℕ → Written → Type 0) (file : List ℕ) (start m : Meaning) (bytes : List ℕ) (given : Written) (n : ℕ)
    → IsWorking w standing file start m bytes given → length bytes ≡ n * w.size → n < 2 ^ 32 → GoesOn w standing
goes w some standing file start m bytes given n was size few = record {
  bytes = bytes;
  given = given;
  stands = was.stands;
  few = let same : symbols w.size bytes ≡ n = symbols_are w.size some bytes n size in omega (arith, same, few);
}
