use Rattle.std.proofs.Common.{◌≡◌, ◌<◌, ◌+◌, ◌-◌, ◌*◌, ◌%◌, ℕ, length, slice_index}
use Rattle.forney.proofs.word_interleaver.put_word.Given as goal

abbrev pub invariant-loop-row : goal.invariant-loop-row
invariant-loop-row l = record {
  size : length l.word ≡ 204;
  bytes : (j : ℕ) → j < 12 * l.row → slice_index l.word j ≡ slice_index l.window (2244 + j - 204 * (j % 12));
}
