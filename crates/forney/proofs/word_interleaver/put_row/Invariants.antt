use Rattle.std.proofs.Common.{◌≡◌, ◌<◌, ◌+◌, ◌-◌, ◌*◌, ℕ, length, slice_index}
use Rattle.forney.proofs.word_interleaver.put_row.Given as goal

abbrev pub invariant-loop-branch : goal.invariant-loop-branch
invariant-loop-branch l = record {
  size : length l.word ≡ 204;
  before : (j : ℕ) → j < 12 * l.row → slice_index l.word j ≡ slice_index l.initial.word j;
  here : (b : ℕ) → b < l.branch → slice_index l.word (12 * l.row + b) ≡ slice_index l.window (2244 + 12 * l.row + b - 204 * b);
}
