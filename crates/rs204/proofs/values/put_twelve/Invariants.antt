use Rattle.std.proofs.Common.{◌≡◌, ◌+◌, ◌<◌, ℕ, get_or, length}
use Rattle.rs204.proofs.values.put_twelve.Given as goal

abbrev pub invariant-loop-i : goal.invariant-loop-i
invariant-loop-i l = record {
  long : length l.values ≡ 204;
  before : (k : ℕ) → k < l.from → get_or l.values k 0 ≡ get_or l.fn.values k 0;
  put : (k : ℕ) → k < l.i → get_or l.values (l.from + k) 0 ≡ get_or l.next k 0;
}
