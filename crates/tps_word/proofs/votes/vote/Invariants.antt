-- The sum so far, with that of the remaining cells, is the whole, and it is small.
use Rattle.std.proofs.Common.{◌≡◌, ◌*◌, ◌≤ℤ◌, ◌+ℤ◌, ℤ, pos, neg_ℤ, ℕ, drop, List}
use Rattle.qam_map.specs.declared.cell.Cell.{Cell}
use Rattle.tps_word.specs.Vote.{agreement}
use Rattle.tps_word.proofs.votes.vote.Given as goal

pub record Sums (i : ℕ) (sum : ℤ) (before now : List Cell) : Type 0 where
  pub value : sum +ℤ agreement (drop i before) (drop i now) ≡ agreement before now
  pub least : neg_ℤ (pos (4294967296 * i)) ≤ℤ sum
  pub most : sum ≤ℤ pos (4294967296 * i)

abbrev pub invariant-loop-i : goal.invariant-loop-i
invariant-loop-i l = Sums l.i l.sum l.before l.now
