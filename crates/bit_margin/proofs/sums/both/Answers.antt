use Rattle.std.proofs.Common.{◌≡◌, ℕ, ◌+◌, ◌<◌, length, List, sym, subst, take, get_or}
use Rattle.bit_margin.proofs.Lanes.{both_at, both_len, sums}
use Rattle.bit_margin.proofs.sums.both.Goals as goal

pub returns-clause-len : goal.returns-clause-len
returns-clause-len c = subst (λ (z : List ℕ). length (sums (take 16 c.args.before.now) z) ≡ 16) (sym c.wide.ensures) (both_len c.args.before.now c.args.behind.now c.requires.before_len c.requires.behind_len)

pub returns-clause-is : goal.returns-clause-is
returns-clause-is c =
    subst (λ (z : List ℕ). (k : ℕ) → k < 16 → get_or (sums (take 16 c.args.before.now) z) k 0 ≡ get_or c.args.before.now k 0 + get_or c.args.behind.now k 0) (sym c.wide.ensures)
    (both_at c.args.before.now c.args.behind.now c.requires.before_len c.requires.behind_len c.requires.before_small c.requires.behind_small)
