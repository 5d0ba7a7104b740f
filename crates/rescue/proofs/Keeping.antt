-- The invariant of a stream, from symbol to symbol.
use Rattle.std.proofs.Common.{◌≡◌, ℕ, ◌+◌, ◌*◌, ◌^◌, ◌<◌, ◌≤◌, List, length, ap, arith}
use Rattle.code_paths.specs.declared.costs.CostPair.{CostPair}
use Rattle.inner_decoder.specs.Running.{BranchState}
use Rattle.inner_receiver.specs.Branches.{HasTaken}
use Rattle.word_workers.specs.Symbols.{MayRunOver}
use Rattle.rescue.specs.Kept.{AreFew, IsReady, IsKeptStream, RanFrom, seen}
use Rattle.rescue.specs.Seen.{StreamState}
use Rattle.rescue.specs.declared.stream.StreamRx.{StreamRx}

pub few_more : (x : StreamState) (n m : ℕ) → n ≤ m → AreFew x n → AreFew x m
few_more x n m l h = record { words = omega (arith, l, h.words); unmerged = omega (arith, l, h.unmerged) }

pub may_take : (x : StreamRx) (xs : List CostPair) (taken : ℕ) → IsKeptStream x taken → taken < 2 ^ 32 → length xs ≤ 31752 → MayRunOver xs x.branch
may_take x xs taken h l few = record {
  going = h.ready.going;
  loaded = h.ready.some.stands.loaded;
  wait = h.ready.some.stands.few;
  few = few;
  steps = omega (arith, h.steps_were, l);
}

pub ran_from : (x : StreamRx) (ran : BranchState) (xs : List CostPair) → IsReady x → HasTaken xs x.branch ran → RanFrom xs (record x { branch = ran })
ran_from x ran xs h run = record { before = x.branch; taken = run; some = h.some }

pub keeps : (x y : StreamRx) (ran : BranchState) (xs : List CostPair) (taken : ℕ) → IsKeptStream x taken → length xs ≤ 31752 → HasTaken xs x.branch ran
    → y.branch ≡ record ran { wait = y.branch.wait } → IsReady y → ((n : ℕ) → AreFew (record (seen x) { branch = ran }) n → AreFew (seen y) (n + 4400)) → IsKeptStream y (taken + 1)
keeps x y ran xs taken h long run rest ready few = record {
  ready = ready;
  steps_were = omega (arith, ap (λ (z : BranchState). z.decoder.steps) rest, run.steps, long, h.steps_were);
  counts = few_more _ (4400 * taken + 4400) (4400 * (taken + 1)) (omega arith) (few (4400 * taken) (record { words = h.counts.words; unmerged = h.counts.unmerged }));
}

-- at the start
pub first_kept : (x : StreamRx) (taken : ℕ) → IsReady x → x.branch.decoder.steps ≡ 0 → AreFew (seen x) 0 → IsKeptStream x taken
first_kept x taken ready none counts = record { ready = ready; steps_were = omega (arith, none); counts = few_more _ 0 (4400 * taken) (omega arith) counts }
