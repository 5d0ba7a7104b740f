use Rattle.std.proofs.Common.{refl, arith}
use Rattle.test_runs.proofs.runs.run_words_gated.Goals as goal

pub run_gated-requires : goal.run_gated-requires
run_gated-requires g c = λ k. (
  record { shared = c.type_bounds.sync-R.shared },
  (record { shared = c.type_bounds.sync-G.shared }, ((refl, tt), (c.requires.fresh, (omega arith, omega arith)))),
)
