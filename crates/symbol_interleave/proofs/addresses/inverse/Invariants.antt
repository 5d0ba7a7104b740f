use Rattle.std.proofs.Common.{◌≡◌, ℕ, ◌<◌, length}
use Rattle.std.specs.Prelude.{slice_index}
use Rattle.symbol_interleave.proofs.addresses.inverse.Given as goal

abbrev pub invariant-loop-index : goal.invariant-loop-index
invariant-loop-index l = record { long : length l.back.items ≡ length l.list; back : (k : ℕ) → k < l.index → slice_index l.back.items (slice_index l.list k) ≡ k }
