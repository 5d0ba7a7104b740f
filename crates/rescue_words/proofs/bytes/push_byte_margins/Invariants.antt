use Rattle.std.proofs.Common.{◌≡◌, ◌+◌, ◌++◌}
use Rattle.std.specs.Prelude.{vec_len, vec_capacity}
use Rattle.forney.specs.Values.{values}
use Rattle.rescue_words.specs.ByteMargins.{byte_margin}
use Rattle.rescue_words.proofs.bytes.push_byte_margins.Given as goal

abbrev pub invariant-loop-k : goal.invariant-loop-k
invariant-loop-k l = (l.to.items ≡ l.initial.to.items ++ values (byte_margin l.margins) 0 l.k) × (vec_len l.to ≡ vec_len l.initial.to + l.k) × (vec_capacity l.to ≡ vec_capacity l.initial.to)
