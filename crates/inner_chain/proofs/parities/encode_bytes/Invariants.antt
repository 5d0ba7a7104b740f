use Rattle.std.proofs.Common.{◌+◌, ◌*◌, ◌≤◌, ◌++◌, ℕ, Bool, List, length, drop}
use Rattle.bit_pack.specs.Queue.{bits_of_bytes}
use Rattle.inner_chain.specs.Tables.{IsEncoded}
use Rattle.inner_chain.proofs.parities.encode_bytes.Given as goal

abbrev pub invariant-loop-index : goal.invariant-loop-index
invariant-loop-index l = (w e x rest : List Bool) (n : ℕ) → l.done + 8 * length l.bytes ≤ n → IsEncoded w e x l.first n l.done (bits_of_bytes l.bytes ++ rest) l.initial.encoder l.initial.to
    → IsEncoded w e x l.first n (l.done + 8 * l.index) (bits_of_bytes (drop l.index l.bytes) ++ rest) l.encoder l.to
