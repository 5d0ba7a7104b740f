-- The bits so far are those of the syndrome.
use Rattle.std.proofs.Common.{◌≡◌, ℕ, ◌<◌, ◌-◌, get_or, false, length, List, Bool}
use Rattle.spec_words.specs.Bits.{is_set}
use Rattle.tps_bch.proofs.parity.Given as goal

pub record Spells (i rest : ℕ) (bits : List Bool) : Type 0 where
  pub long : length bits ≡ 14
  pub same : (k : ℕ) → k < i → get_or bits k false ≡ is_set rest (13 - k)

abbrev pub invariant-loop-i : goal.invariant-loop-i
invariant-loop-i l = Spells l.i l.rest l.bit-items
