use Rattle.std.proofs.Common.{◌≡◌, ◌+◌, ◌*◌, ◌≤◌, drop}
use Rattle.symbol_interleave.specs.Carried.{moved}
use Rattle.symbol_interleave.proofs.Making.{moved_from}
use Rattle.symbol_interleave.proofs.addresses.rewired.Given as goal

abbrev pub invariant-loop-place : goal.invariant-loop-place
invariant-loop-place l = record { few : l.wired ≤ l.place * 4096; rest : l.wired + moved_from l.word l.place (drop l.place l.places) ≡ moved l.word l.places }
