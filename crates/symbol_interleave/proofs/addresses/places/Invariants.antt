use Rattle.std.proofs.Common.{◌≡◌, ◌-◌, ◌^◌, ◌<◌, ◌++◌}
use Rattle.symbol_interleave.specs.Carried.{bits, h}
use Rattle.symbol_interleave.proofs.Making.{addresses_from}
use Rattle.symbol_interleave.proofs.addresses.places.Given as goal

abbrev pub invariant-loop-index : goal.invariant-loop-index
invariant-loop-index g l = record { small : l.word < 2 ^ (bits g.M.Carriers.MODE - 1); rest : l.list.items ++ addresses_from g.M.Carriers.MODE l.index (2 ^ bits g.M.Carriers.MODE - l.index) l.word ≡ h g.M.Carriers.MODE }
