use Rattle.std.proofs.Common.{arith}
use Rattle.symbol_interleave.proofs.Marks.{places_long, place_is}
use Rattle.symbol_interleave.proofs.permutation.Permutation.h.Goals as goal

pub index-requires : goal.index-requires
index-requires g c = omega (arith, places_long _ _ _ c.self.invariant, c.self.inside.places.ok)

pub returns-clause-address : goal.returns-clause-address
returns-clause-address g c = (place_is _ _ _ _ _ c.self.invariant c.requires c.index.ensures).place

pub returns-clause-in_symbol : goal.returns-clause-in_symbol
returns-clause-in_symbol g c = (place_is _ _ _ _ _ c.self.invariant c.requires c.index.ensures).low

pub returns-clause-back : goal.returns-clause-back
returns-clause-back g c = (place_is _ _ _ _ _ c.self.invariant c.requires c.index.ensures).back
