-- The builder is ready for the first symbol.
use Rattle.std.proofs.Common.{arith}
use Rattle.frame_build.proofs.Indices.{all_indices}
use Rattle.frame_build.proofs.symbol_out.SymbolOut.new.Goals as goal

pub invariant_of-result : goal.invariant_of-result
invariant_of-result g c = record {
  mode = c.requires;
  within = omega arith;
  indices = all_indices _ c.indices.result c.indices-2.result c.indices-3.result c.indices-4.result c.indices.ensures c.indices-2.ensures c.indices-3.ensures c.indices-4.ensures;
}
