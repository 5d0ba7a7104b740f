-- The costs for the decoder of a stream, from the cells and weights of symbols.
use Rattle.std.specs.Prelude.{ℕ, ◌%◌, List, map, flat_map}
use Rattle.spec_words.specs.Words.{numbers}
use Rattle.code_paths.specs.declared.costs.CostPair.{CostPair}
use Rattle.mode_set.specs.declared.modes.Stream.{Stream}
use Rattle.mode_set.specs.declared.settings.Settings.{Settings}
use Rattle.symbol_parameters.specs.Spans.{settings_at, steps_of}
use Rattle.inner_chain.specs.PairLists.{pair_of}
use Rattle.reception.specs.Cells.{symbols, symbol_cells, symbol_weights}

-- the cost pairs of symbol m, one for each step, by the settings of its super-frame; it is symbol m mod 68 of its frame
unfoldable pub symbol_costs : Settings → List ℕ → Stream → ℕ → List CostPair
symbol_costs s bytes σ m = map (pair_of (settings_at s m) (symbol_cells s bytes m) (symbol_weights s bytes m) (m % 68)
    σ) (numbers (steps_of s σ m))

-- the cost pairs of every whole symbol of the bytes
unfoldable pub costs : Settings → List ℕ → Stream → List CostPair
costs s bytes σ = flat_map (symbol_costs s bytes σ) (numbers (symbols s bytes))
