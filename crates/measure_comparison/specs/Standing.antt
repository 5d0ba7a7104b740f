-- The state of a comparer, and the remade symbol that it compares with.
use Rattle.std.specs.Prelude.{◌≡◌, ℕ, ◌%◌, Bool, true, false, List, Option, IfSome, IsNone, slice_index_or}
use Rattle.mode_set.specs.declared.modes.Stream.{Stream}
use Rattle.mode_set.specs.declared.modes.Stream.TheVariants.{Hp, Lp}
use Rattle.mode_set.specs.declared.settings.Settings.{Settings}
use Rattle.symbol_parameters.specs.Spans.{settings_at}
use Rattle.inner_chain.specs.Labels.{TxState, register_of}
use Rattle.measure_report.specs.declared.sums.SymbolSums.{SymbolSums}
use Rattle.measure_sums.specs.Comparing.{Comparison, symbol_sums}
use Rattle.measurement.specs.Known.{is_compared, remade_bit}
use Rattle.measure_known_bits.specs.Seen.{KnownState}
use Rattle.measure_comparison.specs.Seen.{SymbolState, ComparerState, known_of}
use Rattle.measure_known_bits.specs.Passing.{HasPassed, IsSettled, has_bits}

-- the encoder of each stream before symbol m, in the known bits
abbrev pub HavePassed : Settings → ℕ → KnownState → KnownState → TxState → (Stream → List Bool) → Type 0
HavePassed s m hp lp coder known = (σ : Stream) → HasPassed s σ m (known_of hp lp σ) (register_of coder σ) (known σ)

-- the known bits of both streams suffice for a symbol of these parameters, and their encoders have passed what they can
pub record AreReady (now : Settings) (hp lp : KnownState) : Type 0 where
  pub hp_has : has_bits now Hp hp ≡ true
  pub lp_has : has_bits now Lp lp ≡ true
  pub hp_settled : IsSettled hp
  pub lp_settled : IsSettled lp

-- before symbol m, with these known bits of each stream
pub record StandsBefore (m : ℕ) (x : ComparerState) (hp lp : KnownState) (known : Stream → List Bool) : Type 0 where
  pub next : x.next ≡ m
  pub streams : HavePassed x.settings m hp lp x.coder known

-- symbol m with these cells and its remade labels
abbrev pub beside : Settings → SymbolState → (Stream → List Bool) → ℕ → Comparison
beside s symbol known m = record {
  settings = settings_at s m;
  cells = symbol.cells;
  weights = symbol.weights;
  symbol = m % 68;
  labels = remade_bit s known m;
}

-- the sums of symbol m, exactly if it is compared
pub record IsSummed (s : Settings) (symbol : SymbolState) (known : Stream → List Bool) (m : ℕ)
    (result : Option SymbolSums) : Type 0 where
  pub some : IfSome result (λ sums. (is_compared s m known ≡ true) × (sums ≡ symbol_sums (beside s symbol known m)))
  pub none : IsNone result → is_compared s m known ≡ false

-- the symbol kept at the index of symbol m
abbrev pub kept_at : ComparerState → ℕ → SymbolState → SymbolState
kept_at x m d = slice_index_or x.kept (m % 4) d
