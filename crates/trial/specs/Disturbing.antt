-- The disturbance of a symbol's cells in order.
use Rattle.std.specs.Prelude.{ℕ, ◌≤◌, Bool, if◌then◌else◌, List, flat_map, count_by, nat_abs, ◌+ℤ◌}
use Rattle.spec_words.specs.Words.{numbers}
use Rattle.mode_set.specs.declared.modes.Mode.{Mode}
use Rattle.mode_set.specs.declared.settings.Settings.{Settings}
use Rattle.pilots.specs.declared.carrier_kind.CarrierKind.{CarrierKind}
use Rattle.pilots.specs.declared.carrier_kind.CarrierKind.TheVariants.{Continual, Scattered, Tps, Payload}
use Rattle.pilots.specs.Carriers.{is_payload}
use Rattle.qam_map.specs.declared.cell.Cell.{Cell}
use Rattle.frame_build.specs.Symbol.{sent_bytes}
use Rattle.rand_pcg.specs.Lcg.{Lcg}
use Rattle.load_gen.specs.Draws.{after, shift_of}
use Rattle.trial.specs.Fed.{negated, fed_cell}

-- a cell moved by the next two random words
abbrev pub moved_by : ℕ → Lcg → Cell → Cell
moved_by delta g c = record { re = c.re +ℤ shift_of delta g; im = c.im +ℤ shift_of delta (after 1 g) }

-- both parts of a cell are at most 21845 plus a shift of 5792
pub record IsNegatable (c : Cell) : Type 0 where
  pub re : nat_abs c.re ≤ 27637
  pub im : nat_abs c.im ≤ 27637

-- a data cell is moved and, if so, negated; other cells stay
abbrev pub disturbed_by : ℕ → Bool → Lcg → Cell → CarrierKind → Cell
disturbed_by delta negate g c Continual = c
disturbed_by delta negate g c Scattered = c
disturbed_by delta negate g c Tps = c
disturbed_by delta negate g c (Payload q) = if negate then negated (moved_by delta g c) else moved_by delta g c

-- the generator after a cell
abbrev pub behind_cell : Lcg → CarrierKind → Lcg
behind_cell g Continual = g
behind_cell g Scattered = g
behind_cell g Tps = g
behind_cell g (Payload q) = after 1 (after 1 g)

-- the number of data cells below carrier k in symbol l of a frame
unfoldable pub payload_below : Mode → ℕ → ℕ → ℕ
payload_below m l k = count_by (is_payload m l) (numbers k)

-- the bytes of the first k carriers of symbol m
unfoldable pub fed_carriers : Settings → ℕ → ℕ → ℕ → List ℕ
fed_carriers s number m k = flat_map (λ i. sent_bytes (fed_cell s number m i)) (numbers k)
