-- The costs of cells.
use Rattle.std.proofs.Common.{◌≡◌, Bool, ℕ, ◌+◌, ◌*◌, ◌/◌, ◌%◌, ◌<◌, ◌≤◌, ◌⊎◌, inl, inr, List, length, get_or, min, sym, ap, ap₂, ◌∙◌, subst, arith}
use Rattle.std.specs.Prelude.{◌==◌, slice_index, slice_index_or}
use Rattle.std.proofs.lemmas.Bool.{cases_lt}
use Rattle.std.proofs.lemmas.List.{get_or_default}
use Rattle.mode_set.specs.StreamTable.{carriers, payload, label_bits}
use Rattle.mode_set.specs.declared.modes.Mode.{Mode}
use Rattle.mode_set.specs.declared.modes.Mode.TheVariants.{M2k, M8k}
use Rattle.mode_set.specs.declared.modes.Shape.{Shape}
use Rattle.mode_set.specs.declared.modes.Shape.TheVariants.{Qpsk, Qam16, Qam64}
use Rattle.mode_set.specs.declared.modes.Stream.{Stream}
use Rattle.mode_set.specs.declared.modes.Hierarchy.{Hierarchy}
use Rattle.mode_set.specs.declared.settings.Settings.{Settings}
use Rattle.pilots.specs.Carriers.{payload_carriers}
use Rattle.bit_interleave.specs.Place.{place_in_label, word_of_bit}
use Rattle.symbol_interleave.specs.Carried.{is_odd, place_of_word}
use Rattle.qam_map.specs.declared.cell.Cell.{Cell}
use Rattle.soft_metric.specs.Costs.{costs_at_place}
use Rattle.soft_metric.specs.Squares.{IsSmallPair}
use Rattle.soft_metric.specs.Weights.{full_weight, weighted}
use Rattle.qam_map.specs.Cells.{cell_of}
use Rattle.inner_chain.specs.CostPairs.{weight_of, costs_on, costs_of_bit, weighted_costs_on}
use Rattle.inner_chain.specs.CostTables.{blocks, carrier_of_word, pair_at, AreWordCells, AreWordWeights, AreWeights, AreCosts, AreCarriers, IsRoom, IsWeightRoom}

-- ---- the carriers of a symbol
row : (m : Mode) (a q : ℕ) → q < payload m → ((a * payload m + q) / payload m ≡ a) × ((a * payload m + q) % payload m ≡ q)
row M2k a q l = (omega (arith, l), omega (arith, l))
row M8k a q l = (omega (arith, l), omega (arith, l))

in_four : (m : Mode) (l q : ℕ) → q < payload m → l % 4 * payload m + q < 4 * payload m
in_four M2k l q low = omega (arith, low)
in_four M8k l q low = omega (arith, low)

-- the parity of a symbol is that of its number modulo 4
parity : (l : ℕ) → is_odd (l % 4) ≡ is_odd l
parity l = let same : l % 4 % 2 ≡ l % 2 = omega arith in ap (λ (z : ℕ). z == 1) same

pub carrier_is : (m : Mode) (l q : ℕ) (table : List ℕ) → AreCarriers m (4 * payload m) table → q < payload m → payload_carriers m l ≡ payload_carriers m (l % 4) → slice_index table (l % 4 * payload m + q) ≡ carrier_of_word m l q
carrier_is m l q table a low repeat =
    let r = row m (l % 4) q low in
    a.at (l % 4 * payload m + q) (in_four m l q low)
    ∙ ap (λ (z : ℕ). carrier_of_word m z ((l % 4 * payload m + q) % payload m)) r.0
    ∙ ap (carrier_of_word m (l % 4)) r.1
    ∙ ap (λ (z : List ℕ). slice_index z (place_of_word m (is_odd (l % 4)) q)) (sym repeat)
    ∙ ap (λ (z : Bool). slice_index (payload_carriers m l) (place_of_word m z q)) (parity l)

-- a weight that is read where there is one
pub weight_is : (m : Mode) (weights : List ℕ) (k : ℕ) → AreWeights m weights → k < carriers m → slice_index weights k ≡ weight_of weights k
weight_is m weights k a l =
    let same : get_or weights k full_weight ≡ slice_index weights k = get_or_default weights k full_weight 0 (omega (arith, l, a.long)) in
    let low : min full_weight (slice_index weights k) ≡ slice_index weights k = omega (arith, a.small k l) in
    sym (ap (λ (z : ℕ). min full_weight z) same ∙ low)

-- ---- the words of a block
word_of_block : (m : Mode) (b q : ℕ) → b < blocks m → q < 252 → b * 252 + q < payload m
word_of_block M2k b q l k = omega (arith, l, k)
word_of_block M8k b q l k = omega (arith, l, k)

pub block_fits : (m : Mode) (l b : ℕ) → b < blocks m → l % 4 * payload m + 252 * b + 252 ≤ 4 * payload m
block_fits M2k l b k = omega (arith, k)
block_fits M8k l b k = omega (arith, k)

block_carrier : (m : Mode) (l b first q : ℕ) (table : List ℕ) → AreCarriers m (4 * payload m) table → b < blocks m → payload_carriers m l ≡ payload_carriers m (l % 4) → first ≡ l % 4 * payload m + 252 * b → q < 252
    → slice_index table (first + q) ≡ carrier_of_word m l (b * 252 + q)
block_carrier m l b first q table a few repeat e low =
    let place : first + q ≡ l % 4 * payload m + (b * 252 + q) = omega (arith, e) in
    ap (slice_index table) place ∙ carrier_is m l (b * 252 + q) table a (word_of_block m b q few low) repeat

pub cells_gathered : (m : Mode) (l b first : ℕ) (table : List ℕ) (cells list : List Cell) → AreCarriers m (4 * payload m) table → b < blocks m → payload_carriers m l ≡ payload_carriers m (l % 4) → first ≡ l % 4 * payload m + 252 * b → length list ≡ 256
    → ((q : ℕ) (d : Cell) → q < 252 → slice_index_or list q d ≡ cell_of cells (slice_index table (first + q))) → AreWordCells m cells l b list
cells_gathered m l b first table cells list a few repeat e long written = record {
  long = long;
  at = λ q d low. written q d low ∙ ap (cell_of cells) (block_carrier m l b first q table a few repeat e low);
}

pub weights_gathered : (m : Mode) (l b first : ℕ) (table weights old list : List ℕ) → AreCarriers m (4 * payload m) table → AreWeights m weights → b < blocks m → payload_carriers m l ≡ payload_carriers m (l % 4) → first ≡ l % 4 * payload m + 252 * b
    → IsWeightRoom old → length list ≡ length old → ((q : ℕ) → q < 252 → slice_index list q ≡ slice_index weights (slice_index table (first + q))) → ((q : ℕ) → 252 ≤ q → slice_index list q ≡ slice_index old q) → AreWordWeights m weights l b list
weights_gathered m l b first table weights old list a w few repeat e before long written rest = record {
  room = record { long = long ∙ before.long; small = small };
  at = λ q low. written q low ∙ weight_is m weights (slice_index table (first + q)) w (within q low) ∙ ap (weight_of weights) (block_carrier m l b first q table a few repeat e low);
}
  where
    within : (q : ℕ) → q < 252 → slice_index table (first + q) < carriers m
    within q low = a.within (first + q) (omega (arith, e, low, block_fits m l b few))

    small : (q : ℕ) → q < 256 → slice_index list q ≤ full_weight
    small q h = go (cases_lt q 252)
      where
        go : (q < 252) ⊎ (252 ≤ q) → slice_index list q ≤ full_weight
        go (inl low) = omega (arith, written q low, w.small (slice_index table (first + q)) (within q low))
        go (inr high) = omega (arith, rest q high, before.small q h)

-- ---- the costs of all places the metric is that of the settings, and its costs of these payload cells are written
pub costs_all : (s : Settings) (m : Shape × Hierarchy) (cells list : List Cell) (weights ws : List ℕ) (l b : ℕ) (costs : List (ℕ × ℕ)) → m ≡ (s.shape, s.hierarchy) → AreWordCells s.mode cells l b list → AreWordWeights s.mode weights l b ws
    → ((q e : ℕ) (d : Cell) → q < length list → e < label_bits m.0 → pair_at costs (e * length list + q) ≡ weighted (costs_at_place m.0 m.1 (slice_index_or list q d) e) (slice_index ws q)) → AreCosts s cells weights l b costs
unfolding costs_on weighted_costs_on
costs_all s m cells list weights ws l b costs em c w written = record { at = at }
  where
    at : (q e : ℕ) → q < 252 → e < label_bits s.shape → pair_at costs (e * 256 + q) ≡ weighted_costs_on s cells weights l (place_of_word s.mode (is_odd l) (b * 252 + q)) e
    at q e low place =
        let d : Cell = cell_of cells 0 in
        let within : q < length list = omega (arith, low, c.long) in
        let here : (z : Shape × Hierarchy) → z ≡ m → e < label_bits z.0 → pair_at costs (e * length list + q) ≡ weighted (costs_at_place z.0 z.1 (slice_index_or list q d) e) (slice_index ws q)
        = λ z same k. subst (λ (y : Shape × Hierarchy). e < label_bits y.0 → pair_at costs (e * length list + q) ≡ weighted (costs_at_place y.0 y.1 (slice_index_or list q d) e) (slice_index ws q)) (sym same) (λ j. written q e d within j) k in
        ap (λ (z : ℕ). pair_at costs (e * z + q)) (sym c.long) ∙ here (s.shape, s.hierarchy) (sym em) place ∙ ap₂ (λ (z : Cell) (v : ℕ). weighted (costs_at_place s.shape s.hierarchy z e) v) (c.at q d low) (w.at q low)

-- there is room for as many pairs, and the last one is nothing still
pub room_for : (c : Shape) (n : ℕ) → n ≡ 256 → label_bits c * n ≤ 1536
room_for Qpsk n e = omega (arith, e)
room_for Qam16 n e = omega (arith, e)
room_for Qam64 n e = omega (arith, e)

pub room_kept : (c : Shape) (n : ℕ) (old new : List (ℕ × ℕ)) → n ≡ 256 → IsRoom old → length new ≡ length old
    → ((k : ℕ) → IsSmallPair (pair_at old k) → IsSmallPair (pair_at new k)) → ((k : ℕ) → label_bits c * n ≤ k → pair_at new k ≡ pair_at old k) → IsRoom new
room_kept c n old new e r long small rest = record {
  long = long ∙ r.long;
  last = λ k l. rest k (omega (arith, room_for c n e, l)) ∙ r.last k l;
  small = λ k l. small k (r.small k (omega (arith, l, long)));
}

-- ---- a bit by itself
pub bit_read : (s : Settings) (cells : List Cell) (weights : List ℕ) (l : ℕ) (σ : Stream) (d : ℕ) (table : List ℕ) (e w k : ℕ) (pair : ℕ × ℕ) → AreCarriers s.mode (4 * payload s.mode) table → AreWeights s.mode weights → payload_carriers s.mode l ≡ payload_carriers s.mode (l % 4)
    → e ≡ place_in_label s.shape s.hierarchy σ d → w ≡ word_of_bit s.shape s.hierarchy σ d → w < payload s.mode → k ≡ slice_index table (l % 4 * payload s.mode + w)
    → pair ≡ weighted (costs_at_place s.shape s.hierarchy (cell_of cells k) e) (slice_index weights k) → pair ≡ costs_of_bit s cells weights l σ d
unfolding costs_on weighted_costs_on
bit_read s cells weights l σ d table e w k pair a ws repeat ee ew low ek ep =
    let within : k < carriers s.mode = subst (λ (z : ℕ). z < carriers s.mode) (sym ek) (a.within (l % 4 * payload s.mode + w) (in_four s.mode l w low)) in
    let here : k ≡ carrier_of_word s.mode l (word_of_bit s.shape s.hierarchy σ d) = ek ∙ carrier_is s.mode l w table a low repeat ∙ ap (carrier_of_word s.mode l) ew in
    ep
    ∙ ap (weighted (costs_at_place s.shape s.hierarchy (cell_of cells k) e)) (weight_is s.mode weights k ws within)
    ∙ ap₂ (λ (z i : ℕ). weighted (costs_at_place s.shape s.hierarchy (cell_of cells z) i) (weight_of weights z)) here ee
