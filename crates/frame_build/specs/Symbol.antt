-- The cells of an OFDM symbol, and their bytes and weights (EN 300 744, 4.4 to 4.6; the bytes and weights are this
-- project's own).
use Rattle.std.specs.Prelude.{ℕ, zero, suc, ◌+◌, ◌*◌, ◌/◌, ◌%◌, Bool, if◌then◌else◌, List, ◌++◌, map, [], ◌∷◌, flat_map}
use Rattle.std.specs.Prelude.{drop, slice_index, pos, neg_ℤ, ◌≡◌, ◌<◌}
use Rattle.std.specs.Int.{cast_unsigned, cast_signed, w16}
use Rattle.std.specs.Prelude.{get_or}
use Rattle.byteorder.specs.Endian.{big_bytes, big_number}
use Rattle.spec_words.specs.Bits.{bit, xor, is_set}
use Rattle.spec_words.specs.Words.{numbers}
use Rattle.mode_set.specs.StreamTable.{carriers, label_bits, payload}
use Rattle.mode_set.specs.declared.settings.Settings.{Settings}
use Rattle.pilots.specs.declared.carrier_kind.CarrierKind.{CarrierKind}
use Rattle.pilots.specs.declared.carrier_kind.CarrierKind.TheVariants.{Continual, Scattered, Tps, Payload}
use Rattle.pilots.specs.Carriers.{kind}
use Rattle.pilots.specs.Reference.{reference}
use Rattle.qam_map.specs.declared.cell.Cell.{Cell}
use Rattle.qam_map.specs.Points.{map_cell}
use Rattle.soft_metric.specs.Weights.{full_weight, weight_of_byte}
use Rattle.tps_word.specs.Tps.{tps_word, signalled}

-- a real value, negated if `opposite`
abbrev pub real : ℕ → Bool → Cell
real n opposite = record { re = if opposite then neg_ℤ (pos n) else pos n; im = pos 0 }

-- whether the TPS cell of carrier k is negative in symbol l of a frame: in symbol 0 by the reference sequence, then as
-- in the symbol before if s_l is 0, inverted if it is 1 (4.6.3)
unfoldable pub tps_sign : List Bool → ℕ → ℕ → Bool
tps_sign word k zero = reference k
tps_sign word k (suc l) = xor (tps_sign word k l) (bit word l)

-- the frame of symbol m, 1 to 4
abbrev pub frame_of : ℕ → ℕ
frame_of m = m / 68 % 4 + 1

-- the cell of carrier k in symbol m, by the kind of the carrier: pilots have 4 / 3 of the mean amplitude, TPS cells the
-- mean amplitude (4.5.5, 4.6.3)
unfoldable pub cell_of_kind : Settings → ℕ → (ℕ → ℕ → Bool) → ℕ → CarrierKind → Cell
cell_of_kind s m labels k Continual = real 21845 (reference k)
cell_of_kind s m labels k Scattered = real 21845 (reference k)
cell_of_kind s m labels k Tps = real 16384 (tps_sign (tps_word (signalled s (frame_of m))) k (m % 68))
cell_of_kind s m labels k (Payload q) = map_cell s.shape s.hierarchy (labels q)

-- the cell of carrier k in symbol m, from the symbol's labels; labels q e is bit e of the label on payload carrier q
unfoldable pub cell_at : Settings → ℕ → (ℕ → ℕ → Bool) → ℕ → Cell
cell_at s m labels k = cell_of_kind s m labels k (kind s.mode (m % 68) k)

-- the five bytes of a cell: real part, imaginary part, high byte first, then its weight
unfoldable pub cell_bytes : Cell → ℕ → List ℕ
cell_bytes c weight = big_bytes 2 (cast_unsigned w16 c.re) ++ (big_bytes 2 (cast_unsigned w16 c.im) ++ weight ∷ [])

-- the bytes of a transmitted cell, at full weight
unfoldable pub sent_bytes : Cell → List ℕ
sent_bytes c = cell_bytes c full_weight

-- the bytes of symbol m, carriers rising
unfoldable pub symbol_bytes : Settings → ℕ → (ℕ → ℕ → Bool) → List ℕ
symbol_bytes s m labels = flat_map (λ k. sent_bytes (cell_at s m labels k)) (numbers (carriers s.mode))

-- labels that agree in every bit of every payload carrier
abbrev pub Agree : Settings → (ℕ → ℕ → Bool) → (ℕ → ℕ → Bool) → Type 0
Agree s labels more = (q e : ℕ) → q < payload s.mode → e < label_bits s.shape → labels q e ≡ more q e

-- bit e of label q in a list
abbrev pub bits_of : List ℕ → ℕ → ℕ → Bool
bits_of labels q = is_set (get_or labels q 0)

-- cell k of a list of bytes
unfoldable pub cell_from : List ℕ → ℕ → Cell
cell_from bytes k = record {
  re = cast_signed w16 (big_number 2 (drop (5 * k) bytes));
  im
      = cast_signed w16 (big_number 2 (drop (5 * k + 2) bytes));
}

-- the first n cells of a list of bytes
unfoldable pub cells_from : List ℕ → ℕ → List Cell
cells_from bytes n = map (cell_from bytes) (numbers n)

-- the weight of cell k in a list of bytes; above 15 it counts as 15
unfoldable pub weight_from : List ℕ → ℕ → ℕ
weight_from bytes k = weight_of_byte (slice_index bytes (5 * k + 4))

-- the first n weights of a list of bytes
unfoldable pub weights_from : List ℕ → ℕ → List ℕ
weights_from bytes n = map (weight_from bytes) (numbers n)
