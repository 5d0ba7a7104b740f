-- The cell of a label, received close to its point.
use Rattle.std.proofs.Common.{◌≡◌, ℕ, zero, suc, ◌+◌, ◌/◌, ◌%◌, ◌*◌, ◌<◌, ◌≤◌, List, ◌∷◌, length, get_or, refl, sym, ap, ap₂, ◌∙◌, subst, arith, Bool, true, false, cond, not, ◌||◌}
use Rattle.std.specs.Prelude.{IsTrue, filter, count_by, slice_index, ◌==◌}
use Rattle.std.specs.List.{range_with_len}
use Rattle.spec_words.specs.Words.{numbers}
use Rattle.mode_set.specs.StreamTable.{carriers, payload, label_bits}
use Rattle.mode_set.specs.declared.modes.Mode.{Mode}
use Rattle.mode_set.specs.declared.settings.Settings.{Settings}
use Rattle.pilots.specs.declared.carrier_kind.CarrierKind.{CarrierKind}
use Rattle.pilots.specs.declared.carrier_kind.CarrierKind.TheVariants.{Continual, Scattered, Tps, Payload}
use Rattle.pilots.specs.Carriers.{is_continual, is_scattered, is_tps, is_payload, payload_carriers, kind, AreNumbered}
use Rattle.qam_map.specs.Points.{map_cell, on_axis}
use Rattle.qam_map.specs.declared.cell.Cell.{Cell}
use Rattle.soft_metric.specs.Costs.{IsNear, cost, NearPointsFavourTheirBits}
use Rattle.frame_build.specs.Announcing.{announcing_cell, settings_for}
use Rattle.frame_build.specs.Symbol.{cell_of_kind}
use Rattle.soft_metric.specs.Weights.{weighted}
use Rattle.qam_map.specs.Cells.{cell_of}
use Rattle.inner_chain.specs.CostPairs.{weight_of, costs_on, weighted_costs_on}
use Rattle.symbol_parameters.specs.Spans.{settings_at}
use Rattle.symbol_parameters.specs.Laws.{ModeStays}
use Rattle.transmission.specs.Transmission.{Inputs, announced_at, tx_cell, tx_label}
use Rattle.transmission.specs.SuperFrames.{symbols_of}
use Rattle.reception.specs.Cells.{symbol_cells, symbol_weights}
use Rattle.law_link.specs.Counted.{AreCounted}
use Rattle.law_link.specs.Returned.{IsWithin}

-- ---- the kinds of carriers repeat after four symbols
same_scattered : (l k : ℕ) → is_scattered (l % 4) k ≡ is_scattered l k
unfolding is_scattered
same_scattered l k = let e : l % 4 % 4 ≡ l % 4 = omega arith in ap (λ (z : ℕ). k % 12 == 3 * z) e

free : Mode → ℕ → ℕ → Bool
free m z k = not (is_continual m k || (k % 12 == 3 * z) || is_tps m k)

same_payload : (m : Mode) (l : ℕ) → is_payload m (l % 4) ≡ is_payload m l
unfolding is_payload is_scattered free
same_payload m l = let e : l % 4 % 4 ≡ l % 4 = omega arith in ap (free m) e

same_carriers : (m : Mode) (l : ℕ) → payload_carriers m (l % 4) ≡ payload_carriers m l
unfolding payload_carriers
same_carriers m l = ap (λ (p : ℕ → Bool). filter p (numbers (carriers m))) (same_payload m l)

same_kind : (m : Mode) (l k : ℕ) → kind m (l % 4) k ≡ kind m l k
unfolding kind
same_kind m l k =
    ap₂ (λ (b : Bool) (p : ℕ → Bool). cond (is_continual m k) Continual (cond b Scattered (cond (is_tps m k) Tps (Payload (count_by p (numbers k)))))) (same_scattered l k) (same_payload m l)

repeated : (m : Mode) (l : ℕ) → AreNumbered m (l % 4) → AreNumbered m l
repeated m l h k q b = (there, back)
  where
    there : kind m l k ≡ Payload q → (q < payload m) × (slice_index (payload_carriers m l) q ≡ k)
    there e = let p = (h k q b).0 (same_kind m l k ∙ e) in (p.0, ap (λ (z : List ℕ). slice_index z q) (sym (same_carriers m l)) ∙ p.1)

    back : (q < payload m) × (slice_index (payload_carriers m l) q ≡ k) → kind m l k ≡ Payload q
    back p = sym (same_kind m l k) ∙ (h k q b).1 (p.0, ap (λ (z : List ℕ). slice_index z q) (same_carriers m l) ∙ p.1)

-- the known facts on four symbols
pub record AreFour (m : Mode) : Type 0 where
  pub at_0 : AreCounted m 0
  pub at_1 : AreCounted m 1
  pub at_2 : AreCounted m 2
  pub at_3 : AreCounted m 3

one_of_four : (m : Mode) (r : ℕ) → AreFour m → r < 4 → AreCounted m r
one_of_four m zero four l = four.at_0
one_of_four m (suc zero) four l = four.at_1
one_of_four m (suc (suc zero)) four l = four.at_2
one_of_four m (suc (suc (suc zero))) four l = four.at_3
one_of_four m (suc (suc (suc (suc r)))) four l = absurd (omega (arith, l))

pub counted : (m : Mode) → AreFour m → (l : ℕ) → AreCounted m l
counted m four l =
    let c = one_of_four m (l % 4) four (omega arith) in
    record { many = ap (λ (z : List ℕ). length z) (sym (same_carriers m l)) ∙ c.many; numbered = repeated m l c.numbered }

-- ---- payload carrier q as a carrier
abbrev is_below : (ℕ → Bool) → ℕ → List ℕ → ℕ → Type 0
is_below p n xs q = (p (get_or xs q 0) ≡ true) × (get_or xs q 0 < n)

filtered : (p : ℕ → Bool) (a n q : ℕ) → q < length (filter p (range_with_len a n)) → is_below p (a + n) (filter p (range_with_len a n)) q
filtered p a zero q l = absurd (omega (arith, l))
filtered p a (suc n) q l = go (p a) refl q (filtered p (a + 1) n) l
  where
    rest : List ℕ
    rest = filter p (range_with_len (a + 1) n)

    go : (b : Bool) → p a ≡ b → (q : ℕ) → ((q : ℕ) → q < length rest → is_below p (a + 1 + n) rest q) → q < length (cond b (a ∷ rest) rest) → is_below p (a + suc n) (cond b (a ∷ rest) rest) q
    go true e zero more k = (e, omega arith)
    go true e (suc q) more k = let h = more q (omega (arith, k)) in (h.0, omega (arith, h.1))
    go false e q more k = let h = more q k in (h.0, omega (arith, h.1))

-- payload carrier q of symbol m is carrier k
pub record IsCarrierOf (s : Settings) (m q k : ℕ) : Type 0 where
  pub within : k < carriers s.mode
  pub free : IsTrue (is_payload s.mode (m % 68) k)
  pub kind_is : kind s.mode (m % 68) k ≡ Payload q

pub carrier_of : (s : Settings) (m q : ℕ) → AreCounted s.mode (m % 68) → q < payload s.mode
    → IsCarrierOf s m q (slice_index (payload_carriers s.mode (m % 68)) q)
unfolding payload_carriers numbers
carrier_of s m q counts l =
    let h = filtered (is_payload s.mode (m % 68)) 0 (carriers s.mode) q (omega (arith, l, counts.many)) in
    let within : slice_index (payload_carriers s.mode (m % 68)) q < carriers s.mode = omega (arith, h.1) in
    record { within = within; free = h.0; kind_is = (counts.numbered (slice_index (payload_carriers s.mode (m % 68)) q) q within).1 (l, refl) }

-- ---- the cell of a label
pub point_is : (s : Settings) (inputs : Inputs) (m q k : ℕ) → kind (settings_at s m).mode (m % 68) k ≡ Payload q
    → tx_cell s inputs m k ≡ map_cell (settings_at s m).shape (settings_at s m).hierarchy (tx_label s inputs m q)
unfolding tx_cell announcing_cell cell_of_kind
point_is s inputs m q k e = ap (λ (kd : CarrierKind). cell_of_kind (settings_for (settings_at s m) (announced_at s m) kd) m (tx_label s inputs m) k kd) e

-- the received cell on a payload carrier
abbrev pub cell_on : Settings → List ℕ → ℕ → ℕ → Cell
cell_on s bytes m q = cell_of (symbol_cells s bytes m) (slice_index (payload_carriers (settings_at s m).mode (m % 68)) q)

-- a payload carrier by the symbol's settings is one of the receiver's
pub record IsFree (s : Settings) (m k : ℕ) : Type 0 where
  pub within : k < carriers s.mode
  pub free : IsTrue (is_payload s.mode (m % 68) k)

is_free : ModeStays → (s : Settings) (m q k : ℕ) → IsCarrierOf (settings_at s m) m q k → IsFree s m k
is_free stays s m q k c = record {
  within = subst (λ (z : Mode). k < carriers z) (stays s (m / 272)) c.within;
  free = subst (λ (z : Mode). IsTrue (is_payload z (m % 68) k)) (stays s (m / 272)) c.free;
}

near_label : ModeStays → (s : Settings) (inputs : Inputs) (bytes : List ℕ) (m q : ℕ) → IsWithin s inputs bytes → m < symbols_of s inputs → IsCarrierOf (settings_at s m) m q (slice_index (payload_carriers (settings_at s m).mode (m % 68)) q)
    → IsNear (settings_at s m).shape (settings_at s m).hierarchy (map_cell (settings_at s m).shape (settings_at s m).hierarchy (tx_label s inputs m q)) (cell_on s bytes m q)
near_label stays s inputs bytes m q w l c =
    let k : ℕ = slice_index (payload_carriers (settings_at s m).mode (m % 68)) q in
    let f : IsFree s m k = is_free stays s m q k c in
    subst (λ (z : Cell). IsNear (settings_at s m).shape (settings_at s m).hierarchy z (cell_on s bytes m q)) (point_is s inputs m q k c.kind_is) (w.near m k l f.within f.free)

-- each bit of the label costs at least 15 less than its complement
pub label_favoured : NearPointsFavourTheirBits → ModeStays → (s : Settings) (inputs : Inputs) (bytes : List ℕ) (m q e : ℕ) → IsWithin s inputs bytes → m < symbols_of s inputs
    → AreCounted (settings_at s m).mode (m % 68) → q < payload (settings_at s m).mode → e < label_bits (settings_at s m).shape
    → cost (settings_at s m).shape (settings_at s m).hierarchy (on_axis (cell_on s bytes m q) e) e (tx_label s inputs m q e) + 15 ≤ cost (settings_at s m).shape (settings_at s m).hierarchy (on_axis (cell_on s bytes m q) e) e (not (tx_label s inputs m q e))
label_favoured favour stays s inputs bytes m q e w l counts lq le =
    favour (settings_at s m).shape (settings_at s m).hierarchy (tx_label s inputs m q) (cell_on s bytes m q) e le (near_label stays s inputs bytes m q w l (carrier_of (settings_at s m) m q counts lq))

-- the received weight on a payload carrier
abbrev pub weight_on : Settings → List ℕ → ℕ → ℕ → ℕ
weight_on s bytes m q = weight_of (symbol_weights s bytes m) (slice_index (payload_carriers (settings_at s m).mode (m % 68)) q)

-- it is at least 1
pub some_weight : ModeStays → (s : Settings) (inputs : Inputs) (bytes : List ℕ) (m q : ℕ) → IsWithin s inputs bytes → m < symbols_of s inputs → AreCounted (settings_at s m).mode (m % 68) → q < payload (settings_at s m).mode → 1 ≤ weight_on s bytes m q
some_weight stays s inputs bytes m q w l counts lq =
    let k : ℕ = slice_index (payload_carriers (settings_at s m).mode (m % 68)) q in
    let f : IsFree s m k = is_free stays s m q k (carrier_of (settings_at s m) m q counts lq) in
    w.weight m k l f.within f.free

pub costs_are : (s : Settings) (bytes : List ℕ) (m q e : ℕ)
    → weighted_costs_on (settings_at s m) (symbol_cells s bytes m) (symbol_weights s bytes m) (m % 68) q e
    ≡ weighted (cost (settings_at s m).shape (settings_at s m).hierarchy (on_axis (cell_on s bytes m q) e) e false, cost (settings_at s m).shape (settings_at s m).hierarchy (on_axis (cell_on s bytes m q) e) e true) (weight_on s bytes m q)
unfolding costs_on weighted_costs_on
costs_are s bytes m q e = refl
