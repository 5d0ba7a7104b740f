-- The blocks of a symbol: what each repeats of the first one.
use Rattle.std.proofs.Common.{◌≡◌, ℕ, zero, suc, ◌+◌, ◌-◌, ◌*◌, ◌/◌, ◌%◌, ◌<◌, ◌≤◌, ◌⊎◌, inl, inr, List, length, refl, sym, ap, ap₂, ◌∙◌, subst, arith}
use Rattle.std.specs.Prelude.{Option, Some, None, option_map, slice_index_or, drop}
use Rattle.std.proofs.lemmas.Bool.{cases_lt}
use Rattle.std.proofs.Math.Nat.{mul-add-mod_self_right, mul-add-div_right, mul_assoc, mul-le-mul_right}
use Rattle.code_paths.specs.declared.costs.CostPair.{CostPair}
use Rattle.mode_set.specs.StreamTable.{payload, width, need, rate, steps_in_period, sent_in_period}
use Rattle.mode_set.specs.declared.modes.Mode.{Mode}
use Rattle.mode_set.specs.declared.modes.Mode.TheVariants.{M2k, M8k}
use Rattle.mode_set.specs.declared.modes.Shape.{Shape}
use Rattle.mode_set.specs.declared.modes.Shape.TheVariants.{Qpsk, Qam16, Qam64}
use Rattle.mode_set.specs.declared.modes.Hierarchy.{Hierarchy}
use Rattle.mode_set.specs.declared.modes.Hierarchy.TheVariants.{Flat, Alpha1, Alpha2, Alpha4}
use Rattle.mode_set.specs.declared.modes.Rate.{Rate}
use Rattle.mode_set.specs.declared.modes.Rate.TheVariants.{R1of2, R2of3, R3of4, R5of6, R7of8}
use Rattle.mode_set.specs.declared.modes.Stream.{Stream}
use Rattle.mode_set.specs.declared.modes.Stream.TheVariants.{Hp, Lp}
use Rattle.mode_set.specs.declared.settings.Settings.{Settings}
use Rattle.puncture.specs.SentBits.{Coded, X, Y}
use Rattle.puncture.specs.Steps.{number_of, costs_at}
use Rattle.puncture.specs.Laws.{PeriodsShift}
use Rattle.bit_interleave.specs.Place.{first_place, offset, place_in_label, word_of_bit}
use Rattle.symbol_interleave.specs.Carried.{is_odd, place_of_word}
use Rattle.qam_map.specs.declared.cell.Cell.{Cell}
use Rattle.inner_chain.specs.CostPairs.{IsPairOf, costs_of_bit, weighted_costs_on}
use Rattle.inner_chain.specs.CostTables.{blocks, block_coded, block_steps, pair_at, entry_at, IsPlaced, IsRoom, AreCosts, AreCostEntries, IsRead, WritesPairs, most_places}
use Rattle.inner_chain.proofs.Entering.{periods_of}

-- ---- amounts the steps of a block, of a stream with w bits a label
abbrev Share : Mode → ℕ → Rate → Type 0
Share m w r = (payload m * w * steps_in_period r / sent_in_period r / blocks m * sent_in_period r ≡ 252 * w * steps_in_period r)
    × (blocks m * (payload m * w * steps_in_period r / sent_in_period r / blocks m) ≡ payload m * w * steps_in_period r / sent_in_period r)

share_of : (m : Mode) (v : ℕ) (r : Rate) → Share m (2 * v) r
share_of M2k v R1of2 = (omega arith, omega arith)
share_of M2k v R2of3 = (omega arith, omega arith)
share_of M2k v R3of4 = (omega arith, omega arith)
share_of M2k v R5of6 = (omega arith, omega arith)
share_of M2k v R7of8 = (omega arith, omega arith)
share_of M8k v R1of2 = (omega arith, omega arith)
share_of M8k v R2of3 = (omega arith, omega arith)
share_of M8k v R3of4 = (omega arith, omega arith)
share_of M8k v R5of6 = (omega arith, omega arith)
share_of M8k v R7of8 = (omega arith, omega arith)

even : (c : Shape) (h : Hierarchy) (σ : Stream) → 2 * (width c h σ / 2) ≡ width c h σ
even Qpsk Flat Hp = refl
even Qpsk Flat Lp = refl
even Qpsk Alpha1 Hp = refl
even Qpsk Alpha1 Lp = refl
even Qpsk Alpha2 Hp = refl
even Qpsk Alpha2 Lp = refl
even Qpsk Alpha4 Hp = refl
even Qpsk Alpha4 Lp = refl
even Qam16 Flat Hp = refl
even Qam16 Flat Lp = refl
even Qam16 Alpha1 Hp = refl
even Qam16 Alpha1 Lp = refl
even Qam16 Alpha2 Hp = refl
even Qam16 Alpha2 Lp = refl
even Qam16 Alpha4 Hp = refl
even Qam16 Alpha4 Lp = refl
even Qam64 Flat Hp = refl
even Qam64 Flat Lp = refl
even Qam64 Alpha1 Hp = refl
even Qam64 Alpha1 Lp = refl
even Qam64 Alpha2 Hp = refl
even Qam64 Alpha2 Lp = refl
even Qam64 Alpha4 Hp = refl
even Qam64 Alpha4 Lp = refl

share : (s : Settings) (σ : Stream) → Share s.mode (width s.shape s.hierarchy σ) (rate s σ)
share s σ = subst (λ (z : ℕ). Share s.mode z (rate s σ)) (even s.shape s.hierarchy σ) (share_of s.mode (width s.shape s.hierarchy σ / 2) (rate s σ))

-- a block has block_coded - block_steps periods
pub block_periods : (s : Settings) (σ : Stream) → ((block_coded s σ - block_steps s σ) * sent_in_period (rate s σ) ≡ block_coded s σ) × ((block_coded s σ - block_steps s σ) * steps_in_period (rate s σ) ≡ block_steps s σ)
block_periods s σ = periods_of (rate s σ) (block_coded s σ) (block_steps s σ) (share s σ).0

pub all_blocks : (s : Settings) (σ : Stream) → blocks s.mode * block_steps s σ ≡ need s σ
all_blocks s σ = (share s σ).1

-- ---- places
offset_small : (e : ℕ) → offset e ≤ 126
offset_small zero = omega arith
offset_small (suc zero) = omega arith
offset_small (suc (suc zero)) = omega arith
offset_small (suc (suc (suc zero))) = omega arith
offset_small (suc (suc (suc (suc zero)))) = omega arith
offset_small (suc (suc (suc (suc (suc zero))))) = omega arith
offset_small (suc (suc (suc (suc (suc (suc e)))))) = omega arith

in_block : (b w d : ℕ) → b * (252 * w) + d ≡ b * 252 * w + d
in_block b w d = ap (λ (z : ℕ). z + d) (sym (mul_assoc b 252 w))

pub place_shifts : (c : Shape) (h : Hierarchy) (σ : Stream) (b d : ℕ) → place_in_label c h σ (b * (252 * width c h σ) + d) ≡ place_in_label c h σ d
place_shifts c h σ b d =
    let n = width c h σ in
    let same : (b * (252 * n) + d) % n ≡ d % n = ap (λ (z : ℕ). z % n) (in_block b n d) ∙ mul-add-mod_self_right (b * 252) n d in
    ap (λ (z : ℕ). z / (n / 2) + 2 * (z % (n / 2)) + first_place h σ) same

pub word_shifts : (c : Shape) (h : Hierarchy) (σ : Stream) (b d : ℕ) → 0 < width c h σ → word_of_bit c h σ (b * (252 * width c h σ) + d) ≡ b * 252 + word_of_bit c h σ d
word_shifts c h σ b d some =
    let n = width c h σ in
    let i = d / n in
    let index : (b * (252 * n) + d) / n ≡ b * 252 + i = ap (λ (z : ℕ). z / n) (in_block b n d) ∙ mul-add-div_right some (b * 252) d in
    let o = offset (place_in_label c h σ d) in
    let few : o ≤ 126 = offset_small (place_in_label c h σ d) in
    ap₂ (λ (z e : ℕ). 126 * (z / 126) + (z + 126 - offset e) % 126) index (place_shifts c h σ b d)
    ∙ rotated b i o few
  where
    rotated : (b i o : ℕ) → o ≤ 126 → 126 * ((b * 252 + i) / 126) + (b * 252 + i + 126 - o) % 126 ≡ b * 252 + (126 * (i / 126) + (i + 126 - o) % 126)
    rotated b i o l = omega (arith, l)

-- ---- steps
pub number_shifts : (law : PeriodsShift) (s : Settings) (σ : Stream) (b t : ℕ) (xy : ℕ → Coded) → number_of (rate s σ) xy (b * block_steps s σ + t) ≡ option_map (λ n. b * block_coded s σ + n) (number_of (rate s σ) xy t)
number_shifts law s σ b t xy =
    let r = rate s σ in
    let p = block_coded s σ - block_steps s σ in
    let steps : b * p * steps_in_period r ≡ b * block_steps s σ = grouped b p (steps_in_period r) ∙ ap (λ (z : ℕ). b * z) (block_periods s σ).1 in
    let bits : b * p * sent_in_period r ≡ b * block_coded s σ = grouped b p (sent_in_period r) ∙ ap (λ (z : ℕ). b * z) (block_periods s σ).0 in
    sym (ap (λ (z : ℕ). number_of r xy (z + t)) steps)
    ∙ (law r (b * p) t).numbers xy
    ∙ ap (λ (z : ℕ). option_map (λ n. z + n) (number_of r xy t)) bits
  where
    grouped : (b p k : ℕ) → b * p * k ≡ b * (p * k)
    grouped b p k = mul_assoc b p k

-- ---- costs the costs at the entry of a coded bit of the first block are, in block b, those of the bit at its place
-- there
cost_read : (s : Settings) (cells : List Cell) (weights : List ℕ) (l b : ℕ) (σ : Stream) (costs : List (ℕ × ℕ)) (d : Option ℕ) → AreCosts s cells weights l b costs → IsRoom costs → IsPlaced s σ d
    → pair_at costs (entry_at s σ d) ≡ costs_at (costs_of_bit s cells weights l σ) (option_map (λ n. b * block_coded s σ + n) d)
cost_read s cells weights l b σ costs None a r placed = r.last most_places (omega arith)
cost_read s cells weights l b σ costs (Some d) a r placed =
    a.at (word_of_bit s.shape s.hierarchy σ d) (place_in_label s.shape s.hierarchy σ d) placed.1 placed.2
    ∙ sym (ap₂ (λ (w e : ℕ). weighted_costs_on s cells weights l (place_of_word s.mode (is_odd l) w) e) (word_shifts s.shape s.hierarchy σ b d placed.0) (place_shifts s.shape s.hierarchy σ b d))

pub pair_read : (law : PeriodsShift) (s : Settings) (cells : List Cell) (weights : List ℕ) (l b : ℕ) (σ : Stream) (costs : List (ℕ × ℕ)) (entries : List ℕ) (t : ℕ) (c : CostPair) → AreCosts s cells weights l b costs → IsRoom costs
    → AreCostEntries s σ (block_steps s σ) entries → t < block_steps s σ → IsRead costs entries t c → IsPairOf s cells weights l σ (b * block_steps s σ + t) c
pair_read law s cells weights l b σ costs entries t c a r e within read = record {
  x = read.x ∙ ap (pair_at costs) (e.x t within) ∙ cost_read s cells weights l b σ costs (number_of (rate s σ) X t) a r (e.x_placed t within) ∙ sym (ap (costs_at (costs_of_bit s cells weights l σ)) (number_shifts law s σ b t X));
  y = read.y ∙ ap (pair_at costs) (e.y t within) ∙ cost_read s cells weights l b σ costs (number_of (rate s σ) Y t) a r (e.y_placed t within) ∙ sym (ap (costs_at (costs_of_bit s cells weights l σ)) (number_shifts law s σ b t Y));
}

-- ---- one block more
pub block_more : (law : PeriodsShift) (s : Settings) (cells : List Cell) (weights : List ℕ) (l b : ℕ) (σ : Stream) (costs : List (ℕ × ℕ)) (entries : List ℕ) (first steps : ℕ) (old mid new : List CostPair) → first ≡ b * block_steps s σ → steps ≡ block_steps s σ
    → AreCosts s cells weights l b costs → IsRoom costs → AreCostEntries s σ (block_steps s σ) entries → WritesPairs s cells weights l σ (b * block_steps s σ) old mid
    → ((t : ℕ) (d : CostPair) → t < steps → IsRead costs entries t (slice_index_or new (first + t) d)) → ((k : ℕ) (d : CostPair) → k < first → slice_index_or new k d ≡ slice_index_or mid k d)
    → ((k : ℕ) → first + steps ≤ k → drop k new ≡ drop k mid) → length new ≡ length mid → WritesPairs s cells weights l σ ((b + 1) * block_steps s σ) old new
block_more law s cells weights l b σ costs entries first steps old mid new ef es a r e w here before rest long = record { long = long ∙ w.long; at = at; rest = kept }
  where
    next : (b + 1) * block_steps s σ ≡ first + steps
    next = after b (block_steps s σ) ∙ sym (ap₂ (λ (x y : ℕ). x + y) ef es)
      where
        after : (b n : ℕ) → (b + 1) * n ≡ b * n + n
        after b n = omega arith

    at : (t : ℕ) (d : CostPair) → t < (b + 1) * block_steps s σ → IsPairOf s cells weights l σ t (slice_index_or new t d)
    at t d m = go (cases_lt t first)
      where
        go : (t < first) ⊎ (first ≤ t) → IsPairOf s cells weights l σ t (slice_index_or new t d)
        go (inl less) = subst (IsPairOf s cells weights l σ t) (sym (before t d less)) (w.at t d (omega (arith, less, ef)))
        go (inr more) =
            let u = t - first in
            let place : first + u ≡ t = omega (arith, more) in
            let number : b * block_steps s σ + u ≡ t = omega (arith, more, ef) in
            let within : u < steps = omega (arith, m, next, more) in
            let read : IsRead costs entries u (slice_index_or new t d) = subst (λ (z : ℕ). IsRead costs entries u (slice_index_or new z d)) place (here u d within) in
            subst (λ (z : ℕ). IsPairOf s cells weights l σ z (slice_index_or new t d)) number (pair_read law s cells weights l b σ costs entries u (slice_index_or new t d) a r e (omega (arith, within, es)) read)

    kept : (k : ℕ) → (b + 1) * block_steps s σ ≤ k → drop k new ≡ drop k old
    kept k m = rest k (omega (arith, m, next)) ∙ w.rest k (omega (arith, m, next, ef))

-- nothing is written before the first block, and all after the last one
pub none_written : (s : Settings) (cells : List Cell) (weights : List ℕ) (l : ℕ) (σ : Stream) (old : List CostPair) → WritesPairs s cells weights l σ 0 old old
none_written s cells weights l σ old = record { long = refl; at = λ t d m. absurd (omega (arith, m)); rest = λ k m. refl }

pub all_written : (s : Settings) (cells : List Cell) (weights : List ℕ) (l : ℕ) (σ : Stream) (b : ℕ) (old new : List CostPair) → b ≡ blocks s.mode → WritesPairs s cells weights l σ (b * block_steps s σ) old new → WritesPairs s cells weights l σ (need s σ) old new
all_written s cells weights l σ b old new e w =
    let all : b * block_steps s σ ≡ need s σ = ap (λ (z : ℕ). z * block_steps s σ) e ∙ all_blocks s σ in
    subst (λ (z : ℕ). WritesPairs s cells weights l σ z old new) all w

-- a block fits in the room of the symbol
pub fits_in : (s : Settings) (σ : Stream) (b first steps long : ℕ) → b < blocks s.mode → first ≡ b * block_steps s σ → steps ≡ block_steps s σ → need s σ ≤ long → first + steps ≤ long
fits_in s σ b first steps long l ef es fits =
    let above : (b + 1) * block_steps s σ ≤ blocks s.mode * block_steps s σ = mul-le-mul_right (block_steps s σ) (omega (arith, l)) in
    let next : (b + 1) * block_steps s σ ≡ b * block_steps s σ + block_steps s σ = omega arith in
    omega (arith, above, next, all_blocks s σ, ef, es, fits)
