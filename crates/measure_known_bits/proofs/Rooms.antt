-- How many known bits wait, and how many steps symbols have.
use Rattle.std.proofs.Common.{◌≡◌, ℕ, zero, suc, ◌+◌, ◌-◌, ◌*◌, ◌/◌, ◌<◌, ◌≤◌, ◌⊎◌, inl, inr, Bool, false, List, [], ◌∷◌, ◌++◌, length, drop, replicate, refl, sym, ap, ◌∙◌, arith, append_assoc, get_or, length-append, length-drop}
use Rattle.std.proofs.lemmas.List.{get_or_append_left, ext_get_or}
use Rattle.std.proofs.lemmas.List.FromFn.{length-map-range_with_len, get_or-map-range_with_len}
use Rattle.mode_set.specs.StreamTable.{payload, width, coded, rate, need, steps_in_period, sent_in_period}
use Rattle.mode_set.specs.declared.modes.Mode.{Mode}
use Rattle.mode_set.specs.declared.modes.Mode.TheVariants.{M2k, M8k}
use Rattle.mode_set.specs.declared.modes.Rate.{Rate}
use Rattle.mode_set.specs.declared.modes.Rate.TheVariants.{R1of2, R2of3, R3of4, R5of6, R7of8}
use Rattle.mode_set.specs.declared.modes.Shape.{Shape}
use Rattle.mode_set.specs.declared.modes.Shape.TheVariants.{Qpsk, Qam16, Qam64}
use Rattle.mode_set.specs.declared.modes.Hierarchy.{Hierarchy}
use Rattle.mode_set.specs.declared.modes.Hierarchy.TheVariants.{Flat, Alpha1, Alpha2, Alpha4}
use Rattle.mode_set.specs.declared.modes.Stream.{Stream}
use Rattle.mode_set.specs.declared.modes.Stream.TheVariants.{Hp, Lp}
use Rattle.mode_set.specs.declared.settings.Settings.{Settings}
use Rattle.symbol_parameters.specs.Spans.{settings_at, steps_before}
use Rattle.symbol_parameters.specs.Laws.{StepsOfOneMore}
use Rattle.puncture.specs.SentBits.{bits_from}
use Rattle.measurement.specs.Known.{known_path}
use Rattle.measure_known_bits.specs.Seen.{KnownState}
use Rattle.measure_known_bits.specs.Passing.{passed, HasPassed, IsSettled}

-- ---- more known bits

drop_append : (n : ℕ) (xs ys : List Bool) → n ≤ length xs → drop n (xs ++ ys) ≡ drop n xs ++ ys
drop_append zero xs ys l = refl
drop_append (suc n) [] ys l = absurd (omega (arith, l))
drop_append (suc n) (x ∷ xs) ys l = drop_append n xs ys (omega (arith, l))

-- the register looks at known bits alone
same_register : (known more : List Bool) (p : ℕ) → p ≤ length known → bits_from (known_path (known ++ more)) p 6 ≡ bits_from (known_path known) p 6
same_register known more p l =
    ext_get_or false (bits_from (known_path (known ++ more)) p 6) (bits_from (known_path known) p 6) (length-map-range_with_len (known_path (known ++ more)) p 6 ∙ sym (length-map-range_with_len (known_path known) p 6)) each
  where
    each : (i : ℕ) → i < length (bits_from (known_path (known ++ more)) p 6) → get_or (bits_from (known_path (known ++ more)) p 6) i false ≡ get_or (bits_from (known_path known) p 6) i false
    each i m =
        let below : i < 6 = omega (arith, m, length-map-range_with_len (known_path (known ++ more)) p 6) in
        let within : p + i < length (replicate 6 false ++ known) = omega (arith, below, l, length-append (replicate 6 false) known) in
        get_or-map-range_with_len (known_path (known ++ more)) p 6 i (p + i) false below refl
        ∙ ap (λ (z : List Bool). get_or z (p + i) false) (sym (append_assoc (replicate 6 false) known more))
        ∙ get_or_append_left (replicate 6 false ++ known) more false (p + i) within
        ∙ sym (get_or-map-range_with_len (known_path known) p 6 i (p + i) false below refl)

pub passed_more : (s : Settings) (σ : Stream) (m : ℕ) (k : KnownState) (register known more : List Bool) → HasPassed s σ m k register known → HasPassed s σ m (record k { waiting = k.waiting ++ more }) register (known ++ more)
passed_more s σ m k register known more h = record {
  before = h.before;
  lag = h.lag;
  within = omega (arith, h.within, length-append known more);
  waiting = ap (λ (z : List Bool). z ++ more) h.waiting ∙ sym (drop_append (passed k) known more h.within);
  register_is = h.register_is ∙ sym (same_register known more (passed k) h.within);
}

-- ---- few steps

width_few : (c : Shape) (h : Hierarchy) (σ : Stream) → width c h σ ≤ 6
width_few Qpsk Flat Hp = omega arith
width_few Qpsk Alpha1 Hp = omega arith
width_few Qpsk Alpha2 Hp = omega arith
width_few Qpsk Alpha4 Hp = omega arith
width_few Qam16 Flat Hp = omega arith
width_few Qam16 Alpha1 Hp = omega arith
width_few Qam16 Alpha2 Hp = omega arith
width_few Qam16 Alpha4 Hp = omega arith
width_few Qam64 Flat Hp = omega arith
width_few Qam64 Alpha1 Hp = omega arith
width_few Qam64 Alpha2 Hp = omega arith
width_few Qam64 Alpha4 Hp = omega arith
width_few Qpsk Flat Lp = omega arith
width_few Qpsk Alpha1 Lp = omega arith
width_few Qpsk Alpha2 Lp = omega arith
width_few Qpsk Alpha4 Lp = omega arith
width_few Qam16 Flat Lp = omega arith
width_few Qam16 Alpha1 Lp = omega arith
width_few Qam16 Alpha2 Lp = omega arith
width_few Qam16 Alpha4 Lp = omega arith
width_few Qam64 Flat Lp = omega arith
width_few Qam64 Alpha1 Lp = omega arith
width_few Qam64 Alpha2 Lp = omega arith
width_few Qam64 Alpha4 Lp = omega arith

coded_few : (m : Mode) (w : ℕ) → w ≤ 6 → payload m * w ≤ 36288
coded_few M2k w l = omega (arith, l)
coded_few M8k w l = omega (arith, l)

rate_few : (r : Rate) (c : ℕ) → c ≤ 36288 → c * steps_in_period r / sent_in_period r ≤ 31752
rate_few R1of2 c l = omega (arith, l)
rate_few R2of3 c l = omega (arith, l)
rate_few R3of4 c l = omega (arith, l)
rate_few R5of6 c l = omega (arith, l)
rate_few R7of8 c l = omega (arith, l)

need_few : (s : Settings) (σ : Stream) → need s σ ≤ 31752
need_few s σ = rate_few (rate s σ) (coded s σ) (coded_few s.mode (width s.shape s.hierarchy σ) (width_few s.shape s.hierarchy σ))

pub steps_few : StepsOfOneMore → (s : Settings) (σ : Stream) (m n : ℕ) → steps_before s σ (m + n) ≤ steps_before s σ m + 31752 * n
steps_few next s σ m zero =
    let same : m + 0 ≡ m = omega arith in
    let e : steps_before s σ (m + 0) ≡ steps_before s σ m = ap (steps_before s σ) same in
    omega (arith, e)
steps_few next s σ m (suc n) =
    let on : m + suc n ≡ (m + n) + 1 = omega arith in
    let e : steps_before s σ (m + suc n) ≡ steps_before s σ (m + n) + need (settings_at s (m + n)) σ = ap (steps_before s σ) on ∙ next s σ (m + n) in
    let one : need (settings_at s (m + n)) σ ≤ 31752 = need_few (settings_at s (m + n)) σ in
    let before : steps_before s σ (m + n) ≤ steps_before s σ m + 31752 * n = steps_few next s σ m n in
    omega (arith, e, one, before)

-- ---- few bits

pub few_wait : StepsOfOneMore → (s : Settings) (σ : Stream) (m n : ℕ) (k : KnownState) (register known : List Bool) → HasPassed s σ m k register known → IsSettled k → length known ≤ steps_before s σ (m + n)
    → length k.waiting ≤ 31752 * n
few_wait next s σ m n k register known h settled within = go settled
  where
    long : length k.waiting ≡ length known - passed k
    long = ap length h.waiting ∙ length-drop (passed k) known

    steps : steps_before s σ (m + n) ≤ steps_before s σ m + 31752 * n
    steps = steps_few next s σ m n

    go : ◌⊎◌ (k.lag ≡ 0) (k.waiting ≡ []) → length k.waiting ≤ 31752 * n
    go (inl e) = omega (arith, e, long, steps, within, h.before)
    go (inr e) = omega (arith, ap length e)
