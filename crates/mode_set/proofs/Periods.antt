-- The divisions of the stream table leave no remainder.
use Rattle.std.proofs.Common.{◌≡◌, ℕ, ◌*◌, ◌/◌, refl, arith}
use Rattle.mode_set.specs.StreamTable.{payload, width, rate, steps_in_period, sent_in_period, need, words_per_super_frame}
use Rattle.mode_set.specs.Laws.{HasWholePeriods}
use Rattle.mode_set.specs.declared.modes.Mode.{Mode}
use Rattle.mode_set.specs.declared.modes.Mode.TheVariants.{M2k, M8k}
use Rattle.mode_set.specs.declared.modes.Shape.{Shape}
use Rattle.mode_set.specs.declared.modes.Shape.TheVariants.{Qpsk, Qam16, Qam64}
use Rattle.mode_set.specs.declared.modes.Hierarchy.{Hierarchy}
use Rattle.mode_set.specs.declared.modes.Hierarchy.TheVariants.{Flat, Alpha1, Alpha2, Alpha4}
use Rattle.mode_set.specs.declared.modes.Rate.{Rate}
use Rattle.mode_set.specs.declared.modes.Rate.TheVariants.{R1of2, R2of3, R3of4, R5of6, R7of8}
use Rattle.mode_set.specs.declared.modes.Stream.{Stream}
use Rattle.mode_set.specs.declared.modes.Stream.TheVariants.{Hp, Lp}
use Rattle.mode_set.specs.declared.settings.Settings.{Settings}

-- half the bits of a label that carry a stream
half : (c : Shape) (h : Hierarchy) (σ : Stream) → (u : ℕ) × (width c h σ ≡ 2 * u)
half Qpsk Flat Hp = (1, refl)
half Qam16 Flat Hp = (2, refl)
half Qam64 Flat Hp = (3, refl)
half c Alpha1 Hp = (1, refl)
half c Alpha2 Hp = (1, refl)
half c Alpha4 Hp = (1, refl)
half c Flat Lp = (0, refl)
half Qpsk Alpha1 Lp = (0, refl)
half Qpsk Alpha2 Lp = (0, refl)
half Qpsk Alpha4 Lp = (0, refl)
half Qam16 Alpha1 Lp = (1, refl)
half Qam16 Alpha2 Lp = (1, refl)
half Qam16 Alpha4 Lp = (1, refl)
half Qam64 Alpha1 Lp = (2, refl)
half Qam64 Alpha2 Lp = (2, refl)
half Qam64 Alpha4 Lp = (2, refl)

coded_whole : (m : Mode) (u : ℕ) (r : Rate) → payload m * (2 * u) ≡ payload m * (2 * u) / sent_in_period r * sent_in_period r
coded_whole M2k u R1of2 = omega arith
coded_whole M2k u R2of3 = omega arith
coded_whole M2k u R3of4 = omega arith
coded_whole M2k u R5of6 = omega arith
coded_whole M2k u R7of8 = omega arith
coded_whole M8k u R1of2 = omega arith
coded_whole M8k u R2of3 = omega arith
coded_whole M8k u R3of4 = omega arith
coded_whole M8k u R5of6 = omega arith
coded_whole M8k u R7of8 = omega arith

need_whole : (m : Mode) (u : ℕ) (r : Rate) → payload m * (2 * u) * steps_in_period r / sent_in_period r ≡ payload m * (2 * u) / sent_in_period r * steps_in_period r
need_whole M2k u R1of2 = omega arith
need_whole M2k u R2of3 = omega arith
need_whole M2k u R3of4 = omega arith
need_whole M2k u R5of6 = omega arith
need_whole M2k u R7of8 = omega arith
need_whole M8k u R1of2 = omega arith
need_whole M8k u R2of3 = omega arith
need_whole M8k u R3of4 = omega arith
need_whole M8k u R5of6 = omega arith
need_whole M8k u R7of8 = omega arith

words_whole : (m : Mode) (u : ℕ) (r : Rate) → 1632 * (272 * (payload m * (2 * u) * steps_in_period r / sent_in_period r) / 1632) ≡ 272 * (payload m * (2 * u) * steps_in_period r / sent_in_period r)
words_whole M2k u R1of2 = omega arith
words_whole M2k u R2of3 = omega arith
words_whole M2k u R3of4 = omega arith
words_whole M2k u R5of6 = omega arith
words_whole M2k u R7of8 = omega arith
words_whole M8k u R1of2 = omega arith
words_whole M8k u R2of3 = omega arith
words_whole M8k u R3of4 = omega arith
words_whole M8k u R5of6 = omega arith
words_whole M8k u R7of8 = omega arith

pub whole_periods : (s : Settings) (σ : Stream) → HasWholePeriods s σ
whole_periods s σ = let (u, even) = half s.shape s.hierarchy σ in record {
  need = rw even (need_whole s.mode u (rate s σ));
  coded = rw even (coded_whole s.mode u (rate s σ));
}

pub whole_words : (s : Settings) (σ : Stream) → 1632 * words_per_super_frame s σ ≡ 272 * need s σ
whole_words s σ = let (u, even) = half s.shape s.hierarchy σ in rw even (words_whole s.mode u (rate s σ))
