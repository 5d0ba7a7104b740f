-- The number of words in a super-frame (EN 300 744, 4.7), and of super-frames in some transmissions.
use Rattle.std.proofs.Common.{◌≡◌, ℕ, ◌*◌, List, [], ◌∷◌, map, refl}
use Rattle.std.specs.Prelude.{Some}
use Rattle.mode_set.specs.StreamTable.{need, words_per_super_frame}
use Rattle.mode_set.specs.declared.modes.Mode.{Mode}
use Rattle.mode_set.specs.declared.modes.Mode.TheVariants.{M2k, M8k}
use Rattle.mode_set.specs.declared.modes.Shape.{Shape}
use Rattle.mode_set.specs.declared.modes.Shape.TheVariants.{Qpsk, Qam16, Qam64}
use Rattle.mode_set.specs.declared.modes.Rate.{Rate}
use Rattle.mode_set.specs.declared.modes.Rate.TheVariants.{R1of2, R2of3, R3of4, R5of6, R7of8}
use Rattle.mode_set.specs.declared.modes.Stream.TheVariants.{Hp, Lp}
use Rattle.spec_words.specs.Words.{numbers}
use Rattle.symbol_parameters.specs.Spans.{exists_in, settings_in, steps_before, words_before}
use Rattle.transmission.specs.Transmission.{by_stream}
use Rattle.transmission.specs.SuperFrames.{super_frames, packets_for}
use Rattle.transmission.proofs.VectorSettings.{flat, two_16, two_64}

rates : List Rate
rates = R1of2 ∷ R2of3 ∷ R3of4 ∷ R5of6 ∷ R7of8 ∷ []

row : Mode → Shape → List ℕ
row m c = map (λ r. words_per_super_frame (flat m c r) Hp) rates

row_qpsk : row M2k Qpsk ≡ 252 ∷ 336 ∷ 378 ∷ 420 ∷ 441 ∷ []
unfolding row rates
row_qpsk = refl

row_16 : row M2k Qam16 ≡ 504 ∷ 672 ∷ 756 ∷ 840 ∷ 882 ∷ []
unfolding row rates
row_16 = refl

row_64 : row M2k Qam64 ≡ 756 ∷ 1008 ∷ 1134 ∷ 1260 ∷ 1323 ∷ []
unfolding row rates
row_64 = refl

times_four : (c : Shape) → row M8k c ≡ map (λ p. 4 * p) (row M2k c)
unfolding row rates
times_four Qpsk = refl
times_four Qam16 = refl
times_four Qam64 = refl

-- with a hierarchy HP counts as QPSK, LP as QPSK in 16-QAM and as 16-QAM in 64-QAM
hp_16 : map (λ r. words_per_super_frame (two_16 M2k r R1of2) Hp) rates ≡ row M2k Qpsk
unfolding row rates
hp_16 = refl

lp_16 : map (λ r. words_per_super_frame (two_16 M2k R1of2 r) Lp) rates ≡ row M2k Qpsk
unfolding row rates
lp_16 = refl

hp_64 : map (λ r. words_per_super_frame (two_64 M8k r R1of2) Hp) rates ≡ row M8k Qpsk
unfolding row rates
hp_64 = refl

lp_64 : map (λ r. words_per_super_frame (two_64 M8k R1of2 r) Lp) rates ≡ row M8k Qam16
unfolding row rates
lp_64 = refl

-- the input bits of a symbol
needs : map (λ r. need (flat M2k Qpsk r) Hp) rates ≡ 1512 ∷ 2016 ∷ 2268 ∷ 2520 ∷ 2646 ∷ []
unfolding rates
needs = refl

-- at least one super-frame; eleven words more than packets
no_packet : super_frames (flat M2k Qpsk R1of2) (by_stream 0 0) ≡ Some 1
unfolding super_frames exists_in settings_in words_before numbers
no_packet = refl

just_one : super_frames (flat M2k Qpsk R1of2) (by_stream 241 0) ≡ Some 1
unfolding super_frames exists_in settings_in words_before numbers
just_one = refl

just_two : super_frames (flat M2k Qpsk R1of2) (by_stream 242 0) ≡ Some 2
unfolding super_frames exists_in settings_in words_before numbers
just_two = refl

two : super_frames (flat M2k Qpsk R1of2) (by_stream 300 0) ≡ Some 2
unfolding super_frames exists_in settings_in words_before numbers
two = refl

three : super_frames (flat M8k Qam64 R2of3) (by_stream 10000 0) ≡ Some 3
unfolding super_frames exists_in settings_in words_before numbers
three = refl

-- with a hierarchy the longer stream decides
longer_lp : super_frames (two_64 M8k R2of3 R3of4) (by_stream 1000 4000) ≡ Some 2
unfolding super_frames exists_in settings_in words_before numbers
longer_lp = refl

-- the packets of the first symbols: one outer word has 1632 bits
first_packets : map (packets_for (flat M2k Qpsk R1of2) Hp) (0 ∷ 1 ∷ 2 ∷ 3 ∷ 272 ∷ []) ≡ 0 ∷ 1 ∷ 2 ∷ 3 ∷ 252 ∷ []
unfolding settings_in steps_before numbers
first_packets = refl

none_of_lp : packets_for (flat M8k Qam64 R2of3) Lp 272 ≡ 0
unfolding settings_in steps_before numbers
none_of_lp = refl
