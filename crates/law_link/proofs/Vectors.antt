-- The number of packets received from some transmissions, computed.
use Rattle.std.proofs.Common.{◌≡◌, ◌-◌, refl, arith}
use Rattle.std.specs.Prelude.{Some, None}
use Rattle.mode_set.specs.Kept.{IsKept}
use Rattle.mode_set.specs.Plans.{no_plan}
use Rattle.mode_set.specs.declared.modes.Mode.TheVariants.{M2k, M8k}
use Rattle.mode_set.specs.declared.modes.Shape.TheVariants.{Qpsk, Qam16, Qam64}
use Rattle.mode_set.specs.declared.modes.Hierarchy.TheVariants.{Flat, Alpha2, Alpha4}
use Rattle.mode_set.specs.declared.modes.Rate.TheVariants.{R1of2, R2of3, R3of4}
use Rattle.mode_set.specs.declared.modes.Guard.TheVariants.{G1of32}
use Rattle.mode_set.specs.declared.modes.Start.TheVariants.{Zero}
use Rattle.mode_set.specs.declared.modes.Stream.TheVariants.{Hp, Lp}
use Rattle.mode_set.specs.declared.settings.Settings.{Settings}
use Rattle.qam_map.specs.Points.{tolerance}
use Rattle.spec_words.specs.Words.{numbers}
use Rattle.symbol_parameters.specs.Spans.{exists_in, settings_in, words_before}
use Rattle.transmission.specs.Transmission.{by_stream}
use Rattle.transmission.specs.SuperFrames.{super_frames}
use Rattle.law_link.specs.Returned.{words_of}

kept_qpsk : IsKept Qpsk Flat None 1 1000000
kept_qpsk = record { qpsk = λ _. refl; lp = refl; some_worker = omega arith; few_workers = omega arith; some_symbol = omega arith }

kept_64 : IsKept Qam64 Flat None 1 1000000
kept_64 = record { qpsk = λ _. refl; lp = refl; some_worker = omega arith; few_workers = omega arith; some_symbol = omega arith }

kept_two_64 : IsKept Qam64 Alpha2 (Some R3of4) 1 1000000
kept_two_64 = record { qpsk = λ q. q; lp = refl; some_worker = omega arith; few_workers = omega arith; some_symbol = omega arith }

kept_two_16 : IsKept Qam16 Alpha4 (Some R3of4) 1 1000000
kept_two_16 = record { qpsk = λ q. q; lp = refl; some_worker = omega arith; few_workers = omega arith; some_symbol = omega arith }

abbrev base : Settings
base = record { mode = M2k; shape = Qpsk; hierarchy = Flat; rate_hp = R1of2; rate_lp = None; guard = G1of32; cell_id = None; start = Zero; workers = 1; max_symbols = 1000000; plan = no_plan; kept = kept_qpsk }

abbrev fast : Settings
fast = record { mode = M8k; shape = Qam64; hierarchy = Flat; rate_hp = R2of3; rate_lp = None; guard = G1of32; cell_id = None; start = Zero; workers = 1; max_symbols = 1000000; plan = no_plan; kept = kept_64 }

abbrev two_64 : Settings
two_64 = record { mode = M8k; shape = Qam64; hierarchy = Alpha2; rate_hp = R2of3; rate_lp = Some R3of4; guard = G1of32; cell_id = None; start = Zero; workers = 1; max_symbols = 1000000; plan = no_plan; kept = kept_two_64 }

abbrev two_16 : Settings
two_16 = record { mode = M2k; shape = Qam16; hierarchy = Alpha4; rate_hp = R1of2; rate_lp = Some R3of4; guard = G1of32; cell_id = None; start = Zero; workers = 1; max_symbols = 1000000; plan = no_plan; kept = kept_two_16 }

-- a super-frame without packets: 241 null packets
no_packets : super_frames base (by_stream 0 0) ≡ Some 1
unfolding super_frames exists_in settings_in words_before numbers
no_packets = refl

nothing_sent : words_of base Hp 1 ≡ 241
unfolding settings_in words_before numbers
nothing_sent = refl

-- 8K, 64-QAM, 2/3, ten thousand packets: three super-frames
three_frames : super_frames fast (by_stream 10000 0) ≡ Some 3
unfolding super_frames exists_in settings_in words_before numbers
three_frames = refl

ten_thousand : words_of fast Hp 3 ≡ 12085
unfolding settings_in words_before numbers
ten_thousand = refl

-- 8K, 64-QAM, α = 2, 2/3 and 3/4, 1000 and 4000 packets: two super-frames
two_frames : super_frames two_64 (by_stream 1000 4000) ≡ Some 2
unfolding super_frames exists_in settings_in words_before numbers
two_frames = refl

hp_of_two : words_of two_64 Hp 2 ≡ 2677
unfolding settings_in words_before numbers
hp_of_two = refl

lp_of_two : words_of two_64 Lp 2 ≡ 6037
unfolding settings_in words_before numbers
lp_of_two = refl

-- 2K, 16-QAM, α = 4, 1/2 and 3/4, 100 and 200 packets: one super-frame, with 141 and 167 null packets, for cells moved by at most 1136
one_frame : super_frames two_16 (by_stream 100 200) ≡ Some 1
unfolding super_frames exists_in settings_in words_before numbers
one_frame = refl

hp_nulls : words_of two_16 Hp 1 - 100 ≡ 141
unfolding settings_in words_before numbers
hp_nulls = refl

lp_nulls : words_of two_16 Lp 1 - 200 ≡ 167
unfolding settings_in words_before numbers
lp_nulls = refl

moved : tolerance Qam16 Alpha4 ≡ 1136
moved = refl
