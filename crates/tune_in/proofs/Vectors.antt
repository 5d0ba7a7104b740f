-- Places and words of known transmissions, computed.
use Rattle.std.proofs.Common.{◌≡◌, ℕ, ◌+◌, List, [], ◌∷◌, ◌&&◌, map, refl, arith}
use Rattle.std.specs.Prelude.{nat_le, None, ◌%◌}
use Rattle.spec_words.specs.Bits.{xor}
use Rattle.spec_words.specs.Words.{numbers}
use Rattle.pilots.specs.Reference.{reference, eleven_from}
use Rattle.qam_map.specs.declared.cell.Cell.{Cell}
use Rattle.tps_bch.specs.Bch.{bit_distance, tps_parity}
use Rattle.tps_word.specs.Tps.{tps_word, tps_info, sync_word, length_bits, shape_bits, hierarchy_bits, rate_bits, guard_bits, mode_bits, signalled}
use Rattle.tps_word.specs.Vote.{vote, bits_from}
use Rattle.frame_build.specs.Symbol.{tps_sign, real, frame_of}
use Rattle.mode_set.specs.Kept.{IsKept}
use Rattle.mode_set.specs.Plans.{no_plan}
use Rattle.mode_set.specs.declared.modes.Mode.TheVariants.{M2k}
use Rattle.mode_set.specs.declared.modes.Shape.TheVariants.{Qpsk}
use Rattle.mode_set.specs.declared.modes.Hierarchy.TheVariants.{Flat}
use Rattle.mode_set.specs.declared.modes.Rate.TheVariants.{R1of2}
use Rattle.mode_set.specs.declared.modes.Guard.TheVariants.{G1of32}
use Rattle.mode_set.specs.declared.modes.Start.TheVariants.{Zero}
use Rattle.mode_set.specs.declared.settings.Settings.{Settings}
use Rattle.tune_in.specs.Places.{begin}

kept_flat : IsKept Qpsk Flat None 1 1000000
kept_flat = record { qpsk = λ _. refl; lp = refl; some_worker = omega arith; few_workers = omega arith; some_symbol = omega arith }

-- QPSK at 1/2 in the 2K mode
abbrev base : Settings
base = record { mode = M2k; shape = Qpsk; hierarchy = Flat; rate_hp = R1of2; rate_lp = None; guard = G1of32; cell_id = None; start = Zero; workers = 1; max_symbols = 1000000; plan = no_plan; kept = kept_flat }

-- two TPS cells of symbol m + 10 of a transmission, negated in symbols a to b
abbrev late_cells : ℕ → ℕ → ℕ → List Cell
late_cells a b m = map (λ k. real 16384 (xor (nat_le a m && nat_le m b) (tps_sign (tps_word (signalled base (frame_of (m + 10)))) k ((m + 10) % 68)))) (34 ∷ 50 ∷ [])

-- without the first ten symbols, the second frame begins with symbol 58
second_frame : bit_distance (bits_from (late_cells 200 200) 58) (tps_word (signalled base 2)) ≡ 0
unfolding bits_from numbers tps_word tps_info sync_word length_bits shape_bits hierarchy_bits rate_bits guard_bits mode_bits tps_parity vote tps_sign reference eleven_from
second_frame = refl

-- the cells of its symbols 5 to 59 negated: two votes are wrong
two_wrong : bit_distance (bits_from (late_cells 63 117) 58) (tps_word (signalled base 2)) ≡ 2
unfolding bits_from numbers tps_word tps_info sync_word length_bits shape_bits hierarchy_bits rate_bits guard_bits mode_bits tps_parity vote tps_sign reference eleven_from
two_wrong = refl

begin_58 : begin (record { place = 58; word = signalled base 2 }) ≡ 262
begin_58 = refl

begin_0 : begin (record { place = 0; word = signalled base 1 }) ≡ 272
begin_0 = refl
