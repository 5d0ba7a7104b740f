-- Cells, costs, votes and lines of known receptions, computed.
use Rattle.std.proofs.Common.{◌≡◌, ℕ, Bool, List, [], ◌∷◌, ◌&&◌, map, refl}
use Rattle.std.specs.Prelude.{pos, codes, flat_map, replicate, slice_index, nat_le}
use Rattle.std.specs.Fmt.{digits}
use Rattle.std.specs.List.{concat}
use Rattle.spec_words.specs.Bits.{xor}
use Rattle.spec_words.specs.Words.{numbers}
use Rattle.mode_set.specs.declared.modes.Stream.{Stream}
use Rattle.mode_set.specs.declared.modes.Stream.TheVariants.{Hp, Lp}
use Rattle.mode_set.specs.declared.modes.Rate.TheVariants.{R1of2}
use Rattle.pilots.specs.Reference.{reference, eleven_from}
use Rattle.qam_map.specs.declared.cell.Cell.{Cell}
use Rattle.tps_bch.specs.Bch.{bit_distance, tps_parity}
use Rattle.tps_word.specs.Tps.{tps_word, tps_info, sync_word, length_bits, shape_bits, hierarchy_bits, rate_bits, guard_bits, mode_bits, signalled}
use Rattle.tps_word.specs.Vote.{vote, bits_from}
use Rattle.frame_build.specs.Symbol.{cell_from, weight_from, weights_from, tps_sign, real}
use Rattle.symbol_parameters.specs.Spans.{settings_in, exists_in, steps_before}
use Rattle.reception.specs.Cells.{symbols, tail, bytes_of_symbol, symbol_weights}
use Rattle.reception.specs.Frames.{frame_bits}
use Rattle.reception.specs.Streams.{Reception}
use Rattle.reception.specs.Lines.{events, event_lines, closing_lines}
use Rattle.reception.specs.Laws.{no_words, nothing}
use Rattle.reception.proofs.Base.{base, midst, layered}

-- two symbols with all cells (0, 11585), at full weight
abbrev two_symbols : List ℕ
two_symbols = concat (replicate 3410 (0x00 ∷ 0x00 ∷ 0x2D ∷ 0x41 ∷ 0x0F ∷ []))

two : symbols midst two_symbols ∷ tail midst two_symbols ∷ [] ≡ 2 ∷ 0 ∷ []
two = refl

cell_7 : cell_from (bytes_of_symbol midst two_symbols 1) 7 ≡ record { re = pos 0; im = pos 11585 }
unfolding cell_from bytes_of_symbol
cell_7 = refl

weight_7 : slice_index (symbol_weights midst two_symbols 1) 7 ≡ 15
unfolding symbol_weights weights_from weight_from bytes_of_symbol numbers
weight_7 = refl

-- a byte above 15 counts as 15
abbrev cell_of_weight : ℕ → List ℕ
cell_of_weight weight = 0x00 ∷ 0x00 ∷ 0x2D ∷ 0x41 ∷ weight ∷ []

weights : weights_from (flat_map cell_of_weight (0 ∷ 1 ∷ 7 ∷ 15 ∷ 16 ∷ 255 ∷ [])) 6 ≡ 0 ∷ 1 ∷ 7 ∷ 15 ∷ 15 ∷ 15 ∷ []
unfolding weights_from weight_from numbers
weights = refl

abbrev by_stream : List ℕ → List ℕ → Stream → List ℕ
by_stream hp lp Hp = hp
by_stream hp lp Lp = lp

-- only these reports
abbrev reported : List ℕ → List ℕ → Reception
reported hp lp = record { packets = λ σ. []; reports = by_stream hp lp; tally = λ σ. no_words; read = 0; bad = 0 }

-- no bytes
lines_of_nothing : closing_lines base [] nothing ≡ codes "symbols 0 tail 0\ntps read 0 bad 0\nhp words 0 clean 0 corrected 0 bad 0 unphased 0 unmerged 0\n"
unfolding digits exists_in
lines_of_nothing = refl

-- one symbol and a byte
lines_of_one : closing_lines base (replicate 8526 0) nothing ≡ codes "symbols 1 tail 1\ntps read 0 bad 0\nhp words 0 clean 0 corrected 0 bad 0 unphased 0 unmerged 0\n"
unfolding digits exists_in
lines_of_one = refl

-- one report
lines_of_two : closing_lines midst (replicate 17050 0) (reported (2049 ∷ []) []) ≡ codes "symbols 2 tail 0\ntps read 0 bad 0\nhp words 0 clean 0 corrected 0 bad 0 unphased 0 unmerged 1\n"
unfolding digits exists_in
lines_of_two = refl

event : event_lines midst (replicate 17050 0) (reported (2049 ∷ []) []) ≡ codes "hp unmerged at 2049\n"
unfolding events settings_in steps_before numbers digits
event = refl

-- both streams have 1512 steps a symbol: step 3024 is the last of symbol 1
order : event_lines (layered R1of2) (replicate 25575 0) (reported (2049 ∷ 3024 ∷ 3025 ∷ []) (3024 ∷ 4100 ∷ [])) ≡ codes "hp unmerged at 2049\nhp unmerged at 3024\nlp unmerged at 3024\nhp unmerged at 3025\nlp unmerged at 4100\n"
unfolding events settings_in steps_before numbers digits
order = refl

-- the word of frame 1, and two TPS cells of its symbols, negated in symbols a to b
abbrev word : List Bool
word = tps_word (signalled base 1)

abbrev sent_cells : ℕ → ℕ → ℕ → List Cell
sent_cells a b l = map (λ k. real 16384 (xor (nat_le a l && nat_le l b) (tps_sign word k l))) (34 ∷ 50 ∷ [])

clean : frame_bits (sent_cells 100 100) 0 ≡ word
unfolding frame_bits bits_from numbers tps_word tps_info sync_word length_bits shape_bits hierarchy_bits rate_bits guard_bits mode_bits tps_parity vote tps_sign reference eleven_from
clean = refl

-- the cells of symbols 5 to 59 negated: two bits flip
two_flips : bit_distance (frame_bits (sent_cells 5 59) 0) word ≡ 2
unfolding frame_bits bits_from numbers tps_word tps_info sync_word length_bits shape_bits hierarchy_bits rate_bits guard_bits mode_bits tps_parity vote tps_sign reference eleven_from
two_flips = refl
