-- The first cells of a transmission of null packets: carriers 0, 1, 12 and 34 of symbol 0, carrier 34 of symbol 3.
use Rattle.std.proofs.Common.{◌≡◌, ℕ, List, [], ◌∷◌, refl, Bool, true, false, sym, subst}
use Rattle.spec_words.specs.Bits.{is_set}
use Rattle.spec_words.specs.Words.{numbers}
use Rattle.mode_set.specs.declared.modes.Mode.TheVariants.{M2k}
use Rattle.mode_set.specs.declared.modes.Shape.TheVariants.{Qpsk}
use Rattle.mode_set.specs.declared.modes.Hierarchy.TheVariants.{Flat}
use Rattle.mode_set.specs.declared.modes.Rate.TheVariants.{R1of2}
use Rattle.mode_set.specs.declared.settings.Settings.{Settings}
use Rattle.code_paths.specs.Paths.{parity_x, parity_y}
use Rattle.puncture.specs.SentBits.{sent_bit, path_of}
use Rattle.symbol_interleave.specs.Carried.{h, words_from, carried}
use Rattle.rs204.specs.Codes.{codeword}
use Rattle.outer_chain.specs.Sent.{coded_byte, outer_byte}
use Rattle.inner_chain.specs.Labels.{number_at, label_bit}
use Rattle.qam_map.specs.Points.{map_cell}
use Rattle.pilots.specs.Reference.{reference, eleven_from}
use Rattle.pilots.specs.Carriers.{kind, is_continual, is_scattered, is_tps, is_payload, tps_carriers}
use Rattle.tps_word.specs.Tps.{tps_word, tps_info, sync_word}
use Rattle.frame_build.specs.Announcing.{announcing_cell}
use Rattle.frame_build.specs.Symbol.{cell_of_kind, cell_bytes, sent_bytes, tps_sign}
use Rattle.symbol_parameters.specs.Spans.{settings_in, steps_before}
use Rattle.transmission.specs.Transmission.{Inputs, by_stream, tx_label, tx_cell}
use Rattle.transmission.proofs.VectorSettings.{flat}

abbrev base : Settings
base = flat M2k Qpsk R1of2

abbrev nothing : Inputs
nothing = by_stream [] []

carrier_0 : sent_bytes (tx_cell base nothing 0 0) ≡ 0xAA ∷ 0xAB ∷ 0x00 ∷ 0x00 ∷ 0x0F ∷ []
unfolding tx_cell settings_in announcing_cell cell_of_kind sent_bytes cell_bytes kind is_continual numbers reference eleven_from
carrier_0 = refl

carrier_12 : sent_bytes (tx_cell base nothing 0 12) ≡ 0x55 ∷ 0x55 ∷ 0x00 ∷ 0x00 ∷ 0x0F ∷ []
unfolding tx_cell settings_in announcing_cell cell_of_kind sent_bytes cell_bytes kind is_continual is_scattered numbers reference eleven_from
carrier_12 = refl

carrier_34 : sent_bytes (tx_cell base nothing 0 34) ≡ 0x40 ∷ 0x00 ∷ 0x00 ∷ 0x00 ∷ 0x0F ∷ []
unfolding tx_cell settings_in announcing_cell cell_of_kind sent_bytes cell_bytes kind is_continual is_scattered is_tps tps_carriers tps_sign numbers reference eleven_from
carrier_34 = refl

later_34 : sent_bytes (tx_cell base nothing 3 34) ≡ 0xC0 ∷ 0x00 ∷ 0x00 ∷ 0x00 ∷ 0x0F ∷ []
unfolding tx_cell settings_in announcing_cell cell_of_kind sent_bytes cell_bytes kind is_continual is_scattered is_tps tps_carriers tps_sign tps_word tps_info sync_word numbers reference eleven_from
later_34 = refl

-- the first byte sent is the inverted sync byte, and the eighth is a zero of the delay lines
first_byte : (packets : List (List ℕ)) → outer_byte packets 0 ≡ 0xB8
unfolding coded_byte codeword
first_byte packets = refl

-- the first bits of each half of the path, if its first bytes are known
first_sent : (bytes : ℕ → ℕ) → bytes 0 ≡ 0xB8 → sent_bit R1of2 (path_of bytes) 0 ≡ true
first_sent bytes e = subst (λ (z : ℕ). parity_x (false ∷ false ∷ false ∷ false ∷ false ∷ false ∷ is_set z 7 ∷ []) ≡ true) (sym e) refl

sent_127 : (bytes : ℕ → ℕ) → bytes 7 ≡ 0 → sent_bit R1of2 (path_of bytes) 127 ≡ false
sent_127 bytes e = subst (λ (z : ℕ). parity_y (is_set z 6 ∷ is_set z 5 ∷ is_set z 4 ∷ is_set z 3 ∷ is_set z 2 ∷ is_set z 1 ∷ is_set z 0 ∷ []) ≡ false) (sym e) refl

-- payload carrier 0 has word 0, whose label has the coded bits 0 and 127
word_0 : carried M2k false 0 ≡ 0
unfolding h words_from
word_0 = refl

place_0 : number_at base 0 0 ≡ 0
unfolding number_at numbers
place_0 = refl

place_1 : number_at base 1 0 ≡ 127
unfolding number_at numbers
place_1 = refl

label_0 : tx_label base nothing 0 0 0 ≡ true
unfolding tx_label label_bit settings_in steps_before numbers
label_0 = rw (word_0, place_0) (first_sent (outer_byte []) (first_byte []))

label_1 : tx_label base nothing 0 0 1 ≡ false
unfolding tx_label label_bit settings_in steps_before numbers
label_1 = rw (word_0, place_1) (sent_127 (outer_byte []) refl)

cell_of : (y : ℕ → Bool) → y 0 ≡ true → y 1 ≡ false → sent_bytes (map_cell Qpsk Flat y) ≡ 0xD2 ∷ 0xBF ∷ 0x2D ∷ 0x41 ∷ 0x0F ∷ []
unfolding numbers sent_bytes cell_bytes
cell_of y e f = rw (e, f) refl

carrier_1 : sent_bytes (tx_cell base nothing 0 1) ≡ 0xD2 ∷ 0xBF ∷ 0x2D ∷ 0x41 ∷ 0x0F ∷ []
unfolding tx_cell settings_in announcing_cell cell_of_kind kind is_continual is_scattered is_tps is_payload tps_carriers numbers
carrier_1 = cell_of (tx_label base nothing 0 0) label_0 label_1
