-- Refusals of a modulation: a packet without sync byte, a limit of packets, a limit of symbols.
use Rattle.std.proofs.Common.{◌≡◌, [], ◌∷◌, refl}
use Rattle.std.specs.Prelude.{Some, None}
use Rattle.spec_words.specs.Words.{numbers}
use Rattle.mode_set.specs.declared.modes.Mode.TheVariants.{M2k}
use Rattle.mode_set.specs.declared.modes.Shape.TheVariants.{Qpsk}
use Rattle.mode_set.specs.declared.modes.Rate.TheVariants.{R1of2}
use Rattle.mode_set.specs.declared.modes.Stream.TheVariants.{Hp, Lp}
use Rattle.symbol_parameters.specs.Spans.{exists_in, settings_in, steps_before, words_before}
use Rattle.transmission.specs.Transmission.{Inputs, by_stream}
use Rattle.transmission.specs.SuperFrames.{super_frames, symbols_of}
use Rattle.transmission.specs.Agenda.{ask_limit, take_packet, send_symbol, items_of, agenda, packet_refusal, Limit, NotSync, first_refusal, done, symbols_sent}
use Rattle.transmission.proofs.VectorSettings.{flat, limited, two_16}

-- five packets; number 3 begins with 00
abbrev five : Inputs
five = by_stream ((0x47 ∷ []) ∷ (0x47 ∷ []) ∷ (0x47 ∷ []) ∷ (0x00 ∷ []) ∷ (0x47 ∷ []) ∷ []) []

third : first_refusal (flat M2k Qpsk R1of2) 100000000 five ≡ Some (NotSync Hp 3)
unfolding first_refusal agenda items_of packet_refusal symbols_of super_frames exists_in settings_in steps_before words_before numbers
third = refl

three_symbols : symbols_sent (flat M2k Qpsk R1of2) 100000000 five ≡ 3
unfolding done agenda items_of packet_refusal symbols_of super_frames exists_in settings_in steps_before words_before numbers
three_symbols = refl

-- the limit comes before the sync byte
two_packets : first_refusal (flat M2k Qpsk R1of2) 3 five ≡ Some (Limit 3)
unfolding first_refusal agenda items_of packet_refusal symbols_of super_frames exists_in settings_in steps_before words_before numbers
two_packets = refl

-- no packets: null packets are not refused, 272 symbols are sent, or 271 within a limit
none : first_refusal (flat M2k Qpsk R1of2) 100000000 (by_stream [] []) ≡ None
unfolding first_refusal agenda items_of packet_refusal symbols_of super_frames exists_in settings_in steps_before words_before numbers
none = refl

all_symbols : symbols_sent (flat M2k Qpsk R1of2) 100000000 (by_stream [] []) ≡ 272
unfolding done agenda items_of packet_refusal symbols_of super_frames exists_in settings_in steps_before words_before numbers
all_symbols = refl

past_limit : first_refusal (limited M2k Qpsk R1of2) 100000000 (by_stream [] []) ≡ Some (Limit 271)
unfolding first_refusal agenda items_of packet_refusal symbols_of super_frames exists_in settings_in steps_before words_before numbers
past_limit = refl

within_limit : symbols_sent (limited M2k Qpsk R1of2) 100000000 (by_stream [] []) ≡ 271
unfolding done agenda items_of packet_refusal symbols_of super_frames exists_in settings_in steps_before words_before numbers
within_limit = refl

-- HP's packets are taken before LP's, so HP's bad packet decides
hp_first : items_of (two_16 M2k R1of2 R1of2) 0 ≡ ask_limit 0 ∷ take_packet Hp 0 ∷ take_packet Lp 0 ∷ send_symbol 0 ∷ []
unfolding items_of settings_in steps_before numbers
hp_first = refl

lp_refused : first_refusal (two_16 M2k R1of2 R1of2) 100000000 (by_stream ((0x47 ∷ []) ∷ (0 ∷ []) ∷ []) ((0x47 ∷ []) ∷ (0 ∷ []) ∷ [])) ≡ Some (NotSync Hp 1)
unfolding first_refusal agenda items_of packet_refusal symbols_of super_frames exists_in settings_in steps_before words_before numbers
lp_refused = refl
