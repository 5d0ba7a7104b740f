-- The order of work in a modulation, and its refusals (this project's own).
use Rattle.std.specs.Prelude.{◌≡◌, ℕ, ◌+◌, ◌-◌, ◌≤◌, ◌==◌, nat_le, nat_lt, Bool, true, false, if◌then◌else◌, List, []}
use Rattle.std.specs.Prelude.{◌∷◌, ◌++◌, length, map, flat_map, find, take_while, count_by, Option, Some, None, is_some}
use Rattle.std.specs.Prelude.{is_none, option_and_then, slice_index}
use Rattle.std.specs.List.{range_with_len}
use Rattle.spec_words.specs.Words.{numbers}
use Rattle.mode_set.specs.declared.modes.Stream.{Stream}
use Rattle.mode_set.specs.declared.modes.Stream.TheVariants.{Hp, Lp}
use Rattle.mode_set.specs.declared.settings.Settings.{Settings}
use Rattle.outer_chain.specs.Sent.{packet_at}
use Rattle.transmission.specs.Transmission.{Inputs}
use Rattle.transmission.specs.SuperFrames.{packets_for, symbols_of}

-- one item of the order of work: check the limit before symbol m, take packet p of a stream, or send symbol m
pub data Item : Type 0 where
  ask_limit : ℕ → Item
  take_packet : Stream → ℕ → Item
  send_symbol : ℕ → Item

-- the packets that symbol m needs in addition to those of earlier symbols; none of a stream that does not exist
abbrev pub takes : Settings → Stream → ℕ → List Item
takes s σ m = map (take_packet σ) (range_with_len (packets_for s σ m) (packets_for s σ (m + 1) - packets_for s σ m))

-- the work for symbol m, in order
unfoldable pub items_of : Settings → ℕ → List Item
items_of s m = ask_limit m ∷ takes s Hp m ++ takes s Lp m ++ send_symbol m ∷ []

-- the work for all symbols
unfoldable pub agenda : Settings → Inputs → List Item
agenda s inputs = flat_map (items_of s) (numbers (symbols_of s inputs))

-- the stream that still lacks a packet for symbol m, given the packets taken of HP and of LP, if any
abbrev pub next_stream : Settings → ℕ → ℕ → ℕ → Option Stream
next_stream s m hp lp = if nat_lt hp (packets_for s Hp (m + 1)) then Some Hp else if nat_lt lp
    (packets_for s Lp (m + 1)) then Some Lp else None

-- why a modulation stops: a limit, or a packet without the sync byte
pub data Refusal : Type 0 where
  Limit : ℕ → Refusal
  NotSync : Stream → ℕ → Refusal

-- the refusal of packet p of a stream, given a limit of `most` packets; null packets past the end have none
unfoldable pub packet_refusal : ℕ → Inputs → Stream → ℕ → Option Refusal
packet_refusal most inputs σ p =
    if nat_le (length (inputs σ)) p then None
    else if nat_le most p then Some (Limit most)
    else if slice_index (packet_at (inputs σ) p) 0 == 0x47 then None
    else Some (NotSync σ p)

-- the refusal of an item, if there is one
abbrev pub refusal : Settings → ℕ → Inputs → Item → Option Refusal
refusal s most inputs (ask_limit m) = if nat_le s.max_symbols m then Some (Limit s.max_symbols) else None
refusal s most inputs (take_packet σ p) = packet_refusal most inputs σ p
refusal s most inputs (send_symbol m) = None

-- the first item that is refused decides
unfoldable pub first_refusal : Settings → ℕ → Inputs → Option Refusal
first_refusal s most inputs = option_and_then (refusal s most inputs)
    (find (λ item. is_some (refusal s most inputs item)) (agenda s inputs))

-- the items before it, which are done
unfoldable pub done : Settings → ℕ → Inputs → List Item
done s most inputs = take_while (λ item. is_none (refusal s most inputs item)) (agenda s inputs)

-- the item sends a symbol
abbrev pub is_send : Item → Bool
is_send (ask_limit m) = false
is_send (take_packet σ p) = false
is_send (send_symbol m) = true

-- the number of symbols sent
abbrev pub symbols_sent : Settings → ℕ → Inputs → ℕ
symbols_sent s most inputs = count_by is_send (done s most inputs)

-- m is at least the number of symbols that the packets taken suffice for; null packets follow an ended stream
pub record IsEnoughFor (s : Settings) (taken : Stream → ℕ) (ended : Stream → Bool) (m : ℕ) : Type 0 where
  pub enough : (σ : Stream) → ended σ ≡ false → packets_for s σ m ≤ taken σ
  pub most : (k : ℕ) → ((σ : Stream) → ended σ ≡ false → packets_for s σ k ≤ taken σ) → k ≤ m
