-- The laws of symbols and their number. Each is the clause of a public function of module laws.
use Rattle.std.specs.Prelude.{◌≡◌, ℕ, ◌+◌, ◌*◌, ◌<◌, ◌≤◌, IsTrue, [], ◌++◌, length, flat_map, take, Option, Some}
use Rattle.spec_words.specs.Words.{numbers}
use Rattle.mode_set.specs.Plans.{entries_of}
use Rattle.mode_set.specs.StreamTable.{carriers}
use Rattle.mode_set.specs.declared.modes.Stream.{Stream}
use Rattle.mode_set.specs.declared.settings.Settings.{Settings}
use Rattle.outer_chain.specs.Sent.{packet_at}
use Rattle.frame_build.specs.Symbol.{sent_bytes}
use Rattle.symbol_parameters.specs.Spans.{exists_in, words_before}
use Rattle.transmission.specs.Transmission.{Inputs, tx_cell, tx_symbol, first_symbols}
use Rattle.transmission.specs.SuperFrames.{Suffices, IsLength, super_frames, frames_by_formula, packets_for}
use Rattle.transmission.specs.SuperFrames.{ArePacketsFor}

-- a symbol is its cells, carriers rising
abbrev pub SymbolsAreCells : Type 0
SymbolsAreCells = (s : Settings) (inputs : Inputs) (m : ℕ) → tx_symbol s inputs m
    ≡ flat_map (λ k. sent_bytes (tx_cell s inputs m k)) (numbers (carriers s.mode))

-- five bytes for each carrier
abbrev pub SymbolsAreLong : Type 0
SymbolsAreLong = (s : Settings) (inputs : Inputs) (m : ℕ) → length (tx_symbol s inputs m) ≡ 5 * carriers s.mode

-- zero symbols have no bytes
abbrev pub NoSymbol : Type 0
NoSymbol = (s : Settings) (inputs : Inputs) → first_symbols s inputs 0 ≡ []

-- one more symbol is appended
abbrev pub OneSymbolMore : Type 0
OneSymbolMore = (s : Settings) (inputs : Inputs) (n : ℕ) → first_symbols s inputs (n + 1) ≡ first_symbols s inputs n
    ++ tx_symbol s inputs n

-- fewer symbols are a prefix of more symbols
abbrev pub FrontOfSymbols : Type 0
FrontOfSymbols = (s : Settings) (inputs : Inputs) (m n : ℕ) → m ≤ n → (k : ℕ)
    × (first_symbols s inputs m ≡ take k (first_symbols s inputs n))

-- fewer symbols and part of the next one are a prefix of more symbols
abbrev pub PartOfSymbols : Type 0
PartOfSymbols = (s : Settings) (inputs : Inputs) (m n j : ℕ) → m < n → (k : ℕ)
    × (first_symbols s inputs m ++ take j (tx_symbol s inputs m) ≡ take k (first_symbols s inputs n))

-- symbol m depends only on its own packets and those of earlier symbols
abbrev pub SameBeginning : Settings → ℕ → Type 0
SameBeginning s m = (inputs other : Inputs)
    → ((σ : Stream) (i : ℕ) → i < packets_for s σ (m + 1) → packet_at (inputs σ) i ≡ packet_at (other σ) i)
    → tx_symbol s inputs m ≡ tx_symbol s other m

-- the least number is found, if there is one
abbrev pub TheNumberIsFound : Type 0
TheNumberIsFound = (s : Settings) (counts : Stream → ℕ) → IsLength s counts (super_frames s counts)

-- this number is unique
abbrev pub OneLength : Type 0
OneLength = (s : Settings) (counts : Stream → ℕ) (length : Option ℕ) → IsLength s counts length → super_frames s counts
    ≡ length

-- super-frames that do not carry a stream are too few
abbrev pub TooFew : Type 0
TooFew = (s : Settings) (counts : Stream → ℕ) (k n : ℕ) (σ : Stream) → super_frames s counts ≡ Some k
    → IsTrue (exists_in s σ) → words_before s σ n < counts σ + 11 → n < k

-- super-frames that carry all streams are enough
abbrev pub Enough : Type 0
Enough = (s : Settings) (counts : Stream → ℕ) (n : ℕ) → 1 ≤ n → Suffices s counts n → (k : ℕ)
    × (super_frames s counts ≡ Some k) × (k ≤ n)

-- without a plan the number always exists and has a formula
abbrev pub ConstantFrames : Type 0
ConstantFrames = (s : Settings) (counts : Stream → ℕ) → entries_of s.plan ≡ [] → super_frames s counts
    ≡ Some (frames_by_formula s counts)

-- the packets for n symbols
abbrev pub ThePacketsAreLeast : Type 0
ThePacketsAreLeast = (s : Settings) (σ : Stream) (n : ℕ) → ArePacketsFor s σ n (packets_for s σ n)

-- zero symbols need no packets
abbrev pub NoPackets : Type 0
NoPackets = (s : Settings) (σ : Stream) → packets_for s σ 0 ≡ 0

-- more symbols never need fewer packets
abbrev pub PacketsGrow : Type 0
PacketsGrow = (s : Settings) (σ : Stream) (m n : ℕ) → m ≤ n → packets_for s σ m ≤ packets_for s σ n

-- super-frames hold whole words
abbrev pub PacketsOfSuperFrames : Type 0
PacketsOfSuperFrames = (s : Settings) (σ : Stream) (n : ℕ) → packets_for s σ (272 * n) ≡ words_before s σ n
