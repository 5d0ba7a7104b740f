-- The labels of a symbol, from the coded bits of its streams (EN 300 744, 4.3.3 to 4.3.5).
use Rattle.std.specs.Prelude.{◌≡◌, ℕ, ◌+◌, ◌^◌, ◌<◌, ◌==◌, Bool, if◌then◌else◌, List, ◌++◌, length, slice_index, take}
use Rattle.spec_words.specs.Bits.{is_set}
use Rattle.spec_words.specs.Words.{first_below}
use Rattle.mode_set.specs.StreamTable.{payload, label_bits, coded, need, rate}
use Rattle.mode_set.specs.declared.modes.Stream.{Stream}
use Rattle.mode_set.specs.declared.modes.Stream.TheVariants.{Hp, Lp}
use Rattle.mode_set.specs.declared.settings.Settings.{Settings}
use Rattle.code_paths.specs.Paths.{parity_x, parity_y}
use Rattle.puncture.specs.SentBits.{window, sent_bit, bits_from}
use Rattle.bit_interleave.specs.Place.{stands_at, stream_at}
use Rattle.symbol_interleave.specs.Carried.{carried}

-- the number, in its stream, of the coded bit at label bit e of word w
unfoldable pub number_at : Settings → ℕ → ℕ → ℕ
number_at s e w = let σ = stream_at s.hierarchy e in first_below (coded s σ) (stands_at s.shape s.hierarchy σ e w)

-- bit e of the label on payload carrier q: bit e of the word that the carrier has
unfoldable pub label_bit : Settings → Bool → (Stream → ℕ → Bool) → ℕ → ℕ → Bool
label_bit s odd bits q e = bits (stream_at s.hierarchy e) (number_at s e (carried s.mode odd q))

-- the labels of a symbol in carrier order
pub record AreLabels (s : Settings) (odd : Bool) (bits : Stream → ℕ → Bool) (labels : List ℕ) : Type 0 where
  pub long : length labels ≡ payload s.mode
  pub small : (q : ℕ) → q < payload s.mode → slice_index labels q < 2 ^ label_bits s.shape
  pub bit : (q e : ℕ) → q < payload s.mode → e < label_bits s.shape → is_set (slice_index labels q) e
      ≡ label_bit s odd bits q e

-- the labels of a symbol are appended to a list
pub record AppendsLabels (s : Settings) (odd : Bool) (bits : Stream → ℕ → Bool) (old new : List ℕ) : Type 0 where
  pub labels : List ℕ
  pub are : AreLabels s odd bits labels
  pub is : new ≡ old ++ labels

-- bit e of the label of word w, before the symbol interleaver
unfoldable pub word_bit : Settings → (Stream → ℕ → Bool) → ℕ → ℕ → Bool
word_bit s bits w e = bits (stream_at s.hierarchy e) (number_at s e w)

-- the labels of a symbol in the order of its words
pub record AreWordLabels (s : Settings) (bits : Stream → ℕ → Bool) (labels : List ℕ) : Type 0 where
  pub long : length labels ≡ payload s.mode
  pub small : (w : ℕ) → w < payload s.mode → slice_index labels w < 2 ^ label_bits s.shape
  pub bit : (w e : ℕ) → w < payload s.mode → e < label_bits s.shape → is_set (slice_index labels w) e
      ≡ word_bit s bits w e

-- the state of an inner coder: the settings, and the register of each stream's encoder, oldest bit first
pub record TxState : Type 0 where
  pub settings : Settings
  pub hp : List Bool
  pub lp : List Bool

-- the register of a stream's encoder
abbrev pub register_of : TxState → Stream → List Bool
register_of st Hp = st.hp
register_of st Lp = st.lp

-- a path for each stream: the register before the first bit (six zeros in a transmission), then the bits of the stream
abbrev pub Paths : Type 0
Paths = Stream → ℕ → Bool

-- the rest of a path from step n on
abbrev pub from_step : (ℕ → Bool) → ℕ → ℕ → Bool
from_step path n t = path (n + t)

-- the inner coder before these paths: each register holds the first six bits of its path
abbrev pub IsBefore : TxState → Paths → Type 0
IsBefore st paths = (σ : Stream) → register_of st σ ≡ bits_from (paths σ) 0 6

-- the input bits of a symbol at the start of these paths
abbrev pub input_bits : Settings → Paths → Stream → List Bool
input_bits s paths σ = bits_from (paths σ) 6 (need s σ)

-- the input bits of a symbol of these paths wait in the queues
abbrev pub IsFed : TxState → Settings → Paths → List Bool → List Bool → Type 0
IsFed st s paths hp lp = IsBefore st paths × (take (need s Hp) hp ≡ input_bits s paths Hp)
    × (take (need s Lp) lp ≡ input_bits s paths Lp)

-- the paths after the symbol
abbrev pub behind : Settings → Paths → Paths
behind s paths σ = from_step (paths σ) (need s σ)

-- its coded bits: the first sent bits of each path
abbrev pub coded_bits : Settings → Paths → Stream → ℕ → Bool
coded_bits s paths σ d = sent_bit (rate s σ) (paths σ) d

-- the X or the Y of step t of a path
abbrev pub parity_at : ℕ → (ℕ → Bool) → ℕ → Bool
parity_at k path t = if k == 0 then parity_x (window path t) else parity_y (window path t)
