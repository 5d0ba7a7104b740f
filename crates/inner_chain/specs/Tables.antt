-- The contents of the code's tables and intermediate lists.
use Rattle.std.specs.Prelude.{◌≡◌, ℕ, ◌+◌, ◌-◌, ◌*◌, ◌/◌, ◌%◌, ◌^◌, ◌<◌, ◌≤◌, Bool, true, false, List, [], ◌∷◌, ◌++◌}
use Rattle.std.specs.Prelude.{length, get_or, slice_index, take, drop, Option, Some}
use Rattle.spec_words.specs.Bits.{is_set, spelled}
use Rattle.code_paths.specs.Paths.{parity_x, parity_y}
use Rattle.mode_set.specs.StreamTable.{payload, label_bits, need, rate}
use Rattle.mode_set.specs.declared.modes.Mode.{Mode}
use Rattle.mode_set.specs.declared.modes.Stream.{Stream}
use Rattle.mode_set.specs.declared.modes.Stream.TheVariants.{Hp, Lp}
use Rattle.mode_set.specs.declared.settings.Settings.{Settings}
use Rattle.mode_set.specs.declared.entry.Entry.{Entry}
use Rattle.mode_set.specs.Entries.{with_entry}
use Rattle.puncture.specs.SentBits.{sent_bit, bits_from}
use Rattle.bit_interleave.specs.Place.{stream_at}
use Rattle.symbol_interleave.specs.Carried.{carried}
use Rattle.inner_chain.specs.Labels.{Paths, number_at, parity_at}

-- bit n of a list of bits
abbrev pub read_bit : List Bool → ℕ → Bool
read_bit xs n = get_or xs n false

-- X and Y of the first `count` steps of a path, as pairs of bits after `first` other pairs
pub record AreParities (path : ℕ → Bool) (first count : ℕ) (xs : List Bool) : Type 0 where
  pub at : (t k : ℕ) → t < count → k < 2 → read_bit xs (2 * (first + t) + k) ≡ parity_at k path t

-- X and Y of the four steps whose inputs are the lowest ten bits of a number, the oldest the most significant
abbrev pub row_of : ℕ → List Bool
row_of n = let p = spelled 10 n in parity_x p ∷ parity_y p ∷ parity_x (drop 1 p) ∷ parity_y (drop 1 p)
    ∷ parity_x (drop 2 p) ∷ parity_y (drop 2 p) ∷ parity_x (drop 3 p) ∷ parity_y (drop 3 p) ∷ []

-- the rows of the numbers below `count`
pub record AreRows (rows : List (List Bool)) (count : ℕ) : Type 0 where
  pub long : length rows ≡ count
  pub at : (n : ℕ) (d : List Bool) → n < count → get_or rows n d ≡ row_of n

-- after i of n steps, from the pending bits w, the register e and `first` earlier pairs of bits
pub record IsEncoded (w e x : List Bool) (first n i : ℕ) (waiting register xs : List Bool) : Type 0 where
  pub left : waiting ≡ drop i w
  pub size : length e ≡ 6 → length register ≡ 6
  pub after : (path : ℕ → Bool) → e ≡ bits_from path 0 6 → take n w ≡ bits_from path 6 n → register ≡ bits_from path i 6
  pub parities : (path : ℕ → Bool) → e ≡ bits_from path 0 6 → take n w ≡ bits_from path 6 n → (t k : ℕ) → t < i → k < 2
      → read_bit xs (2 * (first + t) + k) ≡ parity_at k path t
  pub before : (k : ℕ) → k < 2 * first → read_bit xs k ≡ read_bit x k

-- a label whose bits are read at these entries
pub record IsGathered (xs : List Bool) (entries : List ℕ) (first count label : ℕ) : Type 0 where
  pub small : label < 2 ^ count
  pub bit : (e : ℕ) → e < count → is_set label e ≡ read_bit xs (slice_index entries (first + e))

-- each entry is an index of the list
pub record AreWithin (entries : List ℕ) (len : ℕ) : Type 0 where
  pub at : (k : ℕ) → k < length entries → slice_index entries k < len

-- `number` labels are appended to a list, each read at `count` entries
pub record AppendsGathered (xs : List Bool) (entries : List ℕ) (number count : ℕ) (old new : List ℕ) : Type 0 where
  pub labels : List ℕ
  pub is : new ≡ old ++ labels
  pub long : length labels ≡ number
  pub at : (q : ℕ) → q < number → IsGathered xs entries (q * count) count (slice_index labels q)

-- the steps of HP come before those of LP
abbrev pub first_step : Settings → Stream → ℕ
first_step s Hp = 0
first_step s Lp = need s Hp

-- an entry for label bit e of a word: on any path of the stream, the word's bit is the parity at the entry
pub record IsEntry (s : Settings) (e w n : ℕ) : Type 0 where
  pub from : first_step s (stream_at s.hierarchy e) ≤ n / 2
  pub to : n / 2 < first_step s (stream_at s.hierarchy e) + need s (stream_at s.hierarchy e)
  pub reads : (path : ℕ → Bool) → sent_bit (rate s (stream_at s.hierarchy e)) path (number_at s e w)
      ≡ parity_at (n % 2) path (n / 2 - first_step s (stream_at s.hierarchy e))

-- the entries of the labels of as many words as a symbol has: word 0 of these words first
pub record AreEntriesOf (s : Settings) (word : ℕ → ℕ) (entries : List ℕ) : Type 0 where
  pub long : length entries ≡ payload s.mode * label_bits s.shape
  pub at : (q e : ℕ) → q < payload s.mode → e < label_bits s.shape
      → IsEntry s e (word q) (slice_index entries (q * label_bits s.shape + e))

-- the entries of all labels of a symbol in carrier order
abbrev pub AreEntries : Settings → Bool → List ℕ → Type 0
AreEntries s odd entries = AreEntriesOf s (carried s.mode odd) entries

-- the same in the order of words
abbrev pub AreWordEntries : Settings → List ℕ → Type 0
AreWordEntries s entries = AreEntriesOf s (λ w. w) entries

-- the first `number` labels of a list, each read at `count` entries
pub record AreGathered (xs : List Bool) (entries : List ℕ) (number count : ℕ) (labels : List ℕ) : Type 0 where
  pub at : (q : ℕ) → q < number → IsGathered xs entries (q * count) count (slice_index labels q)

-- the entries of the first `count` label bits of a word are appended to a list
pub record AppendsEntries (s : Settings) (w count : ℕ) (old new : List ℕ) : Type 0 where
  pub more : List ℕ
  pub is : new ≡ old ++ more
  pub long : length more ≡ count
  pub at : (e : ℕ) → e < count → IsEntry s e w (slice_index more e)

-- the most steps of a symbol: six bits on each payload carrier, at rate 7/8
abbrev pub most_steps : Mode → ℕ
most_steps m = 21 * payload m / 4

-- a table of the entries of all labels of a symbol, with space for any parameters
pub record IsLabelTable (s : Settings) (odd : Bool) (entries : List ℕ) (room : ℕ) : Type 0 where
  pub are : AreEntries s odd entries
  pub spare : 6 * payload s.mode ≤ room

-- the table of the entries of the labels in the order of words, for the parameters in it if it has any, with space for
-- any parameters
pub record IsWordTable (s : Settings) (latest : Option Entry) (entries : List ℕ) (room : ℕ) : Type 0 where
  pub are : (e : Entry) → latest ≡ Some e → AreWordEntries (with_entry s e) entries
  pub spare : 6 * payload s.mode ≤ room

-- The state of an inner coder of a mode. Its tables are those of the last symbol's parameters, and it has space for the
-- parities of the most steps.
pub record IsTx (m : Mode) (s : Settings) (latest : Entry) (hp lp : List Bool) (even odd : List ℕ)
    (even_room odd_room : ℕ) (word_latest : Option Entry) (words : List ℕ) (words_room : ℕ)
    (rows : List (List Bool)) (parities : List Bool) : Type 0 where
  pub mode : s.mode ≡ m
  pub hp_long : length hp ≡ 6
  pub lp_long : length lp ≡ 6
  pub even_table : IsLabelTable (with_entry s latest) false even even_room
  pub odd_table : IsLabelTable (with_entry s latest) true odd odd_room
  pub word_table : IsWordTable s word_latest words words_room
  pub are_rows : AreRows rows 1024
  pub room : 2 * most_steps s.mode ≤ length parities

-- X and Y of the steps of a symbol on both paths, HP first
pub record AreAllParities (s : Settings) (paths : Paths) (xs : List Bool) : Type 0 where
  pub at : (σ : Stream) (t k : ℕ) → t < need s σ → k < 2 → read_bit xs (2 * (first_step s σ + t) + k)
      ≡ parity_at k (paths σ) t
