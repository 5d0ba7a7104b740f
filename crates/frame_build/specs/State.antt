-- The state of a symbol builder.
use Rattle.std.specs.Prelude.{◌≡◌, ◌≢◌, ℕ, zero, suc, ◌≤◌, ◌<◌, Bool, false, if◌then◌else◌, List, [], ◌∷◌, get_or}
use Rattle.std.specs.Prelude.{length, count_by, flat_map, not, true, take, ◌+◌, ◌*◌, ◌^◌}
use Rattle.spec_words.specs.Bits.{bit, xor, is_set}
use Rattle.spec_words.specs.Words.{numbers}
use Rattle.mode_set.specs.StreamTable.{carriers, label_bits, payload}
use Rattle.mode_set.specs.declared.modes.Mode.{Mode}
use Rattle.mode_set.specs.declared.modes.Shape.{Shape}
use Rattle.mode_set.specs.declared.modes.Hierarchy.{Hierarchy}
use Rattle.mode_set.specs.declared.settings.Settings.{Settings}
use Rattle.pilots.specs.declared.carrier_kind.CarrierKind.{CarrierKind}
use Rattle.pilots.specs.declared.carrier_kind.CarrierKind.TheVariants.{Continual, Scattered, Tps, Payload}
use Rattle.pilots.specs.Carriers.{kind, is_payload}
use Rattle.pilots.specs.Reference.{reference}
use Rattle.qam_map.specs.declared.cell.Cell.{Cell}
use Rattle.qam_map.specs.Points.{map_cell}
use Rattle.frame_build.specs.Symbol.{real, sent_bytes, cells_from, weights_from}
use Rattle.frame_build.specs.declared.carrier_content.CarrierContent.{CarrierContent}
use Rattle.frame_build.specs.declared.carrier_content.CarrierContent.TheVariants.{Label, Pilot, OppositePilot}
use Rattle.frame_build.specs.declared.carrier_content.CarrierContent.TheVariants.{Signalling, OppositeSignalling}

-- the visible state: the settings, and the number of the next symbol in its super-frame of 272
pub record NextSymbol : Type 0 where
  pub settings : Settings
  pub number : ℕ

-- whether the first l bits invert the TPS cells
unfoldable pub is_turned : List Bool → ℕ → Bool
is_turned word zero = false
is_turned word (suc l) = xor (is_turned word l) (bit word l)

-- the bytes of the cells of all labels
abbrev pub IsLabelTable : Shape → Hierarchy → List (List ℕ) → ℕ → Type 0
IsLabelTable s h cells n = (label : ℕ) (d : List ℕ) → label < n → get_or cells label d
    ≡ sent_bytes (map_cell s h (is_set label))

-- the content of a carrier, from its kind and its bit of the reference sequence
abbrev pub source_of : CarrierKind → Bool → CarrierContent
source_of Continual opposite = if opposite then OppositePilot else Pilot
source_of Scattered opposite = if opposite then OppositePilot else Pilot
source_of Tps opposite = if opposite then OppositeSignalling else Signalling
source_of (Payload q) opposite = Label

-- the labels that a carrier needs, one or none
abbrev pub labels_of : CarrierContent → ℕ
labels_of Label = 1
labels_of Pilot = 0
labels_of OppositePilot = 0
labels_of Signalling = 0
labels_of OppositeSignalling = 0

-- the labels of the carriers below k in symbol l
unfoldable pub labels_before : Mode → ℕ → ℕ → ℕ
labels_before m l k = count_by (is_payload m l) (numbers k)

-- the bytes for the content of a carrier, given the inversion of the TPS cells and the bytes of a label
abbrev pub bytes_sent : CarrierContent → Bool → List ℕ → List ℕ
bytes_sent Label turned label = label
bytes_sent Pilot turned label = sent_bytes (real 21845 false)
bytes_sent OppositePilot turned label = sent_bytes (real 21845 true)
bytes_sent Signalling turned label = sent_bytes (real 16384 turned)
bytes_sent OppositeSignalling turned label = sent_bytes (real 16384 (not turned))

-- the place of a carrier's content in the table after the cells of 64 labels
abbrev pub place_of : CarrierContent → Bool → ℕ
place_of Label turned = 63
place_of Pilot turned = 64 + (if turned then 4 else 0)
place_of OppositePilot turned = 65 + (if turned then 4 else 0)
place_of Signalling turned = 66 + (if turned then 4 else 0)
place_of OppositeSignalling turned = 67 + (if turned then 4 else 0)

-- the bytes for carriers without a label: TPS cells not inverted, then inverted
abbrev pub other_cells : List (List ℕ)
other_cells =
    sent_bytes (real 21845 false) ∷ sent_bytes (real 21845 true) ∷ sent_bytes (real 16384 false)
    ∷ sent_bytes (real 16384 true)
    ∷ sent_bytes (real 21845 false) ∷ sent_bytes (real 21845 true) ∷ sent_bytes (real 16384 true)
    ∷ sent_bytes (real 16384 false) ∷ []

-- the bytes of the cells of all labels, and those of other carriers
pub record IsCellTable (s : Shape) (h : Hierarchy) (cells : List (List ℕ)) : Type 0 where
  pub labels : IsLabelTable s h cells (2 ^ label_bits s)
  pub others : (source : CarrierContent) (turned : Bool) (label d : List ℕ) → source ≢ Label
      → get_or cells (place_of source turned) d ≡ bytes_sent source turned label

-- the index of a carrier's cell: that of its label, or one of the four after all labels of a symbol
abbrev pub index_of : Mode → CarrierKind → Bool → ℕ
index_of m Continual opposite = payload m + (if opposite then 1 else 0)
index_of m Scattered opposite = payload m + (if opposite then 1 else 0)
index_of m Tps opposite = payload m + (if opposite then 3 else 2)
index_of m (Payload q) opposite = q

-- the indices of the first n carriers of symbol l
abbrev pub AreIndices : Mode → ℕ → List ℕ → ℕ → Type 0
AreIndices m l list n = (k d : ℕ) → k < n → get_or list k d ≡ index_of m (kind m l k) (reference k)

-- the indices of all carriers of symbols 0 to 3
abbrev pub AreAllIndices : Mode → List (List ℕ) → Type 0
AreAllIndices m lists = (i : ℕ) (d : List ℕ) → i < 4 → AreIndices m i (get_or lists i d) (carriers m)

-- the places of the four other contents, by index
abbrev pub other_places : Bool → List ℕ
other_places turned = if turned then 68 ∷ 69 ∷ 70 ∷ 71 ∷ [] else 64 ∷ 65 ∷ 66 ∷ 67 ∷ []

-- the places in the table of cells, by index: a label is its own, then those of the four other contents
pub record ArePlaces (m : Mode) (turned : Bool) (labels places : List ℕ) : Type 0 where
  pub of_labels : (q : ℕ) → q < payload m → get_or places q 0 ≡ get_or labels q 0
  pub of_others : (c : ℕ) → c < 4 → get_or places (payload m + c) 0 ≡ 64 + c + (if turned then 4 else 0)

-- the first n cells with three bytes more
abbrev pub AreWider : List (List ℕ) → List (List ℕ) → ℕ → Type 0
AreWider cells wide n = (i : ℕ) → i < n → take 5 (get_or wide i []) ≡ get_or cells i []

-- the bytes of the first n carriers: the cell of each is at the place of its index
unfoldable pub bytes_at : List (List ℕ) → List ℕ → List ℕ → ℕ → List ℕ
bytes_at cells places indices n = flat_map (λ k. get_or cells (get_or places (get_or indices k 0) 0) []) (numbers n)

-- the next symbol of a super-frame, and the indices of the carriers' cells in symbols 0 to 3
pub record IsReady (m : Mode) (s : Settings) (number : ℕ) (lists : List (List ℕ)) : Type 0 where
  pub mode : s.mode ≡ m
  pub within : number < 272
  pub indices : AreAllIndices m lists

-- a symbol of k carriers that has taken some bytes; once complete, its cells and weights are set
pub record IsTaking (k filled : ℕ) (bytes : List ℕ) (cells : List Cell) (weights : List ℕ) : Type 0 where
  pub bytes_of : length bytes ≡ 5 * k
  pub cells_of : length cells ≡ k
  pub weights_of : length weights ≡ k
  pub within : filled ≤ 5 * k
  pub whole : filled ≡ 5 * k → cells ≡ cells_from bytes k
  pub weighed : filled ≡ 5 * k → weights ≡ weights_from bytes k
