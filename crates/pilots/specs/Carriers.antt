-- The kind of each carrier of a symbol (EN 300 744, 4.4, 4.5.3, 4.5.4 and 4.6).
use Rattle.std.specs.Prelude.{◌≡◌, ℕ, ◌+◌, ◌*◌, ◌%◌, ◌<◌, ◌↔◌, ◌==◌, Bool, not, ◌||◌, if◌then◌else◌, List, [], ◌∷◌, map}
use Rattle.std.specs.Prelude.{filter, flat_map, count_by, slice_index}
use Rattle.spec_words.specs.Words.{numbers, is_among}
use Rattle.mode_set.specs.StreamTable.{carriers, payload}
use Rattle.mode_set.specs.declared.modes.Mode.{Mode}
use Rattle.mode_set.specs.declared.modes.Mode.TheVariants.{M2k, M8k}
use Rattle.pilots.specs.declared.carrier_kind.CarrierKind.{CarrierKind}
use Rattle.pilots.specs.declared.carrier_kind.CarrierKind.TheVariants.{Continual, Scattered, Tps, Payload}

-- the continual pilots of the 2K mode (4.5.4)
abbrev pub continual_2k : List ℕ
continual_2k = 0 ∷ 48 ∷ 54 ∷ 87 ∷ 141 ∷ 156 ∷ 192 ∷ 201 ∷ 255 ∷ 279 ∷ 282 ∷ 333 ∷ 432 ∷ 450 ∷ 483 ∷ 525 ∷ 531 ∷ 618
    ∷ 636 ∷ 714 ∷ 759 ∷ 765 ∷ 780 ∷ 804 ∷ 873 ∷ 888 ∷ 918 ∷ 939 ∷ 942 ∷ 969 ∷ 984 ∷ 1050 ∷ 1101 ∷ 1107 ∷ 1110 ∷ 1137
    ∷ 1140 ∷ 1146 ∷ 1206 ∷ 1269 ∷ 1323 ∷ 1377 ∷ 1491 ∷ 1683 ∷ 1704 ∷ []

-- the TPS carriers of the 2K mode (4.6)
abbrev pub tps_2k : List ℕ
tps_2k = 34 ∷ 50 ∷ 209 ∷ 346 ∷ 413 ∷ 569 ∷ 595 ∷ 688 ∷ 790 ∷ 901 ∷ 1073 ∷ 1219 ∷ 1262 ∷ 1286 ∷ 1469 ∷ 1594 ∷ 1687 ∷ []

-- the 8K mode repeats the list of the 2K mode four times, 1704 carriers apart
abbrev pub in_mode : Mode → List ℕ → List ℕ
in_mode M2k ks = ks
in_mode M8k ks = flat_map (λ j. map (λ k. 1704 * j + k) ks) (numbers 4)

-- the TPS carriers, rising
unfoldable pub tps_carriers : Mode → List ℕ
tps_carriers m = in_mode m tps_2k

-- whether a carrier is a continual pilot
unfoldable pub is_continual : Mode → ℕ → Bool
is_continual m k = is_among (in_mode m continual_2k) k

-- whether a carrier is a TPS carrier
unfoldable pub is_tps : Mode → ℕ → Bool
is_tps m k = is_among (tps_carriers m) k

-- the scattered pilots of symbol l are the carriers 3 (l mod 4) + 12 p (4.5.3)
unfoldable pub is_scattered : ℕ → ℕ → Bool
is_scattered l k = k % 12 == 3 * (l % 4)

-- all other carriers carry data
unfoldable pub is_payload : Mode → ℕ → ℕ → Bool
is_payload m l k = not (is_continual m k || is_scattered l k || is_tps m k)

-- the payload carriers of symbol l, rising; q of them are below the q-th
unfoldable pub payload_carriers : Mode → ℕ → List ℕ
payload_carriers m l = filter (is_payload m l) (numbers (carriers m))

-- the kind of carrier k of symbol l; a payload carrier is numbered by how many are below it
unfoldable pub kind : Mode → ℕ → ℕ → CarrierKind
kind m l k =
    if is_continual m k then Continual
    else if is_scattered l k then Scattered
    else if is_tps m k then Tps
    else Payload (count_by (is_payload m l) (numbers k))

-- k is the q-th payload carrier exactly if its kind says so
abbrev pub AreNumbered : Mode → ℕ → Type 0
AreNumbered m l = (k q : ℕ) → k < carriers m → (kind m l k ≡ Payload q) ↔ ((q < payload m) ×
    (slice_index (payload_carriers m l) q ≡ k))
