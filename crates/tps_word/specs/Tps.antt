-- The TPS bits of a frame (EN 300 744, 4.6.2). The strings of digits are the standard's.
use Rattle.std.specs.Prelude.{◌≡◌, ℕ, ◌-◌, ◌/◌, ◌%◌, ◌≤◌, ◌<◌, IsTrue, IsFalse, ◌==◌, Bool, if◌then◌else◌, List, ◌++◌}
use Rattle.std.specs.Prelude.{codes, unwrap_or, Option, Some, None, is_some}
use Rattle.spec_words.specs.Bits.{digits, spelled}
use Rattle.tps_bch.specs.Bch.{tps_parity}
use Rattle.mode_set.specs.Kept.{is_flat, is_qpsk}
use Rattle.mode_set.specs.declared.modes.Mode.{Mode}
use Rattle.mode_set.specs.declared.modes.Mode.TheVariants.{M2k, M8k}
use Rattle.mode_set.specs.declared.modes.Shape.{Shape}
use Rattle.mode_set.specs.declared.modes.Shape.TheVariants.{Qpsk, Qam16, Qam64}
use Rattle.mode_set.specs.declared.modes.Hierarchy.{Hierarchy}
use Rattle.mode_set.specs.declared.modes.Hierarchy.TheVariants.{Flat, Alpha1, Alpha2, Alpha4}
use Rattle.mode_set.specs.declared.modes.Rate.{Rate}
use Rattle.mode_set.specs.declared.modes.Rate.TheVariants.{R1of2, R2of3, R3of4, R5of6, R7of8}
use Rattle.mode_set.specs.declared.modes.Guard.{Guard}
use Rattle.mode_set.specs.declared.modes.Guard.TheVariants.{G1of32, G1of16, G1of8, G1of4}
use Rattle.mode_set.specs.declared.settings.Settings.{Settings}
use Rattle.tps_word.specs.declared.word.TpsWord.{TpsWord}

-- s1 to s16, for frame 1 to 4
unfoldable pub sync_word : ℕ → List Bool
sync_word frame = if frame % 2 == 1 then digits (codes "0011010111101110") else digits (codes "1100101000010001")

-- s17 to s22
unfoldable pub length_bits : Bool → List Bool
length_bits with_cell = if with_cell then digits (codes "011111") else digits (codes "010111")

-- s25, s26
unfoldable pub shape_bits : Shape → List Bool
shape_bits Qpsk = digits (codes "00")
shape_bits Qam16 = digits (codes "01")
shape_bits Qam64 = digits (codes "10")

-- s27 to s29
unfoldable pub hierarchy_bits : Hierarchy → List Bool
hierarchy_bits Flat = digits (codes "000")
hierarchy_bits Alpha1 = digits (codes "001")
hierarchy_bits Alpha2 = digits (codes "010")
hierarchy_bits Alpha4 = digits (codes "011")

-- s30 to s32 for HP, s33 to s35 for LP
unfoldable pub rate_bits : Rate → List Bool
rate_bits R1of2 = digits (codes "000")
rate_bits R2of3 = digits (codes "001")
rate_bits R3of4 = digits (codes "010")
rate_bits R5of6 = digits (codes "011")
rate_bits R7of8 = digits (codes "100")

-- s36, s37
unfoldable pub guard_bits : Guard → List Bool
guard_bits G1of32 = digits (codes "00")
guard_bits G1of16 = digits (codes "01")
guard_bits G1of8 = digits (codes "10")
guard_bits G1of4 = digits (codes "11")

-- s38, s39
unfoldable pub mode_bits : Mode → List Bool
mode_bits M2k = digits (codes "00")
mode_bits M8k = digits (codes "01")

-- s1 to s53
unfoldable pub tps_info : TpsWord → List Bool
tps_info t =
    sync_word t.frame
    ++ length_bits t.with_cell
    ++ spelled 2 (t.frame - 1)
    ++ shape_bits t.shape
    ++ hierarchy_bits t.hierarchy
    ++ rate_bits t.rate_hp
    ++ rate_bits t.rate_lp
    ++ guard_bits t.guard
    ++ mode_bits t.mode
    ++ spelled 8 t.cell_byte
    ++ digits (codes "000000")

-- s1 to s67
unfoldable pub tps_word : TpsWord → List Bool
tps_word t = tps_info t ++ tps_parity (tps_info t)

-- the high byte of the cell identifier in frames 1 and 3, the low byte in frames 2 and 4; 0 without an identifier
abbrev pub cell_byte : Option ℕ → ℕ → ℕ
cell_byte None frame = 0
cell_byte (Some id) frame = if frame % 2 == 1 then id / 256 else id % 256

-- the fields signalled by a frame
abbrev pub signalled : Settings → ℕ → TpsWord
signalled s frame = record {
  frame = frame;
  with_cell = is_some s.cell_id;
  shape = s.shape;
  hierarchy
      = s.hierarchy;
  rate_hp = s.rate_hp;
  rate_lp = unwrap_or s.rate_lp R1of2;
  guard = s.guard;
  mode = s.mode;
  cell_byte
      = cell_byte s.cell_id frame;
}

-- valid fields
pub record IsValid (t : TpsWord) : Type 0 where
  pub first : 1 ≤ t.frame
  pub last : t.frame ≤ 4
  pub byte : t.cell_byte < 256
  pub qpsk : IsTrue (is_qpsk t.shape) → IsTrue (is_flat t.hierarchy)
  pub rate : IsTrue (is_flat t.hierarchy) → t.rate_lp ≡ R1of2
  pub cell : IsFalse t.with_cell → t.cell_byte ≡ 0

-- the fields read from 67 bits: the valid fields with this word, or none
abbrev pub ReadsAs : List Bool → Option TpsWord → Type 0
ReadsAs bits None = (t : TpsWord) → IsValid t → bits ≡ tps_word t → ⊥
ReadsAs bits (Some t) = IsValid t × (bits ≡ tps_word t)
