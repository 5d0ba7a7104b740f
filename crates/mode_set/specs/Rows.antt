-- The constants of the two modes.
use Rattle.std.specs.Prelude.{◌≡◌, ℕ, ◌⊎◌}
use Rattle.mode_set.specs.declared.modes.Mode.{Mode}
use Rattle.mode_set.specs.declared.modes.Mode.TheVariants.{M2k, M8k}

-- mode, K, Nmax, Nr and blocks of 126 bits are one of two rows (EN 300 744, 4.4 and 4.3.4)
abbrev pub IsModeRow : Mode → ℕ → ℕ → ℕ → ℕ → Type 0
IsModeRow m k nmax nr blocks =
    ((m ≡ M2k) × (k ≡ 1705) × (nmax ≡ 1512) × (nr ≡ 11) × (blocks ≡ 12))
    ⊎ ((m ≡ M8k) × (k ≡ 6817) × (nmax ≡ 6048) × (nr ≡ 13) × (blocks ≡ 48))
