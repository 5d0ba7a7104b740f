-- Worked values of the definitions.
use Rattle.std.proofs.Common.{◌≡◌, ℕ, [], ◌∷◌, refl}
use Rattle.std.specs.Prelude.{ℤ, pos, neg_ℤ}
use Rattle.frame_build.specs.Symbol.{cell_bytes}
use Rattle.cell_equal.specs.Equal.{between, corrected, bytes_of}
use Rattle.cell_equal.specs.declared.gain.Gain.{Gain}
use Rattle.cell_equal.specs.declared.equalised.Equalised.{Equalised}

-- the correction of the cell (x, y) and its weight by a gain gives the cell (r, i) and the weight v
abbrev Gives : ℤ → ℤ → ℕ → ℤ → ℤ → ℕ → ℤ → ℤ → ℕ → Type 0
Gives u v d x y w r i n = ◌≡◌ {A = Equalised} (corrected (record { re = u; im = v; span = d }) (record { re = x; im = y }) w) (record { cell = record { re = r; im = i }; weight = n })

-- a quarter turn is removed: the pilot was received as (0, 21845), the cell (5181, -15543) as (15543, 5181)
pub quarter_turn : Gives (pos 0) (pos 21845) 1 (pos 15543) (pos 5181) 15 (pos 5181) (neg_ℤ (pos 15543)) 15
unfolding corrected
quarter_turn = refl

-- zero pilots give a zero cell of weight 0
pub no_gain : Gives (pos 0) (pos 0) 12 (pos 100) (pos 7) 15 (pos 0) (pos 0) 0
unfolding corrected
no_gain = refl

-- values past the range are limited to its ends
pub past_the_ends : Gives (pos 1) (pos 0) 1 (pos 2) (neg_ℤ (pos 2)) 15 (pos 32767) (neg_ℤ (pos 32768)) 0
unfolding corrected
past_the_ends = refl

-- 1.5 and -1.5 round to the greater integers, 2 and -1
pub halves : Gives (pos 43690) (pos 0) 3 (pos 1) (neg_ℤ (pos 1)) 1 (pos 2) (neg_ℤ (pos 1)) 7
unfolding corrected
halves = refl

-- a gain of twice the nominal power gives at most weight 15, and weight 0 stays
pub most_weight : Gives (pos 21845) (pos 21845) 1 (pos 40) (pos 0) 3 (pos 20) (neg_ℤ (pos 20)) 15
unfolding corrected
most_weight = refl

pub no_weight : Gives (pos 21845) (pos 0) 1 (pos 40) (pos 7) 0 (pos 40) (pos 7) 0
unfolding corrected
no_weight = refl

-- a third of the way from a pilot to the next
pub on_the_line : ◌≡◌ {A = Gain} (between (record { re = pos 21845; im = pos 0; span = 1 }) (record { re = pos 0; im = pos 21845; span = 1 }) 1 2) (record { re = pos 43690; im = pos 21845; span = 3 })
on_the_line = refl

-- the parts, high byte first, and the weight
pub five_bytes : bytes_of (record { cell = record { re = neg_ℤ (pos 11585); im = pos 11585 }; weight = 15 }) ≡ 210 ∷ 191 ∷ 45 ∷ 65 ∷ 15 ∷ []
unfolding cell_bytes
five_bytes = refl
