-- Worked values of the definitions.
use Rattle.std.proofs.Common.{◌≡◌, ℕ, ◌*◌, refl}
use Rattle.std.specs.Prelude.{pos, neg_ℤ}
use Rattle.spec_words.specs.Words.{numbers}
use Rattle.mode_set.specs.declared.modes.Shape.TheVariants.{Qpsk, Qam16}
use Rattle.mode_set.specs.declared.modes.Hierarchy.TheVariants.{Flat, Alpha2}
use Rattle.hard_decision.specs.Hard.{nearest, hard_bit}
use Rattle.measure_sums.specs.Tables.{counted_sums, place_adds}
use Rattle.measure_report.specs.declared.sums.SymbolSums.{SymbolSums}

-- what the label adds whose received cell is (x, y): power, error, and the bits and wrong bits of HP and of LP
abbrev Adds : SymbolSums → ℕ → ℕ → ℕ → ℕ → ℕ → ℕ → Type 0
Adds sums power error hp hp_wrong lp lp_wrong = sums ≡ record { cells = 1; muted = 0; power = power; error = error; hp = record { bits = hp; wrong = hp_wrong }; lp = record { bits = lp; wrong = lp_wrong } }

-- the exact point of QPSK: 272 symbols of 1512 of them have the power 110,393,313,004,800
exact : Adds (counted_sums Qpsk Flat 0 (record { re = pos 11585; im = pos 11585 })) 268424450 0 2 0 0 0
unfolding nearest hard_bit numbers
exact = refl

super_frame_power : 272 * 1512 * 268424450 ≡ 110393313004800
super_frame_power = refl

-- negated on both axes it is 23,170 away on each, and both bits are wrong
negated : Adds (counted_sums Qpsk Flat 0 (record { re = neg_ℤ (pos 11585); im = neg_ℤ (pos 11585) })) 268424450 1073697800 2 2 0 0
unfolding nearest hard_bit numbers
negated = refl

-- 16-QAM with α = 2, moved by 1136 on both axes: no bit is wrong
moved : Adds (counted_sums Qam16 Alpha2 0 (record { re = pos 15790; im = pos 15790 })) 429479432 2580992 2 0 2 0
unfolding nearest hard_bit numbers
moved = refl

-- past the middle to the inner level on the real axis the bit of LP there is wrong
past_the_middle : Adds (counted_sums Qam16 Alpha2 0 (record { re = pos 10990; im = pos 14654 })) 429479432 13424896 2 0 2 1
unfolding nearest hard_bit numbers
past_the_middle = refl

-- a cell of weight 0 is counted as muted and adds nothing else
muted : place_adds Qpsk Flat 0 (record { re = pos 5; im = pos 7 }) 0 ≡ record { cells = 0; muted = 1; power = 0; error = 0; hp = record { bits = 0; wrong = 0 }; lp = record { bits = 0; wrong = 0 } }
muted = refl
