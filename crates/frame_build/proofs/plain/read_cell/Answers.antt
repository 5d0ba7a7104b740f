-- Both parts are read as they stand.
use Rattle.std.proofs.Common.{◌≡◌, ℤ, ℕ, ◌+◌, ◌-◌, ◌*◌, List, take, drop, length, length-drop, ap, ◌∙◌, FitsSigned, w16, arith}
use Rattle.std.specs.Int.{cast_signed}
use Rattle.std.proofs.lemmas.List.{take_all}
use Rattle.byteorder.specs.Endian.{big_number}
use Rattle.std.proofs.lemmas.Int.{ints, to_z-of_z}
use Rattle.qam_map.specs.declared.cell.Cell.{Cell}
use Rattle.frame_build.specs.Symbol.{cell_from}
use Rattle.frame_build.proofs.plain.read_cell.Goals as goal

made : ℤ → ℤ → Cell
made re im = record { re = re; im = im }

same : {a b x y : ℤ} → a ≡ x → b ≡ y → ◌≡◌ {A = Cell} (record { re = a; im = b }) (record { re = x; im = y })
unfolding made
same {b = b} {x = x} e f = ap (λ (z : ℤ). made z b) e ∙ ap (made x) f

-- a slice to the end is what is left
rest : (n : ℕ) (xs : List ℕ) → take (length xs - n) (drop n xs) ≡ drop n xs
rest n xs = take_all (length xs - n) (drop n xs) (omega (arith, length-drop n xs))

part : List ℕ → ℤ
part xs = cast_signed w16 (big_number 2 xs)

pub returns : goal.returns
unfolding cell_from part
returns c =
    let k = c.args.k in
    let bytes = c.args.bytes.now in
    let re : FitsSigned w16 c.read_i16.result = omega (arith, ints) in
    let im : FitsSigned w16 c.read_i16-2.result = omega (arith, ints) in
    same (to_z-of_z w16 c.read_i16.result re ∙ c.read_i16.ensures ∙ ap part (rest (5 * k) bytes)) (to_z-of_z w16 c.read_i16-2.result im ∙ c.read_i16-2.ensures ∙ ap part (rest (5 * k + 2) bytes))
