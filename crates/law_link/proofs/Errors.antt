-- The difference between a corrected cell and the sent one is a sum of products of errors.
use Rattle.std.proofs.Common.{◌≡◌, ℕ, arith}
use Rattle.std.specs.Prelude.{ℤ, pos, ◌+ℤ◌, ◌-ℤ◌, ◌*ℤ◌}
use Rattle.spec_words.proofs.Ring.{itself, number, plus, less, times, same}

-- g times the cell corrected from (r, i) by the estimate (u, v), less g times (x, y) times its power, is a sum of
-- products of errors
pub errors : (g c : ℕ) (a b x y u v r i : ℤ) →
    pos g *ℤ (pos c *ℤ (r *ℤ u +ℤ i *ℤ v) -ℤ x *ℤ (u *ℤ u +ℤ v *ℤ v))
    ≡ y *ℤ ((pos g *ℤ v -ℤ pos c *ℤ b) *ℤ u -ℤ (pos g *ℤ u -ℤ pos c *ℤ a) *ℤ v)
    +ℤ pos c *ℤ ((pos g *ℤ r -ℤ (a *ℤ x -ℤ b *ℤ y)) *ℤ u +ℤ (pos g *ℤ i -ℤ (a *ℤ y +ℤ b *ℤ x)) *ℤ v)
    -ℤ x *ℤ ((pos g *ℤ u -ℤ pos c *ℤ a) *ℤ u +ℤ (pos g *ℤ v -ℤ pos c *ℤ b) *ℤ v)
errors g c a b x y u v r i =
    let g' = number g in let c' = number c in let a' = itself a in let b' = itself b in let x' = itself x in
    let y' = itself y in let u' = itself u in let v' = itself v in let r' = itself r in let i' = itself i in
    let μ = less (times g' u') (times c' a') in
    let ν = less (times g' v') (times c' b') in
    let ρ = less (times g' r') (less (times a' x') (times b' y')) in
    let ι = less (times g' i') (plus (times a' y') (times b' x')) in
    let l = times g' (less (times c' (plus (times r' u') (times i' v'))) (times x' (plus (times u' u') (times v' v')))) in
    let m = less (plus (times y' (less (times ν u') (times μ v'))) (times c' (plus (times ρ u') (times ι v')))) (times x' (plus (times μ u') (times ν v'))) in
    same l m (omega arith)
