-- Near is one word.
use Rattle.std.proofs.Common.{◌≡◌, ℕ, ◌+◌, ◌≤◌, Bool, true, false, cond, eqb, List, [], ◌∷◌, length, refl, sym, ◌∙◌, ap, arith}
use Rattle.std.specs.Prelude.{Option, Some, None}
use Rattle.std.proofs.lemmas.Bool.{eqb-true, eqb-false}
use Rattle.rs204.specs.Codes.{IsCodeword, distance}
use Rattle.rs204.proofs.Distance.{codewords_apart}
use Rattle.outer_chain.specs.Words.{IsNear}

-- 1 where two places differ
abbrev differs : Bool → ℕ
differs b = cond b 0 1

one_side : (a b c : ℕ) → differs (eqb a c) ≤ differs (eqb a b) + differs (eqb b c)
one_side a b c = go (eqb a b) (eqb b c) refl refl
  where
    go : (x y : Bool) → eqb a b ≡ x → eqb b c ≡ y → differs (eqb a c) ≤ differs x + differs y
    go true true e f = let g : eqb a c ≡ true = ap (λ z. eqb z c) (eqb-true a b e) ∙ f in omega (arith, ap differs g)
    go true false e f = at_most (eqb a c)
      where
        at_most : (x : Bool) → differs x ≤ 0 + 1
        at_most true = omega arith
        at_most false = omega arith
    go false y e f = more (eqb a c) y
      where
        more : (x y : Bool) → differs x ≤ 1 + differs y
        more true y = omega arith
        more false true = omega arith
        more false false = omega arith

pub dist_by : (u v w : List ℕ) → length u ≡ length v → length v ≡ length w → distance u w ≤ distance u v + distance v w
dist_by [] [] w l m = omega arith
dist_by [] (b ∷ v) w l m = absurd (omega arith)
dist_by (a ∷ u) [] w l m = absurd (omega arith)
dist_by (a ∷ u) (b ∷ v) [] l m = absurd (omega arith)
dist_by (a ∷ u) (b ∷ v) (c ∷ w) l m = omega (arith, one_side a b c, dist_by u v w (omega arith) (omega arith))

one_way : (a b : ℕ) → differs (eqb a b) ≡ differs (eqb b a)
one_way a b = go (eqb a b) (eqb b a) refl refl
  where
    go : (x y : Bool) → eqb a b ≡ x → eqb b a ≡ y → differs x ≡ differs y
    go true true e f = refl
    go false false e f = refl
    go true false e f = absurd (eqb-false b a f (sym (eqb-true a b e)))
    go false true e f = absurd (eqb-false a b e (sym (eqb-true b a f)))

pub dist_sym : (u v : List ℕ) → length u ≡ length v → distance u v ≡ distance v u
dist_sym [] [] l = refl
dist_sym [] (b ∷ v) l = absurd (omega arith)
dist_sym (a ∷ u) [] l = absurd (omega arith)
dist_sym (a ∷ u) (b ∷ v) l = omega (arith, one_way a b, dist_sym u v (omega arith))

-- a codeword within eight is Near
pub near_is : (word c : List ℕ) (near : Option (List ℕ)) → length word ≡ 204 → IsCodeword c → distance word c ≤ 8 → IsNear word near → near ≡ Some c
near_is word c None l k d h = absurd (omega (arith, h c k))
near_is word c (Some e) l k d h =
    let m : length e ≡ length word = h.0.long ∙ sym l in let n : length word ≡ length c = l ∙ sym k.long in
    ap Some (codewords_apart e c h.0 k (omega (arith, dist_by e word c m n, dist_sym e word m, h.1)))
