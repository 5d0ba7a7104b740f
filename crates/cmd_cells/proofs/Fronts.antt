-- Prefixes of lists.
use Rattle.std.proofs.Common.{◌≡◌, ℕ, zero, suc, ◌+◌, List, [], ◌∷◌, ◌++◌, length, take, ◌∙◌, sym, ap, arith}
use Rattle.std.specs.Prelude.{min}
use Rattle.std.proofs.lemmas.List.{append-nil, take_all}
use Rattle.std.proofs.Math.Seq.{take-append-add}

-- a prefix of a list is a prefix of a longer one
pub front_of : (few rest : List ℕ) (k : ℕ) → (j : ℕ) × (take k few ≡ take j (few ++ rest))
front_of few rest k = (min k (length few), front few rest k)
  where
    front : (few rest : List ℕ) (k : ℕ) → take k few ≡ take (min k (length few)) (few ++ rest)
    front [] rest zero = ap (λ (n : ℕ). take n rest) (let e : 0 ≡ min 0 0 = omega arith in e)
    front [] rest (suc k) = ap (λ (n : ℕ). take n rest) (let e : 0 ≡ min (suc k) 0 = omega arith in e)
    front (x ∷ few) rest zero = ap (λ (n : ℕ). take n (x ∷ (few ++ rest))) (let e : 0 ≡ min 0 (suc (length few)) = omega arith in e)
    front (x ∷ few) rest (suc k) = ap (λ (l : List ℕ). x ∷ l) (front few rest k) ∙ ap (λ (n : ℕ). take n (x ∷ (few ++ rest))) (let e : suc (min k (length few)) ≡ min (suc k) (suc (length few)) = omega arith in e)

-- the earlier content and a prefix of what follows is a prefix of both
pub front_more : (a b c w : List ℕ) (k : ℕ) → w ≡ a ++ take k b → c ≡ a ++ b → (j : ℕ) × (w ≡ take j c)
front_more a b c w k p e = (length a + k, p ∙ sym (take-append-add a b k) ∙ ap (λ (l : List ℕ). take (length a + k) l) (sym e))

-- the whole is a prefix
pub front_whole : (c w : List ℕ) → w ≡ c → (j : ℕ) × (w ≡ take j c)
front_whole c w e = (length c, e ∙ sym (take_all (length c) c (omega arith)))

-- all of what was to be appended, or none of it
pub all_of : (a b w : List ℕ) → w ≡ a ++ b → (k : ℕ) × (w ≡ a ++ take k b)
all_of a b w e = (length b, e ∙ ap (λ (l : List ℕ). a ++ l) (sym (take_all (length b) b (omega arith))))

pub none_of : (a b w : List ℕ) → w ≡ a → (k : ℕ) × (w ≡ a ++ take k b)
none_of a b w e = (0, e ∙ sym (append-nil a))
