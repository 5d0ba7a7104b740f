-- The least squares of all points, from the four levels.
use Rattle.std.proofs.Common.{◌≡◌, ℕ, zero, suc, ◌+◌, ◌*◌, ◌/◌, ◌^◌, ◌<◌, ◌≤◌, min, Bool, true, false, cond, List, [], ◌∷◌, map, filter, refl, sym, ap, ◌∙◌, arith}
use Rattle.std.specs.Prelude.{ℤ, pos, negsuc, neg_ℤ, nat_abs, ◌++◌, zip}
use lib.Signed.{le_z}
use Rattle.std.specs.Bool.{beq}
use Rattle.std.specs.Int.{abs_diff}
use Rattle.std.proofs.lemmas.Int.{ints}
use Rattle.std.proofs.Math.Nat.{pow-le-pow_left}
use Rattle.std.proofs.Math.Dec.{leb-zero}
use Rattle.spec_words.specs.Bits.{bit}
use Rattle.mode_set.specs.Levels.{levels}
use Rattle.mode_set.specs.StreamTable.{label_bits}
use Rattle.mode_set.specs.declared.modes.Shape.{Shape}
use Rattle.mode_set.specs.declared.modes.Shape.TheVariants.{Qpsk, Qam16, Qam64}
use Rattle.mode_set.specs.declared.modes.Hierarchy.{Hierarchy}
use Rattle.mode_set.specs.declared.modes.Hierarchy.TheVariants.{Flat, Alpha1, Alpha2, Alpha4}
use Rattle.qam_map.specs.Points.{Point, magnitudes, distance}
use Rattle.soft_metric.specs.Costs.{least_square, cost, four_levels}
use Rattle.soft_metric.specs.Squares.{scaled, pair_at, IsSmallPair, AreAxisCosts}

abbrev pub signed : Bool → ℕ → ℤ
signed positive m = cond positive (pos m) (neg_ℤ (pos m))

-- squared distances on the value's side, and on the other
abbrev close : ℕ → ℕ → ℕ
close m n = abs_diff m n ^ 2

abbrev apart : ℕ → ℕ → ℕ
apart m n = (m + n) ^ 2

pos_pos : (m n : ℕ) → distance (pos m) (pos n) ≡ abs_diff m n
pos_pos m n = omega (arith, ints)

pos_neg : (m n : ℕ) → distance (pos m) (neg_ℤ (pos n)) ≡ m + n
pos_neg m n = omega (arith, ints)

neg_pos : (m n : ℕ) → distance (neg_ℤ (pos m)) (pos n) ≡ m + n
neg_pos m n = omega (arith, ints)

neg_neg : (m n : ℕ) → distance (neg_ℤ (pos m)) (neg_ℤ (pos n)) ≡ abs_diff m n
neg_neg m n = omega (arith, ints)

close_apart : (m n : ℕ) → close m n ≤ apart m n
close_apart m n = pow-le-pow_left (omega arith) 2

apart_more : (m n k : ℕ) → n ≤ k → apart m n ≤ apart m k
apart_more m n k l = pow-le-pow_left (omega arith) 2

-- the points of an axis with these levels
points_with : Shape → List ℕ → List Point
points_with s ls = let positive = zip (magnitudes s) ls in
    map (λ p. record { label = false ∷ p.0; value = pos p.1 }) positive ++ map (λ p. record { label = true ∷ p.0; value = neg_ℤ (pos p.1) }) positive

cost_with : Shape → List ℕ → ℤ → ℕ → Bool → ℕ
cost_with s ls x j b = min 4095 (least_square x (filter (λ p. beq (bit p.label j) b) (points_with s ls)) / 2 ^ 18)

cost_is : (s : Shape) (h : Hierarchy) (x : ℤ) (e : ℕ) (b : Bool) → cost s h x e b ≡ cost_with s (levels s h) x (e / 2) b
unfolding cost cost_with points_with
cost_is s h x e b = refl

-- what the four levels give at each place is the least over all points
abbrev HasCosts : Shape → List ℕ → ℤ → List (ℕ × ℕ) → Type 0
HasCosts s ls x cs = (j : ℕ) → 2 * j < label_bits s → pair_at cs j ≡ (cost_with s ls x j false, cost_with s ls x j true)

pair_is : (c : ℕ × ℕ) (a b : ℕ) → c.0 ≡ a → c.1 ≡ b → c ≡ (a, b)
pair_is c a b ea eb = ap (λ (z : ℕ). (z, c.1)) ea ∙ ap (λ (z : ℕ). (a, z)) eb

capped : (a b : ℕ) → a ≡ b → scaled a ≡ min 4095 (b / 2 ^ 18)
capped a b e = ap (λ (z : ℕ). min 4095 (z / 2 ^ 18)) e

-- ---- squared distances by the sides of value and point
pp : (m n : ℕ) → distance (pos m) (pos n) ^ 2 ≡ close m n
pp m n = ap (λ (z : ℕ). z ^ 2) (pos_pos m n)

pn : (m n : ℕ) → distance (pos m) (neg_ℤ (pos n)) ^ 2 ≡ apart m n
pn m n = ap (λ (z : ℕ). z ^ 2) (pos_neg m n)

np : (m n : ℕ) → distance (neg_ℤ (pos m)) (pos n) ^ 2 ≡ apart m n
np m n = ap (λ (z : ℕ). z ^ 2) (neg_pos m n)

nn : (m n : ℕ) → distance (neg_ℤ (pos m)) (neg_ℤ (pos n)) ^ 2 ≡ close m n
nn m n = ap (λ (z : ℕ). z ^ 2) (neg_neg m n)

-- ---- least elements
near4 : (A B C D a b c d : ℕ) → a ≡ A → b ≡ B → c ≡ C → d ≡ D → min (min A B) (min C D) ≡ min a (min b (min c d))
near4 A B C D a b c d ea eb ec ed = omega arith

far4 : (A B C D a b c d : ℕ) → a ≡ A → b ≡ B → c ≡ C → d ≡ D → D ≤ C → C ≤ B → B ≤ A → D ≡ min a (min b (min c d))
far4 A B C D a b c d ea eb ec ed dc cb ba = omega arith

first4 : (P Q R S p q r s : ℕ) → p ≡ P → q ≡ Q → r ≡ R → s ≡ S → P ≤ R → Q ≤ S → min P Q ≡ min p (min q (min r s))
first4 P Q R S p q r s ep eq er es pr qs = omega arith

last4 : (P Q R S p q r s : ℕ) → p ≡ P → q ≡ Q → r ≡ R → s ≡ S → P ≤ R → Q ≤ S → min P Q ≡ min r (min s (min p q))
last4 P Q R S p q r s ep eq er es pr qs = omega arith

near2 : (A B a b : ℕ) → a ≡ A → b ≡ B → min (min A A) (min B B) ≡ min a b
near2 A B a b ea eb = omega arith

far2 : (A B a b : ℕ) → a ≡ A → b ≡ B → B ≤ A → B ≡ min a b
far2 A B a b ea eb ba = omega arith

first2 : (P R p r : ℕ) → p ≡ P → r ≡ R → P ≤ R → min P P ≡ min p r
first2 P R p r ep er pr = omega arith

last2 : (P R p r : ℕ) → p ≡ P → r ≡ R → P ≤ R → min P P ≡ min r p
last2 P R p r ep er pr = omega arith

near1 : (A a : ℕ) → a ≡ A → min (min A A) (min A A) ≡ a
near1 A a ea = omega arith

qam64 : (a b c d : ℕ) (positive : Bool) (m : ℕ) (cs : List (ℕ × ℕ)) → d ≤ c → c ≤ b → b ≤ a → AreAxisCosts (a ∷ b ∷ c ∷ d ∷ []) positive m cs → HasCosts Qam64 (a ∷ b ∷ c ∷ d ∷ []) (signed positive m) cs
unfolding cost_with points_with
qam64 a b c d true m cs dc cb ba k zero l =
    pair_is _ _ _
    (k.same ∙ capped _ _ (near4 _ _ _ _ _ _ _ _ (pp m a) (pp m b) (pp m c) (pp m d)))
    (k.other ∙ capped _ _ (far4 _ _ _ _ _ _ _ _ (pn m a) (pn m b) (pn m c) (pn m d) (apart_more m d c dc) (apart_more m c b cb) (apart_more m b a ba)))
qam64 a b c d true m cs dc cb ba k (suc zero) l =
    pair_is _ _ _
    (k.outer_zero ∙ capped _ _ (first4 _ _ _ _ _ _ _ _ (pp m a) (pp m b) (pn m a) (pn m b) (close_apart m a) (close_apart m b)))
    (k.outer_one ∙ capped _ _ (first4 _ _ _ _ _ _ _ _ (pp m c) (pp m d) (pn m c) (pn m d) (close_apart m c) (close_apart m d)))
qam64 a b c d true m cs dc cb ba k (suc (suc zero)) l =
    pair_is _ _ _
    (k.inner_zero ∙ capped _ _ (first4 _ _ _ _ _ _ _ _ (pp m a) (pp m d) (pn m a) (pn m d) (close_apart m a) (close_apart m d)))
    (k.inner_one ∙ capped _ _ (first4 _ _ _ _ _ _ _ _ (pp m b) (pp m c) (pn m b) (pn m c) (close_apart m b) (close_apart m c)))
qam64 a b c d true m cs dc cb ba k (suc (suc (suc j))) l = absurd (omega (arith, l))
qam64 a b c d false m cs dc cb ba k zero l =
    pair_is _ _ _
    (k.other ∙ capped _ _ (far4 _ _ _ _ _ _ _ _ (np m a) (np m b) (np m c) (np m d) (apart_more m d c dc) (apart_more m c b cb) (apart_more m b a ba)))
    (k.same ∙ capped _ _ (near4 _ _ _ _ _ _ _ _ (nn m a) (nn m b) (nn m c) (nn m d)))
qam64 a b c d false m cs dc cb ba k (suc zero) l =
    pair_is _ _ _
    (k.outer_zero ∙ capped _ _ (last4 _ _ _ _ _ _ _ _ (nn m a) (nn m b) (np m a) (np m b) (close_apart m a) (close_apart m b)))
    (k.outer_one ∙ capped _ _ (last4 _ _ _ _ _ _ _ _ (nn m c) (nn m d) (np m c) (np m d) (close_apart m c) (close_apart m d)))
qam64 a b c d false m cs dc cb ba k (suc (suc zero)) l =
    pair_is _ _ _
    (k.inner_zero ∙ capped _ _ (last4 _ _ _ _ _ _ _ _ (nn m a) (nn m d) (np m a) (np m d) (close_apart m a) (close_apart m d)))
    (k.inner_one ∙ capped _ _ (last4 _ _ _ _ _ _ _ _ (nn m b) (nn m c) (np m b) (np m c) (close_apart m b) (close_apart m c)))
qam64 a b c d false m cs dc cb ba k (suc (suc (suc j))) l = absurd (omega (arith, l))

qam16 : (a b : ℕ) (positive : Bool) (m : ℕ) (cs : List (ℕ × ℕ)) → b ≤ a → AreAxisCosts (a ∷ a ∷ b ∷ b ∷ []) positive m cs → HasCosts Qam16 (a ∷ b ∷ []) (signed positive m) cs
unfolding cost_with points_with
qam16 a b true m cs ba k zero l =
    pair_is _ _ _
    (k.same ∙ capped _ _ (near2 _ _ _ _ (pp m a) (pp m b)))
    (k.other ∙ capped _ _ (far2 _ _ _ _ (pn m a) (pn m b) (apart_more m b a ba)))
qam16 a b true m cs ba k (suc zero) l =
    pair_is _ _ _
    (k.outer_zero ∙ capped _ _ (first2 _ _ _ _ (pp m a) (pn m a) (close_apart m a)))
    (k.outer_one ∙ capped _ _ (first2 _ _ _ _ (pp m b) (pn m b) (close_apart m b)))
qam16 a b true m cs ba k (suc (suc j)) l = absurd (omega (arith, l))
qam16 a b false m cs ba k zero l =
    pair_is _ _ _
    (k.other ∙ capped _ _ (far2 _ _ _ _ (np m a) (np m b) (apart_more m b a ba)))
    (k.same ∙ capped _ _ (near2 _ _ _ _ (nn m a) (nn m b)))
qam16 a b false m cs ba k (suc zero) l =
    pair_is _ _ _
    (k.outer_zero ∙ capped _ _ (last2 _ _ _ _ (nn m a) (np m a) (close_apart m a)))
    (k.outer_one ∙ capped _ _ (last2 _ _ _ _ (nn m b) (np m b) (close_apart m b)))
qam16 a b false m cs ba k (suc (suc j)) l = absurd (omega (arith, l))

qpsk : (a : ℕ) (positive : Bool) (m : ℕ) (cs : List (ℕ × ℕ)) → AreAxisCosts (a ∷ a ∷ a ∷ a ∷ []) positive m cs → HasCosts Qpsk (a ∷ []) (signed positive m) cs
unfolding cost_with points_with
qpsk a true m cs k zero l = pair_is _ _ _ (k.same ∙ capped _ _ (near1 _ _ (pp m a))) (k.other ∙ capped _ _ (sym (pn m a)))
qpsk a true m cs k (suc j) l = absurd (omega (arith, l))
qpsk a false m cs k zero l = pair_is _ _ _ (k.other ∙ capped _ _ (sym (np m a))) (k.same ∙ capped _ _ (near1 _ _ (nn m a)))
qpsk a false m cs k (suc j) l = absurd (omega (arith, l))

all_places : (s : Shape) (h : Hierarchy) (positive : Bool) (m : ℕ) (cs : List (ℕ × ℕ)) → AreAxisCosts (four_levels (levels s h)) positive m cs → HasCosts s (levels s h) (signed positive m) cs
all_places Qpsk h positive m cs k = qpsk _ positive m cs k
all_places Qam16 Flat positive m cs k = qam16 _ _ positive m cs (omega arith) k
all_places Qam16 Alpha1 positive m cs k = qam16 _ _ positive m cs (omega arith) k
all_places Qam16 Alpha2 positive m cs k = qam16 _ _ positive m cs (omega arith) k
all_places Qam16 Alpha4 positive m cs k = qam16 _ _ positive m cs (omega arith) k
all_places Qam64 Flat positive m cs k = qam64 _ _ _ _ positive m cs (omega arith) (omega arith) (omega arith) k
all_places Qam64 Alpha1 positive m cs k = qam64 _ _ _ _ positive m cs (omega arith) (omega arith) (omega arith) k
all_places Qam64 Alpha2 positive m cs k = qam64 _ _ _ _ positive m cs (omega arith) (omega arith) (omega arith) k
all_places Qam64 Alpha4 positive m cs k = qam64 _ _ _ _ positive m cs (omega arith) (omega arith) (omega arith) k

-- the costs of an axis are those of the definition
pub axis_is : (s : Shape) (h : Hierarchy) (x : ℤ) (positive : Bool) (m e : ℕ) (cs : List (ℕ × ℕ)) → x ≡ signed positive m → AreAxisCosts (four_levels (levels s h)) positive m cs → e < label_bits s
    → pair_at cs (e / 2) ≡ (cost s h x e false, cost s h x e true)
axis_is s h x positive m e cs ex k l =
    all_places s h positive m cs k (e / 2) (omega (arith, l))
    ∙ ap (λ (z : ℤ). (cost_with s (levels s h) z (e / 2) false, cost_with s (levels s h) z (e / 2) true)) (sym ex)
    ∙ ap (λ (z : ℕ). (z, cost_with s (levels s h) x (e / 2) true)) (sym (cost_is s h x e false))
    ∙ ap (λ (z : ℕ). (cost s h x e false, z)) (sym (cost_is s h x e true))

pub sides : (z : ℤ) (m : ℕ) → m ≡ nat_abs z → z ≡ signed (le_z (pos 0) z) m
sides (pos n) m e = ap pos (sym e) ∙ ap (λ (b : Bool). signed b m) (sym (leb-zero n))
sides (negsuc n) m e = ap (λ (k : ℕ). neg_ℤ (pos k)) (sym e)

small_scaled : (n k : ℕ) → n ≡ scaled k → n ≤ 4095
small_scaled n k e = omega (arith, e)

pub pairs_small : (ls : List ℕ) (positive : Bool) (m : ℕ) (cs : List (ℕ × ℕ)) → AreAxisCosts ls positive m cs → (k : ℕ) → k < 3 → IsSmallPair (pair_at cs k)
pairs_small ls true m cs a zero l = (small_scaled _ _ a.same, small_scaled _ _ a.other)
pairs_small ls false m cs a zero l = (small_scaled _ _ a.other, small_scaled _ _ a.same)
pairs_small ls positive m cs a (suc zero) l = (small_scaled _ _ a.outer_zero, small_scaled _ _ a.outer_one)
pairs_small ls positive m cs a (suc (suc zero)) l = (small_scaled _ _ a.inner_zero, small_scaled _ _ a.inner_one)
pairs_small ls positive m cs a (suc (suc (suc k))) l = absurd (omega (arith, l))
