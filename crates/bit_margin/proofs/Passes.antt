-- The loops over the steps of a window.
use Rattle.std.proofs.Common.{◌≡◌, ℕ, ◌+◌, ◌-◌, ◌*◌, ◌^◌, ◌<◌, ◌≤◌, Bool, true, false, List, [], ◌∷◌, ◌++◌, length, take, drop, ◌⊎◌, inl, inr, refl, sym, ap, ap₂, ◌∙◌, subst, arith, append-nil, append_assoc, length-take, below_more, length-drop, length-take-le, take-append-drop, slice_index, slice_index_or, get_or-set_other, get_or-set_same}
use Rattle.std.specs.Prelude.{slice_set}
use Rattle.std.specs.Int.{abs_diff}
use Rattle.std.proofs.lemmas.List.{drop_more, drop_all, take_more, get_or_push, get_or_append_left, length_push, take_rest}
use Rattle.std.proofs.lemmas.Bool.{cases_eq}
use Rattle.std.specs.declared.option.Option.{Option}
use Rattle.std.specs.declared.option.Option.TheVariants.{None}
use Rattle.code_paths.specs.declared.costs.CostPair.{CostPair}
use Rattle.inner_decoder.specs.declared.decoder.StartState.{StartState}
use Rattle.inner_decoder.specs.declared.decoder.StartState.TheVariants.{Zero, Any}
use Rattle.inner_decoder.specs.Starts.{start_of}
use Rattle.bit_margin.specs.Margin.{LeastWith, IsMargin}
use Rattle.acs_lanes.specs.Totals.{IsForward}
use Rattle.bit_margin.specs.Sums.{row, raised, AreBackward, AreLowBackward, AreLowForward, IsApart, AreForward, AreRows, AreStartCosts, HavePassed, IsLeastOf, Appended, Passed, far}
use Rattle.bit_margin.proofs.LowSums.{low_none, raised_at, raised_least, apart_raised}
use Rattle.bit_margin.proofs.Capped.{moved_least}
use Rattle.bit_margin.proofs.Forward.{forward_more, forward_none, forward_small}
use Rattle.bit_margin.proofs.Through.{through, settled, from_on}

-- the sums over no steps
pub low_start : (c : List CostPair) (i : ℕ) (sums : List ℕ) → length c ≤ i → ((n : ℕ) → n < 64 → slice_index sums n ≡ 0) → AreLowBackward (drop i c) sums
low_start c i sums l h = subst (λ (z : List CostPair). AreLowBackward z sums) (sym (drop_all i c l)) (low_none sums h)

-- over one more step, the one before them
pub low_at : (c : List CostPair) (i j p : ℕ) (x : CostPair) (old new : List ℕ) → i < length c → j ≡ i + 1 → p ≡ i → (d : CostPair) → x ≡ slice_index_or c p d → AreLowBackward (drop j c) old → ((e : List CostPair) → AreLowBackward e old → AreLowBackward (x ∷ e) new) → AreLowBackward (drop i c) new
low_at c i j p x old new l k q d e h s =
    let g : drop i c ≡ x ∷ drop j c = drop_more c i d l ∙ ap₂ (λ (u : CostPair) (m : ℕ). u ∷ drop m c) (ap (λ (m : ℕ). slice_index_or c m d) (sym q) ∙ sym e) (sym k) in
    subst (λ (z : List CostPair). AreLowBackward z new) (sym g) (s (drop j c) h)

pub low_same : (c : List CostPair) (i j : ℕ) (sums : List ℕ) → i ≡ j → AreLowBackward (drop i c) sums → AreLowBackward (drop j c) sums
low_same c i j sums e h = subst (λ (m : ℕ). AreLowBackward (drop m c) sums) e h

pub rest_low : (c : List CostPair) (i j : ℕ) (sums : List ℕ) → j ≡ i → AreLowBackward (take (length c - i) (drop i c)) sums → AreLowBackward (drop j c) sums
rest_low c i j sums e h = subst (λ (z : List CostPair). AreLowBackward z sums) (take_rest c i ∙ ap (λ (m : ℕ). drop m c) (sym e)) h

-- the rows from j on and one more before them
pub rows_more : (c : List CostPair) (rows : List (List ℕ)) (block i j p : ℕ) (sums : List ℕ) → j ≡ i + 1 → p ≡ i → i < length rows → AreLowBackward (drop j c) sums
    → ((t : ℕ) → j ≤ t → t < block → AreLowBackward (drop (t + 1) c) (row rows t))
    → (t : ℕ) → i ≤ t → t < block → AreLowBackward (drop (t + 1) c) (row (slice_set rows p sums) t)
rows_more c rows block i j p sums e q w h f t l m = go (cases_eq t p)
  where
    go : (t ≡ p) ⊎ (t ≡ p → ⊥) → AreLowBackward (drop (t + 1) c) (row (slice_set rows p sums) t)
    go (inl g) =
        let same : row (slice_set rows p sums) t ≡ sums = ap (row (slice_set rows p sums)) g ∙ get_or-set_same rows p sums [] (omega arith) in
        let place : j ≡ t + 1 = omega arith in
        subst (λ (z : List ℕ). AreLowBackward (drop (t + 1) c) z) (sym same) (subst (λ (k : ℕ). AreLowBackward (drop k c) sums) place h)
    go (inr g) = subst (λ (z : List ℕ). AreLowBackward (drop (t + 1) c) z) (sym (get_or-set_other rows p t sums [] g)) (f t (omega (arith, g)) m)

-- ---- the margins

pub start_small : (s : StartState) (first : List ℕ) → AreStartCosts s first → (k : ℕ) → k < 64 → slice_index first k ≤ far
start_small Any first f k l = omega (arith, f k l)
start_small Zero first f k l = go (cases_eq k 0)
  where
    go : (k ≡ 0) ⊎ (k ≡ 0 → ⊥) → slice_index first k ≤ far
    go (inl e) = omega (arith, f.0, ap (slice_index first) e)
    go (inr e) = omega (arith, f.1 k (omega (arith, e)) l)

pub forward_far : (s : StartState) (first : List ℕ) (c : List CostPair) (t : ℕ) (sums : List ℕ) → AreStartCosts s first → length c ≤ 1280 → AreForward first (take t c) sums → (n : ℕ) → n < 64 → slice_index sums n ≤ 2 ^ 31
forward_far s first c t sums f l h n m = omega (arith, forward_small first (take t c) sums (start_small s first f) h n m, length-take t c)

pub forward_fits : (s : StartState) (first : List ℕ) (c : List CostPair) (t : ℕ) (sums : List ℕ) → AreStartCosts s first → length c ≤ 1280 → AreForward first (take t c) sums → (n : ℕ) → n < 64 → slice_index sums n + 8190 < 2 ^ 32
forward_fits s first c t sums f l h n m = omega (arith, forward_far s first c t sums f l h n m)

least_at : (s : StartState) (first : List ℕ) (c : List CostPair) (t : ℕ) (b : Bool) (before behind : List ℕ) (m : ℕ) → AreStartCosts s first → length c ≤ 1280 → t < length c
    → AreForward first (take (t + 1) c) before → AreBackward (drop (t + 1) c) behind
    → IsLeastOf (λ k. slice_index before (k + from_on b) + slice_index behind (k + from_on b)) 32 m
    → LeastWith (start_of s) c t b m
least_at s first c t b before behind m f few l h k i =
    subst (λ (z : List CostPair). LeastWith (start_of s) z t b m) (take-append-drop (t + 1) c)
    (settled s first (take (t + 1) c) (drop (t + 1) c) t b m f (omega (arith, length-take (t + 1) c, length-drop (t + 1) c)) (length-take-le (t + 1) c (omega arith)) (through first (take (t + 1) c) (drop (t + 1) c) b before behind m h k i))

pub margin_at : (s : StartState) (first : List ℕ) (c : List CostPair) (t : ℕ) (before behind : List ℕ) (u v : ℕ) → AreStartCosts s first → length c ≤ 1280 → t < length c
    → AreForward first (take (t + 1) c) before → AreBackward (drop (t + 1) c) behind
    → IsLeastOf (λ k. slice_index before (k + 0) + slice_index behind (k + 0)) 32 u
    → IsLeastOf (λ k. slice_index before (k + 32) + slice_index behind (k + 32)) 32 v
    → IsMargin (start_of s) c t (abs_diff u v)
margin_at s first c t before behind u v f few l h k iz io = record {
  with_zero = u;
  with_one = v;
  zero = least_at s first c t false before behind u f few l h k iz;
  one = least_at s first c t true before behind v f few l h k io;
  is = refl;
}

pub forward_at : (first : List ℕ) (c : List CostPair) (t : ℕ) (x d : CostPair) (old new : List ℕ) → t < length c → x ≡ slice_index_or c t d → AreForward first (take t c) old → IsForward x old new → AreForward first (take (t + 1) c) new
forward_at first c t x d old new l e h s =
    subst (λ (z : List CostPair). AreForward first z new) (sym (take_more c t d l ∙ ap (λ (z : CostPair). take t c ++ z ∷ []) (sym e))) (forward_more first (take t c) x old new h s)

pub appended_none : (a : Option (List Bool)) (c : List CostPair) (old : List ℕ) → Appended a c 0 old old
appended_none a c old = record { more = []; is = sym (append-nil old); long = refl; each = λ t l. absurd (omega arith) }

pub appended_more : (a : Option (List Bool)) (c : List CostPair) (n m : ℕ) (old mid new : List ℕ) → Appended a c n old mid → new ≡ mid ++ m ∷ [] → IsMargin a c n m → Appended a c (n + 1) old new
appended_more a c n m old mid new h e k = record {
  more = h.more ++ m ∷ [];
  is = e ∙ ap (λ (z : List ℕ). z ++ m ∷ []) h.is ∙ append_assoc old h.more (m ∷ []);
  long = omega (arith, length_push h.more m, h.long);
  each = below_more (λ (t : ℕ). IsMargin a c t (slice_index (h.more ++ m ∷ []) t)) n
      (λ t l. subst (IsMargin a c t) (sym (get_or_append_left h.more (m ∷ []) 0 t (omega (arith, h.long)))) (h.each t l))
      (subst (IsMargin a c n) (sym (get_or_push h.more m 0 n h.long)) k);
}

-- ---- completed steps

pub passed_none : (s : StartState) (c : List CostPair) (first old : List ℕ) (n : ℕ) → n ≡ 0 → AreStartCosts s first → Passed s c n first old old
passed_none s c first old n e f = subst (λ (m : ℕ). Passed s c m first old old) (sym e) (record { first = first; starts = f; forward = forward_none first; appended = appended_none (start_of s) c old })

pub have_passed : (s : StartState) (c : List CostPair) (n : ℕ) (before old new : List ℕ) → Passed s c n before old new → HavePassed c n before new
have_passed s c n before old new h = record { start = s; old = old; passed = h }

pub passed_fits : (c : List CostPair) (n : ℕ) (before new : List ℕ) → length c ≤ 1280 → HavePassed c n before new → (k : ℕ) → k < 64 → slice_index before k + 8190 < 2 ^ 32
passed_fits c n before new l h = forward_fits h.start h.passed.first c n before h.passed.starts l h.passed.forward

pub passed_far : (c : List CostPair) (n : ℕ) (before new : List ℕ) (x d : CostPair) (after : List ℕ) → length c ≤ 1280 → n < length c → x ≡ slice_index_or c n d → HavePassed c n before new → IsForward x before after → (k : ℕ) → k < 64 → slice_index after k ≤ 2 ^ 31
passed_far c n before new x d after l m e h f = forward_far h.start h.passed.first c (n + 1) after h.passed.starts l (forward_at h.passed.first c n x d before after m e h.passed.forward f)

-- one more step
pub passed_more : (s : StartState) (c : List CostPair) (n j : ℕ) (x d : CostPair) (before after behind old mid new : List ℕ) (u v w : ℕ) → j ≡ n + 1 → length c ≤ 1280 → n < length c → x ≡ slice_index_or c n d
    → IsForward x before after → AreBackward (drop (n + 1) c) behind
    → IsLeastOf (λ k. slice_index after (k + 0) + slice_index behind (k + 0)) 32 u → IsLeastOf (λ k. slice_index after (k + 32) + slice_index behind (k + 32)) 32 v
    → w ≡ abs_diff u v → new ≡ mid ++ w ∷ [] → Passed s c n before old mid → Passed s c j after old new
passed_more s c n j x d before after behind old mid new u v w g l m e f b iz io q a h = subst (λ (k : ℕ). Passed s c k after old new) (sym g) (record {
  first = h.first;
  starts = h.starts;
  forward = ahead;
  appended = appended_more (start_of s) c n w old mid new h.appended a (subst (IsMargin (start_of s) c n) (sym q) (margin_at s h.first c n after behind u v h.starts l m ahead b iz io));
})
  where
    ahead : AreForward h.first (take (n + 1) c) after
    ahead = forward_at h.first c n x d before after m e h.forward f

-- the same with sums after the step less a number
pub passed_low : (s : StartState) (c : List CostPair) (n j : ℕ) (x d : CostPair) (before after behind old mid new : List ℕ) (u v w : ℕ) → j ≡ n + 1 → length c ≤ 1280 → n < length c → x ≡ slice_index_or c n d
    → IsForward x before after → AreLowBackward (drop (n + 1) c) behind
    → IsLeastOf (λ k. slice_index after (k + 0) + slice_index behind (k + 0)) 32 u → IsLeastOf (λ k. slice_index after (k + 32) + slice_index behind (k + 32)) 32 v
    → w ≡ abs_diff u v → new ≡ mid ++ w ∷ [] → Passed s c n before old mid → Passed s c j after old new
passed_low s c n j x d before after behind old mid new u v w g l m e f b iz io q a h =
    passed_more s c n j x d before after (raised b.less behind) old mid new (u + b.less) (v + b.less) w g l m e f b.are (raised_least after behind b.less 0 u (omega arith) iz) (raised_least after behind b.less 32 v (omega arith) io) (q ∙ apart_raised b.less u v) a h

pub passed_at : (s : StartState) (c : List CostPair) (n j : ℕ) (before old new : List ℕ) → n ≡ j → Passed s c n before old new → Passed s c j before old new
passed_at s c n j before old new e h = subst (λ (k : ℕ). Passed s c k before old new) e h

pub passed_same : (s : StartState) (c : List CostPair) (n : ℕ) (before old mid new : List ℕ) → mid ≡ new → Passed s c n before old mid → Passed s c n before old new
passed_same s c n before old mid new e h = subst (λ (z : List ℕ). Passed s c n before old z) e h

-- ---- by sums less a number, from any start

pub ahead_at : (c : List CostPair) (t j : ℕ) (x d : CostPair) (old new : List ℕ) → t < length c → j ≡ t + 1 → x ≡ slice_index_or c t d → AreLowForward (take t c) old → ((e : List CostPair) → AreLowForward e old → AreLowForward (e ++ x ∷ []) new) → AreLowForward (take j c) new
ahead_at c t j x d old new l g e h s =
    subst (λ (z : List CostPair). AreLowForward z new) (sym (ap (λ (m : ℕ). take m c) g ∙ take_more c t d l ∙ ap (λ (z : CostPair). take t c ++ z ∷ []) (sym e))) (s (take t c) h)

pub margin_low : (c : List CostPair) (t : ℕ) (before behind : List ℕ) (m : ℕ) → length c ≤ 1280 → t < length c → AreLowForward (take (t + 1) c) before → AreLowBackward (drop (t + 1) c) behind → IsApart before behind m → IsMargin None c t m
margin_low c t before behind m few l f b h =
    subst (IsMargin None c t) (sym (h.is ∙ apart_raised (f.less + b.less) h.zero h.one))
    (margin_at Any f.first c t (raised f.less before) (raised b.less behind) (h.zero + (f.less + b.less)) (h.one + (f.less + b.less)) f.starts few l f.are b.are
    (moved_least (λ k. slice_index before (k + 0) + slice_index behind (k + 0)) (λ k. slice_index (raised f.less before) (k + 0) + slice_index (raised b.less behind) (k + 0)) h.zero (f.less + b.less) (moved 0 (omega arith)) h.least_zero)
    (moved_least (λ k. slice_index before (k + 32) + slice_index behind (k + 32)) (λ k. slice_index (raised f.less before) (k + 32) + slice_index (raised b.less behind) (k + 32)) h.one (f.less + b.less) (moved 32 (omega arith)) h.least_one))
  where
    moved : (from : ℕ) → from ≤ 32 → (k : ℕ) → k < 32 → slice_index (raised f.less before) (k + from) + slice_index (raised b.less behind) (k + from) ≡ slice_index before (k + from) + slice_index behind (k + from) + (f.less + b.less)
    moved from p k i = omega (arith, raised_at f.less before (k + from) (omega (arith, p, i)), raised_at b.less behind (k + from) (omega (arith, p, i)))

pub appended_at : (a : Option (List Bool)) (c : List CostPair) (n j : ℕ) (old new : List ℕ) → n ≡ j → Appended a c n old new → Appended a c j old new
appended_at a c n j old new e h = subst (λ (k : ℕ). Appended a c k old new) e h
