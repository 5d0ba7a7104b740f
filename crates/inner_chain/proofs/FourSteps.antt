-- The pairs of four steps of the words of a run, word by word.
use Rattle.std.proofs.Common.{◌≡◌, ◌≢◌, ℕ, zero, suc, ◌+◌, ◌-◌, ◌*◌, ◌<◌, ◌≤◌, ◌⊎◌, inl, inr, List, length, drop, get_or, length-set, refl, sym, ap, ◌∙◌, subst, arith}
use Rattle.std.specs.Prelude.{slice_index, slice_index_or, slice_set}
use Rattle.std.proofs.lemmas.Bool.{cases_lt}
use Rattle.std.proofs.lemmas.List.{get_or-drop, get_or-set_same, get_or-set_other, length-drop, same_lists}
use Rattle.code_paths.specs.declared.costs.CostPair.{CostPair}
use Rattle.soft_metric.specs.Squares.{IsSmallPair}
use Rattle.inner_chain.specs.CostTables.{IsPairAt, IsRoom}
use Rattle.inner_chain.specs.StepPairs.{IsInLanes, WritesWords, costs_in, lanes_of_word, lane_at}
use Rattle.inner_chain.specs.CostTables.{pair_at}
use Rattle.inner_chain.proofs.Running.{AreWords, same_step, times_most, words_apart}
use Rattle.inner_chain.proofs.StepLanes.{lane_small, pair_of_lanes}
use Rattle.inner_chain.proofs.TwoSteps.{moved}

-- ---- small costs
pub word_small : (costs entries : List (ℕ × ℕ)) (at : ℕ → ℕ) → IsRoom costs → (k : ℕ) → k < 8 → IsSmallPair (costs_in (slice_index (lanes_of_word costs entries at) k))
word_small costs es at room zero l = lane_small costs room (at (pair_at es 0).0)
word_small costs es at room (suc zero) l = lane_small costs room (at (pair_at es 0).1)
word_small costs es at room (suc (suc zero)) l = lane_small costs room (at (pair_at es 1).0)
word_small costs es at room (suc (suc (suc zero))) l = lane_small costs room (at (pair_at es 1).1)
word_small costs es at room (suc (suc (suc (suc zero)))) l = lane_small costs room (at (pair_at es 2).0)
word_small costs es at room (suc (suc (suc (suc (suc zero))))) l = lane_small costs room (at (pair_at es 2).1)
word_small costs es at room (suc (suc (suc (suc (suc (suc zero)))))) l = lane_small costs room (at (pair_at es 3).0)
word_small costs es at room (suc (suc (suc (suc (suc (suc (suc zero))))))) l = lane_small costs room (at (pair_at es 3).1)
word_small costs es at room (suc (suc (suc (suc (suc (suc (suc (suc k)))))))) l = absurd (omega (arith, l))

-- ---- one word
pub no_words : (costs es : List (ℕ × ℕ)) (word m n first : ℕ) (list : List CostPair) → WritesWords word 0 m costs es n first list list
no_words costs es word m n first list = record { long = refl; here = λ u s d l k. absurd (omega (arith, l)); others = λ k d off. refl }

pub no_steps : (costs es : List (ℕ × ℕ)) (word w n first : ℕ) (list : List CostPair) → WritesWords word w 0 costs es n first list list
no_steps costs es word w n first list = record { long = refl; here = λ u s d l k. absurd (omega (arith, k)); others = λ k d off. refl }

-- one more step of a word
pub step_set : (costs es : List (ℕ × ℕ)) (word m n first : ℕ) (old list : List CostPair) (c : CostPair) → first + m < length list → IsPairAt costs ((pair_at es m).0 + word) ((pair_at es m).1 + word) c
    → WritesWords word 1 m costs es n first old list → WritesWords word 1 (m + 1) costs es n first old (slice_set list (first + m) c)
step_set costs es word m n first old list c within p w = record { long = length-set list (first + m) c ∙ w.long; here = here; others = others }
  where
    new : List CostPair
    new = slice_set list (first + m) c

    go : (s : ℕ) (d : CostPair) → s < m + 1 → (s < m) ⊎ (m ≤ s) → IsPairAt costs ((pair_at es s).0 + (word + zero)) ((pair_at es s).1 + (word + zero)) (slice_index_or new (first + s + zero * n) d)
    go s d l (inl less) =
        subst (IsPairAt costs ((pair_at es s).0 + (word + zero)) ((pair_at es s).1 + (word + zero))) (sym (get_or-set_other list (first + m) (first + s + zero * n) c d (λ e. absurd (omega (arith, e, less)))))
        (w.here zero s d (omega arith) less)
    go s d l (inr more) =
        let same : m ≡ s = omega (arith, l, more) in
        subst (λ (z : ℕ). IsPairAt costs ((pair_at es z).0 + (word + zero)) ((pair_at es z).1 + (word + zero)) (slice_index_or new (first + z + zero * n) d)) same
        (moved costs ((pair_at es m).0 + word) ((pair_at es m).1 + word) (first + m) ((pair_at es m).0 + (word + zero)) ((pair_at es m).1 + (word + zero)) (first + m + zero * n) new d (omega arith) (omega arith) (omega arith)
        (subst (IsPairAt costs ((pair_at es m).0 + word) ((pair_at es m).1 + word)) (sym (get_or-set_same list (first + m) c d within)) p))

    here : (u s : ℕ) (d : CostPair) → u < 1 → s < m + 1 → IsPairAt costs ((pair_at es s).0 + (word + u)) ((pair_at es s).1 + (word + u)) (slice_index_or new (first + s + u * n) d)
    here zero s d l ls = go s d ls (cases_lt s m)
    here (suc u) s d l ls = absurd (omega (arith, l))

    others : (k : ℕ) (d : CostPair) → ((u s : ℕ) → u < 1 → s < m + 1 → k ≢ first + s + u * n) → slice_index_or new k d ≡ slice_index_or old k d
    others k d off =
        get_or-set_other list (first + m) k c d (λ e. off 0 m (omega arith) (omega arith) (omega (arith, e)))
        ∙ w.others k d (λ u s l ls. off u s l (omega (arith, ls)))

-- four steps of a word, from lanes
pub word_put : (costs es : List (ℕ × ℕ)) (at : ℕ → ℕ) (word n place first : ℕ) (lanes : List ℕ) (old new : List CostPair) → IsRoom costs → lanes ≡ lanes_of_word costs es at → ((z : ℕ) → at z ≡ z + word) → place ≡ first → length new ≡ length old
    → ((d : CostPair) → IsInLanes (slice_index lanes 0) (slice_index lanes 1) (slice_index_or new place d)) → ((d : CostPair) → IsInLanes (slice_index lanes 2) (slice_index lanes 3) (slice_index_or new (place + 1) d))
    → ((d : CostPair) → IsInLanes (slice_index lanes 4) (slice_index lanes 5) (slice_index_or new (place + 2) d)) → ((d : CostPair) → IsInLanes (slice_index lanes 6) (slice_index lanes 7) (slice_index_or new (place + 3) d))
    → ((k : ℕ) (d : CostPair) → k ≢ place → k ≢ place + 1 → k ≢ place + 2 → k ≢ place + 3 → slice_index_or new k d ≡ slice_index_or old k d) → WritesWords word 1 4 costs es n first old new
word_put costs es at word n place first lanes old new room is to_word e long zero_in one_in two_in three_in same = record { long = long; here = here; others = others }
  where
    step : (x y from p : ℕ) (d : CostPair) → from ≡ p → IsInLanes (lane_at costs (at x)) (lane_at costs (at y)) (slice_index_or new from d) → IsPairAt costs (x + (word + zero)) (y + (word + zero)) (slice_index_or new p d)
    step x y from p d ep l =
        moved costs (at x) (at y) from (x + (word + zero)) (y + (word + zero)) p new d (to_word x ∙ omega arith) (to_word y ∙ omega arith) ep (pair_of_lanes costs room (at x) (at y) (slice_index_or new from d) l)

    here : (u s : ℕ) (d : CostPair) → u < 1 → s < 4 → IsPairAt costs ((pair_at es s).0 + (word + u)) ((pair_at es s).1 + (word + u)) (slice_index_or new (first + s + u * n) d)
    here (suc u) s d l k = absurd (omega (arith, l))
    here zero zero d l k = step (pair_at es 0).0 (pair_at es 0).1 place (first + zero + zero * n) d (omega (arith, e)) (subst (λ (z : List ℕ). IsInLanes (slice_index z 0) (slice_index z 1) (slice_index_or new place d)) is (zero_in d))
    here zero (suc zero) d l k = step (pair_at es 1).0 (pair_at es 1).1 (place + 1) (first + suc zero + zero * n) d (omega (arith, e)) (subst (λ (z : List ℕ). IsInLanes (slice_index z 2) (slice_index z 3) (slice_index_or new (place + 1) d)) is (one_in d))
    here zero (suc (suc zero)) d l k = step (pair_at es 2).0 (pair_at es 2).1 (place + 2) (first + suc (suc zero) + zero * n) d (omega (arith, e)) (subst (λ (z : List ℕ). IsInLanes (slice_index z 4) (slice_index z 5) (slice_index_or new (place + 2) d)) is (two_in d))
    here zero (suc (suc (suc zero))) d l k =
        step (pair_at es 3).0 (pair_at es 3).1 (place + 3) (first + suc (suc (suc zero)) + zero * n) d (omega (arith, e)) (subst (λ (z : List ℕ). IsInLanes (slice_index z 6) (slice_index z 7) (slice_index_or new (place + 3) d)) is (three_in d))
    here zero (suc (suc (suc (suc s)))) d l k = absurd (omega (arith, k))

    others : (k : ℕ) (d : CostPair) → ((u s : ℕ) → u < 1 → s < 4 → k ≢ first + s + u * n) → slice_index_or new k d ≡ slice_index_or old k d
    others k d off =
        let not : (s : ℕ) → s < 4 → k ≢ first + s + 0 * n = λ s l. off 0 s (omega arith) l in
        same k d (λ i. not 0 (omega arith) (omega (arith, i, e))) (λ i. not 1 (omega arith) (omega (arith, i, e))) (λ i. not 2 (omega arith) (omega (arith, i, e))) (λ i. not 3 (omega arith) (omega (arith, i, e)))

-- ---- more words
pub words_more : (costs es : List (ℕ × ℕ)) (word next a b n first from : ℕ) (old now new : List CostPair) → 4 ≤ n → next ≡ word + a → from ≡ first + a * n → WritesWords word a 4 costs es n first old now
    → WritesWords next b 4 costs es n from now new → WritesWords word (a + b) 4 costs es n first old new
words_more costs es word next a b n first from old now new four en ef w v = record { long = v.long ∙ w.long; here = here; others = others }
  where
    go : (u s : ℕ) (d : CostPair) → u < a + b → s < 4 → (u < a) ⊎ (a ≤ u) → IsPairAt costs ((pair_at es s).0 + (word + u)) ((pair_at es s).1 + (word + u)) (slice_index_or new (first + s + u * n) d)
    go u s d l ls (inl less) = subst (IsPairAt costs ((pair_at es s).0 + (word + u)) ((pair_at es s).1 + (word + u))) (sym (v.others (first + s + u * n) d off)) (w.here u s d less ls)
      where
        off : (x z : ℕ) → x < b → z < 4 → first + s + u * n ≢ from + z + x * n
        off x z lx lz e =
            let apart : u * n + n ≤ (a + x) * n = words_apart u (a + x) n (omega (arith, less)) in
            absurd (omega (arith, e, ef, apart, four, ls))
    go u s d l ls (inr past) =
        let x = u - a in
        let number : a + x ≡ u = omega (arith, past) in
        let place : (a + x) * n ≡ u * n = ap (λ (z : ℕ). z * n) number in
        moved costs ((pair_at es s).0 + (next + x)) ((pair_at es s).1 + (next + x)) (from + s + x * n) ((pair_at es s).0 + (word + u)) ((pair_at es s).1 + (word + u)) (first + s + u * n) new d (omega (arith, number, en)) (omega (arith, number, en)) (omega (arith, place, ef)) (v.here x s d (omega (arith, l, number)) ls)

    here : (u s : ℕ) (d : CostPair) → u < a + b → s < 4 → IsPairAt costs ((pair_at es s).0 + (word + u)) ((pair_at es s).1 + (word + u)) (slice_index_or new (first + s + u * n) d)
    here u s d l ls = go u s d l ls (cases_lt u a)

    others : (k : ℕ) (d : CostPair) → ((u s : ℕ) → u < a + b → s < 4 → k ≢ first + s + u * n) → slice_index_or new k d ≡ slice_index_or old k d
    others k d off =
        v.others k d (λ x s l ls e. off (a + x) s (omega (arith, l)) ls (omega (arith, e, ef)))
        ∙ w.others k d (λ u s l ls. off u s (omega (arith, l)) ls)

-- ---- the steps of a run
pub four_put : (costs : List (ℕ × ℕ)) (entries : List ℕ) (n start first step from at : ℕ) (es : List (ℕ × ℕ)) (old new : List CostPair) → step + 4 ≤ n → from ≡ start + step → at ≡ first + step
    → ((s : ℕ) → s < 4 → pair_at es s ≡ (slice_index entries (2 * (from + s)), slice_index entries (2 * (from + s) + 1)))
    → AreWords costs entries n start first step old → WritesWords 0 21 4 costs es n at old new → AreWords costs entries n start first (step + 4) new
four_put costs entries n start first step from at es old new low ef ea read all w u s d lu ls = go (cases_lt s step)
  where
    go : (s < step) ⊎ (step ≤ s) → IsPairAt costs (slice_index entries (2 * (start + s)) + u) (slice_index entries (2 * (start + s) + 1) + u) (slice_index_or new (first + s + u * n) d)
    go (inl less) = subst (IsPairAt costs (slice_index entries (2 * (start + s)) + u) (slice_index entries (2 * (start + s) + 1) + u)) (sym (w.others (first + s + u * n) d off)) (all u s d lu less)
      where
        off : (v z : ℕ) → v < 21 → z < 4 → first + s + u * n ≢ at + z + v * n
        off v z lv lz e =
            let meet : s + u * n ≡ step + z + v * n = omega (arith, e, ea) in
            absurd (omega (arith, less, same_step n u s v (step + z) (omega (arith, less, low)) (omega (arith, low, lz)) meet))
    go (inr more) =
        let z = s - step in
        let number : step + z ≡ s = omega (arith, more) in
        let lz : z < 4 = omega (arith, number, ls) in
        let place : from + z ≡ start + s = omega (arith, number, ef) in
        let x_is : (pair_at es z).0 + (0 + u) ≡ slice_index entries (2 * (start + s)) + u = ap (λ (p : ℕ × ℕ). p.0 + (0 + u)) (read z lz) ∙ ap (λ (i : ℕ). slice_index entries (2 * i) + (0 + u)) place ∙ omega arith in
        let y_is : (pair_at es z).1 + (0 + u) ≡ slice_index entries (2 * (start + s) + 1) + u = ap (λ (p : ℕ × ℕ). p.1 + (0 + u)) (read z lz) ∙ ap (λ (i : ℕ). slice_index entries (2 * i + 1) + (0 + u)) place ∙ omega arith in
        moved costs ((pair_at es z).0 + (0 + u)) ((pair_at es z).1 + (0 + u)) (at + z + u * n) (slice_index entries (2 * (start + s)) + u) (slice_index entries (2 * (start + s) + 1) + u) (first + s + u * n) new d x_is y_is (omega (arith, number, ea)) (w.here u z d lu lz)

-- what stands past the last pair stays
pub four_rest : (costs es : List (ℕ × ℕ)) (n first k : ℕ) (old new : List CostPair) → WritesWords 0 21 4 costs es n first old new → first + 20 * n + 3 < k → drop k new ≡ drop k old
four_rest costs es n first k old new w past = same_lists (drop k new) (drop k old) (length-drop k new ∙ ap (λ (m : ℕ). m - k) w.long ∙ sym (length-drop k old)) same
  where
    off : (i u s : ℕ) → u < 21 → s < 4 → k + i ≢ first + s + u * n
    off i u s l ls e =
        let most : u * n ≤ 20 * n = times_most u 20 n (omega (arith, l)) in
        absurd (omega (arith, e, most, past, ls))

    same : (i : ℕ) (d : CostPair) → i < length (drop k new) → get_or (drop k new) i d ≡ get_or (drop k old) i d
    same i d l = get_or-drop k new i d ∙ w.others (k + i) d (off i) ∙ sym (get_or-drop k old i d)

pub four_before : (costs es : List (ℕ × ℕ)) (n first k : ℕ) (old new : List CostPair) → WritesWords 0 21 4 costs es n first old new → k < first → (d : CostPair) → slice_index_or new k d ≡ slice_index_or old k d
four_before costs es n first k old new w less d = w.others k d (λ u s l ls e. absurd (omega (arith, e, less)))
