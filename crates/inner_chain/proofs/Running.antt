-- Entries in runs, and pairs written word by word of a run.
use Rattle.std.proofs.Common.{◌≡◌, ◌≢◌, ℕ, ◌+◌, ◌-◌, ◌*◌, ◌/◌, ◌%◌, ◌<◌, ◌≤◌, ◌⊎◌, inl, inr, List, length, drop, get_or, sym, ap, ◌∙◌, subst, arith}
use Rattle.std.specs.Prelude.{slice_index, slice_index_or, slice_set}
use Rattle.std.proofs.lemmas.Bool.{cases_lt}
use Rattle.std.proofs.lemmas.List.{get_or-drop, get_or-set_same, get_or-set_other, length-drop, same_lists}
use Rattle.std.proofs.lemmas.Nat.{div-add-mod', mod_below, mod-mul-add}
use Rattle.std.proofs.Math.Nat.{div-lt_iff_lt-mul, mul-le-mul_right}
use Rattle.code_paths.specs.declared.costs.CostPair.{CostPair}
use Rattle.inner_chain.specs.CostTables.{AreInRuns, Follows, IsPairAt, IsRead, IsRoom, pair_at}
use Rattle.inner_chain.specs.StepPairs.{WritesSteps}

-- ---- amounts
pub times_most : (a b n : ℕ) → a ≤ b → a * n ≤ b * n
times_most a b n l = mul-le-mul_right n l

-- a lower word ends before a higher one begins
pub words_apart : (u w n : ℕ) → u < w → u * n + n ≤ w * n
words_apart u w n l =
    let whole : (u + 1) * n ≤ w * n = mul-le-mul_right n (omega (arith, l)) in
    omega (arith, whole)

-- the same step is written where the same place is
pub same_step : (n u s w z : ℕ) → s < n → z < n → s + u * n ≡ z + w * n → s ≡ z
same_step n u s w z ls lz e =
    let here : u * n + s ≡ w * n + z = omega (arith, e) in
    sym (mod-mul-add u n s ls) ∙ ap (λ (y : ℕ). y % n) here ∙ mod-mul-add w n z lz

-- ---- the pairs of a run, word by word
pub pair_put : (costs : List (ℕ × ℕ)) (x y first n w at : ℕ) (list : List CostPair) (c : CostPair) → at ≡ first + w * n → 0 < n → at < length list → IsPairAt costs (x + w) (y + w) c
    → ((u : ℕ) (d : CostPair) → u < w → IsPairAt costs (x + u) (y + u) (slice_index_or list (first + u * n) d))
    → (u : ℕ) (d : CostPair) → u < w + 1 → IsPairAt costs (x + u) (y + u) (slice_index_or (slice_set list at c) (first + u * n) d)
pair_put costs x y first n w at list c place some within read all u d m = go (cases_lt u w)
  where
    go : (u < w) ⊎ (w ≤ u) → IsPairAt costs (x + u) (y + u) (slice_index_or (slice_set list at c) (first + u * n) d)
    go (inl less) =
        let other : first + u * n ≢ at = λ same. absurd (omega (arith, words_apart u w n less, same, place, some)) in
        subst (IsPairAt costs (x + u) (y + u)) (sym (get_or-set_other list at (first + u * n) c d other)) (all u d less)
    go (inr more) =
        let same : w ≡ u = omega (arith, m, more) in
        subst (λ (z : ℕ). IsPairAt costs (x + z) (y + z) (slice_index_or (slice_set list at c) (first + z * n) d)) same
        (subst (λ (i : ℕ). IsPairAt costs (x + w) (y + w) (slice_index_or (slice_set list at c) i d)) place (subst (IsPairAt costs (x + w) (y + w)) (sym (get_or-set_same list at c d within)) read))

pub others_put : (first n w at : ℕ) (list old : List CostPair) (c : CostPair) → at ≡ first + w * n
    → ((k : ℕ) (d : CostPair) → ((u : ℕ) → u < w → k ≢ first + u * n) → slice_index_or list k d ≡ slice_index_or old k d)
    → (k : ℕ) (d : CostPair) → ((u : ℕ) → u < w + 1 → k ≢ first + u * n) → slice_index_or (slice_set list at c) k d ≡ slice_index_or old k d
others_put first n w at list old c place kept k d off =
    get_or-set_other list at k c d (λ same. off w (omega arith) (same ∙ place)) ∙ kept k d (λ u l. off u (omega (arith, l)))

-- ---- the steps of a run
abbrev pub AreWords : List (ℕ × ℕ) → List ℕ → ℕ → ℕ → ℕ → ℕ → List CostPair → Type 0
AreWords costs entries n start first steps list = (u s : ℕ) (d : CostPair) → u < 21 → s < steps
    → IsPairAt costs (slice_index entries (2 * (start + s)) + u) (slice_index entries (2 * (start + s) + 1) + u) (slice_index_or list (first + s + u * n) d)

pub step_put : (costs : List (ℕ × ℕ)) (entries : List ℕ) (n start first step : ℕ) (old new : List CostPair) → step < n → AreWords costs entries n start first step old
    → ((u : ℕ) (d : CostPair) → u < 21 → IsPairAt costs (slice_index entries (2 * (start + step)) + u) (slice_index entries (2 * (start + step) + 1) + u) (slice_index_or new (first + step + u * n) d))
    → ((k : ℕ) (d : CostPair) → ((u : ℕ) → u < 21 → k ≢ first + step + u * n) → slice_index_or new k d ≡ slice_index_or old k d)
    → AreWords costs entries n start first (step + 1) new
step_put costs entries n start first step old new low all here others u s d lu ls = go (cases_lt s step)
  where
    go : (s < step) ⊎ (step ≤ s) → IsPairAt costs (slice_index entries (2 * (start + s)) + u) (slice_index entries (2 * (start + s) + 1) + u) (slice_index_or new (first + s + u * n) d)
    go (inl less) = subst (IsPairAt costs (slice_index entries (2 * (start + s)) + u) (slice_index entries (2 * (start + s) + 1) + u)) (sym (others (first + s + u * n) d off)) (all u s d lu less)
      where
        off : (w : ℕ) → w < 21 → first + s + u * n ≢ first + step + w * n
        off w lw same =
            let meet : s + u * n ≡ step + w * n = omega (arith, same) in
            absurd (omega (arith, less, same_step n u s w step (omega (arith, less, low)) low meet))
    go (inr more) =
        let same : step ≡ s = omega (arith, ls, more) in
        subst (λ (z : ℕ). IsPairAt costs (slice_index entries (2 * (start + z)) + u) (slice_index entries (2 * (start + z) + 1) + u) (slice_index_or new (first + z + u * n) d)) same (here u d lu)

-- the last step
pub last_put : (costs : List (ℕ × ℕ)) (entries : List ℕ) (n start first written step x y : ℕ) (old new : List CostPair) → written ≡ step → step + 1 ≡ n → x ≡ slice_index entries (2 * (start + step)) → y ≡ slice_index entries (2 * (start + step) + 1)
    → AreWords costs entries n start first written old → ((u : ℕ) (d : CostPair) → u < 21 → IsPairAt costs (x + u) (y + u) (slice_index_or new (first + step + u * n) d))
    → ((k : ℕ) (d : CostPair) → ((u : ℕ) → u < 21 → k ≢ first + step + u * n) → slice_index_or new k d ≡ slice_index_or old k d) → AreWords costs entries n start first n new
last_put costs entries n start first written step x y old new all_but last ex ey all here others =
    subst (λ (m : ℕ). AreWords costs entries n start first m new) last
    (step_put costs entries n start first step old new (omega (arith, last)) (subst (λ (m : ℕ). AreWords costs entries n start first m old) all_but all)
    (λ u d l. subst (λ (z : ℕ). IsPairAt costs (slice_index entries (2 * (start + step)) + u) (z + u) (slice_index_or new (first + step + u * n) d)) ey (subst (λ (z : ℕ). IsPairAt costs (z + u) (y + u) (slice_index_or new (first + step + u * n) d)) ex (here u d l))) others)

pub steps_put : (costs : List (ℕ × ℕ)) (entries : List ℕ) (n start first step : ℕ) (here next : ℕ × ℕ) (old new : List CostPair) → step + 1 < n
    → here.0 ≡ slice_index entries (2 * (start + step)) → here.1 ≡ slice_index entries (2 * (start + step) + 1) → next.0 ≡ slice_index entries (2 * (start + step + 1)) → next.1 ≡ slice_index entries (2 * (start + step + 1) + 1)
    → AreWords costs entries n start first step old → WritesSteps 21 costs here next n (first + step) old new → AreWords costs entries n start first (step + 2) new
steps_put costs entries n start first step here next old new low hx hy nx ny all w u s d lu ls = go (cases_lt s step)
  where
    x_at : ℕ → ℕ
    x_at s = slice_index entries (2 * (start + s))

    y_at : ℕ → ℕ
    y_at s = slice_index entries (2 * (start + s) + 1)

    later : (step ≤ s) → (s < step + 1) ⊎ (step + 1 ≤ s) → IsPairAt costs (x_at s + u) (y_at s + u) (slice_index_or new (first + s + u * n) d)
    later more (inl less) =
        let same : step ≡ s = omega (arith, less, more) in
        subst (λ (z : ℕ). IsPairAt costs (x_at z + u) (y_at z + u) (slice_index_or new (first + z + u * n) d)) same
        (subst (λ (z : ℕ). IsPairAt costs (x_at step + u) (z + u) (slice_index_or new (first + step + u * n) d)) hy
        (subst (λ (z : ℕ). IsPairAt costs (z + u) (here.1 + u) (slice_index_or new (first + step + u * n) d)) hx (w.of_here u d lu)))
    later more (inr past) =
        let same : step + 1 ≡ s = omega (arith, ls, past) in
        let from : start + step + 1 ≡ start + s = omega (arith, same) in
        let place : first + step + u * n + 1 ≡ first + s + u * n = omega (arith, same) in
        let x_is : next.0 ≡ x_at s = nx ∙ ap (λ (z : ℕ). slice_index entries (2 * z)) from in
        let y_is : next.1 ≡ y_at s = ny ∙ ap (λ (z : ℕ). slice_index entries (2 * z + 1)) from in
        subst (λ (z : ℕ). IsPairAt costs (x_at s + u) (z + u) (slice_index_or new (first + s + u * n) d)) y_is
        (subst (λ (z : ℕ). IsPairAt costs (z + u) (next.1 + u) (slice_index_or new (first + s + u * n) d)) x_is
        (subst (λ (z : ℕ). IsPairAt costs (next.0 + u) (next.1 + u) (slice_index_or new z d)) place (w.of_next u d lu)))

    go : (s < step) ⊎ (step ≤ s) → IsPairAt costs (x_at s + u) (y_at s + u) (slice_index_or new (first + s + u * n) d)
    go (inl less) = subst (IsPairAt costs (x_at s + u) (y_at s + u)) (sym (w.others (first + s + u * n) d off)) (all u s d lu less)
      where
        off : (v : ℕ) → v < 21 → (first + s + u * n ≢ first + step + v * n) × (first + s + u * n ≢ first + step + v * n + 1)
        off v lv = (
          λ e. let meet : s + u * n ≡ step + v * n = omega (arith, e) in absurd (omega (arith, less, same_step n u s v step (omega (arith, less, low)) (omega (arith, low)) meet)),
          λ e. let meet : s + u * n ≡ step + 1 + v * n = omega (arith, e) in absurd (omega (arith, less, same_step n u s v (step + 1) (omega (arith, less, low)) low meet)),
        )
    go (inr more) = later more (cases_lt s (step + 1))

-- what stands past the last pair stays
pub two_rest : (costs : List (ℕ × ℕ)) (n first k : ℕ) (here next : ℕ × ℕ) (old new : List CostPair) → WritesSteps 21 costs here next n first old new → first + 20 * n + 1 < k → drop k new ≡ drop k old
two_rest costs n first k here next old new w past = same_lists (drop k new) (drop k old) (length-drop k new ∙ ap (λ (m : ℕ). m - k) w.long ∙ sym (length-drop k old)) same
  where
    off : (i u : ℕ) → u < 21 → (k + i ≢ first + u * n) × (k + i ≢ first + u * n + 1)
    off i u l =
        let most : u * n ≤ 20 * n = times_most u 20 n (omega (arith, l)) in
        (λ e. absurd (omega (arith, e, most, past)), λ e. absurd (omega (arith, e, most, past)))

    same : (i : ℕ) (d : CostPair) → i < length (drop k new) → get_or (drop k new) i d ≡ get_or (drop k old) i d
    same i d l = get_or-drop k new i d ∙ w.others (k + i) d (off i) ∙ sym (get_or-drop k old i d)

pub two_before : (costs : List (ℕ × ℕ)) (n first k : ℕ) (here next : ℕ × ℕ) (old new : List CostPair) → WritesSteps 21 costs here next n first old new → k < first → (d : CostPair) → slice_index_or new k d ≡ slice_index_or old k d
two_before costs n first k here next old new w less d = w.others k d (λ u l. (λ e. absurd (omega (arith, e, less)), λ e. absurd (omega (arith, e, less))))

-- ---- the runs of a block
follows_read : (costs : List (ℕ × ℕ)) (a u b : ℕ) → IsRoom costs → Follows a u b → pair_at costs (a + u) ≡ pair_at costs b
follows_read costs a u b room (inl e) = ap (pair_at costs) (sym e)
follows_read costs a u b room (inr none) = room.last (a + u) (omega (arith, none.0)) ∙ sym (room.last b (omega (arith, none.1)))

-- the entries of step s of word u of run r follow those of the run's first word
run_follows : (entries : List ℕ) (n r u s z start t : ℕ) → AreInRuns n entries → r < 12 → u < 21 → s < n → z < 2 → start ≡ 21 * r * n → t ≡ start + s + u * n
    → Follows (slice_index entries (2 * (start + s) + z)) u (slice_index entries (2 * t + z))
run_follows entries n r u s z start t a lr lu ls lz es et =
    let from : 2 * (21 * r * n) + (2 * s + z) ≡ 2 * (start + s) + z = omega (arith, es) in
    let to : 2 * ((21 * r + u) * n) + (2 * s + z) ≡ 2 * t + z = omega (arith, es, et) in
    subst (λ (i : ℕ). Follows (slice_index entries i) u (slice_index entries (2 * t + z))) from
    (subst (λ (i : ℕ). Follows (slice_index entries (2 * (21 * r * n) + (2 * s + z))) u (slice_index entries i)) to (a.at r u lr lu (2 * s + z) (omega (arith, ls, lz))))

run_read : (costs : List (ℕ × ℕ)) (entries : List ℕ) (n r u s start t : ℕ) (c : CostPair) → AreInRuns n entries → IsRoom costs → r < 12 → u < 21 → s < n → start ≡ 21 * r * n → t ≡ start + s + u * n
    → IsPairAt costs (slice_index entries (2 * (start + s)) + u) (slice_index entries (2 * (start + s) + 1) + u) c → IsRead costs entries t c
run_read costs entries n r u s start t c a room lr lu ls es et p =
    let x_entry : 2 * (start + s) + 0 ≡ 2 * (start + s) = omega arith in
    let x_step : 2 * t + 0 ≡ 2 * t = omega arith in
    record {
      x = p.x_is ∙ ap (λ (i : ℕ). pair_at costs (slice_index entries i + u)) (sym x_entry)
          ∙ follows_read costs (slice_index entries (2 * (start + s) + 0)) u (slice_index entries (2 * t + 0)) room (run_follows entries n r u s 0 start t a lr lu ls (omega arith) es et) ∙ ap (λ (i : ℕ). pair_at costs (slice_index entries i)) x_step;
      y = p.y_is ∙ follows_read costs (slice_index entries (2 * (start + s) + 1)) u (slice_index entries (2 * t + 1)) room (run_follows entries n r u s 1 start t a lr lu ls (omega arith) es et);
    }

pub run_more : (costs : List (ℕ × ℕ)) (entries : List ℕ) (n r start first : ℕ) (old new : List CostPair) → AreInRuns n entries → IsRoom costs → r < 12 → start ≡ 21 * r * n
    → ((t : ℕ) (d : CostPair) → t < start → IsRead costs entries t (slice_index_or old (first + t) d)) → AreWords costs entries n start (first + start) n new
    → ((k : ℕ) (d : CostPair) → k < first + start → slice_index_or new k d ≡ slice_index_or old k d)
    → (t : ℕ) (d : CostPair) → t < 21 * (r + 1) * n → IsRead costs entries t (slice_index_or new (first + t) d)
run_more costs entries n r start first old new a room lr es all words before t d m = go (cases_lt t start)
  where
    go : (t < start) ⊎ (start ≤ t) → IsRead costs entries t (slice_index_or new (first + t) d)
    go (inl less) = subst (IsRead costs entries t) (sym (before (first + t) d (omega (arith, less)))) (all t d less)
    go (inr more) =
        let v = t - start in
        let low : v < 21 * n = omega (arith, m, es, more) in
        let some : 0 < n = omega (arith, low) in
        let u = v / n in
        let s = v % n in
        let parts : u * n + s ≡ v = div-add-mod' v n in
        let lu : u < 21 = (div-lt_iff_lt-mul some).1 low in
        let ls : s < n = mod_below v n some in
        let number : t ≡ start + s + u * n = omega (arith, parts, more) in
        let place : first + start + s + u * n ≡ first + t = omega (arith, number) in
        run_read costs entries n r u s start t (slice_index_or new (first + t) d) a room lr lu ls es number
        (subst (λ (i : ℕ). IsPairAt costs (slice_index entries (2 * (start + s)) + u) (slice_index entries (2 * (start + s) + 1) + u) (slice_index_or new i d)) place (words u s d lu ls))
