-- The gain at each carrier is close, so each cell is restored.
use Rattle.std.proofs.Common.{◌≡◌, ℕ, ◌+◌, ◌-◌, ◌*◌, ◌<◌, ◌≤◌, ap, refl, sym, ◌∙◌, arith, subst, inl, inr, Bool, true, false, List, get_or}
use Rattle.std.specs.Prelude.{ℤ, pos, ◌+ℤ◌, ◌-ℤ◌, ◌*ℤ◌, neg_ℤ, if◌then◌else◌}
use Rattle.std.proofs.lemmas.Bool.{cases_lt, ne_eqb, eq-eqb}
use Rattle.mode_set.specs.StreamTable.{carriers}
use Rattle.mode_set.specs.declared.modes.Mode.{Mode}
use Rattle.pilots.specs.Reference.{reference}
use Rattle.qam_map.specs.declared.cell.Cell.{Cell}
use Rattle.pilots.specs.Around.{pilot_below, pilot_above, StandsBetween, PilotsAreAround}
use Rattle.cell_equal.specs.Equal.{blank, unturned, at_pilot, between, gain_at, equalised}
use Rattle.cell_equal.specs.declared.gain.Gain.{Gain}
use Rattle.spec_words.proofs.Sizes.{Below, self_below, plus_below, opposite_below, times_below}
use Rattle.law_link.specs.Flat.{IsSent, CameThrough, FlatGainIsRemoved, StrongGainIsRemoved}
use Rattle.spec_words.proofs.Ring.{itself, number, plus, opposite, less, times, same}
use Rattle.law_link.proofs.Estimate.{IsEstimate}
use Rattle.law_link.proofs.OneCell.{restored}

-- the gain is close to that of (a, b)
pub record Tells (a b : ℤ) (g : Gain) : Type 0 where
  pub some : 1 ≤ g.span
  pub near : IsEstimate a b g.span g.re g.im

-- ---- at a pilot
real_part : (w : Bool) (a b r : ℤ) → Below (pos 16384 *ℤ r -ℤ (a *ℤ unturned w (pos 21845) -ℤ b *ℤ pos 0)) 16384 → Below (pos 16384 *ℤ unturned w r -ℤ pos 21845 *ℤ a) 16384
real_part true a b r h =
    let g = number 16384 in let s = number 21845 in let o = number 0 in let a' = itself a in let b' = itself b in let r' = itself r in
    let is : neg_ℤ (pos 16384 *ℤ r -ℤ (a *ℤ neg_ℤ (pos 21845) -ℤ b *ℤ pos 0)) ≡ pos 16384 *ℤ neg_ℤ r -ℤ pos 21845 *ℤ a =
    same (opposite (less (times g r') (less (times a' (opposite s)) (times b' o)))) (less (times g (opposite r')) (times s a')) (omega arith) in
    subst (λ (z : ℤ). Below z 16384) is (opposite_below h)
real_part false a b r h =
    let g = number 16384 in let s = number 21845 in let o = number 0 in let a' = itself a in let b' = itself b in let r' = itself r in
    let is : pos 16384 *ℤ r -ℤ (a *ℤ pos 21845 -ℤ b *ℤ pos 0) ≡ pos 16384 *ℤ r -ℤ pos 21845 *ℤ a =
    same (less (times g r') (less (times a' s) (times b' o))) (less (times g r') (times s a')) (omega arith) in
    subst (λ (z : ℤ). Below z 16384) is h

imaginary_part : (w : Bool) (a b i : ℤ) → Below (pos 16384 *ℤ i -ℤ (a *ℤ pos 0 +ℤ b *ℤ unturned w (pos 21845))) 16384 → Below (pos 16384 *ℤ unturned w i -ℤ pos 21845 *ℤ b) 16384
imaginary_part true a b i h =
    let g = number 16384 in let s = number 21845 in let o = number 0 in let a' = itself a in let b' = itself b in let i' = itself i in
    let is : neg_ℤ (pos 16384 *ℤ i -ℤ (a *ℤ pos 0 +ℤ b *ℤ neg_ℤ (pos 21845))) ≡ pos 16384 *ℤ neg_ℤ i -ℤ pos 21845 *ℤ b =
    same (opposite (less (times g i') (plus (times a' o) (times b' (opposite s))))) (less (times g (opposite i')) (times s b')) (omega arith) in
    subst (λ (z : ℤ). Below z 16384) is (opposite_below h)
imaginary_part false a b i h =
    let g = number 16384 in let s = number 21845 in let o = number 0 in let a' = itself a in let b' = itself b in let i' = itself i in
    let is : pos 16384 *ℤ i -ℤ (a *ℤ pos 0 +ℤ b *ℤ pos 21845) ≡ pos 16384 *ℤ i -ℤ pos 21845 *ℤ b =
    same (less (times g i') (plus (times a' o) (times b' s))) (less (times g i') (times s b')) (omega arith) in
    subst (λ (z : ℤ). Below z 16384) is h

abbrev pilot_cell : ℕ → Cell
pilot_cell k = record { re = unturned (reference k) (pos 21845); im = pos 0 }

tells_at_pilot : (a b : ℤ) (received : List Cell) (p : ℕ) (sent : Cell) → sent ≡ pilot_cell p → CameThrough a b sent (get_or received p blank) → Tells a b (at_pilot received p)
unfolding at_pilot
tells_at_pilot a b received p sent is came =
    let through : CameThrough a b (pilot_cell p) (get_or received p blank) = subst (λ (c : Cell). CameThrough a b c (get_or received p blank)) is came in
    record {
      some = omega arith;
      near = record {
        re = real_part (reference p) a b (get_or received p blank).re (record { below = through.re });
        im = imaginary_part (reference p) a b (get_or received p blank).im (record { below = through.im });
      };
    }

one_span : (received : List Cell) (p : ℕ) → (at_pilot received p).span ≡ 1
unfolding at_pilot
one_span received p = refl

-- ---- on a line between two pilots
on_line : (s t : ℕ) (x y a : ℤ) → Below (pos 16384 *ℤ x -ℤ pos 21845 *ℤ a) 16384 → Below (pos 16384 *ℤ y -ℤ pos 21845 *ℤ a) 16384 → Below (pos 16384 *ℤ (pos t *ℤ x +ℤ pos s *ℤ y) -ℤ pos (21845 * (s + t)) *ℤ a) (16384 * (s + t))
on_line s t x y a h k =
    let g = number 16384 in let c = number 21845 in let s' = number s in let t' = number t in let x' = itself x in let y' = itself y in let a' = itself a in
    let is : pos t *ℤ (pos 16384 *ℤ x -ℤ pos 21845 *ℤ a) +ℤ pos s *ℤ (pos 16384 *ℤ y -ℤ pos 21845 *ℤ a) ≡ pos 16384 *ℤ (pos t *ℤ x +ℤ pos s *ℤ y) -ℤ pos (21845 * (s + t)) *ℤ a =
    same (plus (times t' (less (times g x') (times c a'))) (times s' (less (times g y') (times c a')))) (less (times g (plus (times t' x') (times s' y'))) (times (number (21845 * (s + t))) a')) (omega arith) in
    let all = plus_below (times_below (self_below (pos t)) h) (times_below (self_below (pos s)) k) in
    let enough : t * 16384 + s * 16384 ≡ 16384 * (s + t) = omega arith in
    subst (λ (n : ℕ). Below (pos 16384 *ℤ (pos t *ℤ x +ℤ pos s *ℤ y) -ℤ pos (21845 * (s + t)) *ℤ a) n) enough (subst (λ (z : ℤ). Below z (t * 16384 + s * 16384)) is all)

tells_between : (a b : ℤ) (x y : Gain) (s t : ℕ) → 1 ≤ s + t → x.span ≡ 1 → y.span ≡ 1 → Tells a b x → Tells a b y → Tells a b (between x y s t)
tells_between a b x y s t some ex ey h k =
    let left : IsEstimate a b 1 x.re x.im = subst (λ (n : ℕ). IsEstimate a b n x.re x.im) ex h.near in
    let right : IsEstimate a b 1 y.re y.im = subst (λ (n : ℕ). IsEstimate a b n y.re y.im) ey k.near in
    record { some = some; near = record { re = on_line s t x.re y.re a left.re right.re; im = on_line s t x.im y.im b left.im right.im } }

-- ---- at each carrier
chosen_pilot : (m : Mode) (l : ℕ) (received : List Cell) (k : ℕ) → pilot_below m l k ≡ k → at_pilot received k ≡ gain_at m l received k
unfolding gain_at
chosen_pilot m l received k e =
    ap (at_pilot received) (sym e)
    ∙ ap (λ (t : Bool). if t then at_pilot received (pilot_below m l k) else between (at_pilot received (pilot_below m l k)) (at_pilot received (pilot_above m l k)) (k - pilot_below m l k) (pilot_above m l k - k)) (sym (eq-eqb (pilot_below m l k) k e))

chosen_line : (m : Mode) (l : ℕ) (received : List Cell) (k : ℕ) → (pilot_below m l k ≡ k → ⊥) → between (at_pilot received (pilot_below m l k)) (at_pilot received (pilot_above m l k)) (k - pilot_below m l k) (pilot_above m l k - k) ≡ gain_at m l received k
unfolding gain_at
chosen_line m l received k e =
    ap (λ (t : Bool). if t then at_pilot received (pilot_below m l k) else between (at_pilot received (pilot_below m l k)) (at_pilot received (pilot_above m l k)) (k - pilot_below m l k) (pilot_above m l k - k)) (sym (ne_eqb (pilot_below m l k) k e))

tells : (m : Mode) (l : ℕ) (a b : ℤ) (sent : ℕ → Cell) (received : List Cell) (k : ℕ) → StandsBetween m l k (pilot_below m l k) (pilot_above m l k) → IsSent m l sent → k < carriers m
    → ((k : ℕ) → k < carriers m → CameThrough a b (sent k) (get_or received k blank)) → Tells a b (gain_at m l received k)
tells m l a b sent received k around is few came =
    let p = pilot_below m l k in
    let q = pilot_above m l k in
    let p_few : p < carriers m = omega (arith, around.below, few) in
    let left : Tells a b (at_pilot received p) = tells_at_pilot a b received p (sent p) (is.pilots p p_few around.left) (came p p_few) in
    let right : Tells a b (at_pilot received q) = tells_at_pilot a b received q (sent q) (is.pilots q around.within around.right) (came q around.within) in
    elim (cases_lt p k) [
      | inl lt ↦
          let line : Tells a b (between (at_pilot received p) (at_pilot received q) (k - p) (q - k)) = tells_between a b (at_pilot received p) (at_pilot received q) (k - p) (q - k) (omega (arith, lt)) (one_span received p) (one_span received q) left right in
          subst (Tells a b) (chosen_line m l received k (λ e. omega (arith, e, lt))) line
      | inr ge ↦
          let e : p ≡ k = omega (arith, ge, around.below) in
          let here : Tells a b (at_pilot received k) = subst (λ (z : ℕ). Tells a b (at_pilot received z)) e left in
          subst (Tells a b) (chosen_pilot m l received k e) here
    ]

pub removed : PilotsAreAround → StrongGainIsRemoved
unfolding equalised
removed all m l a b sent received weights strong is come k few =
    let t = tells m l a b sent received k (all m l k few) is few come.cells in
    restored (gain_at m l received k) a b (sent k) (get_or received k blank) (get_or weights k 0) t.some (come.counts k few) strong (is.cells k few) t.near (come.cells k few)

-- what is within 17 is within 64
pub weakened : StrongGainIsRemoved → FlatGainIsRemoved
weakened law m l a b sent received weights flat is come k few =
    let near = law m l a b sent received weights flat.least is come k few in
    record { re = omega (arith, near.re); im = omega (arith, near.im); weight = near.weight }
