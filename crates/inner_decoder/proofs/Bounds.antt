-- Sums never wrap: bounds from the start of a part and its steps.
use Rattle.std.proofs.Common.{◌≡◌, ℕ, zero, suc, ◌+◌, ◌-◌, ◌*◌, ◌/◌, ◌%◌, ◌^◌, ◌<◌, ◌≤◌, Bool, true, List, ◌⊎◌, inl, inr, refl, sym, ap, ap₂, ◌∙◌, arith, eqb, lit<, mod-eq_of_lt, take, length-take}
use Rattle.std.proofs.lemmas.Bool.{agree_below_at, cases_lt, or_left}
use Rattle.std.specs.Prelude.{slice_index, IsTrue}
use Rattle.std.specs.declared.option.Option.{Option}
use Rattle.std.specs.declared.option.Option.TheVariants.{None, Some}
use Rattle.code_paths.specs.declared.costs.CostPair.{CostPair}
use Rattle.code_paths.specs.Paths.{LeastTo}
use Rattle.code_paths.specs.States.{register, even_of}
use Rattle.code_paths.proofs.Registers.{register_from}
use Rattle.acs_plain.specs.declared.sums.Sums.{Sums}
use Rattle.acs_plain.specs.Steps.{alive, IsStep}
use Rattle.acs_plain.specs.Spread.{IsSpread}
use Rattle.acs_plain.proofs.Spread.{lives_next, close_next}
use Rattle.inner_decoder.specs.Metrics.{NeverWrap}

-- a part begins with all registers or with one
abbrev pub IsBegun : Option (List Bool) → Type 0
IsBegun b = (b ≡ None) ⊎ ((r : ℕ) × (r < 64) × (b ≡ Some (register r)))

pub begun : (b : Option (List Bool)) (d : List CostPair) (e p : List Bool) → LeastTo b d e p → IsBegun b
begun None d e p h = inl refl
begun (Some w) d e p h =
    let r = register_from (take 6 p) (omega (arith, length-take 6 p, h.path.long)) in
    inr (r.number, r.below, ap Some (sym (r.is ∙ h.path.start)))

left_small : (j r : ℕ) → j < 6 → r < 64 → r / 2 ^ j < 2 ^ (6 - j)
left_small zero r h l = omega arith
left_small (suc zero) r h l = omega arith
left_small (suc (suc zero)) r h l = omega arith
left_small (suc (suc (suc zero))) r h l = omega arith
left_small (suc (suc (suc (suc zero)))) r h l = omega arith
left_small (suc (suc (suc (suc (suc zero))))) r h l = omega arith
left_small (suc (suc (suc (suc (suc (suc j)))))) r h l = absurd (omega arith)

next_left : (j r n : ℕ) → j < 6 → eqb (n % 2 ^ (6 - j - 1)) (r / 2 ^ j / 2) ≡ eqb (n % 2 ^ (6 - (j + 1))) (r / 2 ^ (j + 1))
next_left zero r n h = ap (eqb (n % 32)) (omega arith)
next_left (suc zero) r n h = ap (eqb (n % 16)) (omega arith)
next_left (suc (suc zero)) r n h = ap (eqb (n % 8)) (omega arith)
next_left (suc (suc (suc zero))) r n h = ap (eqb (n % 4)) (omega arith)
next_left (suc (suc (suc (suc zero)))) r n h = ap (eqb (n % 2)) (omega arith)
next_left (suc (suc (suc (suc (suc zero))))) r n h = ap (eqb (n % 1)) (omega arith)
next_left (suc (suc (suc (suc (suc (suc j)))))) r n h = absurd (omega arith)

none_left : (j r n : ℕ) → j ≡ 5 → r < 64 → eqb (n % 2 ^ (6 - j - 1)) (r / 2 ^ j / 2) ≡ true
none_left j r n e l = rw e (let a : n % 1 ≡ 0 = omega arith in let b : r / 32 / 2 ≡ 0 = omega arith in ap₂ eqb a b)

spread_all : (sums : Sums) → ((n : ℕ) → n < 64 → IsTrue (alive sums n)) → ((k : ℕ) → k ≤ 6 → (m n : ℕ) → m < 64 → n < 64 → IsTrue (alive sums m) → IsTrue (alive sums n) → m % 2 ^ (6 - k) ≡ n % 2 ^ (6 - k) → slice_index sums.cost m ≤ slice_index sums.cost n + 8190 * k) → IsSpread sums
spread_all sums f c = record { fixed = 0; start = 0; few = lit< tt; small = lit< tt; lives = λ n l. f n l ∙ agree_below_at (λ n. true) (λ n. eqb (n % 1) 0) 64 n refl l; close = c }

module _ (b : Option (List Bool)) (j : ℕ) (old : Sums) (h : NeverWrap b j old) where
  abbrev spread_early : (r : ℕ) → r < 64 → b ≡ Some (register r) → j < 6 → IsSpread old
  spread_early r l e k = record { fixed = 6 - j; start = r / 2 ^ j; few = omega arith; small = left_small j r k l; lives = h.early r l e k; close = h.close }

  spread_begun : IsBegun b → IsSpread old
  spread_begun (inl e) = spread_all old (h.free e) h.close
  spread_begun (inr s) = go (cases_lt j 6)
    where
      go : (j < 6) ⊎ (6 ≤ j) → IsSpread old
      go (inl k) = spread_early s.0 s.1 s.2 k
      go (inr k) = spread_all old (h.later k) h.close

  module _ (x : CostPair) (new : Sums) (answer : ℕ) (s : IsStep old x new answer) where
    all_next : ((n : ℕ) → n < 64 → IsTrue (alive old n)) → (n : ℕ) → n < 64 → IsTrue (alive new n)
    all_next f n i = s.lives n i ∙ or_left _ _ (f (even_of n) (omega arith))

    later_next : IsBegun b → 6 ≤ j + 1 → (n : ℕ) → n < 64 → IsTrue (alive new n)
    later_next (inl e) k n i = all_next (h.free e) n i
    later_next (inr q) k n i = go (cases_lt j 6)
      where
        go : (j < 6) ⊎ (6 ≤ j) → IsTrue (alive new n)
        go (inl l) = lives_next old x new answer (spread_early q.0 q.1 q.2 l) s n i ∙ none_left j q.0 n (omega arith) q.1
        go (inr l) = all_next (h.later l) n i

    pub bounded_step : IsBegun b → NeverWrap b (j + 1) new
    bounded_step q = record {
      early = λ r l e k n i. lives_next old x new answer (spread_early r l e (omega arith)) s n i ∙ next_left j r n (omega arith);
      later = later_next q;
      free = λ e. all_next (h.free e);
      close = close_next old x new answer (spread_begun q) s;
    }

pub bounded_all : (sums : Sums) → ((n : ℕ) → n < 64 → IsTrue (alive sums n)) → ((n : ℕ) → n < 64 → slice_index sums.cost n ≡ 0) → NeverWrap None 0 sums
bounded_all sums f z = record {
  early = λ r l e k n i. absurd (let u : None ≡ Some (register r) = e in cc);
  later = λ k. absurd (omega arith);
  free = λ e. f;
  close = λ k w m n i j t u e. omega (arith, z m i);
}

pub bounded_one : (e : ℕ) (sums : Sums) → e < 64 → ((r : ℕ) → r < 64 → register e ≡ register r → e ≡ r) → ((n : ℕ) → n < 64 → alive sums n ≡ eqb n e) → ((n : ℕ) → n < 64 → IsTrue (alive sums n) → n ≡ e) → NeverWrap (Some (register e)) 0 sums
bounded_one e sums l same lives only = record {
  early = λ r q o k n i. lives n i ∙ ap₂ eqb (sym (mod-eq_of_lt i)) (same r q (let u : Some (register e) ≡ Some (register r) = o in cc) ∙ omega arith);
  later = λ k. absurd (omega arith);
  free = λ o. absurd (let u : Some (register e) ≡ None = o in cc);
  close = λ k w m n i j t u f. let q : m ≡ n = only m i t ∙ sym (only n j u) in omega (arith, ap (λ z. slice_index sums.cost z) q);
}
