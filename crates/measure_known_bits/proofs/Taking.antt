-- Bits that are taken from the front of a list.
use Rattle.std.proofs.Common.{◌≡◌, ℕ, zero, suc, ◌+◌, ◌-◌, ◌≤◌, ◌≢◌, Bool, List, [], ◌∷◌, ◌++◌, length, take, drop, refl, sym, ap, ap₂, ◌∙◌, arith, append_assoc, length-append, length-drop, length-take-le}
use Rattle.std.proofs.lemmas.List.FromFn.{length-map-range_with_len}
use Rattle.puncture.specs.SentBits.{bits_from}
use Rattle.mode_set.specs.declared.modes.Stream.{Stream}
use Rattle.inner_chain.specs.Labels.{TxState, from_step, register_of}
use Rattle.measure_known_bits.specs.Passing.{Skips}

-- bits of a path from a step on
pub bits_from_step : (path : ℕ → Bool) (n t u k : ℕ) → n + t ≡ u → bits_from (from_step path n) t k ≡ bits_from path u k
bits_from_step path n t u zero e = refl
bits_from_step path n t u (suc k) e =
    let next : n + (t + 1) ≡ u + 1 = omega (arith, e) in
    ap (λ (z : Bool). z ∷ bits_from (from_step path n) (t + 1) k) (ap path e) ∙ ap (λ (z : List Bool). path u ∷ z) (bits_from_step path n (t + 1) (u + 1) k next)

-- some more bits of a list
take_none : (j : ℕ) → take {A = Bool} j [] ≡ []
take_none zero = refl
take_none (suc j) = refl

drop_none : (j : ℕ) → drop {A = Bool} j [] ≡ []
drop_none zero = refl
drop_none (suc j) = refl

pub take_more : (w : List Bool) (n j m : ℕ) → n + j ≡ m → take m w ≡ take n w ++ take j (drop n w)
take_more w zero j m e = let same : m ≡ j = omega (arith, e) in ap (λ (z : ℕ). take z w) same
take_more w (suc n) j zero e = absurd (omega (arith, e))
take_more [] (suc n) j (suc m) e = sym (take_none j)
take_more (x ∷ w) (suc n) j (suc m) e = ap (λ (z : List Bool). x ∷ z) (take_more w n j m (omega (arith, e)))

drop_more : (w : List Bool) (n j m : ℕ) → n + j ≡ m → drop j (drop n w) ≡ drop m w
drop_more w zero j m e = let same : j ≡ m = omega (arith, e) in ap (λ (z : ℕ). drop z w) same
drop_more w (suc n) j zero e = absurd (omega (arith, e))
drop_more [] (suc n) j (suc m) e = drop_none j
drop_more (x ∷ w) (suc n) j (suc m) e = drop_more w n j m (omega (arith, e))

-- k steps of j bits
pub moved_more : (w to from more : List Bool) (n j m : ℕ) → n + j ≡ m → from ≡ drop n w → more ≡ (to ++ take n w) ++ take j from → more ≡ to ++ take m w
moved_more w to from more n j m e f h =
    h ∙ append_assoc to (take n w) (take j from) ∙ ap (λ (z : List Bool). to ++ (take n w ++ take j z)) f ∙ ap (λ (z : List Bool). to ++ z) (sym (take_more w n j m e))

pub left_more : (w from new : List Bool) (n j m : ℕ) → n + j ≡ m → from ≡ drop n w → new ≡ drop j from → new ≡ drop m w
left_more w from new n j m e f h = h ∙ ap (drop j) f ∙ drop_more w n j m e

-- ---- the encoder

pub record SkipsTo (old new : List Bool) (stream : Stream) (before after : TxState) (n : ℕ) : Type 0 where
  pub settings : after.settings ≡ before.settings
  pub skips : Skips old new (register_of before stream) (register_of after stream) n
  pub other : (σ : Stream) → σ ≢ stream → register_of after σ ≡ register_of before σ

pub skips_none : (w : List Bool) (stream : Stream) (coder : TxState) → SkipsTo w w stream coder coder 0
skips_none w stream coder = record {
  settings = refl;
  skips = record { waiting = refl; register = λ path t e h. let same : t ≡ t + 0 = omega arith in e ∙ ap (λ (z : ℕ). bits_from path z 6) same };
  other = λ σ n. refl;
}

bits_more : (path : ℕ → Bool) (t n j m u : ℕ) → n + j ≡ m → t + n ≡ u → bits_from path t m ≡ bits_from path t n ++ bits_from path u j
bits_more path t zero j m u e f =
    let same : m ≡ j = omega (arith, e) in
    let there : t ≡ u = omega (arith, f) in
    ap₂ (λ (x y : ℕ). bits_from path x y) there same
bits_more path t (suc n) j zero u e f = absurd (omega (arith, e))
bits_more path t (suc n) j (suc m) u e f = ap (λ (z : List Bool). path t ∷ z) (bits_more path (t + 1) n j m u (omega (arith, e)) (omega (arith, f)))

-- the parts of equal lists
parts : (a b c d : List Bool) → length a ≡ length c → a ++ b ≡ c ++ d → (a ≡ c) × (b ≡ d)
parts [] b [] d l e = (refl, e)
parts [] b (x ∷ c) d l e = absurd (omega (arith, l))
parts (x ∷ a) b [] d l e = absurd (omega (arith, l))
parts (x ∷ a) b (y ∷ c) d l e =
    let l2 : length a ≡ length c = omega (arith, l) in
    let h : x ≡ y = cc in
    let rest : a ++ b ≡ c ++ d = cc in
    let p = parts a b c d l2 rest in
    (ap₂ (λ (z : Bool) (zs : List Bool). z ∷ zs) h p.0, p.1)

-- one bit more
pub bit_skipped : (w rest before after : List Bool) (bit : Bool) → w ≡ bit ∷ rest
    → ((path : ℕ → Bool) → before ≡ bits_from path 0 6 → path 6 ≡ bit → after ≡ bits_from (from_step path 1) 0 6) → Skips w rest before after 1
bit_skipped w rest before after bit is next = record {
  waiting = sym (ap (drop 1) is);
  register = λ path t e h.
      let zero_more : t + 0 ≡ t = omega arith in
      let one_more : 1 + 0 ≡ 1 = omega arith in
      let first : bit ∷ [] ≡ path (t + 6) ∷ [] = sym (ap (take 1) is) ∙ h in
      let here : path (t + 6) ≡ bit = cc in
      next (from_step path t) (e ∙ sym (bits_from_step path t 0 t 6 zero_more)) here
      ∙ bits_from_step (from_step path t) 1 0 1 6 one_more ∙ bits_from_step path t 1 (t + 1) 6 refl;
}

skips_one : (w mid new before between after : List Bool) (n : ℕ) → n + 1 ≤ length w → Skips w mid before between n → Skips mid new between after 1 → Skips w new before after (n + 1)
skips_one w mid new before between after n l h s = record {
  waiting = left_more w mid new n 1 (n + 1) refl h.waiting s.waiting;
  register = λ path t e taken.
      let long : length (take n w) ≡ length (bits_from path (t + 6) n) = length-take-le n w (omega (arith, l)) ∙ sym (length-map-range_with_len path (t + 6) n) in
      let p = parts (take n w) (take 1 (drop n w)) (bits_from path (t + 6) n) (bits_from path (t + 6 + n) 1) long (sym (take_more w n 1 (n + 1) refl) ∙ taken ∙ bits_more path (t + 6) n 1 (n + 1) (t + 6 + n) refl refl) in
      let there : t + 6 + n ≡ t + n + 6 = omega arith in
      let on : t + n + 1 ≡ t + (n + 1) = omega arith in
      s.register path (t + n) (h.register path t e p.0) (ap (take 1) h.waiting ∙ p.1 ∙ ap (λ (z : ℕ). bits_from path z 1) there) ∙ ap (λ (z : ℕ). bits_from path z 6) on;
}

pub skips_more : (w mid new : List Bool) (stream : Stream) (coder between after : TxState) (n : ℕ) → n + 1 ≤ length w → SkipsTo w mid stream coder between n
    → after.settings ≡ between.settings → Skips mid new (register_of between stream) (register_of after stream) 1 → ((σ : Stream) → σ ≢ stream → register_of after σ ≡ register_of between σ)
    → SkipsTo w new stream coder after (n + 1)
skips_more w mid new stream coder between after n l h e s o = record {
  settings = e ∙ h.settings;
  skips = skips_one w mid new _ _ _ n l h.skips s;
  other = λ σ d. o σ d ∙ h.other σ d;
}

-- how many bits are left and were moved
pub left_long : (w from : List Bool) (n : ℕ) → from ≡ drop n w → length from ≡ length w - n
left_long w from n e = ap length e ∙ length-drop n w

pub moved_long : (w to more : List Bool) (n : ℕ) → n ≤ length w → more ≡ to ++ take n w → length more ≡ length to + n
moved_long w to more n l e = ap length e ∙ length-append to (take n w) ∙ ap (λ (z : ℕ). length to + z) (length-take-le n w l)
