-- The marks of lanes as bytes.
use Rattle.std.proofs.Common.{◌≡◌, ℕ, zero, suc, ◌+◌, ◌-◌, ◌*◌, ◌/◌, ◌%◌, ◌<◌, ◌≤◌, Bool, true, false, cond, List, [], ◌∷◌, ◌++◌, map, length, get_or, ◌⊎◌, inl, inr, refl, ap, ◌∙◌, arith, eqb}
use Rattle.std.proofs.lemmas.Bool.{cases_lt}
use Rattle.std.proofs.lemmas.List.{get_or_append_left, get_or-append_right}
use Rattle.std.specs.Prelude.{slice_index}
use Rattle.acs_lanes.specs.Lanes16.{AreMarks}
use Rattle.acs_lanes.specs.Phases.{by_halves, byte_of}
use Rattle.acs_lanes.proofs.Laid.{at_range}

pub holds_at : (f : ℕ → Bool) (xs : List ℕ) (k : ℕ) → k < length xs → get_or (map f xs) k false ≡ f (get_or xs k 0)
holds_at f [] k l = absurd (omega arith)
holds_at f (x ∷ xs) zero l = refl
holds_at f (x ∷ xs) (suc k) l = holds_at f xs k (omega arith)

pub one : (b : Bool) → eqb (cond b 1 0) 1 ≡ b
one true = refl
one false = refl

module _ (first last : List ℕ) (is_odd : ℕ → Bool) (m : AreMarks first last is_odd) where
  mark_at : (w : ℕ) → w < 32 → slice_index (first ++ last) w ≡ cond (is_odd w) 0 255
  mark_at w l = go (cases_lt w 16)
    where
      go : (w < 16) ⊎ (16 ≤ w) → slice_index (first ++ last) w ≡ cond (is_odd w) 0 255
      go (inl a) = get_or_append_left first last 0 w (omega (arith, a, m.first_len)) ∙ m.first_is w a
      go (inr a) =
          let e : 16 + (w - 16) ≡ w = omega (arith, a) in
          get_or-append_right first last 16 w 0 m.first_len a ∙ m.last_is (w - 16) (omega (arith, l, a)) ∙ ap (λ z. cond (is_odd z) 0 255) e

  pub byte_at : (w : ℕ) → w < 32 → get_or (by_halves first last) (byte_of w) 0 ≡ cond (is_odd w) 0 255
  byte_at w l =
      let e : byte_of w / 16 * 8 + byte_of w % 8 + 16 * (byte_of w / 8 % 2) ≡ w = omega (arith, l) in
      at_range (λ k. slice_index (first ++ last) (k / 16 * 8 + k % 8 + 16 * (k / 8 % 2))) 32 (byte_of w) refl (omega (arith, l)) ∙ ap (λ z. slice_index (first ++ last) z) e ∙ mark_at w l
