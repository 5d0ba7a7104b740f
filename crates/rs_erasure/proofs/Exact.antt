-- The outcome is determined by the word and its erasures.
use Rattle.std.proofs.Common.{◌≡◌, ℕ, List, length, refl, sym, ap, ◌∙◌, arith}
use Rattle.rs_erasure.specs.Outside.{distance_outside, IsOutside, IsFarOutside}
use Rattle.rs_erasure.specs.Decoded.{DecodedOutside}
use Rattle.rs_erasure.specs.declared.outcome.Erased.{Erased}
use Rattle.rs_erasure.specs.declared.outcome.Erased.TheVariants.{Found, NoWord}
use Rattle.rs_erasure.proofs.Outside.{one_outside}

abbrev Finds : List ℕ → Erased → ℕ → List ℕ → Type 0
Finds new answer n c = (answer ≡ Found n) × (new ≡ c)

pub found_only : (erased old new : List ℕ) (answer : Erased) → length old ≡ 204 → length erased ≡ 8 → DecodedOutside erased old new answer → (n : ℕ) (c : List ℕ) → IsOutside old erased n c → Finds new answer n c
found_only erased old new (Found m) l k d n c h =
    let same : new ≡ c = one_outside old erased new c l k d.code h.code (omega (arith, d.apart, d.few)) (omega (arith, h.apart, h.few)) in
    (ap Found (sym d.apart ∙ ap (distance_outside erased old) same ∙ h.apart), same)
found_only erased old new NoWord l k d n c h = absurd (omega (arith, d.1 c h.code, h.apart, h.few))

pub no_word_only : (erased old new : List ℕ) (answer : Erased) → DecodedOutside erased old new answer → IsFarOutside old erased → answer ≡ NoWord
no_word_only erased old new (Found n) d h = absurd (omega (arith, h new d.code, d.apart, d.few))
no_word_only erased old new NoWord d h = refl
