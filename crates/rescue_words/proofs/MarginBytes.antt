-- The bytes of margins in the deinterleavers.
use Rattle.std.proofs.Common.{◌≡◌, ℕ, zero, suc, ◌+◌, ◌-◌, ◌*◌, ◌%◌, ◌<◌, ◌^◌, Bool, true, false, cond, ltb, List, [], ◌∷◌, ◌++◌, length, map, get_or, refl, sym, ap, ap₂, ◌∙◌, subst, arith, inl, inr}
use Rattle.std.specs.Prelude.{All}
use Rattle.std.proofs.lemmas.Bool.{cases_lt}
use Rattle.std.proofs.lemmas.List.{map-append, length-map, get_or_past}
use Rattle.std.proofs.lemmas.List.Elements.{All-get_or}
use Rattle.forney.specs.Values.{stream_of}
use Rattle.forney.specs.Interleaving.{deinterleaved}
use Rattle.forney.specs.Delays.{Delays, Deinterleaves}
use Rattle.rescue_words.specs.Carrying.{first_byte, second_byte, third_byte, fourth_byte}

-- a function that keeps 0 may be applied before or after the lines
mapped_at : (f : ℕ → ℕ) → f 0 ≡ 0 → (xs : List ℕ) (i : ℕ) → get_or (map f xs) i 0 ≡ f (get_or xs i 0)
mapped_at f z [] i = sym z
mapped_at f z (x ∷ xs) zero = refl
mapped_at f z (x ∷ xs) (suc i) = mapped_at f z xs i

chosen : (f : ℕ → ℕ) → f 0 ≡ 0 → (b : Bool) (x y : ℕ) → x ≡ f y → cond b 0 x ≡ f (cond b 0 y)
chosen f z true x y e = sym z
chosen f z false x y e = e

mapped_through : (f : ℕ → ℕ) → f 0 ≡ 0 → (xs : List ℕ) (p : ℕ) → deinterleaved (stream_of (map f xs)) p ≡ f (deinterleaved (stream_of xs) p)
mapped_through f z xs p = chosen f z (ltb p (204 * (11 - p % 12))) _ _ (mapped_at f z xs (p - 204 * (11 - p % 12)))

-- the output of a line
pub line_gives : (f : ℕ → ℕ) → f 0 ≡ 0 → (margins : List ℕ) (m byte out : ℕ) → byte ≡ f m
    → out ≡ deinterleaved (stream_of (map f margins ++ byte ∷ [])) (length (map f margins)) → out ≡ f (deinterleaved (stream_of (margins ++ m ∷ [])) (length margins))
line_gives f z margins m byte out e h =
    h ∙ ap₂ (λ (xs : List ℕ) (p : ℕ). deinterleaved (stream_of xs) p) (ap (λ b. map f margins ++ b ∷ []) e ∙ sym (map-append f margins (m ∷ []))) (length-map margins f)
    ∙ mapped_through f z (margins ++ m ∷ []) (length margins)

pub line_stands : (f : ℕ → ℕ) (line : Delays) (margins : List ℕ) (m byte : ℕ) → byte ≡ f m → Deinterleaves line (map f margins ++ byte ∷ []) → Deinterleaves line (map f (margins ++ m ∷ []))
line_stands f line margins m byte e h = subst (Deinterleaves line) (ap (λ b. map f margins ++ b ∷ []) e ∙ sym (map-append f margins (m ∷ []))) h

pub small_through : (xs : List ℕ) (p : ℕ) → All (λ m. m < 2 ^ 32) xs → deinterleaved (stream_of xs) p < 2 ^ 32
small_through xs p h = go (ltb p (204 * (11 - p % 12)))
  where
    small_at : (i : ℕ) → get_or xs i 0 < 2 ^ 32
    small_at i = elim (cases_lt i (length xs)) [
      | inl l ↦ All-get_or (λ m. m < 2 ^ 32) xs i 0 l h
      | inr l ↦ subst (λ z. z < 2 ^ 32) (sym (get_or_past xs i 0 l)) (omega arith)
    ]

    go : (b : Bool) → cond b 0 (get_or xs (p - 204 * (11 - p % 12)) 0) < 2 ^ 32
    go true = omega arith
    go false = small_at (p - 204 * (11 - p % 12))

-- a number below 2^32 from its four bytes
pub from_bytes : (x a b c d : ℕ) → x < 2 ^ 32 → a ≡ first_byte x → b ≡ second_byte x → c ≡ third_byte x → d ≡ fourth_byte x → a + b * 0x100 + c * 0x1_0000 + d * 0x100_0000 ≡ x
from_bytes x a b c d l e f g h = omega (arith, l, e, f, g, h)
