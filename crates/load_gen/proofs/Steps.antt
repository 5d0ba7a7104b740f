-- The generator's steps and words.
use Rattle.std.proofs.Common.{◌≡◌, ℕ, zero, suc, ◌+◌, ◌/◌, ◌%◌, ◌^◌, ◌<◌, refl, ap, ◌∙◌, arith}
use Rattle.std.specs.Prelude.{bit_xor}
use Rattle.std.proofs.Math.Nat.{mod-lt, div-le_self}
use Rattle.std.proofs.lemmas.Nat.{or_lt}
use Rattle.rand_pcg.specs.Lcg.{Lcg, state_after, next_state}
use Rattle.rand_pcg.specs.Pcg.{multiplier_64, pcg32}
use Rattle.load_gen.specs.Draws.{after, word}
use Rattle.load_gen.specs.Laws.{DrawsAdd, WordsAreSmall}

steps_add : (w m p n k s : ℕ) → state_after w m p k (state_after w m p n s) ≡ state_after w m p (n + k) s
unfolding state_after
steps_add w m p zero k s = ap (λ (j : ℕ). state_after w m p j s) (let e : k ≡ 0 + k = omega arith in e)
steps_add w m p (suc n) k s =
    let e : suc (n + k) ≡ suc n + k = omega arith in
    steps_add w m p n k (next_state w m p s) ∙ ap (λ (j : ℕ). state_after w m p j s) e

pub draws_add : DrawsAdd
unfolding after
draws_add m n g = ap (λ (s : ℕ). record g { state = s }) (steps_add 64 multiplier_64 g.increment n m g.state)

-- no word taken, one word taken
pub after_none : (g : Lcg) → g ≡ after 0 g
unfolding after state_after
after_none g = refl

pub after_one : (g : Lcg) → (pcg32 g).1 ≡ after 1 g
unfolding after state_after
after_one g = refl

pub first_word : (g : Lcg) → (pcg32 g).0 ≡ word g
unfolding word
first_word g = refl

pub words_are_small : WordsAreSmall
unfolding word
words_are_small g =
    let x = bit_xor (g.state / 2 ^ 18) g.state / 2 ^ 27 % 2 ^ 32 in
    let small : x < 2 ^ 32 = mod-lt _ (omega arith) in
    let high : x / 2 ^ (g.state / 2 ^ 59 % 32) < 2 ^ 32 = omega (arith, div-le_self x (2 ^ (g.state / 2 ^ 59 % 32)), small) in
    or_lt 32 _ _ high (mod-lt _ (omega arith))
