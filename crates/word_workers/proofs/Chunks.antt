-- The words of a chunk, decoded one after another.
use Rattle.std.proofs.Common.{◌≡◌, ℕ, ◌+◌, ◌-◌, ◌*◌, ◌/◌, ◌%◌, ◌<◌, ◌≤◌, min, inl, inr, ◌⊎◌, List, length, take, drop, set, get_or, refl, sym, ap, ◌∙◌, subst, arith}
use Rattle.std.specs.Prelude.{Bool, IsTrue}
use Rattle.std.proofs.lemmas.Bool.{cases_lt}
use Rattle.std.proofs.lemmas.List.{get_or-set_same, get_or-set_other, get_or_default, length-take, length-drop}
use Rattle.std.proofs.lemmas.Nat.{div-add-mod'}
use Rattle.std.proofs.Math.Nat.{mod-lt}
use Rattle.std.proofs.Math.ListN.{length-set}
use Rattle.rs204.specs.Decoded.{Decoded}
use Rattle.outer_chain.specs.declared.slot.WordSlot.{WordSlot}

-- the first slots are decoded
pub record DecodesTo (i : ℕ) (old new : List WordSlot) : Type 0 where
  pub long : length new ≡ length old
  pub below : (k : ℕ) (d : WordSlot) → k < i → Decoded (get_or old k d).word (get_or new k d).word (get_or new k d).outcome
  pub above : (k : ℕ) (d : WordSlot) → i ≤ k → get_or new k d ≡ get_or old k d

pub decodes_none : (slots : List WordSlot) → DecodesTo 0 slots slots
decodes_none slots = record { long = refl; below = λ k d l. absurd (omega (arith, l)); above = λ k d l. refl }

pub decodes_more : (i : ℕ) (old new : List WordSlot) (now was : WordSlot) → i < length old → Decoded (get_or new i was).word now.word now.outcome → DecodesTo i old new → DecodesTo (i + 1) old (set new i now)
decodes_more i old new now was l is h = record {
  long = length-set new i now ∙ h.long;
  below = λ k e m. go k e m (cases_lt k i);
  above = λ k e m. get_or-set_other new i k now e (λ q. absurd (omega (arith, m, q))) ∙ h.above k e (omega (arith, m));
}
  where
    go : (k : ℕ) (e : WordSlot) → k < i + 1 → (k < i) ⊎ (i ≤ k) → Decoded (get_or old k e).word (get_or (set new i now) k e).word (get_or (set new i now) k e).outcome
    go k e m (inl s) = subst (λ (z : WordSlot). Decoded (get_or old k e).word z.word z.outcome) (sym (get_or-set_other new i k now e (λ q. absurd (omega (arith, s, q))))) (h.below k e s)
    go k e m (inr s) =
        let here : i ≡ k = omega (arith, m, s) in
        let first : get_or new i was ≡ get_or old i e = get_or_default new i was e (omega (arith, l, h.long)) ∙ h.above i e (omega arith) in
        subst (λ j. Decoded (get_or old j e).word (get_or (set new i now) j e).word (get_or (set new i now) j e).outcome) here
        (subst (λ (z : WordSlot). Decoded (get_or old i e).word z.word z.outcome) (sym (get_or-set_same new i now e (omega (arith, l, h.long)))) (subst (λ (z : WordSlot). Decoded z.word now.word now.outcome) first is))

-- n pieces have entered, from this number on
abbrev pub AllEntered : (ℕ → Bool) → ℕ → ℕ → Type 0
AllEntered entered start n = (i : ℕ) → i < n → IsTrue (entered (start + i))

pub entered_more : (entered : ℕ → Bool) (start n : ℕ) → IsTrue (entered (start + n)) → AllEntered entered start n → AllEntered entered start (n + 1)
entered_more entered start n h all i l = go (cases_lt i n)
  where
    go : (i < n) ⊎ (n ≤ i) → IsTrue (entered (start + i))
    go (inl s) = all i s
    go (inr s) =
        let same : start + n ≡ start + i = omega (arith, l, s) in
        subst (λ k. IsTrue (entered k)) same h

-- a piece has entered if those of its chunk have
pub chunk_entered : {X : Type 0} (entered : ℕ → Bool) (xs ys : List X) (size i : ℕ) → 0 < size → i < length xs → ys ≡ take size (drop (i / size * size) xs) → AllEntered entered (i / size * size) (length ys) → IsTrue (entered i)
chunk_entered entered xs ys size i some l is all =
    let at : i / size * size + i % size ≡ i = div-add-mod' i size in
    let within : i % size < size = mod-lt i some in
    let long : length ys ≡ min size (length xs - i / size * size) = ap length is ∙ length-take size (drop (i / size * size) xs) ∙ ap (min size) (length-drop (i / size * size) xs) in
    subst (λ k. IsTrue (entered k)) at (all (i % size) (omega (arith, at, within, long, l)))

pub chunk_begins : (i size n : ℕ) → i < n → i / size * size < n
chunk_begins i size n l = omega (arith, div-add-mod' i size, l)
