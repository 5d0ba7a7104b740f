-- Lists joined part by part, and filters.
use Rattle.std.proofs.Common.{◌≡◌, ℕ, zero, suc, ◌+◌, ◌<◌, Bool, true, false, cond, List, [], ◌∷◌, ◌++◌, length, refl, sym, ap, ap₂, ◌∙◌, arith, length-append, append_assoc, append-nil}
use Rattle.std.specs.Prelude.{flat_map, filter, All}
use Rattle.std.proofs.lemmas.List.Concat.{flat_map-append}
use Rattle.std.proofs.lemmas.List.Elements.{All-nil, All-cons, All-head, All-tail}
use Rattle.spec_words.specs.Words.{numbers}
use Rattle.spec_words.proofs.Counting.{numbers_end}

pub parts_end : {A : Type 0} (f : ℕ → List A) (n : ℕ) → flat_map f (numbers (suc n)) ≡ flat_map f (numbers n) ++ f n
parts_end f n =
    let next : suc n ≡ n + 1 = omega arith in
    ap (flat_map f) (ap numbers next ∙ numbers_end n) ∙ flat_map-append f (numbers n) (n ∷ []) ∙ ap (λ z. flat_map f (numbers n) ++ z) (append-nil (f n))

pub no_parts : {A : Type 0} (f : ℕ → List A) → flat_map f (numbers 0) ≡ []
unfolding numbers
no_parts f = refl

pub same_parts : {A : Type 0} (f g : ℕ → List A) (n : ℕ) → ((k : ℕ) → k < n → f k ≡ g k) → flat_map f (numbers n) ≡ flat_map g (numbers n)
same_parts f g zero h = no_parts f ∙ sym (no_parts g)
same_parts f g (suc n) h =
    parts_end f n
    ∙ ap₂ (λ x y. x ++ y) (same_parts f g n (λ k l. h k (omega (arith, l)))) (h n (omega arith))
    ∙ sym (parts_end g n)

pub more_parts : {A : Type 0} (f : ℕ → List A) (n d : ℕ) → (rest : List A) × (flat_map f (numbers (d + n)) ≡ flat_map f (numbers n) ++ rest)
more_parts f n zero = let e : 0 + n ≡ n = omega arith in ([], ap (λ k. flat_map f (numbers k)) e ∙ sym (append-nil (flat_map f (numbers n))))
more_parts f n (suc d) =
    let r = more_parts f n d in
    let e : suc d + n ≡ suc (d + n) = omega arith in
    (r.0 ++ f (d + n), ap (λ k. flat_map f (numbers k)) e ∙ parts_end f (d + n) ∙ ap (λ z. z ++ f (d + n)) r.1 ∙ append_assoc (flat_map f (numbers n)) r.0 (f (d + n)))

pub empty_parts : {A : Type 0} (f : ℕ → List A) (n : ℕ) → ((k : ℕ) → f k ≡ []) → flat_map f (numbers n) ≡ []
empty_parts f zero h = no_parts f
empty_parts f (suc n) h = parts_end f n ∙ ap₂ (λ x y. x ++ y) (empty_parts f n h) (h n)

-- ---- filters

pub none_pass : {A : Type 0} (p : A → Bool) (xs : List A) → All (λ x. p x ≡ false) xs → filter p xs ≡ []
none_pass p [] h = refl
none_pass p (x ∷ xs) h = ap (λ b. cond b (x ∷ filter p xs) (filter p xs)) (All-head (λ x. p x ≡ false) x xs h) ∙ none_pass p xs (All-tail (λ x. p x ≡ false) x xs h)

pub all_pass : {A : Type 0} (p : A → Bool) (xs : List A) → All (λ x. p x ≡ true) xs → filter p xs ≡ xs
all_pass p [] h = refl
all_pass p (x ∷ xs) h = ap (λ b. cond b (x ∷ filter p xs) (filter p xs)) (All-head (λ x. p x ≡ true) x xs h) ∙ ap (λ zs. x ∷ zs) (all_pass p xs (All-tail (λ x. p x ≡ true) x xs h))

pub none_kept : {A : Type 0} (p : A → Bool) (xs : List A) → filter p xs ≡ [] → All (λ x. p x ≡ false) xs
none_kept p [] h = All-nil (λ x. p x ≡ false)
none_kept {A} p (x ∷ xs) h = go (p x) refl (λ f. none_kept p xs f) h
  where
    go : (b : Bool) → p x ≡ b → (filter p xs ≡ [] → All (λ x. p x ≡ false) xs) → cond b (x ∷ filter p xs) (filter p xs) ≡ [] → All (λ x. p x ≡ false) (x ∷ xs)
    go true e rest f = absurd (omega (arith, ap length f))
    go false e rest f = All-cons (λ x. p x ≡ false) x xs e (rest f)

-- a list that continues itself with ys has ys empty
pub nothing_more : {A : Type 0} (xs ys : List A) → xs ≡ xs ++ ys → ys ≡ []
nothing_more xs [] h = refl
nothing_more xs (y ∷ ys) h = absurd (omega (arith, ap length h, length-append xs (y ∷ ys)))
