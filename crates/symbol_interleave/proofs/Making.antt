-- The loops that make the list H and its inverse.
use Rattle.std.proofs.Common.{◌≡◌, ℕ, suc, ◌+◌, ◌-◌, ◌*◌, ◌^◌, ◌<◌, ◌≤◌, List, [], ◌∷◌, ◌++◌, length, map, drop, refl, sym, ap, ◌∙◌, arith, Bool, true, false, cond, append_assoc}
use Rattle.std.specs.Prelude.{slice_index, filter, sum, nat_lt}
use Rattle.std.specs.Int.{bit_at}
use Rattle.std.specs.List.{enumerate_from}
use Rattle.std.proofs.lemmas.List.{at_drop_more, append-nil}
use Rattle.std.proofs.lemmas.List.Sums.{sum_by-cons}
use Rattle.symbol_interleave.specs.Carried.{h, bits, words_from, next_word, address}
use Rattle.mode_set.specs.StreamTable.{payload}
use Rattle.mode_set.specs.declared.modes.Mode.{Mode}
use Rattle.mode_set.specs.declared.modes.Mode.TheVariants.{M2k, M8k}

-- the bits of a word from bit i on, moved
abbrev pub moved_from : ℕ → ℕ → List ℕ → ℕ
moved_from r i places = sum (map (λ p. bit_at r p.0 * 2 ^ p.1) (enumerate_from i places))

pub moved_more : (r : ℕ) (places : List ℕ) (i : ℕ) → i < length places → moved_from r i (drop i places) ≡ bit_at r i * 2 ^ slice_index places i + moved_from r (i + 1) (drop (i + 1) places)
moved_more r places i l = at_drop_more (λ ys. moved_from r i ys) places i 0 l ∙ sum_by-cons (λ x. x) (bit_at r i * 2 ^ slice_index places i) (map (λ p. bit_at r p.0 * 2 ^ p.1) (enumerate_from (i + 1) (drop (i + 1) places)))

-- the addresses below Nmax of n words, of which the first has number i
abbrev pub addresses_from : Mode → ℕ → ℕ → ℕ → List ℕ
addresses_from m i n r = filter (λ a. nat_lt a (payload m)) (map (address m) (enumerate_from i (words_from m n r)))

split_filter : (p : ℕ → Bool) (x : ℕ) (xs : List ℕ) → filter p (x ∷ xs) ≡ filter p (x ∷ []) ++ filter p xs
split_filter p x xs = go (p x)
  where
    go : (b : Bool) → cond b (x ∷ filter p xs) (filter p xs) ≡ cond b (x ∷ []) [] ++ filter p xs
    go true = refl
    go false = refl

pub addresses_more : (m : Mode) (i n r : ℕ) → addresses_from m i (suc n) r ≡ filter (λ a. nat_lt a (payload m)) (address m (i, r) ∷ []) ++ addresses_from m (i + 1) n (next_word m r)
unfolding words_from
addresses_more m i n r = split_filter (λ a. nat_lt a (payload m)) (address m (i, r)) (map (address m) (enumerate_from (i + 1) (words_from m n (next_word m r))))

-- H begins with the addresses of the two words that are zero
pub h_begins : (m : Mode) → (0 ∷ 2 ^ (bits m - 1) ∷ []) ++ addresses_from m 2 (2 ^ bits m - 2) 1 ≡ h m
unfolding h
h_begins M2k = refl
h_begins M8k = refl

pub h_ends : (m : Mode) (i r : ℕ) → addresses_from m i 0 r ≡ []
unfolding words_from
h_ends m i r = refl

-- ---- the loop of `places`
pub start_small : (m : Mode) → 1 < 2 ^ (bits m - 1)
start_small M2k = omega arith
start_small M8k = omega arith

two_halves : (m : Mode) → 2 * 2 ^ (bits m - 1) ≡ 2 ^ bits m
two_halves M2k = refl
two_halves M8k = refl

pub begin : (m : Mode) (xs ys zs : List ℕ) (top : ℕ) → xs ≡ [] → ys ≡ xs ++ 0 ∷ [] → zs ≡ ys ++ top ∷ [] → top ≡ 2 ^ (bits m - 1) → zs ++ addresses_from m 2 (2 ^ bits m - 2) 1 ≡ h m
begin m xs ys zs top x y z t =
    let all : zs ≡ 0 ∷ 2 ^ (bits m - 1) ∷ [] = z ∙ ap (λ (zs : List ℕ). zs ++ top ∷ []) (y ∙ ap (λ (zs : List ℕ). zs ++ 0 ∷ []) x) ∙ ap (λ (a : ℕ). 0 ∷ a ∷ []) t in
    ap (λ (zs : List ℕ). zs ++ addresses_from m 2 (2 ^ bits m - 2) 1) all ∙ h_begins m

pub step : (m : Mode) (xs ys : List ℕ) (i r a limit next : ℕ) → i < 2 * 2 ^ (bits m - 1) → a ≡ address m (i, r) → limit ≡ payload m → next ≡ next_word m r → ys ≡ xs ++ filter (λ b. nat_lt b limit) (a ∷ [])
    → xs ++ addresses_from m i (2 ^ bits m - i) r ≡ h m → ys ++ addresses_from m (i + 1) (2 ^ bits m - (i + 1)) next ≡ h m
step m xs ys i r a limit next l ea el en ey e =
    let n : ℕ = 2 ^ bits m - (i + 1) in
    let one : 2 ^ bits m - i ≡ suc n = omega (arith, l, two_halves m) in
    let rest : List ℕ = addresses_from m (i + 1) n (next_word m r) in
    let here : ys ≡ xs ++ filter (λ b. nat_lt b (payload m)) (address m (i, r) ∷ []) = ey ∙ ap (λ (z : ℕ). xs ++ filter (λ b. nat_lt b z) (a ∷ [])) el ∙ ap (λ (z : ℕ). xs ++ filter (λ b. nat_lt b (payload m)) (z ∷ [])) ea in
    ap (λ (z : ℕ). ys ++ addresses_from m (i + 1) n z) en
    ∙ ap (λ (zs : List ℕ). zs ++ rest) here
    ∙ append_assoc xs (filter (λ b. nat_lt b (payload m)) (address m (i, r) ∷ [])) rest
    ∙ ap (λ (zs : List ℕ). xs ++ zs) (sym (addresses_more m i n r))
    ∙ ap (λ (z : ℕ). xs ++ addresses_from m i z r) (sym one)
    ∙ e

pub finish : (m : Mode) (xs : List ℕ) (i r top : ℕ) → top ≡ 2 ^ (bits m - 1) → 2 * top ≤ i → xs ++ addresses_from m i (2 ^ bits m - i) r ≡ h m → xs ≡ h m
finish m xs i r top t l e =
    let none : 2 ^ bits m - i ≡ 0 = omega (arith, l, t, two_halves m) in
    sym (append-nil xs) ∙ ap (λ (zs : List ℕ). xs ++ zs) (sym (h_ends m i r)) ∙ ap (λ (z : ℕ). xs ++ addresses_from m i z r) (sym none) ∙ e
