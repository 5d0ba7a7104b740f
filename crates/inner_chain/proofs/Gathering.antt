-- Labels bit by bit.
use Rattle.std.proofs.Common.{◌≡◌, ℕ, suc, ◌+◌, ◌-◌, ◌*◌, ◌^◌, ◌<◌, ◌≤◌, ◌≢◌, ◌⊎◌, inl, inr, Bool, true, false, List, [], ◌∷◌, ◌++◌, append_assoc, length, set, refl, sym, ap, ◌∙◌, subst, arith}
use Rattle.std.specs.Prelude.{slice_index, ◌==◌}
use Rattle.std.specs.Int.{bit_at}
use mir.Val.{bool_byte}
use Rattle.std.proofs.Math.Nat.{pow-le-pow_right, pow-suc}
use Rattle.std.proofs.lemmas.Nat.Bits.{bit_at_cat_low, bit_at_cat_high}
use Rattle.std.proofs.lemmas.Bool.{cases_lt}
use Rattle.spec_words.specs.Bits.{is_set}
use Rattle.std.proofs.lemmas.List.{get_or_append_left, get_or_push, length_push, get_or-set_same, get_or-set_other}
use Rattle.inner_chain.specs.Tables.{read_bit, IsGathered, AreGathered, AppendsGathered}

pub bool_small : (b : Bool) → bool_byte b < 2
bool_small true = omega arith
bool_small false = omega arith

pub bool_bit : (b : Bool) → is_set (bool_byte b) 0 ≡ b
bool_bit true = refl
bool_bit false = refl

-- ---- a label moved up by one place, and a bit in the place that becomes free
up_is : (label bit : ℕ) → 2 * label + bit ≡ label * 2 ^ 1 + bit
up_is label bit = omega arith

pub up_here : (label bit : ℕ) → is_set (2 * label + bit) 0 ≡ is_set bit 0
up_here label bit = ap (λ (z : ℕ). is_set z 0) (up_is label bit) ∙ ap (λ (z : ℕ). z == 1) (bit_at_cat_low label 1 bit 0 (omega arith))

pub up_above : (label bit e : ℕ) → bit < 2 → is_set (2 * label + bit) (e + 1) ≡ is_set label e
up_above label bit e b =
    let place : e + 1 - 1 ≡ e = omega arith in
    ap (λ (z : ℕ). is_set z (e + 1)) (up_is label bit) ∙ ap (λ (z : ℕ). z == 1) (bit_at_cat_high label 1 bit (e + 1) b (omega arith) ∙ ap (bit_at label) place)

pub up_small : (label bit n : ℕ) → bit < 2 → label < 2 ^ n → 2 * label + bit < 2 ^ (n + 1)
up_small label bit n b l =
    let next : n + 1 ≡ suc n = omega arith in
    let double : 2 ^ (n + 1) ≡ 2 * 2 ^ n = omega (arith, ap (λ (z : ℕ). 2 ^ z) next, pow-suc 2 n) in
    omega (arith, b, l, double)

-- a label of fewer than six bits
pub label_small : (e label : ℕ) → e < 6 → label < 2 ^ e → label < 128
label_small e label l m =
    let least : e ≤ 5 = omega (arith, l) in
    let some : 0 < 2 = omega arith in
    let most : 2 ^ e ≤ 2 ^ 5 = pow-le-pow_right {n = 2} some {i = e} {j = 5} least in
    omega (arith, m, most)

pub gather_none : (xs : List Bool) (entries : List ℕ) (first : ℕ) → IsGathered xs entries first 0 0
gather_none xs entries first = record { small = omega arith; bit = λ e l. absurd (omega (arith, l)) }

-- one bit more, below the others
pub gather_up : (xs : List Bool) (entries : List ℕ) (from below count label new : ℕ) → IsGathered xs entries from count label → from ≡ below + 1 → new < 2 ^ (count + 1)
    → ((e : ℕ) → is_set new (e + 1) ≡ is_set label e) → is_set new 0 ≡ read_bit xs (slice_index entries below) → IsGathered xs entries below (count + 1) new
gather_up xs entries from below count label new g ef small above here = record { small = small; bit = bits }
  where
    bits : (e : ℕ) → e < count + 1 → is_set new e ≡ read_bit xs (slice_index entries (below + e))
    bits e l = go (cases_lt 0 e)
      where
        go : (0 < e) ⊎ (e ≤ 0) → is_set new e ≡ read_bit xs (slice_index entries (below + e))
        go (inl m) =
            let k : ℕ = e - 1 in
            let same : e ≡ k + 1 = omega (arith, m) in
            let place : from + k ≡ below + e = omega (arith, m, ef) in
            ap (is_set new) same ∙ above k ∙ g.bit k (omega (arith, l, m)) ∙ ap (λ (n : ℕ). read_bit xs (slice_index entries n)) place
        go (inr m) =
            let same : e ≡ 0 = omega (arith, m) in
            let place : below ≡ below + e = omega (arith, m) in
            ap (is_set new) same ∙ here ∙ ap (λ (n : ℕ). read_bit xs (slice_index entries n)) place

pub push_more : (xs : List Bool) (entries : List ℕ) (n count : ℕ) (old mid new : List ℕ) (label : ℕ) → AppendsGathered xs entries n count old mid → IsGathered xs entries (n * count) count label → new ≡ mid ++ label ∷ []
    → AppendsGathered xs entries (n + 1) count old new
push_more xs entries n count old mid new label g here e = record {
  labels = g.labels ++ label ∷ [];
  is = e ∙ ap (λ (zs : List ℕ). zs ++ label ∷ []) g.is ∙ append_assoc old g.labels (label ∷ []);
  long = length_push g.labels label ∙ ap (λ (z : ℕ). z + 1) g.long;
  at = at;
}
  where
    at : (q : ℕ) → q < n + 1 → IsGathered xs entries (q * count) count (slice_index (g.labels ++ label ∷ []) q)
    at q l = go (cases_lt q n)
      where
        go : (q < n) ⊎ (n ≤ q) → IsGathered xs entries (q * count) count (slice_index (g.labels ++ label ∷ []) q)
        go (inl m) =
            let within : q < length g.labels = omega (arith, m, g.long) in
            subst (λ (z : ℕ). IsGathered xs entries (q * count) count z) (sym (get_or_append_left g.labels (label ∷ []) 0 q within)) (g.at q m)
        go (inr m) =
            let same : n ≡ q = omega (arith, l, m) in
            let last : length g.labels ≡ q = g.long ∙ same in
            let this : IsGathered xs entries (q * count) count label = subst (λ (z : ℕ). IsGathered xs entries (z * count) count label) same here in
            subst (λ (z : ℕ). IsGathered xs entries (q * count) count z) (sym (get_or_push g.labels label 0 q last)) this

pub none_written : (xs : List Bool) (entries : List ℕ) (count : ℕ) (labels : List ℕ) → AreGathered xs entries 0 count labels
none_written xs entries count labels = record { at = λ q l. absurd (omega (arith, l)) }

pub written_more : (xs : List Bool) (entries : List ℕ) (n count : ℕ) (labels : List ℕ) (label : ℕ) → n < length labels → AreGathered xs entries n count labels → IsGathered xs entries (n * count) count label
    → AreGathered xs entries (n + 1) count (set labels n label)
written_more xs entries n count labels label within g here = record { at = at }
  where
    at : (q : ℕ) → q < n + 1 → IsGathered xs entries (q * count) count (slice_index (set labels n label) q)
    at q l = go (cases_lt q n)
      where
        go : (q < n) ⊎ (n ≤ q) → IsGathered xs entries (q * count) count (slice_index (set labels n label) q)
        go (inl m) =
            let apart : q ≢ n = omega (arith, m) in
            subst (λ (z : ℕ). IsGathered xs entries (q * count) count z) (sym (get_or-set_other labels n q label 0 apart)) (g.at q m)
        go (inr m) =
            let same : n ≡ q = omega (arith, l, m) in
            let new : IsGathered xs entries (n * count) count (slice_index (set labels n label) n) = subst (λ (z : ℕ). IsGathered xs entries (n * count) count z) (sym (get_or-set_same labels n label 0 within)) here in
            subst (λ (z : ℕ). IsGathered xs entries (z * count) count (slice_index (set labels n label) z)) same new
