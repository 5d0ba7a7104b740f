-- Lists of states below 64 as rows.
use Rattle.std.proofs.Common.{◌≡◌, ℕ, zero, suc, ◌<◌, ◌≤◌, Bool, List, [], ◌∷◌, ◌++◌, length, ◌⊎◌, inl, inr, refl, sym, ap, ◌∙◌, arith, length-append, subst₂, take, drop}
use Rattle.std.proofs.lemmas.Bool.{cases_lt}
use Rattle.std.specs.declared.option.Option.{Option}
use Rattle.code_paths.specs.declared.costs.CostPair.{CostPair}
use Rattle.acs_plain.specs.declared.sums.Sums.{Sums}
use Rattle.inner_decoder.specs.Tracking.{StandsBy, Stepped, Gave}
use Rattle.inner_decoder.proofs.Kept.{GaveBy}
use Rattle.inner_decoder.specs.Settling.{SteppedBy}
use Rattle.inner_decoder.proofs.Stand.{gave_common}
use Rattle.code_paths.specs.Streams.{IsPrefix, Shared, Given, bits_of}
use Rattle.code_paths.proofs.Cuts.{cut_unique}
use Rattle.code_paths.proofs.Grows.{prefix_of_prefix, prefix_under, prefix_from_take}
use Rattle.inner_decoder.specs.Seen.{row_of, rows_below}

rows_length : (f : ℕ → List Bool) (n : ℕ) → length (rows_below f n) ≡ n
unfolding rows_below
rows_length f zero = refl
rows_length f (suc n) = length-append (rows_below f n) (f n ∷ []) ∙ omega (arith, rows_length f n)

row_left : (xs ys : List (List Bool)) (k : ℕ) → k < length xs → row_of (xs ++ ys) k ≡ row_of xs k
row_left [] ys k l = absurd (omega arith)
row_left (x ∷ xs) ys zero l = refl
row_left (x ∷ xs) ys (suc k) l = row_left xs ys k (omega arith)

row_last : (xs : List (List Bool)) (y : List Bool) (k : ℕ) → k ≡ length xs → row_of (xs ++ y ∷ []) k ≡ y
row_last [] y zero e = refl
row_last [] y (suc k) e = absurd (omega arith)
row_last (x ∷ xs) y zero e = absurd (omega arith)
row_last (x ∷ xs) y (suc k) e = row_last xs y k (omega arith)

pub row_below : (f : ℕ → List Bool) (n k : ℕ) → k < n → row_of (rows_below f n) k ≡ f k
unfolding rows_below
row_below f zero k l = absurd (omega arith)
row_below f (suc n) k l = go (cases_lt k n) (row_below f n k)
  where
    go : (k < n) ⊎ (n ≤ k) → (k < n → row_of (rows_below f n) k ≡ f k) → row_of (rows_below f n ++ f n ∷ []) k ≡ f k
    go (inl m) g = row_left (rows_below f n) (f n ∷ []) k (omega (arith, rows_length f n)) ∙ g m
    go (inr m) g = let e : k ≡ n = omega arith in row_last (rows_below f n) (f n) k (e ∙ sym (rows_length f n)) ∙ ap f (sym e)

pub stands_same : (most : ℕ) (sums : Sums) (f h : ℕ → List Bool) (waiting steps : ℕ) (a : Option (List Bool)) (c : List CostPair) (g : List Bool) → ((n : ℕ) → n < 64 → f n ≡ h n) → StandsBy most sums f waiting steps a c g → StandsBy most sums h waiting steps a c g
stands_same most sums f h waiting steps a c g e s = record {
  parts = s.parts;
  start = s.start;
  costs = s.costs;
  gave = s.gave;
  cut = s.cut;
  tracks = record { less = s.tracks.less; path = s.tracks.path; long = s.tracks.long; least = s.tracks.least; cost = s.tracks.cost; bits = λ n l t. s.tracks.bits n l t ∙ ap (λ z. s.gave ++ z) (e n l); none = s.tracks.none; bounded = s.tracks.bounded };
  some = s.some;
  few = s.few;
  counts = s.counts;
  is = s.is;
}

pub from_rows : (most : ℕ) (sums : Sums) (f : ℕ → List Bool) (waiting steps : ℕ) (a : Option (List Bool)) (c : List CostPair) (g : List Bool) → StandsBy most sums (row_of (rows_below f 64)) waiting steps a c g → StandsBy most sums f waiting steps a c g
from_rows most sums f waiting steps a c g s = stands_same most sums (row_of (rows_below f 64)) f waiting steps a c g (λ n l. row_below f 64 n l) s

pub to_rows : (most : ℕ) (sums : Sums) (f : ℕ → List Bool) (waiting steps : ℕ) (a : Option (List Bool)) (c : List CostPair) (g : List Bool) → StandsBy most sums f waiting steps a c g → StandsBy most sums (row_of (rows_below f 64)) waiting steps a c g
to_rows most sums f waiting steps a c g s = stands_same most sums f (row_of (rows_below f 64)) waiting steps a c g (λ n l. sym (row_below f 64 n l)) s

-- the output of a decoder is a prefix of the defined bits
pub stands_prefix : (most : ℕ) (sums : Sums) (waits : ℕ → List Bool) (waiting steps : ℕ) (a : Option (List Bool)) (c : List CostPair) (g h : List Bool) → StandsBy most sums waits waiting steps a c g → Given most a c h → IsPrefix g h
stands_prefix most sums waits waiting steps a c g h x y =
    let u = cut_unique most a c x.parts x.start x.costs y.parts y.start y.costs x.cut y.cut in
    let sh : Shared x.start x.costs y.shared = subst₂ (λ v w. Shared v w y.shared) (sym u.1) (sym u.2) y.is_shared in
    let begins = gave_common x.start x.costs x.gave sums waits waiting x.tracks in
    let t = x.tracks.least x.some.state x.some.below x.some.lives in
    let e : take (length x.gave) y.shared ≡ x.gave = prefix_of_prefix x.gave y.shared (drop 6 (x.tracks.path x.some.state)) (begins _ _ t) (sh.common _ _ t) (sh.longest x.gave begins) in
    subst₂ IsPrefix (sym x.is) (ap (λ z. bits_of z ++ y.shared) u.0 ∙ sym y.is) (prefix_under (bits_of x.parts) x.gave y.shared (prefix_from_take x.gave y.shared e))

pub stepped_rows : (most : ℕ) (sums : Sums) (f : ℕ → List Bool) (waiting steps : ℕ) (e : Bool) (a : Option (List Bool)) (c : List CostPair) (g : List Bool) (x : CostPair) (old new : List Bool) (r : Option ℕ)
    → SteppedBy most sums f waiting steps a c g x old new r → Stepped most (record { sums = sums; rows = rows_below f 64; waiting = waiting; steps = steps; ended = e }) a c g x old new r
stepped_rows most sums f waiting steps e a c g x old new r s = record {
  more = s.more;
  appended = s.appended;
  stands = to_rows most sums f waiting steps a (c ++ x ∷ []) (g ++ s.more) s.stands;
  begins = λ h y. stands_prefix most sums f waiting steps a (c ++ x ∷ []) (g ++ s.more) h s.stands y;
  reports = s.reports;
  whole = s.whole;
}

pub gave_rows : (most : ℕ) (sums : Sums) (f : ℕ → List Bool) (waiting steps : ℕ) (e : Bool) (a : Option (List Bool)) (c : List CostPair) (g : List Bool) (old new : List Bool)
    → GaveBy most sums f waiting steps a c g old new → Gave most (record { sums = sums; rows = rows_below f 64; waiting = waiting; steps = steps; ended = e }) a c g old new
gave_rows most sums f waiting steps e a c g old new s = record {
  more = s.more;
  appended = s.appended;
  stands = to_rows most sums f waiting steps a c (g ++ s.more) s.stands;
  whole = s.whole;
}
