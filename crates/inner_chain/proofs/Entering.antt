-- The entries of the tables.
use Rattle.std.proofs.Common.{◌≡◌, ℕ, ◌+◌, ◌-◌, ◌*◌, ◌/◌, ◌%◌, ◌<◌, ◌≤◌, ◌⊎◌, inl, inr, Bool, true, false, cond, IsTrue, List, [], ◌∷◌, ◌++◌, append_assoc, length, refl, sym, ap, ◌∙◌, subst, arith}
use Rattle.std.specs.Prelude.{slice_index}
use mir.Val.{bool_byte}
use Rattle.std.proofs.lemmas.Bool.{cases_lt}
use Rattle.std.proofs.Math.Nat.{mul-le-mul_right}
use Rattle.std.proofs.lemmas.List.{get_or_append_left, get_or-append_right, get_or_push, length_push, length-append}
use Rattle.spec_words.specs.Words.{first_below}
use Rattle.mode_set.specs.StreamTable.{payload, label_bits, width, coded, need, rate, has_stream, steps_in_period, sent_in_period}
use Rattle.mode_set.specs.declared.modes.Mode.{Mode}
use Rattle.mode_set.specs.declared.modes.Mode.TheVariants.{M2k, M8k}
use Rattle.mode_set.specs.declared.modes.Shape.{Shape}
use Rattle.mode_set.specs.declared.modes.Shape.TheVariants.{Qpsk, Qam16, Qam64}
use Rattle.mode_set.specs.declared.modes.Hierarchy.{Hierarchy}
use Rattle.mode_set.specs.declared.modes.Hierarchy.TheVariants.{Flat, Alpha1, Alpha2, Alpha4}
use Rattle.mode_set.specs.declared.modes.Rate.{Rate}
use Rattle.mode_set.specs.declared.modes.Rate.TheVariants.{R1of2, R2of3, R3of4, R5of6, R7of8}
use Rattle.mode_set.specs.declared.modes.Stream.{Stream}
use Rattle.mode_set.specs.declared.modes.Stream.TheVariants.{Hp, Lp}
use Rattle.mode_set.specs.declared.settings.Settings.{Settings}
use Rattle.puncture.specs.SentBits.{sent_bit}
use Rattle.bit_interleave.specs.Place.{place_in_label, word_of_bit, stands_at, stream_at, IsSent, EachBitIsFound}
use Rattle.inner_chain.specs.Labels.{parity_at, number_at}
use Rattle.inner_chain.specs.Tables.{first_step, IsEntry, AppendsEntries, most_steps}

-- ---- whole periods
whole_of : (m : Mode) (w : ℕ) (r : Rate) → payload m * w * steps_in_period r / sent_in_period r * sent_in_period r ≡ payload m * w * steps_in_period r
whole_of M2k w R1of2 = omega arith
whole_of M2k w R2of3 = omega arith
whole_of M2k w R3of4 = omega arith
whole_of M2k w R5of6 = omega arith
whole_of M2k w R7of8 = omega arith
whole_of M8k w R1of2 = omega arith
whole_of M8k w R2of3 = omega arith
whole_of M8k w R3of4 = omega arith
whole_of M8k w R5of6 = omega arith
whole_of M8k w R7of8 = omega arith

pub whole : (s : Settings) (σ : Stream) → need s σ * sent_in_period (rate s σ) ≡ coded s σ * steps_in_period (rate s σ)
whole s σ = whole_of s.mode (width s.shape s.hierarchy σ) (rate s σ)

-- a symbol has coded - need periods
pub periods_of : (r : Rate) (c n : ℕ) → n * sent_in_period r ≡ c * steps_in_period r → ((c - n) * sent_in_period r ≡ c) × ((c - n) * steps_in_period r ≡ n)
periods_of R1of2 c n e = (omega arith, omega arith)
periods_of R2of3 c n e = (omega arith, omega arith)
periods_of R3of4 c n e = (omega arith, omega arith)
periods_of R5of6 c n e = (omega arith, omega arith)
periods_of R7of8 c n e = (omega arith, omega arith)

pub periods : (s : Settings) (σ : Stream) → ((coded s σ - need s σ) * sent_in_period (rate s σ) ≡ coded s σ) × ((coded s σ - need s σ) * steps_in_period (rate s σ) ≡ need s σ)
periods s σ = periods_of (rate s σ) (coded s σ) (need s σ) (whole s σ)

-- ---- amounts
share : (r : Rate) (c n : ℕ) → n * sent_in_period r ≡ c * steps_in_period r → 8 * n ≤ 7 * c
share R1of2 c n e = omega arith
share R2of3 c n e = omega arith
share R3of4 c n e = omega arith
share R5of6 c n e = omega arith
share R7of8 c n e = omega arith

widths : (c : Shape) (h : Hierarchy) → width c h Hp + width c h Lp ≤ 6
widths Qpsk Flat = omega arith
widths Qpsk Alpha1 = omega arith
widths Qpsk Alpha2 = omega arith
widths Qpsk Alpha4 = omega arith
widths Qam16 Flat = omega arith
widths Qam16 Alpha1 = omega arith
widths Qam16 Alpha2 = omega arith
widths Qam16 Alpha4 = omega arith
widths Qam64 Flat = omega arith
widths Qam64 Alpha1 = omega arith
widths Qam64 Alpha2 = omega arith
widths Qam64 Alpha4 = omega arith

shares : (m : Mode) (a b n k : ℕ) → a + b ≤ 6 → 8 * n ≤ 7 * (payload m * a) → 8 * k ≤ 7 * (payload m * b) → n + k ≤ most_steps m
shares M2k a b n k l p q = omega (arith, l, p, q)
shares M8k a b n k l p q = omega (arith, l, p, q)

-- no symbol has more steps than one with six bits on each payload carrier at rate 7/8
pub few_steps : (s : Settings) → need s Hp + need s Lp ≤ most_steps s.mode
few_steps s =
    shares s.mode (width s.shape s.hierarchy Hp) (width s.shape s.hierarchy Lp) (need s Hp) (need s Lp) (widths s.shape s.hierarchy)
    (share (rate s Hp) (coded s Hp) (need s Hp) (whole s Hp)) (share (rate s Lp) (coded s Lp) (need s Lp) (whole s Lp))

pub few_steps_of : (s : Settings) (σ : Stream) → need s σ ≤ most_steps s.mode
few_steps_of s Hp = omega (arith, few_steps s)
few_steps_of s Lp = omega (arith, few_steps s)

codeds : (m : Mode) (a b : ℕ) → a + b ≤ 6 → payload m * a + payload m * b ≤ 36288
codeds M2k a b l = omega arith
codeds M8k a b l = omega arith

pub few_coded : (s : Settings) (σ : Stream) → coded s σ ≤ 36288
few_coded s Hp = omega (arith, codeds s.mode (width s.shape s.hierarchy Hp) (width s.shape s.hierarchy Lp) (widths s.shape s.hierarchy))
few_coded s Lp = omega (arith, codeds s.mode (width s.shape s.hierarchy Hp) (width s.shape s.hierarchy Lp) (widths s.shape s.hierarchy))

pub total_steps : (s : Settings) → need s Hp + need s Lp ≤ 31752
total_steps s =
    let all : coded s Hp + coded s Lp ≤ 36288 = codeds s.mode (width s.shape s.hierarchy Hp) (width s.shape s.hierarchy Lp) (widths s.shape s.hierarchy) in
    let hp : 8 * need s Hp ≤ 7 * coded s Hp = share (rate s Hp) (coded s Hp) (need s Hp) (whole s Hp) in
    let lp : 8 * need s Lp ≤ 7 * coded s Lp = share (rate s Lp) (coded s Lp) (need s Lp) (whole s Lp) in
    omega (arith, all, hp, lp)

-- a step of a stream is one of all steps
pub in_all_steps : (s : Settings) (σ : Stream) (t : ℕ) → t < need s σ → first_step s σ + t < need s Hp + need s Lp
in_all_steps s Hp t l = omega (arith, l)
in_all_steps s Lp t l = omega (arith, l)

-- ---- one entry
number_is : (s : Settings) (e w : ℕ) (σ : Stream) (d : ℕ) → σ ≡ stream_at s.hierarchy e → IsSent s.shape s.hierarchy σ → place_in_label s.shape s.hierarchy σ d ≡ e → word_of_bit s.shape s.hierarchy σ d ≡ w → d < coded s σ
    → EachBitIsFound → number_at s e w ≡ d
unfolding number_at
number_is s e w σ d eσ sent ep ew l found =
    ap (λ (τ : Stream). first_below (coded s τ) (stands_at s.shape s.hierarchy τ e w)) (sym eσ)
    ∙ ap (λ (z : ℕ). first_below (coded s σ) (stands_at s.shape s.hierarchy σ z w)) (sym ep)
    ∙ ap (λ (z : ℕ). first_below (coded s σ) (stands_at s.shape s.hierarchy σ (place_in_label s.shape s.hierarchy σ d) z)) (sym ew)
    ∙ found s.shape s.hierarchy σ (coded s σ) d sent l

bit_small : (y : Bool) → (bool_byte y < 2) × (bool_byte y ≡ cond y 1 0)
bit_small true = (omega arith, refl)
bit_small false = (omega arith, refl)

half_is : (f t b : ℕ) → b < 2 → ((2 * (f + t) + b) / 2 ≡ f + t) × ((2 * (f + t) + b) % 2 ≡ b)
half_is f t b l = (omega arith, omega arith)

pub record IsGoodEntry (s : Settings) (e w first step : ℕ) (y : Bool) : Type 0 where
  pub few : first + step < 31752
  pub small : 2 * (first + step) + bool_byte y < 65536
  pub is : IsEntry s e w (2 * (first + step) + bool_byte y)

pub good_entry : (s : Settings) (e w : ℕ) (σ : Stream) (d first step : ℕ) (y : Bool) (r : Rate) → σ ≡ stream_at s.hierarchy e → IsTrue (has_stream s.hierarchy σ)
    → place_in_label s.shape s.hierarchy σ d ≡ e → word_of_bit s.shape s.hierarchy σ d ≡ w → d < coded s σ → EachBitIsFound → r ≡ rate s σ → first ≡ first_step s σ
    → ((path : ℕ → Bool) → sent_bit r path d ≡ parity_at (cond y 1 0) path step) → ((p : ℕ) → d < p * sent_in_period r → step < p * steps_in_period r) → IsGoodEntry s e w first step y
good_entry s e w σ d first step y r eσ exists ep ew l found er ef reads within = record { few = few; small = omega (arith, few, b.0); is = entry }
  where
    sent : IsSent s.shape s.hierarchy σ
    sent = record { qpsk = s.kept.qpsk; exists = exists }

    p : ((coded s σ - need s σ) * sent_in_period (rate s σ) ≡ coded s σ) × ((coded s σ - need s σ) * steps_in_period (rate s σ) ≡ need s σ)
    p = periods s σ

    b : (bool_byte y < 2) × (bool_byte y ≡ cond y 1 0)
    b = bit_small y

    step_small : step < need s σ
    step_small =
        let here : d < (coded s σ - need s σ) * sent_in_period r = subst (λ (z : Rate). d < (coded s σ - need s σ) * sent_in_period z) (sym er) (omega (arith, l, p.0)) in
        let there : step < (coded s σ - need s σ) * steps_in_period (rate s σ) = subst (λ (z : Rate). step < (coded s σ - need s σ) * steps_in_period z) er (within (coded s σ - need s σ) here) in
        omega (arith, there, p.1)

    few : first + step < 31752
    few = omega (arith, in_all_steps s σ step step_small, total_steps s, ef)

    n : ℕ
    n = 2 * (first + step) + bool_byte y

    halves : (n / 2 ≡ first + step) × (n % 2 ≡ bool_byte y)
    halves = half_is first step (bool_byte y) b.0

    read_at : (path : ℕ → Bool) → sent_bit (rate s σ) path (number_at s e w) ≡ parity_at (n % 2) path (n / 2 - first_step s σ)
    read_at path =
        let at : n / 2 - first_step s σ ≡ step = omega (arith, halves.0, ef) in
        let kind : n % 2 ≡ cond y 1 0 = halves.1 ∙ b.1 in
        ap (λ (z : ℕ). sent_bit (rate s σ) path z) (number_is s e w σ d eσ sent ep ew l found)
        ∙ ap (λ (z : Rate). sent_bit z path d) (sym er)
        ∙ reads path
        ∙ ap (λ (z : ℕ). parity_at z path step) (sym kind)
        ∙ ap (λ (z : ℕ). parity_at (n % 2) path z) (sym at)

    entry : IsEntry s e w n
    entry = record {
      from = subst (λ (τ : Stream). first_step s τ ≤ n / 2) eσ (omega (arith, halves.0, ef));
      to = subst (λ (τ : Stream). n / 2 < first_step s τ + need s τ) eσ (omega (arith, halves.0, ef, step_small));
      reads = λ path. subst (λ (τ : Stream). sent_bit (rate s τ) path (number_at s e w) ≡ parity_at (n % 2) path (n / 2 - first_step s τ)) eσ (read_at path);
    }

-- ---- lists of entries
pub entries_more : (s : Settings) (w count : ℕ) (old mid new : List ℕ) (n : ℕ) → AppendsEntries s w count old mid → IsEntry s count w n → new ≡ mid ++ n ∷ [] → AppendsEntries s w (count + 1) old new
entries_more s w count old mid new n a here e = record {
  more = a.more ++ n ∷ [];
  is = e ∙ ap (λ (zs : List ℕ). zs ++ n ∷ []) a.is ∙ append_assoc old a.more (n ∷ []);
  long = length_push a.more n ∙ ap (λ (z : ℕ). z + 1) a.long;
  at = at;
}
  where
    at : (q : ℕ) → q < count + 1 → IsEntry s q w (slice_index (a.more ++ n ∷ []) q)
    at q l = go (cases_lt q count)
      where
        go : (q < count) ⊎ (count ≤ q) → IsEntry s q w (slice_index (a.more ++ n ∷ []) q)
        go (inl m) =
            let within : q < length a.more = omega (arith, m, a.long) in
            subst (λ (z : ℕ). IsEntry s q w z) (sym (get_or_append_left a.more (n ∷ []) 0 q within)) (a.at q m)
        go (inr m) =
            let same : count ≡ q = omega (arith, l, m) in
            let last : length a.more ≡ q = a.long ∙ same in
            subst (λ (z : ℕ). IsEntry s q w z) (sym (get_or_push a.more n 0 q last)) (subst (λ (z : ℕ). IsEntry s z w n) same here)

-- the entries of the first n places
pub record AreEntriesBelow (s : Settings) (word : ℕ → ℕ) (n : ℕ) (entries : List ℕ) : Type 0 where
  pub long : length entries ≡ n * label_bits s.shape
  pub at : (q e : ℕ) → q < n → e < label_bits s.shape → IsEntry s e (word q) (slice_index entries (q * label_bits s.shape + e))

pub words_more : (s : Settings) (word : ℕ → ℕ) (n w : ℕ) (old new : List ℕ) → AreEntriesBelow s word n old → AppendsEntries s w (label_bits s.shape) old new → w ≡ word n → AreEntriesBelow s word (n + 1) new
words_more s word n w old new b a ew = record { long = long; at = at }
  where
    v : ℕ
    v = label_bits s.shape

    long : length new ≡ (n + 1) * v
    long = let next : (n + 1) * v ≡ n * v + v = omega arith in
        ap (λ (zs : List ℕ). length zs) a.is ∙ length-append old a.more ∙ ap (λ (z : ℕ). z + length a.more) b.long ∙ ap (λ (z : ℕ). n * v + z) a.long ∙ sym next

    at : (q e : ℕ) → q < n + 1 → e < v → IsEntry s e (word q) (slice_index new (q * v + e))
    at q e l m = go (cases_lt q n)
      where
        go : (q < n) ⊎ (n ≤ q) → IsEntry s e (word q) (slice_index new (q * v + e))
        go (inl less) =
            let row : (q + 1) * v ≤ n * v = mul-le-mul_right v (omega (arith, less)) in
            let within : q * v + e < length old = omega (arith, row, m, b.long) in
            let same : slice_index new (q * v + e) ≡ slice_index old (q * v + e) = ap (λ (zs : List ℕ). slice_index zs (q * v + e)) a.is ∙ get_or_append_left old a.more 0 (q * v + e) within in
            subst (λ (z : ℕ). IsEntry s e (word q) z) (sym same) (b.at q e less m)
        go (inr more) =
            let same : n ≡ q = omega (arith, l, more) in
            let place : q * v + e - n * v ≡ e = omega (arith, ap (λ (z : ℕ). z * v) same) in
            let past : n * v ≤ q * v + e = omega (arith, ap (λ (z : ℕ). z * v) same) in
            let here : slice_index new (q * v + e) ≡ slice_index a.more e = ap (λ (zs : List ℕ). slice_index zs (q * v + e)) a.is ∙ get_or-append_right old a.more (n * v) (q * v + e) 0 b.long past ∙ ap (slice_index a.more) place in
            let entry : IsEntry s e (word n) (slice_index a.more e) = subst (λ (z : ℕ). IsEntry s e z (slice_index a.more e)) ew (a.at e m) in
            subst (λ (z : ℕ). IsEntry s e (word q) z) (sym here) (subst (λ (z : ℕ). IsEntry s e (word z) (slice_index a.more e)) same entry)

-- six bits of a label at most
pub six : (n : ℕ) (c : Shape) → n * label_bits c ≤ 6 * n
six n Qpsk = omega arith
six n Qam16 = omega arith
six n Qam64 = omega arith

-- there is room for the entries of a word more
pub word_fits : (s : Settings) (q len room first end : ℕ) → len ≡ q * label_bits s.shape → room ≡ first → 6 * payload s.mode ≤ first → q < end → end ≡ payload s.mode → len + label_bits s.shape ≤ room
word_fits s q len room first end long same spare less whole =
    let row : (q + 1) * label_bits s.shape ≤ payload s.mode * label_bits s.shape = mul-le-mul_right (label_bits s.shape) (omega (arith, less, whole)) in
    let all : payload s.mode * label_bits s.shape ≤ 6 * payload s.mode = six (payload s.mode) s.shape in
    omega (arith, long, same, spare, row, all)
