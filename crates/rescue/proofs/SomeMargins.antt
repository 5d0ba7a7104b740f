-- Each step of a stream has a margin.
use Rattle.std.proofs.Common.{◌≡◌, ℕ, zero, suc, ◌+◌, ◌*◌, ◌/◌, ◌%◌, ◌<◌, ◌≤◌, ◌==◌, Bool, true, false, cond, List, [], ◌∷◌, ◌++◌, length, take, drop, ◌⊎◌, inl, inr, refl, sym, ap, ◌∙◌, arith, get_or, slice_index, length-append, length-drop}
use Rattle.std.specs.Prelude.{Option, replicate}
use Rattle.std.specs.Int.{abs_diff}
use Rattle.std.specs.declared.option.Option.TheVariants.{None, Some}
use Rattle.std.proofs.lemmas.Bool.{cases_lt}
use Rattle.std.proofs.lemmas.List.{length-take, length-replicate, take_at, get_or-replicate, get_or-append-add}
use Rattle.spec_words.specs.Bits.{bit}
use Rattle.code_paths.specs.declared.costs.CostPair.{CostPair}
use Rattle.code_paths.specs.Paths.{total, Starts, IsPath}
use Rattle.code_paths.specs.Uniqueness.{IsStart}
use Rattle.code_paths.proofs.Deciding.{Decided, same_bit, same_list}
use Rattle.bit_margin.specs.Margin.{LeastWith, IsMargin, IsMarginAt, window, window_start}
use Rattle.reception.proofs.Searching.{both}
use Rattle.reception.specs.Streams.{Moment, so_far, at_end}
use Rattle.rescue.specs.Known.{settled_blocks, AreKnown}

-- ---- searches among lists of bits

-- n bits
record Bits (n : ℕ) (P : List Bool → Type 0) : Type 0 where
  bits : List Bool
  long : length bits ≡ n
  holds : P bits

find_bits : (n : ℕ) (P : List Bool → Type 0) → ((e : List Bool) → length e ≡ n → Decided (P e)) → Decided (Bits n P)
find_bits zero P d = go (d [] refl)
  where
    none : (P [] → ⊥) → (e : List Bool) → length e ≡ 0 → P e → ⊥
    none m [] l p = m p
    none m (b ∷ e) l p = absurd (omega arith)

    go : Decided (P []) → Decided (Bits 0 P)
    go (inl p) = inl (record { bits = []; long = refl; holds = p })
    go (inr m) = inr (λ f. none m f.bits f.long f.holds)
find_bits (suc n) P d = go (find_bits n (λ e. P (true ∷ e)) (λ e l. d (true ∷ e) (ap suc l))) (find_bits n (λ e. P (false ∷ e)) (λ e l. d (false ∷ e) (ap suc l)))
  where
    none : (Bits n (λ e. P (true ∷ e)) → ⊥) → (Bits n (λ e. P (false ∷ e)) → ⊥) → (e : List Bool) → length e ≡ suc n → P e → ⊥
    none f g [] l p = absurd (omega arith)
    none f g (true ∷ e) l p = f (record { bits = e; long = omega arith; holds = p })
    none f g (false ∷ e) l p = g (record { bits = e; long = omega arith; holds = p })

    go : Decided (Bits n (λ e. P (true ∷ e))) → Decided (Bits n (λ e. P (false ∷ e))) → Decided (Bits (suc n) P)
    go (inl f) g = inl (record { bits = true ∷ f.bits; long = ap suc f.long; holds = f.holds })
    go (inr f) (inl g) = inl (record { bits = false ∷ g.bits; long = ap suc g.long; holds = g.holds })
    go (inr f) (inr g) = inr (λ h. none f g h.bits h.long h.holds)

-- ---- a least path with a bit

starts : (a : Option (List Bool)) (p : List Bool) → Decided (Starts a p)
starts None p = inl tt
starts (Some r) p = same_list same_bit (take 6 p) r

less : (m n : ℕ) → Decided (m < n)
less m n = go (cases_lt m n)
  where
    go : (m < n) ⊎ (n ≤ m) → Decided (m < n)
    go (inl l) = inl l
    go (inr l) = inr (λ k. absurd (omega (arith, l, k)))

-- a path whose bit at step t is b
record PathWith (a : Option (List Bool)) (c : List CostPair) (t : ℕ) (b : Bool) : Type 0 where
  path : List Bool
  is_path : IsPath a c path
  has : bit path (6 + t) ≡ b

-- the register, and the same bit at every step
from_register : (r : List Bool) (c : List CostPair) (b : Bool) → length r ≡ 6 → length (r ++ replicate (length c) b) ≡ 6 + length c
from_register r c b l = omega (arith, length-append r (replicate (length c) b), length-replicate (length c) b, l)

bit_behind : (r : List Bool) (n t : ℕ) (b : Bool) → length r ≡ 6 → t < n → bit (r ++ replicate n b) (6 + t) ≡ b
bit_behind r n t b l k = ap (λ i. get_or (r ++ replicate n b) (i + t) false) (sym l) ∙ get_or-append-add r (replicate n b) t false ∙ get_or-replicate n t b false k

some_with : (a : Option (List Bool)) (c : List CostPair) (t : ℕ) (b : Bool) → IsStart a → t < length c → PathWith a c t b
some_with None c t b s l =
    let r : List Bool = replicate 6 false in
    record { path = r ++ replicate (length c) b; is_path = record { long = from_register r c b refl; start = tt }; has = bit_behind r (length c) t b refl l }
some_with (Some r) c t b s l =
    record { path = r ++ replicate (length c) b; is_path = record { long = from_register r c b s; start = take_at r (replicate (length c) b) 6 s }; has = bit_behind r (length c) t b s l }

module _ (a : Option (List Bool)) (c : List CostPair) (t : ℕ) (b : Bool) where
  -- a path with the bit that costs less
  abbrev Better : ℕ → List Bool → Type 0
  Better m q = Starts a q × ((bit q (6 + t) ≡ b) × (total c q < m))

  better : (m : ℕ) → Decided (Bits (6 + length c) (Better m))
  better m = find_bits (6 + length c) (Better m) (λ q l. both (starts a q) (both (same_bit (bit q (6 + t)) b) (less (total c q) m)))

  none : (p : PathWith a c t b) → (Bits (6 + length c) (Better (total c p.path)) → ⊥) → (q : List Bool) → IsPath a c q → bit q (6 + t) ≡ b → (total c q < total c p.path) ⊎ (total c p.path ≤ total c q) → total c p.path ≤ total c q
  none p n q i e (inr k) = k
  none p n q i e (inl k) = absurd (n (record { bits = q; long = i.long; holds = (i.start, (e, k)) }))

  is_least : (p : PathWith a c t b) → (Bits (6 + length c) (Better (total c p.path)) → ⊥) → (m : ℕ) × LeastWith a c t b m
  is_least p n = (total c p.path, record { path = p.path; is_path = p.is_path; has = p.has; is = refl; least = λ q i e. none p n q i e (cases_lt (total c q) (total c p.path)) })

  -- from a path that costs at most `most`
  least_from : (most : ℕ) (p : PathWith a c t b) → total c p.path ≤ most → (m : ℕ) × LeastWith a c t b m
  least_from zero p l = is_least p (λ f. absurd (omega (arith, l, f.holds.1.1)))
  least_from (suc most) p l = go (better (total c p.path)) (λ q e. least_from most q e)
    where
      go : Decided (Bits (6 + length c) (Better (total c p.path))) → ((q : PathWith a c t b) → total c q.path ≤ most → (m : ℕ) × LeastWith a c t b m) → (m : ℕ) × LeastWith a c t b m
      go (inr n) again = is_least p n
      go (inl f) again = again (record { path = f.bits; is_path = record { long = f.long; start = f.holds.0 }; has = f.holds.1.0 }) (omega (arith, l, f.holds.1.1))

  some_least_with : IsStart a → t < length c → (m : ℕ) × LeastWith a c t b m
  some_least_with s l = let p = some_with a c t b s l in least_from (total c p.path) p (omega arith)

-- ---- margins

some_margin : (a : Option (List Bool)) (c : List CostPair) (t : ℕ) → IsStart a → t < length c → (m : ℕ) × IsMargin a c t m
some_margin a c t s l =
    let x = some_least_with a c t false s l in
    let y = some_least_with a c t true s l in
    (abs_diff x.0 y.0, record { with_zero = x.0; with_one = y.0; zero = x.1; one = y.1; is = refl })

starts_window : (a : Option (List Bool)) (k : ℕ) → IsStart a → IsStart (window_start a k)
starts_window a k s = go (k == 0)
  where
    go : (first : Bool) → IsStart (cond first a None)
    go true = s
    go false = tt

in_window : (c : List CostPair) (t : ℕ) → t < length c → t % 1024 < length (window c (t / 1024))
in_window c t l = omega (arith, l, length-take 1280 (drop (1024 * (t / 1024)) c), length-drop (1024 * (t / 1024)) c)

some_margin_at : (a : Option (List Bool)) (c : List CostPair) (t : ℕ) → IsStart a → t < length c → (m : ℕ) × IsMarginAt a c t m
some_margin_at a c t s l = some_margin (window_start a (t / 1024)) (window c (t / 1024)) (t % 1024) (starts_window a (t / 1024) s) (in_window c t l)

-- what exists for each of the first indices forms a list
listed : (P : ℕ → ℕ → Type 0) (n : ℕ) → ((t : ℕ) → t < n → (m : ℕ) × P t m) → (ms : List ℕ) × (length ms ≡ n) × ((t : ℕ) → t < n → P t (slice_index ms t))
listed P zero h = ([], refl, λ t l. absurd (omega (arith, l)))
listed P (suc n) h =
    let m = h 0 (omega arith) in
    let r = listed (λ t. P (suc t)) n (λ t l. h (suc t) (omega (arith, l))) in
    (m.0 ∷ r.0, ap suc r.1, each m.0 m.1 r.0 r.2)
  where
    each : (m : ℕ) → P 0 m → (ms : List ℕ) → ((t : ℕ) → t < n → P (suc t) (slice_index ms t)) → (t : ℕ) → t < suc n → P t (slice_index (m ∷ ms) t)
    each m p ms f zero l = p
    each m p ms f (suc t) l = f t (omega (arith, l))

settled_few : (n t : ℕ) → t < 1024 * settled_blocks n → t < n
settled_few n t l = omega (arith, l)

pub some_known : (moment : Moment) (a : Option (List Bool)) (c : List CostPair) → IsStart a → (ms : List ℕ) × AreKnown moment a c ms
some_known so_far a c s =
    let r = listed (IsMarginAt a c) (1024 * settled_blocks (length c)) (λ t l. some_margin_at a c t s (settled_few (length c) t l)) in
    (r.0, record { long = r.1; each = λ t l. r.2 t (omega (arith, l, r.1)) })
some_known at_end a c s =
    let r = listed (IsMarginAt a c) (length c) (λ t l. some_margin_at a c t s l) in
    (r.0, record { long = r.1; each = r.2 })
