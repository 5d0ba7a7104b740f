-- The symbols that are compared from start zero.
use Rattle.std.proofs.Common.{◌≡◌, ℕ, zero, suc, ◌+◌, ◌*◌, ◌/◌, ◌<◌, ◌≤◌, Bool, true, false, cond, not, ◌&&◌, ◌||◌, List, length, ◌⊎◌, inl, inr, refl, sym, ap, ap₂, ◌∙◌, subst, arith}
use Rattle.std.specs.Prelude.{IsTrue, count_by, nat_le}
use Rattle.std.specs.List.{range_with_len}
use Rattle.std.proofs.lemmas.Bool.{cases_lt, le-leb, cases_Bool}
use Rattle.std.proofs.lemmas.List.{length-take-le}
use Rattle.std.proofs.lemmas.List.FromFn.{length-range_with_len}
use Rattle.std.proofs.lemmas.List.Sums.{sum_by-cons, count_by-le-length}
use Rattle.mode_set.specs.Kept.{is_flat, is_qpsk}
use Rattle.mode_set.specs.StreamTable.{payload, carriers, width, need, rate, has_stream, steps_in_period, sent_in_period}
use Rattle.mode_set.specs.declared.modes.Mode.{Mode}
use Rattle.mode_set.specs.declared.modes.Mode.TheVariants.{M2k, M8k}
use Rattle.mode_set.specs.declared.modes.Shape.{Shape}
use Rattle.mode_set.specs.declared.modes.Shape.TheVariants.{Qpsk, Qam16, Qam64}
use Rattle.mode_set.specs.declared.modes.Hierarchy.{Hierarchy}
use Rattle.mode_set.specs.declared.modes.Hierarchy.TheVariants.{Flat, Alpha1, Alpha2, Alpha4}
use Rattle.mode_set.specs.declared.modes.Rate.{Rate}
use Rattle.mode_set.specs.declared.modes.Rate.TheVariants.{R1of2, R2of3, R3of4, R5of6, R7of8}
use Rattle.mode_set.specs.declared.modes.Start.{Start}
use Rattle.mode_set.specs.declared.modes.Start.TheVariants.{Zero}
use Rattle.mode_set.specs.declared.modes.Stream.{Stream}
use Rattle.mode_set.specs.declared.modes.Stream.TheVariants.{Hp, Lp}
use Rattle.mode_set.specs.declared.settings.Settings.{Settings}
use Rattle.symbol_parameters.specs.Spans.{settings_in, steps_of, steps_before}
use Rattle.symbol_parameters.specs.Laws.{StepsOfOneMore, StepsGrow}
use Rattle.reception.specs.Cells.{symbol_length, symbols}
use Rattle.reception.specs.Costs.{costs}
use Rattle.reception.specs.Laws.{CostsAreSteps}
use Rattle.reception.specs.Streams.{memory, start_of}
use Rattle.measurement.specs.Known.{first_symbols, IsKnown, is_present, is_zero, suffices, is_compared}
use Rattle.measurement.specs.SuperFrames.{Knowns, compared_in}
use Rattle.law_measurement.specs.Own.{pauses_after, SymbolsAreCompared}
use Rattle.law_measurement.proofs.Long.{ended_long, given_long}

-- the known facts on steps
pub record AreStepped : Type 0 where
  pub more : StepsOfOneMore
  pub grow : StepsGrow
  pub long : CostsAreSteps

-- ---- an existing stream has at least 1512 steps a symbol

two_wide : (c : Shape) (h : Hierarchy) (σ : Stream) → (IsTrue (is_qpsk c) → IsTrue (is_flat h)) → IsTrue (has_stream h σ) → 2 ≤ width c h σ
two_wide Qpsk Flat Hp kept there = omega arith
two_wide Qam16 Flat Hp kept there = omega arith
two_wide Qam64 Flat Hp kept there = omega arith
two_wide c Flat Lp kept there = absurd (cc there)
two_wide c Alpha1 Hp kept there = omega arith
two_wide c Alpha2 Hp kept there = omega arith
two_wide c Alpha4 Hp kept there = omega arith
two_wide Qpsk Alpha1 Lp kept there = absurd (cc (kept refl))
two_wide Qpsk Alpha2 Lp kept there = absurd (cc (kept refl))
two_wide Qpsk Alpha4 Lp kept there = absurd (cc (kept refl))
two_wide Qam16 Alpha1 Lp kept there = omega arith
two_wide Qam16 Alpha2 Lp kept there = omega arith
two_wide Qam16 Alpha4 Lp kept there = omega arith
two_wide Qam64 Alpha1 Lp kept there = omega arith
two_wide Qam64 Alpha2 Lp kept there = omega arith
two_wide Qam64 Alpha4 Lp kept there = omega arith

many_steps : (m : Mode) (w : ℕ) (r : Rate) → 2 ≤ w → 1512 ≤ payload m * w * steps_in_period r / sent_in_period r
many_steps M2k w R1of2 l = omega (arith, l)
many_steps M2k w R2of3 l = omega (arith, l)
many_steps M2k w R3of4 l = omega (arith, l)
many_steps M2k w R5of6 l = omega (arith, l)
many_steps M2k w R7of8 l = omega (arith, l)
many_steps M8k w R1of2 l = omega (arith, l)
many_steps M8k w R2of3 l = omega (arith, l)
many_steps M8k w R3of4 l = omega (arith, l)
many_steps M8k w R5of6 l = omega (arith, l)
many_steps M8k w R7of8 l = omega (arith, l)

some_steps : (s : Settings) (σ : Stream) → IsTrue (has_stream s.hierarchy σ) → 1512 ≤ need s σ
some_steps s σ there = many_steps s.mode (width s.shape s.hierarchy σ) (rate s σ) (two_wide s.shape s.hierarchy σ s.kept.qpsk there)

-- ---- the number of known bits

first_length : (m : Mode) (n len : ℕ) → n ≤ len / (5 * carriers m) → (n * (5 * carriers m) ≤ len) × (n * (5 * carriers m) / (5 * carriers m) ≡ n)
first_length M2k n len l = (omega (arith, l), omega arith)
first_length M8k n len l = (omega (arith, l), omega arith)

first_count : (s : Settings) (bytes : List ℕ) (n : ℕ) → n ≤ symbols s bytes → symbols s (first_symbols s n bytes) ≡ n
first_count s bytes n l =
    let few = first_length s.mode n (length bytes) l in
    ap (λ (z : ℕ). z / symbol_length s) (length-take-le (n * symbol_length s) bytes few.0) ∙ few.1

known_so_far : AreStepped → (s : Settings) (bytes : List ℕ) (σ : Stream) (m : ℕ) (bits : List Bool) → IsKnown s bytes σ m bits → m + 4 ≤ symbols s bytes → steps_before s σ (m + 4) ≤ length bits + 2048
known_so_far laws s bytes σ m bits k l =
    let first = first_symbols s (m + 4) bytes in
    let long : length (costs s first σ) ≡ steps_before s σ (m + 4) = laws.long s first σ ∙ ap (steps_before s σ) (first_count s bytes (m + 4) l) in
    omega (arith, long, given_long memory (start_of s.start) (costs s first σ) bits (k.so_far l))

known_at_end : AreStepped → (s : Settings) (bytes : List ℕ) (σ : Stream) (m : ℕ) (bits : List Bool) → IsKnown s bytes σ m bits → symbols s bytes < m + 4 → length bits ≡ steps_before s σ (symbols s bytes)
known_at_end laws s bytes σ m bits k l = ended_long memory (start_of s.start) (costs s bytes σ) bits (k.at_end l) ∙ laws.long s bytes σ

-- ---- they reach the end of a symbol

-- symbols of one super-frame have its settings
frame_of : (j m : ℕ) → 272 * j ≤ m → m < 272 * (j + 1) → m / 272 ≡ j
frame_of j m p q = omega (arith, p, q)

steps_in : (s : Settings) (σ : Stream) (j m : ℕ) → 272 * j ≤ m → m < 272 * (j + 1) → IsTrue (has_stream (settings_in s j).hierarchy σ) → 1512 ≤ steps_of s σ m
steps_in s σ j m p q there = subst (λ (z : ℕ). 1512 ≤ need (settings_in s z) σ) (sym (frame_of j m p q)) (some_steps (settings_in s j) σ there)

reach : AreStepped → (s : Settings) (bytes : List ℕ) (σ : Stream) (n j m : ℕ) (bits : List Bool) → symbols s bytes ≡ 272 * n → j < n → 272 * j ≤ m → m < 272 * (j + 1) → IsKnown s bytes σ m bits → IsTrue (has_stream (settings_in s j).hierarchy σ)
    → (m + 2 < 272 * (j + 1)) ⊎ ((j + 1 ≡ n) ⊎ IsTrue (has_stream (settings_in s (j + 1)).hierarchy σ)) → steps_before s σ (m + 1) ≤ length bits
reach laws s bytes σ n j m bits whole less p q k here next = go (cases_lt (symbols s bytes) (m + 4)) next
  where
    next_1 : steps_before s σ (m + 2) ≡ steps_before s σ (m + 1) + steps_of s σ (m + 1)
    next_1 = let e : m + 2 ≡ m + 1 + 1 = omega arith in ap (steps_before s σ) e ∙ laws.more s σ (m + 1)

    next_2 : steps_before s σ (m + 3) ≡ steps_before s σ (m + 2) + steps_of s σ (m + 2)
    next_2 = let e : m + 3 ≡ m + 2 + 1 = omega arith in ap (steps_before s σ) e ∙ laws.more s σ (m + 2)

    next_3 : steps_before s σ (m + 4) ≡ steps_before s σ (m + 3) + steps_of s σ (m + 3)
    next_3 = let e : m + 4 ≡ m + 3 + 1 = omega arith in ap (steps_before s σ) e ∙ laws.more s σ (m + 3)

    two_here : m + 2 < 272 * (j + 1) → m + 4 ≤ symbols s bytes → steps_before s σ (m + 1) ≤ length bits
    two_here l h =
        let one = steps_in s σ j (m + 1) (omega (arith, p)) (omega (arith, l)) here in
        let two = steps_in s σ j (m + 2) (omega (arith, p)) l here in
        omega (arith, next_1, next_2, next_3, one, two, known_so_far laws s bytes σ m bits k h)

    go : (symbols s bytes < m + 4) ⊎ (m + 4 ≤ symbols s bytes) → (m + 2 < 272 * (j + 1)) ⊎ ((j + 1 ≡ n) ⊎ IsTrue (has_stream (settings_in s (j + 1)).hierarchy σ)) → steps_before s σ (m + 1) ≤ length bits
    go (inl h) c = omega (arith, known_at_end laws s bytes σ m bits k h, laws.grow s σ (m + 1) (symbols s bytes) (omega (arith, whole, less, q)))
    go (inr h) (inl l) = two_here l h
    go (inr h) (inr (inl e)) = two_here (omega (arith, h, whole, e)) h
    go (inr h) (inr (inr there)) = elim (cases_lt (m + 2) (272 * (j + 1))) [
      | inl l ↦ two_here l h
      | inr l ↦
          let two = steps_in s σ (j + 1) (m + 2) (omega (arith, l)) (omega (arith, q)) there in
          let three = steps_in s σ (j + 1) (m + 3) (omega (arith, l)) (omega (arith, q)) there in
          omega (arith, next_1, next_2, next_3, two, three, known_so_far laws s bytes σ m bits k h)
    ]

-- ---- symbols

suffices_if : (s : Settings) (m : ℕ) (known : Stream → List Bool) (σ : Stream) → s.start ≡ Zero → (IsTrue (is_present s m σ) → steps_before s σ (m + 1) ≤ length (known σ)) → suffices s m known σ ≡ true
suffices_if s m known σ e h = go (is_present s m σ) (λ p. le-leb (steps_before s σ (m + 1)) (length (known σ)) (h p))
  where
    start : (is_zero s.start || nat_le 6 (steps_before s σ m)) ≡ true
    start = ap (λ (z : Start). is_zero z || nat_le 6 (steps_before s σ m)) e

    go : (b : Bool) → (IsTrue b → nat_le (steps_before s σ (m + 1)) (length (known σ)) ≡ true) → (not b || (nat_le (steps_before s σ (m + 1)) (length (known σ)) && (is_zero s.start || nat_le 6 (steps_before s σ m)))) ≡ true
    go false f = refl
    go true f = ap₂ (λ (x y : Bool). x && y) (f refl) start

both_suffice : (s : Settings) (m : ℕ) (known : Stream → List Bool) → suffices s m known Hp ≡ true → suffices s m known Lp ≡ true → is_compared s m known ≡ true
unfolding is_compared
both_suffice s m known p q = ap₂ (λ (x y : Bool). x && y) p q

-- LP continues, or pauses
goes_on : (s : Settings) (j : ℕ) → IsTrue (has_stream (settings_in s j).hierarchy Lp) → IsTrue (has_stream (settings_in s (j + 1)).hierarchy Lp) ⊎ (pauses_after s j ≡ true)
goes_on s j here = go (cases_Bool (has_stream (settings_in s (j + 1)).hierarchy Lp))
  where
    go : (has_stream (settings_in s (j + 1)).hierarchy Lp ≡ true) ⊎ (has_stream (settings_in s (j + 1)).hierarchy Lp ≡ false) → IsTrue (has_stream (settings_in s (j + 1)).hierarchy Lp) ⊎ (pauses_after s j ≡ true)
    go (inl e) = inl e
    go (inr e) = inr (ap₂ (λ (x y : Bool). x && not y) here e)

at_least : (p : ℕ → Bool) (a n k : ℕ) → k ≤ n → ((i : ℕ) → a ≤ i → i < a + k → p i ≡ true) → k ≤ count_by p (range_with_len a n)
at_least p a n zero l h = omega arith
at_least p a zero (suc k) l h = absurd (omega (arith, l))
at_least p a (suc n) (suc k) l h =
    let rest = at_least p (a + 1) n k (omega (arith, l)) (λ i u v. h i (omega (arith, u)) (omega (arith, v))) in
    let here : ◌≡◌ {A = ℕ} (cond (p a) 1 0) 1 = ap (λ (b : Bool). cond b 1 0) (h a (omega arith) (omega arith)) in
    omega (arith, sum_by-cons (λ i. cond (p i) 1 0) a (range_with_len (a + 1) n), rest, here)

at_most : (p : ℕ → Bool) (a n : ℕ) → count_by p (range_with_len a n) ≤ n
at_most p a n = omega (arith, count_by-le-length p (range_with_len a n), length-range_with_len a n)

as_great : (k c n : ℕ) → k ≡ c → n ≤ c → n ≤ k
as_great k c n e l = omega (arith, e, l)

as_little : (k c n : ℕ) → k ≡ c → c ≤ n → k ≤ n
as_little k c n e l = omega (arith, e, l)

as_great_as : (k c n : ℕ) → k ≡ c → n ≤ c → c ≤ n → k ≡ n
as_great_as k c n e l m = omega (arith, e, l, m)

most_of_all : 270 ≤ 272
most_of_all = omega arith

all_of_all : 272 ≤ 272
all_of_all = omega arith

next_frame : (m j : ℕ) → m < 272 * j + 270 → m < 272 * (j + 1)
next_frame m j l = omega (arith, l)

not_last : (m j : ℕ) → m < 272 * j + 270 → m + 2 < 272 * (j + 1)
not_last m j l = omega (arith, l)

last_frame : (m j : ℕ) → m < 272 * j + 272 → m < 272 * (j + 1)
last_frame m j l = omega (arith, l)

module _ (laws : AreStepped) (s : Settings) (bytes : List ℕ) (n j : ℕ) (start : s.start ≡ Zero) (whole : symbols s bytes ≡ 272 * n) (less : j < n) (known : Knowns) (are : (m : ℕ) (σ : Stream) → 272 * j ≤ m → m < 272 * (j + 1) → IsKnown s bytes σ m (known m σ)) where
  here_is : (m : ℕ) (σ : Stream) → 272 * j ≤ m → m < 272 * (j + 1) → IsTrue (is_present s m σ) → IsTrue (has_stream (settings_in s j).hierarchy σ)
  here_is m σ p q there = subst (λ (z : ℕ). IsTrue (has_stream (settings_in s z).hierarchy σ)) (frame_of j m p q) there

  compared : (m : ℕ) → 272 * j ≤ m → m < 272 * (j + 1) → (m + 2 < 272 * (j + 1)) ⊎ (pauses_after s j ≡ true → j + 1 ≡ n) → is_compared s m (known m) ≡ true
  compared m p q c =
      both_suffice s m (known m)
      (suffices_if s m (known m) Hp start (λ there. reach laws s bytes Hp n j m (known m Hp) whole less p q (are m Hp p q) (here_is m Hp p q there) (inr (inr refl))))
      (suffices_if s m (known m) Lp start (λ there. reach laws s bytes Lp n j m (known m Lp) whole less p q (are m Lp p q) (here_is m Lp p q there) (lp (here_is m Lp p q there) c)))
    where
      lp : IsTrue (has_stream (settings_in s j).hierarchy Lp) → (m + 2 < 272 * (j + 1)) ⊎ (pauses_after s j ≡ true → j + 1 ≡ n) → (m + 2 < 272 * (j + 1)) ⊎ ((j + 1 ≡ n) ⊎ IsTrue (has_stream (settings_in s (j + 1)).hierarchy Lp))
      lp there (inl l) = inl l
      lp there (inr f) = inr (elim (goes_on s j there) [ inl t ↦ inr t | inr e ↦ inl (f e) ])

  all_compared : (symbols_here : ℕ) → symbols_here ≡ compared_in s known j → (270 ≤ symbols_here) × (symbols_here ≤ 272) × ((pauses_after s j ≡ true → j + 1 ≡ n) → symbols_here ≡ 272)
  all_compared k e =
      let few : compared_in s known j ≤ 272 = at_most (λ m. is_compared s m (known m)) (272 * j) 272 in
      let most : 270 ≤ compared_in s known j = at_least (λ m. is_compared s m (known m)) (272 * j) 272 270 most_of_all (λ m p q. compared m p (next_frame m j q) (inl (not_last m j q))) in
      (as_great k (compared_in s known j) 270 e most, as_little k (compared_in s known j) 272 e few, λ f. as_great_as k (compared_in s known j) 272 e (every f) few)
    where
      every : (pauses_after s j ≡ true → j + 1 ≡ n) → 272 ≤ compared_in s known j
      every f = at_least (λ m. is_compared s m (known m)) (272 * j) 272 272 all_of_all (λ m p q. compared m p (last_frame m j q) (inr f))

pub symbols_are_compared : AreStepped → SymbolsAreCompared
symbols_are_compared laws s bytes n j f start whole less a =
    let c = all_compared laws s bytes n j start whole less a.known (λ m σ p q. a.are_known m σ (omega (arith, p)) q) f.symbols a.compared in
    record { most = c.0; few = c.1; all = c.2 }
