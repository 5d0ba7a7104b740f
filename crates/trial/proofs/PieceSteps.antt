-- A symbol fed in pieces, and the sum of the output.
use Rattle.std.proofs.Common.{◌≡◌, ℕ, zero, suc, ◌+◌, ◌-◌, ◌*◌, ◌/◌, ◌%◌, ◌^◌, ◌≤◌, ◌<◌, ◌⊎◌, inl, inr, List, [], ◌++◌, length, take, drop, length-append, length-drop, length-take-le, refl, sym, ap, ◌∙◌, subst, arith, append_assoc}
use Rattle.std.specs.Prelude.{min, sum, map, nat_le}
use Rattle.std.proofs.lemmas.Bool.{cases_lt, le-leb, lt-leb}
use Rattle.std.proofs.lemmas.List.{map_push, take_all}
use Rattle.std.proofs.lemmas.List.Sums.{sum_by_push, sum_by-append}
use Rattle.std.proofs.Math.Seq.{take-add}
use Rattle.spec_words.specs.Words.{numbers}
use Rattle.spec_words.proofs.Counting.{numbers_end, first_is}
use Rattle.mode_set.specs.StreamTable.{carriers}
use Rattle.mode_set.specs.declared.modes.Mode.{Mode}
use Rattle.mode_set.specs.declared.modes.Mode.TheVariants.{M2k, M8k}
use Rattle.mode_set.specs.declared.modes.Stream.TheVariants.{Hp, Lp}
use Rattle.mode_set.specs.declared.settings.Settings.{Settings}
use Rattle.rand_pcg.specs.Lcg.{Lcg}
use Rattle.load_gen.specs.Draws.{after, length_of, piece_of}
use Rattle.load_gen.specs.Laws.{DrawsAdd}
use Rattle.reception.specs.Cells.{symbol_length, symbols, tail}
use Rattle.reception.specs.Streams.{Final, so_far, at_end}
use Rattle.reception.specs.Feeds.{Output, Feeds, Finishes}
use Rattle.reception.specs.Laws.{nothing}
use Rattle.receiver.specs.Seen.{ReceiverState}
use Rattle.receiver.specs.Standing.{StandsFor}
use Rattle.trial.specs.Drawn.{pieces}
use Rattle.trial.specs.Fed.{byte_sum}
use Rattle.trial.specs.Feeding.{HasGiven, HasEnded}
use Rattle.trial.proofs.PacketSteps.{after_none}

-- ---- the lengths of the first n pieces
abbrev pub lengths : Lcg → ℕ → ℕ
lengths g n = sum (map (λ i. length_of (after i g)) (numbers n))

no_lengths : (g : Lcg) → lengths g 0 ≡ 0
unfolding numbers
no_lengths g = refl

more_lengths : (g : Lcg) (n : ℕ) → lengths g (n + 1) ≡ lengths g n + length_of (after n g)
more_lengths g n =
    ap (λ (z : List ℕ). sum (map (λ i. length_of (after i g)) z)) (numbers_end n)
    ∙ ap sum (map_push (λ i. length_of (after i g)) (numbers n) n)
    ∙ sum_by_push (λ (x : ℕ). x) (map (λ i. length_of (after i g)) (numbers n)) (length_of (after n g))

some : (h : Lcg) → 1 ≤ length_of h
some h = omega arith

long_enough : (g : Lcg) (n : ℕ) → n ≤ lengths g n
long_enough g zero = omega arith
long_enough g (suc n) =
    let next : n + 1 ≡ suc n = omega arith in
    up n (lengths g n) (length_of (after n g)) (lengths g (suc n)) (long_enough g n) (some (after n g)) (ap (lengths g) (sym next) ∙ more_lengths g n)
  where
    up : (n a b c : ℕ) → n ≤ a → 1 ≤ b → c ≡ a + b → suc n ≤ c
    up n a b c p q r = omega (arith, p, q, r)

-- the first `fed` pieces of a symbol were fed
pub record IsFeeding (start now : Lcg) (fed whole : ℕ) : Type 0 where
  pub count : ℕ
  pub load : now ≡ after count start
  pub reached : fed ≡ min whole (lengths start count)
  pub short : (k : ℕ) → k < count → lengths start k < whole

pub none_fed : (g : Lcg) (whole : ℕ) → IsFeeding g g 0 whole
none_fed g whole = record { count = 0; load = sym (after_none g); reached = reach (lengths g 0) (no_lengths g); short = λ k l. absurd (omega (arith, l)) }
  where
    reach : (n : ℕ) → n ≡ 0 → 0 ≡ min whole n
    reach n e = omega (arith, e)

pub piece_fed : DrawsAdd → (start now : Lcg) (fed whole piece : ℕ) → IsFeeding start now fed whole → fed < whole → piece ≡ piece_of (whole - fed) now → IsFeeding start (after 1 now) (fed + piece) whole
piece_fed add start now fed whole piece f less is = record {
  count = f.count + 1;
  load = ap (after 1) f.load ∙ add 1 f.count start;
  reached = reach (lengths start f.count) (length_of (after f.count start)) (lengths start (f.count + 1)) f.reached (more_lengths start f.count) (is ∙ ap (λ (h : Lcg). piece_of (whole - fed) h) f.load);
  short = λ k l. go k l (cases_lt k f.count);
}
  where
    reach : (a b c : ℕ) → fed ≡ min whole a → c ≡ a + b → piece ≡ min (whole - fed) b → fed + piece ≡ min whole c
    reach a b c p q r = omega (arith, less, p, q, r)

    below : (a : ℕ) → fed ≡ min whole a → a < whole
    below a p = omega (arith, less, p)

    go : (k : ℕ) → k < f.count + 1 → (k < f.count) ⊎ (f.count ≤ k) → lengths start k < whole
    go k l (inl m) = f.short k m
    go k l (inr m) = let same : f.count ≡ k = omega (arith, l, m) in subst (λ (z : ℕ). lengths start z < whole) same (below (lengths start f.count) f.reached)

few_pieces : (start now : Lcg) (fed whole : ℕ) (f : IsFeeding start now fed whole) → f.count ≤ whole
few_pieces start now fed whole f = go f.count f.short
  where
    up : (c n : ℕ) → c ≤ n → n < whole → suc c ≤ whole
    up c n l k = omega (arith, l, k)

    go : (n : ℕ) → ((k : ℕ) → k < n → lengths start k < whole) → n ≤ whole
    go zero h = omega arith
    go (suc c) h = up c (lengths start c) (long_enough start c) (h c (omega arith))

pub all_fed : (start now : Lcg) (fed whole : ℕ) → IsFeeding start now fed whole → whole ≤ fed → now ≡ after (pieces start whole) start
unfolding pieces
all_fed start now fed whole f l =
    f.load
    ∙ ap (λ (n : ℕ). after n start)
    (sym (first_is whole f.count (λ n. nat_le whole (lengths start n)) (few_pieces start now fed whole f) (λ k m. lt-leb whole (lengths start k) (f.short k m)) (λ m. le-leb whole (lengths start f.count) (reach (lengths start f.count) f.reached))))
  where
    reach : (a : ℕ) → fed ≡ min whole a → whole ≤ a
    reach a p = omega (arith, l, p)

-- ---- a piece of a symbol
fits_in : (m : Mode) (n f p : ℕ) → n % (5 * carriers m) ≡ 0 → f < 5 * carriers m → f + p ≤ 5 * carriers m → (n + f) % (5 * carriers m) + p ≤ 5 * carriers m
fits_in M2k n f p e l k = omega (arith, e, l, k)
fits_in M8k n f p e l k = omega (arith, e, l, k)

pub piece_fits : (s : Settings) (bytes symbol : List ℕ) (fed piece : ℕ) → tail s bytes ≡ 0 → length symbol ≡ symbol_length s → fed < length symbol → fed + piece ≤ length symbol
    → tail s (bytes ++ take fed symbol) + length (take (fed + piece - fed) (drop fed symbol)) ≤ symbol_length s
piece_fits s bytes symbol fed piece none long less within =
    let front : length (take fed symbol) ≡ fed = length-take-le fed symbol (omega (arith, less)) in
    let rest = length-drop fed symbol in
    let part : length (take (fed + piece - fed) (drop fed symbol)) ≡ piece = length-take-le (fed + piece - fed) (drop fed symbol) (omega (arith, rest, within)) ∙ (omega arith) in
    let all : length (bytes ++ take fed symbol) ≡ length bytes + fed = length-append bytes (take fed symbol) ∙ ap (λ (z : ℕ). length bytes + z) front in
    subst (λ (z : ℕ). z % symbol_length s + length (take (fed + piece - fed) (drop fed symbol)) ≤ symbol_length s) (sym all)
    (subst (λ (z : ℕ). (length bytes + fed) % symbol_length s + z ≤ symbol_length s) (sym part)
    (fits_in s.mode (length bytes) fed piece none (subst (λ (z : ℕ). fed < z) long less) (subst (λ (z : ℕ). fed + piece ≤ z) long within)))

pub piece_behind : (bytes symbol : List ℕ) (fed piece : ℕ) → (bytes ++ take fed symbol) ++ take (fed + piece - fed) (drop fed symbol) ≡ bytes ++ take (fed + piece) symbol
piece_behind bytes symbol fed piece =
    let e : fed + piece - fed ≡ piece = omega arith in
    append_assoc bytes (take fed symbol) (take (fed + piece - fed) (drop fed symbol))
    ∙ ap (λ (z : ℕ). bytes ++ (take fed symbol ++ take z (drop fed symbol))) e
    ∙ ap (λ (z : List ℕ). bytes ++ z) (sym (take-add fed piece symbol))

-- ---- sums
mod_more : (a b : ℕ) → (a + b) % 2 ^ 32 ≡ (a % 2 ^ 32 + b) % 2 ^ 32
mod_more a b = omega arith

pub more_summed : (xs ys : List ℕ) → byte_sum (xs ++ ys) ≡ (byte_sum xs + sum ys) % 2 ^ 32
more_summed xs ys = ap (λ (n : ℕ). n % 2 ^ 32) (sum_by-append (λ (x : ℕ). x) xs ys) ∙ mod_more (sum xs) (sum ys)

pub summed : (before more after : List ℕ) (old new : ℕ) → old ≡ byte_sum before → new ≡ (old + sum more) % 2 ^ 32 → after ≡ before ++ more → new ≡ byte_sum after
summed before more after old new e f g = f ∙ ap (λ (n : ℕ). (n + sum more) % 2 ^ 32) e ∙ sym (more_summed before more) ∙ ap byte_sum (sym g)

-- ---- the output of a receiver so far
pub nothing_given : (x : ReceiverState) → StandsFor so_far x [] nothing → HasGiven x [] 0 0
nothing_given x stands = record { given = nothing; stands = stands; hp_sum = refl; lp_sum = refl }

pub more_given : (x x' : ReceiverState) (bytes piece : List ℕ) (n hp lp hp' lp' : ℕ) (out : Output) (h : HasGiven x bytes hp lp)
    → tail x.settings bytes + length piece ≤ symbol_length x.settings → Feeds (StandsFor so_far x') x.settings bytes piece h.given n out
    → hp' ≡ (hp + sum out.hp) % 2 ^ 32 → lp' ≡ (lp + sum out.lp) % 2 ^ 32 → HasGiven x' (bytes ++ piece) hp' lp'
more_given x x' bytes piece n hp lp hp' lp' out h fits f e e' =
    let count = f.count in
    let all : length piece ≤ n = omega (arith, count, fits) in
    let whole : take n piece ≡ piece = take_all n piece all in
    record {
      given = f.after;
      stands = subst (λ (z : List ℕ). StandsFor so_far x' (bytes ++ z) f.after) whole f.stands;
      hp_sum = summed (h.given.packets Hp) out.hp (f.after.packets Hp) hp hp' h.hp_sum e (f.follows.packets Hp);
      lp_sum = summed (h.given.packets Lp) out.lp (f.after.packets Lp) lp lp' h.lp_sum e' (f.follows.packets Lp);
    }

pub all_given : (x x' : ReceiverState) (bytes : List ℕ) (hp lp hp' lp' : ℕ) (out : Output) (h : HasGiven x bytes hp lp) → x'.settings ≡ x.settings
    → Finishes (StandsFor at_end x') x.settings bytes h.given out → hp' ≡ (hp + sum out.hp) % 2 ^ 32 → lp' ≡ (lp + sum out.lp) % 2 ^ 32 → HasEnded x' bytes hp' lp'
all_given x x' bytes hp lp hp' lp' out h same f e e' = record {
  given = f.after;
  stands = f.ends;
  final = subst (λ (s : Settings). Final s bytes f.after) (sym same) f.final;
  hp_sum = summed (h.given.packets Hp) out.hp (f.after.packets Hp) hp hp' h.hp_sum e (f.packets Hp);
  lp_sum = summed (h.given.packets Lp) out.lp (f.after.packets Lp) lp lp' h.lp_sum e' (f.packets Lp);
}

-- part of a symbol after whole symbols is no whole symbol
part_of : (m : Mode) (n f : ℕ) → n % (5 * carriers m) ≡ 0 → f < 5 * carriers m → (n + f) / (5 * carriers m) ≡ n / (5 * carriers m)
part_of M2k n f e l = omega (arith, e, l)
part_of M8k n f e l = omega (arith, e, l)

pub part_of_a_symbol : (s : Settings) (bytes part : List ℕ) → tail s bytes ≡ 0 → length part < symbol_length s → symbols s (bytes ++ part) ≡ symbols s bytes
part_of_a_symbol s bytes part whole l = ap (λ (n : ℕ). n / symbol_length s) (length-append bytes part) ∙ part_of s.mode (length bytes) (length part) whole l
