-- The number of super-frames is the least that suffices.
use Rattle.std.proofs.Common.{◌≡◌, ℕ, ◌+◌, ◌-◌, ◌*◌, ◌/◌, ◌<◌, ◌≤◌, ◌⊎◌, inl, inr, [], refl, sym, ap, ◌∙◌, subst, arith, Bool, true, false, IsTrue, max, not}
use Rattle.std.proofs.lemmas.Nat.{le-div}
use Rattle.std.proofs.lemmas.Bool.{cases_lt}
use Rattle.std.proofs.Math.Nat.{mul-le-mul_right, le-max_left, le-max_right, max-le}
use Rattle.std.specs.Prelude.{if◌then◌else◌, Option, Some, None}
use Rattle.spec_words.specs.Words.{rounded_up}
use Rattle.mode_set.specs.Kept.{is_flat, is_qpsk}
use Rattle.mode_set.specs.Plans.{entries_of}
use Rattle.mode_set.specs.StreamTable.{payload, width, has_stream, steps_in_period, sent_in_period, words_per_super_frame, rate}
use Rattle.mode_set.specs.declared.modes.Mode.{Mode}
use Rattle.mode_set.specs.declared.modes.Mode.TheVariants.{M2k, M8k}
use Rattle.mode_set.specs.declared.modes.Shape.{Shape}
use Rattle.mode_set.specs.declared.modes.Shape.TheVariants.{Qpsk, Qam16, Qam64}
use Rattle.mode_set.specs.declared.modes.Hierarchy.{Hierarchy}
use Rattle.mode_set.specs.declared.modes.Hierarchy.TheVariants.{Flat, Alpha1, Alpha2, Alpha4}
use Rattle.mode_set.specs.declared.modes.Rate.{Rate}
use Rattle.mode_set.specs.declared.modes.Rate.TheVariants.{R1of2, R2of3, R3of4, R5of6, R7of8}
use Rattle.mode_set.specs.declared.modes.Stream.{Stream}
use Rattle.mode_set.specs.declared.modes.Stream.TheVariants.{Hp, Lp}
use Rattle.mode_set.specs.declared.settings.Settings.{Settings}
use Rattle.symbol_parameters.specs.Spans.{exists_in, words_before}
use Rattle.symbol_parameters.specs.Laws.{WordsGrow}
use Rattle.transmission.specs.SuperFrames.{Suffices, AreSuperFrames, IsLength, frames_by_formula, frames_by_formula_for, super_frames}
use Rattle.transmission.specs.Laws.{TheNumberIsFound, OneLength, TooFew, Enough, ConstantFrames}
use Rattle.transmission.proofs.Rounding.{enough, least}

positive : (m : Mode) (r : Rate) (w : ℕ) → 2 ≤ w → 0 < 272 * (payload m * w * steps_in_period r / sent_in_period r) / 1632
positive M2k R1of2 w l = omega arith
positive M2k R2of3 w l = omega arith
positive M2k R3of4 w l = omega arith
positive M2k R5of6 w l = omega arith
positive M2k R7of8 w l = omega arith
positive M8k R1of2 w l = omega arith
positive M8k R2of3 w l = omega arith
positive M8k R3of4 w l = omega arith
positive M8k R5of6 w l = omega arith
positive M8k R7of8 w l = omega arith

wide_hp : (c : Shape) (h : Hierarchy) → 2 ≤ width c h Hp
wide_hp Qpsk Flat = omega arith
wide_hp Qam16 Flat = omega arith
wide_hp Qam64 Flat = omega arith
wide_hp c Alpha1 = omega arith
wide_hp c Alpha2 = omega arith
wide_hp c Alpha4 = omega arith

wide_lp : (c : Shape) (h : Hierarchy) → (IsTrue (is_qpsk c) → IsTrue (is_flat h)) → IsTrue (has_stream h Lp) → 2 ≤ width c h Lp
wide_lp c Flat kept has = cc
wide_lp Qpsk Alpha1 kept has = let no_hierarchy : false ≡ true = kept refl in cc
wide_lp Qpsk Alpha2 kept has = let no_hierarchy : false ≡ true = kept refl in cc
wide_lp Qpsk Alpha4 kept has = let no_hierarchy : false ≡ true = kept refl in cc
wide_lp Qam16 Alpha1 kept has = omega arith
wide_lp Qam16 Alpha2 kept has = omega arith
wide_lp Qam16 Alpha4 kept has = omega arith
wide_lp Qam64 Alpha1 kept has = omega arith
wide_lp Qam64 Alpha2 kept has = omega arith
wide_lp Qam64 Alpha4 kept has = omega arith

-- a super-frame has a word of each stream
pub some_words : (s : Settings) (σ : Stream) → IsTrue (has_stream s.hierarchy σ) → 0 < words_per_super_frame s σ
some_words s Hp has = positive s.mode s.rate_hp (width s.shape s.hierarchy Hp) (wide_hp s.shape s.hierarchy)
some_words s Lp has = positive s.mode (rate s Lp) (width s.shape s.hierarchy Lp) (wide_lp s.shape s.hierarchy s.kept.qpsk has)

some_frame : (a b : ℕ) → 0 < b → 0 < a → 1 ≤ rounded_up a b
some_frame a b some more = le-div 1 (a + b - 1) b some (omega arith)

at_max : (b f g n : ℕ) → n ≤ f * b → f ≤ g → n ≤ g * b
at_max b f g n l m = let more : f * b ≤ g * b = mul-le-mul_right b m in omega (arith, more)

-- with a hierarchy or without one
frames : Bool → ℕ → ℕ → ℕ
frames b f g = if b then f else max f g

long_enough : (b : Bool) (f g : ℕ) → f ≤ frames b f g
unfolding frames
long_enough true f g = omega arith
long_enough false f g = le-max_left f g

long_enough_lp : (b : Bool) (f g : ℕ) → IsTrue (not b) → g ≤ frames b f g
unfolding frames
long_enough_lp true f g has = cc
long_enough_lp false f g has = le-max_right f g

short_enough : (b : Bool) (f g k : ℕ) → f ≤ k → (IsTrue (not b) → g ≤ k) → frames b f g ≤ k
unfolding frames
short_enough true f g k l m = l
short_enough false f g k l m = let n : g ≤ k = m refl in max-le l n

-- all super-frames of a transmission are alike
pub record AreAlike (s : Settings) : Type 0 where
  pub words : (σ : Stream) (n : ℕ) → words_before s σ n ≡ n * words_per_super_frame s σ
  pub streams : (σ : Stream) → exists_in s σ ≡ has_stream s.hierarchy σ

-- n super-frames carry a stream, by the words of one
abbrev Carries : Settings → (Stream → ℕ) → ℕ → Stream → Type 0
Carries s counts n σ = IsTrue (has_stream s.hierarchy σ) → counts σ + 11 ≤ n * words_per_super_frame s σ

carries : (s : Settings) → AreAlike s → (counts : Stream → ℕ) (n : ℕ) → Suffices s counts n → (σ : Stream) → Carries s counts n σ
carries s alike counts n all σ has = let w = alike.words σ n in let l = all σ (alike.streams σ ∙ has) in omega (arith, w, l)

suffices : (s : Settings) → AreAlike s → (counts : Stream → ℕ) (n : ℕ) → ((σ : Stream) → Carries s counts n σ) → Suffices s counts n
suffices s alike counts n all σ exists = let w = alike.words σ n in let l = all σ (sym (alike.streams σ) ∙ exists) in omega (arith, w, l)

pub the_formula_is_least : (s : Settings) → AreAlike s → (counts : Stream → ℕ) → AreSuperFrames s counts (frames_by_formula s counts)
unfolding frames
the_formula_is_least s alike counts =
    let b : Bool = is_flat s.hierarchy in
    let f : ℕ = frames_by_formula_for s counts Hp in
    let g : ℕ = frames_by_formula_for s counts Lp in
    let some_hp : 0 < words_per_super_frame s Hp = some_words s Hp refl in
    let one : 1 ≤ f = some_frame (counts Hp + 11) (words_per_super_frame s Hp) some_hp (omega arith) in
    let hp_fits : f ≤ frames b f g = long_enough b f g in
    record {
      some = omega (arith, one, hp_fits);
      suffices = suffices s alike counts (frames b f g) (each s counts);
      least = λ k at_least all. short_enough b f g k
          (least (counts Hp + 11) (words_per_super_frame s Hp) k some_hp (carries s alike counts k all Hp refl))
          (λ has. least (counts Lp + 11) (words_per_super_frame s Lp) k (some_words s Lp has) (carries s alike counts k all Lp has));
    }
  where
    each : (s : Settings) (counts : Stream → ℕ) (σ : Stream) → Carries s counts (frames (is_flat s.hierarchy) (frames_by_formula_for s counts Hp) (frames_by_formula_for s counts Lp)) σ
    each s counts Hp has = at_max (words_per_super_frame s Hp) (frames_by_formula_for s counts Hp) (frames (is_flat s.hierarchy) (frames_by_formula_for s counts Hp) (frames_by_formula_for s counts Lp)) (counts Hp + 11) (enough (counts Hp + 11) (words_per_super_frame s Hp) (some_words s Hp has)) (long_enough (is_flat s.hierarchy) (frames_by_formula_for s counts Hp) (frames_by_formula_for s counts Lp))
    each s counts Lp has = at_max (words_per_super_frame s Lp) (frames_by_formula_for s counts Lp) (frames (is_flat s.hierarchy) (frames_by_formula_for s counts Hp) (frames_by_formula_for s counts Lp)) (counts Lp + 11) (enough (counts Lp + 11) (words_per_super_frame s Lp) (some_words s Lp has)) (long_enough_lp (is_flat s.hierarchy) (frames_by_formula_for s counts Hp) (frames_by_formula_for s counts Lp) has)

-- from the definition only, for any such number
too_few_for : WordsGrow → (s : Settings) (counts : Stream → ℕ) (k n : ℕ) (σ : Stream) → AreSuperFrames s counts k → IsTrue (exists_in s σ) → words_before s σ n < counts σ + 11 → n < k
too_few_for grow s counts k n σ are has few = go (cases_lt n k)
  where
    go_on : (c a b : ℕ) → c + 11 ≤ a → a ≤ b → b < c + 11 → n < k
    go_on c a b x y z = absurd (omega (arith, x, y, z))

    go : (n < k) ⊎ (k ≤ n) → n < k
    go (inl l) = l
    go (inr l) = go_on (counts σ) (words_before s σ k) (words_before s σ n) (are.suffices σ has) (grow s σ k n l) few

one_for : (s : Settings) (counts : Stream → ℕ) (k n : ℕ) → AreSuperFrames s counts k → AreSuperFrames s counts n → k ≡ n
one_for s counts k n a b =
    let l : k ≤ n = a.least n b.some b.suffices in
    let m : n ≤ k = b.least k a.some a.suffices in
    omega (arith, l, m)

length_for : (s : Settings) (counts : Stream → ℕ) (o u : Option ℕ) → IsLength s counts o → IsLength s counts u → u ≡ o
length_for s counts None None a b = refl
length_for s counts None (Some k) a b = absurd (a k b.some b.suffices)
length_for s counts (Some n) None a b = absurd (b n a.some a.suffices)
length_for s counts (Some n) (Some k) a b = ap Some (one_for s counts k n b a)

pub one_length : TheNumberIsFound → OneLength
one_length found s counts o is = length_for s counts o (super_frames s counts) is (found s counts)

-- the number found satisfies the definition
pub is_least : TheNumberIsFound → (s : Settings) (counts : Stream → ℕ) (k : ℕ) → super_frames s counts ≡ Some k → AreSuperFrames s counts k
is_least found s counts k e = subst (IsLength s counts) e (found s counts)

pub too_few : WordsGrow → TheNumberIsFound → TooFew
too_few grow found s counts k n σ e has few = too_few_for grow s counts k n σ (is_least found s counts k e) has few

-- if a number suffices, one is found
enough_for : (s : Settings) (counts : Stream → ℕ) (n : ℕ) (o : Option ℕ) → super_frames s counts ≡ o → IsLength s counts o → 1 ≤ n → Suffices s counts n
    → (k : ℕ) × (super_frames s counts ≡ Some k) × (k ≤ n)
enough_for s counts n None e is some all = absurd (is n some all)
enough_for s counts n (Some k) e is some all = (k, e, is.least n some all)

pub enough_frames : TheNumberIsFound → Enough
enough_frames found s counts n some all = enough_for s counts n (super_frames s counts) refl (found s counts) some all

pub constant_frames : ((s : Settings) → entries_of s.plan ≡ [] → AreAlike s) → OneLength → ConstantFrames
constant_frames alike one s counts none = one s counts (Some (frames_by_formula s counts)) (the_formula_is_least s (alike s none) counts)
