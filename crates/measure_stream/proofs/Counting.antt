-- Reports are counted by super-frames.
use Rattle.std.proofs.Common.{◌≡◌, ℕ, ◌+◌, ◌*◌, ◌<◌, ◌≤◌, Bool, true, false, ◌&&◌, cond, List, [], ◌∷◌, ◌++◌, length, refl, sym, ap, ap₂, ◌∙◌, arith, length-append}
use Rattle.std.specs.Prelude.{All, count_by, nat_lt, nat_le}
use Rattle.std.proofs.lemmas.Bool.{lt-ltb, le-ltb, le-leb, lt-leb}
use Rattle.std.proofs.lemmas.List.Sums.{sum_by-cons, sum_by-append}
use Rattle.std.proofs.lemmas.List.Elements.{All-head, All-tail}
use Rattle.mode_set.specs.declared.modes.Stream.{Stream}
use Rattle.mode_set.specs.declared.settings.Settings.{Settings}
use Rattle.symbol_parameters.specs.Spans.{steps_before}
use Rattle.measurement.specs.SuperFrames.{is_reported_in}
use Rattle.measure_stream.specs.declared.reports.ReportCounts.{ReportCounts}
use Rattle.measure_stream.specs.Reports.{is_reported_after, AreCounted, LieIn}

-- how many pass a test that all pass, or none
counts_all : (P : ℕ → Type 0) (p : ℕ → Bool) (xs : List ℕ) → ((x : ℕ) → P x → p x ≡ true) → All P xs → count_by p xs ≡ length xs
counts_all P p [] h a = refl
counts_all P p (x ∷ xs) h a =
    let here : cond (p x) 1 0 ≡ 1 = ap (λ (b : Bool). cond b 1 0) (h x (All-head P x xs a)) in
    let rest : count_by p xs ≡ length xs = counts_all P p xs h (All-tail P x xs a) in
    sum_by-cons (λ y. cond (p y) 1 0) x xs ∙ ap₂ (λ (y z : ℕ). y + z) here rest ∙ (omega arith)

counts_none : (P : ℕ → Type 0) (p : ℕ → Bool) (xs : List ℕ) → ((x : ℕ) → P x → p x ≡ false) → All P xs → count_by p xs ≡ 0
counts_none P p [] h a = refl
counts_none P p (x ∷ xs) h a =
    let here : cond (p x) 1 0 ≡ 0 = ap (λ (b : Bool). cond b 1 0) (h x (All-head P x xs a)) in
    let rest : count_by p xs ≡ 0 = counts_none P p xs h (All-tail P x xs a) in
    sum_by-cons (λ y. cond (p y) 1 0) x xs ∙ ap₂ (λ (y z : ℕ). y + z) here rest

counts_same : (P : ℕ → Type 0) (p q : ℕ → Bool) (xs : List ℕ) → ((x : ℕ) → P x → p x ≡ q x) → All P xs → count_by p xs ≡ count_by q xs
counts_same P p q [] h a = refl
counts_same P p q (x ∷ xs) h a =
    let here : cond (p x) 1 0 ≡ cond (q x) 1 0 = ap (λ (b : Bool). cond b 1 0) (h x (All-head P x xs a)) in
    let rest : count_by p xs ≡ count_by q xs = counts_same P p q xs h (All-tail P x xs a) in
    sum_by-cons (λ y. cond (p y) 1 0) x xs ∙ ap₂ (λ (y z : ℕ). y + z) here rest ∙ sym (sum_by-cons (λ y. cond (q y) 1 0) x xs)

count_append : (p : ℕ → Bool) (xs ys : List ℕ) (n : ℕ) → count_by p ys ≡ n → count_by p (xs ++ ys) ≡ count_by p xs + n
count_append p xs ys n e = sum_by-append (λ y. cond (p y) 1 0) xs ys ∙ ap (λ (z : ℕ). count_by p xs + z) e

and_false : (a b : Bool) → b ≡ false → (a && b) ≡ false
and_false true b e = e
and_false false b e = refl

and_true : (a b : Bool) → a ≡ true → (a && b) ≡ b
and_true a b e = ap (λ (z : Bool). z && b) e

-- a report between two steps
abbrev pub IsBetween : ℕ → ℕ → ℕ → Type 0
IsBetween before after at = (before < at) × (at ≤ after)

-- reports of the current super-frame
pub counted_within : (x y : ReportCounts) (s : Settings) (σ : Stream) (j before after number : ℕ) (reports more : List ℕ) → y.all ≡ x.all + number → y.current ≡ x.current + number → y.later ≡ x.later
    → AreCounted x s σ j reports → length more ≡ number → All (IsBetween before after) more → steps_before s σ (272 * j) ≤ before → after ≤ steps_before s σ (272 * (j + 1)) → AreCounted y s σ j (reports ++ more)
counted_within x y s σ j before after number reports more a c l h n between first last = record {
  all = a ∙ ap₂ (λ (u v : ℕ). u + v) h.all (sym n) ∙ sym (length-append reports more);
  current = c ∙ ap₂ (λ (u v : ℕ). u + v) h.current (sym n) ∙ sym (count_append (is_reported_in s σ j) reports more (length more) (counts_all (IsBetween before after) (is_reported_in s σ j) more here between));
  later = l ∙ h.later ∙ (omega (arith, count_append (is_reported_after s σ j) reports more 0 (counts_none (IsBetween before after) (is_reported_after s σ j) more there between)));
}
  where
    here : (at : ℕ) → IsBetween before after at → is_reported_in s σ j at ≡ true
    here at k = and_true (nat_lt (steps_before s σ (272 * j)) at) (nat_le at (steps_before s σ (272 * (j + 1)))) (lt-ltb (steps_before s σ (272 * j)) at (omega (arith, first, k.0)))
        ∙ le-leb at (steps_before s σ (272 * (j + 1))) (omega (arith, last, k.1))

    there : (at : ℕ) → IsBetween before after at → is_reported_after s σ j at ≡ false
    there at k = le-ltb (steps_before s σ (272 * (j + 1))) at (omega (arith, last, k.1))

-- reports after it
pub counted_after : (x y : ReportCounts) (s : Settings) (σ : Stream) (j before after number : ℕ) (reports more : List ℕ) → y.all ≡ x.all + number → y.current ≡ x.current → y.later ≡ x.later + number
    → AreCounted x s σ j reports → length more ≡ number → All (IsBetween before after) more → steps_before s σ (272 * (j + 1)) ≤ before → AreCounted y s σ j (reports ++ more)
counted_after x y s σ j before after number reports more a c l h n between first = record {
  all = a ∙ ap₂ (λ (u v : ℕ). u + v) h.all (sym n) ∙ sym (length-append reports more);
  current = c ∙ h.current ∙ (omega (arith, count_append (is_reported_in s σ j) reports more 0 (counts_none (IsBetween before after) (is_reported_in s σ j) more here between)));
  later = l ∙ ap₂ (λ (u v : ℕ). u + v) h.later (sym n) ∙ sym (count_append (is_reported_after s σ j) reports more (length more) (counts_all (IsBetween before after) (is_reported_after s σ j) more there between));
}
  where
    here : (at : ℕ) → IsBetween before after at → is_reported_in s σ j at ≡ false
    here at k = and_false (nat_lt (steps_before s σ (272 * j)) at) (nat_le at (steps_before s σ (272 * (j + 1)))) (lt-leb at (steps_before s σ (272 * (j + 1))) (omega (arith, first, k.0)))

    there : (at : ℕ) → IsBetween before after at → is_reported_after s σ j at ≡ true
    there at k = lt-ltb (steps_before s σ (272 * (j + 1))) at (omega (arith, first, k.0))

pub counted_in : (within : Bool) (x y : ReportCounts) (s : Settings) (σ : Stream) (j before after number : ℕ) (reports more : List ℕ) → y.all ≡ x.all + number
    → (within ≡ true → (y.current ≡ x.current + number) × (y.later ≡ x.later)) → (within ≡ false → (y.current ≡ x.current) × (y.later ≡ x.later + number))
    → AreCounted x s σ j reports → length more ≡ number → All (IsBetween before after) more → LieIn within s σ j before after → AreCounted y s σ j (reports ++ more)
counted_in true x y s σ j before after number reports more a t f h n between lies = counted_within x y s σ j before after number reports more a (t refl).0 (t refl).1 h n between lies.0 lies.1
counted_in false x y s σ j before after number reports more a t f h n between lies = counted_after x y s σ j before after number reports more a (f refl).0 (f refl).1 h n between lies

-- the next super-frame
pub counts_advanced : (x y : ReportCounts) (s : Settings) (σ : Stream) (j : ℕ) (reports : List ℕ) → y.all ≡ x.all → y.current ≡ x.later → y.later ≡ 0 → AreCounted x s σ j reports
    → All (λ at. at ≤ steps_before s σ (272 * (j + 2))) reports → AreCounted y s σ (j + 1) reports
counts_advanced x y s σ j reports a c l h last = record {
  all = a ∙ h.all;
  current = c ∙ h.later ∙ counts_same (λ at. at ≤ steps_before s σ (272 * (j + 2))) (is_reported_after s σ j) (is_reported_in s σ (j + 1)) reports here last;
  later = l ∙ sym (counts_none (λ at. at ≤ steps_before s σ (272 * (j + 2))) (is_reported_after s σ (j + 1)) reports there last);
}
  where
    two : j + 1 + 1 ≡ j + 2
    two = omega arith

    end : steps_before s σ (272 * (j + 1 + 1)) ≡ steps_before s σ (272 * (j + 2))
    end = ap (λ (i : ℕ). steps_before s σ (272 * i)) two

    here : (at : ℕ) → at ≤ steps_before s σ (272 * (j + 2)) → is_reported_after s σ j at ≡ is_reported_in s σ (j + 1) at
    here at m =
        let within : nat_le at (steps_before s σ (272 * (j + 1 + 1))) ≡ true = le-leb at (steps_before s σ (272 * (j + 1 + 1))) (omega (arith, end, m)) in
        sym (ap (λ (z : Bool). nat_lt (steps_before s σ (272 * (j + 1))) at && z) within ∙ and_one (nat_lt (steps_before s σ (272 * (j + 1))) at))
      where
        and_one : (b : Bool) → (b && true) ≡ b
        and_one true = refl
        and_one false = refl

    there : (at : ℕ) → at ≤ steps_before s σ (272 * (j + 2)) → is_reported_after s σ (j + 1) at ≡ false
    there at m = le-ltb (steps_before s σ (272 * (j + 1 + 1))) at (omega (arith, end, m))
