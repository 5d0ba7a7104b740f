-- Steps on many pairs, with all states alive.
use Rattle.std.proofs.Common.{◌≡◌, ℕ, zero, suc, ◌+◌, ◌/◌, ◌^◌, ◌<◌, ◌≤◌, Bool, true, List, [], ◌∷◌, ◌++◌, length, take, drop, refl, sym, ap, ◌∙◌, subst, subst₂, arith, length-append, append_assoc, append-nil, lit<}
use Rattle.std.proofs.Math.Nat.{pow-suc}
use Rattle.std.proofs.Math.Seq.{take-append_seam}
use Rattle.std.proofs.lemmas.Bool.{or_left, eqb-true}
use Rattle.std.proofs.lemmas.Nat.Bits.{bit_at_lowest, bit_at-suc}
use Rattle.std.specs.Prelude.{IsTrue}
use Rattle.std.specs.Int.{bit_at}
use Rattle.std.specs.declared.option.Option.{Option}
use Rattle.std.specs.declared.option.Option.TheVariants.{None, Some}
use Rattle.std.specs.Option.{option_to_list}
use Rattle.code_paths.specs.declared.costs.CostPair.{CostPair}
use Rattle.code_paths.specs.States.{even_of, before}
use Rattle.code_paths.specs.Streams.{Reports}
use Rattle.spec_words.specs.Bits.{is_set}
use Rattle.acs_plain.specs.declared.sums.Sums.{Sums}
use Rattle.acs_plain.specs.Steps.{alive, IsStep, AreSteps, SomeAlive}
use Rattle.survivor_ring.specs.Ring.{root, trace}
use Rattle.survivor_ring.specs.Survivors.{IsPushed, AreAllPushed, IsAlike, GivesAway, all_pushed}
use Rattle.inner_decoder.specs.Seen.{rows_below}
use Rattle.inner_decoder.specs.Tracking.{StandsBy}
use Rattle.inner_decoder.specs.Running.{Ran}
use Rattle.inner_decoder.specs.Settling.{IsForced, Settles, SettlesAll}
use Rattle.inner_decoder.proofs.Fresh.{any_lives}
use Rattle.inner_decoder.proofs.Rows64.{to_rows}
use Rattle.inner_decoder.proofs.Stand.{pushed, stands_quiet, settled_quiet, settled_given, settled_forced}

-- ---- metrics with all states alive

pub all_lives : (sums : Sums) → sums.alive ≡ 18446744073709551615 → (n : ℕ) → n < 64 → IsTrue (alive sums n)
all_lives sums e n l = ap (λ z. is_set z n) e ∙ any_lives n l

-- all follow all
lives_next : (old : Sums) (x : CostPair) (new : Sums) (word : ℕ) → ((n : ℕ) → n < 64 → IsTrue (alive old n)) → IsStep old x new word → (n : ℕ) → n < 64 → IsTrue (alive new n)
lives_next old x new word h s n l = s.lives n l ∙ or_left _ _ (h (even_of n) (omega arith))

pub lives_after : (old : Sums) (xs : List CostPair) (new : Sums) (ws : List ℕ) → ((n : ℕ) → n < 64 → IsTrue (alive old n)) → AreSteps old xs new ws → (n : ℕ) → n < 64 → IsTrue (alive new n)
lives_after old [] new [] h s n l = subst (λ (z : Sums). IsTrue (alive z n)) s (h n l)
lives_after old [] new (w ∷ ws) h s n l = absurd s
lives_after old (x ∷ xs) new [] h s n l = absurd s
lives_after old (x ∷ xs) new (w ∷ ws) h (next, s, r) n l = lives_after next xs new ws (lives_next old x next w h s) r n l

-- a number of k bits, all of them 1
all_ones : (k w : ℕ) → w < 2 ^ k → ((i : ℕ) → i < k → bit_at w i ≡ 1) → w + 1 ≡ 2 ^ k
all_ones zero w l f = omega (arith, l)
all_ones (suc k) w l f =
    let h = all_ones k (w / 2) (omega (arith, l, pow-suc 2 k)) (λ i j. sym (bit_at-suc w i) ∙ f (suc i) (omega arith)) in
    omega (arith, h, pow-suc 2 k, bit_at_lowest w, f 0 (omega arith))

pub all_word : (sums : Sums) → ((n : ℕ) → n < 64 → IsTrue (alive sums n)) → sums.alive < 2 ^ 64 → sums.alive ≡ 18446744073709551615
all_word sums h l = omega (arith, all_ones 64 sums.alive l (λ i j. eqb-true _ _ (h i j)))

-- ---- the last step of many

pub record LastStep (most waiting steps : ℕ) (a : Option (List Bool)) (c : List CostPair) (g : List Bool) (xs : List CostPair) (new : Sums) (more : ℕ → List Bool) : Type 0 where
  pub front : List CostPair
  pub pair : CostPair
  pub is : xs ≡ front ++ pair ∷ []
  pub sums : Sums
  pub answer : ℕ
  pub lists : ℕ → List Bool
  pub stands : StandsBy most sums lists (waiting + length front) (steps + length front) a (c ++ front) g
  pub reports : (rs : List ℕ) → Reports most a c rs → Reports most a (c ++ front) rs
  pub step : IsStep sums pair new answer
  pub push : IsPushed lists answer new.alive more

plus_none : (n : ℕ) → n ≡ n + 0
plus_none n = omega arith

plus_more : (n k : ℕ) → n + 1 + k ≡ n + suc k
plus_more n k = omega arith

-- if no check for a report can come before the last one
pub last_step : (most : ℕ) (old : Sums) (waits : ℕ → List Bool) (waiting steps : ℕ) (a : Option (List Bool)) (c : List CostPair) (g : List Bool) (xs : List CostPair) (new : Sums) (ds : List ℕ) (more : ℕ → List Bool)
    → ((n : ℕ) → n < 64 → IsTrue (alive old n)) → StandsBy most old waits waiting steps a c g → AreSteps old xs new ds → AreAllPushed waits ds more → 0 < length xs → waiting + length xs ≤ most + 1 → LastStep most waiting steps a c g xs new more
last_step most old waits waiting steps a c g [] new ds more v h s p l r = absurd (omega arith)
last_step most old waits waiting steps a c g (x ∷ xs) new [] more v h s p l r = absurd s
last_step most old waits waiting steps a c g (x ∷ []) new (word ∷ d ∷ ds) more v h s p l r = absurd s.2
last_step most old waits waiting steps a c g (x ∷ []) new (word ∷ []) more v h s p l r = record {
  front = [];
  pair = x;
  is = refl;
  sums = old;
  answer = word;
  lists = waits;
  stands = subst₂ (λ i j. StandsBy most old waits i j a (c ++ []) g) (plus_none waiting) (plus_none steps) (subst (λ z. StandsBy most old waits waiting steps a z g) (sym (append-nil c)) h);
  reports = λ rs z. subst (λ y. Reports most a y rs) (sym (append-nil c)) z;
  step = subst (λ (z : Sums). IsStep old x z word) s.2 s.1;
  push = record { each = λ n i t. p.each n i };
}
last_step most old waits waiting steps a c g (x ∷ y ∷ ys) new (word ∷ rest) more v h s p l r =
    let mid : Sums = s.0 in
    let lists : ℕ → List Bool = λ n. waits (before word n) ++ is_set n 5 ∷ [] in
    let lives : (n : ℕ) → n < 64 → IsTrue (alive mid n) = lives_next old x mid word v s.1 in
    let some : SomeAlive mid = record { state = 0; below = lit< tt; lives = lives 0 (lit< tt) } in
    let made = pushed most old waits waiting steps a c g x mid word lists h s.1 (record { each = λ n i t. refl }) in
    let q = stands_quiet most mid lists waiting steps a c g x made [] some (omega (arith, r)) in
    let given : g ++ q.more ≡ g = ap (λ z. g ++ z) (sym q.appended) ∙ append-nil g in
    let stood = subst (λ z. StandsBy most mid lists (waiting + 1) (steps + 1) a (c ++ x ∷ []) z) given q.stands in
    let follow : AreAllPushed lists rest more = record { each = λ n i. p.each n i ∙ sym (append_assoc (waits (before word (root rest n))) (is_set (root rest n) 5 ∷ []) (trace rest n)) } in
    let k = last_step most mid lists (waiting + 1) (steps + 1) a (c ++ x ∷ []) g (y ∷ ys) new rest more lives stood s.2 follow (omega arith) (omega (arith, r)) in
    let joined : (c ++ x ∷ []) ++ k.front ≡ c ++ x ∷ k.front = append_assoc c (x ∷ []) k.front in
    record {
      front = x ∷ k.front;
      pair = k.pair;
      is = ap (λ z. x ∷ z) k.is;
      sums = k.sums;
      answer = k.answer;
      lists = k.lists;
      stands = subst₂ (λ i j. StandsBy most k.sums k.lists i j a (c ++ x ∷ k.front) g) (plus_more waiting (length k.front)) (plus_more steps (length k.front))
          (subst (λ z. StandsBy most k.sums k.lists (waiting + 1 + length k.front) (steps + 1 + length k.front) a z g) joined k.stands);
      reports = λ rs z. subst (λ y. Reports most a y rs) joined (k.reports rs (subst (λ y. Reports most a (c ++ x ∷ []) y) (append-nil rs) (q.reports rs z)));
      step = k.step;
      push = k.push;
    }

-- a slice of steps and the check after it
pub slice_ran : (most : ℕ) (old : Sums) (waits : ℕ → List Bool) (waiting steps : ℕ) (a : Option (List Bool)) (c : List CostPair) (g : List Bool) (xs : List CostPair) (ds : List ℕ) (mid : Sums) (count : ℕ)
    (new : Sums) (less : ℕ → List Bool) (left number : ℕ) (e : Bool) (from to : List Bool) (r : Option ℕ)
    → old.alive ≡ 18446744073709551615 → StandsBy most old waits waiting steps a c g → AreSteps old xs mid ds → SomeAlive mid → 0 < length xs → count ≡ waiting + length xs → count ≤ most + 1
    → SettlesAll most waits ds mid count new less left number from to r → number ≡ steps + length xs
    → Ran most (record { sums = new; rows = rows_below less 64; waiting = left; steps = number; ended = e }) a c g xs from to (option_to_list r)
slice_ran most old waits waiting steps a c g xs ds mid count new less left number e from to r v h s o l m w f n =
    let q = last_step most old waits waiting steps a c g xs mid ds f.lists (all_lives old v) h s f.push l (omega (arith, m, w)) in
    let long : length xs ≡ length q.front + 1 = ap length q.is ∙ length-append q.front (q.pair ∷ []) in
    let u = f.settles.each q.sums q.lists (waiting + length q.front) (steps + length q.front) q.pair q.answer q.step o q.push (omega (arith, m, long)) (omega (arith, n, long)) a (c ++ q.front) g q.stands in
    let joined : (c ++ q.front) ++ q.pair ∷ [] ≡ c ++ xs = append_assoc c q.front (q.pair ∷ []) ∙ ap (λ z. c ++ z) (sym q.is) in
    record {
      more = u.more;
      appended = u.appended;
      stands = to_rows most new less left number a (c ++ xs) (g ++ u.more) (subst (λ z. StandsBy most new less left number a z (g ++ u.more)) joined u.stands);
      reports = λ rs z. subst (λ y. Reports most a y (rs ++ option_to_list r)) joined (u.reports rs (q.reports rs z));
    }

-- ---- the check after it, by what the survivors do at once

pub settled_all_quiet : (most : ℕ) (waits : ℕ → List Bool) (words : List ℕ) (sums : Sums) (count : ℕ) (lists : ℕ → List Bool) (count2 states steps : ℕ) (to : List Bool) → states ≡ sums.alive → AreAllPushed waits words lists → count2 ≡ count → count2 ≤ most
    → SettlesAll most waits words sums count sums lists count2 steps to to None
settled_all_quiet most waits words sums count lists count2 states steps to t p e l = record {
  lists = lists;
  push = p;
  settles = subst (λ z. Settles most sums lists z sums lists count2 steps to to None) e (settled_quiet most sums lists count2 states steps to t l);
}

pub settled_all_given : (most : ℕ) (waits : ℕ → List Bool) (words : List ℕ) (sums : Sums) (count states steps k : ℕ) (less : ℕ → List Bool) (count2 : ℕ) (to to2 : List Bool) → states ≡ sums.alive → 0 < k → IsAlike states (all_pushed waits words) count k
    → ((n : ℕ) → n < 64 → less n ≡ drop k (all_pushed waits words n)) → GivesAway states (all_pushed waits words) k to to2 → count2 + k ≡ count → SettlesAll most waits words sums count sums less count2 steps to to2 None
settled_all_given most waits words sums count states steps k less count2 to to2 t w i f v u = record {
  lists = all_pushed waits words;
  push = record { each = λ n l. refl };
  settles = settled_given most sums (all_pushed waits words) count states steps k less count2 to to2 t w i (λ n l z. f n l) v (omega (arith, u));
}

pub settled_all_forced : (most : ℕ) (waits : ℕ → List Bool) (words : List ℕ) (sums : Sums) (count states steps k : ℕ) (lists : ℕ → List Bool) (sums2 : Sums) (waits2 : ℕ → List Bool) (count2 : ℕ) (to mid to2 : List Bool) → states ≡ sums.alive → most < count → k ≤ 0
    → IsAlike states (all_pushed waits words) count k → ((n : ℕ) → n < 64 → lists n ≡ drop k (all_pushed waits words n)) → GivesAway states (all_pushed waits words) k to mid → IsForced sums lists sums2 waits2 mid to2 → count2 ≡ 0
    → SettlesAll most waits words sums count sums2 waits2 count2 steps to to2 (Some steps)
settled_all_forced most waits words sums count states steps zero lists sums2 waits2 count2 to mid to2 t w z i f v b d = record {
  lists = lists;
  push = record { each = λ n l. f n l };
  settles = settled_forced most sums lists count states steps b.state sums2 waits2 count2 0 to to2 t w (omega arith) same b.best (b.given ∙ ap (λ z. z ++ lists b.state) none) b.lives b.cost b.none d;
}
  where
    none : mid ≡ to
    none = v b.state b.best.below (subst (λ y. is_set y b.state ≡ true) (sym t) b.best.lives) ∙ append-nil to

    same : IsAlike states lists count 0
    same = record { within = omega arith; alike = λ m n x y p q. refl; most = λ j l e. i.most j l (λ m n x y p q. ap (take j) (sym (f m x)) ∙ e m n x y p q ∙ ap (take j) (f n y)) }
settled_all_forced most waits words sums count states steps (suc k) lists sums2 waits2 count2 to mid to2 t w z i f v b d = absurd (omega (arith, z))

-- the words that were written at the front
pub front_is : (n : ℕ) (part rest : List ℕ) → length part ≡ n → take n (part ++ rest) ≡ part
front_is n part rest e = ap (λ z. take z (part ++ rest)) (sym e) ∙ take-append_seam part rest
