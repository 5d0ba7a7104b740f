-- A decoder matches the definitions.
use Rattle.std.proofs.Common.{◌≡◌, ℕ, ◌+◌, ◌-◌, ◌^◌, ◌<◌, ◌≤◌, Bool, true, List, [], ◌∷◌, ◌++◌, length, take, drop, inl, refl, sym, ap, ap₂, ◌∙◌, subst, subst₂, arith, length-append, length-take, append_assoc, append-nil, true≢false, lit<}
use Rattle.std.proofs.lemmas.Bool.{eqb-true, eqb-false, eq-eqb}
use Rattle.std.proofs.lemmas.List.{take_all}
use Rattle.std.specs.Prelude.{slice_index, IsTrue}
use Rattle.std.specs.declared.option.Option.{Option}
use Rattle.std.specs.declared.option.Option.TheVariants.{None, Some}
use Rattle.code_paths.specs.declared.costs.CostPair.{CostPair}
use Rattle.acs_plain.specs.declared.sums.Sums.{Sums}
use Rattle.code_paths.specs.States.{register}
use Rattle.spec_words.specs.Bits.{is_set}
use Rattle.acs_plain.specs.Steps.{alive, SomeAlive, IsStep}
use Rattle.code_paths.specs.Streams.{IsCommon, IsOverdue, Part, IsCut, bits_of, ends_of, Reports, Given, Ended, end_of}
use Rattle.inner_decoder.specs.Tracking.{Tracks, StandsBy, Finished}
use Rattle.inner_decoder.specs.Metrics.{IsBest}
use Rattle.inner_decoder.specs.Seen.{DecoderState}
use Rattle.inner_decoder.proofs.Kept.{IsOnly, GaveBy}
use Rattle.inner_decoder.specs.Settling.{SteppedBy, Settles}
use Rattle.survivor_ring.specs.Survivors.{IsPushed, IsAlike, GivesAway}
use Rattle.inner_decoder.proofs.Follow.{tracks_step}
use Rattle.inner_decoder.proofs.Bounds.{bounded_one, bounded_all}
use Rattle.code_paths.proofs.Cuts.{cut_more, cut_end, cut_unique, quiet_none}
use Rattle.code_paths.specs.Trial.{weight}
use Rattle.inner_decoder.proofs.Fresh.{power_only}
use Rattle.inner_decoder.proofs.Shares.{shared_is, tracks_give, best_least, waits_long, tracked}
use Rattle.code_paths.proofs.Registers.{number_of}

-- between the push and the rest of the step
pub record Pushed (most : ℕ) (sums : Sums) (waits : ℕ → List Bool) (waiting steps : ℕ) (a : Option (List Bool)) (c : List CostPair) (g : List Bool) (x : CostPair) : Type 0 where
  pub parts : List Part
  pub start : Option (List Bool)
  pub costs : List CostPair
  pub gave : List Bool
  pub cut : IsCut most a c parts start costs
  pub tracks : Tracks start (costs ++ x ∷ []) gave sums waits (waiting + 1)
  pub few : waiting ≤ most
  pub counts : steps ≡ length c
  pub is : g ≡ bits_of parts ++ gave

pub pushed : (most : ℕ) (old : Sums) (waits : ℕ → List Bool) (waiting steps : ℕ) (a : Option (List Bool)) (c : List CostPair) (g : List Bool) (x : CostPair) (new : Sums) (answer : ℕ) (more : ℕ → List Bool)
    → StandsBy most old waits waiting steps a c g → IsStep old x new answer → IsPushed waits answer new.alive more → Pushed most new more waiting steps a c g x
pushed most old waits waiting steps a c g x new answer more h s p = record {
  parts = h.parts;
  start = h.start;
  costs = h.costs;
  gave = h.gave;
  cut = h.cut;
  tracks = tracks_step h.start h.costs h.gave old waits waiting x new answer more h.some h.tracks s p;
  few = h.few;
  counts = h.counts;
  is = h.is;
}

pub gave_common : (b : Option (List Bool)) (d : List CostPair) (gave : List Bool) (sums : Sums) (waits : ℕ → List Bool) (waiting : ℕ) → Tracks b d gave sums waits waiting → IsCommon b d gave
gave_common b d gave sums waits waiting h e p q = let r = tracked b d gave sums waits waiting h e p q in record { rest = waits r.0; is = r.3 }

-- reports stay the same if no part ends
same_reports : (most : ℕ) (a : Option (List Bool)) (c : List CostPair) (x : CostPair) (parts : List Part) (b b2 : Option (List Bool)) (d d2 : List CostPair) → IsCut most a c parts b d → IsCut most a (c ++ x ∷ []) parts b2 d2
    → (rs : List ℕ) → Reports most a c rs → Reports most a (c ++ x ∷ []) (rs ++ [])
same_reports most a c x parts b b2 d d2 h k rs r =
    let u = cut_unique most a c r.parts r.start r.costs parts b d r.cut h in
    record { parts = parts; start = b2; costs = d2; cut = k; is = append-nil rs ∙ r.is ∙ ap (ends_of 0) u.0 }

module _ (most : ℕ) (sums : Sums) (waits : ℕ → List Bool) (waiting steps : ℕ) (a : Option (List Bool)) (c : List CostPair) (g : List Bool) (x : CostPair) (h : Pushed most sums waits waiting steps a c g x) where
  not_overdue : (k : ℕ) → (s : List Bool) → IsCommon h.start (h.costs ++ x ∷ []) s → length s ≡ length h.gave + k → waiting + 1 ≤ most + k → IsOverdue most h.start (h.costs ++ x ∷ []) → ⊥
  not_overdue k s i l w o = absurd (omega (arith, o.is_shared.longest s i, o.over, l, w, h.tracks.long))

  pub stands_quiet : (old : List Bool) → SomeAlive sums → waiting + 1 ≤ most → SteppedBy most sums waits (waiting + 1) (steps + 1) a c g x old old None
  stands_quiet old s w =
      let cut = cut_more most a c x h.parts h.start h.costs h.cut (not_overdue 0 h.gave (gave_common h.start _ h.gave sums waits _ h.tracks) (omega arith) (omega (arith, w))) in
      record {
        more = [];
        appended = sym (append-nil old);
        stands = record { parts = h.parts; start = h.start; costs = h.costs ++ x ∷ []; gave = h.gave; cut = cut; tracks = h.tracks; some = s; few = w; counts = omega (arith, h.counts, length-append c (x ∷ [])); is = append-nil g ∙ h.is };
        reports = same_reports most a c x h.parts h.start h.start h.costs (h.costs ++ x ∷ []) h.cut cut;
        whole = tt;
      }

  pub stands_give : (k : ℕ) (less : ℕ → List Bool) (old new : List Bool) → SomeAlive sums → waiting ≤ most → 0 < k → IsAlike sums.alive waits (waiting + 1) k
      → ((n : ℕ) → n < 64 → IsTrue (alive sums n) → less n ≡ drop k (waits n)) → GivesAway sums.alive waits k old new
      → SteppedBy most sums less (waiting + 1 - k) (steps + 1) a c g x old new None
  stands_give k less old new s w p i f v =
      let sh = shared_is h.start (h.costs ++ x ∷ []) h.gave sums waits (waiting + 1) h.tracks k s.state s.below s.lives i in
      let l : length (take k (waits s.state)) ≡ k = omega (arith, length-take k (waits s.state), waits_long h.start (h.costs ++ x ∷ []) h.gave sums waits (waiting + 1) h.tracks s.state s.below s.lives, i.within) in
      let cut = cut_more most a c x h.parts h.start h.costs h.cut (not_overdue k (h.gave ++ take k (waits s.state)) sh.common (omega (arith, l, length-append h.gave (take k (waits s.state)))) (omega arith)) in
      record {
        more = take k (waits s.state);
        appended = v s.state s.below s.lives;
        stands = record {
          parts = h.parts;
          start = h.start;
          costs = h.costs ++ x ∷ [];
          gave = h.gave ++ take k (waits s.state);
          cut = cut;
          tracks = tracks_give h.start (h.costs ++ x ∷ []) h.gave sums waits (waiting + 1) h.tracks k s.state less s.below s.lives i.within i.alike f;
          some = s;
          few = omega arith;
          counts = omega (arith, h.counts, length-append c (x ∷ []));
          is = ap (λ z. z ++ take k (waits s.state)) h.is ∙ append_assoc (bits_of h.parts) h.gave (take k (waits s.state));
        };
        reports = same_reports most a c x h.parts h.start h.start h.costs (h.costs ++ x ∷ []) h.cut cut;
        whole = tt;
      }

-- ---- starts

zero_cost : (m : ℕ) → m ≡ 0 → m + 0 ≡ 0
zero_cost m e = omega (arith, e)

same_register : (m n : ℕ) → m < 64 → n < 64 → register m ≡ register n → m ≡ n
same_register m n k l e = sym (number_of m k) ∙ ap weight e ∙ number_of n l

pub tracks_one : (e : ℕ) (sums : Sums) (waits : ℕ → List Bool) → e < 64 → IsOnly sums.alive e → slice_index sums.cost e ≡ 0 → waits e ≡ [] → Tracks (Some (register e)) [] [] sums waits 0
tracks_one e sums waits l o z w = record {
  less = 0;
  path = λ n. register n;
  long = omega arith;
  least = λ n i t. record { path = record { long = omega arith; start = ap register (only n i t) }; ends = refl; first = λ q k f. inl (sym f) };
  cost = λ n i t. zero_cost (slice_index sums.cost n) (ap (λ y. slice_index sums.cost y) (only n i t) ∙ z);
  bits = λ n i t. sym (ap waits (only n i t) ∙ w);
  none = λ n i t q k f. eqb-false n e (sym (o.lives n i) ∙ t) (same_register n e i l (sym f ∙ sym (take_all 6 q (omega (arith, k.long))) ∙ k.start));
  bounded = bounded_one e sums l (λ r k. same_register e r l k) o.lives only;
}
  where
    only : (n : ℕ) → n < 64 → IsTrue (alive sums n) → n ≡ e
    only n i t = eqb-true n e (sym (o.lives n i) ∙ t)

pub tracks_all : (sums : Sums) (waits : ℕ → List Bool) → ((n : ℕ) → n < 64 → IsTrue (alive sums n)) → ((n : ℕ) → n < 64 → slice_index sums.cost n ≡ 0) → ((n : ℕ) → n < 64 → waits n ≡ []) → Tracks None [] [] sums waits 0
tracks_all sums waits o z w = record {
  less = 0;
  path = λ n. register n;
  long = omega arith;
  least = λ n i t. record { path = record { long = omega arith; start = tt }; ends = refl; first = λ q k f. inl (sym f) };
  cost = λ n i t. zero_cost (slice_index sums.cost n) (z n i);
  bits = λ n i t. sym (w n i);
  none = λ n i t. absurd (true≢false (sym (o n i) ∙ t));
  bounded = bounded_all sums o z;
}

alike_none : (live : ℕ) (waits : ℕ → List Bool) → IsAlike live waits 0 0
alike_none live waits = record { within = omega arith; alike = λ m n i j t u. refl; most = λ j l a. l }

-- a new decoder
pub stands_new : (most : ℕ) (a : Option (List Bool)) (sums : Sums) (waits : ℕ → List Bool) → SomeAlive sums → Tracks a [] [] sums waits 0 → StandsBy most sums waits 0 0 a [] []
stands_new most a sums waits s t = record { parts = []; start = a; costs = []; gave = []; cut = (refl, refl, quiet_none most a); tracks = t; some = s; few = omega arith; counts = refl; is = refl }

-- ---- the end of a part

bits_push : (parts : List Part) (part : Part) → bits_of (parts ++ part ∷ []) ≡ bits_of parts ++ drop 6 part.path
bits_push [] part = append-nil (drop 6 part.path)
bits_push (p ∷ ps) part = ap (λ z. drop 6 p.path ++ z) (bits_push ps part) ∙ sym (append_assoc (drop 6 p.path) (bits_of ps) (drop 6 part.path))

ends_push : (most : ℕ) (a : Option (List Bool)) (c : List CostPair) (parts : List Part) (b : Option (List Bool)) (d : List CostPair) (part : Part) (n : ℕ) → IsCut most a c parts b d → length part.costs ≡ length d + 1 → ends_of n (parts ++ part ∷ []) ≡ ends_of n parts ++ (n + length c + 1) ∷ []
ends_push most a c [] b d part n k l = ap (λ z. z ∷ []) (omega (arith, l, ap length k.1))
ends_push most a c (p ∷ ps) b d part n k l =
    let e : n + length p.costs + length k.0 + 1 ≡ n + length c + 1 = omega (arith, ap length k.1, length-append p.costs k.0) in
    ap (λ z. (n + length p.costs) ∷ z) (ends_push most (Some (end_of p)) k.0 ps b d part (n + length p.costs) k.3 l ∙ ap (λ z. ends_of (n + length p.costs) ps ++ z ∷ []) e)

module _ (most : ℕ) (sums : Sums) (waits : ℕ → List Bool) (waiting steps : ℕ) (a : Option (List Bool)) (c : List CostPair) (g : List Bool) (x : CostPair) (h : Pushed most sums waits waiting steps a c g x) where
  pub stands_force : (e : ℕ) (sums2 : Sums) (waits2 : ℕ → List Bool) (old new : List Bool) → most < waiting + 1 → IsAlike sums.alive waits (waiting + 1) 0 → IsBest sums e → new ≡ old ++ waits e
      → IsOnly sums2.alive e → slice_index sums2.cost e ≡ 0 → waits2 e ≡ [] → SteppedBy most sums2 waits2 0 (steps + 1) a c g x old new (Some (steps + 1))
  stands_force e sums2 waits2 old new w i k v o z y =
      let d = h.costs ++ x ∷ [] in
      let p = h.tracks.path e in
      let t = h.tracks.least e k.below k.lives in
      let sh = shared_is h.start d h.gave sums waits (waiting + 1) h.tracks 0 e k.below k.lives i in
      let over : IsOverdue most h.start d = record { shared = h.gave ++ []; is_shared = sh; over = omega (arith, append_nil_length h.gave, h.tracks.long) } in
      let part : Part = record { costs = d; path = p } in
      let cut0 = cut_end most a c x h.parts h.start h.costs p h.cut over (best_least h.start d h.gave sums waits (waiting + 1) h.tracks e k) in
      let cut : IsCut most a (c ++ x ∷ []) (h.parts ++ part ∷ []) (Some (register e)) [] = subst (λ r. IsCut most a (c ++ x ∷ []) (h.parts ++ part ∷ []) (Some r) []) t.ends cut0 in
      let one = tracks_one e sums2 waits2 k.below o z y in
      let is : g ++ waits e ≡ bits_of (h.parts ++ part ∷ []) ++ [] =
      ap (λ s. s ++ waits e) h.is ∙ append_assoc (bits_of h.parts) h.gave (waits e) ∙ ap (λ s. bits_of h.parts ++ s) (sym (h.tracks.bits e k.below k.lives)) ∙ sym (bits_push h.parts part) ∙ sym (append-nil (bits_of (h.parts ++ part ∷ []))) in
      record {
        more = waits e;
        appended = v;
        stands = record { parts = h.parts ++ part ∷ []; start = Some (register e); costs = []; gave = []; cut = cut; tracks = one; some = record { state = e; below = k.below; lives = o.lives e k.below ∙ eq-eqb e e refl }; few = omega arith; counts = omega (arith, h.counts, length-append c (x ∷ [])); is = is };
        reports = λ rs r.
            let u = cut_unique most a c r.parts r.start r.costs h.parts h.start h.costs r.cut h.cut in
            record {
              parts = h.parts ++ part ∷ [];
              start = Some (register e);
              costs = [];
              cut = cut;
              is = ap₂ (λ s n. s ++ n ∷ []) (r.is ∙ ap (ends_of 0) u.0) (omega (arith, h.counts)) ∙ sym (ends_push most a c h.parts h.start h.costs part 0 h.cut (length-append h.costs (x ∷ []) ∙ refl));
            };
        whole = record {
          parts = h.parts ++ part ∷ [];
          start = Some (register e);
          costs = [];
          shared = [];
          cut = cut;
          is_shared = shared_is (Some (register e)) [] [] sums2 waits2 0 one 0 e k.below (o.lives e k.below ∙ eq-eqb e e refl) (alike_none sums2.alive waits2);
          is = is;
        };
      }
    where
      append_nil_length : (s : List Bool) → length (s ++ []) ≡ length s
      append_nil_length s = ap length (append-nil s)

-- ---- giving and ending

pub stands_given : (most : ℕ) (sums : Sums) (waits : ℕ → List Bool) (waiting steps : ℕ) (a : Option (List Bool)) (c : List CostPair) (g : List Bool) (k : ℕ) (less : ℕ → List Bool) (s : SomeAlive sums)
    → StandsBy most sums waits waiting steps a c g → IsAlike sums.alive waits waiting k → ((n : ℕ) → n < 64 → IsTrue (alive sums n) → less n ≡ drop k (waits n))
    → Given most a c (g ++ take k (waits s.state)) × StandsBy most sums less (waiting - k) steps a c (g ++ take k (waits s.state))
stands_given most sums waits waiting steps a c g k less s h i f =
    let is : g ++ take k (waits s.state) ≡ bits_of h.parts ++ (h.gave ++ take k (waits s.state)) = ap (λ z. z ++ take k (waits s.state)) h.is ∙ append_assoc (bits_of h.parts) h.gave (take k (waits s.state)) in (
      record {
        parts = h.parts;
        start = h.start;
        costs = h.costs;
        shared = h.gave ++ take k (waits s.state);
        cut = h.cut;
        is_shared = shared_is h.start h.costs h.gave sums waits waiting h.tracks k s.state s.below s.lives i;
        is = is;
      },
      record {
        parts = h.parts;
        start = h.start;
        costs = h.costs;
        gave = h.gave ++ take k (waits s.state);
        cut = h.cut;
        tracks = tracks_give h.start h.costs h.gave sums waits waiting h.tracks k s.state less s.below s.lives i.within i.alike f;
        some = s;
        few = omega (arith, h.few);
        counts = h.counts;
        is = is;
      },
    )

abbrev pub stands_ended : (most : ℕ) (sums : Sums) (waits : ℕ → List Bool) (waiting steps : ℕ) (a : Option (List Bool)) (c : List CostPair) (g : List Bool) (e : ℕ)
    → StandsBy most sums waits waiting steps a c g → IsBest sums e → Ended most a c (g ++ waits e)
stands_ended most sums waits waiting steps a c g e h k = record {
  parts = h.parts;
  start = h.start;
  costs = h.costs;
  path = h.tracks.path e;
  cut = h.cut;
  least = best_least h.start h.costs h.gave sums waits waiting h.tracks e k;
  is = ap (λ s. s ++ waits e) h.is ∙ append_assoc (bits_of h.parts) h.gave (waits e) ∙ ap (λ s. bits_of h.parts ++ s) (sym (h.tracks.bits e k.below k.lives));
}

-- ---- a whole step of a decoder

-- the metrics and the bits after a step, from the contracts of a decoder's calls
pub record Made (most : ℕ) (old : Sums) (waits : ℕ → List Bool) (waiting : ℕ) (x : CostPair) (new : Sums) (answer live : ℕ) (more : ℕ → List Bool) (states count : ℕ) : Type 0 where
  pub step : IsStep old x new answer
  pub some : SomeAlive new
  pub live_is : live ≡ new.alive
  pub push : IsPushed waits answer live more
  pub states_is : states ≡ live
  pub count_is : count ≡ waiting + 1

module _ (most : ℕ) (old : Sums) (waits : ℕ → List Bool) (waiting steps : ℕ) (x : CostPair) (new : Sums) (answer live : ℕ) (more : ℕ → List Bool) (states count : ℕ) (m : Made most old waits waiting x new answer live more states count)
    (a : Option (List Bool)) (c : List CostPair) (g : List Bool) (h : StandsBy most old waits waiting steps a c g) where
  made_pushed : Pushed most new more waiting steps a c g x
  made_pushed = pushed most old waits waiting steps a c g x new answer more h m.step (subst (λ z. IsPushed waits answer z more) m.live_is m.push)

  pub made_quiet : (to : List Bool) → count ≤ most → SteppedBy most new more count (steps + 1) a c g x to to None
  made_quiet to l = subst (λ n. SteppedBy most new more n (steps + 1) a c g x to to None) (sym m.count_is) (stands_quiet most new more waiting steps a c g x made_pushed to m.some (omega (arith, l, m.count_is)))

  pub made_given : (k : ℕ) (less : ℕ → List Bool) (count2 : ℕ) (to to2 : List Bool) → 0 < k → IsAlike states more count k
      → ((n : ℕ) → n < 64 → IsTrue (is_set states n) → less n ≡ drop k (more n)) → GivesAway states more k to to2 → count2 ≡ count - k
      → SteppedBy most new less count2 (steps + 1) a c g x to to2 None
  made_given k less count2 to to2 p i f v e =
      let q : states ≡ new.alive = m.states_is ∙ m.live_is in
      subst (λ n. SteppedBy most new less n (steps + 1) a c g x to to2 None) (ap (λ n. n - k) (sym m.count_is) ∙ sym e)
      (stands_give most new more waiting steps a c g x made_pushed k less to to2 m.some h.few p
      (subst₂ (λ y z. IsAlike y more z k) q m.count_is i) (subst (λ y. (n : ℕ) → n < 64 → IsTrue (is_set y n) → less n ≡ drop k (more n)) q f) (subst (λ y. GivesAway y more k to to2) q v))

  pub made_forced : (e : ℕ) (sums2 : Sums) (waits2 : ℕ → List Bool) (count2 k : ℕ) (to to2 : List Bool) → most < count → k ≤ 0 → IsAlike states more count k → IsBest new e → to2 ≡ to ++ more e
      → sums2.alive ≡ 2 ^ e → slice_index sums2.cost e ≡ 0 → waits2 e ≡ [] → count2 ≡ 0 → SteppedBy most sums2 waits2 count2 (steps + 1) a c g x to to2 (Some (steps + 1))
  made_forced e sums2 waits2 count2 k to to2 w p i b v o z y u =
      let q : states ≡ new.alive = m.states_is ∙ m.live_is in
      let r : k ≡ 0 = omega arith in
      subst (λ n. SteppedBy most sums2 waits2 n (steps + 1) a c g x to to2 (Some (steps + 1))) (sym u)
      (stands_force most new more waiting steps a c g x made_pushed e sums2 waits2 to to2 (omega (arith, w, m.count_is))
      (subst (λ j. IsAlike new.alive more (waiting + 1) j) r (subst₂ (λ y z. IsAlike y more z k) q m.count_is i)) b v (subst (λ y. IsOnly y e) (sym o) (power_only e)) z y)

-- the rest of a step, whatever step it was
pub settled_quiet : (most : ℕ) (sums : Sums) (pushed : ℕ → List Bool) (count states steps : ℕ) (to : List Bool) → states ≡ sums.alive → count ≤ most → Settles most sums pushed count sums pushed count steps to to None
settled_quiet most sums pushed count states steps to t l = record {
  each = λ old lists before n x answer s o p e q a c g h.
      subst (λ z. SteppedBy most sums pushed count z a c g x to to None) (sym q)
      (made_quiet most old lists before n x sums answer sums.alive pushed states count (record { step = s; some = o; live_is = refl; push = p; states_is = t; count_is = e }) a c g h to l);
}

pub settled_given : (most : ℕ) (sums : Sums) (pushed : ℕ → List Bool) (count states steps k : ℕ) (less : ℕ → List Bool) (count2 : ℕ) (to to2 : List Bool) → states ≡ sums.alive → 0 < k → IsAlike states pushed count k
    → ((n : ℕ) → n < 64 → IsTrue (is_set states n) → less n ≡ drop k (pushed n)) → GivesAway states pushed k to to2 → count2 ≡ count - k → Settles most sums pushed count sums less count2 steps to to2 None
settled_given most sums pushed count states steps k less count2 to to2 t w i f v u = record {
  each = λ old lists before n x answer s o p e q a c g h.
      subst (λ z. SteppedBy most sums less count2 z a c g x to to2 None) (sym q)
      (made_given most old lists before n x sums answer sums.alive pushed states count (record { step = s; some = o; live_is = refl; push = p; states_is = t; count_is = e }) a c g h k less count2 to to2 w i f v u);
}

pub settled_forced : (most : ℕ) (sums : Sums) (pushed : ℕ → List Bool) (count states steps e : ℕ) (sums2 : Sums) (waits2 : ℕ → List Bool) (count2 k : ℕ) (to to2 : List Bool) → states ≡ sums.alive → most < count → k ≤ 0 → IsAlike states pushed count k → IsBest sums e → to2 ≡ to ++ pushed e
    → sums2.alive ≡ 2 ^ e → slice_index sums2.cost e ≡ 0 → waits2 e ≡ [] → count2 ≡ 0 → Settles most sums pushed count sums2 waits2 count2 steps to to2 (Some steps)
settled_forced most sums pushed count states steps e sums2 waits2 count2 k to to2 t w z i b v y u r d = record {
  each = λ old lists before n x answer s o p f q a c g h.
      subst (λ z. SteppedBy most sums2 waits2 count2 z a c g x to to2 (Some z)) (sym q)
      (made_forced most old lists before n x sums answer sums.alive pushed states count (record { step = s; some = o; live_is = refl; push = p; states_is = t; count_is = f }) a c g h e sums2 waits2 count2 k to to2 w z i b v y u r d);
}

pub gave_all : (most : ℕ) (sums : Sums) (waits : ℕ → List Bool) (waiting steps : ℕ) (states k : ℕ) (less : ℕ → List Bool) (states2 count2 : ℕ) (to to2 : List Bool) → states ≡ sums.alive → IsAlike states waits waiting k
    → ((n : ℕ) → n < 64 → IsTrue (is_set states n) → less n ≡ drop k (waits n)) → GivesAway states waits k to to2 → count2 ≡ waiting - k
    → (a : Option (List Bool)) (c : List CostPair) (g : List Bool) → StandsBy most sums waits waiting steps a c g → GaveBy most sums less count2 steps a c g to to2
gave_all most sums waits waiting steps states k less states2 count2 to to2 q i f v e a c g h =
    let r = stands_given most sums waits waiting steps a c g k less h.some h (subst (λ y. IsAlike y waits waiting k) q i) (subst (λ y. (n : ℕ) → n < 64 → IsTrue (is_set y n) → less n ≡ drop k (waits n)) q f) in
    record {
      more = take k (waits h.some.state);
      appended = v h.some.state h.some.below (subst (λ y. is_set y h.some.state ≡ true) (sym q) h.some.lives);
      stands = subst (λ n. StandsBy most sums less n steps a c (g ++ take k (waits h.some.state))) (sym e) r.1;
      whole = r.0;
    }

pub finished_all : (most : ℕ) (sums : Sums) (waits : ℕ → List Bool) (waiting steps : ℕ) (e : ℕ) (to to2 : List Bool) (d : DecoderState) → IsBest sums e → to2 ≡ to ++ waits e → d.steps ≡ steps → d.waiting ≡ 0 → d.sums.alive ≡ 2 ^ e
    → (a : Option (List Bool)) (c : List CostPair) (g : List Bool) → StandsBy most sums waits waiting steps a c g → Finished most d a c g to to2
finished_all most sums waits waiting steps e to to2 d b v n w o a c g h =
    let only : IsOnly d.sums.alive e = subst (λ y. IsOnly y e) (sym o) (power_only e) in
    let t = h.tracks.least e b.below b.lives in
    record {
      more = waits e;
      appended = v;
      stands = record {
        bits = stands_ended most sums waits waiting steps a c g e h b;
        steps = n ∙ h.counts;
        waiting = w;
        lives = λ k i. (λ u. ap register (eqb-true k e (sym (only.lives k i) ∙ u)) ∙ sym t.ends, λ u. only.lives k i ∙ eq-eqb k e (same_register k e i b.below (u ∙ t.ends)));
      };
    }

pub new_zero : (most : ℕ) (sums : Sums) (waits : ℕ → List Bool) (count states : ℕ) → SomeAlive sums → sums.alive ≡ 2 ^ 0 → slice_index sums.cost 0 ≡ 0 → states ≡ sums.alive → ((n : ℕ) → n < 64 → IsTrue (is_set states n) → waits n ≡ []) → count ≡ 0
    → StandsBy most sums waits count 0 (Some (register 0)) [] []
new_zero most sums waits count states s l z q w u =
    let o : IsOnly sums.alive 0 = subst (λ y. IsOnly y 0) (sym l) (power_only 0) in
    subst (λ n. StandsBy most sums waits n 0 (Some (register 0)) [] []) (sym u)
    (stands_new most (Some (register 0)) sums waits s (tracks_one 0 sums waits (lit< tt) o z (w 0 (lit< tt) (ap (λ y. is_set y 0) q ∙ o.lives 0 (lit< tt)))))

pub new_any : (most : ℕ) (sums : Sums) (waits : ℕ → List Bool) (count states : ℕ) → SomeAlive sums → ((n : ℕ) → n < 64 → IsTrue (alive sums n)) → ((n : ℕ) → n < 64 → slice_index sums.cost n ≡ 0) → states ≡ sums.alive → ((n : ℕ) → n < 64 → IsTrue (is_set states n) → waits n ≡ []) → count ≡ 0
    → StandsBy most sums waits count 0 None [] []
new_any most sums waits count states s l z q w u =
    subst (λ n. StandsBy most sums waits n 0 None [] []) (sym u)
    (stands_new most None sums waits s (tracks_all sums waits l z (λ n i. w n i (ap (λ y. is_set y n) q ∙ l n i))))
