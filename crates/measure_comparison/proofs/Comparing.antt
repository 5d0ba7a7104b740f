-- A symbol is compared, or left out.
use Rattle.std.proofs.Common.{◌≡◌, ℕ, ◌+◌, ◌-◌, ◌/◌, ◌%◌, ◌<◌, ◌≤◌, ◌≢◌, ◌⊎◌, inl, inr, Bool, true, false, not, ◌&&◌, ◌||◌, List, [], ◌++◌, length, take, drop, refl, sym, ap, ap₂, ◌∙◌, arith, subst, length-drop}
use Rattle.std.specs.Prelude.{nat_le, nat_lt, if◌then◌else◌, slice_index, ◌==◌}
use Rattle.std.specs.Prelude.{Option, Some, None, All, slice_index_or}
use Rattle.std.proofs.lemmas.List.{get_or_default}
use Rattle.std.proofs.lemmas.List.Elements.{All-get_or}
use Rattle.std.proofs.lemmas.List.FromFn.{length-map-range_with_len}
use Rattle.std.proofs.lemmas.Bool.{cases_lt, leb-true, leb-false, true≢false}
use Rattle.spec_words.specs.Bits.{bit, is_set}
use Rattle.mode_set.specs.StreamTable.{has_stream, need, payload, label_bits, rate}
use Rattle.mode_set.specs.declared.modes.Start.{Start}
use Rattle.mode_set.specs.declared.modes.Stream.{Stream}
use Rattle.mode_set.specs.declared.modes.Stream.TheVariants.{Hp, Lp}
use Rattle.mode_set.specs.declared.modes.Hierarchy.{Hierarchy}
use Rattle.mode_set.specs.declared.modes.Hierarchy.TheVariants.{Flat, Alpha1, Alpha2, Alpha4}
use Rattle.mode_set.specs.declared.settings.Settings.{Settings}
use Rattle.symbol_parameters.specs.Spans.{settings_at, steps_before}
use Rattle.symbol_parameters.specs.Laws.{StepsOfOneMore, StepsAreOfAStream, StartStays}
use Rattle.bit_interleave.specs.Place.{stream_at}
use Rattle.symbol_interleave.specs.Carried.{carried}
use Rattle.puncture.specs.SentBits.{bits_from, sent_bit}
use Rattle.inner_chain.specs.Labels.{Paths, TxState, IsBefore, AreLabels, AppendsLabels, from_step, register_of, input_bits, behind, coded_bits, label_bit, number_at}
use Rattle.measurement.specs.Known.{known_path, is_zero, suffices, is_compared, remade_bit}
use Rattle.measure_sums.specs.Comparing.{AlikeAreSummedAlike, symbol_sums}
use Rattle.measure_report.specs.declared.sums.SymbolSums.{SymbolSums}
use Rattle.measure_known_bits.specs.Seen.{KnownState}
use Rattle.measure_comparison.specs.Seen.{SymbolState, ComparerState, known_of}
use Rattle.measure_known_bits.specs.Passing.{passed, HasPassed, IsSettled, has_bits}
use Rattle.measure_comparison.specs.Standing.{HavePassed, AreReady, IsSummed, StandsBefore, beside, kept_at}
use Rattle.measure_comparison.specs.Kept.{AreLong, IsWhole}
use Rattle.measure_comparison.proofs.Paths.{bits_known, left_more, bits_from_step, path_begins, path_goes_on}

le_same : (a b c d : ℕ) → (a ≤ b → c ≤ d) → (c ≤ d → a ≤ b) → nat_le a b ≡ nat_le c d
le_same a b c d f g = go (nat_le a b) refl (nat_le c d) refl
  where
    true_le : (x y : ℕ) → x ≤ y → nat_le x y ≡ true
    true_le x y l = made (nat_le x y) refl
      where
        made : (b : Bool) → nat_le x y ≡ b → nat_le x y ≡ true
        made true e = e
        made false e = absurd (omega (arith, l, leb-false x y e))

    go : (p : Bool) → nat_le a b ≡ p → (q : Bool) → nat_le c d ≡ q → nat_le a b ≡ nat_le c d
    go true e true h = e ∙ sym h
    go false e false h = e ∙ sym h
    go true e false h = absurd (true≢false (sym (true_le c d (f (leb-true a b e))) ∙ h))
    go false e true h = absurd (true≢false (sym (true_le a b (g (leb-true c d h))) ∙ e))

-- the known bits suffice exactly if the waiting ones do
pub suffices_is : StepsOfOneMore → (s : Settings) (σ : Stream) (m : ℕ) (k : KnownState) (register : List Bool) (known : Stream → List Bool) → HasPassed s σ m k register (known σ) → (settings_at s m).start ≡ s.start
    → has_bits (settings_at s m) σ k ≡ suffices s m known σ
suffices_is next s σ m k register known h start =
    let long : length k.waiting ≡ length (known σ) - passed k = ap length h.waiting ∙ length-drop (passed k) (known σ) in
    let more : steps_before s σ (m + 1) ≡ steps_before s σ m + need (settings_at s m) σ = next s σ m in
    let reach : nat_le (k.lag + need (settings_at s m) σ) (length k.waiting) ≡ nat_le (steps_before s σ (m + 1)) (length (known σ)) =
    le_same _ _ _ _ (λ l. omega (arith, l, long, more, h.before, h.lag, h.within)) (λ l. omega (arith, l, long, more, h.before, h.lag, h.within)) in
    let first : (is_zero (settings_at s m).start || nat_le 6 k.before) ≡ (is_zero s.start || nat_le 6 (steps_before s σ m)) = ap₂ (λ (z : Start) (b : ℕ). is_zero z || nat_le 6 b) start h.before in
    ap₂ (λ (a b : Bool). not (has_stream (settings_at s m).hierarchy σ) || (a && b)) reach first

pub compared_is : StepsOfOneMore → StartStays → (s : Settings) (m : ℕ) (hp lp : KnownState) (registers : Stream → List Bool) (known : Stream → List Bool) → ((σ : Stream) → HasPassed s σ m (known_of hp lp σ) (registers σ) (known σ))
    → (has_bits (settings_at s m) Hp hp && has_bits (settings_at s m) Lp lp) ≡ is_compared s m known
unfolding is_compared
compared_is next start s m hp lp registers known h =
    ap₂ (λ (a b : Bool). a && b)
    (suffices_is next s Hp m hp (registers Hp) known (h Hp) (start s (m / 272)))
    (suffices_is next s Lp m lp (registers Lp) known (h Lp) (start s (m / 272)))

-- ---- a symbol that is left out

pub left_out : StepsOfOneMore → (s : Settings) (σ : Stream) (m : ℕ) (k new : KnownState) (register known : List Bool) → new ≡ record k { lag = k.lag + need (settings_at s m) σ; before = k.before + need (settings_at s m) σ }
    → HasPassed s σ m k register known → HasPassed s σ (m + 1) new register known
left_out next s σ m k new register known is h =
    let n : ℕ = need (settings_at s m) σ in
    let same : k.before + n - (k.lag + n) ≡ passed k = omega (arith, h.lag) in
    subst (λ (z : KnownState). HasPassed s σ (m + 1) z register known) (sym is) (record {
      before = ap (λ (z : ℕ). z + n) h.before ∙ sym (next s σ m);
      lag = omega (arith, h.lag);
      within = omega (arith, same, h.within);
      waiting = h.waiting ∙ ap (λ (z : ℕ). drop z known) (sym same);
      register_is = h.register_is ∙ ap (λ (z : ℕ). bits_from (known_path known) z 6) (sym same);
    })

-- ---- a symbol that is compared

-- the path of a stream from where its encoder stands
abbrev pub paths_of : KnownState → KnownState → (Stream → List Bool) → Paths
paths_of hp lp known σ = from_step (known_path (known σ)) (passed (known_of hp lp σ))

pub before_paths : (s : Settings) (m : ℕ) (hp lp : KnownState) (coder : TxState) (known : Stream → List Bool) → ((σ : Stream) → HasPassed s σ m (known_of hp lp σ) (register_of coder σ) (known σ)) → IsBefore coder (paths_of hp lp known)
before_paths s m hp lp coder known h σ =
    let none : passed (known_of hp lp σ) + 0 ≡ passed (known_of hp lp σ) = omega arith in
    (h σ).register_is ∙ sym (bits_from_step (known_path (known σ)) (passed (known_of hp lp σ)) 0 (passed (known_of hp lp σ)) 6 none)

-- the bits of the symbol wait
pub waits : (s now : Settings) (m : ℕ) (hp lp : KnownState) (coder : TxState) (known : Stream → List Bool) → ((σ : Stream) → HasPassed s σ m (known_of hp lp σ) (register_of coder σ) (known σ))
    → (σ : Stream) → need now σ ≤ length (known_of hp lp σ).waiting → take (need now σ) (known_of hp lp σ).waiting ≡ input_bits now (paths_of hp lp known) σ
waits s now m hp lp coder known h σ l =
    let k : KnownState = known_of hp lp σ in
    let long : length k.waiting ≡ length (known σ) - passed k = ap length (h σ).waiting ∙ length-drop (passed k) (known σ) in
    ap (take (need now σ)) (h σ).waiting ∙ bits_known (known σ) (passed k) (need now σ) (omega (arith, l, long, (h σ).within))
    ∙ sym (bits_from_step (known_path (known σ)) (passed k) 6 (passed k + 6) (need now σ) refl)

pub moved_on : StepsOfOneMore → (s : Settings) (m : ℕ) (hp lp : KnownState) (coder after : TxState) (known : Stream → List Bool) (σ : Stream) (new : KnownState)
    → ((σ : Stream) → HasPassed s σ m (known_of hp lp σ) (register_of coder σ) (known σ)) → need (settings_at s m) σ ≤ length (known_of hp lp σ).waiting
    → new ≡ record (known_of hp lp σ) { waiting = drop (need (settings_at s m) σ) (known_of hp lp σ).waiting; before = (known_of hp lp σ).before + need (settings_at s m) σ }
    → IsBefore after (behind (settings_at s m) (paths_of hp lp known)) → HasPassed s σ (m + 1) new (register_of after σ) (known σ)
moved_on next s m hp lp coder after known σ new h l is b =
    let k : KnownState = known_of hp lp σ in
    let n : ℕ = need (settings_at s m) σ in
    let long : length k.waiting ≡ length (known σ) - passed k = ap length (h σ).waiting ∙ length-drop (passed k) (known σ) in
    let on : k.before + n - k.lag ≡ passed k + n = omega (arith, (h σ).lag) in
    let none : n + 0 ≡ n = omega arith in
    subst (λ (z : KnownState). HasPassed s σ (m + 1) z (register_of after σ) (known σ)) (sym is) (record {
      before = ap (λ (z : ℕ). z + n) (h σ).before ∙ sym (next s σ m);
      lag = omega (arith, (h σ).lag);
      within = omega (arith, on, l, long, (h σ).within);
      waiting = left_more (known σ) k.waiting _ (passed k) n (k.before + n - k.lag) (sym on) (h σ).waiting refl;
      register_is = b σ ∙ bits_from_step (from_step (known_path (known σ)) (passed k)) n 0 n 6 none ∙ bits_from_step (known_path (known σ)) (passed k) n (passed k + n) 6 refl ∙ ap (λ (z : ℕ). bits_from (known_path (known σ)) z 6) (sym on);
    })

-- bits that suffice, where a stream exists, wait right behind what the encoder has passed
pub lag_none : (now : Settings) (σ : Stream) (k : KnownState) → has_stream now.hierarchy σ ≡ true → has_bits now σ k ≡ true → IsSettled k → k.lag ≡ 0
lag_none now σ k present e (inl z) = z
lag_none now σ k present e (inr z) =
    let first : (nat_le (k.lag + need now σ) (length k.waiting) && (is_zero now.start || nat_le 6 k.before)) ≡ true = sym (ap (λ (b : Bool). not b || (nat_le (k.lag + need now σ) (length k.waiting) && (is_zero now.start || nat_le 6 k.before))) present) ∙ e in
    let l : k.lag + need now σ ≤ length k.waiting = leb-true _ _ (and_left _ _ first) in
    omega (arith, l, ap length z)
  where
    and_left : (a b : Bool) → (a && b) ≡ true → a ≡ true
    and_left true b h = refl
    and_left false b h = h

pub enough : StepsAreOfAStream → (s : Settings) (σ : Stream) (m : ℕ) (k : KnownState) → has_bits (settings_at s m) σ k ≡ true → need (settings_at s m) σ ≤ length k.waiting
enough law s σ m k e = go (has_stream (settings_at s m).hierarchy σ) refl (cases_lt 0 (need (settings_at s m) σ))
  where
    and_left : (a b : Bool) → (a && b) ≡ true → a ≡ true
    and_left true b h = refl
    and_left false b h = h

    go : (p : Bool) → has_stream (settings_at s m).hierarchy σ ≡ p → (0 < need (settings_at s m) σ) ⊎ (need (settings_at s m) σ ≤ 0) → need (settings_at s m) σ ≤ length k.waiting
    go true h c =
        let first : (nat_le (k.lag + need (settings_at s m) σ) (length k.waiting) && (is_zero (settings_at s m).start || nat_le 6 k.before)) ≡ true =
        sym (ap (λ (b : Bool). not b || (nat_le (k.lag + need (settings_at s m) σ) (length k.waiting) && (is_zero (settings_at s m).start || nat_le 6 k.before))) h) ∙ e in
        let l : k.lag + need (settings_at s m) σ ≤ length k.waiting = leb-true _ _ (and_left _ _ first) in
        omega (arith, l)
    go false h (inl l) = absurd (true≢false (sym (law s σ (m / 272) l).here ∙ h))
    go false h (inr l) = omega (arith, l)

with_hierarchy : (h : Hierarchy) → has_stream h Lp ≡ true → (b : Bool) → has_stream h (if b then Hp else Lp) ≡ true
with_hierarchy h e true = refl
with_hierarchy h e false = e

-- each place of a label carries a stream that exists
carried_exists : (h : Hierarchy) (e : ℕ) → has_stream h (stream_at h e) ≡ true
carried_exists Flat e = refl
carried_exists Alpha1 e = with_hierarchy Alpha1 refl (nat_lt e 2)
carried_exists Alpha2 e = with_hierarchy Alpha2 refl (nat_lt e 2)
carried_exists Alpha4 e = with_hierarchy Alpha4 refl (nat_lt e 2)

-- the labels made of the waiting bits have the remade bits
pub bits_remade : (s : Settings) (m : ℕ) (hp lp : KnownState) (coder : TxState) (known : Stream → List Bool) (labels : List ℕ) → ((σ : Stream) → HasPassed s σ m (known_of hp lp σ) (register_of coder σ) (known σ))
    → ((σ : Stream) → has_bits (settings_at s m) σ (known_of hp lp σ) ≡ true) → ((σ : Stream) → IsSettled (known_of hp lp σ))
    → AreLabels (settings_at s m) (m % 2 == 1) (coded_bits (settings_at s m) (paths_of hp lp known)) labels
    → (q e : ℕ) → q < payload (settings_at s m).mode → e < label_bits (settings_at s m).shape → is_set (slice_index labels q) e ≡ remade_bit s known m q e
unfolding remade_bit label_bit
bits_remade s m hp lp coder known labels h has settled are q e lq le =
    let now : Settings = settings_at s m in
    let σ : Stream = stream_at now.hierarchy e in
    let none : (known_of hp lp σ).lag ≡ 0 = lag_none now σ (known_of hp lp σ) (carried_exists now.hierarchy e) (has σ) (settled σ) in
    let there : passed (known_of hp lp σ) ≡ steps_before s σ m = omega (arith, none, (h σ).before) in
    are.bit q e lq le ∙ ap (λ (t : ℕ). sent_bit (rate now σ) (from_step (known_path (known σ)) t) (number_at now e (carried now.mode (m % 2 == 1) q))) there

-- ---- together

abbrev is_hp : Stream → Bool
is_hp Hp = true
is_hp Lp = false

hp_not_lp : Hp ≢ Lp
hp_not_lp e = true≢false (ap is_hp e)

lp_not_hp : Lp ≢ Hp
lp_not_hp e = true≢false (sym (ap is_hp e))

-- both encoders have passed what they can
pub both_passed : (s : Settings) (m : ℕ) (hp lp new_hp new_lp : KnownState) (coder mid after : TxState) (known : Stream → List Bool) → ((σ : Stream) → HasPassed s σ m (known_of hp lp σ) (register_of coder σ) (known σ))
    → ((t : Settings) (n : ℕ) (bits : List Bool) → HasPassed t Hp n hp (register_of coder Hp) bits → HasPassed t Hp n new_hp (register_of mid Hp) bits) → ((σ : Stream) → σ ≢ Hp → register_of mid σ ≡ register_of coder σ)
    → ((t : Settings) (n : ℕ) (bits : List Bool) → HasPassed t Lp n lp (register_of mid Lp) bits → HasPassed t Lp n new_lp (register_of after Lp) bits) → ((σ : Stream) → σ ≢ Lp → register_of after σ ≡ register_of mid σ)
    → (σ : Stream) → HasPassed s σ m (known_of new_hp new_lp σ) (register_of after σ) (known σ)
both_passed s m hp lp new_hp new_lp coder mid after known h pass_hp other_hp pass_lp other_lp Hp =
    subst (λ (r : List Bool). HasPassed s Hp m new_hp r (known Hp)) (sym (other_lp Hp hp_not_lp)) (pass_hp s m (known Hp) (h Hp))
both_passed s m hp lp new_hp new_lp coder mid after known h pass_hp other_hp pass_lp other_lp Lp =
    pass_lp s m (known Lp) (subst (λ (r : List Bool). HasPassed s Lp m lp r (known Lp)) (sym (other_hp Lp lp_not_hp)) (h Lp))

pub both_left_out : StepsOfOneMore → (s : Settings) (m : ℕ) (hp lp new_hp new_lp : KnownState) (coder : TxState) (known : Stream → List Bool) → ((σ : Stream) → HasPassed s σ m (known_of hp lp σ) (register_of coder σ) (known σ))
    → new_hp ≡ record hp { lag = hp.lag + need (settings_at s m) Hp; before = hp.before + need (settings_at s m) Hp } → new_lp ≡ record lp { lag = lp.lag + need (settings_at s m) Lp; before = lp.before + need (settings_at s m) Lp }
    → (σ : Stream) → HasPassed s σ (m + 1) (known_of new_hp new_lp σ) (register_of coder σ) (known σ)
both_left_out next s m hp lp new_hp new_lp coder known h a b Hp = left_out next s Hp m hp new_hp (register_of coder Hp) (known Hp) a (h Hp)
both_left_out next s m hp lp new_hp new_lp coder known h a b Lp = left_out next s Lp m lp new_lp (register_of coder Lp) (known Lp) b (h Lp)

pub both_long : (coder mid after : TxState) → (length (register_of coder Hp) ≡ 6 → length (register_of mid Hp) ≡ 6) → ((σ : Stream) → σ ≢ Hp → register_of mid σ ≡ register_of coder σ)
    → (length (register_of mid Lp) ≡ 6 → length (register_of after Lp) ≡ 6) → ((σ : Stream) → σ ≢ Lp → register_of after σ ≡ register_of mid σ) → AreLong coder → AreLong after
both_long coder mid after long_hp other_hp long_lp other_lp l = (ap length (other_lp Hp hp_not_lp) ∙ long_hp l.0, long_lp (ap length (other_hp Lp lp_not_hp) ∙ l.1))

and_right : (a b : Bool) → (a && b) ≡ true → b ≡ true
and_right true b e = e
and_right false b e = absurd (true≢false (sym e))

and_first : (a b : Bool) → (a && b) ≡ true → a ≡ true
and_first true b e = refl
and_first false b e = e

pub all_have : (now : Settings) (hp lp : KnownState) → (has_bits now Hp hp && has_bits now Lp lp) ≡ true → (σ : Stream) → has_bits now σ (known_of hp lp σ) ≡ true
all_have now hp lp e Hp = and_first _ _ e
all_have now hp lp e Lp = and_right _ _ e

pub settled_both : (hp lp : KnownState) → IsSettled hp → IsSettled lp → (σ : Stream) → IsSettled (known_of hp lp σ)
settled_both hp lp a b Hp = a
settled_both hp lp a b Lp = b

-- the sums are those of the symbol beside its remade labels
pub summed : AlikeAreSummedAlike → (s now : Settings) (m l : ℕ) (symbol : SymbolState) (known : Stream → List Bool) (labels : List ℕ) (sums : SymbolSums) → now ≡ settings_at s m → l ≡ m % 68
    → ((q e : ℕ) → q < payload (settings_at s m).mode → e < label_bits (settings_at s m).shape → is_set (slice_index labels q) e ≡ remade_bit s known m q e)
    → sums ≡ symbol_sums (record { settings = now; cells = symbol.cells; weights = symbol.weights; symbol = l; labels = λ q. is_set (slice_index labels q) }) → sums ≡ symbol_sums (beside s symbol known m)
summed law s now m l symbol known labels sums n f bits e =
    e ∙ law (record { settings = now; cells = symbol.cells; weights = symbol.weights; symbol = l; labels = λ q. is_set (slice_index labels q) }) (beside s symbol known m) (record {
      settings = n;
      cells = refl;
      weights = refl;
      symbol = f;
      labels = λ q i lq li. bits q i (subst (λ (z : Settings). q < payload z.mode) n lq) (subst (λ (z : Settings). i < label_bits z.shape) n li);
    })

pub appended_are : (s : Settings) (odd : Bool) (bits : Stream → ℕ → Bool) (labels : List ℕ) → AppendsLabels s odd bits [] labels → AreLabels s odd bits labels
appended_are s odd bits labels h = subst (AreLabels s odd bits) (sym h.is) h.are

-- whether the symbol is compared
pub verdict : StepsOfOneMore → StartStays → (s now : Settings) (m : ℕ) (hp lp : KnownState) (coder : TxState) (known : Stream → List Bool) (b : Bool) → now ≡ settings_at s m
    → b ≡ (has_bits now Hp hp && has_bits now Lp lp) → HavePassed s m hp lp coder known → is_compared s m known ≡ b
verdict next start s now m hp lp coder known b here e h =
    sym (e ∙ ap (λ (z : Settings). has_bits z Hp hp && has_bits z Lp lp) here ∙ compared_is next start s m hp lp (register_of coder) known h)

-- a symbol that is compared
pub compared : AlikeAreSummedAlike → StepsOfOneMore → StartStays → (s now : Settings) (m l : ℕ) (hp lp : KnownState) (coder : TxState) (symbol : SymbolState) (known : Stream → List Bool) (labels : List ℕ) (sums : SymbolSums) → now ≡ settings_at s m → l ≡ m % 68
    → true ≡ (has_bits now Hp hp && has_bits now Lp lp) → HavePassed s m hp lp coder known
    → ((q e : ℕ) → q < payload (settings_at s m).mode → e < label_bits (settings_at s m).shape → is_set (slice_index labels q) e ≡ remade_bit s known m q e)
    → sums ≡ symbol_sums (record { settings = now; cells = symbol.cells; weights = symbol.weights; symbol = l; labels = λ q. is_set (slice_index labels q) }) → IsSummed s symbol known m (Some sums)
compared alike next start s now m l hp lp coder symbol known labels sums here f e h bits is = record {
  some = (verdict next start s now m hp lp coder known true here e h, summed alike s now m l symbol known labels sums here f bits is);
  none = λ n. absurd (true≢false n);
}

-- a symbol that is not
pub not_compared : StepsOfOneMore → StartStays → (s now : Settings) (m : ℕ) (hp lp : KnownState) (coder : TxState) (symbol : SymbolState) (known : Stream → List Bool) → now ≡ settings_at s m
    → false ≡ (has_bits now Hp hp && has_bits now Lp lp) → HavePassed s m hp lp coder known → IsSummed s symbol known m None
not_compared next start s now m hp lp coder symbol known here e h = record {
  some = tt;
  none = λ n. verdict next start s now m hp lp coder known false here e h;
}

-- its bits are left out
pub left_stands : StepsOfOneMore → (s now : Settings) (m : ℕ) (hp lp new_hp new_lp : KnownState) (coder : TxState) (known : Stream → List Bool) → now ≡ settings_at s m
    → new_hp ≡ record hp { lag = hp.lag + need now Hp; before = hp.before + need now Hp } → new_lp ≡ record lp { lag = lp.lag + need now Lp; before = lp.before + need now Lp }
    → HavePassed s m hp lp coder known → HavePassed s (m + 1) new_hp new_lp coder known
left_stands next s now m hp lp new_hp new_lp coder known here a b h =
    both_left_out next s m hp lp new_hp new_lp coder known h
    (a ∙ ap (λ (z : Settings). record hp { lag = hp.lag + need z Hp; before = hp.before + need z Hp }) here)
    (b ∙ ap (λ (z : Settings). record lp { lag = lp.lag + need z Lp; before = lp.before + need z Lp }) here)

-- what `make_labels` makes of the waiting bits
pub record MakesLabels (now : Settings) (odd : Bool) (before after : TxState) (hp lp new_hp new_lp : KnownState) (labels : List ℕ) : Type 0 where
  pub hp_left : new_hp ≡ record hp { waiting = drop (need now Hp) hp.waiting; before = hp.before + need now Hp }
  pub lp_left : new_lp ≡ record lp { waiting = drop (need now Lp) lp.waiting; before = lp.before + need now Lp }
  pub made : (paths : Paths) → IsBefore before paths → take (need now Hp) hp.waiting ≡ input_bits now paths Hp → take (need now Lp) lp.waiting ≡ input_bits now paths Lp → AppendsLabels now odd (coded_bits now paths) [] labels
  pub moved : (paths : Paths) → IsBefore before paths → take (need now Hp) hp.waiting ≡ input_bits now paths Hp → take (need now Lp) lp.waiting ≡ input_bits now paths Lp → IsBefore after (behind now paths)

-- a path of each stream that begins with its register and the bits that wait
abbrev pub waiting_paths : KnownState → KnownState → TxState → Paths
waiting_paths hp lp coder σ = bit (register_of coder σ ++ (known_of hp lp σ).waiting)

long_each : (coder : TxState) → AreLong coder → (σ : Stream) → length (register_of coder σ) ≡ 6
long_each coder l Hp = l.0
long_each coder l Lp = l.1

before_waiting : (hp lp : KnownState) (coder : TxState) → AreLong coder → IsBefore coder (waiting_paths hp lp coder)
before_waiting hp lp coder l σ = path_begins (register_of coder σ) (known_of hp lp σ).waiting (long_each coder l σ)

pub labels_are : (now : Settings) (odd : Bool) (before after : TxState) (hp lp new_hp new_lp : KnownState) (labels : List ℕ) → AreLong before → need now Hp ≤ length hp.waiting → need now Lp ≤ length lp.waiting
    → MakesLabels now odd before after hp lp new_hp new_lp labels → AreLabels now odd (coded_bits now (waiting_paths hp lp before)) labels
labels_are now odd before after hp lp new_hp new_lp labels l a b r =
    appended_are now odd (coded_bits now (waiting_paths hp lp before)) labels
    (r.made (waiting_paths hp lp before) (before_waiting hp lp before l) (path_goes_on before.hp hp.waiting (need now Hp) l.0 a) (path_goes_on before.lp lp.waiting (need now Lp) l.1 b))

pub still_long : (now : Settings) (odd : Bool) (before after : TxState) (hp lp new_hp new_lp : KnownState) (labels : List ℕ) → AreLong before → need now Hp ≤ length hp.waiting → need now Lp ≤ length lp.waiting
    → MakesLabels now odd before after hp lp new_hp new_lp labels → AreLong after
still_long now odd before after hp lp new_hp new_lp labels l a b r = (each Hp, each Lp)
  where
    there : IsBefore after (behind now (waiting_paths hp lp before))
    there = r.moved (waiting_paths hp lp before) (before_waiting hp lp before l) (path_goes_on before.hp hp.waiting (need now Hp) l.0 a) (path_goes_on before.lp lp.waiting (need now Lp) l.1 b)

    each : (σ : Stream) → length (register_of after σ) ≡ 6
    each σ = ap length (there σ) ∙ length-map-range_with_len (behind now (waiting_paths hp lp before) σ) 0 6

has_each : (now : Settings) (hp lp : KnownState) → AreReady now hp lp → (σ : Stream) → has_bits now σ (known_of hp lp σ) ≡ true
has_each now hp lp r Hp = r.hp_has
has_each now hp lp r Lp = r.lp_has

-- the bits of the symbol wait, if its parameters are these
pub ready_enough : StepsAreOfAStream → (s now : Settings) (m : ℕ) (hp lp : KnownState) → now ≡ settings_at s m → AreReady (settings_at s m) hp lp → (σ : Stream) → need now σ ≤ length (known_of hp lp σ).waiting
ready_enough law s now m hp lp here r σ =
    subst (λ (z : Settings). need z σ ≤ length (known_of hp lp σ).waiting) (sym here) (enough law s σ m (known_of hp lp σ) (has_each (settings_at s m) hp lp r σ))

pub makes_here : (now at : Settings) (odd : Bool) (before after : TxState) (hp lp new_hp new_lp : KnownState) (labels : List ℕ) → now ≡ at → MakesLabels now odd before after hp lp new_hp new_lp labels → MakesLabels at odd before after hp lp new_hp new_lp labels
makes_here now at odd before after hp lp new_hp new_lp labels here r = subst (λ (z : Settings). MakesLabels z odd before after hp lp new_hp new_lp labels) here r

-- the labels, under the symbol's own parameters
pub labels_here : StepsAreOfAStream → (s now : Settings) (m : ℕ) (odd : Bool) (before after : TxState) (hp lp new_hp new_lp : KnownState) (labels : List ℕ) → now ≡ settings_at s m → AreReady (settings_at s m) hp lp → AreLong before
    → MakesLabels now odd before after hp lp new_hp new_lp labels → AreLabels (settings_at s m) odd (coded_bits (settings_at s m) (waiting_paths hp lp before)) labels
labels_here law s now m odd before after hp lp new_hp new_lp labels here ready l r =
    labels_are (settings_at s m) odd before after hp lp new_hp new_lp labels l (ready_enough law s (settings_at s m) m hp lp refl ready Hp) (ready_enough law s (settings_at s m) m hp lp refl ready Lp)
    (makes_here now (settings_at s m) odd before after hp lp new_hp new_lp labels here r)

pub moved_bits : StepsAreOfAStream → (s : Settings) (m : ℕ) (hp lp new_hp new_lp : KnownState) (before after : TxState) (known : Stream → List Bool) (labels : List ℕ) → AreReady (settings_at s m) hp lp
    → MakesLabels (settings_at s m) (m % 2 == 1) before after hp lp new_hp new_lp labels → HavePassed s m hp lp before known
    → (q e : ℕ) → q < payload (settings_at s m).mode → e < label_bits (settings_at s m).shape → is_set (slice_index labels q) e ≡ remade_bit s known m q e
moved_bits law s m hp lp new_hp new_lp before after known labels ready r h =
    bits_remade s m hp lp before known labels h (has_each (settings_at s m) hp lp ready) (settled_both hp lp ready.hp_settled ready.lp_settled)
    (appended_are (settings_at s m) (m % 2 == 1) (coded_bits (settings_at s m) (paths_of hp lp known)) labels
    (r.made (paths_of hp lp known) (before_paths s m hp lp before known h)
    (waits s (settings_at s m) m hp lp before known h Hp (ready_enough law s (settings_at s m) m hp lp refl ready Hp)) (waits s (settings_at s m) m hp lp before known h Lp (ready_enough law s (settings_at s m) m hp lp refl ready Lp))))

pub moved_stands : StepsOfOneMore → StepsAreOfAStream → (s : Settings) (m : ℕ) (hp lp new_hp new_lp : KnownState) (before after : TxState) (known : Stream → List Bool) (labels : List ℕ) → AreReady (settings_at s m) hp lp
    → MakesLabels (settings_at s m) (m % 2 == 1) before after hp lp new_hp new_lp labels → HavePassed s m hp lp before known → HavePassed s (m + 1) new_hp new_lp after known
moved_stands next law s m hp lp new_hp new_lp before after known labels ready r h = each
  where
    there : (σ : Stream) → need (settings_at s m) σ ≤ length (known_of hp lp σ).waiting
    there σ = ready_enough law s (settings_at s m) m hp lp refl ready σ

    after_all : IsBefore after (behind (settings_at s m) (paths_of hp lp known))
    after_all = r.moved (paths_of hp lp known) (before_paths s m hp lp before known h)
        (waits s (settings_at s m) m hp lp before known h Hp (there Hp)) (waits s (settings_at s m) m hp lp before known h Lp (there Lp))

    each : (σ : Stream) → HasPassed s σ (m + 1) (known_of new_hp new_lp σ) (register_of after σ) (known σ)
    each Hp = moved_on next s m hp lp before after known Hp new_hp h (there Hp) r.hp_left after_all
    each Lp = moved_on next s m hp lp before after known Lp new_lp h (there Lp) r.lp_left after_all

-- known bits that suffice are ready
pub made_ready : (s now : Settings) (m : ℕ) (hp lp : KnownState) → now ≡ settings_at s m → true ≡ (has_bits now Hp hp && has_bits now Lp lp) → IsSettled hp → IsSettled lp → AreReady (settings_at s m) hp lp
made_ready s now m hp lp here e a b = subst (λ (z : Settings). AreReady z hp lp) here (record {
  hp_has = all_have now hp lp (sym e) Hp;
  lp_has = all_have now hp lp (sym e) Lp;
  hp_settled = a;
  lp_settled = b;
})

-- ---- what compares

pub kept_whole : (k : ℕ) (xs : List SymbolState) (i : ℕ) (r : SymbolState) → length xs ≡ 4 → r ≡ slice_index_or xs (i % 4) r → All (IsWhole k) xs → IsWhole k r
kept_whole k xs i r four e all = subst (IsWhole k) (sym e) (All-get_or (IsWhole k) xs (i % 4) r (omega (arith, four)) all)

pub compare_summed : (x : ComparerState) (m : ℕ) (hp lp : KnownState) (known : Stream → List Bool) (r d : SymbolState) (result : Option SymbolSums) → length x.kept ≡ 4 → r ≡ slice_index_or x.kept (x.next % 4) r
    → (HavePassed x.settings x.next hp lp x.coder known → IsSummed x.settings r known x.next result) → StandsBefore m x hp lp known → IsSummed x.settings (kept_at x m d) known m result
compare_summed x m hp lp known r d result four e f h =
    let there : r ≡ slice_index_or x.kept (m % 4) d = e ∙ get_or_default x.kept (x.next % 4) r d (omega (arith, four)) ∙ ap (λ (n : ℕ). slice_index_or x.kept (n % 4) d) h.next in
    subst (λ (z : SymbolState). IsSummed x.settings z known m result) there
    (subst (λ (n : ℕ). HavePassed x.settings n hp lp x.coder known → IsSummed x.settings r known n result) h.next f h.streams)

pub compare_stands : (x new : ComparerState) (m : ℕ) (hp lp new_hp new_lp : KnownState) (known : Stream → List Bool) → new.settings ≡ x.settings → new.next ≡ x.next + 1
    → (HavePassed x.settings x.next hp lp x.coder known → HavePassed x.settings (x.next + 1) new_hp new_lp new.coder known) → StandsBefore m x hp lp known → StandsBefore (m + 1) new new_hp new_lp known
compare_stands x new m hp lp new_hp new_lp known same one f h = record {
  next = one ∙ ap (λ (n : ℕ). n + 1) h.next;
  streams = subst (λ (s : Settings). HavePassed s (m + 1) new_hp new_lp new.coder known) (sym same)
      (subst (λ (n : ℕ). HavePassed x.settings n hp lp x.coder known → HavePassed x.settings (n + 1) new_hp new_lp new.coder known) h.next f h.streams);
}
