-- As many packets are generated as their counts say, and one super-frame carries them.
use Rattle.std.proofs.Common.{◌≡◌, ℕ, ◌+◌, ◌-◌, ◌*◌, ◌/◌, ◌≤◌, ◌<◌, length, get_or, [], refl, sym, ap, ap₂, ◌∙◌, subst, arith, Bool, true, false, cond, not}
use Rattle.std.specs.Prelude.{min, Option, Some, option_map, unwrap_or}
use Rattle.std.proofs.lemmas.Bool.{false≢true}
use Rattle.std.proofs.lemmas.List.{get_or_past}
use Rattle.std.proofs.lemmas.List.FromFn.{length-map-range_with_len, get_or-map-range_with_len}
use Rattle.spec_words.specs.Words.{numbers}
use Rattle.mode_set.specs.Kept.{is_flat, is_qpsk}
use Rattle.mode_set.specs.Plans.{entries_of}
use Rattle.mode_set.specs.StreamTable.{payload, width, coded, need, rate, has_stream, steps_in_period, sent_in_period, words_per_super_frame}
use Rattle.mode_set.specs.declared.modes.Mode.{Mode}
use Rattle.mode_set.specs.declared.modes.Mode.TheVariants.{M2k, M8k}
use Rattle.mode_set.specs.declared.modes.Shape.{Shape}
use Rattle.mode_set.specs.declared.modes.Shape.TheVariants.{Qpsk, Qam16, Qam64}
use Rattle.mode_set.specs.declared.modes.Hierarchy.{Hierarchy}
use Rattle.mode_set.specs.declared.modes.Hierarchy.TheVariants.{Flat, Alpha1, Alpha2, Alpha4}
use Rattle.mode_set.specs.declared.modes.Rate.{Rate}
use Rattle.mode_set.specs.declared.modes.Rate.TheVariants.{R1of2, R2of3, R3of4, R5of6, R7of8}
use Rattle.mode_set.specs.declared.modes.Stream.{Stream}
use Rattle.mode_set.specs.declared.modes.Stream.TheVariants.{Hp, Lp}
use Rattle.mode_set.specs.declared.settings.Settings.{Settings}
use Rattle.ts_packet.specs.Packet.{null_packet}
use Rattle.rand_pcg.specs.Lcg.{Lcg}
use Rattle.load_gen.specs.Draws.{after, generator, count_of, packet_of, packet_words}
use Rattle.symbol_parameters.specs.Spans.{exists_in, words_before}
use Rattle.symbol_parameters.specs.Laws.{HpExists}
use Rattle.transmission.specs.Transmission.{by_stream}
use Rattle.transmission.specs.SuperFrames.{AreSuperFrames, IsLength, packets_for, counts_of, super_frames, symbols_of, Suffices}
use Rattle.transmission.specs.Laws.{TheNumberIsFound, Enough, NoPackets, PacketsGrow, PacketsOfSuperFrames}
use Rattle.trial.specs.Drawn.{drawn, drawn_count, drawn_before, drawn_for, packets_from, packets_of_symbol, trial_frames, trial_symbols}
use Rattle.trial.specs.Laws.{OneSuperFrame, FramesOfDrawn, SymbolsOfDrawn, AllAreDrawn, DrawnInOrder, NullsBehind}
use Rattle.symbol_parameters.proofs.Parts.{parts_long, part_is}

-- ---- a super-frame carries at least 252 words of a stream
half_needed : (r : Rate) (c : ℕ) → 3024 ≤ c → 1512 ≤ c * steps_in_period r / sent_in_period r
half_needed R1of2 c l = omega (arith, l)
half_needed R2of3 c l = omega (arith, l)
half_needed R3of4 c l = omega (arith, l)
half_needed R5of6 c l = omega (arith, l)
half_needed R7of8 c l = omega (arith, l)

many_coded : (m : Mode) (w : ℕ) → 2 ≤ w → 3024 ≤ payload m * w
many_coded M2k w l = omega (arith, l)
many_coded M8k w l = omega (arith, l)

wide_hp : (sh : Shape) (h : Hierarchy) → 2 ≤ width sh h Hp
wide_hp Qpsk Flat = omega arith
wide_hp Qpsk Alpha1 = omega arith
wide_hp Qpsk Alpha2 = omega arith
wide_hp Qpsk Alpha4 = omega arith
wide_hp Qam16 Flat = omega arith
wide_hp Qam16 Alpha1 = omega arith
wide_hp Qam16 Alpha2 = omega arith
wide_hp Qam16 Alpha4 = omega arith
wide_hp Qam64 Flat = omega arith
wide_hp Qam64 Alpha1 = omega arith
wide_hp Qam64 Alpha2 = omega arith
wide_hp Qam64 Alpha4 = omega arith

wide_lp : (sh : Shape) (h : Hierarchy) → (is_qpsk sh ≡ true → is_flat h ≡ true) → not (is_flat h) ≡ true → 2 ≤ width sh h Lp
wide_lp sh Flat kept has = absurd (false≢true has)
wide_lp Qpsk Alpha1 kept has = absurd (false≢true (kept refl))
wide_lp Qpsk Alpha2 kept has = absurd (false≢true (kept refl))
wide_lp Qpsk Alpha4 kept has = absurd (false≢true (kept refl))
wide_lp Qam16 Alpha1 kept has = omega arith
wide_lp Qam16 Alpha2 kept has = omega arith
wide_lp Qam16 Alpha4 kept has = omega arith
wide_lp Qam64 Alpha1 kept has = omega arith
wide_lp Qam64 Alpha2 kept has = omega arith
wide_lp Qam64 Alpha4 kept has = omega arith

wide : (s : Settings) (σ : Stream) → has_stream s.hierarchy σ ≡ true → 2 ≤ width s.shape s.hierarchy σ
wide s Hp has = wide_hp s.shape s.hierarchy
wide s Lp has = wide_lp s.shape s.hierarchy s.kept.qpsk has

words_of_need : (n : ℕ) → 1512 ≤ n → 252 ≤ 272 * n / 1632
words_of_need n l = omega (arith, l)

many_words : (s : Settings) (σ : Stream) → has_stream s.hierarchy σ ≡ true → 252 ≤ words_per_super_frame s σ
many_words s σ has = words_of_need (need s σ) (half_needed (rate s σ) (coded s σ) (many_coded s.mode (width s.shape s.hierarchy σ) (wide s σ has)))

-- ---- the counts
few_counted : (g : Lcg) → count_of g ≤ 199
few_counted g = omega arith

few_where : (b : Bool) (x : ℕ) → x ≤ 199 → cond b x 0 ≤ 199
few_where true x l = l
few_where false x l = omega arith

few : (s : Settings) (number : ℕ) (σ : Stream) → drawn_count s number σ ≤ 199
few s number Hp = few_counted (generator number)
few s number Lp = few_where (exists_in s Lp) (count_of (after 1 (generator number))) (few_counted (after 1 (generator number)))

-- the symbols of the trial need as many packets as are counted
symbols_are : (s : Settings) (number n : ℕ) → trial_frames s number ≡ Some n → trial_symbols s number ≡ 272 * n
symbols_are s number n e = ap (λ (o : Option ℕ). 272 * unwrap_or o 0) e

none_where : (b : Bool) (x p : ℕ) → (b ≡ true → x ≤ p) → cond b x 0 ≤ p
none_where true x p h = h refl
none_where false x p h = omega arith

some_where : (b : Bool) (x p : ℕ) → b ≡ true → cond b x 0 + 11 ≤ p → x ≤ p
some_where b x p e l = let f = ap (λ (z : Bool). cond z x 0) e in omega (arith, l, f)

-- the known facts on super-frames
pub record AreFramed : Type 0 where
  pub found : TheNumberIsFound
  pub hp : HpExists
  pub frames : PacketsOfSuperFrames

least_is : TheNumberIsFound → (s : Settings) (number n : ℕ) → trial_frames s number ≡ Some n → AreSuperFrames s (drawn_count s number) n
least_is found s number n e = subst (IsLength s (drawn_count s number)) e (found s (drawn_count s number))

within : AreFramed → (s : Settings) (number n : ℕ) (σ : Stream) → trial_frames s number ≡ Some n → drawn_count s number σ ≤ packets_for s σ (trial_symbols s number)
within known s number n Hp e =
    let enough = (least_is known.found s number n e).suffices Hp (known.hp s) in
    let wants = ap (packets_for s Hp) (symbols_are s number n e) ∙ known.frames s Hp n in
    omega (arith, enough, wants)
within known s number n Lp e =
    none_where (exists_in s Lp) (count_of (after 1 (generator number))) (packets_for s Lp (trial_symbols s number)) (λ there.
    let enough = some_where (exists_in s Lp) (count_of (after 1 (generator number))) (words_before s Lp n) there ((least_is known.found s number n e).suffices Lp there) in
    let wants = ap (packets_for s Lp) (symbols_are s number n e) ∙ known.frames s Lp n in
    omega (arith, enough, wants))

-- ---- symbol after symbol
least_grows : (c a b : ℕ) → a ≤ b → min c a ≤ min c b
least_grows c a b l = omega (arith, l)

least_of_none : (c p : ℕ) → p ≡ 0 → min c p ≡ 0
least_of_none c p e = omega (arith, e)

least_of_more : (c p : ℕ) → c ≤ p → min c p ≡ c
least_of_more c p l = omega (arith, l)

symbol_long : (s : Settings) (number : ℕ) (σ : Stream) (i : ℕ) → length (packets_of_symbol s number σ i) ≡ drawn_before s number σ (i + 1) - drawn_before s number σ i
unfolding packets_of_symbol numbers
symbol_long s number σ i = length-map-range_with_len (λ j. packet_of (after (packet_words * j) (packets_from s number i σ))) 0 (drawn_for s number σ i)

symbol_packet : (s : Settings) (number : ℕ) (σ : Stream) (m i : ℕ) → i < drawn_for s number σ m → get_or (packets_of_symbol s number σ m) i null_packet ≡ packet_of (after (packet_words * i) (packets_from s number m σ))
unfolding packets_of_symbol numbers
symbol_packet s number σ m i l =
    let here : 0 + i ≡ i = omega arith in
    get_or-map-range_with_len (λ j. packet_of (after (packet_words * j) (packets_from s number m σ))) 0 (drawn_for s number σ m) i i null_packet l here

none_before : NoPackets → (s : Settings) (number : ℕ) (σ : Stream) → drawn_before s number σ 0 ≡ 0
none_before none s number σ = least_of_none (drawn_count s number σ) (packets_for s σ 0) (none s σ)

more_before : PacketsGrow → (s : Settings) (number : ℕ) (σ : Stream) (i j : ℕ) → i ≤ j → drawn_before s number σ i ≤ drawn_before s number σ j
more_before grow s number σ i j l = least_grows (drawn_count s number σ) (packets_for s σ i) (packets_for s σ j) (grow s σ i j l)

pub all_are_drawn : AreFramed → NoPackets → PacketsGrow → AllAreDrawn
unfolding drawn
all_are_drawn known none grow s number n σ e =
    parts_long (packets_of_symbol s number σ) (drawn_before s number σ) (symbol_long s number σ) (more_before grow s number σ) (trial_symbols s number) (none_before none s number σ)
    ∙ least_of_more (drawn_count s number σ) (packets_for s σ (trial_symbols s number)) (within known s number n σ e)

pub drawn_in_order : NoPackets → PacketsGrow → DrawnInOrder
unfolding drawn
drawn_in_order none grow s number σ m i lm li =
    part_is (packets_of_symbol s number σ) (drawn_before s number σ) (symbol_long s number σ) (more_before grow s number σ) null_packet (trial_symbols s number) m i (none_before none s number σ) lm
    (subst (λ (z : ℕ). i < z) (sym (symbol_long s number σ m)) li)
    ∙ symbol_packet s number σ m i li

pub nulls_behind : AllAreDrawn → NullsBehind
nulls_behind all s number n σ p e l = get_or_past (drawn s number σ) p null_packet (subst (λ (z : ℕ). z ≤ p) (sym (all s number n σ e)) l)

-- ---- super-frames
frames_by : Settings → ℕ → ℕ → Option ℕ
frames_by s hp lp = super_frames s (by_stream hp lp)

by_counts : (s : Settings) (counts : Stream → ℕ) → frames_by s (counts Hp) (counts Lp) ≡ super_frames s counts
unfolding super_frames frames_by
by_counts s counts = refl

pub frames_of_drawn : AllAreDrawn → FramesOfDrawn
frames_of_drawn all s number n e =
    sym (by_counts s (counts_of (drawn s number)))
    ∙ ap₂ (frames_by s) (all s number n Hp e) (all s number n Lp e)
    ∙ by_counts s (drawn_count s number)
    ∙ e

pub symbols_of_drawn : FramesOfDrawn → SymbolsOfDrawn
unfolding symbols_of
symbols_of_drawn frames s number n e =
    symbols_are s number n e ∙ sym (ap (λ (o : Option ℕ). unwrap_or (option_map (λ k. 272 * k) o) (s.max_symbols + 1)) (frames s number n e))

-- ---- without a plan one super-frame carries all that can be counted
fits : (d w : ℕ) → d ≤ 199 → 252 ≤ w → d + 11 ≤ 1 * w
fits d w l k = omega (arith, l, k)

one_of : (n : ℕ) → 1 ≤ n → n ≤ 1 → n ≡ 1
one_of n a b = omega (arith, a, b)

-- all super-frames of a transmission are alike
pub record AreAlike (s : Settings) : Type 0 where
  pub words : (σ : Stream) (n : ℕ) → words_before s σ n ≡ n * words_per_super_frame s σ
  pub streams : (σ : Stream) → exists_in s σ ≡ has_stream s.hierarchy σ

pub one_super_frame : ((s : Settings) → entries_of s.plan ≡ [] → AreAlike s) → TheNumberIsFound → Enough → OneSuperFrame
one_super_frame all_alike found enough s number none =
    let alike : AreAlike s = all_alike s none in
    let suffices : Suffices s (drawn_count s number) 1 =
    λ σ exists. subst (λ (n : ℕ). drawn_count s number σ + 11 ≤ n) (sym (alike.words σ 1))
    (fits (drawn_count s number σ) (words_per_super_frame s σ) (few s number σ) (many_words s σ (sym (alike.streams σ) ∙ exists))) in
    let k = enough s (drawn_count s number) 1 (omega arith) suffices in
    k.1 ∙ ap Some (one_of k.0 (least_is found s number k.0 k.1).some k.2)
