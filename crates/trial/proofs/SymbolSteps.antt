-- A trial from symbol to symbol, and its counts at the end.
use Rattle.std.proofs.Common.{◌≡◌, ℕ, zero, suc, ◌+◌, ◌-◌, ◌*◌, ◌/◌, ◌%◌, ◌^◌, ◌≤◌, ◌<◌, List, [], ◌∷◌, ◌++◌, length, refl, sym, ap, ap₂, ◌∙◌, subst, arith, append-nil, length-append, Bool, true, false, cond, Option, Some, None}
use Rattle.std.specs.Prelude.{sum, flat_map}
use Rattle.std.specs.List.{range_with_len}
use Rattle.std.specs.Option.{option_map}
use Rattle.std.proofs.lemmas.List.Concat.{flat_map-append}
use Rattle.spec_words.specs.Words.{numbers}
use Rattle.spec_words.proofs.Counting.{numbers_end}
use Rattle.mode_set.specs.StreamTable.{carriers}
use Rattle.mode_set.specs.declared.modes.Mode.{Mode}
use Rattle.mode_set.specs.declared.modes.Mode.TheVariants.{M2k, M8k}
use Rattle.mode_set.specs.declared.modes.Stream.{Stream}
use Rattle.mode_set.specs.declared.modes.Stream.TheVariants.{Hp, Lp}
use Rattle.mode_set.specs.declared.settings.Settings.{Settings}
use Rattle.load_gen.specs.Draws.{after, packet_words}
use Rattle.symbol_parameters.specs.Spans.{exists_in}
use Rattle.transmission.specs.Transmission.{Inputs}
use Rattle.transmission.specs.SuperFrames.{packets_for}
use Rattle.transmission.specs.Laws.{NoPackets, PacketsGrow}
use Rattle.modulator.specs.State.{Transmitter, HasPut}
use Rattle.rx_report.specs.declared.counts.Counts.{Counts}
use Rattle.rx_report.specs.declared.counts.StreamCounts.{StreamCounts}
use Rattle.reception.specs.Cells.{symbol_length, symbols, tail}
use Rattle.reception.specs.Streams.{Reception, Final}
use Rattle.reception.specs.Lines.{counts_of, counts_of_stream}
use Rattle.receiver.specs.Seen.{ReceiverState}
use Rattle.trial.specs.declared.counts.StreamReturn.{StreamReturn}
use Rattle.trial.specs.declared.counts.TrialCounts.{TrialCounts}
use Rattle.trial.specs.Drawn.{hp_count, lp_count, drawn, drawn_count, before, symbol_from, trial_symbols}
use Rattle.trial.specs.Fed.{fed, fed_symbol, byte_sum}
use Rattle.trial.specs.Outcome.{TrialGives, stream_return, trial_counts}
use Rattle.trial.specs.Laws.{FedSymbolsAreLong, AreCounted, PacketsAreCounted}
use Rattle.trial.specs.declared.draws.Draws.{Draws}
use Rattle.trial.specs.Putting.{IsStarted, IsPutting, drawn_since}
use Rattle.trial.specs.Feeding.{HasGiven, HasEnded}
use Rattle.trial.specs.Counting.{return_of}
use Rattle.trial.specs.State.{IsBefore, first_fed}
use Rattle.trial.proofs.PacketSteps.{after_none, itself}
use Rattle.trial.proofs.PieceSteps.{more_summed}

-- ---- the symbols fed so far
none_fed : (s : Settings) (number : ℕ) → first_fed s number 0 ≡ []
unfolding first_fed numbers
none_fed s number = refl

one_fed : (s : Settings) (number m : ℕ) → first_fed s number (m + 1) ≡ first_fed s number m ++ fed_symbol s number m
unfolding first_fed
one_fed s number m =
    ap (flat_map (fed_symbol s number)) (numbers_end m)
    ∙ flat_map-append (fed_symbol s number) (numbers m) (m ∷ [])
    ∙ ap (λ (z : List ℕ). flat_map (fed_symbol s number) (numbers m) ++ z) (append-nil (fed_symbol s number m))

all_fed : (s : Settings) (number : ℕ) → first_fed s number (trial_symbols s number) ≡ fed s number
unfolding first_fed fed
all_fed s number = refl

long_from : FedSymbolsAreLong → (s : Settings) (number a n : ℕ) → length (flat_map (fed_symbol s number) (range_with_len a n)) ≡ n * symbol_length s
long_from long s number a zero = omega arith
long_from long s number a (suc n) =
    let both = length-append (fed_symbol s number a) (flat_map (fed_symbol s number) (range_with_len (a + 1) n)) in
    let here = long s number a in
    let rest = long_from long s number (a + 1) n in
    omega (arith, both, here, rest)

long_fed : FedSymbolsAreLong → (s : Settings) (number m : ℕ) → length (first_fed s number m) ≡ m * symbol_length s
unfolding first_fed numbers
long_fed long s number m = long_from long s number 0 m

whole_of : (m : Mode) (n : ℕ) → n * (5 * carriers m) / (5 * carriers m) ≡ n
whole_of M2k n = omega arith
whole_of M8k n = omega arith

rest_of : (m : Mode) (n : ℕ) → n * (5 * carriers m) % (5 * carriers m) ≡ 0
rest_of M2k n = omega arith
rest_of M8k n = omega arith

pub no_tail : FedSymbolsAreLong → (s : Settings) (number m : ℕ) → tail s (first_fed s number m) ≡ 0
no_tail long s number m = ap (λ (z : ℕ). z % symbol_length s) (long_fed long s number m) ∙ rest_of s.mode m

so_many : FedSymbolsAreLong → (s : Settings) (number m : ℕ) → symbols s (first_fed s number m) ≡ m
so_many long s number m = ap (λ (z : ℕ). z / symbol_length s) (long_fed long s number m) ∙ whole_of s.mode m

-- ---- before the first symbol
record IsStanding (x : ReceiverState) (m : ℕ) : Type 0 where
  going : x.ended ≡ false
  taken : x.taken ≡ m

standing : FedSymbolsAreLong → (s : Settings) (number m : ℕ) (x : ReceiverState) (hp lp : ℕ) → x.settings ≡ s → HasGiven x (first_fed s number m) hp lp → IsStanding x m
standing long s number m x hp lp same h = record {
  going = h.stands.ended;
  taken = h.stands.taken ∙ ap (λ (z : Settings). symbols z (first_fed s number m)) same ∙ so_many long s number m;
}

pub first_before : NoPackets → FedSymbolsAreLong → (s : Settings) (number : ℕ) (d : Draws) (t : Transmitter) (x : ReceiverState) (hp lp : ℕ) → IsStarted s number d → t.settings ≡ s → t.made ≡ 0 → t.hp ≡ 0 → t.lp ≡ 0
    → ((inputs : Inputs) → HasPut t inputs) → x.settings ≡ s → HasGiven x [] hp lp → IsBefore s 0 d t x hp lp 0
first_before none long s number d t x hp lp st settings made hp_none lp_none put receives given =
    let fed : HasGiven x (first_fed s d.number 0) hp lp = subst (λ (z : List ℕ). HasGiven x z hp lp) (sym (none_fed s d.number)) given in
    let stands : IsStanding x 0 = standing long s d.number 0 x hp lp receives fed in
    record {
      hp_packets = st.hp_packets ∙ ap hp_count (sym st.number_is);
      lp_packets = st.lp_packets ∙ ap (lp_count s) (sym st.number_is);
      hp_left = st.hp_left ∙ ap hp_count (sym st.number_is) ∙ less_none (hp_count d.number) (packets_for s Hp 0) (none s Hp);
      lp_left = st.lp_left ∙ ap (lp_count s) (sym st.number_is) ∙ less_none (lp_count s d.number) (packets_for s Lp 0) (none s Lp);
      load = st.load ∙ ap (λ (n : ℕ). before s n 0) (sym st.number_is);
      settings = settings;
      made = made;
      hp_put = hp_none ∙ sym (none s Hp);
      lp_put = lp_none ∙ sym (none s Lp);
      put = put (drawn s d.number);
      receives = receives;
      going = stands.going;
      taken = stands.taken;
      given = fed;
      cells_are = ap byte_sum (sym (none_fed s d.number));
    }
  where
    less_none : (c p : ℕ) → p ≡ 0 → c ≡ c - p
    less_none c p e = omega (arith, e)

-- ---- a symbol
module _ (s : Settings) (m : ℕ) (d : Draws) (t : Transmitter) (x : ReceiverState) (hp lp cells : ℕ) (b : IsBefore s m d t x hp lp cells) where
  no_words : (σ : Stream) (put : ℕ) → put ≡ packets_for s σ m → drawn_since s d.number σ m put ≡ 0
  no_words σ put e = ap (λ (z : ℕ). drawn_since s d.number σ m z) e ∙ itself _

  pub begins : PacketsGrow → IsPutting t.settings t.made d t
  begins grow =
      subst (λ (z : Settings). IsPutting z t.made d t) (sym b.settings) (subst (λ (n : ℕ). IsPutting s n d t) (sym b.made) (record {
        settings = b.settings;
        made = b.made;
        put = b.put;
        hp_left = b.hp_left ∙ ap (λ (z : ℕ). hp_count d.number - z) (sym b.hp_put);
        lp_left = b.lp_left ∙ ap (λ (z : ℕ). lp_count s d.number - z) (sym b.lp_put);
        hp_least = same t.hp (packets_for s Hp m) b.hp_put;
        hp_most = subst (λ (z : ℕ). z ≤ packets_for s Hp (m + 1)) (sym b.hp_put) (grow s Hp m (m + 1) (omega arith));
        lp_least = same t.lp (packets_for s Lp m) b.lp_put;
        lp_most = subst (λ (z : ℕ). z ≤ packets_for s Lp (m + 1)) (sym b.lp_put) (grow s Lp m (m + 1) (omega arith));
        in_order = λ l. none t.lp (packets_for s Lp m) b.lp_put l;
        load =
            b.load
            ∙ sym (after_none (before s d.number m))
            ∙ sym (after_none (after 0 (before s d.number m)))
            ∙ ap₂ (λ (p q : ℕ). after (packet_words * p) (after (packet_words * q) (before s d.number m))) (sym (no_words Lp t.lp b.lp_put)) (sym (no_words Hp t.hp b.hp_put));
      }))
    where
      same : (a c : ℕ) → a ≡ c → c ≤ a
      same a c e = omega (arith, e)

      none : {X : Type 0} (a c : ℕ) → a ≡ c → c < a → X
      none a c e l = absurd (omega (arith, e, l))

  pub next_before : FedSymbolsAreLong → (d' : Draws) (t' : Transmitter) (x' : ReceiverState) (hp' lp' cells' : ℕ) → d'.number ≡ d.number → d'.hp_packets ≡ d.hp_packets → d'.lp_packets ≡ d.lp_packets
      → d'.hp_left ≡ hp_count d.number - t'.hp → d'.lp_left ≡ lp_count s d.number - t'.lp → d'.load ≡ symbol_from s d.number m (before s d.number m)
      → t'.settings ≡ s → t'.made ≡ m + 1 → t'.hp ≡ packets_for s Hp (m + 1) → t'.lp ≡ packets_for s Lp (m + 1) → HasPut t' (drawn s d.number)
      → x'.settings ≡ s → HasGiven x' (first_fed s d.number m ++ fed_symbol s d.number m) hp' lp' → cells' ≡ (cells + sum (fed_symbol s d.number m)) % 2 ^ 32 → IsBefore s (m + 1) d' t' x' hp' lp' cells'
  unfolding before
  next_before long d' t' x' hp' lp' cells' number hp_packets lp_packets hp_left lp_left load settings made hp_put lp_put put receives given counted =
      let next : suc m ≡ m + 1 = omega arith in
      let now : HasGiven x' (first_fed s d'.number (m + 1)) hp' lp' =
      subst (λ (z : List ℕ). HasGiven x' z hp' lp') (sym (one_fed s d.number m) ∙ ap (λ (n : ℕ). first_fed s n (m + 1)) (sym number)) given in
      let stands : IsStanding x' (m + 1) = standing long s d'.number (m + 1) x' hp' lp' receives now in
      record {
        hp_packets = hp_packets ∙ b.hp_packets ∙ ap hp_count (sym number);
        lp_packets = lp_packets ∙ b.lp_packets ∙ ap (lp_count s) (sym number);
        hp_left = hp_left ∙ ap₂ (λ (n p : ℕ). hp_count n - p) (sym number) hp_put;
        lp_left = lp_left ∙ ap₂ (λ (n p : ℕ). lp_count s n - p) (sym number) lp_put;
        load = load ∙ ap₂ (λ (n k : ℕ). before s n k) (sym number) next;
        settings = settings;
        made = made;
        hp_put = hp_put;
        lp_put = lp_put;
        put = subst (λ (n : ℕ). HasPut t' (drawn s n)) (sym number) put;
        receives = receives;
        going = stands.going;
        taken = stands.taken;
        given = now;
        cells_are =
            counted
            ∙ ap (λ (n : ℕ). (n + sum (fed_symbol s d.number m)) % 2 ^ 32) b.cells_are
            ∙ sym (more_summed (first_fed s d.number m) (fed_symbol s d.number m))
            ∙ ap byte_sum (sym (one_fed s d.number m) ∙ ap (λ (n : ℕ). first_fed s n (m + 1)) (sym number));
      }

-- ---- the end
returned : (p p' b b' u u' : ℕ) → p ≡ p' → b ≡ b' → u ≡ u' → ◌≡◌ {A = StreamReturn} (record { packets = p; back = b; sum = u }) (record { packets = p'; back = b'; sum = u' })
returned p p' b b' u u' e f g = ap (λ (z : ℕ). made z b u) e ∙ ap (λ (z : ℕ). made p' z u) f ∙ ap (λ (z : ℕ). made p' b' z) g
  where
    made : ℕ → ℕ → ℕ → StreamReturn
    made p b u = record { packets = p; back = b; sum = u }

whole_packets : (n w : ℕ) → n ≡ 188 * w → w ≡ n / 188
whole_packets n w e = omega (arith, e)

stream_is : (s : Settings) (number : ℕ) (r : Reception) (σ : Stream) (packets sum_of : ℕ) → AreCounted (r.packets σ) (r.tally σ) → packets ≡ drawn_count s number σ → sum_of ≡ byte_sum (r.packets σ)
    → return_of packets (counts_of_stream r σ) sum_of ≡ stream_return s number r σ
stream_is s number r σ packets sum_of counted e f =
    returned packets (drawn_count s number σ) ((r.tally σ).words - (r.tally σ).unphased) (length (r.packets σ) / 188) sum_of (byte_sum (r.packets σ)) e (whole_packets (length (r.packets σ)) ((r.tally σ).words - (r.tally σ).unphased) counted.long) f

where_there : (f : StreamCounts → StreamReturn) (there : Bool) (counts : StreamCounts) (y : StreamReturn) → f counts ≡ y → option_map f (cond there (Some counts) None) ≡ cond there (Some y) None
where_there f true counts y e = ap Some e
where_there f false counts y e = refl

pub ended : PacketsAreCounted → (s : Settings) (d : Draws) (x : ReceiverState) (hp lp cells : ℕ) (counts : Counts) (y : StreamReturn) (z : Option StreamReturn) → d.hp_packets ≡ hp_count d.number → d.lp_packets ≡ lp_count s d.number
    → x.settings ≡ s → cells ≡ byte_sum (first_fed s d.number (trial_symbols s d.number)) → (h : HasEnded x (first_fed s d.number (trial_symbols s d.number)) hp lp) → counts ≡ counts_of x.settings (first_fed s d.number (trial_symbols s d.number)) h.given
    → y ≡ return_of d.hp_packets counts.hp hp → z ≡ option_map (λ (c : StreamCounts). return_of d.lp_packets c lp) counts.lp
    → (r : Reception) × TrialGives s d.number r × (◌≡◌ {A = TrialCounts} (record { cells = cells; hp = y; lp = z }) (trial_counts s d.number r))
ended back s d x hp lp cells counts y z hp_packets lp_packets same cells_are h counted y_is z_is =
    let bytes : List ℕ = first_fed s d.number (trial_symbols s d.number) in
    let r : Reception = h.given in
    let final : Final s bytes r = subst (λ (q : Settings). Final q bytes r) same h.final in
    let hp_is : y ≡ stream_return s d.number r Hp =
    y_is ∙ ap (λ (q : Counts). return_of d.hp_packets q.hp hp) counted ∙ stream_is s d.number r Hp d.hp_packets hp (back s bytes r Hp final) hp_packets h.hp_sum in
    let lp_is : z ≡ cond (exists_in s Lp) (Some (stream_return s d.number r Lp)) None =
    z_is
    ∙ ap (λ (q : Counts). option_map (λ (c : StreamCounts). return_of d.lp_packets c lp) q.lp) counted
    ∙ ap (λ (q : Settings). option_map (λ (c : StreamCounts). return_of d.lp_packets c lp) (cond (exists_in q Lp) (Some (counts_of_stream r Lp)) None)) same
    ∙ where_there (λ (c : StreamCounts). return_of d.lp_packets c lp) (exists_in s Lp) (counts_of_stream r Lp) (stream_return s d.number r Lp) (stream_is s d.number r Lp d.lp_packets lp (back s bytes r Lp final) lp_packets h.lp_sum) in (
      r,
      subst (λ (q : List ℕ). Final s q r) (all_fed s d.number) final,
      ap (λ (n : ℕ). made n y z) (cells_are ∙ ap byte_sum (all_fed s d.number)) ∙ ap₂ (λ (p : StreamReturn) (q : Option StreamReturn). made (byte_sum (fed s d.number)) p q) hp_is lp_is,
    )
  where
    made : ℕ → StreamReturn → Option StreamReturn → TrialCounts
    made c p q = record { cells = c; hp = p; lp = q }
