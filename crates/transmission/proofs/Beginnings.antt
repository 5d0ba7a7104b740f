-- A symbol depends only on the packets up to its own.
use Rattle.std.proofs.Common.{◌≡◌, ℕ, zero, suc, ◌+◌, ◌-◌, ◌*◌, ◌/◌, ◌%◌, ◌<◌, ◌≤◌, ◌⊎◌, inl, inr, List, [], ◌∷◌, refl, sym, ap, ◌∙◌, subst, arith, Bool, true, false, cond, IsTrue}
use Rattle.std.specs.Prelude.{slice_index, slice_index_or, nat_lt}
use Rattle.std.proofs.lemmas.Bool.{cases_lt, lt-ltb, le-ltb}
use Rattle.spec_words.specs.Bits.{is_set}
use Rattle.spec_words.specs.Words.{first_below}
use Rattle.mode_set.specs.Kept.{is_flat, is_qpsk}
use Rattle.mode_set.specs.StreamTable.{payload, label_bits, width, coded, need, rate, has_stream, steps_in_period, sent_in_period}
use Rattle.mode_set.specs.declared.modes.Mode.{Mode}
use Rattle.mode_set.specs.declared.modes.Mode.TheVariants.{M2k, M8k}
use Rattle.mode_set.specs.declared.modes.Shape.{Shape}
use Rattle.mode_set.specs.declared.modes.Shape.TheVariants.{Qpsk, Qam16, Qam64}
use Rattle.mode_set.specs.declared.modes.Hierarchy.{Hierarchy}
use Rattle.mode_set.specs.declared.modes.Hierarchy.TheVariants.{Flat, Alpha1, Alpha2, Alpha4}
use Rattle.mode_set.specs.declared.modes.Rate.{Rate}
use Rattle.mode_set.specs.declared.modes.Rate.TheVariants.{R1of2, R2of3, R3of4, R5of6, R7of8}
use Rattle.mode_set.specs.declared.modes.Stream.{Stream}
use Rattle.mode_set.specs.declared.modes.Stream.TheVariants.{Hp, Lp}
use Rattle.mode_set.specs.declared.settings.Settings.{Settings}
use Rattle.puncture.specs.SentBits.{X, sent, path_of, window, sent_bit}
use Rattle.puncture.specs.Steps.{sent_as, step_of, step_in_period}
use Rattle.puncture.specs.Laws.{SentBitsHaveSteps, parity_of}
use Rattle.bit_interleave.specs.Place.{place_in_label, word_of_bit, offset, stands_at, stream_at, IsSent, EachBitIsFound}
use Rattle.symbol_interleave.specs.Carried.{h, carried, is_odd, HIsAPermutation, PlacesAndWordsAgree}
use Rattle.outer_chain.specs.Sent.{packet_at, outer_byte}
use Rattle.inner_chain.specs.Labels.{number_at, label_bit}
use Rattle.frame_build.specs.Announcing.{announcing_bytes}
use Rattle.frame_build.specs.Symbol.{Agree}
use Rattle.symbol_parameters.specs.Spans.{settings_at, steps_of, steps_before}
use Rattle.symbol_parameters.specs.Laws.{ModeStays, StepsOfOneMore}
use Rattle.transmission.specs.Transmission.{Inputs, announced_at, paths_at, tx_label, tx_symbol}
use Rattle.transmission.specs.SuperFrames.{packets_for}
use Rattle.transmission.specs.Laws.{SameBeginning}
use Rattle.transmission.proofs.PacketCounts.{the_packets_are_least}

-- ---- the word on a payload carrier
word_within : HIsAPermutation → PlacesAndWordsAgree → (m : Mode) (odd : Bool) (q : ℕ) → q < payload m → carried m odd q < payload m
word_within perm agree m true q l = (perm m).below q l
word_within perm agree m false q l =
    let found = (perm m).each q l in
    let back : carried m false (slice_index (h m) found.0) ≡ found.0 = (agree m false found.0 found.1).1 in
    let here : carried m false q ≡ found.0 = ap (carried m false) (sym found.2) ∙ back in
    below_at (carried m false q) found.0 (payload m) here found.1
  where
    below_at : (a b n : ℕ) → a ≡ b → b < n → a < n
    below_at a b n e k = omega (arith, e, k)

-- ---- each bit of a word is a coded bit of the symbol
offset_small : (e : ℕ) → offset e < 126
offset_small zero = omega arith
offset_small (suc zero) = omega arith
offset_small (suc (suc zero)) = omega arith
offset_small (suc (suc (suc zero))) = omega arith
offset_small (suc (suc (suc (suc zero)))) = omega arith
offset_small (suc (suc (suc (suc (suc zero))))) = omega arith
offset_small (suc (suc (suc (suc (suc (suc e)))))) = omega arith

index_back : (w o : ℕ) → o < 126 → let i = 126 * (w / 126) + (w + o) % 126 in 126 * (i / 126) + (i + 126 - o) % 126 ≡ w
index_back w o l = omega arith

index_within : (m : Mode) (w o : ℕ) → w < payload m → 126 * (w / 126) + (w + o) % 126 < payload m
index_within M2k w o l = omega (arith, l)
index_within M8k w o l = omega (arith, l)

-- bit d of a stream with n bits a label, from bit f on, is bit e of word w, and one of `most`
record At (n half f e w most : ℕ) : Type 0 where
  d : ℕ
  place : d % n / half + 2 * (d % n % half) + f ≡ e
  word : 126 * (d / n / 126) + (d / n + 126 - offset (d % n / half + 2 * (d % n % half) + f)) % 126 ≡ w
  within : d < most

number_2 : (i f e most : ℕ) → f ≤ e → e < f + 2 → i < most → let d = 2 * i + 1 * ((e - f) % 2) + (e - f) / 2 in (d % 2 / 1 + 2 * (d % 2 % 1) + f ≡ e) × (d / 2 ≡ i) × (d < most * 2)
number_2 i f e most l k b = (omega (arith, l, k), omega (arith, l, k), omega (arith, l, k, b))

number_4 : (i f e most : ℕ) → f ≤ e → e < f + 4 → i < most → let d = 4 * i + 2 * ((e - f) % 2) + (e - f) / 2 in (d % 4 / 2 + 2 * (d % 4 % 2) + f ≡ e) × (d / 4 ≡ i) × (d < most * 4)
number_4 i f e most l k b = (omega (arith, l, k), omega (arith, l, k), omega (arith, l, k, b))

number_6 : (i f e most : ℕ) → f ≤ e → e < f + 6 → i < most → let d = 6 * i + 3 * ((e - f) % 2) + (e - f) / 2 in (d % 6 / 3 + 2 * (d % 6 % 3) + f ≡ e) × (d / 6 ≡ i) × (d < most * 6)
number_6 i f e most l k b = (omega (arith, l, k), omega (arith, l, k), omega (arith, l, k, b))

at_2 : (m : Mode) (f e w : ℕ) → f ≤ e → e < f + 2 → w < payload m → At 2 1 f e w (payload m * 2)
at_2 m f e w l k b =
    let i : ℕ = 126 * (w / 126) + (w + offset e) % 126 in
    let d : ℕ = 2 * i + 1 * ((e - f) % 2) + (e - f) / 2 in
    let p = number_2 i f e (payload m) l k (index_within m w (offset e) b) in
    record {
      d = d;
      place = p.0;
      word =
          ap (λ (z : ℕ). 126 * (d / 2 / 126) + (d / 2 + 126 - offset z) % 126) p.0
          ∙ ap (λ (z : ℕ). 126 * (z / 126) + (z + 126 - offset e) % 126) p.1
          ∙ index_back w (offset e) (offset_small e);
      within = p.2;
    }

at_4 : (m : Mode) (f e w : ℕ) → f ≤ e → e < f + 4 → w < payload m → At 4 2 f e w (payload m * 4)
at_4 m f e w l k b =
    let i : ℕ = 126 * (w / 126) + (w + offset e) % 126 in
    let d : ℕ = 4 * i + 2 * ((e - f) % 2) + (e - f) / 2 in
    let p = number_4 i f e (payload m) l k (index_within m w (offset e) b) in
    record {
      d = d;
      place = p.0;
      word =
          ap (λ (z : ℕ). 126 * (d / 4 / 126) + (d / 4 + 126 - offset z) % 126) p.0
          ∙ ap (λ (z : ℕ). 126 * (z / 126) + (z + 126 - offset e) % 126) p.1
          ∙ index_back w (offset e) (offset_small e);
      within = p.2;
    }

at_6 : (m : Mode) (f e w : ℕ) → f ≤ e → e < f + 6 → w < payload m → At 6 3 f e w (payload m * 6)
at_6 m f e w l k b =
    let i : ℕ = 126 * (w / 126) + (w + offset e) % 126 in
    let d : ℕ = 6 * i + 3 * ((e - f) % 2) + (e - f) / 2 in
    let p = number_6 i f e (payload m) l k (index_within m w (offset e) b) in
    record {
      d = d;
      place = p.0;
      word =
          ap (λ (z : ℕ). 126 * (d / 6 / 126) + (d / 6 + 126 - offset z) % 126) p.0
          ∙ ap (λ (z : ℕ). 126 * (z / 126) + (z + 126 - offset e) % 126) p.1
          ∙ index_back w (offset e) (offset_small e);
      within = p.2;
    }

-- the coded bit at bit e of word w
record Placed (c : Shape) (hi : Hierarchy) (σ : Stream) (e w most : ℕ) : Type 0 where
  d : ℕ
  place : place_in_label c hi σ d ≡ e
  word : word_of_bit c hi σ d ≡ w
  within : d < most * width c hi σ
  exists : IsTrue (has_stream hi σ)

by_half : (c : Shape) (hi : Hierarchy) (e w most : ℕ) (b : Bool) → nat_lt e 2 ≡ b → Placed c hi (cond b Hp Lp) e w most → Placed c hi (cond (nat_lt e 2) Hp Lp) e w most
by_half c hi e w most b is p = subst (λ (z : Bool). Placed c hi (cond z Hp Lp) e w most) (sym is) p

placed : (c : Shape) (hi : Hierarchy) (m : Mode) (e w : ℕ) → (IsTrue (is_qpsk c) → IsTrue (is_flat hi)) → e < label_bits c → w < payload m → Placed c hi (stream_at hi e) e w (payload m)
placed Qpsk Flat m e w kept l b = let a = at_2 m 0 e w (omega arith) (omega (arith, l)) b in record { d = a.d; place = a.place; word = a.word; within = a.within; exists = refl }
placed Qam16 Flat m e w kept l b = let a = at_4 m 0 e w (omega arith) (omega (arith, l)) b in record { d = a.d; place = a.place; word = a.word; within = a.within; exists = refl }
placed Qam64 Flat m e w kept l b = let a = at_6 m 0 e w (omega arith) (omega (arith, l)) b in record { d = a.d; place = a.place; word = a.word; within = a.within; exists = refl }
placed Qpsk Alpha1 m e w kept l b = let no_hierarchy : false ≡ true = kept refl in absurd (cc)
placed Qpsk Alpha2 m e w kept l b = let no_hierarchy : false ≡ true = kept refl in absurd (cc)
placed Qpsk Alpha4 m e w kept l b = let no_hierarchy : false ≡ true = kept refl in absurd (cc)
placed Qam16 Alpha1 m e w kept l b = go (cases_lt e 2)
  where
    go : (e < 2) ⊎ (2 ≤ e) → Placed Qam16 Alpha1 (cond (nat_lt e 2) Hp Lp) e w (payload m)
    go (inl k) = let a = at_2 m 0 e w (omega arith) (omega (arith, k)) b in by_half Qam16 Alpha1 e w (payload m) true (lt-ltb e 2 k) (record { d = a.d; place = a.place; word = a.word; within = a.within; exists = refl })
    go (inr k) = let a = at_2 m 2 e w k (omega (arith, l)) b in by_half Qam16 Alpha1 e w (payload m) false (le-ltb e 2 k) (record { d = a.d; place = a.place; word = a.word; within = a.within; exists = refl })
placed Qam16 Alpha2 m e w kept l b = go (cases_lt e 2)
  where
    go : (e < 2) ⊎ (2 ≤ e) → Placed Qam16 Alpha2 (cond (nat_lt e 2) Hp Lp) e w (payload m)
    go (inl k) = let a = at_2 m 0 e w (omega arith) (omega (arith, k)) b in by_half Qam16 Alpha2 e w (payload m) true (lt-ltb e 2 k) (record { d = a.d; place = a.place; word = a.word; within = a.within; exists = refl })
    go (inr k) = let a = at_2 m 2 e w k (omega (arith, l)) b in by_half Qam16 Alpha2 e w (payload m) false (le-ltb e 2 k) (record { d = a.d; place = a.place; word = a.word; within = a.within; exists = refl })
placed Qam16 Alpha4 m e w kept l b = go (cases_lt e 2)
  where
    go : (e < 2) ⊎ (2 ≤ e) → Placed Qam16 Alpha4 (cond (nat_lt e 2) Hp Lp) e w (payload m)
    go (inl k) = let a = at_2 m 0 e w (omega arith) (omega (arith, k)) b in by_half Qam16 Alpha4 e w (payload m) true (lt-ltb e 2 k) (record { d = a.d; place = a.place; word = a.word; within = a.within; exists = refl })
    go (inr k) = let a = at_2 m 2 e w k (omega (arith, l)) b in by_half Qam16 Alpha4 e w (payload m) false (le-ltb e 2 k) (record { d = a.d; place = a.place; word = a.word; within = a.within; exists = refl })
placed Qam64 Alpha1 m e w kept l b = go (cases_lt e 2)
  where
    go : (e < 2) ⊎ (2 ≤ e) → Placed Qam64 Alpha1 (cond (nat_lt e 2) Hp Lp) e w (payload m)
    go (inl k) = let a = at_2 m 0 e w (omega arith) (omega (arith, k)) b in by_half Qam64 Alpha1 e w (payload m) true (lt-ltb e 2 k) (record { d = a.d; place = a.place; word = a.word; within = a.within; exists = refl })
    go (inr k) = let a = at_4 m 2 e w k (omega (arith, l)) b in by_half Qam64 Alpha1 e w (payload m) false (le-ltb e 2 k) (record { d = a.d; place = a.place; word = a.word; within = a.within; exists = refl })
placed Qam64 Alpha2 m e w kept l b = go (cases_lt e 2)
  where
    go : (e < 2) ⊎ (2 ≤ e) → Placed Qam64 Alpha2 (cond (nat_lt e 2) Hp Lp) e w (payload m)
    go (inl k) = let a = at_2 m 0 e w (omega arith) (omega (arith, k)) b in by_half Qam64 Alpha2 e w (payload m) true (lt-ltb e 2 k) (record { d = a.d; place = a.place; word = a.word; within = a.within; exists = refl })
    go (inr k) = let a = at_4 m 2 e w k (omega (arith, l)) b in by_half Qam64 Alpha2 e w (payload m) false (le-ltb e 2 k) (record { d = a.d; place = a.place; word = a.word; within = a.within; exists = refl })
placed Qam64 Alpha4 m e w kept l b = go (cases_lt e 2)
  where
    go : (e < 2) ⊎ (2 ≤ e) → Placed Qam64 Alpha4 (cond (nat_lt e 2) Hp Lp) e w (payload m)
    go (inl k) = let a = at_2 m 0 e w (omega arith) (omega (arith, k)) b in by_half Qam64 Alpha4 e w (payload m) true (lt-ltb e 2 k) (record { d = a.d; place = a.place; word = a.word; within = a.within; exists = refl })
    go (inr k) = let a = at_4 m 2 e w k (omega (arith, l)) b in by_half Qam64 Alpha4 e w (payload m) false (le-ltb e 2 k) (record { d = a.d; place = a.place; word = a.word; within = a.within; exists = refl })

number_within : EachBitIsFound → (s : Settings) (e w : ℕ) → e < label_bits s.shape → w < payload s.mode → number_at s e w < coded s (stream_at s.hierarchy e)
unfolding number_at
number_within found s e w l b =
    let σ : Stream = stream_at s.hierarchy e in
    let p = placed s.shape s.hierarchy s.mode e w s.kept.qpsk l b in
    let sent : IsSent s.shape s.hierarchy σ = record { qpsk = s.kept.qpsk; exists = p.exists } in
    let is : first_below (coded s σ) (stands_at s.shape s.hierarchy σ e w) ≡ p.d =
    ap (λ (z : ℕ). first_below (coded s σ) (stands_at s.shape s.hierarchy σ z w)) (sym p.place)
    ∙ ap (λ (z : ℕ). first_below (coded s σ) (stands_at s.shape s.hierarchy σ (place_in_label s.shape s.hierarchy σ p.d) z)) (sym p.word)
    ∙ found s.shape s.hierarchy σ (coded s σ) p.d sent p.within in
    below_at (first_below (coded s σ) (stands_at s.shape s.hierarchy σ e w)) p.d (coded s σ) is p.within
  where
    below_at : (a b n : ℕ) → a ≡ b → b < n → a < n
    below_at a b n e k = omega (arith, e, k)

-- ---- sent bits of paths with a common prefix
last_step : (r : Rate) (i : ℕ) → step_in_period (slice_index_or (sent r) i (X 1)) ≤ steps_in_period r
last_step R1of2 zero = omega arith
last_step R1of2 (suc zero) = omega arith
last_step R1of2 (suc (suc i)) = omega arith
last_step R2of3 zero = omega arith
last_step R2of3 (suc zero) = omega arith
last_step R2of3 (suc (suc zero)) = omega arith
last_step R2of3 (suc (suc (suc i))) = omega arith
last_step R3of4 zero = omega arith
last_step R3of4 (suc zero) = omega arith
last_step R3of4 (suc (suc zero)) = omega arith
last_step R3of4 (suc (suc (suc zero))) = omega arith
last_step R3of4 (suc (suc (suc (suc i)))) = omega arith
last_step R5of6 zero = omega arith
last_step R5of6 (suc zero) = omega arith
last_step R5of6 (suc (suc zero)) = omega arith
last_step R5of6 (suc (suc (suc zero))) = omega arith
last_step R5of6 (suc (suc (suc (suc zero)))) = omega arith
last_step R5of6 (suc (suc (suc (suc (suc zero))))) = omega arith
last_step R5of6 (suc (suc (suc (suc (suc (suc i)))))) = omega arith
last_step R7of8 zero = omega arith
last_step R7of8 (suc zero) = omega arith
last_step R7of8 (suc (suc zero)) = omega arith
last_step R7of8 (suc (suc (suc zero))) = omega arith
last_step R7of8 (suc (suc (suc (suc zero)))) = omega arith
last_step R7of8 (suc (suc (suc (suc (suc zero))))) = omega arith
last_step R7of8 (suc (suc (suc (suc (suc (suc zero)))))) = omega arith
last_step R7of8 (suc (suc (suc (suc (suc (suc (suc zero))))))) = omega arith
last_step R7of8 (suc (suc (suc (suc (suc (suc (suc (suc i)))))))) = omega arith

step_below : (r : Rate) (n p k : ℕ) → n < p * sent_in_period r → k ≤ steps_in_period r → n / sent_in_period r * steps_in_period r + (k - 1) < p * steps_in_period r
step_below R1of2 n p k l m = omega (arith, l, m)
step_below R2of3 n p k l m = omega (arith, l, m)
step_below R3of4 n p k l m = omega (arith, l, m)
step_below R5of6 n p k l m = omega (arith, l, m)
step_below R7of8 n p k l m = omega (arith, l, m)

seven : (a b c d e f g a' b' c' d' e' f' g' : Bool) → a ≡ a' → b ≡ b' → c ≡ c' → d ≡ d' → e ≡ e' → f ≡ f' → g ≡ g' → ◌≡◌ {A = List Bool} (a ∷ b ∷ c ∷ d ∷ e ∷ f ∷ g ∷ []) (a' ∷ b' ∷ c' ∷ d' ∷ e' ∷ f' ∷ g' ∷ [])
seven a b c d e f g a' b' c' d' e' f' g' pa pb pc pd pe pf pg = cc

same_window : (path other : ℕ → Bool) (n t : ℕ) → ((i : ℕ) → i < n + 6 → path i ≡ other i) → t < n → window path t ≡ window other t
same_window path other n t same l = seven _ _ _ _ _ _ _ _ _ _ _ _ _ _ (same t (omega (arith, l))) (same (t + 1) (omega (arith, l))) (same (t + 2) (omega (arith, l))) (same (t + 3) (omega (arith, l))) (same (t + 4) (omega (arith, l))) (same (t + 5) (omega (arith, l))) (same (t + 6) (omega (arith, l)))

-- the sent bits of the first p periods
same_sent : SentBitsHaveSteps → (r : Rate) (path other : ℕ → Bool) (n p : ℕ) → n < p * sent_in_period r → ((i : ℕ) → i < p * steps_in_period r + 6 → path i ≡ other i) → sent_bit r path n ≡ sent_bit r other n
same_sent steps r path other n p l same =
    let has = steps r n in
    let within : step_of r n < p * steps_in_period r = step_below r n p (step_in_period (sent_as r n)) l (last_step r (n % sent_in_period r)) in
    has.bit path ∙ ap (parity_of (sent_as r n)) (same_window path other (p * steps_in_period r) (step_of r n) same within) ∙ sym (has.bit other)

-- bytes that agree below n
same_path : (bytes other : ℕ → ℕ) (n i : ℕ) → ((p : ℕ) → p < n → bytes p ≡ other p) → i < 8 * n + 6 → path_of bytes i ≡ path_of other i
same_path bytes other n i same l = go (cases_lt i 6)
  where
    go : (i < 6) ⊎ (6 ≤ i) → path_of bytes i ≡ path_of other i
    go (inl k) = let test : nat_lt i 6 ≡ true = lt-ltb i 6 k in rw test refl
    go (inr k) = ap (λ (z : ℕ). cond (nat_lt i 6) false (is_set z (7 - (i - 6) % 8))) (same ((i - 6) / 8) (omega (arith, l, k)))

-- ---- periods of a symbol
whole_of : (m : Mode) (w : ℕ) (r : Rate) → payload m * w * steps_in_period r / sent_in_period r * sent_in_period r ≡ payload m * w * steps_in_period r
whole_of M2k w R1of2 = omega arith
whole_of M2k w R2of3 = omega arith
whole_of M2k w R3of4 = omega arith
whole_of M2k w R5of6 = omega arith
whole_of M2k w R7of8 = omega arith
whole_of M8k w R1of2 = omega arith
whole_of M8k w R2of3 = omega arith
whole_of M8k w R3of4 = omega arith
whole_of M8k w R5of6 = omega arith
whole_of M8k w R7of8 = omega arith

periods_of : (r : Rate) (c n : ℕ) → n * sent_in_period r ≡ c * steps_in_period r → ((c - n) * sent_in_period r ≡ c) × ((c - n) * steps_in_period r ≡ n)
periods_of R1of2 c n e = (omega arith, omega arith)
periods_of R2of3 c n e = (omega arith, omega arith)
periods_of R3of4 c n e = (omega arith, omega arith)
periods_of R5of6 c n e = (omega arith, omega arith)
periods_of R7of8 c n e = (omega arith, omega arith)

periods : (s : Settings) (σ : Stream) → ((coded s σ - need s σ) * sent_in_period (rate s σ) ≡ coded s σ) × ((coded s σ - need s σ) * steps_in_period (rate s σ) ≡ need s σ)
periods s σ = periods_of (rate s σ) (coded s σ) (need s σ) (whole_of s.mode (width s.shape s.hierarchy σ) (rate s σ))

-- coded bit d of a symbol, along the paths from its first step on
same_coded_bit : SentBitsHaveSteps → (s : Settings) (σ : Stream) (d : ℕ) (path other : ℕ → Bool) → d < coded s σ → ((i : ℕ) → i < need s σ + 6 → path i ≡ other i) → sent_bit (rate s σ) path d ≡ sent_bit (rate s σ) other d
same_coded_bit steps s σ d path other l same =
    let p = periods s σ in
    same_sent steps (rate s σ) path other d (coded s σ - need s σ) (below_as d (coded s σ) ((coded s σ - need s σ) * sent_in_period (rate s σ)) p.0 l)
    (λ i k. same i (below_six i ((coded s σ - need s σ) * steps_in_period (rate s σ)) (need s σ) p.1 k))
  where
    below_as : (d c n : ℕ) → n ≡ c → d < c → d < n
    below_as d c n e k = omega (arith, e, k)

    below_six : (i a b : ℕ) → a ≡ b → i < a + 6 → i < b + 6
    below_six i a b e k = omega (arith, e, k)

-- ---- symbols what the outer coding of packets gives depends on these packets alone
abbrev pub SameBytes : Type 0
SameBytes = (packets other : List (List ℕ)) (n : ℕ) → ((i : ℕ) → i < n → packet_at packets i ≡ packet_at other i) → (p : ℕ) → p < 204 * n → outer_byte packets p ≡ outer_byte other p

same_paths : SameBytes → StepsOfOneMore → (s : Settings) (inputs other : Inputs) (m : ℕ) (σ : Stream) → ((i : ℕ) → i < packets_for s σ (m + 1) → packet_at (inputs σ) i ≡ packet_at (other σ) i)
    → (i : ℕ) → i < steps_of s σ m + 6 → paths_at s inputs m σ i ≡ paths_at s other m σ i
same_paths bytes more s inputs other m σ same i l =
    same_path (outer_byte (inputs σ)) (outer_byte (other σ)) (204 * packets_for s σ (m + 1)) (steps_before s σ m + i) (bytes (inputs σ) (other σ) (packets_for s σ (m + 1)) same)
    (sum_up (steps_before s σ (m + 1)) (steps_before s σ m) (steps_of s σ m) (packets_for s σ (m + 1)) (more s σ m) (the_packets_are_least s σ (m + 1)).enough l)
  where
    sum_up : (c a n b : ℕ) → c ≡ a + n → c ≤ 1632 * b → i < n + 6 → a + i < 8 * (204 * b) + 6
    sum_up c a n b e q t = omega (arith, e, q, t)

-- the known facts on the coding of a symbol
pub record AreCoded : Type 0 where
  pub bytes : SameBytes
  pub more : StepsOfOneMore
  pub found : EachBitIsFound
  pub permutation : HIsAPermutation
  pub agree : PlacesAndWordsAgree
  pub steps : SentBitsHaveSteps

same_labels : AreCoded → (s : Settings) (inputs other : Inputs) (m : ℕ) → ((σ : Stream) (i : ℕ) → i < packets_for s σ (m + 1) → packet_at (inputs σ) i ≡ packet_at (other σ) i)
    → Agree (settings_at s m) (tx_label s inputs m) (tx_label s other m)
unfolding tx_label label_bit
same_labels known s inputs other m same q e l k =
    let z : Settings = settings_at s m in
    let σ : Stream = stream_at z.hierarchy e in
    let w : ℕ = carried z.mode (is_odd m) q in
    same_coded_bit known.steps z σ (number_at z e w) (paths_at s inputs m σ) (paths_at s other m σ) (number_within known.found z e w k (word_within known.permutation known.agree z.mode (is_odd m) q l))
    (same_paths known.bytes known.more s inputs other m σ (same σ))

-- symbols depend on their labels only, for any settings of the mode
pub same_beginning : (s : Settings) (m : ℕ) → ModeStays → AreCoded
    → ((now next : Settings) (labels more : ℕ → ℕ → Bool) → now.mode ≡ s.mode → Agree now labels more → announcing_bytes now next m labels ≡ announcing_bytes now next m more) → SameBeginning s m
unfolding tx_symbol
same_beginning s m stay known follows inputs other same =
    follows (settings_at s m) (announced_at s m) (tx_label s inputs m) (tx_label s other m) (stay s (m / 272)) (same_labels known s inputs other m same)
