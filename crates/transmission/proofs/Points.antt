-- The laws of the order of work.
use Rattle.std.proofs.Common.{◌≡◌, ℕ, zero, suc, ◌+◌, ◌-◌, ◌≤◌, ◌<◌, ◌⊎◌, inl, inr, List, [], ◌∷◌, ◌++◌, refl, ap, ◌∙◌, subst, arith, append_assoc, Bool, true, false, cond}
use Rattle.std.specs.Prelude.{map, flat_map, find, take_while, count_by, Option, Some, None, is_some, is_none, option_and_then, nat_lt, nat_le}
use Rattle.std.specs.List.{range_with_len}
use Rattle.std.proofs.lemmas.Bool.{cases_lt, ltb-true, ltb-false, le-leb, lt-leb}
use Rattle.std.proofs.lemmas.List.Concat.{flat_map-append}
use Rattle.spec_words.specs.Words.{numbers}
use Rattle.mode_set.specs.declared.modes.Stream.{Stream}
use Rattle.mode_set.specs.declared.modes.Stream.TheVariants.{Hp, Lp}
use Rattle.mode_set.specs.declared.settings.Settings.{Settings}
use Rattle.transmission.specs.Transmission.{Inputs, by_stream}
use Rattle.transmission.specs.SuperFrames.{packets_for, symbols_of}
use Rattle.transmission.specs.Agenda.{Item, ask_limit, take_packet, send_symbol, takes, items_of, agenda, next_stream, Refusal, Limit, packet_refusal, refusal, first_refusal, done, is_send}
use Rattle.transmission.specs.AgendaLaws.{IsAt, StopsAt, WorkBegins, TakesOfHp, TakesOfLp, SendsSymbol, StopsAtLimit, StopsAtPacket, EndsUnrefused, SentSoFar}
use Rattle.transmission.specs.Laws.{NoPackets, PacketsGrow}
use Rattle.transmission.proofs.Items.{AreClear, both_clear, found_at, found_none, taken_at, taken_all, taken_through, count_both, takes_clear, takes_send, takes_part, numbers_at, numbers_to}

-- ---- which stream is wanted
hp_only : (b c : Bool) → cond b (Some Hp) (cond c (Some Lp) None) ≡ Some Hp → b ≡ true
hp_only true c e = refl
hp_only false true e = cc
hp_only false false e = cc

lp_only : (b c : Bool) → cond b (Some Hp) (cond c (Some Lp) None) ≡ Some Lp → (b ≡ false) × (c ≡ true)
lp_only true c e = cc
lp_only false true e = (refl, refl)
lp_only false false e = cc

none_only : (b c : Bool) → cond b (Some Hp) (cond c (Some Lp) None) ≡ None → (b ≡ false) × (c ≡ false)
none_only true c e = cc
none_only false true e = cc
none_only false false e = (refl, refl)

pub wants_hp : (s : Settings) (m hp lp : ℕ) → next_stream s m hp lp ≡ Some Hp → hp < packets_for s Hp (m + 1)
wants_hp s m hp lp e = ltb-true _ _ (hp_only (nat_lt hp (packets_for s Hp (m + 1))) (nat_lt lp (packets_for s Lp (m + 1))) e)

pub wants_lp : (s : Settings) (m hp lp : ℕ) → next_stream s m hp lp ≡ Some Lp → (packets_for s Hp (m + 1) ≤ hp) × (lp < packets_for s Lp (m + 1))
wants_lp s m hp lp e = let both = lp_only (nat_lt hp (packets_for s Hp (m + 1))) (nat_lt lp (packets_for s Lp (m + 1))) e in (ltb-false _ _ both.0, ltb-true _ _ both.1)

pub wants_none : (s : Settings) (m hp lp : ℕ) → next_stream s m hp lp ≡ None → (packets_for s Hp (m + 1) ≤ hp) × (packets_for s Lp (m + 1) ≤ lp)
wants_none s m hp lp e = let both = none_only (nat_lt hp (packets_for s Hp (m + 1))) (nat_lt lp (packets_for s Lp (m + 1))) e in (ltb-false _ _ both.0, ltb-false _ _ both.1)

-- ---- the steps of the work
none_yet : (most : ℕ) (inputs : Inputs) (σ : Stream) (p : ℕ) → p < by_stream 0 0 σ → packet_refusal most inputs σ p ≡ None
none_yet most inputs Hp p l = absurd (omega (arith, l))
none_yet most inputs Lp p l = absurd (omega (arith, l))

pub work_begins : NoPackets → WorkBegins
work_begins none s most inputs = begins (packets_for s Hp 0) (packets_for s Lp 0) (packets_for s Hp 1) (packets_for s Lp 1) (none s Hp) (none s Lp)
  where
    begins : (a b c d : ℕ) → packets_for s Hp 0 ≡ 0 → packets_for s Lp 0 ≡ 0 → IsAt s most inputs 0 0 0
    begins a b c d e f = record {
      within = omega arith;
      hp_least = le_of e;
      hp_most = omega arith;
      lp_least = le_of f;
      lp_most = omega arith;
      in_order = λ l. absurd (omega (arith, l));
      accepted = none_yet most inputs;
    }
      where
        le_of : {n : ℕ} → n ≡ 0 → n ≤ 0
        le_of h = omega (arith, h)

-- one more number below
below_next : (f : ℕ → Option Refusal) (n : ℕ) → ((p : ℕ) → p < n → f p ≡ None) → f n ≡ None → (p : ℕ) → p < n + 1 → f p ≡ None
below_next f n below here p l = go (cases_lt p n)
  where
    go : (p < n) ⊎ (n ≤ p) → f p ≡ None
    go (inl m) = below p m
    go (inr m) = let same : p ≡ n = omega (arith, l, m) in ap f same ∙ here

pub takes_of_hp : TakesOfHp
takes_of_hp s most inputs m hp lp at wanted ok = record {
  within = at.within;
  hp_least = up (packets_for s Hp m) at.hp_least;
  hp_most = next (packets_for s Hp (m + 1)) few;
  lp_least = at.lp_least;
  lp_most = at.lp_most;
  in_order = λ l. not_yet (packets_for s Hp (m + 1)) few (at.in_order l);
  accepted = accepted;
}
  where
    few : hp < packets_for s Hp (m + 1)
    few = wants_hp s m hp lp wanted

    up : (a : ℕ) → a ≤ hp → a ≤ hp + 1
    up a l = omega (arith, l)

    next : (a : ℕ) → hp < a → hp + 1 ≤ a
    next a l = omega (arith, l)

    not_yet : (a : ℕ) → hp < a → hp ≡ a → hp + 1 ≡ a
    not_yet a l e = absurd (omega (arith, l, e))

    accepted : (σ : Stream) (p : ℕ) → p < by_stream (hp + 1) lp σ → packet_refusal most inputs σ p ≡ None
    accepted Hp p l = below_next (packet_refusal most inputs Hp) hp (at.accepted Hp) ok p l
    accepted Lp p l = at.accepted Lp p l

pub takes_of_lp : TakesOfLp
takes_of_lp s most inputs m hp lp at wanted ok = record {
  within = at.within;
  hp_least = at.hp_least;
  hp_most = at.hp_most;
  lp_least = up (packets_for s Lp m) at.lp_least;
  lp_most = next (packets_for s Lp (m + 1)) both.1;
  in_order = λ l. same (packets_for s Hp (m + 1)) both.0 at.hp_most;
  accepted = accepted;
}
  where
    both : (packets_for s Hp (m + 1) ≤ hp) × (lp < packets_for s Lp (m + 1))
    both = wants_lp s m hp lp wanted

    up : (a : ℕ) → a ≤ lp → a ≤ lp + 1
    up a l = omega (arith, l)

    next : (a : ℕ) → lp < a → lp + 1 ≤ a
    next a l = omega (arith, l)

    same : (a : ℕ) → a ≤ hp → hp ≤ a → hp ≡ a
    same a l k = omega (arith, l, k)

    accepted : (σ : Stream) (p : ℕ) → p < by_stream hp (lp + 1) σ → packet_refusal most inputs σ p ≡ None
    accepted Hp p l = at.accepted Hp p l
    accepted Lp p l = below_next (packet_refusal most inputs Lp) lp (at.accepted Lp) ok p l

pub sends_symbol : PacketsGrow → SendsSymbol
sends_symbol grow s most inputs m hp lp at wanted less = record {
  within = omega (arith, less);
  hp_least = both.0;
  hp_most = up (packets_for s Hp (m + 1)) (packets_for s Hp (m + 1 + 1)) hp at.hp_most (grow s Hp (m + 1) (m + 1 + 1) (omega arith));
  lp_least = both.1;
  lp_most = up (packets_for s Lp (m + 1)) (packets_for s Lp (m + 1 + 1)) lp at.lp_most (grow s Lp (m + 1) (m + 1 + 1) (omega arith));
  in_order = λ l. never (packets_for s Lp (m + 1)) l at.lp_most;
  accepted = at.accepted;
}
  where
    both : (packets_for s Hp (m + 1) ≤ hp) × (packets_for s Lp (m + 1) ≤ lp)
    both = wants_none s m hp lp wanted

    up : (a b c : ℕ) → c ≤ a → a ≤ b → c ≤ b
    up a b c l k = omega (arith, l, k)

    never : (a : ℕ) → a < lp → lp ≤ a → hp ≡ packets_for s Hp (m + 1 + 1)
    never a l k = absurd (omega (arith, l, k))

-- ---- the items before a point
up_to : (a b c : ℕ) → a ≤ b → c < a + (b - a) → c < b
up_to a b c l k = omega (arith, l, k)

below_or : (a b c : ℕ) → a < b → b ≤ c → a < c
below_or a b c l k = omega (arith, l, k)

limit_clear : (s : Settings) (most : ℕ) (inputs : Inputs) (m : ℕ) → m < s.max_symbols → refusal s most inputs (ask_limit m) ≡ None
limit_clear s most inputs m l = let test : nat_le s.max_symbols m ≡ false = lt-leb s.max_symbols m l in rw test refl

limit_refused : (s : Settings) (most : ℕ) (inputs : Inputs) (m : ℕ) → s.max_symbols ≤ m → refusal s most inputs (ask_limit m) ≡ Some (Limit s.max_symbols)
limit_refused s most inputs m l = let test : nat_le s.max_symbols m ≡ true = le-leb s.max_symbols m l in rw test refl

-- the packets of symbol m, if all of them were taken
stream_clear : PacketsGrow → (s : Settings) (most : ℕ) (inputs : Inputs) (σ : Stream) (k n : ℕ) → packets_for s σ (k + 1) ≤ n → ((p : ℕ) → p < n → packet_refusal most inputs σ p ≡ None) → AreClear (refusal s most inputs) (takes s σ k)
stream_clear grow s most inputs σ k n all ok =
    takes_clear (refusal s most inputs) σ (packets_for s σ k) (packets_for s σ (k + 1) - packets_for s σ k)
    (λ p l. ok p (below_or p (packets_for s σ (k + 1)) n (up_to (packets_for s σ k) (packets_for s σ (k + 1)) p (grow s σ k (k + 1) (omega arith)) l) all))

items_clear : PacketsGrow → (s : Settings) (most : ℕ) (inputs : Inputs) (k hp lp : ℕ) → k < s.max_symbols → packets_for s Hp (k + 1) ≤ hp → packets_for s Lp (k + 1) ≤ lp
    → ((σ : Stream) (p : ℕ) → p < by_stream hp lp σ → packet_refusal most inputs σ p ≡ None) → AreClear (refusal s most inputs) (items_of s k)
unfolding items_of
items_clear grow s most inputs k hp lp less h l ok =
    both_clear r ((ask_limit k ∷ takes s Hp k) ++ takes s Lp k) (send_symbol k ∷ [])
    (both_clear r (ask_limit k ∷ takes s Hp k) (takes s Lp k) (limit_clear s most inputs k less, stream_clear grow s most inputs Hp k hp h (ok Hp)) (stream_clear grow s most inputs Lp k lp l (ok Lp)))
    (refl, tt)
  where
    r : Item → Option Refusal
    r = refusal s most inputs

symbols_clear : (s : Settings) (most : ℕ) (inputs : Inputs) (a n : ℕ) → ((k : ℕ) → k < a + n → AreClear (refusal s most inputs) (items_of s k)) → AreClear (refusal s most inputs) (flat_map (items_of s) (range_with_len a n))
symbols_clear s most inputs a zero h = tt
symbols_clear s most inputs a (suc n) h =
    both_clear (refusal s most inputs) (items_of s a) (flat_map (items_of s) (range_with_len (a + 1) n)) (h a (omega arith)) (symbols_clear s most inputs (a + 1) n (λ k l. h k (omega (arith, l))))

-- the items of the first m symbols
abbrev before : Settings → ℕ → List Item
before s m = flat_map (items_of s) (numbers m)

before_clear : PacketsGrow → (s : Settings) (most : ℕ) (inputs : Inputs) (m hp lp : ℕ) → IsAt s most inputs m hp lp → AreClear (refusal s most inputs) (before s m)
unfolding numbers
before_clear grow s most inputs m hp lp at = symbols_clear s most inputs 0 m each
  where
    chain : (a b c : ℕ) → a ≤ b → b ≤ c → a ≤ c
    chain a b c l k = omega (arith, l, k)

    each : (k : ℕ) → k < 0 + m → AreClear (refusal s most inputs) (items_of s k)
    each k l =
        let upto : k + 1 ≤ m = omega (arith, l) in
        items_clear grow s most inputs k hp lp (omega (arith, l, at.within))
        (chain (packets_for s Hp (k + 1)) (packets_for s Hp m) hp (grow s Hp (k + 1) m upto) at.hp_least)
        (chain (packets_for s Lp (k + 1)) (packets_for s Lp m) lp (grow s Lp (k + 1) m upto) at.lp_least) at.accepted

one_send : (s : Settings) (k : ℕ) → count_by is_send (items_of s k) ≡ 1
unfolding items_of
one_send s k =
    let whole = count_both ((ask_limit k ∷ takes s Hp k) ++ takes s Lp k) (send_symbol k ∷ []) in
    let front = count_both (ask_limit k ∷ takes s Hp k) (takes s Lp k) in
    let head = count_both (ask_limit k ∷ []) (takes s Hp k) in
    sum_up _ _ _ _ _ whole front head (takes_send Hp (packets_for s Hp k) (packets_for s Hp (k + 1) - packets_for s Hp k)) (takes_send Lp (packets_for s Lp k) (packets_for s Lp (k + 1) - packets_for s Lp k))
  where
    sum_up : (all f h a b : ℕ) → all ≡ f + 1 → f ≡ h + b → h ≡ 0 + a → a ≡ 0 → b ≡ 0 → all ≡ 1
    sum_up all f h a b p q r x y = omega (arith, p, q, r, x, y)

many_sends : (s : Settings) (a n : ℕ) → count_by is_send (flat_map (items_of s) (range_with_len a n)) ≡ n
many_sends s a zero = refl
many_sends s a (suc n) =
    let both = count_both (items_of s a) (flat_map (items_of s) (range_with_len (a + 1) n)) in
    sum_up _ _ _ both (one_send s a) (many_sends s (a + 1) n)
  where
    sum_up : (all f g : ℕ) → all ≡ f + g → f ≡ 1 → g ≡ n → all ≡ suc n
    sum_up all f g p q r = omega (arith, p, q, r)

sends_before : (s : Settings) (m : ℕ) → count_by is_send (before s m) ≡ m
unfolding numbers
sends_before s m = many_sends s 0 m

-- ---- the agenda at a point
stops : (s : Settings) (most : ℕ) (inputs : Inputs) (xs ys : List Item) (x : Item) (e : Refusal) (m : ℕ) → agenda s inputs ≡ xs ++ x ∷ ys → AreClear (refusal s most inputs) xs → refusal s most inputs x ≡ Some e
    → count_by is_send xs ≡ m → StopsAt s most inputs e m
unfolding first_refusal done
stops s most inputs xs ys x e m is clear refused count = record {
  first = ap (λ (z : List Item). option_and_then (refusal s most inputs) (find (λ i. is_some (refusal s most inputs i)) z)) is ∙ found_at (refusal s most inputs) xs ys x e clear refused;
  sent = ap (λ (z : List Item). count_by is_send (take_while (λ i. is_none (refusal s most inputs i)) z)) is ∙ ap (count_by is_send) (taken_at (refusal s most inputs) xs ys x e clear refused) ∙ count;
}

agenda_at : (s : Settings) (inputs : Inputs) (m : ℕ) → m < symbols_of s inputs → agenda s inputs ≡ before s m ++ (items_of s m ++ flat_map (items_of s) (range_with_len (m + 1) (symbols_of s inputs - m - 1)))
unfolding agenda
agenda_at s inputs m l = ap (flat_map (items_of s)) (numbers_at m (symbols_of s inputs) l) ∙ flat_map-append (items_of s) (numbers m) (m ∷ range_with_len (m + 1) (symbols_of s inputs - m - 1))

agenda_to : (s : Settings) (inputs : Inputs) (m : ℕ) → m ≤ symbols_of s inputs → agenda s inputs ≡ before s m ++ flat_map (items_of s) (range_with_len m (symbols_of s inputs - m))
unfolding agenda
agenda_to s inputs m l = ap (flat_map (items_of s)) (numbers_to m (symbols_of s inputs) l) ∙ flat_map-append (items_of s) (numbers m) (range_with_len m (symbols_of s inputs - m))

pub stops_at_limit : PacketsGrow → StopsAtLimit
unfolding items_of
stops_at_limit grow s most inputs m hp lp at more past =
    stops s most inputs (before s m) _ (ask_limit m) (Limit s.max_symbols) m (agenda_at s inputs m more) (before_clear grow s most inputs m hp lp at) (limit_refused s most inputs m past) (sends_before s m)

-- if the packets before packet p of the takes were taken
takes_at : (s : Settings) (σ : Stream) (m p : ℕ) → packets_for s σ m ≤ p → p < packets_for s σ (m + 1)
    → takes s σ m ≡ map (take_packet σ) (range_with_len (packets_for s σ m) (p - packets_for s σ m)) ++ take_packet σ p ∷ map (take_packet σ) (range_with_len (p + 1) (packets_for s σ (m + 1) - p - 1))
takes_at s σ m p l k = go (packets_for s σ m) (packets_for s σ (m + 1)) l k
  where
    go : (a b : ℕ) → a ≤ p → p < b
        → map (take_packet σ) (range_with_len a (b - a)) ≡ map (take_packet σ) (range_with_len a (p - a)) ++ take_packet σ p ∷ map (take_packet σ) (range_with_len (p + 1) (b - p - 1))
    go a b l k =
        let whole : b - a ≡ p - a + suc (b - p - 1) = omega (arith, l, k) in
        let here : a + (p - a) ≡ p = omega (arith, l) in
        ap (λ (z : ℕ). map (take_packet σ) (range_with_len a z)) whole ∙ takes_part σ a (p - a) (b - p - 1)
        ∙ ap (λ (z : ℕ). map (take_packet σ) (range_with_len a (p - a)) ++ take_packet σ z ∷ map (take_packet σ) (range_with_len (z + 1) (b - p - 1))) here

hp_place : (pre a b lps sent more : List Item) (q x : Item) → pre ++ ((((q ∷ (a ++ x ∷ b)) ++ lps) ++ sent) ++ more) ≡ (pre ++ q ∷ a) ++ x ∷ (((b ++ lps) ++ sent) ++ more)
hp_place pre a b lps sent more q x = simp append_assoc

lp_place : (pre hps a b sent more : List Item) (q x : Item) → pre ++ ((((q ∷ hps) ++ (a ++ x ∷ b)) ++ sent) ++ more) ≡ (pre ++ ((q ∷ hps) ++ a)) ++ x ∷ ((b ++ sent) ++ more)
lp_place pre hps a b sent more q x = simp append_assoc

part_clear : (s : Settings) (most : ℕ) (inputs : Inputs) (σ : Stream) (a p : ℕ) → a ≤ p → ((i : ℕ) → i < p → packet_refusal most inputs σ i ≡ None) → AreClear (refusal s most inputs) (map (take_packet σ) (range_with_len a (p - a)))
part_clear s most inputs σ a p l ok = takes_clear (refusal s most inputs) σ a (p - a) (λ i k. ok i (up_to a p i l k))

stops_at_hp : PacketsGrow → (s : Settings) (most : ℕ) (inputs : Inputs) (m hp lp : ℕ) (e : Refusal) → IsAt s most inputs m hp lp → m < symbols_of s inputs → m < s.max_symbols → hp < packets_for s Hp (m + 1) → packet_refusal most inputs Hp hp ≡ Some e → StopsAt s most inputs e m
unfolding items_of
stops_at_hp grow s most inputs m hp lp e at more less few refused =
    stops s most inputs (before s m ++ ask_limit m ∷ front) _ (take_packet Hp hp) e m
    (agenda_at s inputs m more
    ∙ ap (λ (z : List Item). before s m ++ ((((ask_limit m ∷ z) ++ takes s Lp m) ++ send_symbol m ∷ []) ++ rest)) (takes_at s Hp m hp at.hp_least few)
    ∙ hp_place (before s m) front behind (takes s Lp m) (send_symbol m ∷ []) rest (ask_limit m) (take_packet Hp hp))
    (both_clear r (before s m) (ask_limit m ∷ front) (before_clear grow s most inputs m hp lp at) (limit_clear s most inputs m less, part_clear s most inputs Hp (packets_for s Hp m) hp at.hp_least (at.accepted Hp)))
    refused
    (count_both (before s m) (ask_limit m ∷ front) ∙ sum_up _ _ _ (sends_before s m) (count_both (ask_limit m ∷ []) front) (takes_send Hp (packets_for s Hp m) (hp - packets_for s Hp m)))
  where
    r : Item → Option Refusal
    r = refusal s most inputs

    front : List Item
    front = map (take_packet Hp) (range_with_len (packets_for s Hp m) (hp - packets_for s Hp m))

    behind : List Item
    behind = map (take_packet Hp) (range_with_len (hp + 1) (packets_for s Hp (m + 1) - hp - 1))

    rest : List Item
    rest = flat_map (items_of s) (range_with_len (m + 1) (symbols_of s inputs - m - 1))

    sum_up : (a b c : ℕ) → a ≡ m → b ≡ 0 + c → c ≡ 0 → a + b ≡ m
    sum_up a b c p q t = omega (arith, p, q, t)

stops_at_lp : PacketsGrow → (s : Settings) (most : ℕ) (inputs : Inputs) (m hp lp : ℕ) (e : Refusal) → IsAt s most inputs m hp lp → m < symbols_of s inputs → m < s.max_symbols → packets_for s Hp (m + 1) ≤ hp → lp < packets_for s Lp (m + 1)
    → packet_refusal most inputs Lp lp ≡ Some e → StopsAt s most inputs e m
unfolding items_of
stops_at_lp grow s most inputs m hp lp e at more less all few refused =
    stops s most inputs (before s m ++ ((ask_limit m ∷ takes s Hp m) ++ front)) _ (take_packet Lp lp) e m
    (agenda_at s inputs m more
    ∙ ap (λ (z : List Item). before s m ++ ((((ask_limit m ∷ takes s Hp m) ++ z) ++ send_symbol m ∷ []) ++ rest)) (takes_at s Lp m lp at.lp_least few)
    ∙ lp_place (before s m) (takes s Hp m) front behind (send_symbol m ∷ []) rest (ask_limit m) (take_packet Lp lp))
    (both_clear r (before s m) ((ask_limit m ∷ takes s Hp m) ++ front) (before_clear grow s most inputs m hp lp at)
    (both_clear r (ask_limit m ∷ takes s Hp m) front (limit_clear s most inputs m less, stream_clear grow s most inputs Hp m hp all (at.accepted Hp)) (part_clear s most inputs Lp (packets_for s Lp m) lp at.lp_least (at.accepted Lp))))
    refused
    (count_both (before s m) ((ask_limit m ∷ takes s Hp m) ++ front)
    ∙ sum_up _ _ _ _ _ (sends_before s m) (count_both (ask_limit m ∷ takes s Hp m) front) (count_both (ask_limit m ∷ []) (takes s Hp m)) (takes_send Hp (packets_for s Hp m) (packets_for s Hp (m + 1) - packets_for s Hp m)) (takes_send Lp (packets_for s Lp m) (lp - packets_for s Lp m)))
  where
    r : Item → Option Refusal
    r = refusal s most inputs

    front : List Item
    front = map (take_packet Lp) (range_with_len (packets_for s Lp m) (lp - packets_for s Lp m))

    behind : List Item
    behind = map (take_packet Lp) (range_with_len (lp + 1) (packets_for s Lp (m + 1) - lp - 1))

    rest : List Item
    rest = flat_map (items_of s) (range_with_len (m + 1) (symbols_of s inputs - m - 1))

    sum_up : (a b c d e : ℕ) → a ≡ m → b ≡ c + e → c ≡ 0 + d → d ≡ 0 → e ≡ 0 → a + b ≡ m
    sum_up a b c d e p q t u v = omega (arith, p, q, t, u, v)

pub stops_at_packet : PacketsGrow → StopsAtPacket
stops_at_packet grow s most inputs m hp lp Hp e at more less wanted refused = stops_at_hp grow s most inputs m hp lp e at more less (wants_hp s m hp lp wanted) refused
stops_at_packet grow s most inputs m hp lp Lp e at more less wanted refused = let both = wants_lp s m hp lp wanted in stops_at_lp grow s most inputs m hp lp e at more less both.0 both.1 refused

pub ends_unrefused : PacketsGrow → EndsUnrefused
unfolding first_refusal done agenda
ends_unrefused grow s most inputs m hp lp at all =
    let clear : AreClear (refusal s most inputs) (before s (symbols_of s inputs)) = subst (λ (z : ℕ). AreClear (refusal s most inputs) (before s z)) all (before_clear grow s most inputs m hp lp at) in
    record {
      none = found_none (refusal s most inputs) (before s (symbols_of s inputs)) clear;
      sent = ap (count_by is_send) (taken_all (refusal s most inputs) (before s (symbols_of s inputs)) clear) ∙ sends_before s (symbols_of s inputs);
    }

pub sent_so_far : PacketsGrow → SentSoFar
unfolding done
sent_so_far grow s most inputs m hp lp at within =
    let rest : List Item = flat_map (items_of s) (range_with_len m (symbols_of s inputs - m)) in
    let behind : List Item = take_while (λ i. is_none (refusal s most inputs i)) rest in
    let is : count_by is_send (take_while (λ i. is_none (refusal s most inputs i)) (agenda s inputs)) ≡ count_by is_send (before s m ++ behind) =
    ap (λ (z : List Item). count_by is_send (take_while (λ i. is_none (refusal s most inputs i)) z)) (agenda_to s inputs m within) ∙ ap (count_by is_send) (taken_through (refusal s most inputs) (before s m) rest (before_clear grow s most inputs m hp lp at)) in
    sum_up _ _ _ _ is (count_both (before s m) behind) (sends_before s m)
  where
    sum_up : (all both a b : ℕ) → all ≡ both → both ≡ a + b → a ≡ m → m ≤ all
    sum_up all both a b p q t = omega (arith, p, q, t)
