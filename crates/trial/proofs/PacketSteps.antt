-- The packets of a symbol, generated and put one after another.
use Rattle.std.proofs.Common.{◌≡◌, ◌⊎◌, inl, inr, ℕ, ◌+◌, ◌-◌, ◌*◌, ◌≤◌, ◌<◌, List, refl, sym, ap, ap₂, ◌∙◌, subst, arith, Bool, true, false, cond, Option, Some, None}
use Rattle.std.specs.Prelude.{min, nat_lt, ◌==◌, IfSome, unwrap_or}
use Rattle.std.proofs.lemmas.Bool.{cases_lt, ltb-true, ltb-false, ne_eqb, eq-eqb}
use Rattle.mode_set.specs.declared.modes.Stream.{Stream}
use Rattle.mode_set.specs.declared.modes.Stream.TheVariants.{Hp, Lp}
use Rattle.mode_set.specs.declared.settings.Settings.{Settings}
use Rattle.ts_packet.specs.Packet.{null_packet}
use Rattle.rand_pcg.specs.Lcg.{Lcg, state_after}
use Rattle.load_gen.specs.Draws.{after, packet_of, packet_words}
use Rattle.load_gen.specs.Laws.{DrawsAdd}
use Rattle.outer_chain.specs.Sent.{packet_at}
use Rattle.transmission.specs.Transmission.{by_stream}
use Rattle.transmission.specs.SuperFrames.{packets_for}
use Rattle.transmission.specs.Agenda.{next_stream}
use Rattle.modulator.specs.State.{Transmitter, HasPut, HasOneMore, IsNext, wanted}
use Rattle.trial.specs.Drawn.{hp_count, lp_count, drawn, drawn_count, drawn_before, packets_from, shifts_from, before, trial_frames, trial_symbols}
use Rattle.trial.specs.Laws.{DrawnInOrder, NullsBehind}
use Rattle.trial.specs.declared.draws.Draws.{Draws}
use Rattle.trial.specs.Putting.{IsPutting, next_of, behind_next, drawn_since}

pub after_none : (g : Lcg) → after 0 g ≡ g
unfolding after state_after
after_none g = refl

-- ---- the counts
pub counted : DrawsAdd → (b : Bool) (g : Lcg) → cond b (after 1 (after 1 g)) (after 1 g) ≡ after (cond b 2 1) g
counted add true g = add 1 1 g
counted add false g = refl

-- if a trial has a symbol, its counts have a number of super-frames
has_frames : (m : ℕ) (o : Option ℕ) → m < 272 * unwrap_or o 0 → (n : ℕ) × (o ≡ Some n)
has_frames m None l = absurd (omega (arith, l))
has_frames m (Some n) l = (n, refl)

pub frames_there : (s : Settings) (number m : ℕ) → m < trial_symbols s number → (n : ℕ) × (trial_frames s number ≡ Some n)
frames_there s number m l = has_frames m (trial_frames s number) l

-- ---- which stream is wanted
hp_only : (b c : Bool) → cond b (Some Hp) (cond c (Some Lp) None) ≡ Some Hp → b ≡ true
hp_only true c e = refl
hp_only false true e = cc
hp_only false false e = cc

lp_only : (b c : Bool) → cond b (Some Hp) (cond c (Some Lp) None) ≡ Some Lp → (b ≡ false) × (c ≡ true)
lp_only true c e = cc
lp_only false true e = (refl, refl)
lp_only false false e = cc

none_only : (b c : Bool) → cond b (Some Hp) (cond c (Some Lp) None) ≡ None → (b ≡ false) × (c ≡ false)
none_only true c e = cc
none_only false true e = cc
none_only false false e = (refl, refl)

wants_hp : (s : Settings) (m hp lp : ℕ) → next_stream s m hp lp ≡ Some Hp → hp < packets_for s Hp (m + 1)
wants_hp s m hp lp e = ltb-true _ _ (hp_only (nat_lt hp (packets_for s Hp (m + 1))) (nat_lt lp (packets_for s Lp (m + 1))) e)

wants_lp : (s : Settings) (m hp lp : ℕ) → next_stream s m hp lp ≡ Some Lp → (packets_for s Hp (m + 1) ≤ hp) × (lp < packets_for s Lp (m + 1))
wants_lp s m hp lp e = let both = lp_only (nat_lt hp (packets_for s Hp (m + 1))) (nat_lt lp (packets_for s Lp (m + 1))) e in (ltb-false _ _ both.0, ltb-true _ _ both.1)

wants_none : (s : Settings) (m hp lp : ℕ) → next_stream s m hp lp ≡ None → (packets_for s Hp (m + 1) ≤ hp) × (packets_for s Lp (m + 1) ≤ lp)
wants_none s m hp lp e = let both = none_only (nat_lt hp (packets_for s Hp (m + 1))) (nat_lt lp (packets_for s Lp (m + 1))) e in (ltb-false _ _ both.0, ltb-false _ _ both.1)

-- ---- numbers
not_zero : (c put left : ℕ) → left ≡ c - put → put < c → (left == 0) ≡ false
not_zero c put left e l = ne_eqb left 0 (λ z. absurd (omega (arith, e, l, z)))

is_zero : (c put left : ℕ) → left ≡ c - put → c ≤ put → (left == 0) ≡ true
is_zero c put left e l = eq-eqb left 0 (omega (arith, e, l))

place : (c a put : ℕ) → a ≤ put → put < c → min c a + (min c put - min c a) ≡ put
place c a put l k = omega (arith, l, k)

inside : (c a put b : ℕ) → a ≤ put → put < b → put < c → min c put - min c a < min c b - min c a
inside c a put b l k j = omega (arith, l, k, j)

one_more : (c a put : ℕ) → a ≤ put → put < c → min c (put + 1) - min c a ≡ min c put - min c a + 1
one_more c a put l k = omega (arith, l, k)

no_more : (c a put : ℕ) → c ≤ put → min c (put + 1) - min c a ≡ min c put - min c a
no_more c a put l = omega (arith, l)

less_left : (c p l l' p' : ℕ) → l ≡ c - p → l' ≡ l - 1 → p' ≡ p + 1 → l' ≡ c - p'
less_left c p l l' p' e f g = omega (arith, e, f, g)

still_from : (a p p' : ℕ) → a ≤ p → p' ≡ p + 1 → a ≤ p'
still_from a p p' l e = omega (arith, l, e)

still_to : (p p' b : ℕ) → p < b → p' ≡ p + 1 → p' ≤ b
still_to p p' b l e = omega (arith, l, e)

both_ways : (a b : ℕ) → a ≤ b → b ≤ a → a ≡ b
both_ways a b l k = omega (arith, l, k)

pub itself : (x : ℕ) → x - x ≡ 0
itself x = omega arith

not_yet : (h b l a : ℕ) → h < b → a ≤ l → (a < l → h ≡ b) → l ≡ a
not_yet h b l a k j f = go (cases_lt a l)
  where
    go : (a < l) ⊎ (l ≤ a) → l ≡ a
    go (inl i) = let e = f i in absurd (omega (arith, k, e))
    go (inr i) = omega (arith, i, j)

none_below : (a l l' h b : ℕ) → l ≡ a → l' ≡ l → a < l' → h ≡ b
none_below a l l' h b e f k = absurd (omega (arith, e, f, k))

-- ---- a packet, and the generator after it
next_is : DrawnInOrder → NullsBehind → (s : Settings) (number : ℕ) (σ : Stream) (m put left : ℕ) (now : Lcg) → m < trial_symbols s number → packets_for s σ m ≤ put → put < packets_for s σ (m + 1)
    → left ≡ drawn_count s number σ - put → now ≡ after (packet_words * drawn_since s number σ m put) (packets_from s number m σ) → next_of left now ≡ packet_at (drawn s number σ) put
next_is order nulls s number σ m put left now few least less is at = go (cases_lt put (drawn_count s number σ))
  where
    go : (put < drawn_count s number σ) ⊎ (drawn_count s number σ ≤ put) → next_of left now ≡ packet_at (drawn s number σ) put
    go (inl l) =
        ap (λ (b : Bool). cond b null_packet (packet_of now)) (not_zero (drawn_count s number σ) put left is l)
        ∙ ap packet_of at
        ∙ sym (order s number σ m (drawn_since s number σ m put) few (inside (drawn_count s number σ) (packets_for s σ m) put (packets_for s σ (m + 1)) least less l))
        ∙ ap (λ (z : ℕ). packet_at (drawn s number σ) z) (place (drawn_count s number σ) (packets_for s σ m) put least l)
    go (inr l) = ap (λ (b : Bool). cond b null_packet (packet_of now)) (is_zero (drawn_count s number σ) put left is l) ∙ (let f = frames_there s number m few in sym (nulls s number f.0 σ put f.1 l))

behind : DrawsAdd → (c a put left : ℕ) (g now now' : Lcg) → left ≡ c - put → a ≤ put → now ≡ after (packet_words * (min c put - min c a)) g → now' ≡ behind_next left now
    → now' ≡ after (packet_words * (min c (put + 1) - min c a)) g
behind add c a put left g now now' is least at next = go (cases_lt put c)
  where
    go : (put < c) ⊎ (c ≤ put) → now' ≡ after (packet_words * (min c (put + 1) - min c a)) g
    go (inl l) =
        let more : packet_words * (min c put - min c a) + packet_words ≡ packet_words * (min c (put + 1) - min c a) = (let e = one_more c a put least l in omega (arith, e)) in
        next
        ∙ ap (λ (b : Bool). cond b now (after packet_words now)) (not_zero c put left is l)
        ∙ ap (after packet_words) at
        ∙ add packet_words (packet_words * (min c put - min c a)) g
        ∙ ap (λ (n : ℕ). after n g) more
    go (inr l) =
        next
        ∙ ap (λ (b : Bool). cond b now (after packet_words now)) (is_zero c put left is l)
        ∙ at
        ∙ ap (λ (n : ℕ). after (packet_words * n) g) (sym (no_more c a put l))

-- the same point, in terms of the modulator after it
pub seen_again : (s s' : Settings) (m m' : ℕ) (d : Draws) (t : Transmitter) → s' ≡ s → m' ≡ m → IsPutting s m d t → IsPutting s' m' d t
seen_again s s' m m' d t e f i = subst (λ (z : Settings). IsPutting z m' d t) (sym e) (subst (λ (n : ℕ). IsPutting s n d t) (sym f) i)

-- ---- between the packets of a symbol
module _ (add : DrawsAdd) (order : DrawnInOrder) (nulls : NullsBehind) (s : Settings) (m : ℕ) (d : Draws) (t : Transmitter) (few : m < trial_symbols s d.number) (i : IsPutting s m d t) where
  abbrev g : Lcg
  g = before s d.number m

  seen : (w : Option Stream) → wanted t ≡ w → next_stream s m t.hp t.lp ≡ w
  seen w e = ap₂ (λ (z : Settings) (n : ℕ). next_stream z n t.hp t.lp) (sym i.settings) (sym i.made) ∙ e

  abbrev at_lp : ℕ → ℕ → Lcg
  at_lp a b = after (packet_words * drawn_since s d.number Lp m b) (after (packet_words * drawn_since s d.number Hp m a) g)

  module _ (wants : wanted t ≡ Some Hp) where
    hp_less : t.hp < packets_for s Hp (m + 1)
    hp_less = wants_hp s m t.hp t.lp (seen (Some Hp) wants)

    no_lp : t.lp ≡ packets_for s Lp m
    no_lp = not_yet t.hp (packets_for s Hp (m + 1)) t.lp (packets_for s Lp m) hp_less i.lp_least i.in_order

    none_since : drawn_since s d.number Lp m t.lp ≡ 0
    none_since = ap (λ (z : ℕ). drawn_since s d.number Lp m z) no_lp ∙ itself (drawn_before s d.number Lp m)

    no_words : (h : Lcg) → after (packet_words * drawn_since s d.number Lp m t.lp) h ≡ h
    no_words h = ap (λ (z : ℕ). after (packet_words * z) h) none_since ∙ after_none h

    hp_load : d.load ≡ after (packet_words * drawn_since s d.number Hp m t.hp) g
    hp_load = i.load ∙ no_words (after (packet_words * drawn_since s d.number Hp m t.hp) g)

    pub hp_next : (packet : List ℕ) → packet ≡ next_of d.hp_left d.load → IsNext t (drawn s d.number) packet
    hp_next packet e =
        subst (λ (w : Option Stream). IfSome w (λ σ. packet ≡ packet_at (drawn s d.number σ) (by_stream t.hp t.lp σ))) (sym wants)
        (e ∙ next_is order nulls s d.number Hp m t.hp d.hp_left d.load few i.hp_least hp_less i.hp_left hp_load)

    pub hp_put : (left' : ℕ) (load' : Lcg) (t' : Transmitter) → left' ≡ d.hp_left - 1 → load' ≡ behind_next d.hp_left d.load → t'.settings ≡ t.settings → t'.made ≡ t.made
        → HasOneMore (wanted t) t t' → HasPut t' (drawn s d.number) → IsPutting s m (record d { load = load'; hp_left = left' }) t'
    hp_put left' load' t' is next same_settings same_made more put =
        let both : (t'.hp ≡ t.hp + 1) × (t'.lp ≡ t.lp) = subst (λ (w : Option Stream). HasOneMore w t t') wants more in
        let words : load' ≡ after (packet_words * drawn_since s d.number Hp m (t.hp + 1)) g = behind add (hp_count d.number) (packets_for s Hp m) t.hp d.hp_left g d.load load' i.hp_left i.hp_least hp_load next in
        let done : load' ≡ at_lp (t.hp + 1) t.lp = words ∙ sym (no_words (after (packet_words * drawn_since s d.number Hp m (t.hp + 1)) g)) in
        record {
          settings = same_settings ∙ i.settings;
          made = same_made ∙ i.made;
          put = put;
          hp_left = less_left (hp_count d.number) t.hp d.hp_left left' t'.hp i.hp_left is both.0;
          lp_left = i.lp_left ∙ ap (λ (z : ℕ). lp_count s d.number - z) (sym both.1);
          hp_least = still_from (packets_for s Hp m) t.hp t'.hp i.hp_least both.0;
          hp_most = still_to t.hp t'.hp (packets_for s Hp (m + 1)) hp_less both.0;
          lp_least = subst (λ (z : ℕ). packets_for s Lp m ≤ z) (sym both.1) i.lp_least;
          lp_most = subst (λ (z : ℕ). z ≤ packets_for s Lp (m + 1)) (sym both.1) i.lp_most;
          in_order = none_below (packets_for s Lp m) t.lp t'.lp t'.hp (packets_for s Hp (m + 1)) no_lp both.1;
          load = done ∙ ap₂ (λ (a b : ℕ). at_lp a b) (sym both.0) (sym both.1);
        }

  module _ (wants : wanted t ≡ Some Lp) where
    lp_wants : (packets_for s Hp (m + 1) ≤ t.hp) × (t.lp < packets_for s Lp (m + 1))
    lp_wants = wants_lp s m t.hp t.lp (seen (Some Lp) wants)

    all_hp : t.hp ≡ packets_for s Hp (m + 1)
    all_hp = both_ways t.hp (packets_for s Hp (m + 1)) i.hp_most lp_wants.0

    hp_words : (b : ℕ) → at_lp t.hp b ≡ after (packet_words * drawn_since s d.number Lp m b) (packets_from s d.number m Lp)
    hp_words b = ap (λ (z : ℕ). at_lp z b) all_hp

    pub lp_next : (packet : List ℕ) → packet ≡ next_of d.lp_left d.load → IsNext t (drawn s d.number) packet
    lp_next packet e =
        subst (λ (w : Option Stream). IfSome w (λ σ. packet ≡ packet_at (drawn s d.number σ) (by_stream t.hp t.lp σ))) (sym wants)
        (e ∙ next_is order nulls s d.number Lp m t.lp d.lp_left d.load few i.lp_least lp_wants.1 i.lp_left (i.load ∙ hp_words t.lp))

    pub lp_put : (left' : ℕ) (load' : Lcg) (t' : Transmitter) → left' ≡ d.lp_left - 1 → load' ≡ behind_next d.lp_left d.load → t'.settings ≡ t.settings → t'.made ≡ t.made
        → HasOneMore (wanted t) t t' → HasPut t' (drawn s d.number) → IsPutting s m (record d { load = load'; lp_left = left' }) t'
    lp_put left' load' t' is next same_settings same_made more put =
        let both : (t'.hp ≡ t.hp) × (t'.lp ≡ t.lp + 1) = subst (λ (w : Option Stream). HasOneMore w t t') wants more in
        let words : load' ≡ at_lp t.hp (t.lp + 1) =
        behind add (lp_count s d.number) (packets_for s Lp m) t.lp d.lp_left (after (packet_words * drawn_since s d.number Hp m t.hp) g) d.load load' i.lp_left i.lp_least i.load next in
        record {
          settings = same_settings ∙ i.settings;
          made = same_made ∙ i.made;
          put = put;
          hp_left = i.hp_left ∙ ap (λ (z : ℕ). hp_count d.number - z) (sym both.0);
          lp_left = less_left (lp_count s d.number) t.lp d.lp_left left' t'.lp i.lp_left is both.1;
          hp_least = subst (λ (z : ℕ). packets_for s Hp m ≤ z) (sym both.0) i.hp_least;
          hp_most = subst (λ (z : ℕ). z ≤ packets_for s Hp (m + 1)) (sym both.0) i.hp_most;
          lp_least = still_from (packets_for s Lp m) t.lp t'.lp i.lp_least both.1;
          lp_most = still_to t.lp t'.lp (packets_for s Lp (m + 1)) lp_wants.1 both.1;
          in_order = λ l. both.0 ∙ all_hp;
          load = words ∙ ap₂ (λ (a b : ℕ). at_lp a b) (sym both.0) (sym both.1);
        }

-- ---- the measure: the packets that the symbol still needs
fewer : (a b h l a' b' h' l' : ℕ) → a' ≡ a → b' ≡ b → h' ≡ h + 1 → l' ≡ l → h < a → a' - h' + (b' - l') < a - h + (b - l)
fewer a b h l a' b' h' l' p q r s k = omega (arith, p, q, r, s, k)

fewer_still : (a b h l a' b' h' l' : ℕ) → a' ≡ a → b' ≡ b → h' ≡ h → l' ≡ l + 1 → l < b → a' - h' + (b' - l') < a - h + (b - l)
fewer_still a b h l a' b' h' l' p q r s k = omega (arith, p, q, r, s, k)

abbrev pub lacking : Transmitter → ℕ
lacking t = packets_for t.settings Hp (t.made + 1) - t.hp + (packets_for t.settings Lp (t.made + 1) - t.lp)

pub lacks_less : (σ : Stream) (t t' : Transmitter) → wanted t ≡ Some σ → t'.settings ≡ t.settings → t'.made ≡ t.made → HasOneMore (Some σ) t t' → lacking t' < lacking t
lacks_less Hp t t' wants same_settings same_made more =
    fewer (packets_for t.settings Hp (t.made + 1)) (packets_for t.settings Lp (t.made + 1)) t.hp t.lp (packets_for t'.settings Hp (t'.made + 1)) (packets_for t'.settings Lp (t'.made + 1)) t'.hp t'.lp
    (ap₂ (λ (z : Settings) (n : ℕ). packets_for z Hp (n + 1)) same_settings same_made) (ap₂ (λ (z : Settings) (n : ℕ). packets_for z Lp (n + 1)) same_settings same_made) more.0 more.1
    (wants_hp t.settings t.made t.hp t.lp wants)
lacks_less Lp t t' wants same_settings same_made more =
    fewer_still (packets_for t.settings Hp (t.made + 1)) (packets_for t.settings Lp (t.made + 1)) t.hp t.lp (packets_for t'.settings Hp (t'.made + 1)) (packets_for t'.settings Lp (t'.made + 1)) t'.hp t'.lp
    (ap₂ (λ (z : Settings) (n : ℕ). packets_for z Hp (n + 1)) same_settings same_made) (ap₂ (λ (z : Settings) (n : ℕ). packets_for z Lp (n + 1)) same_settings same_made) more.0 more.1
    (wants_lp t.settings t.made t.hp t.lp wants).1

-- ---- all packets of a symbol
pub record ArePut (s : Settings) (m : ℕ) (d : Draws) (t : Transmitter) : Type 0 where
  pub hp : t.hp ≡ packets_for s Hp (m + 1)
  pub lp : t.lp ≡ packets_for s Lp (m + 1)
  pub load : d.load ≡ shifts_from s d.number m (before s d.number m)

pub are_put : (s : Settings) (m : ℕ) (d : Draws) (t : Transmitter) → IsPutting s m d t → wanted t ≡ None → ArePut s m d t
are_put s m d t i wants =
    let none = wants_none s m t.hp t.lp (ap₂ (λ (z : Settings) (n : ℕ). next_stream z n t.hp t.lp) (sym i.settings) (sym i.made) ∙ wants) in
    let hp = both_ways t.hp (packets_for s Hp (m + 1)) i.hp_most none.0 in
    let lp = both_ways t.lp (packets_for s Lp (m + 1)) i.lp_most none.1 in
    record {
      hp = hp;
      lp = lp;
      load =
          i.load
          ∙ ap₂ (λ (a b : ℕ). after (packet_words * drawn_since s d.number Lp m b) (after (packet_words * drawn_since s d.number Hp m a) (before s d.number m))) hp lp;
    }
