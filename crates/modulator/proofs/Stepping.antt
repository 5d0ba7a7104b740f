-- The state of a modulator, step by step.
use Rattle.std.proofs.Common.{◌≡◌, ℕ, zero, suc, ◌+◌, ◌-◌, ◌*◌, ◌/◌, ◌%◌, ◌^◌, ◌<◌, ◌≤◌, Bool, true, false, cond, List, [], ◌∷◌, ◌++◌, length, take, drop, refl, sym, ap, ◌∙◌, subst, arith}
use Rattle.std.specs.Prelude.{Option, Some, None, IfSome, nat_lt}
use Rattle.std.proofs.lemmas.Bool.{lt-ltb, le-ltb, ltb-false}
use Rattle.std.proofs.lemmas.List.{get_or_push, length_push, get_or_append_left, length-drop}
use Rattle.spec_words.specs.Words.{rounded_up}
use Rattle.mode_set.specs.StreamTable.{need, payload}
use Rattle.mode_set.specs.declared.modes.Mode.{Mode}
use Rattle.mode_set.specs.declared.modes.Stream.{Stream}
use Rattle.mode_set.specs.declared.modes.Stream.TheVariants.{Hp, Lp}
use Rattle.mode_set.specs.declared.settings.Settings.{Settings}
use Rattle.ts_packet.specs.Packet.{null_packet}
use Rattle.puncture.specs.SentBits.{path_of, bits_from}
use Rattle.symbol_interleave.specs.Carried.{is_odd}
use Rattle.conv_code.specs.Coded.{zeros}
use Rattle.outer_chain.specs.Sent.{packet_at, outer_byte}
use Rattle.outer_chain.specs.Sending.{Sender, Sends}
use Rattle.outer_chain.specs.SendingLaws.{SameBeginning}
use Rattle.symbol_parameters.specs.Spans.{settings_at, steps_before}
use Rattle.symbol_parameters.specs.Laws.{ModeStays, NoSteps, StepsOfOneMore}
use Rattle.inner_chain.specs.Labels.{Paths, TxState, IsBefore, from_step, behind, input_bits, coded_bits, label_bit}
use Rattle.frame_build.specs.Announcing.{announcing_bytes}
use Rattle.frame_build.specs.Symbol.{Agree}
use Rattle.frame_build.specs.State.{NextSymbol}
use Rattle.transmission.specs.Transmission.{Inputs, announced_at, by_stream, paths_of, paths_at, tx_label, tx_symbol}
use Rattle.transmission.specs.SuperFrames.{packets_for}
use Rattle.modulator.specs.Streams.{HoldsBits}
use Rattle.modulator.specs.State.{Parts, Transmitter, packets_in, transmitter, IsKept, wanted, HasPut, StandsFor, IsNext, with_packet, HasOneMore}
use Rattle.modulator.specs.Wants.{stream_of}
use Rattle.modulator.specs.Laws.{OtherStreams}
use Rattle.modulator.specs.declared.want.Want.{Want}
use Rattle.modulator.specs.declared.want.Want.TheVariants as wants
use Rattle.modulator.proofs.Feeding.{holds_none, bits_next, holds_rest, holds_other, register_other, register_none}

-- ---- packets and bits the packets in so many bits
whole_put : (a w : ℕ) → (a + w) % 1632 ≡ 0 → 1632 * ((a + w) / 1632) ≡ a + w
whole_put a w e = omega (arith, e)

lacks : (a b need w : ℕ) → b ≡ a + need → (a + w) % 1632 ≡ 0 → w < need → (a + w) / 1632 < rounded_up b 1632
lacks a b need w next e l = omega (arith, next, e, l)

has : (a b need w : ℕ) → b ≡ a + need → (a + w) % 1632 ≡ 0 → need ≤ w → rounded_up b 1632 ≤ (a + w) / 1632
has a b need w next e l = omega (arith, next, e, l)

-- ---- what is wanted
abbrev hp_test : Settings → ℕ → Parts → Bool
hp_test s made p = nat_lt (packets_in (steps_before s Hp made) p.hp_waiting) (packets_for s Hp (made + 1))

abbrev lp_test : Settings → ℕ → Parts → Bool
lp_test s made p = nat_lt (packets_in (steps_before s Lp made) p.lp_waiting) (packets_for s Lp (made + 1))

want_hp : StepsOfOneMore → (m : Mode) (s : Settings) (made : ℕ) (p : Parts) (next : NextSymbol) (room : ℕ) → IsKept m s made p next room → length p.hp_waiting < need (settings_at s made) Hp → wanted (transmitter s made p) ≡ Some Hp
want_hp more m s made p next room kept l = let test : hp_test s made p ≡ true = lt-ltb _ _ (lacks (steps_before s Hp made) (steps_before s Hp (made + 1)) (need (settings_at s made) Hp) (length p.hp_waiting) (more s Hp made) kept.hp_whole l) in rw test refl

want_lp : StepsOfOneMore → (m : Mode) (s : Settings) (made : ℕ) (p : Parts) (next : NextSymbol) (room : ℕ) → IsKept m s made p next room → need (settings_at s made) Hp ≤ length p.hp_waiting → length p.lp_waiting < need (settings_at s made) Lp → wanted (transmitter s made p) ≡ Some Lp
want_lp more m s made p next room kept h l =
    let first : hp_test s made p ≡ false = le-ltb _ _ (has (steps_before s Hp made) (steps_before s Hp (made + 1)) (need (settings_at s made) Hp) (length p.hp_waiting) (more s Hp made) kept.hp_whole h) in
    let second : lp_test s made p ≡ true = lt-ltb _ _ (lacks (steps_before s Lp made) (steps_before s Lp (made + 1)) (need (settings_at s made) Lp) (length p.lp_waiting) (more s Lp made) kept.lp_whole l) in
    rw (first, second) refl

pub want_none : StepsOfOneMore → (m : Mode) (s : Settings) (made : ℕ) (p : Parts) (next : NextSymbol) (room : ℕ) → IsKept m s made p next room → need (settings_at s made) Hp ≤ length p.hp_waiting → need (settings_at s made) Lp ≤ length p.lp_waiting → wanted (transmitter s made p) ≡ None
want_none more m s made p next room kept h l =
    let first : hp_test s made p ≡ false = le-ltb _ _ (has (steps_before s Hp made) (steps_before s Hp (made + 1)) (need (settings_at s made) Hp) (length p.hp_waiting) (more s Hp made) kept.hp_whole h) in
    let second : lp_test s made p ≡ false = le-ltb _ _ (has (steps_before s Lp made) (steps_before s Lp (made + 1)) (need (settings_at s made) Lp) (length p.lp_waiting) (more s Lp made) kept.lp_whole l) in
    rw (first, second) refl

pub want_is : StepsOfOneMore → (m : Mode) (s : Settings) (made : ℕ) (p : Parts) (next : NextSymbol) (room : ℕ) → IsKept m s made p next room → (w : Want)
    → (w ≡ wants.Hp → length p.hp_waiting < need (settings_at s made) Hp) → (w ≡ wants.Lp → (need (settings_at s made) Hp ≤ length p.hp_waiting) × (length p.lp_waiting < need (settings_at s made) Lp)) → (w ≡ wants.Symbol → (need (settings_at s made) Hp ≤ length p.hp_waiting) × (need (settings_at s made) Lp ≤ length p.lp_waiting))
    → stream_of w ≡ wanted (transmitter s made p)
want_is more m s made p next room kept wants.Hp hp lp none = sym (want_hp more m s made p next room kept (hp refl))
want_is more m s made p next room kept wants.Lp hp lp none = let both = lp refl in sym (want_lp more m s made p next room kept both.0 both.1)
want_is more m s made p next room kept wants.Symbol hp lp none = let both = none refl in sym (want_none more m s made p next room kept both.0 both.1)

-- the same with the settings of the symbol
pub want_at : StepsOfOneMore → (m : Mode) (s z : Settings) (made : ℕ) (p : Parts) (next : NextSymbol) (room : ℕ) → z ≡ settings_at s made → IsKept m s made p next room → (w : Want)
    → (w ≡ wants.Hp → length p.hp_waiting < need z Hp) → (w ≡ wants.Lp → (need z Hp ≤ length p.hp_waiting) × (length p.lp_waiting < need z Lp)) → (w ≡ wants.Symbol → (need z Hp ≤ length p.hp_waiting) × (need z Lp ≤ length p.lp_waiting))
    → stream_of w ≡ wanted (transmitter s made p)
want_at more m s z made p next room is kept w hp lp none =
    want_is more m s made p next room kept w
    (λ e. subst (λ (y : Settings). length p.hp_waiting < need y Hp) is (hp e))
    (λ e. subst (λ (y : Settings). (need y Hp ≤ length p.hp_waiting) × (length p.lp_waiting < need y Lp)) is (lp e))
    (λ e. subst (λ (y : Settings). (need y Hp ≤ length p.hp_waiting) × (need y Lp ≤ length p.lp_waiting)) is (none e))

-- if a symbol is wanted, its bits are pending
enough : (a b need w : ℕ) → b ≡ a + need → (a + w) % 1632 ≡ 0 → rounded_up b 1632 ≤ (a + w) / 1632 → need ≤ w
enough a b need w next e l = omega (arith, next, e, l)

none_tests : (b c : Bool) → cond b (Some Hp) (cond c (Some Lp) None) ≡ None → (b ≡ false) × (c ≡ false)
none_tests true c e = cc
none_tests false true e = cc
none_tests false false e = (refl, refl)

pub bits_wait : StepsOfOneMore → (m : Mode) (s : Settings) (made : ℕ) (p : Parts) (next : NextSymbol) (room : ℕ) → IsKept m s made p next room → wanted (transmitter s made p) ≡ None → (need (settings_at s made) Hp ≤ length p.hp_waiting) × (need (settings_at s made) Lp ≤ length p.lp_waiting)
bits_wait more m s made p next room kept e =
    let both = none_tests (hp_test s made p) (lp_test s made p) e in
    (enough (steps_before s Hp made) (steps_before s Hp (made + 1)) (need (settings_at s made) Hp) (length p.hp_waiting) (more s Hp made) kept.hp_whole (ltb-false _ _ both.0), enough (steps_before s Lp made) (steps_before s Lp (made + 1)) (need (settings_at s made) Lp) (length p.lp_waiting) (more s Lp made) kept.lp_whole (ltb-false _ _ both.1))

-- ---- a path from one of its steps on
run_from : (path : ℕ → Bool) (n t u k : ℕ) → n + t ≡ u → bits_from (from_step path n) t k ≡ bits_from path u k
run_from path n t u zero e = refl
run_from path n t u (suc k) e =
    let next : n + (t + 1) ≡ u + 1 = omega (arith, e) in
    ap (λ (z : Bool). z ∷ bits_from (from_step path n) (t + 1) k) (ap path e) ∙ ap (λ (z : List Bool). path u ∷ z) (run_from path n (t + 1) (u + 1) k next)

-- the register before step n
register_at : (path : ℕ → Bool) (n : ℕ) (register : List Bool) → register ≡ bits_from path n 6 → register ≡ bits_from (from_step path n) 0 6
register_at path n register e = let same : n + 0 ≡ n = omega arith in e ∙ sym (run_from path n 0 n 6 same)

register_of_path : (path : ℕ → Bool) (n : ℕ) (register : List Bool) → register ≡ bits_from (from_step path n) 0 6 → register ≡ bits_from path n 6
register_of_path path n register e = let same : n + 0 ≡ n = omega arith in e ∙ run_from path n 0 n 6 same

-- the register after a symbol of k steps
register_behind : (path : ℕ → Bool) (n k u : ℕ) (register : List Bool) → u ≡ n + k → register ≡ bits_from (from_step (from_step path n) k) 0 6 → register ≡ bits_from (from_step path u) 0 6
register_behind path n k u register e is =
    let none : k + 0 ≡ k = omega arith in
    let there : n + k ≡ u = omega (arith, e) in
    register_at path u register (is ∙ run_from (from_step path n) k 0 k 6 none ∙ run_from path n k u 6 there)

-- ---- before the first packet
abbrev pub parts_of : Sender → Sender → List Bool → List Bool → TxState → Parts
parts_of hp lp hp_bits lp_bits inner = record { hp_sender = hp; lp_sender = lp; hp_waiting = hp_bits; lp_waiting = lp_bits; inner = inner }

no_bits : (a : ℕ) (waiting : List Bool) → a ≡ 0 → waiting ≡ [] → (packets_in a waiting ≡ 0) × ((a + length waiting) % 1632 ≡ 0)
no_bits a waiting none e = let size : length waiting ≡ 0 = ap length e in (omega (arith, none, size), omega (arith, none, size))

pub kept_at_start : NoSteps → (m : Mode) (s : Settings) (p : Parts) (next : NextSymbol) (room : ℕ) → s.mode ≡ m → p.inner.settings ≡ s → p.inner.hp ≡ zeros → p.inner.lp ≡ zeros → p.hp_waiting ≡ [] → p.lp_waiting ≡ [] → next.settings ≡ s → next.number ≡ 0 → payload s.mode ≤ room → IsKept m s 0 p next room
kept_at_start none m s p next room mode inner hp lp hp_bits lp_bits out first labels = record {
  mode = mode;
  inner = inner;
  hp_register = ap length hp;
  lp_register = ap length lp;
  out = out;
  symbol = first;
  few = omega arith;
  hp_whole = (no_bits (steps_before s Hp 0) p.hp_waiting (none s Hp) hp_bits).1;
  lp_whole = (no_bits (steps_before s Lp 0) p.lp_waiting (none s Lp) lp_bits).1;
  labels = labels;
}

zeros_begin : (bytes : ℕ → ℕ) → zeros ≡ bits_from (path_of bytes) 0 6
zeros_begin bytes = refl

pub has_put_nothing : NoSteps → (s : Settings) (p : Parts) → p.inner.settings ≡ s → p.inner.hp ≡ zeros → p.inner.lp ≡ zeros → Sends p.hp_sender [] → Sends p.lp_sender [] → p.hp_waiting ≡ [] → p.lp_waiting ≡ [] → (inputs : Inputs) → HasPut (transmitter s 0 p) inputs
has_put_nothing none s p inner hp lp hp_sends lp_sends hp_bits lp_bits inputs = record {
  settings = inner;
  hp = holds_none p.hp_sender p.hp_waiting (inputs Hp) (packets_in (steps_before s Hp 0) p.hp_waiting) (steps_before s Hp 0) hp_sends hp_bits (no_bits (steps_before s Hp 0) p.hp_waiting (none s Hp) hp_bits).0 (none s Hp);
  lp = holds_none p.lp_sender p.lp_waiting (inputs Lp) (packets_in (steps_before s Lp 0) p.lp_waiting) (steps_before s Lp 0) lp_sends lp_bits (no_bits (steps_before s Lp 0) p.lp_waiting (none s Lp) lp_bits).0 (none s Lp);
  inner = at;
}
  where
    at : IsBefore p.inner (paths_at s inputs 0)
    at Hp = register_at (paths_of inputs Hp) (steps_before s Hp 0) p.inner.hp (register_none (outer_byte (inputs Hp)) (steps_before s Hp 0) p.inner.hp (none s Hp) (hp ∙ zeros_begin (outer_byte (inputs Hp))))
    at Lp = register_at (paths_of inputs Lp) (steps_before s Lp 0) p.inner.lp (register_none (outer_byte (inputs Lp)) (steps_before s Lp 0) p.inner.lp (none s Lp) (lp ∙ zeros_begin (outer_byte (inputs Lp))))

pub none_put : NoSteps → (s : Settings) (p : Parts) → p.hp_waiting ≡ [] → p.lp_waiting ≡ [] → ((transmitter s 0 p).hp ≡ 0) × ((transmitter s 0 p).lp ≡ 0)
none_put none s p hp_bits lp_bits = ((no_bits (steps_before s Hp 0) p.hp_waiting (none s Hp) hp_bits).0, (no_bits (steps_before s Lp 0) p.lp_waiting (none s Lp) lp_bits).0)

-- ---- other streams with a common prefix
pub other_streams : SameBeginning → OtherStreams
other_streams alike t inputs other h same = record {
  settings = h.settings;
  hp = holds_other alike t.parts.hp_sender t.parts.hp_waiting (inputs Hp) (other Hp) t.hp (steps_before t.settings Hp t.made) h.hp (same Hp);
  lp = holds_other alike t.parts.lp_sender t.parts.lp_waiting (inputs Lp) (other Lp) t.lp (steps_before t.settings Lp t.made) h.lp (same Lp);
  inner = at;
}
  where
    at : IsBefore t.parts.inner (paths_at t.settings other t.made)
    at Hp = register_at (paths_of other Hp) (steps_before t.settings Hp t.made) t.parts.inner.hp
        (register_other alike (inputs Hp) (other Hp) t.hp (steps_before t.settings Hp t.made) t.parts.inner.hp h.hp.within (same Hp) (register_of_path (paths_of inputs Hp) (steps_before t.settings Hp t.made) t.parts.inner.hp (h.inner Hp)))
    at Lp = register_at (paths_of other Lp) (steps_before t.settings Lp t.made) t.parts.inner.lp
        (register_other alike (inputs Lp) (other Lp) t.lp (steps_before t.settings Lp t.made) t.parts.inner.lp h.lp.within (same Lp) (register_of_path (paths_of inputs Lp) (steps_before t.settings Lp t.made) t.parts.inner.lp (h.inner Lp)))

-- ---- a packet more a modulator after a packet
pub record WasPut (old new : Transmitter) (packet : List ℕ) : Type 0 where
  pub counts : HasOneMore (wanted old) old new
  pub put : (inputs : Inputs) → HasPut old inputs → IsNext old inputs packet → HasPut new inputs

one_packet : (a : ℕ) (old new : List Bool) → length new ≡ length old + 1632 → (packets_in a new ≡ packets_in a old + 1) × ((a + length old) % 1632 ≡ 0 → (a + length new) % 1632 ≡ 0)
one_packet a old new e = (go (length old) (length new) e, λ h. rest (length old) (length new) e h)
  where
    go : (x y : ℕ) → y ≡ x + 1632 → (a + y) / 1632 ≡ (a + x) / 1632 + 1
    go x y e = omega (arith, e)

    rest : (x y : ℕ) → y ≡ x + 1632 → (a + x) % 1632 ≡ 0 → (a + y) % 1632 ≡ 0
    rest x y e h = omega (arith, e, h)

-- the effect of a packet on a stream
abbrev pub Feeds : Sender → List Bool → Sender → List Bool → List ℕ → Type 0
Feeds sender waiting new_sender new_waiting packet = (packets : List (List ℕ)) (n taken : ℕ) → HoldsBits sender waiting packets n taken → packet ≡ packet_at packets n → HoldsBits new_sender new_waiting packets (n + 1) taken

pub put_hp : StepsOfOneMore → (m : Mode) (s : Settings) (made : ℕ) (p : Parts) (next : NextSymbol) (room : ℕ) (sender : Sender) (waiting : List Bool) (packet : List ℕ) → IsKept m s made p next room → length p.hp_waiting < need (settings_at s made) Hp
    → length waiting ≡ length p.hp_waiting + 1632 → Feeds p.hp_sender p.hp_waiting sender waiting packet
    → WasPut (transmitter s made p) (transmitter s made (parts_of sender p.lp_sender waiting p.lp_waiting p.inner)) packet
put_hp more m s made p next room sender waiting packet kept few amount feeds =
    let want : wanted (transmitter s made p) ≡ Some Hp = want_hp more m s made p next room kept few in
    let one : packets_in (steps_before s Hp made) waiting ≡ packets_in (steps_before s Hp made) p.hp_waiting + 1 = (one_packet (steps_before s Hp made) p.hp_waiting waiting amount).0 in
    record {
      counts = subst (λ (z : Option Stream). HasOneMore z (transmitter s made p) (transmitter s made (parts_of sender p.lp_sender waiting p.lp_waiting p.inner))) (sym want) (one, refl);
      put = λ inputs h is.
          let here : packet ≡ packet_at (inputs Hp) (packets_in (steps_before s Hp made) p.hp_waiting) =
          subst (λ (z : Option Stream). IfSome z (λ σ. packet ≡ packet_at (inputs σ) (by_stream (packets_in (steps_before s Hp made) p.hp_waiting) (packets_in (steps_before s Lp made) p.lp_waiting) σ))) want is in
          record {
            settings = h.settings;
            hp = subst (λ (z : ℕ). HoldsBits sender waiting (inputs Hp) z (steps_before s Hp made)) (sym one) (feeds (inputs Hp) (packets_in (steps_before s Hp made) p.hp_waiting) (steps_before s Hp made) h.hp here);
            lp = h.lp;
            inner = h.inner;
          };
    }

pub put_lp : StepsOfOneMore → (m : Mode) (s : Settings) (made : ℕ) (p : Parts) (next : NextSymbol) (room : ℕ) (sender : Sender) (waiting : List Bool) (packet : List ℕ) → IsKept m s made p next room → need (settings_at s made) Hp ≤ length p.hp_waiting → length p.lp_waiting < need (settings_at s made) Lp
    → length waiting ≡ length p.lp_waiting + 1632 → Feeds p.lp_sender p.lp_waiting sender waiting packet
    → WasPut (transmitter s made p) (transmitter s made (parts_of p.hp_sender sender p.hp_waiting waiting p.inner)) packet
put_lp more m s made p next room sender waiting packet kept many few amount feeds =
    let want : wanted (transmitter s made p) ≡ Some Lp = want_lp more m s made p next room kept many few in
    let one : packets_in (steps_before s Lp made) waiting ≡ packets_in (steps_before s Lp made) p.lp_waiting + 1 = (one_packet (steps_before s Lp made) p.lp_waiting waiting amount).0 in
    record {
      counts = subst (λ (z : Option Stream). HasOneMore z (transmitter s made p) (transmitter s made (parts_of p.hp_sender sender p.hp_waiting waiting p.inner))) (sym want) (refl, one);
      put = λ inputs h is.
          let here : packet ≡ packet_at (inputs Lp) (packets_in (steps_before s Lp made) p.lp_waiting) =
          subst (λ (z : Option Stream). IfSome z (λ σ. packet ≡ packet_at (inputs σ) (by_stream (packets_in (steps_before s Hp made) p.hp_waiting) (packets_in (steps_before s Lp made) p.lp_waiting) σ))) want is in
          record {
            settings = h.settings;
            hp = h.hp;
            lp = subst (λ (z : ℕ). HoldsBits sender waiting (inputs Lp) z (steps_before s Lp made)) (sym one) (feeds (inputs Lp) (packets_in (steps_before s Lp made) p.lp_waiting) (steps_before s Lp made) h.lp here);
            inner = h.inner;
          };
    }

pub kept_hp : (m : Mode) (s : Settings) (made : ℕ) (p : Parts) (next : NextSymbol) (room : ℕ) (sender : Sender) (waiting : List Bool) → IsKept m s made p next room → length waiting ≡ length p.hp_waiting + 1632 → IsKept m s made (parts_of sender p.lp_sender waiting p.lp_waiting p.inner) next room
kept_hp m s made p next room sender waiting kept amount =
    record { mode = kept.mode; inner = kept.inner; hp_register = kept.hp_register; lp_register = kept.lp_register; out = kept.out; symbol = kept.symbol; few = kept.few; hp_whole = (one_packet (steps_before s Hp made) p.hp_waiting waiting amount).1 kept.hp_whole; lp_whole = kept.lp_whole; labels = kept.labels }

pub kept_lp : (m : Mode) (s : Settings) (made : ℕ) (p : Parts) (next : NextSymbol) (room : ℕ) (sender : Sender) (waiting : List Bool) → IsKept m s made p next room → length waiting ≡ length p.lp_waiting + 1632 → IsKept m s made (parts_of p.hp_sender sender p.hp_waiting waiting p.inner) next room
kept_lp m s made p next room sender waiting kept amount =
    record { mode = kept.mode; inner = kept.inner; hp_register = kept.hp_register; lp_register = kept.lp_register; out = kept.out; symbol = kept.symbol; few = kept.few; hp_whole = kept.hp_whole; lp_whole = (one_packet (steps_before s Lp made) p.lp_waiting waiting amount).1 kept.lp_whole; labels = kept.labels }

-- the list of packets put grows by the packet
pub stands_more : OtherStreams → (old new : Transmitter) (packet : List ℕ) → WasPut old new packet → (packets : Inputs) → StandsFor old packets → StandsFor new (with_packet packets (wanted old) packet)
stands_more others old new packet was packets st = go (wanted old) refl
  where
    front : (xs : List (List ℕ)) (n i : ℕ) → length xs ≡ n → i < n → packet_at xs i ≡ packet_at (xs ++ packet ∷ []) i
    front xs n i e l = sym (get_or_append_left xs (packet ∷ []) null_packet i (omega (arith, l, e)))

    last : (xs : List (List ℕ)) (n : ℕ) → length xs ≡ n → packet ≡ packet_at (xs ++ packet ∷ []) n
    last xs n e = sym (get_or_push xs packet null_packet n e)

    hp_alike : (σ : Stream) (i : ℕ) → i < by_stream old.hp old.lp σ → packet_at (packets σ) i ≡ packet_at (with_packet packets (Some Hp) packet σ) i
    hp_alike Hp i l = front (packets Hp) old.hp i st.hp l
    hp_alike Lp i l = refl

    lp_alike : (σ : Stream) (i : ℕ) → i < by_stream old.hp old.lp σ → packet_at (packets σ) i ≡ packet_at (with_packet packets (Some Lp) packet σ) i
    lp_alike Hp i l = refl
    lp_alike Lp i l = front (packets Lp) old.lp i st.lp l

    next_is : (o : Option Stream) (inputs : Inputs) → wanted old ≡ o → IfSome o (λ σ. packet ≡ packet_at (inputs σ) (by_stream old.hp old.lp σ)) → IsNext old inputs packet
    next_is o inputs e h = subst (λ (z : Option Stream). IfSome z (λ σ. packet ≡ packet_at (inputs σ) (by_stream old.hp old.lp σ))) (sym e) h

    counts_at : (o : Option Stream) → wanted old ≡ o → HasOneMore o old new
    counts_at o e = subst (λ (z : Option Stream). HasOneMore z old new) e was.counts

    go : (o : Option Stream) → wanted old ≡ o → StandsFor new (with_packet packets o packet)
    go None e =
        let more = counts_at None e in
        record { hp = st.hp ∙ sym more.0; lp = st.lp ∙ sym more.1; put = was.put packets st.put (next_is None packets e tt) }
    go (Some Hp) e =
        let more = counts_at (Some Hp) e in
        record {
          hp = length_push (packets Hp) packet ∙ ap (λ (z : ℕ). z + 1) st.hp ∙ sym more.0;
          lp = st.lp ∙ sym more.1;
          put = was.put (with_packet packets (Some Hp) packet) (others old packets (with_packet packets (Some Hp) packet) st.put hp_alike) (next_is (Some Hp) (with_packet packets (Some Hp) packet) e (last (packets Hp) old.hp st.hp));
        }
    go (Some Lp) e =
        let more = counts_at (Some Lp) e in
        record {
          hp = st.hp ∙ sym more.0;
          lp = length_push (packets Lp) packet ∙ ap (λ (z : ℕ). z + 1) st.lp ∙ sym more.1;
          put = was.put (with_packet packets (Some Lp) packet) (others old packets (with_packet packets (Some Lp) packet) st.put lp_alike) (next_is (Some Lp) (with_packet packets (Some Lp) packet) e (last (packets Lp) old.lp st.lp));
        }

-- ---- a symbol more
abbrev pub after_symbol : Settings → ℕ → Parts → TxState → Parts
after_symbol s made p inner = parts_of p.hp_sender p.lp_sender (drop (need (settings_at s made) Hp) p.hp_waiting) (drop (need (settings_at s made) Lp) p.lp_waiting) inner

bits_taken : (a b need : ℕ) (waiting : List Bool) → b ≡ a + need → need ≤ length waiting → (packets_in b (drop need waiting) ≡ packets_in a waiting) × ((a + length waiting) % 1632 ≡ 0 → (b + length (drop need waiting)) % 1632 ≡ 0)
bits_taken a b need waiting next l =
    let size : length (drop need waiting) ≡ length waiting - need = length-drop need waiting in
    let same : b + length (drop need waiting) ≡ a + length waiting = omega (arith, next, size, l) in
    (ap (λ (z : ℕ). z / 1632) same, λ h. ap (λ (z : ℕ). z % 1632) same ∙ h)

pub kept_symbol : StepsOfOneMore → (m : Mode) (s : Settings) (made : ℕ) (p : Parts) (next after : NextSymbol) (room left : ℕ) (inner : TxState) → IsKept m s made p next room → wanted (transmitter s made p) ≡ None
    → made < 2 ^ 32 → inner.settings ≡ p.inner.settings → length inner.hp ≡ 6 → length inner.lp ≡ 6 → after.settings ≡ next.settings → after.number ≡ (next.number + 1) % 272 → left ≡ room → IsKept m s (made + 1) (after_symbol s made p inner) after left
kept_symbol more m s made p next after room left inner kept none few same hp lp out number capacity =
    let wait = bits_wait more m s made p next room kept none in
    record {
      mode = kept.mode;
      inner = same ∙ kept.inner;
      hp_register = hp;
      lp_register = lp;
      out = out ∙ kept.out;
      symbol = omega (arith, number, kept.symbol);
      few = omega (arith, few);
      hp_whole = (bits_taken (steps_before s Hp made) (steps_before s Hp (made + 1)) (need (settings_at s made) Hp) p.hp_waiting (more s Hp made) wait.0).1 kept.hp_whole;
      lp_whole = (bits_taken (steps_before s Lp made) (steps_before s Lp (made + 1)) (need (settings_at s made) Lp) p.lp_waiting (more s Lp made) wait.1).1 kept.lp_whole;
      labels = omega (arith, kept.labels, capacity);
    }

pub counts_kept : StepsOfOneMore → (m : Mode) (s : Settings) (made : ℕ) (p : Parts) (next : NextSymbol) (room : ℕ) (inner : TxState) → IsKept m s made p next room → wanted (transmitter s made p) ≡ None
    → ((transmitter s (made + 1) (after_symbol s made p inner)).hp ≡ (transmitter s made p).hp) × ((transmitter s (made + 1) (after_symbol s made p inner)).lp ≡ (transmitter s made p).lp)
counts_kept more m s made p next room inner kept none =
    let wait = bits_wait more m s made p next room kept none in
    ((bits_taken (steps_before s Hp made) (steps_before s Hp (made + 1)) (need (settings_at s made) Hp) p.hp_waiting (more s Hp made) wait.0).0, (bits_taken (steps_before s Lp made) (steps_before s Lp (made + 1)) (need (settings_at s made) Lp) p.lp_waiting (more s Lp made) wait.1).0)

-- the bits that the symbol takes, at its own settings
pub hp_input : StepsOfOneMore → (m : Mode) (s z : Settings) (made : ℕ) (p : Parts) (next : NextSymbol) (room : ℕ) (inputs : Inputs) → z ≡ settings_at s made → IsKept m s made p next room → wanted (transmitter s made p) ≡ None → HasPut (transmitter s made p) inputs
    → take (need z Hp) p.hp_waiting ≡ input_bits z (paths_at s inputs made) Hp
hp_input more m s z made p next room inputs is kept none h =
    let wait = bits_wait more m s made p next room kept none in
    subst (λ (y : Settings). take (need y Hp) p.hp_waiting ≡ input_bits y (paths_at s inputs made) Hp) (sym is)
    (bits_next p.hp_sender p.hp_waiting (inputs Hp) (packets_in (steps_before s Hp made) p.hp_waiting) (steps_before s Hp made) (need (settings_at s made) Hp) h.hp wait.0
    ∙ sym (run_from (paths_of inputs Hp) (steps_before s Hp made) 6 (steps_before s Hp made + 6) (need (settings_at s made) Hp) refl))

pub lp_input : StepsOfOneMore → (m : Mode) (s z : Settings) (made : ℕ) (p : Parts) (next : NextSymbol) (room : ℕ) (inputs : Inputs) → z ≡ settings_at s made → IsKept m s made p next room → wanted (transmitter s made p) ≡ None → HasPut (transmitter s made p) inputs
    → take (need z Lp) p.lp_waiting ≡ input_bits z (paths_at s inputs made) Lp
lp_input more m s z made p next room inputs is kept none h =
    let wait = bits_wait more m s made p next room kept none in
    subst (λ (y : Settings). take (need y Lp) p.lp_waiting ≡ input_bits y (paths_at s inputs made) Lp) (sym is)
    (bits_next p.lp_sender p.lp_waiting (inputs Lp) (packets_in (steps_before s Lp made) p.lp_waiting) (steps_before s Lp made) (need (settings_at s made) Lp) h.lp wait.1
    ∙ sym (run_from (paths_of inputs Lp) (steps_before s Lp made) 6 (steps_before s Lp made + 6) (need (settings_at s made) Lp) refl))

pub put_kept : StepsOfOneMore → (m : Mode) (s z : Settings) (made : ℕ) (p : Parts) (next : NextSymbol) (room : ℕ) (inner : TxState) (inputs : Inputs) → z ≡ settings_at s made → IsKept m s made p next room → wanted (transmitter s made p) ≡ None → inner.settings ≡ p.inner.settings
    → IsBefore inner (behind z (paths_at s inputs made)) → HasPut (transmitter s made p) inputs → HasPut (transmitter s (made + 1) (after_symbol s made p inner)) inputs
put_kept more m s z made p next room inner inputs is kept none same at h =
    let wait = bits_wait more m s made p next room kept none in
    let counts = counts_kept more m s made p next room inner kept none in
    record {
      settings = same ∙ kept.inner;
      hp = subst (λ (z : ℕ). HoldsBits p.hp_sender (drop (need (settings_at s made) Hp) p.hp_waiting) (inputs Hp) z (steps_before s Hp (made + 1))) (sym counts.0)
          (holds_rest p.hp_sender p.hp_waiting (drop (need (settings_at s made) Hp) p.hp_waiting) (inputs Hp) (packets_in (steps_before s Hp made) p.hp_waiting) (steps_before s Hp made) (need (settings_at s made) Hp) (steps_before s Hp (made + 1)) h.hp wait.0 refl (more s Hp made));
      lp = subst (λ (z : ℕ). HoldsBits p.lp_sender (drop (need (settings_at s made) Lp) p.lp_waiting) (inputs Lp) z (steps_before s Lp (made + 1))) (sym counts.1)
          (holds_rest p.lp_sender p.lp_waiting (drop (need (settings_at s made) Lp) p.lp_waiting) (inputs Lp) (packets_in (steps_before s Lp made) p.lp_waiting) (steps_before s Lp made) (need (settings_at s made) Lp) (steps_before s Lp (made + 1)) h.lp wait.1 refl (more s Lp made));
      inner = ahead;
    }
  where
    takes : (σ : Stream) → steps_before s σ (made + 1) ≡ steps_before s σ made + need z σ
    takes σ = subst (λ (y : Settings). steps_before s σ (made + 1) ≡ steps_before s σ made + need y σ) (sym is) (more s σ made)

    ahead : IsBefore inner (paths_at s inputs (made + 1))
    ahead Hp = register_behind (paths_of inputs Hp) (steps_before s Hp made) (need z Hp) (steps_before s Hp (made + 1)) inner.hp (takes Hp) (at Hp)
    ahead Lp = register_behind (paths_of inputs Lp) (steps_before s Lp made) (need z Lp) (steps_before s Lp (made + 1)) inner.lp (takes Lp) (at Lp)

pub stands_kept : (old new : Transmitter) (packets : Inputs) → new.hp ≡ old.hp → new.lp ≡ old.lp → (HasPut old packets → HasPut new packets) → StandsFor old packets → StandsFor new packets
stands_kept old new packets hp lp put st = record { hp = st.hp ∙ sym hp; lp = st.lp ∙ sym lp; put = put st.put }

-- the bytes written are the symbol of the transmission
tx_symbol_is : (s : Settings) (inputs : Inputs) (m : ℕ)
    → tx_symbol s inputs m ≡ announcing_bytes (settings_at s m) (announced_at s m) m (label_bit (settings_at s m) (is_odd m) (coded_bits (settings_at s m) (paths_at s inputs m)))
unfolding tx_symbol tx_label
tx_symbol_is s inputs m = refl

-- the modulator after a symbol, with these bits taken from its parts
pub record AfterSymbol (old new : Transmitter) : Type 0 where
  pub hp : new.hp ≡ old.hp
  pub lp : new.lp ≡ old.lp
  pub put : (inputs : Inputs) → HasPut old inputs → HasPut new inputs

taken_at : (s z : Settings) (σ : Stream) (waiting new : List Bool) → z ≡ s → new ≡ drop (need z σ) waiting → drop (need s σ) waiting ≡ new
taken_at s z σ waiting new e is = sym (is ∙ ap (λ (y : Settings). drop (need y σ) waiting) e)

-- the effect of the inner coder with the settings of the symbol
abbrev pub GoesOn : Settings → Parts → TxState → Type 0
GoesOn z p inner = (paths : Paths) → IsBefore p.inner paths → take (need z Hp) p.hp_waiting ≡ input_bits z paths Hp → take (need z Lp) p.lp_waiting ≡ input_bits z paths Lp → IsBefore inner (behind z paths)

pub symbol_made : StepsOfOneMore → (m : Mode) (s z : Settings) (made : ℕ) (p : Parts) (next : NextSymbol) (room : ℕ) (inner : TxState) (hp lp : List Bool) → z ≡ settings_at s made → IsKept m s made p next room → wanted (transmitter s made p) ≡ None
    → inner.settings ≡ p.inner.settings → hp ≡ drop (need z Hp) p.hp_waiting → lp ≡ drop (need z Lp) p.lp_waiting → GoesOn z p inner
    → AfterSymbol (transmitter s made p) (transmitter s (made + 1) (parts_of p.hp_sender p.lp_sender hp lp inner))
symbol_made more m s z made p next room inner hp lp is kept none same eh el goes =
    subst (λ (w : List Bool). AfterSymbol (transmitter s made p) (transmitter s (made + 1) (parts_of p.hp_sender p.lp_sender w lp inner))) (taken_at (settings_at s made) z Hp p.hp_waiting hp is eh)
    (subst (λ (w : List Bool). AfterSymbol (transmitter s made p) (transmitter s (made + 1) (parts_of p.hp_sender p.lp_sender (drop (need (settings_at s made) Hp) p.hp_waiting) w inner))) (taken_at (settings_at s made) z Lp p.lp_waiting lp is el)
    (record {
      hp = (counts_kept more m s made p next room inner kept none).0;
      lp = (counts_kept more m s made p next room inner kept none).1;
      put = λ inputs h. put_kept more m s z made p next room inner inputs is kept none same
          (goes (paths_at s inputs made) h.inner (hp_input more m s z made p next room inputs is kept none h) (lp_input more m s z made p next room inputs is kept none h)) h;
    }))

-- the labels from the inner coder with the settings of the symbol
abbrev pub Labels : Settings → ℕ → Parts → (ℕ → ℕ → Bool) → Type 0
Labels z made p labels = (paths : Paths) → IsBefore p.inner paths → take (need z Hp) p.hp_waiting ≡ input_bits z paths Hp → take (need z Lp) p.lp_waiting ≡ input_bits z paths Lp
    → Agree z labels (label_bit z (is_odd made) (coded_bits z paths))

pub record AreCells (s : Settings) (made : ℕ) : Type 0 where
  pub repeats : (a b : Settings) (l : ℕ → ℕ → Bool) → announcing_bytes a b made l ≡ announcing_bytes a b (made % 272) l
  pub follow : (a b : Settings) (l k : ℕ → ℕ → Bool) → a.mode ≡ s.mode → Agree a l k → announcing_bytes a b made l ≡ announcing_bytes a b made k

-- the bytes written, with the settings of the symbol and of the next super-frame
pub bytes_made : ModeStays → StepsOfOneMore → (m : Mode) (s z now coming : Settings) (made : ℕ) (p : Parts) (next : NextSymbol) (room : ℕ) (labels : ℕ → ℕ → Bool) (inputs : Inputs)
    → z ≡ settings_at s made → now ≡ settings_at s made → coming ≡ announced_at s made → IsKept m s made p next room → wanted (transmitter s made p) ≡ None
    → AreCells s made → Labels z made p labels → HasPut (transmitter s made p) inputs → announcing_bytes now coming next.number labels ≡ tx_symbol s inputs made
bytes_made stay more m s z now coming made p next room labels inputs ez en ec kept none cells agrees h =
    let agree : Agree (settings_at s made) labels (label_bit (settings_at s made) (is_odd made) (coded_bits (settings_at s made) (paths_at s inputs made))) =
    subst (λ (y : Settings). Agree y labels (label_bit y (is_odd made) (coded_bits y (paths_at s inputs made)))) ez
    (agrees (paths_at s inputs made) h.inner (hp_input more m s z made p next room inputs ez kept none h) (lp_input more m s z made p next room inputs ez kept none h)) in
    ap (λ (y : Settings). announcing_bytes y coming next.number labels) en
    ∙ ap (λ (y : Settings). announcing_bytes (settings_at s made) y next.number labels) ec
    ∙ ap (λ (n : ℕ). announcing_bytes (settings_at s made) (announced_at s made) n labels) kept.symbol
    ∙ sym (cells.repeats (settings_at s made) (announced_at s made) labels)
    ∙ cells.follow (settings_at s made) (announced_at s made) labels (label_bit (settings_at s made) (is_odd made) (coded_bits (settings_at s made) (paths_at s inputs made))) (stay s (made / 272)) agree
    ∙ sym (tx_symbol_is s inputs made)

-- the invariant after a symbol
pub kept_made : StepsOfOneMore → (m : Mode) (s z : Settings) (made : ℕ) (p : Parts) (next after : NextSymbol) (room left : ℕ) (inner : TxState) (hp lp : List Bool) → z ≡ settings_at s made → IsKept m s made p next room → wanted (transmitter s made p) ≡ None
    → made < 2 ^ 32 → inner.settings ≡ p.inner.settings → length inner.hp ≡ 6 → length inner.lp ≡ 6 → after.settings ≡ next.settings → after.number ≡ (next.number + 1) % 272 → left ≡ room
    → hp ≡ drop (need z Hp) p.hp_waiting → lp ≡ drop (need z Lp) p.lp_waiting → IsKept m s (made + 1) (parts_of p.hp_sender p.lp_sender hp lp inner) after left
kept_made more m s z made p next after room left inner hp lp is kept none few same rh rl out number capacity eh el =
    subst (λ (w : List Bool). IsKept m s (made + 1) (parts_of p.hp_sender p.lp_sender w lp inner) after left) (taken_at (settings_at s made) z Hp p.hp_waiting hp is eh)
    (subst (λ (w : List Bool). IsKept m s (made + 1) (parts_of p.hp_sender p.lp_sender (drop (need (settings_at s made) Hp) p.hp_waiting) w inner) after left) (taken_at (settings_at s made) z Lp p.lp_waiting lp is el)
    (kept_symbol more m s made p next after room left inner kept none few same rh rl out number capacity))
