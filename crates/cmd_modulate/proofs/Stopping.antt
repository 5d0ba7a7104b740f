-- One more packet of a stream, or the stop of the work before its symbol.
use Rattle.std.proofs.Common.{◌≡◌, ℕ, ◌+◌, ◌<◌, ◌≤◌, Bool, true, false, cond, List, [], ◌∷◌, ◌⊎◌, inl, inr, Option, Some, None, Ok, Err, refl, ap, sym, subst, ◌∙◌, arith}
use Rattle.std.specs.Prelude.{◌&&◌, is_some, IfSome, nat_lt}
use Rattle.std.specs.Option.{option_map}
use Rattle.std.proofs.lemmas.Bool.{ltb-true, true≢false}
use Rattle.station_core.specs.Meaning.{Meaning}
use Rattle.mode_set.specs.declared.modes.Stream.{Stream}
use Rattle.mode_set.specs.declared.modes.Stream.TheVariants.{Hp, Lp}
use Rattle.mode_set.specs.declared.settings.Settings.{Settings as TheSettings}
use Rattle.outer_chain.specs.Sent.{packet_at}
use Rattle.transmission.specs.Transmission.{Inputs, by_stream}
use Rattle.transmission.specs.SuperFrames.{packets_for, symbols_of}
use Rattle.transmission.specs.Agenda.{next_stream, packet_refusal}
use Rattle.transmission.specs.Agenda as agenda
use Rattle.transmission.specs.AgendaLaws.{IsAt, StopsAt, TakesOfHp, TakesOfLp, StopsAtPacket, SentSoFar, SentAtFault}
use Rattle.modulator.specs.State.{HasOneMore, Transmitter}
use Rattle.cmd_base.specs.declared.refusal.Refusal.{Refusal}
use Rattle.cmd_base.specs.declared.refusal.Refusal.TheVariants.{Usage, Settings, ReadFault, WriteFault, NotSync, Memory, Limit, Cells}
use Rattle.cmd_modulate.specs.ModulateCommand.{HoldsSymbolsSoFar, cells_sent, inputs_of, modulation_refusal, refused_by, sent_by, taken_of, file_of_symbols}
use Rattle.cmd_modulate.specs.Inputs.{left_of}
use Rattle.cmd_modulate.specs.declared.inputs.PacketInputs.{PacketInputs}
use Rattle.cmd_modulate.specs.Seen.{Seen, seen_of, wanted, with_one}
use Rattle.cmd_modulate.specs.Work.{AreNear, BothRead, BothTell, GivesOf, IsAtWork, IsDue, Stops}

-- ---- what is wanted
hp_only : (b c : Bool) → cond b (Some Hp) (cond c (Some Lp) None) ≡ Some Hp → b ≡ true
hp_only true c e = refl
hp_only false true e = cc
hp_only false false e = cc

lp_only : (b c : Bool) → cond b (Some Hp) (cond c (Some Lp) None) ≡ Some Lp → c ≡ true
lp_only true c e = cc
lp_only false true e = refl
lp_only false false e = cc

-- fewer packets of the stream were put than its next symbol needs
pub is_short : (s : TheSettings) (m hp lp : ℕ) (σ : Stream) → next_stream s m hp lp ≡ Some σ → by_stream hp lp σ < packets_for s σ (m + 1)
is_short s m hp lp Hp e = ltb-true hp (packets_for s Hp (m + 1)) (hp_only (nat_lt hp (packets_for s Hp (m + 1))) (nat_lt lp (packets_for s Lp (m + 1))) e)
is_short s m hp lp Lp e = ltb-true lp (packets_for s Lp (m + 1)) (lp_only (nat_lt hp (packets_for s Hp (m + 1))) (nat_lt lp (packets_for s Lp (m + 1))) e)

-- ---- the work is refused the cells of the symbols before a refusal
pub cells_at : (s : TheSettings) (limit : ℕ) (inputs : Inputs) (r : agenda.Refusal) (m : ℕ) → StopsAt s limit inputs r m → cells_sent s limit inputs ≡ file_of_symbols s inputs m
cells_at s limit inputs r m stops = ap (sent_by s limit inputs) stops.first ∙ ap (file_of_symbols s inputs) stops.sent

not_write_fault : (a : agenda.Refusal) → Some (refused_by a) ≡ Some WriteFault → ⊥
not_write_fault (agenda.Limit n) e = cc
not_write_fault (agenda.NotSync σ p) e = cc

-- ---- the streams whose end was reached, if the read of one failed
abbrev empty : List ℕ → Bool
empty [] = true
empty (x ∷ l) = false

abbrev other : Stream → Stream → Bool
other Hp Hp = false
other Hp Lp = true
other Lp Hp = true
other Lp Lp = false

-- another stream with nothing left
abbrev met_of : Stream → Stream → List ℕ → Bool
met_of σ τ l = other σ τ && empty l

none_left : (o : Bool) (l : List ℕ) → (o && empty l) ≡ true → l ≡ []
none_left true [] e = refl
none_left true (x ∷ l) e = absurd (true≢false (sym e))
none_left false l e = absurd (true≢false (sym e))

own_unmet : (σ : Stream) (l : List ℕ) → met_of σ σ l ≡ false
own_unmet Hp l = refl
own_unmet Lp l = refl

unmet_is : (σ τ : Stream) (l : List ℕ) → met_of σ τ l ≡ false → (τ ≡ σ) ⊎ (empty l ≡ false)
unmet_is Hp Hp l e = inl refl
unmet_is Hp Lp l e = inr e
unmet_is Lp Hp l e = inr e
unmet_is Lp Lp l e = inl refl

unmet_own : (σ τ : Stream) (l : List ℕ) → l ≡ [] → met_of σ τ l ≡ false → τ ≡ σ
unmet_own σ τ l none e = elim (unmet_is σ τ l e) [
  | inl is ↦ is
  | inr some ↦ absurd (true≢false (ap empty (sym none) ∙ some))
]

module _ (at_packet : StopsAtPacket) (so_far : SentSoFar) (at_fault : SentAtFault)
    (limit : ℕ) (files : Stream → List ℕ) (σ : Stream) (t : Seen) (is_wanted : wanted t ≡ Some σ) (due : IsDue files t)
    (at : IsAt t.settings limit (inputs_of files) t.made t.hp t.lp) where
  -- a refused packet
  refused : (r : Refusal) → option_map refused_by (packet_refusal limit (inputs_of files) σ (by_stream t.hp t.lp σ)) ≡ Some r
      → (modulation_refusal t.settings limit (inputs_of files) ≡ Some r) × (cells_sent t.settings limit (inputs_of files) ≡ file_of_symbols t.settings (inputs_of files) t.made)
  refused r is = go (packet_refusal limit (inputs_of files) σ (by_stream t.hp t.lp σ)) refl is
    where
      go : (o : Option agenda.Refusal) → packet_refusal limit (inputs_of files) σ (by_stream t.hp t.lp σ) ≡ o → option_map refused_by o ≡ Some r
          → (modulation_refusal t.settings limit (inputs_of files) ≡ Some r) × (cells_sent t.settings limit (inputs_of files) ≡ file_of_symbols t.settings (inputs_of files) t.made)
      go None e is = absurd (let e' : None ≡ Some r = is in cc)
      go (Some a) e is =
          let stops = at_packet t.settings limit (inputs_of files) t.made t.hp t.lp σ a at due.more due.within is_wanted e in
          (ap (option_map refused_by) stops.first ∙ is, cells_at t.settings limit (inputs_of files) a t.made stops)

  never_write_fault : option_map refused_by (packet_refusal limit (inputs_of files) σ (by_stream t.hp t.lp σ)) ≡ Some WriteFault → ⊥
  never_write_fault is = go (packet_refusal limit (inputs_of files) σ (by_stream t.hp t.lp σ)) is
    where
      go : (o : Option agenda.Refusal) → option_map refused_by o ≡ Some WriteFault → ⊥
      go None is = let e' : None ≡ Some WriteFault = is in cc
      go (Some a) is = not_write_fault a is

  module _ (m : Meaning) (inputs : PacketInputs) (tail_is : (by_stream inputs.hp inputs.lp σ).tail ≡ None) (tell : BothTell files m inputs t) where
    abbrev met : Stream → Bool
    met τ = met_of σ τ (left_of m τ)

    -- the end of a stream with bytes left was not reached
    not_ended : (o : Option ℕ) (l : List ℕ) → (is_some o ≡ true → l ≡ []) → empty l ≡ false → o ≡ None
    not_ended None l none some = refl
    not_ended (Some n) l none some = absurd (true≢false (ap empty (sym (none refl)) ∙ some))

    ended_empty : (τ : Stream) → is_some (by_stream inputs.hp inputs.lp τ).tail ≡ true → left_of m τ ≡ []
    ended_empty Hp = tell.hp.none
    ended_empty Lp = tell.lp.none

    not_met : (τ : Stream) → met τ ≡ false → (by_stream inputs.hp inputs.lp τ).tail ≡ None
    not_met τ e = elim (unmet_is σ τ (left_of m τ) e) [
      | inl is ↦ subst (λ (υ : Stream). (by_stream inputs.hp inputs.lp υ).tail ≡ None) (sym is) tail_is
      | inr some ↦ not_ended (by_stream inputs.hp inputs.lp τ).tail (left_of m τ) (ended_empty τ) some
    ]

    put_is : (τ : Stream) → (by_stream inputs.hp inputs.lp τ).tail ≡ None → taken_of files (left_of m) τ ≡ by_stream t.hp t.lp τ
    put_is Hp none = tell.hp.all none
    put_is Lp none = tell.lp.all none

    least : (τ : Stream) → packets_for t.settings τ t.made ≤ by_stream t.hp t.lp τ
    least Hp = at.hp_least
    least Lp = at.lp_least

    through : (a b c : ℕ) → b ≡ c → a ≤ c → a ≤ b
    through a b c e l = omega (arith, e, l)

    before : (a b c : ℕ) → a ≡ b → b < c → a < c
    before a b c e l = omega (arith, e, l)

    at_most : (a b : ℕ) → a < b → a ≤ b
    at_most a b l = omega (arith, l)

    within : (τ : Stream) (p : ℕ) → p < taken_of files (left_of m) τ → p < by_stream t.hp t.lp τ
    within Hp p l = omega (arith, l, tell.hp.most)
    within Lp p l = omega (arith, l, tell.lp.most)

    at_end : (τ : Stream) → met τ ≡ true → left_of m τ ≡ []
    at_end τ e = none_left (other σ τ) (left_of m τ) e

    -- a failed read
    failed : HoldsSymbolsSoFar t.settings limit files (left_of m) (file_of_symbols t.settings (inputs_of files) t.made)
    failed = record {
      met = met;
      at_end = at_end;
      one_unmet = λ τ υ none unmet none' unmet'. unmet_own σ τ (left_of m τ) none unmet ∙ sym (unmet_own σ υ (left_of m υ) none' unmet');
      symbols = t.made;
      among = due.more;
      enough = at_fault t.settings (taken_of files (left_of m)) met t.made σ
          (λ τ e. through (packets_for t.settings τ t.made) (taken_of files (left_of m) τ) (by_stream t.hp t.lp τ) (put_is τ (not_met τ e)) (least τ))
          (own_unmet σ (left_of m σ))
          (before (taken_of files (left_of m) σ) (by_stream t.hp t.lp σ) (packets_for t.settings σ (t.made + 1)) (put_is σ tail_is) (is_short t.settings t.made t.hp t.lp σ is_wanted));
      is = refl;
      in_order = so_far t.settings limit (inputs_of files) t.made t.hp t.lp at (at_most t.made (symbols_of t.settings (inputs_of files)) due.more);
      within = due.within;
      accepted = λ τ p l. at.accepted τ p (within τ p l);
    }

  pub stops : (m : Meaning) (inputs : PacketInputs) (r : Refusal) → GivesOf limit files σ t m inputs (Err r) → Stops limit files m t r
  stops m inputs Usage g = refused Usage g.0
  stops m inputs (Cells reason) g = refused (Cells reason) g.0
  stops m inputs (Settings reason) g = refused (Settings reason) g.0
  stops m inputs ReadFault g = failed m inputs g.0 g.1
  stops m inputs WriteFault g = never_write_fault g.0
  stops m inputs (NotSync τ p) g = refused (NotSync τ p) g.0
  stops m inputs Memory g = refused Memory g.0
  stops m inputs (Limit n) g = refused (Limit n) g.0

-- for any reason, at most one packet was taken after those put
pub are_near : (limit : ℕ) (files : Stream → List ℕ) (σ : Stream) (t : Seen) (m : Meaning) (inputs : PacketInputs) (r : Refusal) → GivesOf limit files σ t m inputs (Err r) → AreNear files m t
are_near limit files σ t m inputs Usage g = g.1
are_near limit files σ t m inputs (Cells reason) g = g.1
are_near limit files σ t m inputs (Settings reason) g = g.1
are_near limit files σ t m inputs ReadFault g = g.2
are_near limit files σ t m inputs WriteFault g = g.1
are_near limit files σ t m inputs (NotSync τ p) g = g.1
are_near limit files σ t m inputs Memory g = g.1
are_near limit files σ t m inputs (Limit n) g = g.1

-- ---- a packet was put
like : (σ : Stream) (old new : Transmitter) → new.settings ≡ old.settings → new.made ≡ old.made → HasOneMore (Some σ) old new
    → seen_of new ≡ with_one σ (seen_of old)
like Hp old new settings made more = cc (settings, made, more.0, more.1)
like Lp old new settings made more = cc (settings, made, more.0, more.1)

pub one_put : (σ : Stream) (old new : Transmitter) → wanted (seen_of old) ≡ Some σ → new.settings ≡ old.settings → new.made ≡ old.made
    → HasOneMore (wanted (seen_of old)) old new → seen_of new ≡ with_one σ (seen_of old)
one_put σ old new is settings made counts = like σ old new settings made (subst (λ (w : Option Stream). HasOneMore w old new) is counts)

module _ (takes_hp : TakesOfHp) (takes_lp : TakesOfLp) (limit : ℕ) (files : Stream → List ℕ) (t : Seen)
    (at : IsAt t.settings limit (inputs_of files) t.made t.hp t.lp) where
  one_more : (σ : Stream) → wanted t ≡ Some σ → packet_refusal limit (inputs_of files) σ (by_stream t.hp t.lp σ) ≡ None
      → IsAt (with_one σ t).settings limit (inputs_of files) (with_one σ t).made (with_one σ t).hp (with_one σ t).lp
  one_more Hp is ok = takes_hp t.settings limit (inputs_of files) t.made t.hp t.lp at is ok
  one_more Lp is ok = takes_lp t.settings limit (inputs_of files) t.made t.hp t.lp at is ok

  pub goes_on : (σ : Stream) (is_wanted : wanted t ≡ Some σ) (m : Meaning) (inputs : PacketInputs) (t' : Seen) (put : Inputs → Type 0) (packet : List ℕ)
      → GivesOf limit files σ t m inputs (Ok packet)
      → t' ≡ with_one σ t
      → (IfSome (wanted t) (λ τ. packet ≡ packet_at (inputs_of files τ) (by_stream t.hp t.lp τ)) → put (inputs_of files))
      → IsAtWork limit files m inputs t' put
  goes_on σ is_wanted m inputs t' put packet gives same stands =
      record {
        at = subst (λ (x : Seen). IsAt x.settings limit (inputs_of files) x.made x.hp x.lp) (sym same) (one_more σ is_wanted gives.1);
        stands = stands (subst (λ (o : Option Stream). IfSome o (λ τ. packet ≡ packet_at (inputs_of files τ) (by_stream t.hp t.lp τ))) (sym is_wanted) gives.0);
        read = subst (λ (x : Seen). BothRead files m inputs x) (sym same) gives.2;
      }
