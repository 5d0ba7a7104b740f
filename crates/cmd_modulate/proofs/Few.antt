-- The bytes taken of the inputs, compared with the packets put.
use Rattle.std.proofs.Common.{◌≡◌, inl, inr, ℕ, ◌+◌, ◌*◌, ◌<◌, ◌≤◌, Bool, true, false, List, length, Option, Some, None, Result, Ok, Err, refl, ap, sym, subst, ◌∙◌, arith, length-drop}
use Rattle.std.specs.Prelude.{◌&&◌, ◌==◌, is_some, slice_index}
use Rattle.std.proofs.lemmas.Bool.{cases_lt, lt-ltb, false≢true}
use Rattle.std.proofs.lemmas.List.{drop_all}
use Rattle.station_core.specs.Meaning.{Meaning}
use Rattle.mode_set.specs.declared.modes.Stream.{Stream}
use Rattle.mode_set.specs.declared.modes.Stream.TheVariants.{Hp, Lp}
use Rattle.transmission.specs.Transmission.{Inputs, by_stream}
use Rattle.transmission.specs.Agenda.{packet_refusal}
use Rattle.transmission.specs.Agenda as agenda
use Rattle.cmd_base.specs.declared.refusal.Refusal.{Refusal}
use Rattle.cmd_base.specs.declared.refusal.Refusal.TheVariants.{Usage, Settings, ReadFault, WriteFault, NotSync, Memory, Limit, Cells}
use Rattle.cmd_base.specs.Packets.{accepted, is_accepted, is_sync, whole_packets}
use Rattle.cmd_base.proofs.Accepting.{accepted_from}
use Rattle.cmd_modulate.specs.declared.inputs.PacketInputs.{PacketInputs}
use Rattle.cmd_modulate.specs.declared.input.PacketInput.{PacketInput}
use Rattle.cmd_modulate.specs.ModulateCommand.{inputs_of}
use Rattle.cmd_modulate.specs.Inputs.{Gives, HasLeft, IsNear, Reads, ReadsAt, left_of, lp_left}
use Rattle.cmd_modulate.specs.Seen.{Seen}
use Rattle.cmd_modulate.specs.Work.{AreNear, BothRead, GivesOf, IsAtWork, TakeFew, TakesFew, TellsPut}
use Rattle.cmd_modulate.proofs.Refusing.{packet_within, refused_past, refused_unsynced}

-- ---- one input an input read so far is close to the packets put of it, and gives their number
near_of : (file left : List ℕ) (input : PacketInput) (put : ℕ) → Reads file left input put → IsNear file left put
near_of file left input put reads = go input.tail reads.rest
  where
    go : (o : Option ℕ) → HasLeft file left input.taken o put → IsNear file left put
    go None h = record {
      bytes = 188 * input.taken;
      packets = input.taken;
      few = omega arith;
      were_put = omega (arith, h.1);
      whole = omega (arith, reads.within);
      left_is = h.0;
    }
    go (Some tail) h = record {
      bytes = length file;
      packets = whole_packets file;
      few = omega arith;
      were_put = omega (arith, h.1, h.3);
      whole = omega arith;
      left_is = h.0 ∙ sym (drop_all (length file) file (omega arith));
    }

tells_of : (file left : List ℕ) (input : PacketInput) (put : ℕ) → Reads file left input put → TellsPut file left input put
tells_of file left input put reads = go input.tail refl reads.rest
  where
    go : (o : Option ℕ) → input.tail ≡ o → HasLeft file left input.taken o put → TellsPut file left input put
    go None e h = record {
      all = λ none. omega (arith, ap length h.0, length-drop (188 * input.taken) file, reads.within, h.1);
      most = omega (arith, ap length h.0, length-drop (188 * input.taken) file, reads.within, h.1);
      none = λ is. absurd (false≢true (sym (ap is_some e) ∙ is));
    }
    go (Some tail) e h = record {
      all = λ none. absurd (let x : Some tail ≡ None = sym e ∙ none in cc);
      most = omega (arith, ap length h.0, h.1, h.3);
      none = λ is. h.0;
    }

module _ (limit : ℕ) (files : Stream → List ℕ) (σ : Stream) where
  -- a packet that is not refused is accepted
  accepted_at : (p : ℕ) → p < whole_packets (files σ) → packet_refusal limit (inputs_of files) σ p ≡ None → is_accepted limit (files σ) p ≡ true
  accepted_at p within none = elim (cases_lt p limit) [
    | inl lt ↦ by_sync lt (is_sync (files σ) p) refl
    | inr ge ↦ absurd (let e : Some (agenda.Limit limit) ≡ None = sym (refused_past limit files σ p within ge) ∙ none in cc)
  ]
    where
      by_sync : p < limit → (b : Bool) → is_sync (files σ) p ≡ b → is_accepted limit (files σ) p ≡ true
      by_sync lt true e = ap (λ (x : Bool). x && is_sync (files σ) p) (lt-ltb p limit lt) ∙ e
      by_sync lt false e = absurd (
          let unsynced = ap (λ (l : List ℕ). slice_index l 0 == 0x47) (packet_within (files σ) p within) ∙ e in
          let x : Some (agenda.NotSync σ p) ≡ None = sym (refused_unsynced limit files σ p within lt unsynced) ∙ none in
          cc
          )

  bound : (k n a : ℕ) → k ≤ 188 * (n + 1) → n ≤ a → k ≤ 188 * (a + 1)
  bound k n a few l = omega (arith, few, l)

  few_of : (left : List ℕ) (put : ℕ) → IsNear (files σ) left put → ((p : ℕ) → p < put → packet_refusal limit (inputs_of files) σ p ≡ None) → TakesFew limit (files σ) left
  few_of left put near none =
      let all : near.packets ≤ accepted limit (files σ) =
      accepted_from limit (files σ) near.packets near.whole (λ i l. accepted_at i (omega (arith, l, near.whole)) (none i (omega (arith, l, near.were_put)))) in
      (near.bytes, bound near.bytes near.packets (accepted limit (files σ)) near.few all, near.left_is)

-- ---- both inputs
module _ (limit : ℕ) (files : Stream → List ℕ) (m : Meaning) (t : Seen) (none : (σ : Stream) (p : ℕ) → p < by_stream t.hp t.lp σ → packet_refusal limit (inputs_of files) σ p ≡ None) where
  pub few_near : AreNear files m t → TakeFew limit files (left_of m)
  few_near near = record {
    hp = few_of limit files Hp (left_of m Hp) t.hp near.hp (none Hp);
    lp = few_of limit files Lp (left_of m Lp) t.lp near.lp (none Lp);
  }

pub few_at_work : (limit : ℕ) (files : Stream → List ℕ) (m : Meaning) (inputs : PacketInputs) (t : Seen) (put : Inputs → Type 0) → IsAtWork limit files m inputs t put → TakeFew limit files (left_of m)
few_at_work limit files m inputs t put work = few_near limit files m t work.at.accepted (record {
  hp = near_of (files Hp) (left_of m Hp) inputs.hp t.hp work.read.hp;
  lp = near_of (files Lp) (left_of m Lp) inputs.lp t.lp work.read.lp;
})

-- ---- the next packet of a stream, with the other input unchanged
module _ (limit : ℕ) (files : Stream → List ℕ) (t : Seen) (m m' : Meaning) (inputs inputs' : PacketInputs) (read : BothRead files m inputs t) where
  module _ (reads : ReadsAt Hp m m') (same : inputs'.lp ≡ inputs.lp) where
    lp_read : Reads (files Lp) (left_of m' Lp) inputs'.lp t.lp
    lp_read = subst (λ (l : List ℕ). Reads (files Lp) l inputs'.lp t.lp) (sym (ap lp_left reads))
        (subst (λ (i : PacketInput). Reads (files Lp) (lp_left m) i t.lp) (sym same) read.lp)

    lp_near : IsNear (files Lp) (left_of m' Lp) t.lp
    lp_near = near_of (files Lp) (left_of m' Lp) inputs'.lp t.lp lp_read

    pub gives_of_hp : (r : Result (List ℕ) Refusal) → Gives limit files Hp t.hp (left_of m' Hp) inputs'.hp r → GivesOf limit files Hp t m' inputs' r
    gives_of_hp (Ok packet) g = (g.0, g.1, record { hp = g.2; lp = lp_read })
    gives_of_hp (Err ReadFault) g = (
      g.0,
      record {
        hp = record { all = λ none. g.1; most = omega (arith, g.1); none = λ is. absurd (false≢true (sym (ap is_some g.0) ∙ is)) };
        lp = tells_of (files Lp) (left_of m' Lp) inputs'.lp t.lp lp_read;
      },
      record { hp = g.2; lp = lp_near },
    )
    gives_of_hp (Err Usage) g = (g.0, record { hp = g.1; lp = lp_near })
    gives_of_hp (Err (Cells reason)) g = (g.0, record { hp = g.1; lp = lp_near })
    gives_of_hp (Err (Settings reason)) g = (g.0, record { hp = g.1; lp = lp_near })
    gives_of_hp (Err WriteFault) g = (g.0, record { hp = g.1; lp = lp_near })
    gives_of_hp (Err (NotSync σ p)) g = (g.0, record { hp = g.1; lp = lp_near })
    gives_of_hp (Err Memory) g = (g.0, record { hp = g.1; lp = lp_near })
    gives_of_hp (Err (Limit n)) g = (g.0, record { hp = g.1; lp = lp_near })

  module _ (reads : ReadsAt Lp m m') (same : inputs'.hp ≡ inputs.hp) where
    hp_read : Reads (files Hp) (left_of m' Hp) inputs'.hp t.hp
    hp_read = subst (λ (l : List ℕ). Reads (files Hp) l inputs'.hp t.hp) (sym (ap (λ (x : Meaning). x.hp.left) reads))
        (subst (λ (i : PacketInput). Reads (files Hp) m.hp.left i t.hp) (sym same) read.hp)

    hp_near : IsNear (files Hp) (left_of m' Hp) t.hp
    hp_near = near_of (files Hp) (left_of m' Hp) inputs'.hp t.hp hp_read

    pub gives_of_lp : (r : Result (List ℕ) Refusal) → Gives limit files Lp t.lp (left_of m' Lp) inputs'.lp r → GivesOf limit files Lp t m' inputs' r
    gives_of_lp (Ok packet) g = (g.0, g.1, record { hp = hp_read; lp = g.2 })
    gives_of_lp (Err ReadFault) g = (
      g.0,
      record {
        hp = tells_of (files Hp) (left_of m' Hp) inputs'.hp t.hp hp_read;
        lp = record { all = λ none. g.1; most = omega (arith, g.1); none = λ is. absurd (false≢true (sym (ap is_some g.0) ∙ is)) };
      },
      record { hp = hp_near; lp = g.2 },
    )
    gives_of_lp (Err Usage) g = (g.0, record { hp = hp_near; lp = g.1 })
    gives_of_lp (Err (Cells reason)) g = (g.0, record { hp = hp_near; lp = g.1 })
    gives_of_lp (Err (Settings reason)) g = (g.0, record { hp = hp_near; lp = g.1 })
    gives_of_lp (Err WriteFault) g = (g.0, record { hp = hp_near; lp = g.1 })
    gives_of_lp (Err (NotSync σ p)) g = (g.0, record { hp = hp_near; lp = g.1 })
    gives_of_lp (Err Memory) g = (g.0, record { hp = hp_near; lp = g.1 })
    gives_of_lp (Err (Limit n)) g = (g.0, record { hp = hp_near; lp = g.1 })
