-- The work from its first symbol to its end.
use Rattle.std.proofs.Common.{◌≡◌, inl, inr, ℕ, ◌+◌, ◌*◌, ◌<◌, ◌≤◌, List, [], length, Option, Some, None, Ok, refl, ap, sym, subst, ◌∙◌, arith}
use Rattle.std.specs.Prelude.{IsTrue, unwrap_or}
use Rattle.std.specs.Option.{option_map}
use Rattle.std.proofs.lemmas.Bool.{cases_lt}
use Rattle.station_core.specs.Meaning.{Meaning}
use Rattle.mode_set.specs.declared.modes.Stream.{Stream}
use Rattle.mode_set.specs.declared.modes.Stream.TheVariants.{Hp, Lp}
use Rattle.mode_set.specs.declared.settings.Settings.{Settings as TheSettings}
use Rattle.symbol_parameters.specs.Spans.{exists_in, words_before}
use Rattle.symbol_parameters.specs.Laws.{StreamsExist}
use Rattle.transmission.specs.Transmission.{Inputs, by_stream}
use Rattle.transmission.specs.SuperFrames.{AreSuperFrames, IsLength, counts_of, packets_for, super_frames, symbols_of}
use Rattle.transmission.specs.Agenda as agenda
use Rattle.transmission.specs.AgendaLaws.{EndsUnrefused, StopsAtLimit}
use Rattle.transmission.specs.Laws.{PacketsOfSuperFrames, TheNumberIsFound}
use Rattle.cmd_modulate.specs.declared.counts.TransmissionCounts.{TransmissionCounts}
use Rattle.cmd_base.specs.declared.refusal.Refusal.TheVariants.{Limit}
use Rattle.cmd_base.specs.Packets.{packets_of, tail_of, whole_packets}
use Rattle.cmd_modulate.specs.ModulateCommand.{inputs_of, refused_by, sent_by, transmission_counts, file_of_symbols}
use Rattle.cmd_modulate.specs.Inputs.{left_of}
use Rattle.cmd_base.proofs.FilePackets.{count_is}
use Rattle.cmd_modulate.specs.declared.inputs.PacketInputs.{PacketInputs}
use Rattle.cmd_modulate.specs.Inputs.{HasLeft}
use Rattle.cmd_modulate.specs.Seen.{Seen}
use Rattle.cmd_modulate.specs.Work.{CountsAt, Ends, IsDue, IsWritten, Modulates, TakeFew}
use Rattle.cmd_modulate.proofs.Few.{few_at_work}
use Rattle.cmd_modulate.proofs.Stopping.{cells_at}

-- ---- one input its end was reached
at_end : (file left : List ℕ) (taken put tail : ℕ) (o : Option ℕ) → o ≡ Some tail → HasLeft file left taken o put → (left ≡ []) × (taken ≡ whole_packets file) × (tail ≡ tail_of file)
at_end file left taken put tail o is h = let h' : HasLeft file left taken (Some tail) put = subst (λ (x : Option ℕ). HasLeft file left taken x put) is h in (h'.0, h'.1, h'.2)

-- it was not
all_put : (file left : List ℕ) (taken put : ℕ) (o : Option ℕ) → o ≡ None → HasLeft file left taken o put → put ≡ taken
all_put file left taken put o is h = let h' : HasLeft file left taken None put = subst (λ (x : Option ℕ). HasLeft file left taken x put) is h in h'.1

all_taken : (file left : List ℕ) (taken put : ℕ) (o : Option ℕ) → (o ≡ None → ⊥) → HasLeft file left taken o put → taken ≡ whole_packets file
all_taken file left taken put None some h = absurd (some refl)
all_taken file left taken put (Some tail) some h = h.1

within_file : (file : List ℕ) (taken : ℕ) → 188 * taken ≤ length file → taken ≤ whole_packets file
within_file file taken le = omega (arith, le)

-- ---- all of them
some_symbol : (n : ℕ) → 1 ≤ n → 0 < 272 * n
some_symbol n l = omega (arith, l)

-- its symbols, with an end or without
symbols_are : (s : TheSettings) (inputs : Inputs) (o : Option ℕ) → super_frames s (counts_of inputs) ≡ o → symbols_of s inputs ≡ unwrap_or (option_map (λ n. 272 * n) o) (s.max_symbols + 1)
unfolding symbols_of
symbols_are s inputs o e = ap (λ (x : Option ℕ). unwrap_or (option_map (λ n. 272 * n) x) (s.max_symbols + 1)) e

-- there is some symbol
begins_with : (s : TheSettings) (inputs : Inputs) (o : Option ℕ) → super_frames s (counts_of inputs) ≡ o → IsLength s (counts_of inputs) o → 0 < symbols_of s inputs
begins_with s inputs None e is = let all = symbols_are s inputs None e in omega (arith, all)
begins_with s inputs (Some n) e is = let all = symbols_are s inputs (Some n) e in let some = some_symbol n is.some in omega (arith, all, some)

pub begins : TheNumberIsFound → (s : TheSettings) (inputs : Inputs) → 0 < symbols_of s inputs
begins found s inputs = begins_with s inputs (super_frames s (counts_of inputs)) refl (found s (counts_of inputs))

-- all its symbols hold at least eleven packets more than its inputs
carried : PacketsOfSuperFrames → TheNumberIsFound → (s : TheSettings) (inputs : Inputs) (n : ℕ) (σ : Stream) → super_frames s (counts_of inputs) ≡ Some n → IsTrue (exists_in s σ)
    → length (inputs σ) + 11 ≤ packets_for s σ (symbols_of s inputs)
carried packets found s inputs n σ e has =
    let are : AreSuperFrames s (counts_of inputs) n = subst (IsLength s (counts_of inputs)) e (found s (counts_of inputs)) in
    let enough : length (inputs σ) + 11 ≤ words_before s σ n = are.suffices σ has in
    subst (λ (k : ℕ). length (inputs σ) + 11 ≤ k) (sym (ap (packets_for s σ) (symbols_are s inputs (Some n) e) ∙ packets s σ n)) enough

-- the super-frames for these numbers of packets
frames_of : (s : TheSettings) (a b c d : ℕ) → a ≡ c → b ≡ d → super_frames s (by_stream a b) ≡ super_frames s (by_stream c d)
frames_of s a b c d e f = ap (λ (x : ℕ). super_frames s (by_stream x b)) e ∙ ap (λ (x : ℕ). super_frames s (by_stream c x)) f

by_counts : (s : TheSettings) (files : Stream → List ℕ) → super_frames s (by_stream (length (packets_of (files Hp))) (length (packets_of (files Lp)))) ≡ super_frames s (counts_of (inputs_of files))
unfolding super_frames
by_counts s files = refl

frames_are : (s : TheSettings) (files : Stream → List ℕ) (a b : ℕ) → a ≡ whole_packets (files Hp) → b ≡ whole_packets (files Lp) → super_frames s (by_stream a b) ≡ super_frames s (counts_of (inputs_of files))
frames_are s files a b e f =
    frames_of s a b (length (packets_of (files Hp))) (length (packets_of (files Lp)))
    (e ∙ sym (count_is (whole_packets (files Hp)) (files Hp))) (f ∙ sym (count_is (whole_packets (files Lp)) (files Lp)))
    ∙ by_counts s files

module _ (limit : ℕ) (files : Stream → List ℕ) (m : Meaning) (inputs : PacketInputs) (t : Seen) (put : Inputs → Type 0) (w : IsWritten limit files m inputs t put) where
  few : TakeFew limit files (left_of m)
  few = few_at_work limit files m inputs t put w.work

  -- all inputs have ended, and their super-frames were sent
  pub ends_done : EndsUnrefused → (n : ℕ) (counts : TransmissionCounts) → t.made ≡ n → CountsAt t.settings inputs n (Some counts)
      → Modulates t.settings limit files m (Ok counts)
  ends_done ends n counts made c =
      let hp = at_end (files Hp) (left_of m Hp) inputs.hp.taken t.hp counts.hp.tail inputs.hp.tail c.0 w.work.read.hp.rest in
      let lp = at_end (files Lp) (left_of m Lp) inputs.lp.taken t.lp counts.lp.tail inputs.lp.tail c.2 w.work.read.lp.rest in
      let hp_packets : counts.hp.packets ≡ whole_packets (files Hp) = c.1 ∙ hp.1 in
      let lp_packets : counts.lp.packets ≡ whole_packets (files Lp) = c.3 ∙ lp.1 in
      let number : super_frames t.settings (counts_of (inputs_of files)) ≡ Some counts.super_frames = sym (frames_are t.settings files inputs.hp.taken inputs.lp.taken hp.1 lp.1) ∙ c.4 in
      let frames : counts.super_frames ≡ (transmission_counts t.settings files).super_frames = sym (ap (λ (o : Option ℕ). unwrap_or o 0) number) in
      let all : t.made ≡ symbols_of t.settings (inputs_of files) = made ∙ c.5 ∙ sym (symbols_are t.settings (inputs_of files) (Some counts.super_frames) number) in
      let through = ends t.settings limit (inputs_of files) t.made t.hp t.lp w.work.at all in (
        (λ i. record { hp = record { packets = hp_packets i; tail = hp.2 i }; lp = record { packets = lp_packets i; tail = lp.2 i }; super_frames = frames i }),
        hp.0,
        lp.0,
        ap (option_map refused_by) through.none,
        w.written ∙ ap (file_of_symbols t.settings (inputs_of files)) all ∙ sym (ap (sent_by t.settings limit (inputs_of files)) through.none),
        few,
      )

  -- the limit of symbols is exceeded
  pub ends_at_limit : StopsAtLimit → (most : ℕ) → t.settings.max_symbols ≡ most → most ≤ t.made → t.made < symbols_of t.settings (inputs_of files) → Ends t.settings limit files m (Limit most) × TakeFew limit files (left_of m)
  ends_at_limit at_limit most is past more =
      let stops = at_limit t.settings limit (inputs_of files) t.made t.hp t.lp w.work.at more (omega (arith, is, past)) in (
        (
          ap (option_map refused_by) stops.first ∙ ap (λ (n : ℕ). Some (Limit n)) is,
          w.written ∙ sym (cells_at t.settings limit (inputs_of files) (agenda.Limit t.settings.max_symbols) t.made stops),
        ),
        few,
      )

  -- the transmission continues
  module _ (packets : PacketsOfSuperFrames) (found : TheNumberIsFound) (exist : StreamsExist) (two : inputs.lp.tail ≡ None → IsTrue (exists_in t.settings Lp)) where
    apart : (a b c d e : ℕ) → a + 11 ≤ b → b ≤ c → c ≡ d → d ≤ e → e ≡ a → ⊥
    apart a b c d e l l' p l'' q = omega (arith, l, l', p, l'', q)

    -- at the end of the last super-frame
    module _ (n : ℕ) (number : super_frames t.settings (counts_of (inputs_of files)) ≡ Some n) (all : t.made ≡ symbols_of t.settings (inputs_of files)) where
      put_at : (σ : Stream) → packets_for t.settings σ t.made ≤ by_stream t.hp t.lp σ → packets_for t.settings σ (symbols_of t.settings (inputs_of files)) ≤ by_stream t.hp t.lp σ
      put_at σ l = subst (λ (k : ℕ). packets_for t.settings σ k ≤ by_stream t.hp t.lp σ) all l

      hp_ended : inputs.hp.tail ≡ None → ⊥
      hp_ended none =
          apart (length (packets_of (files Hp))) (packets_for t.settings Hp (symbols_of t.settings (inputs_of files))) t.hp inputs.hp.taken (whole_packets (files Hp))
          (carried packets found t.settings (inputs_of files) n Hp number (exist t.settings Hp refl)) (put_at Hp w.work.at.hp_least)
          (all_put (files Hp) (left_of m Hp) inputs.hp.taken t.hp inputs.hp.tail none w.work.read.hp.rest)
          (within_file (files Hp) inputs.hp.taken w.work.read.hp.within) (sym (count_is (whole_packets (files Hp)) (files Hp)))

      lp_ended : inputs.lp.tail ≡ None → ⊥
      lp_ended none =
          apart (length (packets_of (files Lp))) (packets_for t.settings Lp (symbols_of t.settings (inputs_of files))) t.lp inputs.lp.taken (whole_packets (files Lp))
          (carried packets found t.settings (inputs_of files) n Lp number (two none)) (put_at Lp w.work.at.lp_least)
          (all_put (files Lp) (left_of m Lp) inputs.lp.taken t.lp inputs.lp.tail none w.work.read.lp.rest)
          (within_file (files Lp) inputs.lp.taken w.work.read.lp.within) (sym (count_is (whole_packets (files Lp)) (files Lp)))

      frames_sent : super_frames t.settings (by_stream inputs.hp.taken inputs.lp.taken) ≡ Some n
      frames_sent =
          frames_are t.settings files inputs.hp.taken inputs.lp.taken
          (all_taken (files Hp) (left_of m Hp) inputs.hp.taken t.hp inputs.hp.tail hp_ended w.work.read.hp.rest)
          (all_taken (files Lp) (left_of m Lp) inputs.lp.taken t.lp inputs.lp.tail lp_ended w.work.read.lp.rest)
          ∙ number

      not_all : (k : ℕ) → t.made ≡ k → CountsAt t.settings inputs k None → ⊥
      not_all k made c = elim c [
        | inl none ↦ hp_ended none
        | inr d ↦ elim d [ inl none ↦ lp_ended none | inr differs ↦ differs n frames_sent (sym made ∙ all ∙ symbols_are t.settings (inputs_of files) (Some n) number) ]
      ]

    -- endless work reaches its limit first
    not_ended : (o : Option ℕ) → super_frames t.settings (counts_of (inputs_of files)) ≡ o → t.made ≡ symbols_of t.settings (inputs_of files) → (k : ℕ) → t.made ≡ k → CountsAt t.settings inputs k None → ⊥
    not_ended None number all k made c = let past = all ∙ symbols_are t.settings (inputs_of files) None number in let few = w.work.at.within in omega (arith, past, few)
    not_ended (Some n) number all k made c = not_all n number all k made c

    less : (a b : ℕ) → a ≤ b → (a ≡ b → ⊥) → a < b
    less a b l differs = elim (cases_lt a b) [ inl lt ↦ lt | inr ge ↦ absurd (differs (omega (arith, l, ge))) ]

    pub goes_further : (n : ℕ) → t.made ≡ n → CountsAt t.settings inputs n None → t.made ≤ symbols_of t.settings (inputs_of files) → t.made < symbols_of t.settings (inputs_of files)
    goes_further n made c le = less t.made (symbols_of t.settings (inputs_of files)) le (λ all. not_ended (super_frames t.settings (counts_of (inputs_of files))) refl all n made c)

-- ---- the loop over the symbols, in terms of the transmitter before it and now
pub due_more : (files : Stream → List ℕ) (t t' : Seen) (n : ℕ) → t'.settings ≡ t.settings → t'.made ≡ n → n < symbols_of t.settings (inputs_of files) → t'.made < symbols_of t'.settings (inputs_of files)
due_more files t t' n settings made more =
    subst (λ (s : TheSettings). t'.made < symbols_of s (inputs_of files)) (sym settings) (subst (λ (k : ℕ). k < symbols_of t.settings (inputs_of files)) (sym made) more)

pub due_at : (files : Stream → List ℕ) (t t' : Seen) (n most : ℕ) → t'.settings ≡ t.settings → t'.made ≡ n → t.settings.max_symbols ≡ most → n < symbols_of t.settings (inputs_of files) → n < most → IsDue files t'
due_at files t t' n most settings made is more within = record {
  more = due_more files t t' n settings made more;
  within = omega (arith, made, within, is, ap (λ (s : TheSettings). s.max_symbols) settings);
}

at_most : (a b c : ℕ) → a ≡ b + 1 → b < c → a ≤ c
at_most a b c e l = omega (arith, e, l)

-- the next symbol is one of the transmission again
pub more_again : PacketsOfSuperFrames → TheNumberIsFound → StreamsExist → (limit : ℕ) (files : Stream → List ℕ) (m : Meaning) (inputs : PacketInputs) (t t' : Seen) (put : Inputs → Type 0)
    → IsWritten limit files m inputs t' put → (n : ℕ) → t'.settings ≡ t.settings → t'.made ≡ n + 1 → CountsAt t'.settings inputs (n + 1) None → n < symbols_of t.settings (inputs_of files)
    → (inputs.lp.tail ≡ None → IsTrue (exists_in t.settings Lp)) → n + 1 < symbols_of t.settings (inputs_of files)
more_again packets found exist limit files m inputs t t' put w n settings made counts more two =
    let two' : inputs.lp.tail ≡ None → IsTrue (exists_in t'.settings Lp) = λ none. subst (λ (s : TheSettings). IsTrue (exists_in s Lp)) (sym settings) (two none) in
    let more' : n < symbols_of t'.settings (inputs_of files) = subst (λ (s : TheSettings). n < symbols_of s (inputs_of files)) (sym settings) more in
    let le : t'.made ≤ symbols_of t'.settings (inputs_of files) = at_most t'.made n (symbols_of t'.settings (inputs_of files)) made more' in
    let on : t'.made < symbols_of t'.settings (inputs_of files) = goes_further limit files m inputs t' put w packets found exist two' (n + 1) made counts le in
    subst (λ (k : ℕ). k < symbols_of t.settings (inputs_of files)) made (subst (λ (s : TheSettings). t'.made < symbols_of s (inputs_of files)) settings on)
