-- The state of a stream, from symbol to symbol.
use Rattle.std.proofs.Common.{◌≡◌, ℕ, suc, ◌+◌, ◌*◌, ◌^◌, ◌<◌, ◌≤◌, Bool, List, [], ◌∷◌, ◌++◌, length, refl, sym, ap, ◌∙◌, subst, arith, length-append, append_assoc}
use Rattle.std.specs.Prelude.{Option, All}
use Rattle.std.proofs.lemmas.List.Elements.{All-nil, All-append, All-head, All-tail}
use Rattle.spec_words.specs.Bits.{spelled}
use Rattle.bit_pack.specs.Queue.{bits_of_bytes}
use Rattle.code_paths.specs.declared.costs.CostPair.{CostPair}
use Rattle.inner_decoder.specs.Events.{ats}
use Rattle.inner_decoder.specs.declared.decoder.Unmerged.{Unmerged}
use Rattle.inner_decoder.specs.Seen.{DecoderState}
use Rattle.inner_decoder.specs.Running.{BranchState}
use Rattle.outer_chain.specs.Bits.{bytes_of, ByteOfBits}
use Rattle.outer_chain.specs.Receiving.{Receiver}
use Rattle.outer_chain.specs.Running.{Finished, AllFinished, no_words}
use Rattle.outer_chain.specs.Words.{Tally, Packets, Tallies, word_count}
use Rattle.rx_report.specs.declared.counts.StreamCounts.{StreamCounts}
use Rattle.reception.specs.Streams.{Moment, so_far, at_end}
use Rattle.reception.specs.Lines.{stream_counts}
use Rattle.receiver.specs.Seen.{StreamState}
use Rattle.receiver.specs.Words.{Gives, AreFew}
use Rattle.receiver.specs.Ready.{IsReady, MayGive, IsKeptStream}
use Rattle.receiver.specs.declared.stream.StreamRx.{StreamRx}
use Rattle.receiver.proofs.Pending.{few_more}
use Rattle.inner_receiver.specs.Branches.{HasGiven, HasTaken, HasEnded}
use Rattle.word_workers.specs.Symbols.{MayRunOver}
use Rattle.receiver.specs.Standing.{StreamStands, StreamGave}

bits_append : (a b : List ℕ) → bits_of_bytes (a ++ b) ≡ bits_of_bytes a ++ bits_of_bytes b
bits_append [] b = refl
bits_append (x ∷ a) b = ap (λ z. spelled 8 x ++ z) (bits_append a b) ∙ sym (append_assoc (spelled 8 x) (bits_of_bytes a) (bits_of_bytes b))

no_bytes : (w : List Bool) → length w < 8 → bytes_of w ≡ []
unfolding bytes_of
no_bytes [] l = refl
no_bytes (a ∷ []) l = refl
no_bytes (a ∷ b ∷ []) l = refl
no_bytes (a ∷ b ∷ c ∷ []) l = refl
no_bytes (a ∷ b ∷ c ∷ d ∷ []) l = refl
no_bytes (a ∷ b ∷ c ∷ d ∷ e ∷ []) l = refl
no_bytes (a ∷ b ∷ c ∷ d ∷ e ∷ f ∷ []) l = refl
no_bytes (a ∷ b ∷ c ∷ d ∷ e ∷ f ∷ g ∷ []) l = refl
no_bytes (a ∷ b ∷ c ∷ d ∷ e ∷ f ∷ g ∷ h ∷ w) l = absurd (omega (arith, l))

-- the whole bytes of the bits of bytes and of fewer than eight more
bytes_back : ByteOfBits → (bytes : List ℕ) (w : List Bool) → All (λ b. b < 256) bytes → length w < 8 → bytes_of (bits_of_bytes bytes ++ w) ≡ bytes
bytes_back one [] w s l = no_bytes w l
bytes_back one (b ∷ bytes) w s l =
    ap bytes_of (append_assoc (spelled 8 b) (bits_of_bytes bytes) w) ∙ one b (bits_of_bytes bytes ++ w) (All-head (λ b. b < 256) b bytes s)
    ∙ ap (λ z. b ∷ z) (bytes_back one bytes w (All-tail (λ b. b < 256) b bytes s) l)

-- the bytes written for a stream are the packets of its bits, and so are its counts
pub received : ByteOfBits → AllFinished → (moment : Moment) (x : StreamState) (a : Option (List Bool)) (c : List CostPair) (given : List ℕ) (tally : Tally) (steps : List ℕ) → (h : StreamStands moment x a c given tally steps)
    → Packets (bytes_of h.bits) given × Tallies (bytes_of h.bits) tally
received one all moment x a c given tally steps h =
    let same : h.bytes ≡ bytes_of h.bits = sym (ap bytes_of h.taken ∙ bytes_back one h.bytes x.branch.wait h.small h.few) in
    let both = all x.outer h.bytes given tally h.finished in
    (subst (λ z. Packets z given) same both.0, subst (λ z. Tallies z tally) same both.1)

-- bits given and new bits divide into bytes and the bits left
rejoined : (bits : List Bool) (bytes more : List ℕ) (wait came all left : List Bool) → bits ≡ bits_of_bytes bytes ++ wait → all ≡ wait ++ came → all ≡ bits_of_bytes more ++ left → bits ++ came ≡ bits_of_bytes (bytes ++ more) ++ left
rejoined bits bytes more wait came all left e f g =
    ap (λ z. z ++ came) e ∙ append_assoc (bits_of_bytes bytes) wait came ∙ ap (λ z. bits_of_bytes bytes ++ z) (sym f ∙ g)
    ∙ sym (append_assoc (bits_of_bytes bytes) (bits_of_bytes more) left) ∙ ap (λ z. z ++ left) (sym (bits_append bytes more))

-- one more symbol: its pairs were run, and the new bits passed on
pub symbol_gave : (old ran new : BranchState) (outer next : Receiver) (before between after : StreamCounts) (xs : List CostPair) (to more : List ℕ)
    → HasTaken xs old ran → new ≡ record ran { wait = new.wait } → length new.wait < 8
    → ((bytes given : List ℕ) (tally : Tally) → Finished outer bytes given tally (word_count bytes) → Gives ran.wait new.wait next bytes given tally to more before between)
    → after ≡ record between { unmerged = between.unmerged + length (ats ran.events) }
    → (a : Option (List Bool)) (c : List CostPair) (given : List ℕ) (tally : Tally) (steps : List ℕ) → StreamStands so_far (record { branch = old; outer = outer; counts = before }) a c given tally steps
    → StreamGave so_far (record { branch = new; outer = next; counts = after }) a (c ++ xs) given (steps ++ ats ran.events) to more
symbol_gave old ran new outer next before between after xs to more run rest few give counts a c given tally steps h =
    let r = run.gave a c h.bits steps h.has_given in
    let g = give h.bytes given tally h.finished in
    record {
      written = g.written;
      is = g.is;
      tally = g.now;
      stands = record {
        bits = h.bits ++ r.more;
        has_given = subst (λ (z : DecoderState). HasGiven so_far z a (c ++ xs) (h.bits ++ r.more) (steps ++ ats ran.events)) (sym (ap (λ (z : BranchState). z.decoder) rest)) r.given;
        loaded = ap (λ (z : BranchState). z.loaded) rest ∙ run.loaded;
        bytes = h.bytes ++ g.more;
        taken = rejoined h.bits h.bytes g.more old.wait r.more ran.wait new.wait h.taken r.appended g.bits;
        few = few;
        small = All-append (λ b. b < 256) h.bytes g.more h.small g.small;
        finished = g.finished;
        counts = counts ∙ ap (λ (z : StreamCounts). record z { unmerged = z.unmerged + length (ats ran.events) }) (g.counts (length steps) h.counts)
            ∙ ap (stream_counts g.now) (sym (length-append steps (ats ran.events)));
      };
    }

-- the end: the rest was decoded and passed on
pub finish_gave : (old ended new : BranchState) (outer next : Receiver) (before after : StreamCounts) (to more : List ℕ)
    → HasEnded old ended → new ≡ record ended { wait = new.wait } → length new.wait < 8
    → ((bytes given : List ℕ) (tally : Tally) → Finished outer bytes given tally (word_count bytes) → Gives ended.wait new.wait next bytes given tally to more before after)
    → (a : Option (List Bool)) (c : List CostPair) (given : List ℕ) (tally : Tally) (steps : List ℕ) → StreamStands so_far (record { branch = old; outer = outer; counts = before }) a c given tally steps
    → StreamGave at_end (record { branch = new; outer = next; counts = after }) a c given steps to more
finish_gave old ended new outer next before after to more finish rest few give a c given tally steps h =
    let f = finish.gave a c h.bits steps h.has_given in
    let g = give h.bytes given tally h.finished in
    record {
      written = g.written;
      is = g.is;
      tally = g.now;
      stands = record {
        bits = h.bits ++ f.more;
        has_given = subst (λ (z : DecoderState). HasGiven at_end z a c (h.bits ++ f.more) steps) (sym (ap (λ (z : BranchState). z.decoder) rest)) f.given;
        loaded = ap (λ (z : BranchState). z.loaded) rest ∙ finish.loaded;
        bytes = h.bytes ++ g.more;
        taken = rejoined h.bits h.bytes g.more old.wait f.more ended.wait new.wait h.taken f.appended g.bits;
        few = few;
        small = All-append (λ b. b < 256) h.bytes g.more h.small g.small;
        finished = g.finished;
        counts = g.counts (length steps) h.counts;
      };
    }

-- at the start
pub nothing_stands : (x : StreamState) (a : Option (List Bool)) → HasGiven so_far x.branch.decoder a [] [] [] → x.branch.loaded ≡ [] → x.branch.wait ≡ [] → Finished x.outer [] [] no_words 0
    → x.counts ≡ stream_counts no_words 0 → StreamStands so_far x a [] [] no_words []
nothing_stands x a given loaded wait finished counts = record {
  bits = [];
  has_given = given;
  loaded = loaded;
  bytes = [];
  taken = sym wait;
  few = omega (arith, ap length wait);
  small = All-nil (λ b. b < 256);
  finished = finished;
  counts = counts;
}

pub length_ats : (es : List Unmerged) → length (ats es) ≡ length es
length_ats [] = refl
length_ats (e ∷ es) = ap suc (length_ats es)

-- ---- the invariant of a stream

pub may_take : (x : StreamRx) (xs : List CostPair) (taken : ℕ) → IsKeptStream x taken → taken < 2 ^ 32 → length xs ≤ 31752 → MayRunOver xs x.branch
may_take x xs taken h l few = record {
  going = h.ready.going;
  loaded = h.ready.loaded;
  wait = h.ready.wait;
  few = few;
  steps = omega (arith, h.steps_were, l);
}

pub may_give : (x : StreamRx) (ran : BranchState) (xs : List CostPair) → IsReady x → HasTaken xs x.branch ran → MayGive (record x { branch = ran })
may_give x ran xs h run = record { going = run.going; loaded = run.loaded; none = h.none; slots = h.slots; started = h.started }

pub keeps : (x y : StreamRx) (ran : BranchState) (xs : List CostPair) (taken : ℕ) → IsKeptStream x taken → length xs ≤ 31752 → HasTaken xs x.branch ran
    → y.branch ≡ record ran { wait = y.branch.wait } → IsReady y → ((n : ℕ) → AreFew x.counts n → AreFew y.counts (n + 40)) → IsKeptStream y (taken + 1)
keeps x y ran xs taken h long run rest ready few = record {
  ready = ready;
  steps_were = omega (arith, ap (λ (z : BranchState). z.decoder.steps) rest, run.steps, long, h.steps_were);
  counts = few_more _ (40 * taken + 40) (40 * (taken + 1)) (omega arith) (few (40 * taken) h.counts);
}

-- at the start
pub first_kept : (x : StreamRx) (taken : ℕ) → IsReady x → x.branch.decoder.steps ≡ 0 → AreFew x.counts 0 → IsKeptStream x taken
first_kept x taken ready none counts = record { ready = ready; steps_were = omega (arith, none); counts = few_more _ 0 (40 * taken) (omega arith) counts }
