-- Words to be finished, and their packets.
use Rattle.std.proofs.Common.{◌≡◌, ℕ, ◌+◌, ◌-◌, ◌*◌, ◌%◌, ◌<◌, ◌≤◌, Bool, not, cond, inl, inr, ◌⊎◌, List, [], ◌∷◌, ◌++◌, length, get_or, refl, sym, ap, ap₂, ◌∙◌, subst, arith, length-append, append_assoc, append-nil}
use Rattle.std.specs.Prelude.{All, Option, Some, None, is_some}
use Rattle.std.proofs.lemmas.Bool.{cases_lt}
use Rattle.std.proofs.lemmas.List.{get_or_append_left, get_or_default}
use Rattle.std.proofs.Math.Seq.{get_or-append_seam}
use Rattle.std.proofs.lemmas.List.Elements.{All-nil, All-append}
use Rattle.spec_words.specs.Bits.{spelled}
use Rattle.bit_pack.specs.Queue.{bits_of_bytes}
use Rattle.rs204.specs.Decoded.{Decoded}
use Rattle.rs204.specs.declared.outcome.Outcome.{Outcome}
use Rattle.inner_decoder.specs.Running.{BranchState}
use Rattle.outer_chain.specs.declared.slot.WordSlot.{WordSlot}
use Rattle.outer_chain.specs.Receiving.{Receiver, Receives, EndsWord, undecoded}
use Rattle.outer_chain.specs.Nears.{near_of}
use Rattle.outer_chain.specs.Running as running
use Rattle.outer_chain.specs.Running.{Finished, TookBytes, FinishedWord, WordStays, bytes_given, is_clean_outcome, is_corrected_outcome, is_bad_outcome}
use Rattle.outer_chain.specs.Words.{Tally, word_at, word_count, phase_of, given_packet, has}
use Rattle.rx_report.specs.declared.counts.StreamCounts.{StreamCounts}
use Rattle.reception.specs.Lines.{stream_counts}
use Rattle.receiver.specs.Words.{AreWords, AreDecoded, DecodesAll, Took, Passed, Collected, counted, Wrote, Gives, AreFew}

-- ---- more bytes of a word

finished_more : TookBytes → (old new : Receiver) (bytes more given : List ℕ) (tally : Tally) (done : ℕ) → Finished old bytes given tally done → ((z : List ℕ) → Receives old z → Receives new (z ++ more)) → new.phase ≡ old.phase → Finished new (bytes ++ more) given tally done
finished_more took old new bytes more given tally done h stands phase = took old new bytes more given tally done h (stands bytes h.receives) phase

took_word : TookBytes → WordStays → (old new : Receiver) (bytes more given : List ℕ) (tally : Tally) (done : ℕ) (before after : List WordSlot) (slot : WordSlot) → Finished old bytes given tally done → 0 < length more → length bytes % 204 + length more ≤ 204
    → ((z : List ℕ) → Receives old z → Receives new (z ++ more)) → new.phase ≡ old.phase → EndsWord (bytes ++ more) → slot.word ≡ word_at (bytes ++ more) (word_count (bytes ++ more) - 1) → after ≡ before ++ slot ∷ []
    → Took new more bytes given tally done before after
took_word took stay old new bytes more given tally done before after slot h some short stands phase ends word is =
    let longer : length after ≡ length before + 1 = ap length is ∙ length-append before (slot ∷ []) in
    record {
      finished = finished_more took old new bytes more given tally done h stands phase;
      all = λ e. omega (arith, e, longer, one);
      words = λ e w i d l. go e w i d l (cases_lt i (length before));
    }
  where
    one : word_count (bytes ++ more) ≡ word_count bytes + 1
    one = omega (arith, length-append bytes more, ends.0, ends.1, some, short)

    go : done + length before ≡ word_count bytes → AreWords bytes done before → (i : ℕ) (d : WordSlot) → i < length after → (i < length before) ⊎ (length before ≤ i) → (get_or after i d).word ≡ word_at (bytes ++ more) (done + i)
    go e w i d l (inl k) =
        ap (λ (z : List WordSlot). (get_or z i d).word) is ∙ ap (λ (z : WordSlot). z.word) (get_or_append_left before (slot ∷ []) d i k)
        ∙ w i d k ∙ sym (stay bytes more (done + i) (omega (arith, e, k)))
    go e w i d l (inr k) =
        let here : i ≡ length before = omega (arith, l, k, ap length is, length-append before (slot ∷ [])) in
        let last : word_count (bytes ++ more) - 1 ≡ done + i = omega (arith, here, e, one) in
        ap₂ (λ (z : List WordSlot) (j : ℕ). (get_or z j d).word) is here ∙ ap (λ (z : WordSlot). z.word) (get_or-append_seam before slot [] d) ∙ word ∙ ap (word_at (bytes ++ more)) last

took_none : TookBytes → WordStays → (old new : Receiver) (bytes more given : List ℕ) (tally : Tally) (done : ℕ) (before after : List WordSlot) → Finished old bytes given tally done → length bytes % 204 + length more ≤ 204
    → ((z : List ℕ) → Receives old z → Receives new (z ++ more)) → new.phase ≡ old.phase → (EndsWord (bytes ++ more) → ⊥) → after ≡ before → Took new more bytes given tally done before after
took_none took stay old new bytes more given tally done before after h short stands phase none is =
    let same : word_count (bytes ++ more) ≡ word_count bytes = go (cases_lt (word_count bytes) (word_count (bytes ++ more))) in
    record {
      finished = finished_more took old new bytes more given tally done h stands phase;
      all = λ e. ap (λ (z : List WordSlot). done + length z) is ∙ e ∙ sym same;
      words = λ e w. subst (AreWords (bytes ++ more) done) (sym is) (λ i d l. w i d l ∙ sym (stay bytes more (done + i) (omega (arith, e, l))));
    }
  where
    go : (word_count bytes < word_count (bytes ++ more)) ⊎ (word_count (bytes ++ more) ≤ word_count bytes) → word_count (bytes ++ more) ≡ word_count bytes
    go (inl k) = absurd (none (omega (arith, k, short, length-append bytes more), omega (arith, k)))
    go (inr k) = omega (arith, k, length-append bytes more)

ends_or : (bytes : List ℕ) → EndsWord bytes ⊎ (EndsWord bytes → ⊥)
ends_or bytes = go (cases_lt 0 (length bytes % 204)) (cases_lt 0 (word_count bytes))
  where
    go : (0 < length bytes % 204) ⊎ (length bytes % 204 ≤ 0) → (0 < word_count bytes) ⊎ (word_count bytes ≤ 0) → EndsWord bytes ⊎ (EndsWord bytes → ⊥)
    go (inl l) w = inr (λ e. omega (arith, l, e.0))
    go (inr l) (inl w) = inl (omega (arith, l), w)
    go (inr l) (inr w) = inr (λ e. omega (arith, w, e.1))

-- the word that the bytes complete, or none, was appended to the slots
pub took_put : TookBytes → WordStays → (old new : Receiver) (bytes more given : List ℕ) (tally : Tally) (done : ℕ) (before after : List WordSlot) → Finished old bytes given tally done → 0 < length more → old.next % 204 + length more ≤ 204
    → ((z : List ℕ) → Receives old z → Receives new (z ++ more)) → new.phase ≡ old.phase
    → ((z : List ℕ) → Receives old z → EndsWord (z ++ more) → after ≡ before ++ undecoded (z ++ more) (word_count (z ++ more) - 1) ∷ [])
    → ((z : List ℕ) → Receives old z → (EndsWord (z ++ more) → ⊥) → after ≡ before) → Took new more bytes given tally done before after
took_put took stay old new bytes more given tally done before after h some within stands phase word none = go (ends_or (bytes ++ more))
  where
    short : length bytes % 204 + length more ≤ 204
    short = omega (arith, within, h.receives.next)

    go : EndsWord (bytes ++ more) ⊎ (EndsWord (bytes ++ more) → ⊥) → Took new more bytes given tally done before after
    go (inl e) = took_word took stay old new bytes more given tally done before after (undecoded (bytes ++ more) (word_count (bytes ++ more) - 1)) h some short stands phase e refl (word bytes h.receives e)
    go (inr n) = took_none took stay old new bytes more given tally done before after h short stands phase n (none bytes h.receives n)

-- ---- the bytes of a symbol

bits_join : (some more : List ℕ) → bits_of_bytes (some ++ more) ≡ bits_of_bytes some ++ bits_of_bytes more
bits_join [] more = refl
bits_join (b ∷ some) more = ap (λ z. spelled 8 b ++ z) (bits_join some more) ∙ sym (append_assoc (spelled 8 b) (bits_of_bytes some) (bits_of_bytes more))

pub all_bytes : (bytes : List ℕ) → ((k : ℕ) → get_or bytes k 0 < 256) → All (λ b. b < 256) bytes
all_bytes bytes small k d l = subst (λ z. z < 256) (get_or_default bytes k 0 d l) (small k)

pub collected_none : (wait : List Bool) (bytes given : List ℕ) (tally : Tally) (outer : Receiver) (slots : List WordSlot) → slots ≡ [] → Finished outer bytes given tally (word_count bytes) → Collected wait bytes given tally (word_count bytes) 0 outer wait slots
collected_none wait bytes given tally outer slots none h = record {
  more = [];
  long = refl;
  bits = refl;
  small = All-nil (λ b. b < 256);
  finished = subst (λ z. Finished outer z given tally (word_count bytes)) (sym (append-nil bytes)) h;
  all = omega (arith, ap length none, ap word_count (append-nil bytes));
  words = λ i d l. absurd (omega (arith, l, ap length none));
}

pub collected_more : (wait left next : List Bool) (bytes given : List ℕ) (tally : Tally) (done k number : ℕ) (outer new : Receiver) (slots more_slots : List WordSlot) → Collected wait bytes given tally done k outer left slots
    → ((z out : List ℕ) (t : Tally) (n : ℕ) → Finished outer z out t n → Passed left next number new z out t n slots more_slots) → Collected wait bytes given tally done (k + number) new next more_slots
collected_more wait left next bytes given tally done k number outer new slots more_slots h pass =
    let p = pass (bytes ++ h.more) given tally done h.finished in
    let e : (bytes ++ h.more) ++ p.more ≡ bytes ++ (h.more ++ p.more) = append_assoc bytes h.more p.more in
    record {
      more = h.more ++ p.more;
      long = length-append h.more p.more ∙ (omega (arith, h.long, p.long));
      bits = h.bits ∙ ap (λ z. bits_of_bytes h.more ++ z) p.bits ∙ sym (append_assoc (bits_of_bytes h.more) (bits_of_bytes p.more) next) ∙ ap (λ z. z ++ next) (sym (bits_join h.more p.more));
      small = All-append (λ b. b < 256) h.more p.more h.small p.small;
      finished = subst (λ z. Finished new z given tally done) e p.took.finished;
      all = p.took.all h.all ∙ ap word_count e;
      words = subst (λ z. AreWords z done more_slots) e (p.took.words h.all h.words);
    }

pub few_words : (wait left : List Bool) (bytes given : List ℕ) (tally : Tally) (k : ℕ) (outer : Receiver) (slots : List WordSlot) → k ≤ 4608 → Collected wait bytes given tally (word_count bytes) k outer left slots → length slots < 24
few_words wait left bytes given tally k outer slots l h = omega (arith, l, h.all, h.long, length-append bytes h.more)

-- ---- words are finished

has_packet : (phase : Option ℕ) (word : List ℕ) (near : Option (List ℕ)) → is_some (given_packet phase word near) ≡ has phase
has_packet None word near = refl
has_packet (Some f) word near = refl

counted_stream : (tally : Tally) (unmerged : ℕ) (outcome : Outcome) (phase : Option ℕ) (phased : Bool) → phased ≡ has phase → counted (stream_counts tally unmerged) outcome phased ≡ stream_counts (running.counted tally outcome phase) unmerged
counted_stream tally unmerged outcome phase phased e =
    made _ _ _ _ _ _ _ _ _ _ (turned tally.clean (cond (is_clean_outcome outcome) 1 0)) (turned tally.corrected (cond (is_corrected_outcome outcome) 1 0)) (turned tally.bad (cond (is_bad_outcome outcome) 1 0))
    (ap (λ (b : Bool). tally.unphased + cond (not b) 1 0) e ∙ turned tally.unphased (cond (not (has phase)) 1 0))
  where
    turned : (a b : ℕ) → a + b ≡ b + a
    turned a b = omega arith

    made : (w u a b c d a2 b2 c2 d2 : ℕ) → a ≡ a2 → b ≡ b2 → c ≡ c2 → d ≡ d2 → (let s : StreamCounts = record { words = w; clean = a; corrected = b; bad = c; unphased = d; unmerged = u } in s) ≡ record { words = w; clean = a2; corrected = b2; bad = c2; unphased = d2; unmerged = u }
    made w u a b c d a2 b2 c2 d2 e f g h = cc

pub word_wrote : FinishedWord → (old new : Receiver) (slot : WordSlot) (packet : Option (List ℕ)) (before after : StreamCounts) (to more : List ℕ) (bytes given : List ℕ) (tally : Tally) (done : ℕ)
    → ((z : List ℕ) → Receives old z → Receives new z) → new.phase ≡ phase_of (near_of slot.outcome slot.word) old.phase → packet ≡ given_packet new.phase slot.word (near_of slot.outcome slot.word)
    → after ≡ counted before slot.outcome (is_some packet) → more ≡ to ++ bytes_given packet
    → Finished old bytes given tally done → done < word_count bytes → Decoded (word_at bytes done) slot.word slot.outcome → Wrote new bytes given (done + 1) to more before after tally
word_wrote finished old new slot packet before after to more bytes given tally done stands phase is counts w h l d = record {
  written = bytes_given packet;
  is = w;
  now = running.counted tally slot.outcome new.phase;
  finished = finished old new bytes given (given ++ bytes_given packet) slot.word tally slot.outcome done h l (stands bytes h.receives) d phase (ap (λ z. given ++ bytes_given z) is);
  counts = λ u e. counts ∙ ap (λ (z : StreamCounts). counted z slot.outcome (is_some packet)) e ∙ counted_stream tally u slot.outcome new.phase (is_some packet) (ap is_some is ∙ has_packet new.phase slot.word (near_of slot.outcome slot.word));
}

pub wrote_none : (outer : Receiver) (bytes given to : List ℕ) (counts : StreamCounts) (tally : Tally) (done : ℕ) → Finished outer bytes given tally done → Wrote outer bytes given (done + 0) to to counts counts tally
wrote_none outer bytes given to counts tally done h =
    let same : done ≡ done + 0 = omega arith in
    record {
      written = [];
      is = sym (append-nil to);
      now = tally;
      finished = subst (λ z. Finished outer bytes z tally (done + 0)) (sym (append-nil given)) (subst (Finished outer bytes given tally) same h);
      counts = λ u e. e;
    }

pub wrote_more : (outer new : Receiver) (bytes given : List ℕ) (done i : ℕ) (to mid more : List ℕ) (before between after : StreamCounts) (tally : Tally) (slots : List WordSlot) (slot : WordSlot)
    → i < length slots → done + length slots ≤ word_count bytes → AreDecoded bytes done slots → slot ≡ get_or slots i slot
    → Wrote outer bytes given (done + i) to mid before between tally
    → ((z out : List ℕ) (t : Tally) (n : ℕ) → Finished outer z out t n → n < word_count z → Decoded (word_at z n) slot.word slot.outcome → Wrote new z out (n + 1) mid more between after t)
    → Wrote new bytes given (done + (i + 1)) to more before after tally
wrote_more outer new bytes given done i to mid more before between after tally slots slot l within decoded is h step =
    let d : Decoded (word_at bytes (done + i)) slot.word slot.outcome = subst (λ (z : WordSlot). Decoded (word_at bytes (done + i)) z.word z.outcome) (sym is) (decoded i slot l) in
    let s = step bytes (given ++ h.written) h.now (done + i) h.finished (omega (arith, l, within)) d in
    let next : done + i + 1 ≡ done + (i + 1) = omega arith in
    record {
      written = h.written ++ s.written;
      is = s.is ∙ ap (λ z. z ++ s.written) h.is ∙ append_assoc to h.written s.written;
      now = s.now;
      finished = subst (λ z. Finished new bytes z s.now (done + (i + 1))) (append_assoc given h.written s.written) (subst (Finished new bytes ((given ++ h.written) ++ s.written) s.now) next s.finished);
      counts = λ u e. s.counts u (h.counts u e);
    }

-- ---- together

pub are_decoded : (bytes : List ℕ) (from : ℕ) (slots decoded : List WordSlot) → AreWords bytes from slots → DecodesAll slots decoded → AreDecoded bytes from decoded
are_decoded bytes from slots decoded w h i d l =
    let within : i < length slots = omega (arith, l, h.long) in
    subst (λ (z : List ℕ). Decoded z (get_or decoded i d).word (get_or decoded i d).outcome) (w i d within) (h.each i d within)

pub gives : (wait left : List Bool) (old mid new : Receiver) (bytes given : List ℕ) (tally : Tally) (k : ℕ) (slots decoded : List WordSlot) (to more : List ℕ) (before after : StreamCounts)
    → Collected wait bytes given tally (word_count bytes) k mid left slots → DecodesAll slots decoded
    → ((z out : List ℕ) (t : Tally) (n : ℕ) → Finished mid z out t n → n + length decoded ≤ word_count z → AreDecoded z n decoded → Wrote new z out (n + length decoded) to more before after t)
    → Gives wait left new bytes given tally to more before after
gives wait left old mid new bytes given tally k slots decoded to more before after c d f =
    let all : word_count bytes + length decoded ≡ word_count (bytes ++ c.more) = omega (arith, c.all, d.long) in
    let w = f (bytes ++ c.more) given tally (word_count bytes) c.finished (omega (arith, all)) (are_decoded (bytes ++ c.more) (word_count bytes) slots decoded c.words d) in
    record {
      more = c.more;
      bits = c.bits;
      small = c.small;
      written = w.written;
      is = w.is;
      now = w.now;
      finished = subst (Finished new (bytes ++ c.more) (given ++ w.written) w.now) all w.finished;
      counts = w.counts;
    }

-- ---- loops

pub record CollectsTo (before : BranchState) (outer : Receiver) (room k : ℕ) (after : BranchState) (new : Receiver) (slots : List WordSlot) (capacity : ℕ) : Type 0 where
  pub wait : length after.wait + 8 * k ≡ length before.wait
  pub rest : after ≡ record before { wait = after.wait }
  pub same : capacity ≡ room
  pub collected : (bytes given : List ℕ) (tally : Tally) → Finished outer bytes given tally (word_count bytes) → Collected before.wait bytes given tally (word_count bytes) k new after.wait slots

-- the first slots are finished
pub record WritesTo (i : ℕ) (slots : List WordSlot) (old new : Receiver) (before after : StreamCounts) (to more : List ℕ) (len more_len room capacity : ℕ) : Type 0 where
  pub spare : room ≤ capacity
  pub few : more_len ≤ len + 188 * i
  pub counts : (n : ℕ) → AreFew before n → AreFew after (n + i)
  pub wrote : (bytes given : List ℕ) (tally : Tally) (done : ℕ) → Finished old bytes given tally done → done + length slots ≤ word_count bytes → AreDecoded bytes done slots → Wrote new bytes given (done + i) to more before after tally

few_same : (counts : StreamCounts) (n m : ℕ) → n ≡ m → AreFew counts n → AreFew counts m
few_same counts n m e h = subst (AreFew counts) e h

pub writes_none : (slots : List WordSlot) (outer : Receiver) (counts : StreamCounts) (to : List ℕ) (len room : ℕ) → WritesTo 0 slots outer outer counts counts to to len len room room
writes_none slots outer counts to len room = record {
  spare = omega arith;
  few = omega arith;
  counts = λ n h. few_same counts n (n + 0) (omega arith) h;
  wrote = λ bytes given tally done h l d. wrote_none outer bytes given to counts tally done h;
}

pub writes_more : (i : ℕ) (slots : List WordSlot) (slot : WordSlot) (old mid new : Receiver) (before between after : StreamCounts) (to some more : List ℕ) (len some_len more_len room some_room capacity : ℕ) → i < length slots → ((e : WordSlot) → slot ≡ get_or slots i e)
    → some_room ≤ capacity → more_len ≤ some_len + 188 → ((n : ℕ) → AreFew between n → AreFew after (n + 1))
    → ((z out : List ℕ) (t : Tally) (n : ℕ) → Finished mid z out t n → n < word_count z → Decoded (word_at z n) slot.word slot.outcome → Wrote new z out (n + 1) some more between after t)
    → WritesTo i slots old mid before between to some len some_len room some_room → WritesTo (i + 1) slots old new before after to more len more_len room capacity
writes_more i slots slot old mid new before between after to some more len some_len more_len room some_room capacity l is spare few counts step h = record {
  spare = omega (arith, spare, h.spare);
  few = omega (arith, few, h.few);
  counts = λ n k. few_same after (n + i + 1) (n + (i + 1)) (omega arith) (counts (n + i) (h.counts n k));
  wrote = λ bytes given tally done f within decoded. wrote_more mid new bytes given done i to some more before between after tally slots slot l within decoded (is slot) (h.wrote bytes given tally done f within decoded) step;
}

pub few_more : (counts : StreamCounts) (n m : ℕ) → n ≤ m → AreFew counts n → AreFew counts m
few_more counts n m l h = record {
  words = omega (arith, l, h.words);
  clean = omega (arith, l, h.clean);
  corrected = omega (arith, l, h.corrected);
  bad = omega (arith, l, h.bad);
  unphased = omega (arith, l, h.unphased);
  unmerged = omega (arith, l, h.unmerged);
}
