-- The state of a stream, from symbol to symbol.
use Rattle.std.proofs.Common.{◌≡◌, ℕ, suc, ◌+◌, ◌<◌, ◌≤◌, Bool, inl, inr, ◌⊎◌, List, [], ◌∷◌, ◌++◌, length, take, drop, refl, sym, ap, ap₂, ◌∙◌, subst, arith, length-append, append_assoc}
use Rattle.std.specs.Prelude.{Option, All, min}
use Rattle.std.proofs.lemmas.Bool.{cases_lt}
use Rattle.std.proofs.lemmas.List.{take-append-drop, drop_all}
use Rattle.std.proofs.lemmas.List.Elements.{All-nil, All-append, All-head, All-tail}
use Rattle.spec_words.specs.Bits.{spelled}
use Rattle.bit_pack.specs.Queue.{bits_of_bytes}
use Rattle.code_paths.specs.declared.costs.CostPair.{CostPair}
use Rattle.inner_decoder.specs.Events.{ats}
use Rattle.inner_decoder.specs.declared.decoder.Unmerged.{Unmerged}
use Rattle.inner_decoder.specs.Seen.{DecoderState}
use Rattle.inner_decoder.specs.Running.{BranchState}
use Rattle.outer_chain.specs.Bits.{bytes_of, ByteOfBits}
use Rattle.forney.specs.Values.{values}
use Rattle.bit_margin.specs.Stream as margins
use Rattle.reception.specs.Streams.{Moment, so_far, at_end}
use Rattle.rescue_words.specs.Running as words
use Rattle.rescue.specs.Streams.{no_words}
use Rattle.rescue_words.specs.ByteMargins.{byte_margins}
use Rattle.rescue_words.specs.Laws.{AllRescued}
use Rattle.rescue_words.specs.Rescued.{RescueTally, Rescues}
use Rattle.inner_receiver.specs.Branches.{HasGiven, HasTaken, HasEnded}
use Rattle.rescue.specs.Seen.{StreamState}
use Rattle.rescue.specs.Moves.{Passes, Appends, GivesWords, Pushes, EndsMargins}
use Rattle.rescue.specs.Standing.{MarginsStand, StreamStands, StreamGave}

bits_append : (a b : List ℕ) → bits_of_bytes (a ++ b) ≡ bits_of_bytes a ++ bits_of_bytes b
bits_append [] b = refl
bits_append (x ∷ a) b = ap (λ z. spelled 8 x ++ z) (bits_append a b) ∙ sym (append_assoc (spelled 8 x) (bits_of_bytes a) (bits_of_bytes b))

-- bits given and new bits divide into bytes and the bits left
rejoined : (bits : List Bool) (bytes more : List ℕ) (wait came all left : List Bool) → bits ≡ bits_of_bytes bytes ++ wait → all ≡ wait ++ came → all ≡ bits_of_bytes more ++ left → bits ++ came ≡ bits_of_bytes (bytes ++ more) ++ left
rejoined bits bytes more wait came all left e f g =
    ap (λ z. z ++ came) e ∙ append_assoc (bits_of_bytes bytes) wait came ∙ ap (λ z. bits_of_bytes bytes ++ z) (sym f ∙ g)
    ∙ sym (append_assoc (bits_of_bytes bytes) (bits_of_bytes more) left) ∙ ap (λ z. z ++ left) (sym (bits_append bytes more))

-- a queue that grew, after its first items were taken
requeued : (done queue more longer left : List ℕ) (n : ℕ) → longer ≡ queue ++ more → left ≡ drop n longer → (done ++ queue) ++ more ≡ (done ++ take n longer) ++ left
requeued done queue more longer left n e f =
    append_assoc done queue more ∙ ap (λ z. done ++ z) (sym e ∙ sym (take-append-drop n longer)) ∙ sym (append_assoc done (take n longer) (drop n longer)) ∙ ap (λ z. (done ++ take n longer) ++ z) (sym f)

one_is_empty : (xs ys left rest : List ℕ) (n : ℕ) → n ≡ min (length xs) (length ys) → left ≡ drop n xs → rest ≡ drop n ys → (left ≡ []) ⊎ (rest ≡ [])
one_is_empty xs ys left rest n e f g = go (cases_lt (length ys) (length xs))
  where
    go : (length ys < length xs) ⊎ (length xs ≤ length ys) → (left ≡ []) ⊎ (rest ≡ [])
    go (inl l) = inr (g ∙ drop_all n ys (omega (arith, e, l)))
    go (inr l) = inl (f ∙ drop_all n xs (omega (arith, e, l)))

-- the decoder gave more, more margins are known, and both were passed on as far as they match
pub gave : (moment : Moment) (x y : StreamState) (ran : BranchState) (k : ℕ) (longer surer : List ℕ) (a : Option (List Bool)) (c d : List CostPair) (given : List ℕ) (tally : RescueTally) (steps later to more : List ℕ) → (h : StreamStands so_far x a c given tally steps)
    → (came : List Bool) → ran.wait ≡ x.branch.wait ++ came → HasGiven moment ran.decoder a d (h.bits ++ came) later → ran.loaded ≡ []
    → Passes k ran y.branch x.bytes longer → length y.branch.wait < 8
    → (found : List ℕ) → MarginsStand moment y.margins a d (h.ms ++ found) → Appends h.ms found x.byte_margins surer
    → GivesWords longer surer x.words y.bytes y.byte_margins y.words to more → y.unmerged ≡ length later → StreamGave moment y a d given later to more
gave moment x y ran k longer surer a c d given tally steps later to more h came waits has_given none p few found known sure g unmerged =
    let w = g.took h.done h.sure given tally h.words_are in
    record {
      written = w.written;
      is = w.is;
      tally = w.tally;
      stands = record {
        bits = h.bits ++ came;
        has_given = subst (λ (z : DecoderState). HasGiven moment z a d (h.bits ++ came) later) (sym (ap (λ (z : BranchState). z.decoder) p.rest)) has_given;
        loaded = ap (λ (z : BranchState). z.loaded) p.rest ∙ none;
        whole = h.whole ++ p.more;
        passed = rejoined h.bits h.whole p.more x.branch.wait came ran.wait y.branch.wait h.passed waits p.bits;
        few = few;
        small = All-append (λ b. b < 256) h.whole p.more h.small p.small;
        ms = h.ms ++ found;
        known = known;
        done = h.done ++ take g.count longer;
        sure = h.sure ++ take g.count surer;
        bytes_are = ap (λ z. z ++ p.more) h.bytes_are ∙ requeued h.done x.bytes p.more longer y.bytes g.count p.appended g.bytes_are;
        margins_are = sure.are ∙ ap (λ z. z ++ sure.bytes) h.margins_are ∙ requeued h.sure x.byte_margins sure.bytes surer y.byte_margins g.count sure.appended g.sure_are;
        one = one_is_empty longer surer y.bytes y.byte_margins g.count g.is g.bytes_are g.sure_are;
        words_are = w.stands;
        unmerged = unmerged;
      };
    }

-- one more symbol
pub symbol_gave : (x y : StreamState) (ran : BranchState) (k : ℕ) (longer surer : List ℕ) (pairs : List CostPair) (to more : List ℕ) → HasTaken pairs x.branch ran → Passes k ran y.branch x.bytes longer → length y.branch.wait < 8
    → Pushes pairs x.margins y.margins x.byte_margins surer → length y.margins.waiting < 1280 → (256 ≤ length x.margins.waiting → 256 ≤ length y.margins.waiting)
    → GivesWords longer surer x.words y.bytes y.byte_margins y.words to more → y.unmerged ≡ x.unmerged + length (ats ran.events)
    → (a : Option (List Bool)) (c : List CostPair) (given : List ℕ) (tally : RescueTally) (steps : List ℕ) → StreamStands so_far x a c given tally steps → StreamGave so_far y a (c ++ pairs) given (steps ++ ats ran.events) to more
symbol_gave x y ran k longer surer pairs to more run p few push waits behind g unmerged a c given tally steps h =
    let r = run.gave a c h.bits steps h.has_given in
    let s = push a c h.ms h.known.0 in
    gave so_far x y ran k longer surer a c (c ++ pairs) given tally steps (steps ++ ats ran.events) to more h r.more r.appended r.given run.loaded p few s.more
    (s.stands, waits, in_step h.ms s.more h.known.2 s.step) s.appends g (omega (arith, unmerged, h.unmerged, length-append steps (ats ran.events)))
  where
    in_step : (ms found : List ℕ) → (ms ≡ []) ⊎ (256 ≤ length x.margins.waiting) → (found ≡ []) ⊎ (256 ≤ length y.margins.waiting) → (ms ++ found ≡ []) ⊎ (256 ≤ length y.margins.waiting)
    in_step ms found old (inr l) = inr l
    in_step ms found (inl e) (inl d) = inl (ap₂ (λ (a b : List ℕ). a ++ b) e d)
    in_step ms found (inr l) (inl d) = inr (behind l)

-- the end
pub finish_gave : (x y : StreamState) (ended : BranchState) (k : ℕ) (longer surer : List ℕ) (to more : List ℕ) → HasEnded x.branch ended → Passes k ended y.branch x.bytes longer → length y.branch.wait < 8
    → EndsMargins x.margins x.byte_margins surer → GivesWords longer surer x.words y.bytes y.byte_margins y.words to more → y.unmerged ≡ x.unmerged
    → (a : Option (List Bool)) (c : List CostPair) (given : List ℕ) (tally : RescueTally) (steps : List ℕ) → StreamStands so_far x a c given tally steps → StreamGave at_end y a c given steps to more
finish_gave x y ended k longer surer to more end p few all g unmerged a c given tally steps h =
    let r = end.gave a c h.bits steps h.has_given in
    let s = all a c h.ms h.known.0 in
    gave at_end x y ended k longer surer a c c given tally steps steps to more h r.more r.appended r.given end.loaded p few s.more s.whole s.appends g (unmerged ∙ h.unmerged)

-- the number of pending bits after running a symbol
pub ran_wait : (x ran : BranchState) (pairs : List CostPair) (a : Option (List Bool)) (c : List CostPair) (bits : List Bool) (steps : List ℕ) → HasTaken pairs x ran → HasGiven so_far x.decoder a c bits steps → length x.wait < 8 → length pairs ≤ 31752 → length ran.wait ≤ 33807
ran_wait x ran pairs a c bits steps run h few most =
    let r = run.gave a c bits steps h in
    omega (arith, ap length r.appended, length-append x.wait r.more, length-append bits r.more, length-append c pairs, r.given.amount, h.amount, h.decoder.1.few, few, most)

-- and when it has ended
pub ended_wait : (x ended : BranchState) (a : Option (List Bool)) (c : List CostPair) (bits : List Bool) (steps : List ℕ) → HasEnded x ended → HasGiven so_far x.decoder a c bits steps → length x.wait < 8 → length ended.wait ≤ 2055
ended_wait x ended a c bits steps end h few =
    let r = end.gave a c bits steps h in
    omega (arith, ap length r.appended, length-append x.wait r.more, length-append bits r.more, r.given.amount, h.amount, h.decoder.1.few, few)

no_bytes : (w : List Bool) → length w < 8 → bytes_of w ≡ []
unfolding bytes_of
no_bytes [] l = refl
no_bytes (a ∷ []) l = refl
no_bytes (a ∷ b ∷ []) l = refl
no_bytes (a ∷ b ∷ c ∷ []) l = refl
no_bytes (a ∷ b ∷ c ∷ d ∷ []) l = refl
no_bytes (a ∷ b ∷ c ∷ d ∷ e ∷ []) l = refl
no_bytes (a ∷ b ∷ c ∷ d ∷ e ∷ f ∷ []) l = refl
no_bytes (a ∷ b ∷ c ∷ d ∷ e ∷ f ∷ g ∷ []) l = refl
no_bytes (a ∷ b ∷ c ∷ d ∷ e ∷ f ∷ g ∷ h ∷ w) l = absurd (omega (arith, l))

-- the whole bytes of the bits of bytes and of fewer than eight more
bytes_back : ByteOfBits → (bytes : List ℕ) (w : List Bool) → All (λ b. b < 256) bytes → length w < 8 → bytes_of (bits_of_bytes bytes ++ w) ≡ bytes
bytes_back one [] w s l = no_bytes w l
bytes_back one (b ∷ bytes) w s l =
    ap bytes_of (append_assoc (spelled 8 b) (bits_of_bytes bytes) w) ∙ one b (bits_of_bytes bytes ++ w) (All-head (λ b. b < 256) b bytes s)
    ∙ ap (λ z. b ∷ z) (bytes_back one bytes w (All-tail (λ b. b < 256) b bytes s) l)

-- the bytes written for a stream are the rescued packets of its bits and margins
pub rescued : ByteOfBits → AllRescued → (moment : Moment) (x : StreamState) (a : Option (List Bool)) (c : List CostPair) (given : List ℕ) (tally : RescueTally) (steps : List ℕ) → (h : StreamStands moment x a c given tally steps) → Rescues (bytes_of h.bits) (byte_margins h.ms) given tally
rescued one all moment x a c given tally steps h =
    let same : h.whole ≡ bytes_of h.bits = sym (ap bytes_of h.passed ∙ bytes_back one h.whole x.branch.wait h.small h.few) in
    subst (λ z. Rescues z (byte_margins h.ms) given tally) (sym h.bytes_are ∙ same)
    (subst (λ z. Rescues (h.done ++ x.bytes) z given tally) (sym h.margins_are) (all x.words h.done h.sure x.bytes x.byte_margins given tally h.words_are h.one))

-- at the start
no_margins : byte_margins [] ≡ []
unfolding byte_margins values
no_margins = refl

pub nothing_stands : (x : StreamState) (a b : Option (List Bool)) → b ≡ a → HasGiven so_far x.branch.decoder a [] [] [] → x.branch.loaded ≡ [] → x.branch.wait ≡ [] → margins.Stands x.margins b [] [] → x.margins.waiting ≡ [] → x.bytes ≡ [] → x.byte_margins ≡ []
    → words.Stands x.words [] [] [] no_words → x.unmerged ≡ 0 → StreamStands so_far x a [] [] no_words []
nothing_stands x a b same given loaded wait stands waiting bytes sure words_are unmerged = record {
  bits = [];
  has_given = given;
  loaded = loaded;
  whole = [];
  passed = sym wait;
  few = omega (arith, ap length wait);
  small = All-nil (λ b. b < 256);
  ms = [];
  known = (subst (λ z. margins.Stands x.margins z [] []) same stands, omega (arith, ap length waiting), inl refl);
  done = [];
  sure = [];
  bytes_are = sym bytes;
  margins_are = no_margins ∙ sym sure;
  one = inl bytes;
  words_are = words_are;
  unmerged = unmerged;
}

pub length_ats : (es : List Unmerged) → length (ats es) ≡ length es
length_ats [] = refl
length_ats (e ∷ es) = ap suc (length_ats es)
