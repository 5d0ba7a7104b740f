-- Bytes and margins moved in loops.
use Rattle.std.proofs.Common.{◌≡◌, ℕ, ◌+◌, ◌*◌, ◌<◌, ◌≤◌, ◌%◌, ◌⊎◌, inl, inr, Bool, false, List, [], ◌∷◌, ◌++◌, length, take, get_or, refl, sym, ap, ap₂, ◌∙◌, subst, arith, length-append, append_assoc, append-nil}
use Rattle.std.specs.Prelude.{Option, All}
use Rattle.std.proofs.lemmas.List.{take_more}
use Rattle.std.proofs.lemmas.List.Elements.{All-nil, All-push, All-append}
use Rattle.spec_words.specs.Bits.{spelled}
use Rattle.bit_pack.specs.Queue.{bits_of_bytes}
use Rattle.code_paths.specs.declared.costs.CostPair.{CostPair}
use Rattle.inner_decoder.specs.Running.{BranchState}
use Rattle.bit_margin.specs.Stream.{MarginState}
use Rattle.bit_margin.specs.Stream as margins
use Rattle.rescue_words.specs.ByteMargins.{byte_margins}
use Rattle.rescue_words.specs.Laws.{MoreByteMargins}
use Rattle.rescue_words.specs.Rescued.{RescueTally}
use Rattle.rescue_words.specs.Running.{WordsState}
use Rattle.rescue_words.specs.Running as words
use Rattle.rescue.specs.Moves.{Passes, HasPushed, Pushes, EndsMargins, FinishesWords}

-- ---- bytes of the pending bits

pub bits_push : (more : List ℕ) (byte : ℕ) → bits_of_bytes (more ++ byte ∷ []) ≡ bits_of_bytes more ++ spelled 8 byte
bits_push [] byte = append-nil (spelled 8 byte)
bits_push (b ∷ more) byte = ap (λ z. spelled 8 b ++ z) (bits_push more byte) ∙ sym (append_assoc (spelled 8 b) (bits_of_bytes more) (spelled 8 byte))

pub passes_none : (x : BranchState) (queue : List ℕ) → Passes 0 x x queue queue
passes_none x queue = record { more = []; long = refl; bits = refl; small = All-nil (λ b. b < 256); appended = sym (append-nil queue); rest = refl }

pub passes_one : (old new : BranchState) (byte : ℕ) (queue longer : List ℕ) → byte < 256 → old.wait ≡ spelled 8 byte ++ new.wait → new ≡ record old { wait = new.wait } → longer ≡ queue ++ byte ∷ [] → Passes 1 old new queue longer
passes_one old new byte queue longer small bits rest appended = record {
  more = byte ∷ [];
  long = refl;
  bits = bits ∙ ap (λ z. z ++ new.wait) (sym (append-nil (spelled 8 byte)));
  small = All-push (λ b. b < 256) [] byte (All-nil (λ b. b < 256)) small;
  appended = appended;
  rest = rest;
}

pub passes_more : (k : ℕ) (old mid new : BranchState) (queue some longer : List ℕ) → Passes k old mid queue some → Passes 1 mid new some longer → Passes (k + 1) old new queue longer
passes_more k old mid new queue some longer h p = record {
  more = h.more ++ p.more;
  long = omega (arith, length-append h.more p.more, h.long, p.long);
  bits = h.bits ∙ ap (λ z. bits_of_bytes h.more ++ z) p.bits ∙ sym (append_assoc (bits_of_bytes h.more) (bits_of_bytes p.more) new.wait) ∙ ap (λ z. z ++ new.wait) (sym (bits_joined h.more p.more));
  small = joined h.more p.more h.small p.small;
  appended = p.appended ∙ ap (λ z. z ++ p.more) h.appended ∙ append_assoc queue h.more p.more;
  rest = p.rest ∙ ap (λ (z : BranchState). record z { wait = new.wait }) h.rest;
}
  where
    bits_joined : (a b : List ℕ) → bits_of_bytes (a ++ b) ≡ bits_of_bytes a ++ bits_of_bytes b
    bits_joined [] b = refl
    bits_joined (x ∷ a) b = ap (λ z. spelled 8 x ++ z) (bits_joined a b) ∙ sym (append_assoc (spelled 8 x) (bits_of_bytes a) (bits_of_bytes b))

    joined : (a b : List ℕ) → All (λ b. b < 256) a → All (λ b. b < 256) b → All (λ b. b < 256) (a ++ b)
    joined a b h p = All-append (λ b. b < 256) a b h p

-- ---- margins of the bytes of blocks

-- no margins are appended
pub pushed_none : (xs : List CostPair) (new : MarginState) (a : Option (List Bool)) (c : List CostPair) (ms queue : List ℕ) → margins.Stands new a (c ++ xs) ms → HasPushed xs new a c ms queue queue
pushed_none xs new a c ms queue stands = record {
  more = [];
  stands = subst (margins.Stands new a (c ++ xs)) (sym (append-nil ms)) stands;
  step = inl refl;
  appends = record { bytes = []; appended = sym (append-nil queue); are = ap byte_margins (append-nil ms) ∙ sym (append-nil (byte_margins ms)) };
}

-- pairs were pushed, and then a block was taken
pub pushed_whole : (xs : List CostPair) (new : MarginState) (a : Option (List Bool)) (c : List CostPair) (ms queue longer : List ℕ) → HasPushed [] new a (c ++ xs) ms queue longer → HasPushed xs new a c ms queue longer
pushed_whole xs new a c ms queue longer h = record { more = h.more; stands = subst (λ z. margins.Stands new a z (ms ++ h.more)) (append-nil (c ++ xs)) h.stands; step = h.step; appends = h.appends }

whole_bytes : (n blocks : ℕ) → n ≡ 1024 * blocks → n % 8 ≡ 0
whole_bytes n blocks e = omega (arith, e)

-- those of a block are appended
pub took_block : MoreByteMargins → (old new : MarginState) (first block queue longer : List ℕ) → first ≡ [] → length new.waiting ≡ 256 → longer ≡ queue ++ byte_margins block
    → ((a : Option (List Bool)) (c : List CostPair) (ms : List ℕ) → margins.Stands old a c ms → margins.Took new a c ms first block) → Pushes [] old new queue longer
took_block law old new first block queue longer none left is took a c ms h =
    let t = took a c ms h in
    record {
      more = t.more;
      stands = subst (λ z. margins.Stands new a z (ms ++ t.more)) (sym (append-nil c)) t.stands;
      step = inr (omega (arith, left));
      appends = record { bytes = byte_margins t.more; appended = is ∙ ap (λ z. queue ++ byte_margins z) (t.appended ∙ ap (λ z. z ++ t.more) none); are = law ms t.more (whole_bytes (length ms) h.blocks h.long) };
    }

pub pushes_none : (x : MarginState) (queue : List ℕ) → Pushes [] x x queue queue
pushes_none x queue a c ms h = pushed_none [] x a c ms queue (subst (λ z. margins.Stands x a z ms) (sym (append-nil c)) h)

pub pushes_more : (xs ys : List CostPair) (old mid new : MarginState) (queue some longer : List ℕ) → (256 ≤ length mid.waiting → 256 ≤ length new.waiting) → Pushes xs old mid queue some → Pushes ys mid new some longer → Pushes (xs ++ ys) old new queue longer
pushes_more xs ys old mid new queue some longer behind h p a c ms stands =
    let f = h a c ms stands in
    let s = p a (c ++ xs) (ms ++ f.more) f.stands in
    record {
      more = f.more ++ s.more;
      stands = subst (λ z. margins.Stands new a z (ms ++ (f.more ++ s.more))) (append_assoc c xs ys) (subst (margins.Stands new a ((c ++ xs) ++ ys)) (append_assoc ms f.more s.more) s.stands);
      step = steps f.more s.more f.step s.step;
      appends = record {
        bytes = f.appends.bytes ++ s.appends.bytes;
        appended = s.appends.appended ∙ ap (λ z. z ++ s.appends.bytes) f.appends.appended ∙ append_assoc queue f.appends.bytes s.appends.bytes;
        are = ap byte_margins (sym (append_assoc ms f.more s.more)) ∙ s.appends.are ∙ ap (λ z. z ++ s.appends.bytes) f.appends.are ∙ append_assoc (byte_margins ms) f.appends.bytes s.appends.bytes;
      };
    }
  where
    steps : (f s : List ℕ) → (f ≡ []) ⊎ (256 ≤ length mid.waiting) → (s ≡ []) ⊎ (256 ≤ length new.waiting) → (f ++ s ≡ []) ⊎ (256 ≤ length new.waiting)
    steps f s x (inr l) = inr l
    steps f s (inl e) (inl d) = inl (ap₂ (λ (y z : List ℕ). y ++ z) e d)
    steps f s (inr l) (inl d) = inr (behind l)

pub pushes_next : (i : ℕ) (pairs : List CostPair) (pair : CostPair) (old mid new : MarginState) (queue some longer : List ℕ) → i < length pairs → pair ≡ get_or pairs i pair → (256 ≤ length mid.waiting → 256 ≤ length new.waiting)
    → Pushes (take i pairs) old mid queue some → Pushes (pair ∷ []) mid new some longer → Pushes (take (i + 1) pairs) old new queue longer
pushes_next i pairs pair old mid new queue some longer l is behind h p =
    subst (λ z. Pushes z old new queue longer) (sym (take_more pairs i pair l ∙ ap (λ z. take i pairs ++ z ∷ []) (sym is))) (pushes_more (take i pairs) (pair ∷ []) old mid new queue some longer behind h p)

pub ended_margins : MoreByteMargins → (old : MarginState) (first block queue longer : List ℕ) → first ≡ [] → longer ≡ queue ++ byte_margins block
    → ((a : Option (List Bool)) (c : List CostPair) (ms : List ℕ) → margins.Stands old a c ms → margins.Finished a c ms first block) → EndsMargins old queue longer
ended_margins law old first block queue longer none is finish a c ms h =
    let f = finish a c ms h in
    record {
      more = f.more;
      whole = f.whole;
      appends = record { bytes = byte_margins f.more; appended = is ∙ ap (λ z. queue ++ byte_margins z) (f.appended ∙ ap (λ z. z ++ f.more) none); are = law ms f.more (whole_bytes (length ms) h.blocks h.long) };
    }

-- ---- words

pub finishes_none : (x : WordsState) (to : List ℕ) → FinishesWords [] [] x x to to
finishes_none x to b m given tally h = record {
  written = [];
  is = sym (append-nil to);
  tally = tally;
  stands = subst (λ z. words.Stands x z (m ++ []) (given ++ []) tally) (sym (append-nil b)) (subst (λ z. words.Stands x b z (given ++ []) tally) (sym (append-nil m)) (subst (λ z. words.Stands x b m z tally) (sym (append-nil given)) h));
}

pub finishes_more : (bytes sure : List ℕ) (byte margin : ℕ) (old mid new : WordsState) (to some more : List ℕ) → FinishesWords bytes sure old mid to some
    → ((b m given : List ℕ) (tally : RescueTally) → words.Stands mid b m given tally → words.Took new (b ++ byte ∷ []) (m ++ margin ∷ []) given some more)
    → FinishesWords (bytes ++ byte ∷ []) (sure ++ margin ∷ []) old new to more
finishes_more bytes sure byte margin old mid new to some more h step b m given tally stands =
    let f = h b m given tally stands in
    let s = step (b ++ bytes) (m ++ sure) (given ++ f.written) f.tally f.stands in
    record {
      written = f.written ++ s.written;
      is = s.is ∙ ap (λ z. z ++ s.written) f.is ∙ append_assoc to f.written s.written;
      tally = s.tally;
      stands = subst (λ z. words.Stands new z (m ++ (sure ++ margin ∷ [])) (given ++ (f.written ++ s.written)) s.tally) (append_assoc b bytes (byte ∷ []))
          (subst (λ z. words.Stands new ((b ++ bytes) ++ byte ∷ []) z (given ++ (f.written ++ s.written)) s.tally) (append_assoc m sure (margin ∷ []))
          (subst (λ z. words.Stands new ((b ++ bytes) ++ byte ∷ []) ((m ++ sure) ++ margin ∷ []) z s.tally) (append_assoc given f.written s.written) s.stands));
    }

pub finishes_next : (i : ℕ) (bytes sure : List ℕ) (byte margin : ℕ) (old mid new : WordsState) (to some more : List ℕ) → take (i + 1) bytes ≡ take i bytes ++ byte ∷ [] → take (i + 1) sure ≡ take i sure ++ margin ∷ [] → FinishesWords (take i bytes) (take i sure) old mid to some
    → ((b m given : List ℕ) (tally : RescueTally) → words.Stands mid b m given tally → words.Took new (b ++ byte ∷ []) (m ++ margin ∷ []) given some more)
    → FinishesWords (take (i + 1) bytes) (take (i + 1) sure) old new to more
finishes_next i bytes sure byte margin old mid new to some more e f h step =
    subst (λ z. FinishesWords z (take (i + 1) sure) old new to more) (sym e)
    (subst (λ z. FinishesWords (take i bytes ++ byte ∷ []) z old new to more) (sym f) (finishes_more (take i bytes) (take i sure) byte margin old mid new to some more h step))

pub finishes_all : (i : ℕ) (bytes sure : List ℕ) (old new : WordsState) (to more : List ℕ) → take i bytes ≡ bytes → take i sure ≡ sure → FinishesWords (take i bytes) (take i sure) old new to more → FinishesWords bytes sure old new to more
finishes_all i bytes sure old new to more e f h = subst (λ z. FinishesWords z sure old new to more) e (subst (λ z. FinishesWords (take i bytes) z old new to more) f h)

-- ---- loops

pub record PassesTo (before : BranchState) (k : ℕ) (after : BranchState) (queue longer : List ℕ) (room capacity : ℕ) : Type 0 where
  pub wait : length after.wait + 8 * k ≡ length before.wait
  pub same : capacity ≡ room
  pub passes : Passes k before after queue longer

pub record PushesTo (i : ℕ) (pairs : List CostPair) (old new : MarginState) (queue longer : List ℕ) (len more_len room capacity block block_now : ℕ) : Type 0 where
  pub going : new.ended ≡ false
  pub waits : length new.waiting < 1280
  pub same : capacity ≡ room
  pub block_same : block_now ≡ block
  pub behind : 256 ≤ length old.waiting → 256 ≤ length new.waiting
  pub amount : 8 * more_len + length new.waiting ≡ 8 * len + length old.waiting + i
  pub pushes : Pushes (take i pairs) old new queue longer

pub record FinishesTo (i : ℕ) (bytes sure : List ℕ) (old new : WordsState) (to more : List ℕ) (len more_len room capacity : ℕ) : Type 0 where
  pub same : capacity ≡ room
  pub few : 204 * more_len + 188 * length new.margins.begun ≤ 204 * len + 188 * (length old.margins.begun + i)
  pub words : new.counts.words ≤ old.counts.words + i
  pub finishes : FinishesWords (take i bytes) (take i sure) old new to more
