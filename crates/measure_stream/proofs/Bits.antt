-- Bits that are handed on.
use Rattle.std.proofs.Common.{◌≡◌, ℕ, zero, suc, ◌+◌, ◌-◌, ◌*◌, ◌/◌, ◌<◌, ◌≤◌, Bool, List, [], ◌∷◌, ◌++◌, length, take, drop, refl, sym, ap, ap₂, ◌∙◌, arith, subst, append_assoc, append-nil, length-append, length-drop, length-take-le}
use Rattle.std.proofs.lemmas.List.Elements.{All-push}
use Rattle.spec_words.specs.Bits.{spelled}
use Rattle.bit_pack.specs.Queue.{bits_of_bytes}
use Rattle.inner_decoder.specs.Running.{BranchState}
use Rattle.measure_known_bits.specs.Seen.{KnownState}
use Rattle.measure_words.specs.Seen.{WordsState}
use Rattle.measure_words.specs.Counted.{Measures}
use Rattle.measure_stream.specs.Passing.{HasBits, HasRoom, Takes}

-- some more bits of a list
take_none : (j : ℕ) → take {A = Bool} j [] ≡ []
take_none zero = refl
take_none (suc j) = refl

drop_none : (j : ℕ) → drop {A = Bool} j [] ≡ []
drop_none zero = refl
drop_none (suc j) = refl

take_more : (w : List Bool) (n j m : ℕ) → n + j ≡ m → take m w ≡ take n w ++ take j (drop n w)
take_more w zero j m e = let same : m ≡ j = omega (arith, e) in ap (λ (z : ℕ). take z w) same
take_more w (suc n) j zero e = absurd (omega (arith, e))
take_more [] (suc n) j (suc m) e = sym (take_none j)
take_more (x ∷ w) (suc n) j (suc m) e = ap (λ (z : List Bool). x ∷ z) (take_more w n j m (omega (arith, e)))

drop_more : (w : List Bool) (n j m : ℕ) → n + j ≡ m → drop j (drop n w) ≡ drop m w
drop_more w zero j m e = let same : j ≡ m = omega (arith, e) in ap (λ (z : ℕ). drop z w) same
drop_more w (suc n) j zero e = absurd (omega (arith, e))
drop_more [] (suc n) j (suc m) e = drop_none j
drop_more (x ∷ w) (suc n) j (suc m) e = drop_more w n j m (omega (arith, e))

bits_push : (more : List ℕ) (byte : ℕ) → bits_of_bytes (more ++ byte ∷ []) ≡ bits_of_bytes more ++ spelled 8 byte
bits_push [] byte = append-nil (spelled 8 byte)
bits_push (b ∷ more) byte = ap (λ z. spelled 8 b ++ z) (bits_push more byte) ∙ sym (append_assoc (spelled 8 b) (bits_of_bytes more) (spelled 8 byte))

pub length_bits : (bytes : List ℕ) → length (bits_of_bytes bytes) ≡ 8 * length bytes
length_bits [] = refl
length_bits (b ∷ bytes) = omega (arith, length_bits bytes)

-- a byte more
pub byte_given : (part left : List Bool) (words next : WordsState) (byte : ℕ) → part ≡ spelled 8 byte ++ left → byte < 256
    → ((bytes : List ℕ) (done from limit : ℕ) → Measures words bytes done from limit → Measures next (bytes ++ byte ∷ []) done from limit)
    → (bits : List Bool) (done from limit : ℕ) → HasBits part words bits done from limit → HasBits left next bits done from limit
byte_given part left words next byte e small measures bits done from limit h = record {
  bytes = h.bytes ++ byte ∷ [];
  is = h.is ∙ ap (λ z. bits_of_bytes h.bytes ++ z) e ∙ sym (append_assoc (bits_of_bytes h.bytes) (spelled 8 byte) left) ∙ ap (λ z. z ++ left) (sym (bits_push h.bytes byte));
  small = All-push (λ b. b < 256) h.bytes byte h.small small;
  measures = measures h.bytes done from limit h.measures;
}

-- bits behind those of the unfinished byte
pub bits_put : (part new more : List Bool) (words : WordsState) → new ≡ part ++ more → (bits : List Bool) (done from limit : ℕ) → HasBits part words bits done from limit → HasBits new words (bits ++ more) done from limit
bits_put part new more words e bits done from limit h = record {
  bytes = h.bytes;
  is = ap (λ z. z ++ more) h.is ∙ append_assoc (bits_of_bytes h.bytes) part more ∙ ap (λ z. bits_of_bytes h.bytes ++ z) (sym e);
  small = h.small;
  measures = h.measures;
}

-- some bits were handed on
pub takes : (n : ℕ) (more : List Bool) (old new : BranchState) (known after : KnownState) (part rest : List Bool) (words next : WordsState) → new ≡ record old { wait = new.wait } → more ≡ take n old.wait → new.wait ≡ drop n old.wait
    → after ≡ record known { waiting = known.waiting ++ more } → length rest < 8 → next.all ≡ words.all
    → ((bits : List Bool) (done from limit : ℕ) → HasBits part words bits done from limit → HasBits rest next (bits ++ more) done from limit) → Takes n old known part words new after rest next
takes n more old new known after part rest words next stays front left k few all bits = record {
  wait = stays ∙ ap (λ (z : List Bool). record old { wait = z }) left;
  known_more = k ∙ ap (λ (z : List Bool). record known { waiting = known.waiting ++ z }) front;
  few = few;
  all = all;
  bits = λ b d f l h. subst (λ (z : List Bool). HasBits rest next (b ++ z) d f l) front (bits b d f l h);
}

pub takes_none : (branch : BranchState) (known : KnownState) (part : List Bool) (words : WordsState) → length part < 8 → Takes 0 branch known part words branch known part words
takes_none branch known part words few = record {
  wait = refl;
  known_more = ap (λ (z : List Bool). record known { waiting = z }) (sym (append-nil known.waiting));
  few = few;
  all = refl;
  bits = λ b d f l h. subst (λ (z : List Bool). HasBits part words z d f l) (sym (append-nil b)) h;
}

pub takes_more : (n j m : ℕ) (b b2 b3 : BranchState) (k k2 k3 : KnownState) (p p2 p3 : List Bool) (w w2 w3 : WordsState) → n + j ≡ m → Takes n b k p w b2 k2 p2 w2 → Takes j b2 k2 p2 w2 b3 k3 p3 w3 → Takes m b k p w b3 k3 p3 w3
takes_more n j m b b2 b3 k k2 k3 p p2 p3 w w2 w3 e h s = record {
  wait = s.wait ∙ ap (λ (z : BranchState). record z { wait = drop j z.wait }) h.wait ∙ ap (λ (z : List Bool). record b { wait = z }) (drop_more b.wait n j m e);
  known_more = s.known_more ∙ ap₂ (λ (z : KnownState) (y : BranchState). record z { waiting = z.waiting ++ take j y.wait }) h.known_more h.wait ∙ ap (λ (z : List Bool). record k { waiting = z }) (joins k.waiting);
  few = s.few;
  all = s.all ∙ h.all;
  bits = λ x d f l i. subst (λ (z : List Bool). HasBits p3 w3 z d f l) (ap (λ (y : BranchState). (x ++ take n b.wait) ++ take j y.wait) h.wait ∙ joins x) (s.bits (x ++ take n b.wait) d f l (h.bits x d f l i));
}
  where
    joins : (x : List Bool) → (x ++ take n b.wait) ++ take j (drop n b.wait) ≡ x ++ take m b.wait
    joins x = append_assoc x (take n b.wait) (take j (drop n b.wait)) ∙ ap (λ (z : List Bool). x ++ z) (sym (take_more b.wait n j m e))

-- how many bits are left and known
pub left_wait : (n : ℕ) (b b2 : BranchState) (k k2 : KnownState) (p p2 : List Bool) (w w2 : WordsState) → Takes n b k p w b2 k2 p2 w2 → length b2.wait ≡ length b.wait - n
left_wait n b b2 k k2 p p2 w w2 h = ap (λ (z : BranchState). length z.wait) h.wait ∙ length-drop n b.wait

pub known_long : (n : ℕ) (b b2 : BranchState) (k k2 : KnownState) (p p2 : List Bool) (w w2 : WordsState) → n ≤ length b.wait → Takes n b k p w b2 k2 p2 w2 → length k2.waiting ≡ length k.waiting + n
known_long n b b2 k k2 p p2 w w2 l h = ap (λ (z : KnownState). length z.waiting) h.known_more ∙ length-append k.waiting (take n b.wait) ∙ ap (λ (z : ℕ). length k.waiting + z) (length-take-le n b.wait l)

-- ---- room

pub has_room : (part : List Bool) (words : WordsState) (n : ℕ) → HasRoom part words n → length words.slots < 24
has_room part words n h =
    let long : length h.bits ≡ 8 * length h.has.bytes + length part = ap length h.has.is ∙ length-append (bits_of_bytes h.has.bytes) part ∙ ap (λ (z : ℕ). z + length part) (length_bits h.has.bytes) in
    let waiting : h.done + length words.slots ≡ length h.has.bytes / 204 - 11 = h.has.measures.waiting in
    let few : (length h.bits + n) / 1632 < 35 + h.done = h.few in
    omega (arith, long, waiting, few)

pub room_left : (n m more : ℕ) (b b2 : BranchState) (k k2 : KnownState) (p p2 : List Bool) (w w2 : WordsState) → m ≤ length b.wait → m + more ≤ n → HasRoom p w n → Takes m b k p w b2 k2 p2 w2 → HasRoom p2 w2 more
room_left n m more b b2 k k2 p p2 w w2 l within h t =
    let long : length (h.bits ++ take m b.wait) ≡ length h.bits + m = length-append h.bits (take m b.wait) ∙ ap (λ (z : ℕ). length h.bits + z) (length-take-le m b.wait l) in
    let few : (length h.bits + n) / 1632 < 35 + h.done = h.few in
    record {
      bits = h.bits ++ take m b.wait;
      done = h.done;
      from = h.from;
      limit = h.limit;
      has = t.bits h.bits h.done h.from h.limit h.has;
      few = omega (arith, long, few, within);
    }

pub room_less : (n m : ℕ) (p : List Bool) (w : WordsState) → m ≤ n → HasRoom p w n → HasRoom p w m
room_less n m p w l h =
    let few : (length h.bits + n) / 1632 < 35 + h.done = h.few in
    record { bits = h.bits; done = h.done; from = h.from; limit = h.limit; has = h.has; few = omega (arith, few, l) }
