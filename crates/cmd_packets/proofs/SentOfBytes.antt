-- The sent bits of bytes: those of the first bytes stay when more bytes follow.
use Rattle.std.proofs.Common.{◌≡◌, ℕ, zero, suc, ◌+◌, ◌*◌, ◌-◌, ◌/◌, ◌%◌, ◌<◌, ◌≤◌, Bool, false, List, [], ◌∷◌, ◌++◌, map, length, refl, ◌∙◌, sym, ap, subst, arith, length-append, inl, inr, if◌then◌else◌}
use Rattle.std.specs.Prelude.{nat_lt}
use Rattle.std.specs.List.{range_with_len}
use Rattle.std.proofs.Math.ListN.{get_or-append}
use Rattle.std.proofs.Math.Seq.{get_or-append_seam}
use Rattle.std.proofs.Math.Numerals.{add-one}
use Rattle.std.proofs.lemmas.Bool.{cases_lt, lt-ltb}
use Rattle.mode_set.specs.declared.modes.Rate.{Rate}
use Rattle.mode_set.specs.declared.modes.Rate.TheVariants.{R1of2, R2of3, R3of4, R5of6, R7of8}
use Rattle.forney.specs.Values.{stream_of}
use Rattle.spec_words.specs.Bits.{is_set, spelled}
use Rattle.code_paths.specs.Paths.{parity_x, parity_y}
use Rattle.puncture.specs.SentBits.{path_of, window, bits_from, sent_bits}
use Rattle.puncture.specs.Steps.{sent_before, bits_of_step, Coder, IsAtPath}
use Rattle.puncture.specs.Laws.{StepsSendInOrder, StepsAreNumbered, SentBitsAreRuns, BytesArePaths}
use Rattle.outer_chain.specs.Bits.{bytes_of}
use Rattle.cmd_packets.specs.InnerBytes.{inner_bits, inner_bytes}
use Rattle.cmd_packets.specs.Inner.{rest_of}
use Rattle.cmd_packets.proofs.WholeBytes.{bytes_after, rest_after}

-- paths that agree at these positions have the same bits there
same_bits : (p q : ℕ → Bool) (t n : ℕ) → ((i : ℕ) → i < t + n → p i ≡ q i) → map p (range_with_len t n) ≡ map q (range_with_len t n)
same_bits p q t zero same = refl
same_bits p q t (suc n) same = λ j. same t (omega arith) j ∷ same_bits p q (t + 1) n (λ i lt. same i (omega (arith, lt))) j

same_window : (p q : ℕ → Bool) (t : ℕ) → ((i : ℕ) → i < t + 7 → p i ≡ q i) → window p t ≡ window q t
same_window p q t same = λ j.
    same t (omega arith) j ∷ same (t + 1) (omega arith) j ∷ same (t + 2) (omega arith) j ∷ same (t + 3) (omega arith) j
    ∷ same (t + 4) (omega arith) j ∷ same (t + 5) (omega arith) j ∷ same (t + 6) (omega arith) j ∷ []

none_before : (r : Rate) → sent_before r 0 ≡ 0
none_before R1of2 = refl
none_before R2of3 = refl
none_before R3of4 = refl
none_before R5of6 = refl
none_before R7of8 = refl

pub none_sent : (r : Rate) (p : ℕ → Bool) → sent_bits r p 0 (sent_before r 0) ≡ []
none_sent r p = ap (λ (n : ℕ). sent_bits r p 0 n) (none_before r)

module _ (in_order : StepsSendInOrder) (numbered : StepsAreNumbered) (runs : SentBitsAreRuns) where
  grows_by_one : (r : Rate) (t : ℕ) → sent_before r t ≤ sent_before r (t + 1)
  grows_by_one r t = omega (arith, (numbered r t).grows)

  grows_by : (r : Rate) (t n : ℕ) → sent_before r t ≤ sent_before r (t + n)
  grows_by r t zero = subst (λ (m : ℕ). sent_before r t ≤ sent_before r m) (let e : t ≡ t + zero = omega arith in e) (omega arith)
  grows_by r t (suc n) =
      let more = grows_by_one r (t + n) in
      let before = grows_by r t n in
      subst (λ (m : ℕ). sent_before r t ≤ sent_before r m) (let e : t + n + 1 ≡ t + suc n = omega arith in e) (omega (arith, more, before))

  -- the bits sent in the first steps depend only on their input bits, and on those before
  same_sent : (r : Rate) (p q : ℕ → Bool) (t : ℕ) → ((i : ℕ) → i < t + 6 → p i ≡ q i) → sent_bits r p 0 (sent_before r t) ≡ sent_bits r q 0 (sent_before r t)
  same_sent r p q zero same = none_sent r p ∙ sym (none_sent r q)
  same_sent r p q (suc t) same = subst (λ (m : ℕ). sent_bits r p 0 (sent_before r m) ≡ sent_bits r q 0 (sent_before r m)) (add-one t)
      (here (same_sent r p q t (λ i lt. same i (omega (arith, lt)))))
    where
      joined : (path : ℕ → Bool) → sent_bits r path 0 (sent_before r (t + 1)) ≡ sent_bits r path 0 (sent_before r t) ++ bits_of_step r t (parity_x (window path t)) (parity_y (window path t))
      joined path =
          sym ((runs r path).joined 0 (sent_before r t) (sent_before r (t + 1)) (omega arith) (grows_by_one r t))
          ∙ ap (λ (l : List Bool). sent_bits r path 0 (sent_before r t) ++ l) (sym (in_order r path t))

      here : sent_bits r p 0 (sent_before r t) ≡ sent_bits r q 0 (sent_before r t) → sent_bits r p 0 (sent_before r (t + 1)) ≡ sent_bits r q 0 (sent_before r (t + 1))
      here first =
          joined p
          ∙ ap (λ (l : List Bool). l ++ bits_of_step r t (parity_x (window p t)) (parity_y (window p t))) first
          ∙ ap (λ (w : List Bool). sent_bits r q 0 (sent_before r t) ++ bits_of_step r t (parity_x w) (parity_y w)) (same_window p q t (λ i lt. same i (omega (arith, lt))))
          ∙ sym (joined q)

  -- later bytes leave the path of the first ones
  same_path : (bytes more : List ℕ) (i : ℕ) → i < 8 * length bytes + 6 → path_of (stream_of bytes) i ≡ path_of (stream_of (bytes ++ more)) i
  same_path bytes more i lt = elim (cases_lt i 6) [
    | inl small ↦ first (stream_of bytes) small ∙ sym (first (stream_of (bytes ++ more)) small)
    | inr large ↦ ap (λ (x : ℕ). if nat_lt i 6 then false else is_set x (7 - (i - 6) % 8)) (sym (get_or-append bytes more 0 ((i - 6) / 8) (omega (arith, lt, large))))
  ]
    where
      first : (f : ℕ → ℕ) → i < 6 → path_of f i ≡ false
      first f small = ap (λ (b : Bool). if b then false else is_set (f ((i - 6) / 8)) (7 - (i - 6) % 8)) (lt-ltb i 6 small)

  module _ (r : Rate) (bytes : List ℕ) (byte : ℕ) where
    abbrev both : List ℕ
    both = bytes ++ byte ∷ []

    abbrev t : ℕ
    t = 8 * length bytes

    abbrev path : ℕ → Bool
    path = path_of (stream_of both)

    size : t + 8 ≡ 8 * length both
    size = omega (arith, length-append bytes (byte ∷ []))

    -- the bits sent for the last byte
    abbrev pub next_bits : List Bool
    next_bits = sent_bits r path (sent_before r t) (sent_before r (t + 8))

    pub more_bits : inner_bits r both ≡ inner_bits r bytes ++ next_bits
    more_bits =
        ap (λ (n : ℕ). sent_bits r path 0 (sent_before r n)) (sym size)
        ∙ sym ((runs r path).joined 0 (sent_before r t) (sent_before r (t + 8)) (omega arith) (grows_by r t 8))
        ∙ ap (λ (l : List Bool). l ++ next_bits) (sym (same_sent r (path_of (stream_of bytes)) path t (same_path bytes (byte ∷ []))))

    -- the coder is also at the path of the longer list
    pub at_longer : (c : Coder) → IsAtPath c r (path_of (stream_of bytes)) t → IsAtPath c r path t
    at_longer c at = record {
      rate = at.rate;
      step = at.step;
      register = at.register ∙ same_bits (path_of (stream_of bytes)) path t 6 (same_path bytes (byte ∷ []));
    }

    -- and the byte is next on it
    pub stands : BytesArePaths → spelled 8 byte ≡ bits_from path (t + 6) 8
    stands law = ap (spelled 8) (sym (get_or-append_seam bytes byte [] 0)) ∙ law (stream_of both) (length bytes)

    pub at_end : (c : Coder) → IsAtPath c r path (t + 8) → IsAtPath c r (path_of (stream_of both)) (8 * length both)
    at_end c at = subst (λ (n : ℕ). IsAtPath c r path n) size at

    -- the pending bits then, and the whole bytes
    pub waits : (waiting : List Bool) → waiting ≡ rest_of (inner_bits r bytes) → rest_of (waiting ++ next_bits) ≡ rest_of (inner_bits r both)
    waits waiting is = ap (λ (l : List Bool). rest_of (l ++ next_bits)) is ∙ sym (rest_after (inner_bits r bytes) next_bits) ∙ ap rest_of (sym more_bits)

    pub whole : (waiting : List Bool) → waiting ≡ rest_of (inner_bits r bytes) → inner_bytes r both ≡ inner_bytes r bytes ++ bytes_of (waiting ++ next_bits)
    whole waiting is =
        ap bytes_of more_bits ∙ bytes_after (inner_bits r bytes) next_bits
        ∙ ap (λ (l : List Bool). inner_bytes r bytes ++ bytes_of (l ++ next_bits)) (sym is)
