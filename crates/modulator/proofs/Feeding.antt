-- A stream takes a packet, and gives bits to a symbol.
use Rattle.std.proofs.Common.{◌≡◌, ℕ, zero, suc, ◌+◌, ◌-◌, ◌*◌, ◌<◌, ◌≤◌, Bool, List, [], ◌∷◌, ◌++◌, length, take, drop, map, refl, sym, ap, ◌∙◌, subst, arith}
use Rattle.std.specs.List.{range_with_len}
use Rattle.std.proofs.lemmas.List.{map-append}
use Rattle.std.proofs.lemmas.List.FromFn.{get_or-map-range_with_len, length-map-range_with_len}
use Rattle.spec_words.specs.Words.{numbers}
use Rattle.spec_words.proofs.Counting.{numbers_end}
use Rattle.bit_pack.specs.Queue.{bits_of_bytes}
use Rattle.ts_packet.specs.Packet.{null_packet}
use Rattle.puncture.specs.SentBits.{path_of, bits_from}
use Rattle.puncture.specs.Laws.{BytesArePaths}
use Rattle.forney.specs.Values.{values}
use Rattle.outer_chain.specs.Sent.{packet_at, outer_byte}
use Rattle.outer_chain.specs.Sending.{Sender, Sends}
use Rattle.outer_chain.specs.SendingLaws.{SameBeginning}
use Rattle.modulator.specs.Streams.{first_of, HoldsBits}
use Rattle.modulator.proofs.Runs.{length-run, runs_join, run_taken, run_dropped, same_run, bytes_run, values_alike, same_path}

-- ---- the first packets
none_first : (packets : List (List ℕ)) → first_of packets 0 ≡ []
unfolding numbers
none_first packets = refl

one_more : (packets : List (List ℕ)) (n : ℕ) (packet : List ℕ) → packet ≡ packet_at packets n → first_of packets n ++ packet ∷ [] ≡ first_of packets (n + 1)
one_more packets n packet e =
    ap (λ (z : List ℕ). first_of packets n ++ z ∷ []) e ∙ sym (ap (map (packet_at packets)) (numbers_end n) ∙ map-append (packet_at packets) (numbers n) (n ∷ []))

pub length-first : (packets : List (List ℕ)) (n : ℕ) → length (first_of packets n) ≡ n
unfolding numbers
length-first packets n = length-map-range_with_len (packet_at packets) 0 n

first_at : (packets : List (List ℕ)) (n i : ℕ) → i < n → packet_at (first_of packets n) i ≡ packet_at packets i
unfolding numbers
first_at packets n i l = let here : 0 + i ≡ i = omega arith in get_or-map-range_with_len (packet_at packets) 0 n i i null_packet l here

first_same : (packets other : List (List ℕ)) (n : ℕ) → ((i : ℕ) → i < n → packet_at packets i ≡ packet_at other i) → first_of packets n ≡ first_of other n
unfolding numbers
first_same packets other n same = go 0 n (λ i l. same i (omega (arith, l)))
  where
    go : (a k : ℕ) → ((i : ℕ) → i < a + k → packet_at packets i ≡ packet_at other i) → map (packet_at packets) (range_with_len a k) ≡ map (packet_at other) (range_with_len a k)
    go a zero h = refl
    go a (suc k) h = ap (λ (z : List ℕ). z ∷ map (packet_at packets) (range_with_len (a + 1) k)) (h a (omega arith)) ∙ ap (λ (z : List (List ℕ)). packet_at other a ∷ z) (go (a + 1) k (λ i l. h i (omega (arith, l))))

-- ---- no packet was put
pub holds_none : (sender : Sender) (waiting : List Bool) (packets : List (List ℕ)) (n taken : ℕ) → Sends sender [] → waiting ≡ [] → n ≡ 0 → taken ≡ 0 → HoldsBits sender waiting packets n taken
holds_none sender waiting packets n taken sends empty en et = record {
  sends = subst (λ (z : ℕ). Sends sender (first_of packets z)) (sym en) (subst (Sends sender) (sym (none_first packets)) sends);
  within = omega (arith, et);
  bits = let none : 0 ≡ 1632 * n - taken = omega (arith, en, et) in empty ∙ ap (bits_from (path_of (outer_byte packets)) (taken + 6)) none;
}

-- ---- a packet is put
word_is : SameBeginning → (packets : List (List ℕ)) (n : ℕ) (word : List ℕ) → word ≡ values (outer_byte (first_of packets (n + 1))) (204 * length (first_of packets n)) 204 → word ≡ values (outer_byte packets) (204 * n) 204
word_is alike packets n word e =
    let place : 204 * length (first_of packets n) ≡ 204 * n = ap (λ (z : ℕ). 204 * z) (length-first packets n) in
    e ∙ ap (λ (z : ℕ). values (outer_byte (first_of packets (n + 1))) z 204) place
    ∙ values_alike (outer_byte (first_of packets (n + 1))) (outer_byte packets) (204 * n) 204 (λ i l. alike (first_of packets (n + 1)) packets (n + 1) (λ j k. first_at packets (n + 1) j k) i (omega (arith, l)))

pub holds_more : SameBeginning → BytesArePaths → (old_sender new_sender : Sender) (old new : List Bool) (packets : List (List ℕ)) (n taken : ℕ) (packet word : List ℕ)
    → ((ps : List (List ℕ)) → Sends old_sender ps → Sends new_sender (ps ++ packet ∷ []))
    → ((ps : List (List ℕ)) → Sends old_sender ps → word ≡ values (outer_byte (ps ++ packet ∷ [])) (204 * length ps) 204)
    → new ≡ old ++ bits_of_bytes word → HoldsBits old_sender old packets n taken → packet ≡ packet_at packets n → HoldsBits new_sender new packets (n + 1) taken
holds_more alike law old_sender new_sender old new packets n taken packet word sends given pushed h e =
    let path : ℕ → Bool = path_of (outer_byte packets) in
    let first : first_of packets n ++ packet ∷ [] ≡ first_of packets (n + 1) = one_more packets n packet e in
    let word_here : word ≡ values (outer_byte packets) (204 * n) 204 =
    word_is alike packets n word (given (first_of packets n) h.sends ∙ ap (λ (z : List (List ℕ)). values (outer_byte z) (204 * length (first_of packets n)) 204) first) in
    let behind : 8 * (204 * n) + 6 ≡ taken + 6 + (1632 * n - taken) = omega (arith, h.within) in
    let whole : 1632 * n - taken + 8 * 204 ≡ 1632 * (n + 1) - taken = omega (arith, h.within) in
    record {
      sends = subst (Sends new_sender) first (sends (first_of packets n) h.sends);
      within = omega (arith, h.within);
      bits =
          pushed ∙ ap (λ (z : List Bool). z ++ bits_of_bytes word) h.bits
          ∙ ap (λ (z : List ℕ). bits_from path (taken + 6) (1632 * n - taken) ++ bits_of_bytes z) word_here
          ∙ ap (λ (z : List Bool). bits_from path (taken + 6) (1632 * n - taken) ++ z) (bytes_run law (outer_byte packets) (204 * n) 204)
          ∙ ap (λ (z : ℕ). bits_from path (taken + 6) (1632 * n - taken) ++ bits_from path z (8 * 204)) behind
          ∙ sym (runs_join path (taken + 6) (1632 * n - taken) (8 * 204))
          ∙ ap (bits_from path (taken + 6)) whole;
    }

-- ---- a symbol takes its bits
pub bits_next : (sender : Sender) (waiting : List Bool) (packets : List (List ℕ)) (n taken k : ℕ) → HoldsBits sender waiting packets n taken → k ≤ length waiting → take k waiting ≡ bits_from (path_of (outer_byte packets)) (taken + 6) k
bits_next sender waiting packets n taken k h l =
    let size : length waiting ≡ 1632 * n - taken = ap length h.bits ∙ length-run (path_of (outer_byte packets)) (taken + 6) (1632 * n - taken) in
    ap (take k) h.bits ∙ run_taken (path_of (outer_byte packets)) (taken + 6) (1632 * n - taken) k (omega (arith, l, size))

pub holds_rest : (sender : Sender) (waiting new : List Bool) (packets : List (List ℕ)) (n taken k now : ℕ) → HoldsBits sender waiting packets n taken → k ≤ length waiting → new ≡ drop k waiting → now ≡ taken + k → HoldsBits sender new packets n now
holds_rest sender waiting new packets n taken k now h l e en =
    let size : length waiting ≡ 1632 * n - taken = ap length h.bits ∙ length-run (path_of (outer_byte packets)) (taken + 6) (1632 * n - taken) in
    let place : taken + 6 + k ≡ now + 6 = omega (arith, en) in
    let rest : 1632 * n - taken - k ≡ 1632 * n - now = omega (arith, en) in
    record {
      sends = h.sends;
      within = omega (arith, l, size, h.within, en);
      bits =
          e ∙ ap (drop k) h.bits ∙ run_dropped (path_of (outer_byte packets)) (taken + 6) (1632 * n - taken) k (omega (arith, l, size))
          ∙ ap (λ (z : ℕ). bits_from (path_of (outer_byte packets)) z (1632 * n - taken - k)) place ∙ ap (bits_from (path_of (outer_byte packets)) (now + 6)) rest;
    }

-- ---- other packets with a common prefix
same_paths : SameBeginning → (packets other : List (List ℕ)) (n i : ℕ) → ((j : ℕ) → j < n → packet_at packets j ≡ packet_at other j) → i < 1632 * n + 6 → path_of (outer_byte packets) i ≡ path_of (outer_byte other) i
same_paths alike packets other n i same l = same_path (outer_byte packets) (outer_byte other) (204 * n) i (alike packets other n same) (omega (arith, l))

pub holds_other : SameBeginning → (sender : Sender) (waiting : List Bool) (packets other : List (List ℕ)) (n taken : ℕ) → HoldsBits sender waiting packets n taken → ((i : ℕ) → i < n → packet_at packets i ≡ packet_at other i) → HoldsBits sender waiting other n taken
holds_other alike sender waiting packets other n taken h same = record {
  sends = subst (Sends sender) (first_same packets other n same) h.sends;
  within = h.within;
  bits = h.bits ∙ same_run (path_of (outer_byte packets)) (path_of (outer_byte other)) (taken + 6) (1632 * n - taken) (λ i l. same_paths alike packets other n i same (omega (arith, l, h.within)));
}

-- the same for the register
pub register_other : SameBeginning → (packets other : List (List ℕ)) (n taken : ℕ) (register : List Bool) → taken ≤ 1632 * n → ((i : ℕ) → i < n → packet_at packets i ≡ packet_at other i) → register ≡ bits_from (path_of (outer_byte packets)) taken 6
    → register ≡ bits_from (path_of (outer_byte other)) taken 6
register_other alike packets other n taken register within same e = e ∙ same_run (path_of (outer_byte packets)) (path_of (outer_byte other)) taken 6 (λ i l. same_paths alike packets other n i same (omega (arith, l, within)))

-- the register before the first bit
pub register_none : (bytes : ℕ → ℕ) (taken : ℕ) (register : List Bool) → taken ≡ 0 → register ≡ bits_from (path_of bytes) 0 6 → register ≡ bits_from (path_of bytes) taken 6
register_none bytes taken register e is = is ∙ ap (λ (z : ℕ). bits_from (path_of bytes) z 6) (sym e)
