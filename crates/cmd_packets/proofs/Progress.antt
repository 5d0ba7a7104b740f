-- The progress of the coding of packets.
use Rattle.std.proofs.Common.{◌≡◌, ℕ, ◌+◌, ◌*◌, ◌%◌, ◌<◌, ◌≤◌, Bool, true, false, List, [], ◌∷◌, ◌++◌, length, take, drop, refl, ◌∙◌, sym, ap, subst, arith, length-drop, append_assoc, below_more, Result, Ok, Err, Some, None}
use Rattle.std.specs.Prelude.{slice_index, nat_lt, ◌&&◌, ◌==◌}
use Rattle.std.proofs.Math.Seq.{take-append-add}
use Rattle.std.proofs.Math.Numerals.{add-one}
use Rattle.std.proofs.lemmas.List.{drop-drop, append-nil}
use Rattle.std.proofs.lemmas.Bool.{lt-ltb}
use Rattle.cmd_base.specs.declared.counts.Counts.{Counts}
use Rattle.cmd_base.specs.declared.refusal.Refusal.{Refusal}
use Rattle.cmd_base.specs.declared.refusal.Refusal.TheVariants.{Usage, Settings, ReadFault, WriteFault, NotSync, Memory, Limit, Cells}
use Rattle.cmd_base.specs.Packets.{file_packet, whole_packets, first_packets, is_sync, is_accepted, AcceptsFirst}
use Rattle.cmd_packets.specs.Coding.{OnTaken, Step, EndsAtLimit, Codes}

-- n packets of the input were taken, accepted and written
pub record Progress (coded : List (List ℕ) → List ℕ) (limit n : ℕ) (input before left after : List ℕ) : Type 0 where
  pub within : 188 * n ≤ length input
  pub left_is : left ≡ drop (188 * n) input
  pub written : after ≡ before ++ coded (first_packets n input)
  pub accepted : AcceptsFirst limit input n

pub started : (coded : List (List ℕ) → List ℕ) (limit : ℕ) (input before : List ℕ) → coded [] ≡ [] → Progress coded limit 0 input before input before
unfolding first_packets
started coded limit input before empty = record {
  within = omega arith;
  left_is = refl;
  written = sym (append-nil before) ∙ ap (λ (l : List ℕ). before ++ l) (sym empty);
  accepted = λ i lt. absurd (omega arith);
}

-- a packet within the limit that begins with the sync byte
accepts : (limit i : ℕ) (input : List ℕ) → i < limit → is_sync input i ≡ true → is_accepted limit input i ≡ true
accepts limit i input lt sync = go (nat_lt i limit) (is_sync input i) (lt-ltb i limit lt) sync
  where
    go : (a b : Bool) → a ≡ true → b ≡ true → (a && b) ≡ true
    go true true p q = refl
    go true false p q = q
    go false b p q = p

pub first_more : (n : ℕ) (input : List ℕ) → first_packets (n + 1) input ≡ first_packets n input ++ file_packet input n ∷ []
unfolding first_packets
first_more n input = rw add-one refl

-- the output of a coder now continues that at its start
pub gives_first : (coded first : List (List ℕ) → List ℕ) (packets more : List (List ℕ)) (piece : List ℕ) → ((ps : List (List ℕ)) → coded ps ≡ first ps) → coded (packets ++ more) ≡ coded packets ++ piece → first (packets ++ more) ≡ first packets ++ piece
gives_first coded first packets more piece same gives = sym (same (packets ++ more)) ∙ gives ∙ ap (λ (l : List ℕ). l ++ piece) (same packets)

pub ends_first : (coded ended coded' ended' : List (List ℕ) → List ℕ) (packets : List (List ℕ)) (piece : List ℕ) → ((ps : List (List ℕ)) → coded' ps ≡ coded ps) → ((ps : List (List ℕ)) → ended' ps ≡ ended ps)
    → ended' packets ≡ coded' packets ++ piece → ended packets ≡ coded packets ++ piece
ends_first coded ended coded' ended' packets piece same same_end gives = sym (same_end packets) ∙ gives ∙ ap (λ (l : List ℕ). l ++ piece) (same packets)

pub taken : {P : Type 0} (r : Refusal) → OnTaken (Err r) P → r ≡ WriteFault → P
taken {P = P} r on is = subst (λ (x : Refusal). OnTaken (Err x) P) is on

module _ (coded : List (List ℕ) → List ℕ) (limit n : ℕ) (input before left after : List ℕ) (p : Progress coded limit n input before left after) where
  front : take 188 left ≡ file_packet input n
  front = ap (λ (l : List ℕ). take 188 l) p.left_is

  pub next_packets : first_packets n input ++ take 188 left ∷ [] ≡ first_packets (n + 1) input
  next_packets = ap (λ (x : List ℕ). first_packets n input ++ x ∷ []) front ∙ sym (first_more n input)

  size : length left + 188 * n ≡ length input
  size = omega (arith, ap length p.left_is, length-drop (188 * n) input, p.within)

  first_is_next : is_sync left 0 ≡ is_sync input n
  first_is_next = ap (λ (l : List ℕ). slice_index l 0 == 0x47) front

  -- the output for the next packet
  abbrev Gives : List ℕ → Type 0
  Gives piece = coded (first_packets n input ++ take 188 left ∷ []) ≡ coded (first_packets n input) ++ piece

  one_more : (piece : List ℕ) → Gives piece → coded (first_packets n input) ++ piece ≡ coded (first_packets (n + 1) input)
  one_more piece gives = sym gives ∙ ap coded next_packets

  accepted_more : n < limit → is_sync left 0 ≡ true → AcceptsFirst limit input (n + 1)
  accepted_more lt sync = below_more (λ i. is_accepted limit input i ≡ true) n p.accepted (accepts limit n input lt (sym first_is_next ∙ sync))

  -- the bytes left after the next packet, and after part of it
  next_left : (left' : List ℕ) → left' ≡ drop 188 left → left' ≡ drop (188 * (n + 1)) input
  next_left left' e = e ∙ ap (λ (l : List ℕ). drop 188 l) p.left_is ∙ drop-drop 188 (188 * n) input ∙ ap (λ (k : ℕ). drop k input) (omega arith)

  part_left : (left' : List ℕ) (j : ℕ) → left' ≡ drop j left → left' ≡ drop (188 * n + j) input
  part_left left' j e = e ∙ ap (λ (l : List ℕ). drop j l) p.left_is ∙ drop-drop j (188 * n) input

  pub goes_on : (piece left' after' : List ℕ) → n < limit → Gives piece → Step n piece left after left' after' (Ok None) → Progress coded limit (n + 1) input before left' after'
  goes_on piece left' after' lt gives s = record {
    within = omega (arith, s.0, size);
    left_is = next_left left' s.2;
    written =
        s.3 ∙ ap (λ (l : List ℕ). l ++ piece) p.written
        ∙ append_assoc before (coded (first_packets n input)) piece
        ∙ ap (λ (l : List ℕ). before ++ l) (one_more piece gives);
    accepted = accepted_more lt s.1;
  }

  pub ends : (piece : List ℕ) (tail : ℕ) (left' after' : List ℕ) → Step n piece left after left' after' (Ok (Some tail)) → Codes coded limit input before left' after' (Ok (record { packets = n; tail = tail }))
  ends piece tail left' after' s =
      let whole : n ≡ whole_packets input = omega (arith, s.0, s.1, size) in
      let rest : tail ≡ length input % 188 = omega (arith, s.0, s.1, size) in (
        (λ i. record { packets = whole i; tail = rest i }),
        subst (AcceptsFirst limit input) whole p.accepted,
        s.2,
        s.3 ∙ p.written ∙ ap (λ (k : ℕ). before ++ coded (first_packets k input)) whole,
      )

  prefix : (piece : List ℕ) (k : ℕ) → Gives piece → coded (first_packets n input) ++ take k piece ≡ take (length (coded (first_packets n input)) + k) (coded (first_packets (n + 1) input))
  prefix piece k gives =
      sym (take-append-add (coded (first_packets n input)) piece k)
      ∙ ap (λ (l : List ℕ). take (length (coded (first_packets n input)) + k) l) (one_more piece gives)

  pub refused : (piece : List ℕ) (r : Refusal) (left' after' : List ℕ) → n < limit → (r ≡ WriteFault → Gives piece) → Step n piece left after left' after' (Err r) → Codes coded limit input before left' after' (Err r)
  refused piece Usage left' after' lt gives s = s
  refused piece (Cells reason) left' after' lt gives s = s
  refused piece (Settings reason) left' after' lt gives s = s
  refused piece Memory left' after' lt gives s = s
  refused piece (Limit m) left' after' lt gives s = absurd s
  refused piece ReadFault left' after' lt gives s = (
    n,
    omega (arith, s.1, s.2, ap length s.3, length-drop s.0 left, size),
    omega (arith, size),
    p.accepted,
    (s.0, s.1, part_left left' s.0 s.3),
    s.4 ∙ p.written,
  )
  refused piece WriteFault left' after' lt gives s = (
    n + 1,
    length (coded (first_packets n input)) + s.0,
    omega (arith, s.1, size),
    accepted_more lt s.2,
    next_left left' s.3,
    s.4 ∙ ap (λ (l : List ℕ). l ++ take s.0 piece) p.written
        ∙ append_assoc before (coded (first_packets n input)) (take s.0 piece)
        ∙ ap (λ (l : List ℕ). before ++ l) (prefix piece s.0 (gives refl)),
  )
  refused piece (NotSync stream m) left' after' lt gives s =
      let At : ℕ → Type 0 = λ k. AcceptsFirst limit input k × (k < whole_packets input) × (k < limit) × (is_sync input k ≡ false) × (left' ≡ drop (188 * (k + 1)) input) × (after' ≡ before ++ coded (first_packets k input)) in
      let here : At n = (
        p.accepted,
        omega (arith, s.2, size),
        lt,
        sym first_is_next ∙ s.3,
        next_left left' s.4,
        s.5 ∙ p.written,
      ) in
      let there : At m = subst At (sym s.1) here in
      (s.0, there.0, there.1, there.2, there.3, there.4, there.5)

-- the end at the limit
module _ (coded : List (List ℕ) → List ℕ) (limit : ℕ) (input before left after : List ℕ) (p : Progress coded limit limit input before left after) where
  all_size : length left + 188 * limit ≡ length input
  all_size = omega (arith, ap length p.left_is, length-drop (188 * limit) input, p.within)

  pub ended : (r : Result Counts Refusal) (left' after' : List ℕ) → EndsAtLimit limit left after left' after' r → Codes coded limit input before left' after' r
  ended (Ok counts) left' after' e =
      let whole : limit ≡ whole_packets input = omega (arith, e.1, e.2, all_size) in
      let rest : counts.tail ≡ length input % 188 = omega (arith, e.1, e.2, all_size) in
      let all : counts.packets ≡ whole_packets input = e.0 ∙ whole in (
        (λ i. record { packets = all i; tail = rest i }),
        subst (AcceptsFirst limit input) whole p.accepted,
        e.3,
        e.4 ∙ p.written ∙ ap (λ (k : ℕ). before ++ coded (first_packets k input)) whole,
      )
  ended (Err Usage) left' after' e = e
  ended (Err (Cells reason)) left' after' e = e
  ended (Err (Settings reason)) left' after' e = e
  ended (Err Memory) left' after' e = e
  ended (Err WriteFault) left' after' e = absurd e
  ended (Err (NotSync stream m)) left' after' e = absurd e
  ended (Err (Limit m)) left' after' e =
      let At : ℕ → Type 0 = λ k. AcceptsFirst limit input k × (k < whole_packets input) × (left' ≡ drop (188 * (k + 1)) input) × (after' ≡ before ++ coded (first_packets k input)) in
      let behind : left' ≡ drop (188 * (limit + 1)) input =
      e.2 ∙ ap (λ (l : List ℕ). drop 188 l) p.left_is ∙ drop-drop 188 (188 * limit) input ∙ ap (λ (k : ℕ). drop k input) (omega arith) in
      let here : At limit = (p.accepted, omega (arith, e.1, all_size), behind, e.3 ∙ p.written) in
      let there : At m = subst At (sym e.0) here in
      (e.0, there.0, there.1, there.2, there.3)
  ended (Err ReadFault) left' after' e = (
    limit,
    omega (arith, e.1, e.2, ap length e.3, length-drop e.0 left, all_size),
    omega (arith, all_size),
    p.accepted,
    (e.0, e.1, e.3 ∙ ap (λ (l : List ℕ). drop e.0 l) p.left_is ∙ drop-drop e.0 (188 * limit) input),
    e.4 ∙ p.written,
  )
