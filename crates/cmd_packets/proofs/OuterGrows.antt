-- The outer bytes of one more packet.
use Rattle.std.proofs.Common.{◌≡◌, ℕ, zero, suc, ◌+◌, ◌*◌, List, [], ◌∷◌, ◌++◌, length, ◌∙◌, ap, arith, length-append}
use Rattle.forney.specs.Values.{values}
use Rattle.outer_chain.specs.Sent.{outer_byte, outer_bytes, sent_bytes}
use Rattle.outer_chain.specs.SendingLaws.{MorePacketsSent}
use Rattle.cmd_packets.proofs.Growing.{Grows}

-- the values from an index on, in two parts
values_parts : (f : ℕ → ℕ) (i a b : ℕ) → values f i (a + b) ≡ values f i a ++ values f (i + a) b
unfolding values
values_parts f i zero b = ap (λ (n : ℕ). values f i n) (let e : zero + b ≡ b = omega arith in e) ∙ ap (λ (n : ℕ). values f n b) (let e : i ≡ i + zero = omega arith in e)
values_parts f i (suc a) b =
    ap (λ (n : ℕ). values f i n) (let e : suc a + b ≡ suc (a + b) = omega arith in e)
    ∙ ap (λ (l : List ℕ). f i ∷ l) (values_parts f (suc i) a b ∙ ap (λ (n : ℕ). values f (suc i) a ++ values f n b) (let e : suc i + a ≡ i + suc a = omega arith in e))

pub outer_grows : MorePacketsSent → Grows sent_bytes
unfolding outer_bytes
outer_grows more packets p =
    let both = packets ++ p ∷ [] in
    let n = 204 * length packets in
    let size : 204 * length both ≡ n + 204 = omega (arith, length-append packets (p ∷ [])) in (
      values (outer_byte both) (0 + n) 204,
      ap (λ (m : ℕ). outer_bytes both m) size ∙ values_parts (outer_byte both) 0 n 204 ∙ ap (λ (l : List ℕ). l ++ values (outer_byte both) (0 + n) 204) (more packets (p ∷ [])),
    )
