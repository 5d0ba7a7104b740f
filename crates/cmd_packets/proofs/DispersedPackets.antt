-- The dispersed packets of one more packet.
use Rattle.std.proofs.Common.{◌≡◌, ℕ, suc, ◌+◌, ◌%◌, List, [], ◌∷◌, ◌++◌, length, refl, ◌∙◌, sym, ap, arith, append_assoc}
use Rattle.std.specs.Prelude.{flat_map}
use Rattle.std.specs.List.{enumerate_from}
use Rattle.std.proofs.lemmas.List.{append-nil}
use Rattle.dispersal.specs.Packet.{dispersed}
use Rattle.cmd_packets.specs.DispersedPackets.{dispersed_packets}
use Rattle.cmd_packets.proofs.Growing.{Grows}

from : ℕ → List (List ℕ) → List ℕ
from k packets = flat_map (λ p. dispersed (p.0 % 8) p.1) (enumerate_from k packets)

from_more : (k : ℕ) (packets : List (List ℕ)) (p : List ℕ) → from k (packets ++ p ∷ []) ≡ from k packets ++ dispersed ((k + length packets) % 8) p
unfolding from
from_more k [] p = append-nil (dispersed (k % 8) p) ∙ ap (λ (n : ℕ). dispersed (n % 8) p) (let e : k ≡ k + 0 = omega arith in e)
from_more k (q ∷ qs) p =
    ap (λ (l : List ℕ). dispersed (k % 8) q ++ l) (from_more (k + 1) qs p ∙ ap (λ (n : ℕ). from (k + 1) qs ++ dispersed (n % 8) p) (let e : k + 1 + length qs ≡ k + suc (length qs) = omega arith in e))
    ∙ sym (append_assoc (dispersed (k % 8) q) (from (k + 1) qs) (dispersed ((k + suc (length qs)) % 8) p))

pub dispersed_more : (phase : ℕ) (packets : List (List ℕ)) (p : List ℕ) → phase ≡ length packets % 8 → dispersed_packets (packets ++ p ∷ []) ≡ dispersed_packets packets ++ dispersed phase p
unfolding dispersed_packets from
dispersed_more phase packets p is =
    from_more 0 packets p ∙ ap (λ (n : ℕ). dispersed_packets packets ++ dispersed n p) (let e : (0 + length packets) % 8 ≡ phase = omega (arith, is) in e)

pub dispersed_grows : Grows dispersed_packets
dispersed_grows packets p = (dispersed (length packets % 8) p, dispersed_more (length packets % 8) packets p refl)
