-- The packets received of a stream are its own, then null packets.
use Rattle.std.proofs.Common.{◌≡◌, ℕ, zero, suc, ◌+◌, ◌-◌, ◌≤◌, List, [], ◌∷◌, ◌++◌, length, take, refl, sym, ap, ◌∙◌, subst, arith, append_assoc, append-nil}
use Rattle.std.specs.Prelude.{Some, replicate}
use Rattle.std.specs.List.{concat}
use Rattle.std.proofs.lemmas.List.{take_all, get_or_past}
use Rattle.std.proofs.lemmas.List.Folds.{concat-append}
use Rattle.std.proofs.Math.Seq.{take-suc}
use Rattle.ts_packet.specs.Packet.{null_packet}
use Rattle.outer_chain.specs.Sent.{packet_at, joined}
use Rattle.symbol_parameters.specs.Spans.{words_before}
use Rattle.mode_set.specs.declared.settings.Settings.{Settings}
use Rattle.transmission.specs.Transmission.{Inputs}
use Rattle.transmission.specs.SuperFrames.{AreSuperFrames, IsLength, super_frames, counts_of}
use Rattle.transmission.specs.Laws.{TheNumberIsFound}
use Rattle.law_link.specs.Returned.{words_of}
use Rattle.law_link.specs.Laws.{PacketsThenNulls}

front : (xs : List (List ℕ)) (k : ℕ) → k ≤ length xs → joined (packet_at xs) k ≡ concat (take k xs)
unfolding joined
front xs zero l = refl
front xs (suc k) l =
    ap (λ (z : List ℕ). z ++ packet_at xs k) (front xs k (omega (arith, l)))
    ∙ ap (λ (z : List ℕ). concat (take k xs) ++ z) (sym (append-nil (packet_at xs k)))
    ∙ sym (concat-append (take k xs) (packet_at xs k ∷ []))
    ∙ ap concat (sym (take-suc xs k null_packet l))

all_joined : (xs : List (List ℕ)) → joined (packet_at xs) (length xs) ≡ concat xs
all_joined xs = front xs (length xs) (omega arith) ∙ ap concat (take_all (length xs) xs (omega arith))

one_more : (p : List ℕ) (j : ℕ) → concat (replicate j p) ++ p ≡ concat (replicate (suc j) p)
one_more p zero = sym (append-nil p)
one_more p (suc j) = append_assoc p (concat (replicate j p)) p ∙ ap (λ (z : List ℕ). p ++ z) (one_more p j)

behind : (xs : List (List ℕ)) (j : ℕ) → joined (packet_at xs) (j + length xs) ≡ concat xs ++ concat (replicate j null_packet)
unfolding joined
behind xs zero = let same : 0 + length xs ≡ length xs = omega arith in ap (joined (packet_at xs)) same ∙ all_joined xs ∙ sym (append-nil (concat xs))
behind xs (suc j) =
    let next : suc j + length xs ≡ suc (j + length xs) = omega arith in
    ap (joined (packet_at xs)) next
    ∙ ap (λ (z : List ℕ). z ++ packet_at xs (j + length xs)) (behind xs j)
    ∙ ap (λ (z : List ℕ). (concat xs ++ concat (replicate j null_packet)) ++ z) (get_or_past xs (j + length xs) null_packet (omega arith))
    ∙ append_assoc (concat xs) (concat (replicate j null_packet)) null_packet
    ∙ ap (λ (z : List ℕ). concat xs ++ z) (one_more null_packet j)

enough_for : (s : Settings) (inputs : Inputs) (n : ℕ) → TheNumberIsFound → super_frames s (counts_of inputs) ≡ Some n → AreSuperFrames s (counts_of inputs) n
enough_for s inputs n found e = subst (IsLength s (counts_of inputs)) e (found s (counts_of inputs))

pub packets_then_nulls : TheNumberIsFound → PacketsThenNulls
packets_then_nulls found s inputs n σ frames exists =
    let enough = (enough_for s inputs n found frames).suffices σ exists in
    let all : words_of s σ n ≡ words_of s σ n - length (inputs σ) + length (inputs σ) = sum_up (words_before s σ n) (length (inputs σ)) enough in
    ap (joined (packet_at (inputs σ))) all ∙ behind (inputs σ) (words_of s σ n - length (inputs σ))
  where
    sum_up : (a n : ℕ) → n + 11 ≤ a → a - 11 ≡ a - 11 - n + n
    sum_up a n l = omega (arith, l)
