-- Decoding finds the nearest codeword.
use Rattle.std.proofs.Common.{◌≡◌, ℕ, List, length, refl, sym, ◌∙◌, ap, subst, arith, true≢false}
use Rattle.std.specs.Prelude.{◌≢◌, Some, None}
use Rattle.std.proofs.lemmas.Bool.{eqb-true, eq-eqb}
use Rattle.rs204.specs.Codes.{IsCodeword, distance}
use Rattle.rs204.specs.declared.outcome.Outcome.TheVariants.{Clean, Corrected, Bad}
use Rattle.rs204.proofs.Distance.{same_word}
use Rattle.rs204.specs.Decoded.{Decoded}
use Rattle.rs204.specs.declared.outcome.Outcome.{Outcome}
use Rattle.outer_chain.specs.Words.{IsNear, packet_of, is_clean}
use Rattle.outer_chain.specs.Nears.{near_of, DecodedIsNear, DecodedPacket, CleanIsCodeword}
use Rattle.outer_chain.proofs.NearWords.{near_is}
use Rattle.outer_chain.proofs.WordLaws.{distance_self}

pub decoded_is_near : DecodedIsNear
decoded_is_near old new Clean l d = (subst IsCodeword (sym d.1) d.0, omega (arith, ap (distance old) d.1, distance_self old))
decoded_is_near old new (Corrected n) l d = (d.0, omega (arith, d.1, d.3))
decoded_is_near old new Bad l d = d.1

pub decoded_packet : DecodedPacket
decoded_packet old new Clean phase d = refl
decoded_packet old new (Corrected n) phase d = refl
decoded_packet old new Bad phase d = ap (λ w. packet_of phase w None) d.0

pub clean_is_codeword : CleanIsCodeword
clean_is_codeword word None l h = (λ e. absurd (true≢false (sym e)), λ k. absurd (omega (arith, h word k, distance_self word)))
clean_is_codeword word (Some c) l h = (
  λ e. subst IsCodeword (sym (same_word word c (l ∙ sym h.0.long) (eqb-true (distance word c) 0 e))) h.0,
  λ k. ap (is_clean word) (near_is word word (Some c) l k (omega (arith, distance_self word)) h) ∙ eq-eqb (distance word word) 0 (distance_self word),
)

-- decoding a word with a nearest codeword gives it
pub decoded_nearest : (old new near : List ℕ) (outcome : Outcome) → length old ≡ 204 → Decoded old new outcome → IsNear old (Some near) → near_of outcome new ≡ Some near
decoded_nearest old new near outcome l d h = near_is old near (near_of outcome new) l h.0 h.1 (decoded_is_near old new outcome l d)

pub nearest_taken : (new near : List ℕ) (outcome : Outcome) → near_of outcome new ≡ Some near → new ≡ near
nearest_taken new near Clean e = cc
nearest_taken new near (Corrected n) e = cc
nearest_taken new near Bad e = cc

pub nearest_told : (new near : List ℕ) (outcome : Outcome) → near_of outcome new ≡ Some near → outcome ≢ Bad
nearest_told new near Clean e = λ x. cc
nearest_told new near (Corrected n) e = λ x. cc
nearest_told new near Bad e = cc
