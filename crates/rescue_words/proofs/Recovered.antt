-- The recovery of a decoded word, and of one with its least reliable bytes erased.
use Rattle.std.proofs.Common.{◌≡◌, ℕ, cond, eqb, List, length, refl, sym, ap, ◌∙◌, arith}
use Rattle.std.specs.Prelude.{None, true, false}
use Rattle.std.proofs.lemmas.Bool.{ne_eqb, eq-eqb}
use Rattle.rs204.specs.Codes.{distance}
use Rattle.rs204.specs.Decoded.{Decoded}
use Rattle.rs204.specs.declared.outcome.Outcome.TheVariants.{Clean, Corrected, Bad}
use Rattle.bit_margin.specs.Places.{AreLeast}
use Rattle.rs_erasure.specs.Outside.{IsOutside, IsFarOutside}
use Rattle.outer_chain.specs.declared.slot.WordSlot.{WordSlot}
use Rattle.outer_chain.specs.Words.{IsNear}
use Rattle.outer_chain.proofs.DecodedWords.{decoded_is_near}
use Rattle.outer_chain.proofs.WordLaws.{distance_self}
use Rattle.rescue_words.specs.Recovery.Recovery.{Nearest, Rescued, Lost}
use Rattle.rescue_words.specs.Recovering.{HasRecovered}
use Rattle.rescue_words.specs.declared.counts.WordKind.TheVariants as kind

pub clean_word : (word margins : List ℕ) (slot : WordSlot) → length word ≡ 204 → slot.outcome ≡ Clean → Decoded word slot.word Clean → HasRecovered word margins slot kind.Clean
clean_word word margins slot long is d =
    let none : eqb (distance word slot.word) 0 ≡ true = ap (λ w. eqb (distance word w) 0) d.1 ∙ eq-eqb (distance word word) 0 (distance_self word) in
    record {
      recovery = Nearest slot.word;
      is_recovery = decoded_is_near word slot.word Clean long d;
      holds = refl;
      outcome_is = is ∙ sym (ap (λ b. cond b Clean (Corrected (distance word slot.word))) none);
      kind_is = sym (ap (λ b. cond b kind.Clean kind.Corrected) none);
    }

pub corrected_word : (word margins : List ℕ) (slot : WordSlot) (n : ℕ) → length word ≡ 204 → slot.outcome ≡ Corrected n → Decoded word slot.word (Corrected n) → HasRecovered word margins slot kind.Corrected
corrected_word word margins slot n long is d =
    let some : eqb (distance word slot.word) 0 ≡ false = ne_eqb (distance word slot.word) 0 (λ e. absurd (omega (arith, d.1, d.2, e))) in
    record {
      recovery = Nearest slot.word;
      is_recovery = decoded_is_near word slot.word (Corrected n) long d;
      holds = refl;
      outcome_is = is ∙ ap Corrected (sym d.1) ∙ sym (ap (λ b. cond b Clean (Corrected (distance word slot.word))) some);
      kind_is = sym (ap (λ b. cond b kind.Clean kind.Corrected) some);
    }

pub rescued_word : (word margins places : List ℕ) (slot : WordSlot) (n : ℕ) → slot.outcome ≡ Clean → AreLeast margins 204 places → IsOutside word places n slot.word → IsNear word None → HasRecovered word margins slot kind.Rescued
rescued_word word margins places slot n is least out far = record {
  recovery = Rescued slot.word;
  is_recovery = (far, record { erased = places; least = least; apart = n; outside = out });
  holds = refl;
  outcome_is = is;
  kind_is = refl;
}

pub lost_word : (word margins places : List ℕ) (slot : WordSlot) → slot.outcome ≡ Bad → AreLeast margins 204 places → slot.word ≡ word → IsFarOutside word places → IsNear word None → HasRecovered word margins slot kind.Bad
lost_word word margins places slot is least same out far = record {
  recovery = Lost;
  is_recovery = (far, record { erased = places; least = least; far = out });
  holds = same;
  outcome_is = is;
  kind_is = refl;
}
