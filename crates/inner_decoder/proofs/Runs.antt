-- Many steps of a decoder.
use Rattle.std.proofs.Common.{◌≡◌, ℕ, suc, ◌+◌, ◌*◌, ◌≤◌, Bool, false, List, [], ◌∷◌, ◌++◌, length, refl, sym, ap, ◌∙◌, subst, subst₂, arith, length-append, append_assoc, append-nil}
use Rattle.std.specs.declared.option.Option.{Option}
use Rattle.std.specs.declared.option.Option.TheVariants.{None, Some}
use Rattle.std.specs.Option.{option_to_list}
use Rattle.code_paths.specs.declared.costs.CostPair.{CostPair}
use Rattle.inner_decoder.specs.declared.decoder.Unmerged.{Unmerged}
use Rattle.code_paths.specs.Streams.{Reports, Given}
use Rattle.inner_decoder.specs.Seen.{DecoderState}
use Rattle.inner_decoder.specs.Tracking.{Stands, Stepped, Gave}
use Rattle.inner_decoder.specs.Running.{Ran, RanSymbol}
use Rattle.inner_decoder.specs.Events.{ats, at_of}

pub length_ats : (es : List Unmerged) → length (ats es) ≡ length es
length_ats [] = refl
length_ats (e ∷ es) = ap suc (length_ats es)

same_number : (r : Option Unmerged) → length (option_to_list (at_of r)) ≡ length (option_to_list r)
same_number None = refl
same_number (Some e) = refl

-- the result of steps on xs
pub record RunsTo (most : ℕ) (d0 : DecoderState) (to0 : List Bool) (d : DecoderState) (to : List Bool) (events : List ℕ) (xs : List CostPair) : Type 0 where
  pub going : d.ended ≡ false
  pub steps_is : d.steps ≡ d0.steps + length xs
  pub amount : length to + d.waiting ≡ length to0 + d0.waiting + length xs
  pub spaced : d.waiting + (most + 1) * length events ≤ d0.waiting + length xs
  pub few : d.waiting ≤ most
  pub ran : (a : Option (List Bool)) (c : List CostPair) (g : List Bool) → Stands most d0 a c g → Ran most d a c g xs to0 to events

pub runs_none : (most : ℕ) (d : DecoderState) (to : List Bool) (events : List ℕ) → d.ended ≡ false → events ≡ [] → d.waiting ≤ most → RunsTo most d to d to events []
runs_none most d to events e n l = record {
  going = e;
  steps_is = omega arith;
  amount = omega arith;
  spaced = subst (λ z. d.waiting + (most + 1) * length z ≤ d.waiting + 0) (sym n) (omega arith);
  few = l;
  ran = λ a c g h. record {
    more = [];
    appended = sym (append-nil to);
    stands = subst₂ (λ u v. Stands most d a u v) (sym (append-nil c)) (sym (append-nil g)) h;
    reports = λ rs r. subst₂ (λ u v. Reports most a u (rs ++ v)) (sym (append-nil c)) (sym n) (subst (Reports most a c) (sym (append-nil rs)) r);
  };
}

-- a single step
pub step_ran : (most : ℕ) (d : DecoderState) (a : Option (List Bool)) (c : List CostPair) (g : List Bool) (x : CostPair) (xs : List CostPair) (old new : List Bool) (r : Option ℕ) → Stepped most d a c g x old new r → xs ≡ x ∷ [] → Ran most d a c g xs old new (option_to_list r)
step_ran most d a c g x xs old new r s e = record {
  more = s.more;
  appended = s.appended;
  stands = subst (λ z. Stands most d a (c ++ z) (g ++ s.more)) (sym e) s.stands;
  reports = λ rs z. subst (λ y. Reports most a (c ++ y) (rs ++ option_to_list r)) (sym e) (s.reports rs z);
}

pub runs_more : (most : ℕ) (d0 : DecoderState) (to0 : List Bool) (d : DecoderState) (to : List Bool) (events : List ℕ) (xs : List CostPair) → RunsTo most d0 to0 d to events xs
    → (ys : List CostPair) (n : ℕ) (d2 : DecoderState) (to2 : List Bool) (r : Option Unmerged) (events2 : List ℕ) (zs : List CostPair) → length ys ≡ n
    → d2.ended ≡ false → d2.steps ≡ d.steps + n → length to2 + d2.waiting ≡ length to + d.waiting + n → d2.waiting + (most + 1) * length (option_to_list r) ≤ d.waiting + n → d2.waiting ≤ most
    → ((a : Option (List Bool)) (c : List CostPair) (g : List Bool) → Stands most d a c g → Ran most d2 a c g ys to to2 (option_to_list (at_of r)))
    → events2 ≡ events ++ option_to_list (at_of r) → zs ≡ xs ++ ys
    → RunsTo most d0 to0 d2 to2 events2 zs
runs_more most d0 to0 d to events xs h ys n d2 to2 r events2 zs u e s m p few f v y =
    let l : length zs ≡ length xs + n = ap length y ∙ length-append xs ys ∙ ap (λ z. length xs + z) u in
    let k : length events2 ≡ length events + length (option_to_list r) = ap length v ∙ length-append events (option_to_list (at_of r)) ∙ ap (λ z. length events + z) (same_number r) in
    record {
      going = e;
      steps_is = omega (arith, s, l, h.steps_is);
      amount = omega (arith, m, l, h.amount);
      spaced = omega (arith, p, l, h.spaced, ap (λ z. (most + 1) * z) k);
      few = few;
      ran = λ a c g b.
          let q = h.ran a c g b in
          let w = f a (c ++ xs) (g ++ q.more) q.stands in
          let i : (c ++ xs) ++ ys ≡ c ++ zs = append_assoc c xs ys ∙ ap (λ z. c ++ z) (sym y) in
          record {
            more = q.more ++ w.more;
            appended = w.appended ∙ ap (λ z. z ++ w.more) q.appended ∙ append_assoc to0 q.more w.more;
            stands = subst₂ (λ u v. Stands most d2 a u v) i (append_assoc g q.more w.more) w.stands;
            reports = λ rs z. subst₂ (λ u v. Reports most a u v) i (append_assoc rs events (option_to_list (at_of r)) ∙ ap (λ t. rs ++ t) (sym v)) (w.reports (rs ++ events) (q.reports rs z));
          };
    }

-- and then all shared bits were given
pub symbol_ran : (most : ℕ) (d d2 : DecoderState) (a : Option (List Bool)) (c : List CostPair) (g : List Bool) (xs : List CostPair) (old mid new : List Bool) (events : List ℕ)
    → Ran most d a c g xs old mid events
    → ((a : Option (List Bool)) (c : List CostPair) (g : List Bool) → Stands most d a c g → Gave most d2 a c g mid new)
    → RanSymbol most d2 a c g xs old new events
symbol_ran most d d2 a c g xs old mid new events q f =
    let w = f a (c ++ xs) (g ++ q.more) q.stands in
    record {
      more = q.more ++ w.more;
      appended = w.appended ∙ ap (λ z. z ++ w.more) q.appended ∙ append_assoc old q.more w.more;
      stands = subst (λ z. Stands most d2 a (c ++ xs) z) (append_assoc g q.more w.more) w.stands;
      reports = q.reports;
      whole = subst (Given most a (c ++ xs)) (append_assoc g q.more w.more) w.whole;
    }
