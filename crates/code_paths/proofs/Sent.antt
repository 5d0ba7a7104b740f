-- The path that the costs favour is the least one.
use Rattle.std.proofs.Common.{◌≡◌, ℕ, suc, ◌+◌, ◌<◌, ◌≤◌, Bool, true, false, cond, not, List, [], ◌∷◌, ◌++◌, length, take, drop, ◌⊎◌, inl, inr, refl, sym, ap, ap₂, ◌∙◌, subst, subst₂, arith, length-append, length-drop, length-take-le, append_assoc, take-append-drop, drop-drop, get_or-take, ext_get_or}
use Rattle.std.proofs.lemmas.Bool.{cases_lt}
use Rattle.std.proofs.lemmas.List.{take-take, drop-take}
use Rattle.std.specs.declared.option.Option.{Option}
use Rattle.std.specs.declared.option.Option.TheVariants.{Some}
use Rattle.code_paths.specs.declared.costs.CostPair.{CostPair}
use Rattle.spec_words.specs.Bits.{bit, xor}
use Rattle.code_paths.specs.Paths.{parity_x, parity_y, total, step_cost, IsPath, Least, LeastTo, Before}
use Rattle.code_paths.specs.Streams.{IsPrefix, Shared, Part, end_of, IsCut, bits_of, Given, Ended}
use Rattle.code_paths.specs.Favoured.{Favours, Allows, SpeaksFor, SpeakFor, IsShown, KeepsSent}
use Rattle.code_paths.proofs.Unique.{least_unique}

-- ---- one step

allowed : (b d : Bool) (m n : ℕ) → Allows b m n → cond b n m ≤ cond d n m
allowed true true m n h = omega arith
allowed false false m n h = omega arith
allowed true false m n (inl h) = omega (arith, h)
allowed true false m n (inr e) = omega (arith, e)
allowed false true m n (inl h) = omega (arith, h)
allowed false true m n (inr e) = omega (arith, e)

favoured : (b d : Bool) (m n : ℕ) → d ≡ not b → Favours b m n → cond b n m < cond d n m
favoured true false m n e h = h
favoured false true m n e h = h
favoured true true m n e h = absurd cc
favoured false false m n e h = absurd cc

step_least : (c : CostPair) (p q : List Bool) → SpeaksFor c p → step_cost c p ≤ step_cost c q
step_least c p q h = omega (arith, allowed (parity_x p) (parity_x q) c.x0 c.x1 h.x, allowed (parity_y p) (parity_y q) c.y0 c.y1 h.y)

step_less : (c : CostPair) (p q : List Bool) → parity_x q ≡ not (parity_x p) → parity_y q ≡ not (parity_y p) → SpeaksFor c p → step_cost c p < step_cost c q
step_less c p q e f h = go h.sent
  where
    go : Favours (parity_x p) c.x0 c.x1 ⊎ Favours (parity_y p) c.y0 c.y1 → step_cost c p < step_cost c q
    go (inl s) = omega (arith, favoured (parity_x p) (parity_x q) c.x0 c.x1 e s, allowed (parity_y p) (parity_y q) c.y0 c.y1 h.y)
    go (inr s) = omega (arith, favoured (parity_y p) (parity_y q) c.y0 c.y1 f s, allowed (parity_x p) (parity_x q) c.x0 c.x1 h.x)

-- no other list costs less
never_less : (c : List CostPair) (p q : List Bool) → SpeakFor c p → total c p ≤ total c q
never_less [] p q h = omega arith
never_less (x ∷ c) p q h = omega (arith, step_least x p q h.0, never_less c (drop 1 p) (drop 1 q) h.1)

-- ---- one register and two inputs

xor_other : (a b r : Bool) → b ≡ not a → xor b r ≡ not (xor a r)
xor_other true true r e = absurd cc
xor_other false false r e = absurd cc
xor_other true false true e = refl
xor_other true false false e = refl
xor_other false true true e = refl
xor_other false true false e = refl

abbrev Alike : ℕ → List Bool → List Bool → Type 0
Alike n p q = (k : ℕ) → k < n → bit p k ≡ bit q k

same_or_not : (a b : Bool) → (a ≡ b) ⊎ (b ≡ not a)
same_or_not true true = inl refl
same_or_not false false = inl refl
same_or_not true false = inr refl
same_or_not false true = inr refl

rest_x : (p q : List Bool) → Alike 6 p q → xor (bit p 5) (xor (bit p 4) (xor (bit p 3) (bit p 0))) ≡ xor (bit q 5) (xor (bit q 4) (xor (bit q 3) (bit q 0)))
rest_x p q f = rw (f 5 (omega arith), f 4 (omega arith), f 3 (omega arith), f 0 (omega arith))

rest_y : (p q : List Bool) → Alike 6 p q → xor (bit p 4) (xor (bit p 3) (xor (bit p 1) (bit p 0))) ≡ xor (bit q 4) (xor (bit q 3) (xor (bit q 1) (bit q 0)))
rest_y p q f = rw (f 4 (omega arith), f 3 (omega arith), f 1 (omega arith), f 0 (omega arith))

other_x : (p q : List Bool) → Alike 6 p q → bit q 6 ≡ not (bit p 6) → parity_x q ≡ not (parity_x p)
other_x p q f e = xor_other (bit p 6) (bit q 6) _ e ∙ ap (λ z. not (xor (bit p 6) z)) (sym (rest_x p q f))

other_y : (p q : List Bool) → Alike 6 p q → bit q 6 ≡ not (bit p 6) → parity_y q ≡ not (parity_y p)
other_y p q f e = xor_other (bit p 6) (bit q 6) _ e ∙ ap (λ z. not (xor (bit p 6) z)) (sym (rest_y p q f))

same_step : (c : CostPair) (p q : List Bool) → Alike 6 p q → bit p 6 ≡ bit q 6 → step_cost c p ≡ step_cost c q
same_step c p q f e = ap₂ (λ u v. cond u c.x1 c.x0 + cond v c.y1 c.y0) (ap₂ xor e (rest_x p q f)) (ap₂ xor e (rest_y p q f))

alike_next : (a b : Bool) (p q : List Bool) → Alike 6 (a ∷ p) (b ∷ q) → bit (a ∷ p) 6 ≡ bit (b ∷ q) 6 → Alike 6 p q
alike_next a b p q f e k l = go (cases_lt k 5)
  where
    go : (k < 5) ⊎ (5 ≤ k) → bit p k ≡ bit q k
    go (inl m) = f (suc k) (omega arith)
    go (inr m) = let i : k ≡ 5 = omega arith in rw i e

-- every other path from the same register costs more
pub others_cost_more : (c : List CostPair) (p q : List Bool) → length p ≡ 6 + length c → length q ≡ 6 + length c → Alike 6 p q → SpeakFor c p → (p ≡ q) ⊎ (total c p < total c q)
others_cost_more [] p q l k f h = inl (ext_get_or false p q (l ∙ sym k) (λ j w. f j (omega arith)))
others_cost_more (x ∷ c) [] q l k f h = absurd (omega arith)
others_cost_more (x ∷ c) (a ∷ p) [] l k f h = absurd (omega arith)
others_cost_more (x ∷ c) (a ∷ p) (b ∷ q) l k f h = go (same_or_not (bit (a ∷ p) 6) (bit (b ∷ q) 6)) (others_cost_more c p q (omega arith) (omega arith))
  where
    more : (p ≡ q) ⊎ (total c p < total c q) → step_cost x (a ∷ p) ≡ step_cost x (b ∷ q) → (a ∷ p ≡ b ∷ q) ⊎ (total (x ∷ c) (a ∷ p) < total (x ∷ c) (b ∷ q))
    more (inl e) s = inl (ap₂ (λ y ys. y ∷ ys) (f 0 (omega arith)) e)
    more (inr w) s = inr (omega (arith, w, s))

    go : (bit (a ∷ p) 6 ≡ bit (b ∷ q) 6) ⊎ (bit (b ∷ q) 6 ≡ not (bit (a ∷ p) 6)) → (Alike 6 p q → SpeakFor c p → (p ≡ q) ⊎ (total c p < total c q)) → (a ∷ p ≡ b ∷ q) ⊎ (total (x ∷ c) (a ∷ p) < total (x ∷ c) (b ∷ q))
    go (inl e) g = more (g (alike_next a b p q f e) h.1) (same_step x (a ∷ p) (b ∷ q) f e)
    go (inr e) g = inr (omega (arith, step_less x (a ∷ p) (b ∷ q) (other_x (a ∷ p) (b ∷ q) f e) (other_y (a ∷ p) (b ∷ q) f e) h.0, never_less c p q h.1))

-- ---- paths

alike_starts : (r p q : List Bool) → take 6 p ≡ r → take 6 q ≡ r → Alike 6 p q
alike_starts r p q e f k l = sym (get_or-take 6 p k false l) ∙ ap (λ z. bit z k) (e ∙ sym f) ∙ get_or-take 6 q k false l

pub shown_first : (r : List Bool) (c : List CostPair) (p q : List Bool) → IsShown r c p → IsPath (Some r) c q → (p ≡ q) ⊎ (total c p < total c q)
shown_first r c p q h k = others_cost_more c p q h.path.long k.long (alike_starts r p q h.path.start k.start) h.speak

pub shown_least : (r : List Bool) (c : List CostPair) (p : List Bool) → IsShown r c p → Least (Some r) c p
shown_least r c p h = record { path = h.path; first = λ q k. go q (shown_first r c p q h k) }
  where
    go : (q : List Bool) → (p ≡ q) ⊎ (total c p < total c q) → (p ≡ q) ⊎ Before c p q
    go q (inl e) = inl e
    go q (inr w) = inr (inl w)

shown_to : (r : List Bool) (c : List CostPair) (p : List Bool) → IsShown r c p → LeastTo (Some r) c (drop (length c) p) p
shown_to r c p h = let l = shown_least r c p h in record { path = h.path; ends = refl; first = λ q k e. l.first q k }

-- ---- prefixes and ends of such a path

speak_step : (x : CostPair) (p : List Bool) (n : ℕ) → 7 ≤ n → SpeaksFor x p → SpeaksFor x (take n p)
speak_step x p n l h =
    let f : (k : ℕ) → k < 7 → bit p k ≡ bit (take n p) k = λ k w. sym (get_or-take n p k false (omega arith)) in
    let ex : parity_x p ≡ parity_x (take n p) = rw (f 6 (omega arith), f 5 (omega arith), f 4 (omega arith), f 3 (omega arith), f 0 (omega arith)) in
    let ey : parity_y p ≡ parity_y (take n p) = rw (f 6 (omega arith), f 4 (omega arith), f 3 (omega arith), f 1 (omega arith), f 0 (omega arith)) in
    record {
      x = subst (λ b. Allows b x.x0 x.x1) ex h.x;
      y = subst (λ b. Allows b x.y0 x.y1) ey h.y;
      sent = subst₂ (λ b d. Favours b x.x0 x.x1 ⊎ Favours d x.y0 x.y1) ex ey h.sent;
    }

speak_front : (c m : List CostPair) (p : List Bool) → SpeakFor (c ++ m) p → SpeakFor c (take (6 + length c) p)
speak_front [] m p h = tt
speak_front (x ∷ c) m p h =
    let i : 6 + length (x ∷ c) ≡ 1 + (6 + length c) = omega arith in
    let e : drop 1 (take (6 + length (x ∷ c)) p) ≡ take (6 + length c) (drop 1 p) = ap (λ n. drop 1 (take n p)) i ∙ drop-take 1 (6 + length c) p in
    (speak_step x p (6 + length (x ∷ c)) (omega arith) h.0, subst (SpeakFor c) (sym e) (speak_front c m (drop 1 p) h.1))

speak_back : (c m : List CostPair) (p : List Bool) → SpeakFor (c ++ m) p → SpeakFor m (drop (length c) p)
speak_back [] m p h = h
speak_back (x ∷ c) m p h =
    let e : 1 + length c ≡ length (x ∷ c) = omega arith in
    subst (SpeakFor m) (drop-drop (length c) 1 p ∙ ap (λ n. drop n p) e) (speak_back c m (drop 1 p) h.1)

shown_front : (r : List Bool) (c m : List CostPair) (p : List Bool) → IsShown r (c ++ m) p → IsShown r c (take (6 + length c) p)
shown_front r c m p h = record {
  path = record { long = length-take-le (6 + length c) p (omega (arith, h.path.long, length-append c m)); start = take-take 6 (6 + length c) p (omega arith) ∙ h.path.start };
  speak = speak_front c m p h.speak;
}

shown_back : (r : List Bool) (c m : List CostPair) (p : List Bool) → IsShown r (c ++ m) p → IsShown (drop (length c) (take (6 + length c) p)) m (drop (length c) p)
shown_back r c m p h = record {
  path = record { long = omega (arith, h.path.long, length-append c m, length-drop (length c) p); start = sym (ap (λ n. drop (length c) (take n p)) turn ∙ drop-take (length c) 6 p) };
  speak = speak_back c m p h.speak;
}
  where
    turn : 6 + length c ≡ length c + 6
    turn = omega arith

-- ---- the parts of a stream of such costs

-- the open part is favoured too, and the bits before it are sent bits
record Remains (p : List Bool) (parts : List Part) (b : Option (List Bool)) (d : List CostPair) : Type 0 where
  register : List Bool
  tail : List Bool
  start : b ≡ Some register
  shown : IsShown register d tail
  bits : drop 6 p ≡ bits_of parts ++ drop 6 tail

cut_remains : (most : ℕ) (r : List Bool) (c : List CostPair) (p : List Bool) (parts : List Part) (b : Option (List Bool)) (d : List CostPair) → IsShown r c p → IsCut most (Some r) c parts b d → Remains p parts b d
cut_remains most r c p [] b d h k = record { register = r; tail = p; start = k.0; shown = subst (λ z. IsShown r z p) (sym k.1) h; bits = refl }
cut_remains most r c p (q ∷ qs) b d h k =
    let n = length q.costs in
    let whole : IsShown r (q.costs ++ k.0) p = subst (λ z. IsShown r z p) k.1 h in
    let e : q.path ≡ take (6 + n) p = least_unique (Some r) q.costs q.path (take (6 + n) p) k.2.least (shown_least r q.costs (take (6 + n) p) (shown_front r q.costs k.0 p whole)) in
    let back : IsShown (end_of q) k.0 (drop n p) = subst (λ z. IsShown (drop n z) k.0 (drop n p)) (sym e) (shown_back r q.costs k.0 p whole) in
    let w = cut_remains most (end_of q) k.0 (drop n p) qs b d back k.3 in
    let front : take n (drop 6 p) ≡ drop 6 q.path = sym (drop-take 6 n p) ∙ ap (drop 6) (sym e) in
    let turn : 6 + n ≡ n + 6 = omega arith in
    let rest : drop n (drop 6 p) ≡ drop 6 (drop n p) = drop-drop n 6 p ∙ ap (λ k. drop k p) turn ∙ sym (drop-drop 6 n p) in
    record {
      register = w.register;
      tail = w.tail;
      start = w.start;
      shown = w.shown;
      bits = sym (take-append-drop n (drop 6 p)) ∙ ap₂ (λ y z. y ++ z) front (rest ∙ w.bits) ∙ sym (append_assoc (drop 6 q.path) (bits_of qs) (drop 6 w.tail));
    }

pub keeps_sent : (most : ℕ) → KeepsSent most
keeps_sent most = record { given = λ r p bits c h g. given r p bits c h g (cut_remains most r c p g.parts g.start g.costs h g.cut); ended = λ r p bits c h g. ended r p bits c h g (cut_remains most r c p g.parts g.start g.costs h g.cut) }
  where
    given : (r p bits : List Bool) (c : List CostPair) → IsShown r c p → (g : Given most (Some r) c bits) → Remains p g.parts g.start g.costs → IsPrefix bits (drop 6 p)
    given r p bits c h g w =
        let sh = subst (λ z. Shared z g.costs g.shared) w.start g.is_shared in
        let f = sh.common (drop (length g.costs) w.tail) w.tail (shown_to w.register g.costs w.tail w.shown) in
        record { rest = f.rest; is = w.bits ∙ ap (λ z. bits_of g.parts ++ z) f.is ∙ sym (append_assoc (bits_of g.parts) g.shared f.rest) ∙ ap (λ z. z ++ f.rest) (sym g.is) }

    ended : (r p bits : List Bool) (c : List CostPair) → IsShown r c p → (g : Ended most (Some r) c bits) → Remains p g.parts g.start g.costs → bits ≡ drop 6 p
    ended r p bits c h g w =
        let e = least_unique (Some w.register) g.costs g.path w.tail (subst (λ z. Least z g.costs g.path) w.start g.least) (shown_least w.register g.costs w.tail w.shown) in
        g.is ∙ ap (λ z. bits_of g.parts ++ drop 6 z) e ∙ sym w.bits
