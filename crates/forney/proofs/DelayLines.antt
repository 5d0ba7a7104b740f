-- Delay lines, and what they give.
use Rattle.std.proofs.Common.{◌≡◌, ℕ, zero, suc, ◌+◌, ◌-◌, ◌*◌, ◌%◌, ◌<◌, ◌≤◌, ◌≢◌, inl, inr, Bool, true, false, cond, ltb, List, [], ◌∷◌, ◌++◌, length, get_or, drop, replicate, set, refl, sym, subst, ◌∙◌, ap, ap₂, arith, length-append, map}
use Rattle.std.specs.Prelude.{slice_get, Option, Some, None, eqb}
use Rattle.std.specs.Option.{unwrap_or}
use Rattle.std.proofs.lemmas.Bool.{cases_lt, cond_both, lt-ltb, le-ltb, eqb-true, eqb-false, agree_below_at}
use Rattle.std.proofs.Math.ListN.{get_or-append}
use Rattle.std.proofs.lemmas.List.{get_or_push, get_or-set_same, get_or-set_other, length-set, get_or_default, get_or-map, length-map}
use Rattle.circular_buffer.specs.Buffer.{Buffer, buffer, keep_last}
use Rattle.forney.specs.Values.{values}
use Rattle.forney.specs.Values.{stream_of}
use Rattle.forney.specs.Interleaving.{interleaved, deinterleaved, interleaved_bytes}
use Rattle.forney.specs.Interleaving as of
use Rattle.forney.specs.Delays.{delays, branched_at, next_of, waiting, line, StandsFor, rising, falling}
use Rattle.forney.proofs.ValueLists.{length-values, values_same, values_push, get_or-values}

-- a list delayed
abbrev pub delayed : List ℕ → ℕ → ℕ → ℕ
delayed s p d = of.delayed (stream_of s) p d

pub under : (f : ℕ → ℕ) (p d : ℕ) → p < d → of.delayed f p d ≡ 0
under f p d l = ap (λ b. cond b 0 (f (p - d))) (lt-ltb p d l)

pub over : (f : ℕ → ℕ) (p d : ℕ) → d ≤ p → of.delayed f p d ≡ f (p - d)
over f p d l = ap (λ b. cond b 0 (f (p - d))) (le-ltb p d l)

pub below : (s : List ℕ) (p d : ℕ) → p < d → delayed s p d ≡ 0
below s p d l = ap (λ b. cond b 0 (get_or s (p - d) 0)) (lt-ltb p d l)

pub above : (s : List ℕ) (p d : ℕ) → d ≤ p → delayed s p d ≡ get_or s (p - d) 0
above s p d l = ap (λ b. cond b 0 (get_or s (p - d) 0)) (le-ltb p d l)

pub delayed_append : (s t : List ℕ) (p d : ℕ) → p < length s + d → delayed (s ++ t) p d ≡ delayed s p d
delayed_append s t p d l = elim (cases_lt p d) [
  | inl lt ↦ below (s ++ t) p d lt ∙ sym (below s p d lt)
  | inr ge ↦ above (s ++ t) p d ge ∙ get_or-append s t 0 (p - d) (omega arith) ∙ sym (above s p d ge)
]

pub delayed_none : (p d : ℕ) → delayed [] p d ≡ 0
delayed_none p d = cond_both (ltb p d) 0 0 (λ x. x ≡ 0) (λ e. refl) (λ e. refl)

-- ---- one line

pub zeros_are : (f : ℕ → ℕ) (i n : ℕ) → ((k : ℕ) → f k ≡ 0) → values f i n ≡ replicate n 0
unfolding values
zeros_are f i zero h = refl
zeros_are f i (suc n) h = ap₂ (λ (x : ℕ) (xs : List ℕ). x ∷ xs) (h i) (zeros_are f (suc i) n h)

pub waiting_first : (d branch : ℕ) → replicate (17 * d) 0 ≡ waiting d [] branch
waiting_first d branch = sym (zeros_are _ 0 (17 * d) (λ k. delayed_none (next_of 0 branch + 12 * k) (204 * d)))

-- the line of another branch stays
pub waiting_stays : (d : ℕ) (s : List ℕ) (x branch : ℕ) → branch < 12 → branch ≢ length s % 12 → waiting d s branch ≡ waiting d (s ++ x ∷ []) branch
waiting_stays d s x branch b ne =
    let size : length (s ++ x ∷ []) ≡ length s + 1 = length-append s (x ∷ []) in
    let place : next_of (length (s ++ x ∷ [])) branch ≡ next_of (length s) branch = ap (λ n. next_of n branch) size ∙ (omega arith) in
    values_same _ _ 0 0 (17 * d)
    (λ k l. sym (delayed_append s (x ∷ []) (next_of (length s) branch + 12 * (0 + k)) (204 * d) (omega arith))
    ∙ ap (λ n. delayed (s ++ x ∷ []) (n + 12 * (0 + k)) (204 * d)) (sym place))

-- the line of the next byte, with that byte behind it
abbrev longer : ℕ → List ℕ → ℕ → ℕ → ℕ
longer d s n k = delayed s (n + 12 * k) (204 * d)

pub waiting_push : (d : ℕ) (s : List ℕ) (x branch : ℕ) → branch ≡ length s % 12 → waiting d s branch ++ x ∷ [] ≡ values (longer d (s ++ x ∷ []) (length s)) 0 (17 * d + 1)
waiting_push d s x branch b =
    let n = length s in
    let place : next_of n branch ≡ n = omega arith in
    let same : waiting d s branch ≡ values (longer d (s ++ x ∷ []) n) 0 (17 * d) = values_same _ _ 0 0 (17 * d)
    (λ k l. ap (λ m. delayed s (m + 12 * (0 + k)) (204 * d)) place ∙ sym (delayed_append s (x ∷ []) (n + 12 * (0 + k)) (204 * d) (omega arith))) in
    let last : longer d (s ++ x ∷ []) n (0 + 17 * d) ≡ x = above (s ++ x ∷ []) (n + 12 * (0 + 17 * d)) (204 * d) (omega arith)
    ∙ get_or_push s x 0 (n + 12 * (0 + 17 * d) - 204 * d) (omega arith) in
    ap (λ xs. xs ++ x ∷ []) same ∙ ap (λ y. values (longer d (s ++ x ∷ []) n) 0 (17 * d) ++ y ∷ []) (sym last) ∙ sym (values_push (longer d (s ++ x ∷ []) n) 0 (17 * d))

first_value : (f : ℕ → ℕ) (n : ℕ) → slice_get (values f 0 (n + 1)) 0 ≡ Some (f 0)
unfolding values
first_value f n = let e : n + 1 ≡ suc n = omega arith in rw e refl

rest_values : (f : ℕ → ℕ) (n : ℕ) → drop 1 (values f 0 (n + 1)) ≡ values f 1 n
unfolding values
rest_values f n = let e : n + 1 ≡ suc n = omega arith in rw e refl

pub given : (d : ℕ) (s : List ℕ) (x branch : ℕ) → branch ≡ length s % 12 → slice_get (waiting d s branch ++ x ∷ []) 0 ≡ Some (delayed (s ++ x ∷ []) (length s) (204 * d))
given d s x branch b =
    let e : length s + 12 * 0 ≡ length s = omega arith in
    ap (λ (l : List ℕ). slice_get l 0) (waiting_push d s x branch b) ∙ first_value (longer d (s ++ x ∷ []) (length s)) (17 * d)
    ∙ ap (λ n. Some (delayed (s ++ x ∷ []) n (204 * d))) e

pub kept : (d : ℕ) (s : List ℕ) (x branch : ℕ) → branch ≡ length s % 12 → keep_last (17 * d) (waiting d s branch ++ x ∷ []) ≡ waiting d (s ++ x ∷ []) branch
kept d s x branch b =
    let size : length (s ++ x ∷ []) ≡ length s + 1 = length-append s (x ∷ []) in
    let place : next_of (length (s ++ x ∷ [])) branch ≡ length s + 12 = ap (λ n. next_of n branch) size ∙ (omega arith) in
    let long : length (waiting d s branch ++ x ∷ []) - 17 * d ≡ 1 = ap (λ (l : List ℕ). length l - 17 * d) (waiting_push d s x branch b) ∙ ap (λ n. n - 17 * d) (length-values (longer d (s ++ x ∷ []) (length s)) 0 (17 * d + 1)) ∙ (omega arith) in
    ap (λ n. drop n (waiting d s branch ++ x ∷ [])) long
    ∙ ap (drop 1) (waiting_push d s x branch b)
    ∙ rest_values (longer d (s ++ x ∷ []) (length s)) (17 * d)
    ∙ values_same _ _ 1 0 (17 * d) (λ k l. ap (λ m. delayed (s ++ x ∷ []) m (204 * d)) (let e : length s + 12 * (1 + k) ≡ length s + 12 + 12 * (0 + k) = omega arith in e) ∙ ap (λ m. delayed (s ++ x ∷ []) (m + 12 * (0 + k)) (204 * d)) (sym place))

-- ---- all lines

pub stands_step : (delay : ℕ → ℕ) (lines : List (Buffer ℕ)) (next : ℕ) (s : List ℕ) (x : ℕ) (new : Buffer ℕ) (after : ℕ) → StandsFor delay (delays lines next) s
    → new ≡ buffer (keep_last (line lines next).capacity ((line lines next).items ++ x ∷ [])) (line lines next).capacity → after ≡ (next + 1) % 12
    → StandsFor delay (delays (set lines next new) after) (s ++ x ∷ [])
stands_step delay lines next s x new after h e a =
    let small : next < 12 = omega (arith, h.turn) in
    record {
      twelve = length-set lines next new ∙ h.twelve;
      turn = omega (arith, h.turn, length-append s (x ∷ []));
      holds = λ branch b. go branch b (eqb branch next) refl;
    }
  where
    go : (branch : ℕ) → branch < 12 → (t : Bool) → eqb branch next ≡ t → line (set lines next new) branch ≡ buffer (waiting (delay branch) (s ++ x ∷ []) branch) (17 * delay branch)
    go branch b true q =
        let same : branch ≡ next = eqb-true branch next q in
        let was : line lines branch ≡ buffer (waiting (delay branch) s branch) (17 * delay branch) = h.holds branch b in
        let e' : new ≡ buffer (keep_last (line lines branch).capacity ((line lines branch).items ++ x ∷ [])) (line lines branch).capacity = subst (λ n. new ≡ buffer (keep_last (line lines n).capacity ((line lines n).items ++ x ∷ [])) (line lines n).capacity) (sym same) e in
        ap (λ n. line (set lines next new) n) same ∙ get_or-set_same lines next new (buffer [] 0) (omega (arith, h.twelve)) ∙ e'
        ∙ ap (λ (l : Buffer ℕ). buffer (keep_last l.capacity (l.items ++ x ∷ [])) l.capacity) was
        ∙ ap (λ l. buffer l (17 * delay branch)) (kept (delay branch) s x branch (same ∙ h.turn))
    go branch b false q =
        let ne : branch ≢ next = eqb-false branch next q in
        get_or-set_other lines next branch new (buffer [] 0) ne ∙ h.holds branch b
        ∙ ap (λ l. buffer l (17 * delay branch)) (waiting_stays (delay branch) s x branch b (λ z. ne (z ∙ sym h.turn)))

pub stands_given : (delay : ℕ → ℕ) (lines : List (Buffer ℕ)) (next : ℕ) (s : List ℕ) (x : ℕ) → StandsFor delay (delays lines next) s
    → slice_get ((line lines next).items ++ x ∷ []) 0 ≡ Some (branched_at delay (stream_of (s ++ x ∷ [])) (length s))
stands_given delay lines next s x h =
    ap (λ (l : Buffer ℕ). slice_get (l.items ++ x ∷ []) 0) (h.holds next (omega (arith, h.turn)))
    ∙ given (delay next) s x next h.turn
    ∙ ap (λ n. Some (delayed (s ++ x ∷ []) (length s) (204 * delay n))) h.turn

-- ---- eleven words of delay

pub back : (o : ℕ → ℕ) (p : ℕ) → deinterleaved (interleaved o) p ≡ of.delayed o p 2244
back o p = elim (cases_lt p (204 * (11 - p % 12))) [
  | inl lt ↦ under (interleaved o) p (204 * (11 - p % 12)) lt ∙ sym (under o p 2244 (omega arith))
  | inr ge ↦
      let q = p - 204 * (11 - p % 12) in
      let rest : q % 12 ≡ p % 12 = omega arith in
      over (interleaved o) p (204 * (11 - p % 12)) ge
      ∙ ap (λ r. of.delayed o q (204 * r)) rest
      ∙ elim (cases_lt q (204 * (p % 12))) [
        | inl lt' ↦ under o q (204 * (p % 12)) lt' ∙ sym (under o p 2244 (omega arith))
        | inr ge' ↦ over o q (204 * (p % 12)) ge' ∙ ap o (let e : q - 204 * (p % 12) ≡ p - 2244 = omega arith in e) ∙ sym (over o p 2244 (omega arith))
      ]
]

-- streams that agree up to a place
pub delayed_same : (f g : ℕ → ℕ) (p d : ℕ) → ((k : ℕ) → k ≤ p → f k ≡ g k) → of.delayed f p d ≡ of.delayed g p d
delayed_same f g p d h = elim (cases_lt p d) [
  | inl lt ↦ under f p d lt ∙ sym (under g p d lt)
  | inr ge ↦ over f p d ge ∙ h (p - d) (omega arith) ∙ sym (over g p d ge)
]

pub first_value_at : (o : ℕ → ℕ) (n k : ℕ) → k < n → stream_of (values o 0 n) k ≡ o k
first_value_at o n k l = let e : 0 + k ≡ k = omega arith in get_or-values o 0 n k l ∙ ap o e

pub first_interleaved : (o : ℕ → ℕ) (n : ℕ) → interleaved_bytes (values o 0 n) ≡ values (interleaved o) 0 n
unfolding interleaved_bytes
first_interleaved o n =
    ap (values (interleaved (stream_of (values o 0 n))) 0) (length-values o 0 n)
    ∙ values_same (interleaved (stream_of (values o 0 n))) (interleaved o) 0 0 n
    (λ k l. delayed_same (stream_of (values o 0 n)) o (0 + k) (204 * ((0 + k) % 12)) (λ j m. first_value_at o n j (omega arith)))

pub first_deinterleaved : (b : ℕ → ℕ) (n p : ℕ) → p < n → deinterleaved (stream_of (values b 0 n)) p ≡ deinterleaved b p
first_deinterleaved b n p l = delayed_same (stream_of (values b 0 n)) b p (204 * (11 - p % 12)) (λ j m. first_value_at b n j (omega arith))

pub back_bytes : (o : List ℕ) (p : ℕ) → p < length o → deinterleaved (stream_of (interleaved_bytes o)) p ≡ of.delayed (stream_of o) p 2244
unfolding interleaved_bytes
back_bytes o p l = first_deinterleaved (interleaved (stream_of o)) (length o) p l ∙ back (stream_of o) p

pub stands_full : (delay : ℕ → ℕ) (lines : List (Buffer ℕ)) (next : ℕ) (s : List ℕ) → StandsFor delay (delays lines next) s
    → length (line lines next).items ≡ (line lines next).capacity
stands_full delay lines next s h =
    let e = h.holds next (omega (arith, h.turn)) in
    ap (λ (l : Buffer ℕ). length l.items) e ∙ length-values _ 0 (17 * delay next) ∙ sym (ap (λ (l : Buffer ℕ). l.capacity) e)

-- the line that was read
pub line_read : (delay : ℕ → ℕ) (lines : List (Buffer ℕ)) (next : ℕ) (s : List ℕ) (old : Buffer ℕ) → StandsFor delay (delays lines next) s → old ≡ get_or lines next old → old ≡ line lines next
line_read delay lines next s old h o = o ∙ get_or_default lines next old (buffer [] 0) (omega (arith, h.turn, h.twelve))

pub stands_gives : (delay : ℕ → ℕ) (lines : List (Buffer ℕ)) (next : ℕ) (s : List ℕ) (x out : ℕ) (old : Buffer ℕ) (popped : Option ℕ) → StandsFor delay (delays lines next) s
    → old ≡ get_or lines next old → popped ≡ cond (ltb (length old.items) old.capacity) None (slice_get (old.items ++ x ∷ []) 0) → out ≡ unwrap_or popped x
    → out ≡ branched_at delay (stream_of (s ++ x ∷ [])) (length s)
stands_gives delay lines next s x out old popped h o' p u =
    let o : old ≡ line lines next = line_read delay lines next s old h o' in
    let full : length old.items ≡ old.capacity = ap (λ (l : Buffer ℕ). length l.items) o ∙ stands_full delay lines next s h ∙ sym (ap (λ (l : Buffer ℕ). l.capacity) o) in
    let got : popped ≡ Some (branched_at delay (stream_of (s ++ x ∷ [])) (length s)) = p ∙ ap (λ b. cond b None (slice_get (old.items ++ x ∷ []) 0)) (le-ltb (length old.items) old.capacity (omega arith))
    ∙ ap (λ (l : Buffer ℕ). slice_get (l.items ++ x ∷ []) 0) o ∙ stands_given delay lines next s x h in
    u ∙ ap (λ o. unwrap_or o x) got

-- ---- the first lines

pub stands_first : (delay : ℕ → ℕ) (lengths : List ℕ) (lines : List (Buffer ℕ)) (next : ℕ) → lines ≡ map (λ n. buffer (replicate n 0) n) lengths → next ≡ 0 → length lengths ≡ 12
    → ((b : ℕ) → b < 12 → get_or lengths b 0 ≡ 17 * delay b) → StandsFor delay (delays lines next) []
stands_first delay lengths lines next e z l h = record {
  twelve = ap length e ∙ length-map lengths _ ∙ l;
  turn = z;
  holds = λ branch b.
      ap (λ ls. line ls branch) e ∙ get_or-map _ lengths branch 0 (buffer [] 0) (omega arith)
      ∙ ap (λ n. buffer (replicate n 0) n) (h branch b) ∙ ap (λ l. buffer l (17 * delay branch)) (waiting_first (delay branch) branch);
}

abbrev pub rising_lengths : List ℕ
rising_lengths = 0 ∷ 17 ∷ 34 ∷ 51 ∷ 68 ∷ 85 ∷ 102 ∷ 119 ∷ 136 ∷ 153 ∷ 170 ∷ 187 ∷ []

pub rising_table : (b : ℕ) → b < 12 → get_or rising_lengths b 0 ≡ 17 * rising b
rising_table b l = eqb-true _ _ (agree_below_at (λ b. eqb (get_or rising_lengths b 0) (17 * rising b)) (λ b. true) 12 b refl l)

abbrev pub falling_lengths : List ℕ
falling_lengths = 187 ∷ 170 ∷ 153 ∷ 136 ∷ 119 ∷ 102 ∷ 85 ∷ 68 ∷ 51 ∷ 34 ∷ 17 ∷ 0 ∷ []

pub falling_table : (b : ℕ) → b < 12 → get_or falling_lengths b 0 ≡ 17 * falling b
falling_table b l = eqb-true _ _ (agree_below_at (λ b. eqb (get_or falling_lengths b 0) (17 * falling b)) (λ b. true) 12 b refl l)
