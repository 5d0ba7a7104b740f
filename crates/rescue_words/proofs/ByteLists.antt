-- The margins of bytes, list after list.
use Rattle.std.proofs.Common.{◌≡◌, ℕ, ◌+◌, ◌*◌, ◌/◌, ◌<◌, min, List, [], ◌∷◌, ◌++◌, length, get_or, sym, ap, ap₂, ◌∙◌, arith, length-append, append_assoc, append-nil}
use Rattle.std.proofs.lemmas.List.{get_or_append_left, get_or-append-add}
use Rattle.forney.specs.Values.{values}
use Rattle.forney.proofs.ValueLists.{values_add, values_same, values_push}
use Rattle.rescue_words.specs.ByteMargins.{byte_margin, byte_margins}
use Rattle.rescue_words.specs.Laws.{MoreByteMargins}

-- the least of eight values of a function
least_of : (ℕ → ℕ) → ℕ
least_of f = min (f 0) (min (f 1) (min (f 2) (min (f 3) (min (f 4) (min (f 5) (min (f 6) (f 7)))))))

least_same : (f g : ℕ → ℕ) → ((i : ℕ) → i < 8 → f i ≡ g i) → least_of f ≡ least_of g
unfolding least_of
least_same f g h =
    ap₂ min (h 0 (omega arith)) (ap₂ min (h 1 (omega arith)) (ap₂ min (h 2 (omega arith)) (ap₂ min (h 3 (omega arith)) (ap₂ min (h 4 (omega arith)) (ap₂ min (h 5 (omega arith)) (ap₂ min (h 6 (omega arith)) (h 7 (omega arith))))))))

is_least : (ms : List ℕ) (k : ℕ) → byte_margin ms k ≡ least_of (λ i. get_or ms (8 * k + i) 0)
unfolding least_of
is_least ms k = let e : 8 * k ≡ 8 * k + 0 = omega arith in
    ap (λ z. min (get_or ms z 0) (min (get_or ms (8 * k + 1) 0) (min (get_or ms (8 * k + 2) 0) (min (get_or ms (8 * k + 3) 0) (min (get_or ms (8 * k + 4) 0) (min (get_or ms (8 * k + 5) 0) (min (get_or ms (8 * k + 6) 0) (get_or ms (8 * k + 7) 0)))))))) e

same_byte : (ms ns : List ℕ) (j k : ℕ) → ((i : ℕ) → i < 8 → get_or ms (8 * j + i) 0 ≡ get_or ns (8 * k + i) 0) → byte_margin ms j ≡ byte_margin ns k
same_byte ms ns j k h = is_least ms j ∙ least_same (λ i. get_or ms (8 * j + i) 0) (λ i. get_or ns (8 * k + i) 0) h ∙ sym (is_least ns k)

pub more_byte_margins : MoreByteMargins
unfolding byte_margins
more_byte_margins ms more e =
    let a = length ms / 8 in
    let b = length more / 8 in
    let count : length (ms ++ more) / 8 ≡ a + b = omega (arith, e, length-append ms more) in
    ap (values (byte_margin (ms ++ more)) 0) count ∙ values_add (byte_margin (ms ++ more)) 0 a b
    ∙ ap₂ (λ (x y : List ℕ). x ++ y)
    (values_same (byte_margin (ms ++ more)) (byte_margin ms) 0 0 a (λ k l. same_byte (ms ++ more) ms (0 + k) (0 + k) (λ i m. get_or_append_left ms more 0 (8 * (0 + k) + i) (omega (arith, l, m)))))
    (values_same (byte_margin (ms ++ more)) (byte_margin more) (0 + a) 0 b (λ k l. same_byte (ms ++ more) more (0 + a + k) (0 + k)
    (λ i m. let p : 8 * (0 + a + k) + i ≡ length ms + (8 * (0 + k) + i) = omega (arith, e) in ap (λ z. get_or (ms ++ more) z 0) p ∙ get_or-append-add ms more (8 * (0 + k) + i) 0)))

-- one more byte
pub byte_pushed : (ms to : List ℕ) (k : ℕ) → to ++ values (byte_margin ms) 0 (k + 1) ≡ (to ++ values (byte_margin ms) 0 k) ++ byte_margin ms k ∷ []
byte_pushed ms to k = let e : 0 + k ≡ k = omega arith in
    ap (λ z. to ++ z) (values_push (byte_margin ms) 0 k) ∙ sym (append_assoc to (values (byte_margin ms) 0 k) (byte_margin ms (0 + k) ∷ [])) ∙ ap (λ z. (to ++ values (byte_margin ms) 0 k) ++ byte_margin ms z ∷ []) e

pub none_pushed : (ms to : List ℕ) → to ≡ to ++ values (byte_margin ms) 0 0
unfolding values
none_pushed ms to = sym (append-nil to)

pub all_pushed : (ms to : List ℕ) (k : ℕ) → k ≡ length ms / 8 → to ++ values (byte_margin ms) 0 k ≡ to ++ byte_margins ms
unfolding byte_margins
all_pushed ms to k e = ap (λ n. to ++ values (byte_margin ms) 0 n) e
