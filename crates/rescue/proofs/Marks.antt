-- Known margins are unique, and a prefix of those of more pairs.
use Rattle.std.proofs.Common.{◌≡◌, ℕ, ◌+◌, ◌*◌, ◌/◌, ◌%◌, ◌<◌, ◌≤◌, Bool, List, ◌++◌, length, take, drop, sym, ap, ap₂, ◌∙◌, subst, arith, slice_index, length-append, length-take-le, take-append-drop}
use Rattle.std.specs.Prelude.{Option}
use Rattle.std.specs.Int.{abs_diff}
use Rattle.std.proofs.lemmas.List.{ext_get_or, get_or-take}
use Rattle.code_paths.specs.declared.costs.CostPair.{CostPair}
use Rattle.bit_margin.specs.Margin.{LeastWith, IsMargin, IsMarginAt}
use Rattle.bit_margin.specs.Laws.{MarginsOnce, MarginsStay}
use Rattle.rescue_words.specs.ByteMargins.{byte_margins}
use Rattle.rescue_words.specs.Laws.{MoreByteMargins}
use Rattle.reception.specs.Streams.{Moment, so_far, at_end}
use Rattle.rescue.specs.Known.{settled_blocks, AreSettled, AreKnown}

-- ---- a step has one margin

least_once : (a : Option (List Bool)) (c : List CostPair) (t : ℕ) (b : Bool) (m n : ℕ) → LeastWith a c t b m → LeastWith a c t b n → m ≡ n
least_once a c t b m n h k = omega (arith, h.is, k.is, h.least k.path k.is_path k.has, k.least h.path h.is_path h.has)

margin_once : (a : Option (List Bool)) (c : List CostPair) (t m n : ℕ) → IsMargin a c t m → IsMargin a c t n → m ≡ n
margin_once a c t m n h k = h.is ∙ ap₂ abs_diff (least_once a c t _ h.with_zero k.with_zero h.zero k.zero) (least_once a c t _ h.with_one k.with_one h.one k.one) ∙ sym k.is

pub known_once : MarginsOnce → (moment : Moment) (a : Option (List Bool)) (c : List CostPair) (ms ns : List ℕ) → AreKnown moment a c ms → AreKnown moment a c ns → ms ≡ ns
known_once once so_far a c ms ns h k =
    ext_get_or 0 ms ns (h.long ∙ sym k.long) (λ t l. margin_once _ _ _ (slice_index ms t) (slice_index ns t) (h.each t l) (k.each t (omega (arith, l, h.long, k.long))))
known_once once at_end a c ms ns h k = once a c ms ns h k

-- ---- margins of settled blocks are a prefix of those of more pairs

settled_whole : (t n : ℕ) → t < 1024 * settled_blocks n → 1024 * (t / 1024) + 1280 ≤ n
settled_whole t n l = omega (arith, l)

-- the margins of steps of a longer stream
record AreOf (a : Option (List Bool)) (c : List CostPair) (ns : List ℕ) (least : ℕ) : Type 0 where
  long : least ≤ length ns
  each : (t : ℕ) → t < length ns → IsMarginAt a c t (slice_index ns t)

are_of : (moment : Moment) (a : Option (List Bool)) (c d w : List CostPair) (ns : List ℕ) → w ≡ c ++ d → AreKnown moment a w ns → AreOf a w ns (1024 * settled_blocks (length c))
are_of so_far a c d w ns e k = record { long = omega (arith, k.long, ap length e, length-append c d); each = k.each }
are_of at_end a c d w ns e k = record { long = omega (arith, k.long, ap length e, length-append c d); each = λ t l. k.each t (omega (arith, l, k.long)) }

whole_bytes : (n blocks : ℕ) → n ≡ 1024 * blocks → n % 8 ≡ 0
whole_bytes n blocks e = omega (arith, e)

pub marks_begin : MarginsStay → MoreByteMargins → (moment : Moment) (a : Option (List Bool)) (c d w : List CostPair) (ms ns : List ℕ) → w ≡ c ++ d → AreSettled a c ms → AreKnown moment a w ns
    → (rest : List ℕ) × (byte_margins ns ≡ byte_margins ms ++ rest)
marks_begin stay more moment a c d w ms ns e h k =
    let o = are_of moment a c d w ns e k in
    let n = length ms in
    let enough : n ≤ length ns = omega (arith, o.long, h.long) in
    let longer : (t : ℕ) → t < n → IsMarginAt a w t (slice_index ms t) = λ t l. subst (λ z. IsMarginAt a z t (slice_index ms t)) (sym e) (stay a c d t (slice_index ms t) (settled_whole t (length c) (omega (arith, l, h.long))) (h.each t l)) in
    let front : take n ns ≡ ms =
    ext_get_or 0 (take n ns) ms (length-take-le n ns enough)
    (λ t l. let i : t < n = omega (arith, l, length-take-le n ns enough) in
    get_or-take n ns t 0 i ∙ margin_once _ _ _ (slice_index ns t) (slice_index ms t) (o.each t (omega (arith, i, enough))) (longer t i)) in (
      byte_margins (drop n ns),
      ap byte_margins (sym (take-append-drop n ns) ∙ ap (λ z. z ++ drop n ns) front) ∙ more ms (drop n ns) (whole_bytes n (settled_blocks (length c)) h.long),
    )
