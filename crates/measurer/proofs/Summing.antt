-- The sums of the first symbols of a super-frame.
use Rattle.std.proofs.Common.{◌≡◌, ℕ, zero, suc, ◌+◌, ◌-◌, ◌*◌, ◌<◌, ◌≤◌, Bool, true, false, cond, List, ◌++◌, refl, sym, ap, ap₂, ◌∙◌, arith}
use Rattle.std.specs.Prelude.{Option, Some, None, sum_by, count_by}
use Rattle.std.specs.List.{range_with_len}
use Rattle.std.proofs.lemmas.List.Sums.{sum_by-cons}
use Rattle.mode_set.specs.declared.modes.Stream.{Stream}
use Rattle.mode_set.specs.declared.modes.Stream.TheVariants.{Hp, Lp}
use Rattle.mode_set.specs.declared.settings.Settings.{Settings}
use Rattle.qam_map.specs.declared.cell.Cell.{Cell}
use Rattle.reception.specs.Cells.{symbols}
use Rattle.reception.specs.Laws.{CellsStay, WeightsStay}
use Rattle.measure_sums.specs.Comparing.{Comparison, symbol_sums, cells_in, muted_in, power_in, error_in, bits_in, wrong_in}
use Rattle.measure_report.specs.declared.sums.SymbolSums.{SymbolSums}
use Rattle.measurement.specs.Known.{is_compared, comparison}
use Rattle.measurement.specs.SuperFrames.{Knowns, over_compared, compared_in}
use Rattle.measure_comparison.specs.Standing.{IsSummed, beside}
use Rattle.measurer.specs.declared.current.Current.{Current}
use Rattle.measurer.specs.Standing.{symbol_of}
use Rattle.measurer.specs.Sums.{first_of, over_first, AreFirstSums, AreSummed, nothing_of, with_symbol}
use Rattle.measurer.proofs.Knowing.{known_back}

-- ---- numbers in a row

range_same : (f g : ℕ → ℕ) (a n : ℕ) → ((k : ℕ) → a ≤ k → k < a + n → f k ≡ g k) → sum_by f (range_with_len a n) ≡ sum_by g (range_with_len a n)
range_same f g a zero h = refl
range_same f g a (suc n) h =
    sum_by-cons f a (range_with_len (a + 1) n)
    ∙ ap₂ (λ (x y : ℕ). x + y) (h a (omega arith) (omega arith)) (range_same f g (a + 1) n (λ k p q. h k (omega (arith, p)) (omega (arith, q))))
    ∙ sym (sum_by-cons g a (range_with_len (a + 1) n))

sum_suc : (f : ℕ → ℕ) (a n : ℕ) → sum_by f (range_with_len a (suc n)) ≡ sum_by f (range_with_len a n) + f (a + n)
sum_suc f a zero = let e : a ≡ a + 0 = omega arith in sum_by-cons f a (range_with_len (a + 1) 0) ∙ (let g = ap f e in omega (arith, g))
sum_suc f a (suc n) =
    let rest = sum_suc f (a + 1) n in
    let e : a + 1 + n ≡ a + suc n = omega arith in
    let g = ap f e in
    let front = sum_by-cons f a (range_with_len (a + 1) (suc n)) in
    let back = sum_by-cons f a (range_with_len (a + 1) n) in
    omega (arith, front, back, rest, g)

sum_next : (f : ℕ → ℕ) (a n m : ℕ) → a + n ≡ m → sum_by f (range_with_len a (n + 1)) ≡ sum_by f (range_with_len a n) + f m
sum_next f a n m e =
    let next : n + 1 ≡ suc n = omega arith in
    ap (λ (k : ℕ). sum_by f (range_with_len a k)) next ∙ sum_suc f a n ∙ ap (λ (k : ℕ). sum_by f (range_with_len a n) + f k) e

sum_rest : (f : ℕ → ℕ) (a k d : ℕ) → ((m : ℕ) → a + k ≤ m → m < a + k + d → f m ≡ 0) → sum_by f (range_with_len a (d + k)) ≡ sum_by f (range_with_len a k)
sum_rest f a k zero h = let e : 0 + k ≡ k = omega arith in ap (λ (n : ℕ). sum_by f (range_with_len a n)) e
sum_rest f a k (suc d) h =
    let rest = sum_rest f a k d (λ m p q. h m p (omega (arith, q))) in
    let e : suc d + k ≡ suc (d + k) = omega arith in
    let none = h (a + (d + k)) (omega arith) (omega arith) in
    ap (λ (n : ℕ). sum_by f (range_with_len a n)) e ∙ sum_suc f a (d + k) ∙ (omega (arith, rest, none))

-- ---- a symbol more

abbrev term : Settings → List ℕ → Knowns → (Comparison → ℕ) → ℕ → ℕ
term s bytes known f m = cond (is_compared s m (known m)) (f (comparison s bytes (known m) m)) 0

over_next : (s : Settings) (bytes : List ℕ) (known : Knowns) (j k m : ℕ) (f : Comparison → ℕ) (b : Bool) → 272 * j + k ≡ m → is_compared s m (known m) ≡ b
    → over_first s bytes known j (k + 1) f ≡ over_first s bytes known j k f + cond b (f (comparison s bytes (known m) m)) 0
over_next s bytes known j k m f b e c =
    sum_next (term s bytes known f) (272 * j) k m e ∙ ap (λ (z : Bool). over_first s bytes known j k f + cond z (f (comparison s bytes (known m) m)) 0) c

count_next : (s : Settings) (known : Knowns) (j k m : ℕ) (b : Bool) → 272 * j + k ≡ m → is_compared s m (known m) ≡ b
    → count_by (λ i. is_compared s i (known i)) (first_of j (k + 1)) ≡ count_by (λ i. is_compared s i (known i)) (first_of j k) + cond b 1 0
count_next s known j k m b e c =
    sum_next (λ i. cond (is_compared s i (known i)) 1 0) (272 * j) k m e ∙ ap (λ (z : Bool). count_by (λ i. is_compared s i (known i)) (first_of j k) + cond z 1 0) c

same_symbol : (s : Settings) (bytes : List ℕ) (known : Stream → List Bool) (m : ℕ) → beside s (symbol_of s bytes m) known m ≡ comparison s bytes known m
unfolding comparison
same_symbol s bytes known m = refl

added : (a b x y n : ℕ) → a ≡ b → x ≡ y → n ≡ b + y → a + x ≡ n
added a b x y n e f g = omega (arith, e, f, g)

same_still : (a b n : ℕ) → a ≡ b → n ≡ b + 0 → a ≡ n
same_still a b n e g = omega (arith, e, g)

pub symbol_more : (s : Settings) (bytes : List ℕ) (known : Knowns) (j k m : ℕ) (x : Current) (result : Option SymbolSums) → 272 * j + k ≡ m → AreFirstSums s bytes known j k x
    → IsSummed s (symbol_of s bytes m) (known m) m result → AreFirstSums s bytes known j (k + 1) (with_symbol x result)
symbol_more s bytes known j k m x None e h r =
    let c : is_compared s m (known m) ≡ false = r.none refl in
    record {
      symbols = same_still _ _ _ h.symbols (count_next s known j k m false e c);
      cells = same_still _ _ _ h.cells (over_next s bytes known j k m cells_in false e c);
      muted = same_still _ _ _ h.muted (over_next s bytes known j k m muted_in false e c);
      power = same_still _ _ _ h.power (over_next s bytes known j k m power_in false e c);
      error = same_still _ _ _ h.error (over_next s bytes known j k m error_in false e c);
      hp_bits = same_still _ _ _ h.hp_bits (over_next s bytes known j k m (λ z. bits_in z Hp) false e c);
      hp_wrong = same_still _ _ _ h.hp_wrong (over_next s bytes known j k m (λ z. wrong_in z Hp) false e c);
      lp_bits = same_still _ _ _ h.lp_bits (over_next s bytes known j k m (λ z. bits_in z Lp) false e c);
      lp_wrong = same_still _ _ _ h.lp_wrong (over_next s bytes known j k m (λ z. wrong_in z Lp) false e c);
    }
symbol_more s bytes known j k m x (Some sums) e h r =
    let c : is_compared s m (known m) ≡ true = r.some.0 in
    let same : sums ≡ symbol_sums (comparison s bytes (known m) m) = r.some.1 ∙ ap symbol_sums (same_symbol s bytes (known m) m) in
    record {
      symbols = added _ _ _ _ _ h.symbols refl (count_next s known j k m true e c);
      cells = added _ _ _ _ _ h.cells (ap (λ (z : SymbolSums). z.cells) same) (over_next s bytes known j k m cells_in true e c);
      muted = added _ _ _ _ _ h.muted (ap (λ (z : SymbolSums). z.muted) same) (over_next s bytes known j k m muted_in true e c);
      power = added _ _ _ _ _ h.power (ap (λ (z : SymbolSums). z.power) same) (over_next s bytes known j k m power_in true e c);
      error = added _ _ _ _ _ h.error (ap (λ (z : SymbolSums). z.error) same) (over_next s bytes known j k m error_in true e c);
      hp_bits = added _ _ _ _ _ h.hp_bits (ap (λ (z : SymbolSums). z.hp.bits) same) (over_next s bytes known j k m (λ z. bits_in z Hp) true e c);
      hp_wrong = added _ _ _ _ _ h.hp_wrong (ap (λ (z : SymbolSums). z.hp.wrong) same) (over_next s bytes known j k m (λ z. wrong_in z Hp) true e c);
      lp_bits = added _ _ _ _ _ h.lp_bits (ap (λ (z : SymbolSums). z.lp.bits) same) (over_next s bytes known j k m (λ z. bits_in z Lp) true e c);
      lp_wrong = added _ _ _ _ _ h.lp_wrong (ap (λ (z : SymbolSums). z.lp.wrong) same) (over_next s bytes known j k m (λ z. wrong_in z Lp) true e c);
    }

-- none yet
pub nothing_summed : (s : Settings) (bytes : List ℕ) (known : Knowns) (j read bad : ℕ) → AreFirstSums s bytes known j 0 (nothing_of j read bad)
nothing_summed s bytes known j read bad = record { symbols = refl; cells = refl; muted = refl; power = refl; error = refl; hp_bits = refl; hp_wrong = refl; lp_bits = refl; lp_wrong = refl }

-- ---- more bytes

abbrev put_beside : Settings → (Stream → List Bool) → ℕ → List Cell → List ℕ → Comparison
put_beside s known m cells weights = beside s (record { cells = cells; weights = weights }) known m

comparison_stays : CellsStay → WeightsStay → (s : Settings) (bytes more : List ℕ) (known : Stream → List Bool) (m : ℕ) → m < symbols s bytes → comparison s bytes known m ≡ comparison s (bytes ++ more) known m
unfolding comparison
comparison_stays cells weights s bytes more known m l = sym (ap₂ (put_beside s known m) (cells s bytes more m l) (weights s bytes more m l))

over_stays : CellsStay → WeightsStay → (s : Settings) (bytes more : List ℕ) (known : Knowns) (j k : ℕ) (f : Comparison → ℕ) → 272 * j + k ≤ symbols s bytes → over_first s bytes known j k f ≡ over_first s (bytes ++ more) known j k f
over_stays cells weights s bytes more known j k f l =
    range_same (term s bytes known f) (term s (bytes ++ more) known f) (272 * j) k
    (λ m p q. ap (λ (x : Comparison). cond (is_compared s m (known m)) (f x) 0) (comparison_stays cells weights s bytes more (known m) m (omega (arith, q, l))))

pub sums_stay : CellsStay → WeightsStay → (s : Settings) (bytes more : List ℕ) (known : Knowns) (j k : ℕ) (x : Current) → 272 * j + k ≤ symbols s bytes → AreFirstSums s bytes known j k x → AreFirstSums s (bytes ++ more) known j k x
sums_stay cells weights s bytes more known j k x l h = record {
  symbols = h.symbols;
  cells = h.cells ∙ over_stays cells weights s bytes more known j k cells_in l;
  muted = h.muted ∙ over_stays cells weights s bytes more known j k muted_in l;
  power = h.power ∙ over_stays cells weights s bytes more known j k power_in l;
  error = h.error ∙ over_stays cells weights s bytes more known j k error_in l;
  hp_bits = h.hp_bits ∙ over_stays cells weights s bytes more known j k (λ z. bits_in z Hp) l;
  hp_wrong = h.hp_wrong ∙ over_stays cells weights s bytes more known j k (λ z. wrong_in z Hp) l;
  lp_bits = h.lp_bits ∙ over_stays cells weights s bytes more known j k (λ z. bits_in z Lp) l;
  lp_wrong = h.lp_wrong ∙ over_stays cells weights s bytes more known j k (λ z. wrong_in z Lp) l;
}

pub summed_stays : CellsStay → WeightsStay → (s : Settings) (bytes more : List ℕ) (next : ℕ) (x : Current) → next ≡ symbols s bytes - 3 → 272 * x.number ≤ next → AreSummed s bytes next x → AreSummed s (bytes ++ more) next x
summed_stays cells weights s bytes more next x e from h = λ known are.
    sums_stay cells weights s bytes more known x.number (next - 272 * x.number) x (omega (arith, e, from))
    (h known (λ m σ p q. known_back s bytes more σ m (known m σ) (omega (arith, q, e)) (are m σ p q)))

-- ---- all symbols

over_rest : (s : Settings) (bytes : List ℕ) (known : Knowns) (j k : ℕ) (f : Comparison → ℕ) → k ≤ 272 → ((m : ℕ) → 272 * j + k ≤ m → m < 272 * (j + 1) → is_compared s m (known m) ≡ false) → over_first s bytes known j k f ≡ over_compared s bytes known j f
over_rest s bytes known j k f l none =
    let e : 272 - k + k ≡ 272 = omega (arith, l) in
    sym (sum_rest (term s bytes known f) (272 * j) k (272 - k) (λ m p q. ap (λ (b : Bool). cond b (f (comparison s bytes (known m) m)) 0) (none m p (omega (arith, q, l)))))
    ∙ ap (λ (n : ℕ). over_first s bytes known j n f) e

count_rest : (s : Settings) (known : Knowns) (j k : ℕ) → k ≤ 272 → ((m : ℕ) → 272 * j + k ≤ m → m < 272 * (j + 1) → is_compared s m (known m) ≡ false) → count_by (λ i. is_compared s i (known i)) (first_of j k) ≡ compared_in s known j
count_rest s known j k l none =
    let e : 272 - k + k ≡ 272 = omega (arith, l) in
    sym (sum_rest (λ i. cond (is_compared s i (known i)) 1 0) (272 * j) k (272 - k) (λ m p q. ap (λ (b : Bool). cond b 1 0) (none m p (omega (arith, q, l)))))
    ∙ ap (λ (n : ℕ). count_by (λ i. is_compared s i (known i)) (first_of j n)) e

-- the sums of the first k symbols are those of the super-frame, if no later symbol of it is compared
pub record AreAllSums (s : Settings) (bytes : List ℕ) (known : Knowns) (j : ℕ) (x : Current) : Type 0 where
  pub symbols : x.symbols ≡ compared_in s known j
  pub cells : x.sums.cells ≡ over_compared s bytes known j cells_in
  pub muted : x.sums.muted ≡ over_compared s bytes known j muted_in
  pub power : x.sums.power ≡ over_compared s bytes known j power_in
  pub error : x.sums.error ≡ over_compared s bytes known j error_in
  pub hp_bits : x.sums.hp.bits ≡ over_compared s bytes known j (λ z. bits_in z Hp)
  pub hp_wrong : x.sums.hp.wrong ≡ over_compared s bytes known j (λ z. wrong_in z Hp)
  pub lp_bits : x.sums.lp.bits ≡ over_compared s bytes known j (λ z. bits_in z Lp)
  pub lp_wrong : x.sums.lp.wrong ≡ over_compared s bytes known j (λ z. wrong_in z Lp)

pub all_sums : (s : Settings) (bytes : List ℕ) (known : Knowns) (j k : ℕ) (x : Current) → k ≤ 272 → ((m : ℕ) → 272 * j + k ≤ m → m < 272 * (j + 1) → is_compared s m (known m) ≡ false) → AreFirstSums s bytes known j k x → AreAllSums s bytes known j x
all_sums s bytes known j k x l none h = record {
  symbols = h.symbols ∙ count_rest s known j k l none;
  cells = h.cells ∙ over_rest s bytes known j k cells_in l none;
  muted = h.muted ∙ over_rest s bytes known j k muted_in l none;
  power = h.power ∙ over_rest s bytes known j k power_in l none;
  error = h.error ∙ over_rest s bytes known j k error_in l none;
  hp_bits = h.hp_bits ∙ over_rest s bytes known j k (λ z. bits_in z Hp) l none;
  hp_wrong = h.hp_wrong ∙ over_rest s bytes known j k (λ z. wrong_in z Hp) l none;
  lp_bits = h.lp_bits ∙ over_rest s bytes known j k (λ z. bits_in z Lp) l none;
  lp_wrong = h.lp_wrong ∙ over_rest s bytes known j k (λ z. wrong_in z Lp) l none;
}
