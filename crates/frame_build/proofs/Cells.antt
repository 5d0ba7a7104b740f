-- The cell of a carrier, by its kind.
use Rattle.std.proofs.Common.{◌≡◌, ℕ, zero, suc, ◌+◌, ◌*◌, ◌%◌, ◌^◌, ◌<◌, ◌≤◌, ◌≢◌, ◌⊎◌, inl, inr, ◌||◌, not, if◌then◌else◌, length, take, drop, set, append_assoc, List, [], ◌∷◌, ◌++◌, refl, sym, ap, ◌∙◌, arith, Bool, true, false, get_or, ℤ, subst}
use Rattle.std.specs.Prelude.{flat_map, count_by}
use Rattle.std.proofs.lemmas.List.Concat.{flat_map-append}
use Rattle.std.proofs.lemmas.List.Sums.{sum_by-append, count_by-le-length}
use Rattle.std.proofs.lemmas.List.{append-nil, get_or-set_same, get_or-set_other, get_or_append_left, get_or-append-add, get_or-take, length-drop, length-take-le, take_all, take-take}
use Rattle.std.proofs.Math.Seq.{take-append-add}
use Rattle.std.proofs.lemmas.Slice.{take-put_mid}
use borrow.Rule.Slice.PartMut.{put_mid, mid_of, same_len_mid}
use Rattle.std.proofs.lemmas.Bool.{cases_lt}
use Rattle.spec_words.specs.Bits.{bit, xor, is_set}
use Rattle.spec_words.specs.Words.{numbers}
use Rattle.spec_words.proofs.Counting.{numbers_end, length-numbers}
use Rattle.std.specs.List.{range_with_len}
use Rattle.mode_set.specs.StreamTable.{carriers, label_bits, payload}
use Rattle.mode_set.specs.declared.modes.Shape.{Shape}
use Rattle.mode_set.specs.declared.modes.Shape.TheVariants.{Qpsk, Qam16, Qam64}
use Rattle.mode_set.specs.declared.modes.Hierarchy.{Hierarchy}
use Rattle.mode_set.specs.declared.modes.Mode.{Mode}
use Rattle.mode_set.specs.declared.modes.Mode.TheVariants.{M2k, M8k}
use Rattle.mode_set.specs.declared.settings.Settings.{Settings}
use Rattle.pilots.specs.declared.carrier_kind.CarrierKind.{CarrierKind}
use Rattle.pilots.specs.declared.carrier_kind.CarrierKind.TheVariants.{Continual, Scattered, Tps, Payload}
use Rattle.pilots.specs.Carriers.{kind, is_continual, is_scattered, is_tps, is_payload, AreNumbered}
use Rattle.pilots.specs.Reference.{reference}
use Rattle.qam_map.specs.declared.cell.Cell.{Cell}
use Rattle.qam_map.specs.Points.{map_cell, value_of, real_bits, imaginary_bits}
use Rattle.tps_word.specs.Tps.{tps_word, signalled}
use Rattle.frame_build.specs.Symbol.{real, tps_sign, frame_of, cell_of_kind, cell_at, sent_bytes, symbol_bytes, bits_of, Agree}
use Rattle.frame_build.specs.Announcing.{settings_for, announcing_cell, announcing_bytes}
use Rattle.frame_build.specs.State.{is_turned, IsLabelTable, IsCellTable, bytes_sent, labels_before, labels_of, other_cells, place_of, source_of}
use Rattle.frame_build.specs.declared.carrier_content.CarrierContent.{CarrierContent}
use Rattle.frame_build.specs.declared.carrier_content.CarrierContent.TheVariants.{Label, Pilot, OppositePilot, Signalling, OppositeSignalling}

turn : (t r b : Bool) → xor (xor t r) b ≡ xor (xor t b) r
turn true true true = refl
turn true true false = refl
turn true false true = refl
turn true false false = refl
turn false true true = refl
turn false true false = refl
turn false false true = refl
turn false false false = refl

unturned : (r : Bool) → r ≡ xor false r
unturned true = refl
unturned false = refl

-- the sign of a TPS cell: that of the reference sequence, turned by each 1 so far
sign_is : (word : List Bool) (k l : ℕ) → tps_sign word k l ≡ xor (is_turned word l) (reference k)
unfolding tps_sign is_turned
sign_is word k zero = unturned (reference k)
sign_is word k (suc l) = ap (λ (b : Bool). xor b (bit word l)) (sign_is word k l) ∙ turn (is_turned word l) (reference k) (bit word l)

pub pilot : (s : Settings) (m : ℕ) (labels : ℕ → ℕ → Bool) (k : ℕ) → real 21845 (reference k) ≡ cell_of_kind s m labels k Continual
unfolding cell_of_kind
pilot s m labels k = refl

pub scattered : (s : Settings) (m : ℕ) (labels : ℕ → ℕ → Bool) (k : ℕ) → real 21845 (reference k) ≡ cell_of_kind s m labels k Scattered
unfolding cell_of_kind
scattered s m labels k = refl

pub signal : (s : Settings) (m : ℕ) (turned : Bool) (labels : ℕ → ℕ → Bool) (k : ℕ) → turned ≡ is_turned (tps_word (signalled s (frame_of m))) (m % 68) → real 16384 (xor turned (reference k)) ≡ cell_of_kind s m labels k Tps
unfolding cell_of_kind
signal s m turned labels k e =
    let signs : xor turned (reference k) ≡ tps_sign (tps_word (signalled s (frame_of m))) k (m % 68) =
    ap (λ (b : Bool). xor b (reference k)) e ∙ sym (sign_is (tps_word (signalled s (frame_of m))) k (m % 68)) in
    ap (real 16384) signs

pub data_cell : (s : Settings) (m : ℕ) (labels : ℕ → ℕ → Bool) (k q : ℕ) → map_cell s.shape s.hierarchy (labels q) ≡ cell_of_kind s m labels k (Payload q)
unfolding cell_of_kind
data_cell s m labels k q = refl

-- ---- what the carriers send the kind of a carrier, by what it is for
abbrev kind_by : Bool → Bool → Bool → ℕ → CarrierKind
kind_by continual is_at tps q = if continual then Continual else if is_at then Scattered else if tps then Tps else Payload q

kind_is : (m : Mode) (l k : ℕ) → kind m l k ≡ kind_by (is_continual m k) (is_scattered l k) (is_tps m k) (labels_before m l k)
unfolding kind labels_before
kind_is m l k = refl

one_label : (a b c : Bool) (q : ℕ) (r : Bool) → labels_of (source_of (kind_by a b c q) r) ≡ (if not (a || b || c) then 1 else 0)
one_label true b c q true = refl
one_label true b c q false = refl
one_label false true c q true = refl
one_label false true c q false = refl
one_label false false true q true = refl
one_label false false true q false = refl
one_label false false false q r = refl

-- a carrier that sends a label is the payload carrier of that number
number_by : (a b c : Bool) (q : ℕ) (r : Bool) → labels_of (source_of (kind_by a b c q) r) ≡ 1 → kind_by a b c q ≡ Payload q
number_by true b c q true e = absurd (omega (arith, e))
number_by true b c q false e = absurd (omega (arith, e))
number_by false true c q true e = absurd (omega (arith, e))
number_by false true c q false e = absurd (omega (arith, e))
number_by false false true q true e = absurd (omega (arith, e))
number_by false false true q false e = absurd (omega (arith, e))
number_by false false false q r e = refl

pub is_next_label : (m : Mode) (l k : ℕ) (source : CarrierContent) → source ≡ source_of (kind m l k) (reference k) → source ≡ Label → kind m l k ≡ Payload (labels_before m l k)
is_next_label m l k source e is =
    let one : labels_of (source_of (kind_by (is_continual m k) (is_scattered l k) (is_tps m k) (labels_before m l k)) (reference k)) ≡ 1 =
    ap (λ (z : CarrierKind). labels_of (source_of z (reference k))) (sym (kind_is m l k)) ∙ ap labels_of (sym e) ∙ ap labels_of is in
    kind_is m l k ∙ number_by (is_continual m k) (is_scattered l k) (is_tps m k) (labels_before m l k) (reference k) one

pub no_labels : (m : Mode) (l : ℕ) → labels_before m l 0 ≡ 0
unfolding labels_before numbers
no_labels m l = refl

-- no more labels than carriers
pub few_labels : (m : Mode) (l k : ℕ) → labels_before m l k ≤ k
unfolding labels_before
few_labels m l k = omega (arith, count_by-le-length (is_payload m l) (numbers k), length-numbers k)

count_one : (p : ℕ → Bool) (k : ℕ) → count_by p (k ∷ []) ≡ (if p k then 1 else 0)
count_one p k = omega arith

count_end : (p : ℕ → Bool) (xs : List ℕ) (k : ℕ) → count_by p (xs ++ k ∷ []) ≡ count_by p xs + (if p k then 1 else 0)
count_end p xs k = sum_by-append (λ (x : ℕ). if p x then 1 else 0) xs (k ∷ []) ∙ ap (λ (z : ℕ). count_by p xs + z) (count_one p k)

payload_is : (m : Mode) (l k : ℕ) → is_payload m l k ≡ not (is_continual m k || is_scattered l k || is_tps m k)
unfolding is_payload
payload_is m l k = refl

pub labels_more : (m : Mode) (l k : ℕ) (source : CarrierContent) → source ≡ source_of (kind m l k) (reference k) → labels_before m l (k + 1) ≡ labels_before m l k + labels_of source
unfolding labels_before
labels_more m l k source e =
    let here : labels_of source ≡ (if is_payload m l k then 1 else 0) =
    ap labels_of e ∙ ap (λ (z : CarrierKind). labels_of (source_of z (reference k))) (kind_is m l k)
    ∙ one_label (is_continual m k) (is_scattered l k) (is_tps m k) (labels_before m l k) (reference k) ∙ ap (λ (z : Bool). if z then 1 else 0) (sym (payload_is m l k)) in
    ap (count_by (is_payload m l)) (numbers_end k) ∙ count_end (is_payload m l) (numbers k) k ∙ ap (λ (z : ℕ). count_by (is_payload m l) (numbers k) + z) (sym here)

pilot_bytes : (r turned : Bool) (label : List ℕ) → bytes_sent (if r then OppositePilot else Pilot) turned label ≡ sent_bytes (real 21845 r)
pilot_bytes true turned label = refl
pilot_bytes false turned label = refl

signal_bytes : (r turned : Bool) (label : List ℕ) → bytes_sent (if r then OppositeSignalling else Signalling) turned label ≡ sent_bytes (real 16384 (xor turned r))
signal_bytes true true label = refl
signal_bytes true false label = refl
signal_bytes false true label = refl
signal_bytes false false label = refl

pub kind_sent : (now next : Settings) (m : ℕ) (turned : Bool) (labels : ℕ → ℕ → Bool) (k q : ℕ) (kd : CarrierKind) (label : List ℕ) → turned ≡ is_turned (tps_word (signalled next (frame_of m))) (m % 68)
    → (kd ≡ Payload q → label ≡ sent_bytes (map_cell now.shape now.hierarchy (labels q))) → ((p : ℕ) → kd ≡ Payload p → p ≡ q)
    → bytes_sent (source_of kd (reference k)) turned label ≡ sent_bytes (cell_of_kind (settings_for now next kd) m labels k kd)
kind_sent now next m turned labels k q Continual label e is same = pilot_bytes (reference k) turned label ∙ ap sent_bytes (pilot now m labels k)
kind_sent now next m turned labels k q Scattered label e is same = pilot_bytes (reference k) turned label ∙ ap sent_bytes (scattered now m labels k)
kind_sent now next m turned labels k q Tps label e is same = signal_bytes (reference k) turned label ∙ ap sent_bytes (signal next m turned labels k e)
kind_sent now next m turned labels k q (Payload p) label e is same =
    let number_is : p ≡ q = same p refl in
    is (ap Payload number_is) ∙ ap (λ (z : ℕ). sent_bytes (map_cell now.shape now.hierarchy (labels z))) (sym number_is) ∙ ap sent_bytes (data_cell now m labels k p)

number_in : CarrierKind → ℕ
number_in Continual = 0
number_in Scattered = 0
number_in Tps = 0
number_in (Payload q) = q

payload_same : (p q : ℕ) → ◌≡◌ {A = CarrierKind} (Payload p) (Payload q) → p ≡ q
unfolding number_in
payload_same p q e = ap number_in e

-- a carrier's bytes are those of its cell
pub carrier_sent : (mo : Mode) (now next : Settings) (m l : ℕ) (turned : Bool) (labels : List ℕ) (k q : ℕ) (source : CarrierContent) (label : List ℕ) → now.mode ≡ mo → m % 68 ≡ l → turned ≡ is_turned (tps_word (signalled next (frame_of m))) (m % 68)
    → source ≡ source_of (kind mo l k) (reference k) → q ≡ labels_before mo l k → label ≡ sent_bytes (map_cell now.shape now.hierarchy (bits_of labels q))
    → bytes_sent source turned label ≡ sent_bytes (announcing_cell now next m (bits_of labels) k)
unfolding announcing_cell
carrier_sent mo now next m l turned labels k q source label em el et e eq is =
    let same : kind mo l k ≡ kind now.mode (m % 68) k = ap (λ (z : Mode). kind z l k) (sym em) ∙ ap (λ (z : ℕ). kind now.mode z k) (sym el) in
    ap (λ (z : CarrierContent). bytes_sent z turned label) e
    ∙ kind_sent now next m turned (bits_of labels) k q (kind mo l k) label et (λ p. is)
    (λ p ep. let label_source : source ≡ Label = e ∙ ap (λ (z : CarrierKind). source_of z (reference k)) ep in
    payload_same p q (sym ep ∙ is_next_label mo l k source e label_source ∙ ap Payload (sym eq)))
    ∙ ap (λ (z : CarrierKind). sent_bytes (cell_of_kind (settings_for now next z) m (bits_of labels) k z)) same

-- a label that is sent is one of the symbol's
pub label_below : (m n : Mode) (l k next : ℕ) (source : CarrierContent) → AreNumbered n l → n ≡ m → k < carriers m → source ≡ source_of (kind m l k) (reference k) → next ≡ labels_before m l k → source ≡ Label → next < payload m
label_below m n l k next source numbered same few e en is =
    let here : kind m l k ≡ Payload next = is_next_label m l k source e is ∙ ap Payload (sym en) in
    let all : AreNumbered m l = subst (λ (z : Mode). AreNumbered z l) same numbered in
    ((all k next few).0 here).0

pub labels_table_more : (s : Shape) (h : Hierarchy) (cells : List (List ℕ)) (n : ℕ) (bytes : List ℕ) → IsLabelTable s h cells n → n < length cells → bytes ≡ sent_bytes (map_cell s h (is_set n)) → IsLabelTable s h (set cells n bytes) (n + 1)
labels_table_more s h cells n bytes t within is k d less = go (cases_lt k n)
  where
    go : (k < n) ⊎ (n ≤ k) → get_or (set cells n bytes) k d ≡ sent_bytes (map_cell s h (is_set k))
    go (inl lt) = let other : k ≢ n = omega (arith, lt) in get_or-set_other cells n k bytes d other ∙ t k d lt
    go (inr ge) = let same : n ≡ k = omega (arith, less, ge) in
        subst (λ (z : ℕ). get_or (set cells n bytes) z d ≡ sent_bytes (map_cell s h (is_set z))) same (get_or-set_same cells n bytes d within ∙ is)

-- ---- the cells that a carrier may send
few_label_values : (s : Shape) → 2 ^ label_bits s ≤ 64
few_label_values Qpsk = omega arith
few_label_values Qam16 = omega arith
few_label_values Qam64 = omega arith

pub others_are : (pilot opposite_pilot signalling opposite_signalling : List ℕ) → pilot ≡ sent_bytes (real 21845 false) → opposite_pilot ≡ sent_bytes (real 21845 true) → signalling ≡ sent_bytes (real 16384 false)
    → opposite_signalling ≡ sent_bytes (real 16384 true) → (pilot ∷ opposite_pilot ∷ signalling ∷ opposite_signalling ∷ pilot ∷ opposite_pilot ∷ opposite_signalling ∷ signalling ∷ []) ≡ other_cells
others_are p o s t ep eo es et =
    ap (λ (z : List ℕ). z ∷ o ∷ s ∷ t ∷ z ∷ o ∷ t ∷ s ∷ []) ep
    ∙ ap (λ (z : List ℕ). sent_bytes (real 21845 false) ∷ z ∷ s ∷ t ∷ sent_bytes (real 21845 false) ∷ z ∷ t ∷ s ∷ []) eo
    ∙ ap (λ (z : List ℕ). sent_bytes (real 21845 false) ∷ sent_bytes (real 21845 true) ∷ z ∷ t ∷ sent_bytes (real 21845 false) ∷ sent_bytes (real 21845 true) ∷ t ∷ z ∷ []) es
    ∙ ap (λ (z : List ℕ). sent_bytes (real 21845 false) ∷ sent_bytes (real 21845 true) ∷ sent_bytes (real 16384 false) ∷ z ∷ sent_bytes (real 21845 false) ∷ sent_bytes (real 21845 true) ∷ z ∷ sent_bytes (real 16384 false) ∷ []) et

behind : (front : List (List ℕ)) (i place : ℕ) (d : List ℕ) → length front ≡ 64 → 64 + i ≡ place → get_or (front ++ other_cells) place d ≡ get_or other_cells i d
behind front i place d long is =
    let at : length front + i ≡ place = ap (λ (z : ℕ). z + i) long ∙ is in
    ap (λ (z : ℕ). get_or (front ++ other_cells) z d) (sym at) ∙ get_or-append-add front other_cells i d

-- behind 64 cells
other_sent : (front : List (List ℕ)) (source : CarrierContent) (turned : Bool) (label d : List ℕ) → length front ≡ 64 → source ≢ Label → get_or (front ++ other_cells) (place_of source turned) d ≡ bytes_sent source turned label
other_sent front Label turned label d long other = absurd (other refl)
other_sent front Pilot false label d long other = behind front 0 64 d long refl
other_sent front Pilot true label d long other = behind front 4 68 d long refl
other_sent front OppositePilot false label d long other = behind front 1 65 d long refl
other_sent front OppositePilot true label d long other = behind front 5 69 d long refl
other_sent front Signalling false label d long other = behind front 2 66 d long refl
other_sent front Signalling true label d long other = behind front 6 70 d long refl
other_sent front OppositeSignalling false label d long other = behind front 3 67 d long refl
other_sent front OppositeSignalling true label d long other = behind front 7 71 d long refl

pub table_made : (s : Shape) (h : Hierarchy) (cells new : List (List ℕ)) → length cells ≡ 72 → IsLabelTable s h cells (2 ^ label_bits s) → new ≡ other_cells → IsCellTable s h (put_mid 64 8 cells new)
table_made s h cells new long labels are =
    let front : length (take 64 cells) ≡ 64 = length-take-le 64 cells (omega (arith, long)) in
    let size : length new ≡ 8 = ap length are in
    let put : put_mid 64 8 cells new ≡ take 64 cells ++ other_cells =
    sym (take_all 72 (put_mid 64 8 cells new) (omega (arith, same_len_mid 64 8 cells new (size ∙ sym (length-take-le 8 (drop 64 cells) (omega (arith, length-drop 64 cells, long)))), long)))
    ∙ take-put_mid 64 8 cells new 72 (omega (arith, size)) (omega (arith, long)) ∙ ap (λ (z : List (List ℕ)). take 64 cells ++ z) are in
    record {
      labels = λ label d less. let few : label < 64 = omega (arith, less, few_label_values s) in
          ap (λ (z : List (List ℕ)). get_or z label d) put ∙ get_or_append_left (take 64 cells) other_cells d label (omega (arith, few, front)) ∙ get_or-take 64 cells label d few ∙ labels label d less;
      others = λ source turned label d other. ap (λ (z : List (List ℕ)). get_or z (place_of source turned) d) put ∙ other_sent (take 64 cells) source turned label d front other;
    }

-- one bit more of a TPS word
pub turned_more : (word : List Bool) (l : ℕ) → xor (is_turned word l) (bit word l) ≡ is_turned word (l + 1)
unfolding is_turned
turned_more word l = let next : suc l ≡ l + 1 = omega arith in ap (is_turned word) next

pub not_turned : (word : List Bool) → false ≡ is_turned word 0
unfolding is_turned
not_turned word = refl

-- the bytes of the first n carriers of a symbol
unfoldable pub carrier_bytes : Settings → Settings → ℕ → (ℕ → ℕ → Bool) → ℕ → List ℕ
carrier_bytes s t m labels n = flat_map (λ k. sent_bytes (announcing_cell s t m labels k)) (numbers n)

pub no_carriers : (s t : Settings) (m : ℕ) (labels : ℕ → ℕ → Bool) → carrier_bytes s t m labels 0 ≡ []
unfolding carrier_bytes numbers
no_carriers s t m labels = refl

pub one_carrier : (s t : Settings) (m : ℕ) (labels : ℕ → ℕ → Bool) (n : ℕ) → carrier_bytes s t m labels (n + 1) ≡ carrier_bytes s t m labels n ++ sent_bytes (announcing_cell s t m labels n)
unfolding carrier_bytes
one_carrier s t m labels n =
    ap (flat_map (λ k. sent_bytes (announcing_cell s t m labels k))) (numbers_end n)
    ∙ flat_map-append (λ k. sent_bytes (announcing_cell s t m labels k)) (numbers n) (n ∷ [])
    ∙ ap (λ (z : List ℕ). flat_map (λ k. sent_bytes (announcing_cell s t m labels k)) (numbers n) ++ z) (append-nil (sent_bytes (announcing_cell s t m labels n)))

pub whole_symbol : (s t : Settings) (m : ℕ) (labels : ℕ → ℕ → Bool) (n : ℕ) → n ≡ carriers s.mode → carrier_bytes s t m labels n ≡ announcing_bytes s t m labels
unfolding carrier_bytes announcing_bytes
whole_symbol s t m labels n e = ap (λ (z : ℕ). flat_map (λ k. sent_bytes (announcing_cell s t m labels k)) (numbers z)) e

pub few_carriers : (m : Mode) → carriers m ≤ 6817
few_carriers M2k = omega arith
few_carriers M8k = omega arith

five_are : (p : List ℕ) → length p ≡ 5 → p ≡ get_or p 0 0 ∷ get_or p 1 0 ∷ get_or p 2 0 ∷ get_or p 3 0 ∷ get_or p 4 0 ∷ []
five_are [] e = absurd (omega (arith, e))
five_are (a ∷ []) e = absurd (omega (arith, e))
five_are (a ∷ b ∷ []) e = absurd (omega (arith, e))
five_are (a ∷ b ∷ c ∷ []) e = absurd (omega (arith, e))
five_are (a ∷ b ∷ c ∷ d ∷ []) e = absurd (omega (arith, e))
five_are (a ∷ b ∷ c ∷ d ∷ f ∷ []) e = refl
five_are (a ∷ b ∷ c ∷ d ∷ f ∷ g ∷ p) e = absurd (omega (arith, e))

-- five pushes append five bytes
pub five_pushed : (old p ws xs ys zs new : List ℕ) → length p ≡ 5 → ws ≡ old ++ get_or p 0 0 ∷ [] → xs ≡ ws ++ get_or p 1 0 ∷ [] → ys ≡ xs ++ get_or p 2 0 ∷ [] → zs ≡ ys ++ get_or p 3 0 ∷ []
    → new ≡ zs ++ get_or p 4 0 ∷ [] → new ≡ old ++ p
five_pushed old p ws xs ys zs new five ew ex ey ez en =
    en ∙ ap (λ (z : List ℕ). z ++ f ∷ []) ez ∙ append_assoc ys (d ∷ []) (f ∷ [])
    ∙ ap (λ (z : List ℕ). z ++ d ∷ f ∷ []) ey ∙ append_assoc xs (c ∷ []) (d ∷ f ∷ [])
    ∙ ap (λ (z : List ℕ). z ++ c ∷ d ∷ f ∷ []) ex ∙ append_assoc ws (b ∷ []) (c ∷ d ∷ f ∷ [])
    ∙ ap (λ (z : List ℕ). z ++ b ∷ c ∷ d ∷ f ∷ []) ew ∙ append_assoc old (a ∷ []) (b ∷ c ∷ d ∷ f ∷ [])
    ∙ ap (λ (z : List ℕ). old ++ z) (sym (five_are p five))
  where
    a : ℕ
    a = get_or p 0 0

    b : ℕ
    b = get_or p 1 0

    c : ℕ
    c = get_or p 2 0

    d : ℕ
    d = get_or p 3 0

    f : ℕ
    f = get_or p 4 0

-- symbols repeat after a super-frame, where their labels do
same_kinds : (s : Settings) (m n : ℕ) (labels : ℕ → ℕ → Bool) (k : ℕ) (kd : CarrierKind) → m % 68 ≡ n % 68 → frame_of m ≡ frame_of n → cell_of_kind s m labels k kd ≡ cell_of_kind s n labels k kd
unfolding cell_of_kind
same_kinds s m n labels k Continual e f = refl
same_kinds s m n labels k Scattered e f = refl
same_kinds s m n labels k Tps e f = ap (λ (z : ℕ). real 16384 (tps_sign (tps_word (signalled s z)) k (m % 68))) f ∙ ap (λ (z : ℕ). real 16384 (tps_sign (tps_word (signalled s (frame_of n))) k z)) e
same_kinds s m n labels k (Payload q) e f = refl

same_cells : (s t : Settings) (m n : ℕ) (labels : ℕ → ℕ → Bool) (k : ℕ) → m % 68 ≡ n % 68 → frame_of m ≡ frame_of n → announcing_cell s t m labels k ≡ announcing_cell s t n labels k
unfolding announcing_cell
same_cells s t m n labels k e f =
    let cell : ℕ → Cell = λ z. let kd : CarrierKind = kind s.mode z k in cell_of_kind (settings_for s t kd) n labels k kd in
    let kd : CarrierKind = kind s.mode (m % 68) k in
    same_kinds (settings_for s t kd) m n labels k kd e f ∙ ap cell e

same_flat_map : (f g : ℕ → List ℕ) → ((k : ℕ) → f k ≡ g k) → (xs : List ℕ) → flat_map f xs ≡ flat_map g xs
same_flat_map f g same [] = refl
same_flat_map f g same (x ∷ xs) = ap (λ (z : List ℕ). z ++ flat_map f xs) (same x) ∙ ap (λ (z : List ℕ). g x ++ z) (same_flat_map f g same xs)

pub repeats : (s t : Settings) (m : ℕ) (labels : ℕ → ℕ → Bool) → announcing_bytes s t m labels ≡ announcing_bytes s t (m % 272) labels
unfolding announcing_bytes
repeats s t m labels =
    let symbols : m % 68 ≡ m % 272 % 68 = omega arith in
    let frames : frame_of m ≡ frame_of (m % 272) = omega arith in
    same_flat_map (λ k. sent_bytes (announcing_cell s t m labels k)) (λ k. sent_bytes (announcing_cell s t (m % 272) labels k)) (λ k. ap sent_bytes (same_cells s t m (m % 272) labels k symbols frames)) (numbers (carriers s.mode))

-- functions that agree below n
pub same_below : (f g : ℕ → List ℕ) (a n : ℕ) → ((i : ℕ) → i < n → f (a + i) ≡ g (a + i)) → flat_map f (range_with_len a n) ≡ flat_map g (range_with_len a n)
same_below f g a zero same = refl
same_below f g a (suc n) same =
    let here : a + 0 ≡ a = omega arith in
    let first : f a ≡ g a = subst (λ (z : ℕ). f z ≡ g z) here (same 0 (omega arith)) in
    let rest : flat_map f (range_with_len (a + 1) n) ≡ flat_map g (range_with_len (a + 1) n) = same_below f g (a + 1) n (λ i l. let next : a + suc i ≡ a + 1 + i = omega arith in subst (λ (z : ℕ). f z ≡ g z) next (same (suc i) (omega arith))) in
    ap (λ (z : List ℕ). z ++ flat_map f (range_with_len (a + 1) n)) first ∙ ap (λ (z : List ℕ). g a ++ z) rest

both : {a b : Bool} {p q : List Bool} → a ≡ b → p ≡ q → (a ∷ p) ≡ (b ∷ q)
both {a = a} {q = q} e f = ap (λ (z : List Bool). a ∷ z) f ∙ ap (λ (z : Bool). z ∷ q) e

same_real : (s : Shape) (y z : ℕ → Bool) → ((e : ℕ) → e < label_bits s → y e ≡ z e) → real_bits s y ≡ real_bits s z
unfolding numbers
same_real Qpsk y z same = both (same 0 (omega arith)) refl
same_real Qam16 y z same = both (same 0 (omega arith)) (both (same 2 (omega arith)) refl)
same_real Qam64 y z same = both (same 0 (omega arith)) (both (same 2 (omega arith)) (both (same 4 (omega arith)) refl))

same_imaginary : (s : Shape) (y z : ℕ → Bool) → ((e : ℕ) → e < label_bits s → y e ≡ z e) → imaginary_bits s y ≡ imaginary_bits s z
unfolding numbers
same_imaginary Qpsk y z same = both (same 1 (omega arith)) refl
same_imaginary Qam16 y z same = both (same 1 (omega arith)) (both (same 3 (omega arith)) refl)
same_imaginary Qam64 y z same = both (same 1 (omega arith)) (both (same 3 (omega arith)) (both (same 5 (omega arith)) refl))

same_map_cell : (s : Shape) (h : Hierarchy) (y z : ℕ → Bool) → ((e : ℕ) → e < label_bits s → y e ≡ z e) → map_cell s h y ≡ map_cell s h z
same_map_cell s h y z same =
    ap (λ (bits : List Bool). made (value_of s h bits) (value_of s h (imaginary_bits s y))) (same_real s y z same)
    ∙ ap (λ (bits : List Bool). made (value_of s h (real_bits s z)) (value_of s h bits)) (same_imaginary s y z same)
  where
    made : ℤ → ℤ → Cell
    made re im = record { re = re; im = im }

follows_kind : (s t : Settings) (m : ℕ) (labels more : ℕ → ℕ → Bool) (k : ℕ) (kd : CarrierKind) → ((q : ℕ) → kd ≡ Payload q → q < payload s.mode) → Agree s labels more
    → cell_of_kind (settings_for s t kd) m labels k kd ≡ cell_of_kind (settings_for s t kd) m more k kd
unfolding cell_of_kind
follows_kind s t m labels more k Continual few same = refl
follows_kind s t m labels more k Scattered few same = refl
follows_kind s t m labels more k Tps few same = refl
follows_kind s t m labels more k (Payload q) few same = same_map_cell s.shape s.hierarchy (labels q) (more q) (λ e l. same q e (few q refl) l)

-- a symbol depends on its labels alone
pub follows : (s t : Settings) (m : ℕ) → AreNumbered s.mode (m % 68) → (labels more : ℕ → ℕ → Bool) → Agree s labels more → announcing_bytes s t m labels ≡ announcing_bytes s t m more
unfolding announcing_bytes numbers announcing_cell
follows s t m numbered labels more same =
    same_below (λ k. sent_bytes (announcing_cell s t m labels k)) (λ k. sent_bytes (announcing_cell s t m more k)) 0 (carriers s.mode)
    (λ i l. ap sent_bytes (follows_kind s t m labels more (0 + i) (kind s.mode (m % 68) (0 + i)) (λ q e. ((numbered (0 + i) q (omega (arith, l))).0 e).0) same))

-- a symbol that announces its own settings
own_kinds : (s : Settings) (kd : CarrierKind) → settings_for s s kd ≡ s
own_kinds s Continual = refl
own_kinds s Scattered = refl
own_kinds s Tps = refl
own_kinds s (Payload q) = refl

own_cell : (s : Settings) (m : ℕ) (labels : ℕ → ℕ → Bool) (k : ℕ) → announcing_cell s s m labels k ≡ cell_at s m labels k
unfolding announcing_cell cell_at
own_cell s m labels k = let kd : CarrierKind = kind s.mode (m % 68) k in ap (λ (z : Settings). cell_of_kind z m labels k kd) (own_kinds s kd)

pub own_symbol : (s : Settings) (m : ℕ) (labels : ℕ → ℕ → Bool) → announcing_bytes s s m labels ≡ symbol_bytes s m labels
unfolding announcing_bytes symbol_bytes
own_symbol s m labels =
    same_flat_map (λ k. sent_bytes (announcing_cell s s m labels k)) (λ k. sent_bytes (cell_at s m labels k)) (λ k. ap sent_bytes (own_cell s m labels k)) (numbers (carriers s.mode))

-- five bytes that are put over those of a cell
pub five_put : (old new p : List ℕ) (k five : ℕ) → length p ≡ 5 → five ≡ 5 → 5 * k + 5 ≤ length old → new ≡ p
    → (length (put_mid (5 * k) five old new) ≡ length old) × (take (5 * (k + 1)) (put_mid (5 * k) five old new) ≡ take (5 * k) old ++ p)
five_put old new p k five size is_five within is =
    let left = length-drop (5 * k) old in
    let long : length new ≡ 5 = ap length is ∙ size in
    let part : length (mid_of (5 * k) five old) ≡ five = length-take-le five (drop (5 * k) old) (omega (arith, left, within, is_five)) in (
      same_len_mid (5 * k) five old new (long ∙ sym is_five ∙ sym part),
      take-put_mid (5 * k) five old new (5 * (k + 1)) (omega (arith, long)) (omega (arith, within)) ∙ ap (λ (z : List ℕ). take (5 * k) old ++ z) is,
    )

-- eight bytes that are put from a cell on, of which the cell has five
pub eight_put : (old new p : List ℕ) (k eight : ℕ) → length p ≡ 8 → eight ≡ 8 → 5 * k + 8 ≤ length old → new ≡ p
    → (length (put_mid (5 * k) eight old new) ≡ length old) × (take (5 * (k + 1)) (put_mid (5 * k) eight old new) ≡ take (5 * k) old ++ take 5 p)
eight_put old new p k eight size is_eight within is =
    let left = length-drop (5 * k) old in
    let long : length new ≡ 8 = ap length is ∙ size in
    let part : length (mid_of (5 * k) eight old) ≡ eight = length-take-le eight (drop (5 * k) old) (omega (arith, left, within, is_eight)) in
    let before : length (take (5 * k) old) ≡ 5 * k = length-take-le (5 * k) old (omega (arith, within)) in
    let shorter : 5 * (k + 1) ≤ 5 * k + 8 = omega arith in
    let past : 5 * (k + 1) ≡ length (take (5 * k) old) + 5 = omega (arith, before) in (
      same_len_mid (5 * k) eight old new (long ∙ sym is_eight ∙ sym part),
      sym (take-take (5 * (k + 1)) (5 * k + 8) (put_mid (5 * k) eight old new) shorter)
          ∙ ap (take (5 * (k + 1))) (take-put_mid (5 * k) eight old new (5 * k + 8) (omega (arith, long)) (omega (arith, within)) ∙ ap (λ (z : List ℕ). take (5 * k) old ++ z) is)
          ∙ ap (λ (z : ℕ). take z (take (5 * k) old ++ p)) past ∙ take-append-add (take (5 * k) old) p 5,
    )
