-- The indices of the carriers' cells, and the cells that they name.
use Rattle.std.proofs.Common.{◌≡◌, ◌≢◌, ℕ, zero, suc, ◌+◌, ◌%◌, ◌^◌, ◌<◌, ◌≤◌, ◌⊎◌, inl, inr, if◌then◌else◌, length, take, drop, set, get_or, List, [], ◌∷◌, ◌++◌, Bool, true, false, refl, sym, ap, ◌∙◌, subst, arith, rules}
use Rattle.std.specs.Prelude.{flat_map, nat_lt, ◌==◌}
use Rattle.std.proofs.lemmas.List.Concat.{flat_map-append}
use Rattle.std.proofs.lemmas.List.{append-nil, get_or-set_same, get_or-set_other, get_or-take, get_or_append_left, get_or_past, get_or_push, get_or-append-add, length_push, length-append, length-drop}
use Rattle.std.proofs.lemmas.Slice.{take-put_mid}
use Rattle.std.proofs.Math.Seq.{take-append_seam}
use borrow.Rule.Slice.PartMut.{put_mid}
use Rattle.std.proofs.lemmas.Bool.{cases_lt, le-ltb, lt-ltb}
use Rattle.spec_words.specs.Bits.{is_set}
use Rattle.spec_words.specs.Words.{numbers}
use Rattle.spec_words.proofs.Counting.{numbers_end}
use Rattle.mode_set.specs.StreamTable.{carriers, label_bits, payload}
use Rattle.mode_set.specs.declared.modes.Shape.{Shape}
use Rattle.mode_set.specs.declared.modes.Shape.TheVariants.{Qpsk, Qam16, Qam64}
use Rattle.mode_set.specs.declared.modes.Hierarchy.{Hierarchy}
use Rattle.mode_set.specs.declared.modes.Mode.{Mode}
use Rattle.mode_set.specs.declared.modes.Mode.TheVariants.{M2k, M8k}
use Rattle.mode_set.specs.declared.settings.Settings.{Settings}
use Rattle.pilots.specs.declared.carrier_kind.CarrierKind.{CarrierKind}
use Rattle.pilots.specs.declared.carrier_kind.CarrierKind.TheVariants.{Continual, Scattered, Tps, Payload}
use Rattle.pilots.specs.Carriers.{kind, AreNumbered}
use Rattle.pilots.specs.Reference.{reference}
use Rattle.qam_map.specs.Points.{map_cell}
use Rattle.tps_word.specs.Tps.{tps_word, signalled}
use Rattle.frame_build.specs.Symbol.{frame_of, cell_of_kind, sent_bytes, bits_of}
use Rattle.frame_build.specs.Announcing.{settings_for, announcing_bytes, announcing_cell}
use Rattle.frame_build.specs.State.{is_turned, AreIndices, AreAllIndices, ArePlaces, AreWider, IsCellTable, bytes_at, bytes_sent, index_of, other_places, place_of, source_of}
use Rattle.frame_build.specs.declared.carrier_content.CarrierContent.TheVariants.{Pilot, OppositePilot, Signalling, OppositeSignalling}
use Rattle.symbol_interleave.specs.Carried.{carried, is_odd}
use Rattle.frame_build.specs.Words.{AreWordIndices, IsWordIndex, carried_bits, interleaved}
use Rattle.frame_build.proofs.Cells.{kind_sent, same_below}

-- ---- the lists
pub indices_more : (m : Mode) (l : ℕ) (list : List ℕ) (n index : ℕ) → AreIndices m l list n → n < length list → index ≡ index_of m (kind m l n) (reference n) → AreIndices m l (set list n index) (n + 1)
indices_more m l list n index a within is k d less = go (cases_lt k n)
  where
    go : (k < n) ⊎ (n ≤ k) → get_or (set list n index) k d ≡ index_of m (kind m l k) (reference k)
    go (inl lt) = let other : k ≢ n = omega (arith, lt) in get_or-set_other list n k index d other ∙ a k d lt
    go (inr ge) = let same : n ≡ k = omega (arith, less, ge) in
        subst (λ (z : ℕ). get_or (set list n index) z d ≡ index_of m (kind m l z) (reference z)) same (get_or-set_same list n index d within ∙ is)

pub index_repeats : (m : Mode) (l : ℕ) (lists : List (List ℕ)) (k : ℕ) (d : List ℕ) (e : ℕ) → AreAllIndices m lists → k < carriers m → kind m l k ≡ kind m (l % 4) k
    → get_or (get_or lists (l % 4) d) k e ≡ index_of m (kind m l k) (reference k)
index_repeats m l lists k d e all few repeats = all (l % 4) d (omega arith) k e few ∙ ap (λ (z : CarrierKind). index_of m z (reference k)) (sym repeats)

pub all_indices : (m : Mode) (a b c d : List ℕ) → AreIndices m 0 a (carriers m) → AreIndices m 1 b (carriers m) → AreIndices m 2 c (carriers m) → AreIndices m 3 d (carriers m) → AreAllIndices m (a ∷ b ∷ c ∷ d ∷ [])
all_indices m a b c d sa sb sc sd zero e l = sa
all_indices m a b c d sa sb sc sd (suc zero) e l = sb
all_indices m a b c d sa sb sc sd (suc (suc zero)) e l = sc
all_indices m a b c d sa sb sc sd (suc (suc (suc zero))) e l = sd
all_indices m a b c d sa sb sc sd (suc (suc (suc (suc i)))) e l = absurd (omega (arith, l))

pub wider_more : (cells wide : List (List ℕ)) (n : ℕ) (bytes five : List ℕ) → AreWider cells wide n → n < length wide → take 5 bytes ≡ five → five ≡ get_or cells n [] → AreWider cells (set wide n bytes) (n + 1)
wider_more cells wide n bytes five w within is cell i less = go (cases_lt i n)
  where
    go : (i < n) ⊎ (n ≤ i) → take 5 (get_or (set wide n bytes) i []) ≡ get_or cells i []
    go (inl lt) = let other : i ≢ n = omega (arith, lt) in ap (take 5) (get_or-set_other wide n i bytes [] other) ∙ w i lt
    go (inr ge) = let same : n ≡ i = omega (arith, less, ge) in
        subst (λ (z : ℕ). take 5 (get_or (set wide n bytes) z []) ≡ get_or cells z []) same (ap (take 5) (get_or-set_same wide n bytes [] within) ∙ is ∙ cell)

pub few_payload : (m : Mode) → payload m ≤ 6048
few_payload M2k = omega arith
few_payload M8k = omega arith

-- labels, and the others behind them
others_at : (turned : Bool) (c : ℕ) → c < 4 → get_or (other_places turned) c 0 ≡ 64 + c + (if turned then 4 else 0)
others_at true zero l = omega arith
others_at true (suc zero) l = omega arith
others_at true (suc (suc zero)) l = omega arith
others_at true (suc (suc (suc zero))) l = omega arith
others_at true (suc (suc (suc (suc c)))) l = absurd (omega (arith, l))
others_at false zero l = omega arith
others_at false (suc zero) l = omega arith
others_at false (suc (suc zero)) l = omega arith
others_at false (suc (suc (suc zero))) l = omega arith
others_at false (suc (suc (suc (suc c)))) l = absurd (omega (arith, l))

four_long : (turned : Bool) → length (other_places turned) ≡ 4
four_long true = refl
four_long false = refl

pub places_are : (m : Mode) (turned : Bool) (labels one two zeros : List ℕ) (n k : ℕ) → n ≡ length labels → length labels ≡ payload m → k ≡ 4 → payload m + 4 ≤ length zeros → one ≡ labels → two ≡ other_places turned
    → ArePlaces m turned labels (put_mid n k (one ++ drop n zeros) two)
places_are m turned labels one two zeros n k en el ek long e1 e2 =
    record {
      of_labels = λ q l. here q (omega (arith, l, el)) ∙ get_or_append_left labels (other_places turned) 0 q (omega (arith, l, el));
      of_others = λ c l. let place : payload m + c ≡ length labels + c = omega (arith, el) in
          here (payload m + c) (omega (arith, l, el)) ∙ ap (λ (z : ℕ). get_or (labels ++ other_places turned) z 0) place ∙ get_or-append-add labels (other_places turned) c 0 ∙ others_at turned c l;
    }
  where
    first : List ℕ
    first = one ++ drop n zeros

    size : length one ≡ n
    size = ap length e1 ∙ sym en

    same : length first ≡ length zeros
    same = let a = length-append one (drop n zeros) in let d = length-drop n zeros in omega (arith, a, d, size, long, en, el)

    front : take n first ≡ labels
    front = ap (λ (z : ℕ). take z first) (sym size) ∙ take-append_seam one (drop n zeros) ∙ e1

    both : take (n + 4) (put_mid n k first two) ≡ labels ++ other_places turned
    both = take-put_mid n k first two (n + 4) (omega (arith, ap length e2, four_long turned)) (omega (arith, same, en, el, long)) ∙ ap (λ (z : List ℕ). take n first ++ z) e2 ∙ ap (λ (z : List ℕ). z ++ other_places turned) front

    here : (q : ℕ) → q < length labels + 4 → get_or (put_mid n k first two) q 0 ≡ get_or (labels ++ other_places turned) q 0
    here q l = sym (get_or-take (n + 4) (put_mid n k first two) q 0 (omega (arith, l, en))) ∙ ap (λ (z : List ℕ). get_or z q 0) both

-- ---- bounds
pub some_carriers : (m : Mode) → 0 < carriers m
some_carriers M2k = omega arith
some_carriers M8k = omega arith

pub label_small : (s : Shape) (n : ℕ) → n < 2 ^ label_bits s → n < 72
label_small Qpsk n l = omega (arith, l)
label_small Qam16 n l = omega (arith, l)
label_small Qam64 n l = omega (arith, l)

-- an index is that of a label, or one of the four behind them
pub index_by : (m : Mode) (kd : CarrierKind) (opposite : Bool) → ((q : ℕ) → kd ≡ Payload q → q < payload m) → index_of m kd opposite < payload m + 4
index_by m Continual true few = omega arith
index_by m Continual false few = omega arith
index_by m Scattered true few = omega arith
index_by m Scattered false few = omega arith
index_by m Tps true few = omega arith
index_by m Tps false few = omega arith
index_by m (Payload q) opposite few = omega (arith, few q refl)

four_more : (turned : Bool) → (if turned then 4 else 0) ≤ 4
four_more true = omega arith
four_more false = omega arith

-- the places of the cells by their indices, in the order of the carriers, whatever the order in which they are kept
pub record HasPlaces (m : Mode) (turned : Bool) (labels : ℕ → ℕ) (place : ℕ → ℕ) : Type 0 where
  pub of_labels : (q : ℕ) → q < payload m → place q ≡ labels q
  pub of_others : (c : ℕ) → c < 4 → place (payload m + c) ≡ 64 + c + (if turned then 4 else 0)

-- they are kept in that order
pub own_places : (m : Mode) (turned : Bool) (labels places : List ℕ) → ArePlaces m turned labels places → HasPlaces m turned (λ q. get_or labels q 0) (λ i. get_or places i 0)
own_places m turned labels places p = record { of_labels = p.of_labels; of_others = p.of_others }

place_by : (m : Mode) (s : Shape) (turned : Bool) (labels place : ℕ → ℕ) (kd : CarrierKind) (opposite : Bool) → HasPlaces m turned labels place → ((q : ℕ) → q < payload m → labels q < 2 ^ label_bits s)
    → ((q : ℕ) → kd ≡ Payload q → q < payload m) → place (index_of m kd opposite) < 72
place_by m s turned labels place Continual true p small few = omega (arith, p.of_others 1 (omega arith), four_more turned)
place_by m s turned labels place Continual false p small few = omega (arith, p.of_others 0 (omega arith), four_more turned)
place_by m s turned labels place Scattered true p small few = omega (arith, p.of_others 1 (omega arith), four_more turned)
place_by m s turned labels place Scattered false p small few = omega (arith, p.of_others 0 (omega arith), four_more turned)
place_by m s turned labels place Tps true p small few = omega (arith, p.of_others 3 (omega arith), four_more turned)
place_by m s turned labels place Tps false p small few = omega (arith, p.of_others 2 (omega arith), four_more turned)
place_by m s turned labels place (Payload q) opposite p small few = omega (arith, p.of_labels q (few q refl), label_small s (labels q) (small q (few q refl)))

-- ---- the cell of an index
content_by : (m : Mode) (s : Shape) (h : Hierarchy) (turned : Bool) (cells : List (List ℕ)) (labels place : ℕ → ℕ) (kd : CarrierKind) (opposite : Bool) (label : List ℕ) → IsCellTable s h cells → HasPlaces m turned labels place
    → ((q : ℕ) → kd ≡ Payload q → (q < payload m) × (labels q < 2 ^ label_bits s) × (label ≡ sent_bytes (map_cell s h (is_set (labels q)))))
    → get_or cells (place (index_of m kd opposite)) [] ≡ bytes_sent (source_of kd opposite) turned label
content_by m s h turned cells labels place Continual true label t p is = let at : place (payload m + 1) ≡ place_of OppositePilot turned = omega (arith, p.of_others 1 (omega arith)) in ap (λ (z : ℕ). get_or cells z []) at ∙ t.others OppositePilot turned label [] (search rules)
content_by m s h turned cells labels place Continual false label t p is = let at : place (payload m + 0) ≡ place_of Pilot turned = omega (arith, p.of_others 0 (omega arith)) in ap (λ (z : ℕ). get_or cells z []) at ∙ t.others Pilot turned label [] (search rules)
content_by m s h turned cells labels place Scattered true label t p is = let at : place (payload m + 1) ≡ place_of OppositePilot turned = omega (arith, p.of_others 1 (omega arith)) in ap (λ (z : ℕ). get_or cells z []) at ∙ t.others OppositePilot turned label [] (search rules)
content_by m s h turned cells labels place Scattered false label t p is = let at : place (payload m + 0) ≡ place_of Pilot turned = omega (arith, p.of_others 0 (omega arith)) in ap (λ (z : ℕ). get_or cells z []) at ∙ t.others Pilot turned label [] (search rules)
content_by m s h turned cells labels place Tps true label t p is = let at : place (payload m + 3) ≡ place_of OppositeSignalling turned = omega (arith, p.of_others 3 (omega arith)) in ap (λ (z : ℕ). get_or cells z []) at ∙ t.others OppositeSignalling turned label [] (search rules)
content_by m s h turned cells labels place Tps false label t p is = let at : place (payload m + 2) ≡ place_of Signalling turned = omega (arith, p.of_others 2 (omega arith)) in ap (λ (z : ℕ). get_or cells z []) at ∙ t.others Signalling turned label [] (search rules)
content_by m s h turned cells labels place (Payload q) opposite label t p is =
    let i = is q refl in
    ap (λ (z : ℕ). get_or cells z []) (p.of_labels q i.0) ∙ t.labels (labels q) [] i.1 ∙ sym i.2

number_in : CarrierKind → ℕ
number_in Continual = 0
number_in Scattered = 0
number_in Tps = 0
number_in (Payload q) = q

-- the cell at the index of a carrier has the bytes that the carrier sends
cell_by : (now next : Settings) (m : ℕ) (turned : Bool) (cells : List (List ℕ)) (labels place : ℕ → ℕ) (k : ℕ) (kd : CarrierKind) → IsCellTable now.shape now.hierarchy cells → HasPlaces now.mode turned labels place
    → ((q : ℕ) → q < payload now.mode → labels q < 2 ^ label_bits now.shape) → ((q : ℕ) → kd ≡ Payload q → q < payload now.mode) → turned ≡ is_turned (tps_word (signalled next (frame_of m))) (m % 68)
    → get_or cells (place (index_of now.mode kd (reference k))) [] ≡ sent_bytes (cell_of_kind (settings_for now next kd) m (λ q. is_set (labels q)) k kd)
unfolding number_in
cell_by now next m turned cells labels place k kd t p small few e =
    let label : List ℕ = sent_bytes (map_cell now.shape now.hierarchy (is_set (labels (number_in kd)))) in
    content_by now.mode now.shape now.hierarchy turned cells labels place kd (reference k) label t p
    (λ q is. (few q is, small q (few q is), ap (λ (z : CarrierKind). sent_bytes (map_cell now.shape now.hierarchy (is_set (labels (number_in z))))) is))
    ∙ kind_sent now next m turned (λ q. is_set (labels q)) k (number_in kd) kd label e (λ _. refl) (λ q is. sym (ap number_in is))

-- ---- a carrier of a symbol
few_numbers : (mo n : Mode) (l k : ℕ) → AreNumbered n l → n ≡ mo → k < carriers mo → (q : ℕ) → kind mo l k ≡ Payload q → q < payload mo
few_numbers mo n l k numbered same less q is =
    let all : AreNumbered mo l = subst (λ (z : Mode). AreNumbered z l) same numbered in
    ((all k q less).0 is).0

pub index_below : (mo n : Mode) (l k : ℕ) → AreNumbered n l → n ≡ mo → k < carriers mo → index_of mo (kind mo l k) (reference k) < payload mo + 4
index_below mo n l k numbered same less = index_by mo (kind mo l k) (reference k) (few_numbers mo n l k numbered same less)

-- what is known of a carrier's cell, by its place in the table
pub record IsCarrier (now next : Settings) (m : ℕ) (cells : List (List ℕ)) (labels : ℕ → ℕ) (k place : ℕ) : Type 0 where
  pub few : place < 72
  pub cell : get_or cells place [] ≡ sent_bytes (announcing_cell now next m (λ q. is_set (labels q)) k)

pub carrier_is : (mo n : Mode) (now next : Settings) (s : Shape) (h : Hierarchy) (m : ℕ) (turned : Bool) (cells : List (List ℕ)) (labels place : ℕ → ℕ) (k : ℕ) → now.mode ≡ mo → s ≡ now.shape → h ≡ now.hierarchy
    → AreNumbered n (m % 68) → n ≡ mo → k < carriers mo → IsCellTable s h cells → HasPlaces mo turned labels place → ((q : ℕ) → q < payload mo → labels q < 2 ^ label_bits now.shape)
    → turned ≡ is_turned (tps_word (signalled next (frame_of m))) (m % 68) → IsCarrier now next m cells labels k (place (index_of mo (kind mo (m % 68) k) (reference k)))
unfolding announcing_cell
carrier_is mo n now next s h m turned cells labels place k em es eh numbered same less t p small e =
    let table : IsCellTable now.shape now.hierarchy cells = subst (λ (z : Hierarchy). IsCellTable now.shape z cells) eh (subst (λ (z : Shape). IsCellTable z h cells) es t) in
    let few : (q : ℕ) → kind mo (m % 68) k ≡ Payload q → q < payload mo = few_numbers mo n (m % 68) k numbered same less in
    let own : IsAllOf now.mode = subst IsAllOf (sym em) (p, small, few, refl) in
    record {
      few = place_by mo now.shape turned labels place (kind mo (m % 68) k) (reference k) p small few;
      cell = ap (λ (z : ℕ). get_or cells z []) own.3 ∙ cell_by now next m turned cells labels place k (kind now.mode (m % 68) k) table own.0 own.1 own.2 e;
    }
  where
    IsAllOf : Mode → Type 0
    IsAllOf z = HasPlaces z turned labels place × ((q : ℕ) → q < payload z → labels q < 2 ^ label_bits now.shape) × ((q : ℕ) → kind z (m % 68) k ≡ Payload q → q < payload z)
        × (place (index_of mo (kind mo (m % 68) k) (reference k)) ≡ place (index_of z (kind z (m % 68) k) (reference k)))

-- ---- the bytes of a symbol
pub none_at : (cells : List (List ℕ)) (places indices : List ℕ) → bytes_at cells places indices 0 ≡ []
unfolding bytes_at numbers
none_at cells places indices = refl

pub one_at : (cells : List (List ℕ)) (places indices : List ℕ) (n : ℕ) → bytes_at cells places indices (n + 1) ≡ bytes_at cells places indices n ++ get_or cells (get_or places (get_or indices n 0) 0) []
unfolding bytes_at
one_at cells places indices n =
    let f : ℕ → List ℕ = λ k. get_or cells (get_or places (get_or indices k 0) 0) [] in
    ap (flat_map f) (numbers_end n) ∙ flat_map-append f (numbers n) (n ∷ []) ∙ ap (λ (z : List ℕ). flat_map f (numbers n) ++ z) (append-nil (f n))

-- a carrier's place and bytes, by its index
pub record IsSent (now next : Settings) (m : ℕ) (bits : ℕ → ℕ → Bool) (cells : List (List ℕ)) (places : List ℕ) (k index : ℕ) : Type 0 where
  pub few : index < length places
  pub place : get_or places index 0 < 72
  pub cell : get_or cells (get_or places index 0) [] ≡ sent_bytes (announcing_cell now next m bits k)

pub all_bytes : (now next : Settings) (m : ℕ) (bits : ℕ → ℕ → Bool) (cells : List (List ℕ)) (places indices : List ℕ) (n : ℕ) → n ≡ carriers now.mode
    → ((k : ℕ) → k < n → get_or cells (get_or places (get_or indices k 0) 0) [] ≡ sent_bytes (announcing_cell now next m bits k)) → bytes_at cells places indices n ≡ announcing_bytes now next m bits
unfolding bytes_at announcing_bytes numbers
all_bytes now next m bits cells places indices n en all =
    same_below (λ k. get_or cells (get_or places (get_or indices k 0) 0) []) (λ k. sent_bytes (announcing_cell now next m bits k)) 0 n (λ i l. all (0 + i) (omega (arith, l)))
    ∙ ap (λ (z : ℕ). flat_map (λ k. sent_bytes (announcing_cell now next m bits k)) (numbers z)) en

-- the places are kept in the order of the carriers
pub own_sent : (mo n : Mode) (now next : Settings) (s : Shape) (h : Hierarchy) (m : ℕ) (turned : Bool) (cells : List (List ℕ)) (labels places : List ℕ) (k index : ℕ) → now.mode ≡ mo → s ≡ now.shape → h ≡ now.hierarchy
    → AreNumbered n (m % 68) → n ≡ mo → k < carriers mo → IsCellTable s h cells → ArePlaces mo turned labels places → payload mo + 4 ≤ length places → ((q : ℕ) → q < payload mo → get_or labels q 0 < 2 ^ label_bits now.shape)
    → turned ≡ is_turned (tps_word (signalled next (frame_of m))) (m % 68) → index ≡ index_of mo (kind mo (m % 68) k) (reference k) → IsSent now next m (bits_of labels) cells places k index
own_sent mo n now next s h m turned cells labels places k index em es eh numbered same less t p long small e ei =
    let is : IsCarrier now next m cells (λ q. get_or labels q 0) k (get_or places (index_of mo (kind mo (m % 68) k) (reference k)) 0) =
    carrier_is mo n now next s h m turned cells (λ q. get_or labels q 0) (λ i. get_or places i 0) k em es eh numbered same less t (own_places mo turned labels places p) small e in
    record {
      few = omega (arith, index_below mo n (m % 68) k numbered same less, long, ei);
      place = subst (λ (z : ℕ). get_or places z 0 < 72) (sym ei) is.few;
      cell = ap (λ (z : ℕ). get_or cells (get_or places z 0) []) ei ∙ is.cell;
    }

-- ---- the order of words the index of a carrier without a label stays
after_labels : (m : Mode) (odd : Bool) (i : ℕ) → payload m ≤ i → interleaved m odd i ≡ i
after_labels m odd i l = ap (λ (b : Bool). if b then carried m odd i else i) (le-ltb i (payload m) l)

of_label : (m : Mode) (odd : Bool) (i : ℕ) → i < payload m → interleaved m odd i ≡ carried m odd i
of_label m odd i l = ap (λ (b : Bool). if b then carried m odd i else i) (lt-ltb i (payload m) l)

-- the word's label that a carrier carries, and the place of an index in the order of carriers
abbrev label_at : Mode → Bool → List ℕ → ℕ → ℕ
label_at m odd words q = get_or words (carried m odd q) 0

abbrev place_at : Mode → Bool → List ℕ → List ℕ → ℕ → ℕ
place_at m odd words places i = if nat_lt i (payload m) then label_at m odd words i else get_or places i 0

place_of_label : (m : Mode) (odd : Bool) (words places : List ℕ) (i : ℕ) → i < payload m → place_at m odd words places i ≡ label_at m odd words i
place_of_label m odd words places i l = ap (λ (b : Bool). if b then label_at m odd words i else get_or places i 0) (lt-ltb i (payload m) l)

place_of_other : (m : Mode) (odd : Bool) (words places : List ℕ) (i : ℕ) → payload m ≤ i → place_at m odd words places i ≡ get_or places i 0
place_of_other m odd words places i l = ap (λ (b : Bool). if b then label_at m odd words i else get_or places i 0) (le-ltb i (payload m) l)

word_places : (m : Mode) (turned odd : Bool) (words places : List ℕ) → ArePlaces m turned words places → HasPlaces m turned (label_at m odd words) (place_at m odd words places)
word_places m turned odd words places p = record {
  of_labels = λ q l. place_of_label m odd words places q l;
  of_others = λ c l. place_of_other m odd words places (payload m + c) (omega arith) ∙ p.of_others c l;
}

word_place_is : (m : Mode) (turned odd : Bool) (words places : List ℕ) (i n : ℕ) → ArePlaces m turned words places → n ≡ interleaved m odd i → (i < payload m → n < payload m) → get_or places n 0 ≡ place_at m odd words places i
word_place_is m turned odd words places i n p is word = go (cases_lt i (payload m))
  where
    go : (i < payload m) ⊎ (payload m ≤ i) → get_or places n 0 ≡ place_at m odd words places i
    go (inl l) = p.of_labels n (word l) ∙ ap (λ (z : ℕ). get_or words z 0) (is ∙ of_label m odd i l) ∙ sym (place_of_label m odd words places i l)
    go (inr l) = ap (λ (z : ℕ). get_or places z 0) (is ∙ after_labels m odd i l) ∙ sym (place_of_other m odd words places i l)

some_values : (s : Shape) → 0 < 2 ^ label_bits s
some_values Qpsk = omega arith
some_values Qam16 = omega arith
some_values Qam64 = omega arith

small_label : (s : Shape) (words : List ℕ) (w : ℕ) → ((v : ℕ) → v < length words → get_or words v 0 < 2 ^ label_bits s) → get_or words w 0 < 2 ^ label_bits s
small_label s words w small = go (cases_lt w (length words))
  where
    go : (w < length words) ⊎ (length words ≤ w) → get_or words w 0 < 2 ^ label_bits s
    go (inl l) = small w l
    go (inr l) = subst (λ (z : ℕ). z < 2 ^ label_bits s) (sym (get_or_past words w 0 l)) (some_values s)

pub word_place_small : (mo n : Mode) (s : Shape) (l : ℕ) (turned : Bool) (words places : List ℕ) (k index : ℕ) → AreNumbered n l → n ≡ mo → k < carriers mo → ArePlaces mo turned words places
    → ((w : ℕ) → w < length words → get_or words w 0 < 2 ^ label_bits s) → IsWordIndex mo l k index → get_or places index 0 < 72
word_place_small mo n s l turned words places k index numbered same less p small ei =
    let odd : Bool = is_odd l in
    let place : get_or places index 0 ≡ place_at mo odd words places (index_of mo (kind mo l k) (reference k)) = word_place_is mo turned odd words places (index_of mo (kind mo l k) (reference k)) index p ei.is ei.word in
    subst (λ (z : ℕ). z < 72) (sym place) (place_by mo s turned (label_at mo odd words) (place_at mo odd words places) (kind mo l k) (reference k) (word_places mo turned odd words places p) (λ q l. small_label s words (carried mo odd q) small)
    (few_numbers mo n l k numbered same less))

pub word_sent : (mo n : Mode) (now next : Settings) (s : Shape) (h : Hierarchy) (m : ℕ) (turned : Bool) (cells : List (List ℕ)) (words places : List ℕ) (k index : ℕ) → now.mode ≡ mo → s ≡ now.shape → h ≡ now.hierarchy
    → AreNumbered n (m % 68) → n ≡ mo → k < carriers mo → IsCellTable s h cells → ArePlaces mo turned words places → ((w : ℕ) → w < length words → get_or words w 0 < 2 ^ label_bits s)
    → turned ≡ is_turned (tps_word (signalled next (frame_of m))) (m % 68) → IsWordIndex mo (m % 68) k index → get_or cells (get_or places index 0) [] ≡ sent_bytes (announcing_cell now next m (carried_bits mo (is_odd m) words) k)
word_sent mo n now next s h m turned cells words places k index em es eh numbered same less t p small e ei =
    let odd : Bool = is_odd m in
    let i : ℕ = index_of mo (kind mo (m % 68) k) (reference k) in
    let parity : is_odd (m % 68) ≡ odd = ap (λ (z : ℕ). z == 1) (let r : m % 68 % 2 ≡ m % 2 = omega arith in r) in
    let at : index ≡ interleaved mo odd i = ei.is ∙ ap (λ (b : Bool). interleaved mo b i) parity in
    let place : get_or places index 0 ≡ place_at mo odd words places i = word_place_is mo turned odd words places i index p at ei.word in
    let little : (q : ℕ) → q < payload mo → label_at mo odd words q < 2 ^ label_bits now.shape = λ q l. subst (λ (z : Shape). label_at mo odd words q < 2 ^ label_bits z) es (small_label s words (carried mo odd q) small) in
    let is : IsCarrier now next m cells (label_at mo odd words) k (place_at mo odd words places i) =
    carrier_is mo n now next s h m turned cells (label_at mo odd words) (place_at mo odd words places) k em es eh numbered same less t (word_places mo turned odd words places p) little e in
    ap (λ (z : ℕ). get_or cells z []) place ∙ is.cell

-- the indices of a symbol are those of the symbol at its place among four
pub word_index_repeats : (m : Mode) (l i : ℕ) (list : List ℕ) → l % 4 ≡ i → ((k : ℕ) → k < carriers m → kind m l k ≡ kind m (l % 4) k) → AreWordIndices m i list (carriers m) → AreWordIndices m l list (carriers m)
word_index_repeats m l i list e same a = record { long = a.long; at = at }
  where
    parity : is_odd i ≡ is_odd l
    parity = ap (λ (z : ℕ). z == 1) (let r : i % 2 ≡ l % 2 = omega (arith, e) in r)

    at : (k : ℕ) → k < carriers m → IsWordIndex m l k (get_or list k 0)
    at k less =
        let kd : kind m i k ≡ kind m l k = ap (λ (z : ℕ). kind m z k) (sym e) ∙ sym (same k less) in
        let here = a.at k less in
        record {
          is = here.is ∙ ap (λ (b : Bool). interleaved m b (index_of m (kind m i k) (reference k))) parity ∙ ap (λ (z : CarrierKind). interleaved m (is_odd l) (index_of m z (reference k))) kd;
          few = here.few;
          word = λ few. here.word (subst (λ (z : CarrierKind). index_of m z (reference k) < payload m) (sym kd) few);
        }

pub no_word_indices : (m : Mode) (l : ℕ) → AreWordIndices m l [] 0
no_word_indices m l = record { long = refl; at = λ k less. absurd (omega (arith, less)) }

pub word_indices_more : (m : Mode) (l n index : ℕ) (old new : List ℕ) → AreWordIndices m l old n → IsWordIndex m l n index → new ≡ old ++ index ∷ [] → AreWordIndices m l new (n + 1)
word_indices_more m l n index old new a here e = record { long = ap (λ (z : List ℕ). length z) e ∙ length_push old index ∙ ap (λ (z : ℕ). z + 1) a.long; at = at }
  where
    at : (k : ℕ) → k < n + 1 → IsWordIndex m l k (get_or new k 0)
    at k less = go (cases_lt k n)
      where
        go : (k < n) ⊎ (n ≤ k) → IsWordIndex m l k (get_or new k 0)
        go (inl lt) = subst (IsWordIndex m l k) (sym (ap (λ (z : List ℕ). get_or z k 0) e ∙ get_or_append_left old (index ∷ []) 0 k (omega (arith, lt, a.long)))) (a.at k lt)
        go (inr ge) =
            let same : n ≡ k = omega (arith, less, ge) in
            subst (IsWordIndex m l k) (sym (ap (λ (z : List ℕ). get_or z k 0) e ∙ get_or_push old index 0 k (a.long ∙ same))) (subst (λ (z : ℕ). IsWordIndex m l z index) same here)

-- an index of a carrier in the order of words, with a label or without
pub word_index : (m : Mode) (l k i n : ℕ) → i ≡ index_of m (kind m l k) (reference k) → i < payload m → n ≡ carried m (is_odd l) i → n < payload m → IsWordIndex m l k n
word_index m l k i n ei less is few = record {
  is = is ∙ sym (of_label m (is_odd l) i less) ∙ ap (interleaved m (is_odd l)) ei;
  few = omega (arith, few);
  word = λ _. few;
}

pub other_index : (m : Mode) (l k i : ℕ) → i ≡ index_of m (kind m l k) (reference k) → payload m ≤ i → i < payload m + 4 → IsWordIndex m l k i
other_index m l k i ei past few = record {
  is = sym (after_labels m (is_odd l) i past) ∙ ap (interleaved m (is_odd l)) ei;
  few = few;
  word = λ less. absurd (omega (arith, less, ei, past));
}
