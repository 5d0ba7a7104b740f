use Rattle.std.proofs.Common.{◌≡◌, ◌+◌, ◌-◌, ◌*◌, ◌/◌, ◌%◌, ◌≤◌, ◌++◌, ◌∙◌, ap, refl, sym, subst, arith, get_or, length, length-take-le, take, drop}
use Rattle.std.proofs.lemmas.List.{drop_all, length-drop}
use Rattle.survivor_ring.specs.Ring.{IsTraced, root}
use Rattle.survivor_ring.proofs.Eights.{part_bits, part_root, traced_bytes}
use Rattle.survivor_ring.proofs.ring.trace_part.Goals as goal

pub returns-clause-root : goal.returns-clause-root
returns-clause-root c =
    let ws = c.args.words.now in
    let low = (8 - c.args.place % 8) % 8 in
    let high = low + 16 * ((length ws - low) / 16) in
    let end : high + (length ws - high) ≡ length ws = omega (arith, c.if-count-low.false) in
    let none : c.args.state ≡ root (drop (high + (length ws - high)) ws) c.args.state = sym (ap (λ z. root z c.args.state) (drop_all (high + (length ws - high)) ws (omega (arith, end)))) in
    let step : low + (high - low) ≡ high = omega arith in
    let first : low ≡ 0 + low = omega arith in
    part_root ws _ 0 low c.trace_bytes-now.result c.trace_steps-2.result.0 c.args.state refl
    (part_root ws _ low (high - low) c.trace_steps-after.result.0 c.trace_bytes-now.result c.args.state refl
    (part_root ws _ high (length ws - high) c.args.state c.trace_steps-after.result.0 c.args.state refl none c.trace_steps-after.ensures.root ∙ ap (λ z. root (drop z ws) c.args.state) (sym step))
    c.trace_bytes-now.ensures.root ∙ ap (λ z. root (drop z ws) c.args.state) first)
    c.trace_steps-2.ensures.root

pub returns-clause-traced : goal.returns-clause-traced
returns-clause-traced c =
    λ bits e t.
    let ws = c.args.words.now in
    let place = c.args.place in
    let low = (8 - place % 8) % 8 in
    let high = low + 16 * ((length ws - low) / 16) in
    let start = (place + low) / 8 in
    let end : high + (length ws - high) ≡ length ws = omega (arith, c.if-count-low.false) in
    let none : c.args.state ≡ root (drop (high + (length ws - high)) ws) c.args.state = sym (ap (λ z. root z c.args.state) (drop_all (high + (length ws - high)) ws (omega (arith, end)))) in
    let step : low + (high - low) ≡ high = omega arith in
    let first : low ≡ 0 + low = omega arith in
    let after = part_root ws _ high (length ws - high) c.args.state c.trace_steps-after.result.0 c.args.state refl none c.trace_steps-after.ensures.root ∙ ap (λ z. root (drop z ws) c.args.state) (sym step) in
    let now = part_root ws _ low (high - low) c.trace_steps-after.result.0 c.trace_bytes-now.result c.args.state refl after c.trace_bytes-now.ensures.root ∙ ap (λ z. root (drop z ws) c.args.state) first in
    let none_more : place ≡ place + 0 = omega arith in
    let half = (length ws - low) / 16 in
    let n = start + 2 * half - start in
    let seg = c.trace_bytes-now.new.bytes in
    let mid = c.trace_steps-after.new.bytes in
    let new = take start mid ++ (seg ++ drop n (drop start mid)) in
    let room : start + 2 * half ≤ 257 = omega (arith, c.requires.room, c.if-count-low.false) in
    let sized : length seg ≡ n = c.trace_bytes-now.ensures.size ∙ length-take-le n (drop start mid) (omega (arith, length-drop start mid, c.trace_steps-after.array_long, room)) in
    let middle : length (take (high - low) (drop low ws)) ≡ high - low = length-take-le (high - low) (drop low ws) (omega (arith, length-drop low ws, c.if-count-low.false)) in
    let whole : 8 * n ≡ length (take (high - low) (drop low ws)) = omega (arith, middle) in
    let oldest : length (take low ws) ≡ low = length-take-le low ws (omega (arith, c.if-count-low.false)) in
    let front : place + low ≡ place + length (take low ws) = omega (arith, oldest) in
    let newest : length (take (length ws - high) (drop high ws)) ≡ length ws - high = length-take-le (length ws - high) (drop high ws) (omega (arith, length-drop high ws)) in
    let back : place + length ws ≡ place + high + length (take (length ws - high) (drop high ws)) = omega (arith, newest, end) in
    c.trace_steps-2.ensures.traced bits (ap (λ z. take (length (take low ws)) (drop z bits)) none_more ∙ part_bits bits ws (take low ws) place 0 low c.trace_bytes-now.result c.args.state e (omega (arith, c.if-count-low.false)) refl now)
    (subst (λ x. IsTraced bits x (get_or new start 0) new) front
    (traced_bytes bits (place + low) start (place + high) n seg mid new c.trace_steps-after.result.1 (omega arith) (omega (arith, c.if-count-low.false)) sized (omega (arith, c.if-count-low.false)) (omega (arith, room, c.trace_steps-after.array_long))
    (ap (λ x. take x (drop (place + low) bits)) whole ∙ part_bits bits ws (take (high - low) (drop low ws)) place low (high - low) c.trace_steps-after.result.0 c.args.state e (omega (arith, c.if-count-low.false)) refl after ∙ sym c.trace_bytes-now.ensures.bits) refl
    (c.trace_steps-after.ensures.traced bits (part_bits bits ws (take (length ws - high) (drop high ws)) place high (length ws - high) c.args.state c.args.state e (omega (arith, end)) refl none) (subst (λ x. IsTraced bits x c.args.byte c.args.bytes.now) back t))))
