use Rattle.std.proofs.Common.{◌++◌, ◌∷◌, [], ◌<◌, ◌^◌, map, length, refl, sym, subst}
use Rattle.std.proofs.lemmas.List.Elements.{All-push}
use Rattle.rescue_words.specs.Carrying.{Carries, first_byte, second_byte, third_byte, fourth_byte}
use Rattle.rescue_words.proofs.MarginBytes.{line_gives, line_stands, small_through, from_bytes}
use Rattle.rescue_words.proofs.lines.MarginLines.step.Goals as goal

pub returns-clause-given : goal.returns-clause-given
returns-clause-given c = λ margins h.
    let g = subst (λ x. Carries x margins) (sym c.self.view_is) h in
    let m = c.args.margin in
    let b = c.bytes_of_margin-first.ensures in
    from_bytes _ c.step-first.result c.step-second.result c.step-third.result c.step-fourth.result
    (small_through (margins ++ m ∷ []) (length margins) (All-push (λ m. m < 2 ^ 32) margins m g.small b.small))
    (line_gives first_byte refl margins m _ _ b.first (c.step-first.ensures.given (map first_byte margins) g.first))
    (line_gives second_byte refl margins m _ _ b.second (c.step-second.ensures.given (map second_byte margins) g.second))
    (line_gives third_byte refl margins m _ _ b.third (c.step-third.ensures.given (map third_byte margins) g.third))
    (line_gives fourth_byte refl margins m _ _ b.fourth (c.step-fourth.ensures.given (map fourth_byte margins) g.fourth))

pub returns-clause-stands : goal.returns-clause-stands
returns-clause-stands c = λ margins h.
    let g = subst (λ x. Carries x margins) (sym c.self.view_is) h in
    let m = c.args.margin in
    let b = c.bytes_of_margin-first.ensures in
    record {
      first = line_stands first_byte _ margins m _ b.first (c.step-first.ensures.stands (map first_byte margins) g.first);
      second = line_stands second_byte _ margins m _ b.second (c.step-second.ensures.stands (map second_byte margins) g.second);
      third = line_stands third_byte _ margins m _ b.third (c.step-third.ensures.stands (map third_byte margins) g.third);
      fourth = line_stands fourth_byte _ margins m _ b.fourth (c.step-fourth.ensures.stands (map fourth_byte margins) g.fourth);
      small = All-push (λ m. m < 2 ^ 32) margins m g.small b.small;
    }
