use Rattle.std.specs.Prelude.{◌≡◌, []}
use Rattle.mode_set.specs.Plans.{entries_of}
use Rattle.mode_set.specs.declared.settings.Settings.{Settings}
use Rattle.trial.specs.Laws.{AllAreDrawn, FramesOfDrawn}
use Rattle.trial.proofs.Drawing.{AreAlike, AreFramed, all_are_drawn, drawn_in_order, frames_of_drawn, nulls_behind, one_super_frame, symbols_of_drawn}
use Rattle.trial.proofs.laws.packets.Goals as goal

pub returns : goal.returns
returns c =
    let known : AreFramed = record { found = c.super_frames.ensures.found; hp = c.settings.ensures.hp; frames = c.packets.ensures.super_frames } in
    let alike : (s : Settings) → entries_of s.plan ≡ [] → AreAlike s = λ s none. record {
      words = λ σ n. c.words.ensures.constant s σ n (λ j. c.settings.ensures.same s j none);
      streams = λ σ. c.settings.ensures.streams s σ none;
    } in
    let all : AllAreDrawn = all_are_drawn known c.packets.ensures.none c.packets.ensures.grow in
    let frames : FramesOfDrawn = frames_of_drawn all in
    record {
      all = all;
      frames = frames;
      symbols = symbols_of_drawn frames;
      one = one_super_frame alike c.super_frames.ensures.found c.super_frames.ensures.enough;
      order = drawn_in_order c.packets.ensures.none c.packets.ensures.grow;
      nulls = nulls_behind all;
    }
