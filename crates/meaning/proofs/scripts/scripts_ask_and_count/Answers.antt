use Rattle.std.proofs.Common.{refl}
use Rattle.meaning.specs.scripts.Dialogues.{over, lacks}
use Rattle.meaning.specs.scripts.Dialogues as dialogue
use Rattle.meaning.proofs.scripts.scripts_ask_and_count.Goals as goal

pub returns : goal.returns
returns c = record {
  passes = dialogue.Holds.asks (λ none. none) (dialogue.Holds.asks (λ none. none) (dialogue.Holds.asks (λ none. none) (dialogue.Holds.asks (λ none. none) (dialogue.Holds.asks (λ none. none) over))));
  fails = dialogue.Holds.asks (λ none. none) over;
  named = refl;
  failed = refl;
  stops = dialogue.Begins.asks (λ none. none) (lacks tt);
}
