use Rattle.std.proofs.Common.{ℕ, true, false, List, [], ◌∷◌, ◌≡◌, replicate, refl, arith}
use Rattle.model.specs.Operations.Answer.{Answer, Outcome, ReadDirAnswer}
use Rattle.model.specs.Examples.FileExamples.{fresh, three, three_others, make, list_from, shown}
use Rattle.model.specs.Operations.Operation.{Argument}
use Rattle.model.specs.Operations.Step.{State, does}
use Rattle.model.specs.Examples.StepExamples.{volume, outcomes, state_after}
use Rattle.model.specs.Operations.StepLaws.{IsSound}
use Rattle.model_tree.proofs.Rights.LimitLaws.{modes_keep_limits, inheritance_keeps_limits}
use Rattle.model.proofs.Operations.StepProofs.{every_step, runs_begin}
use Rattle.listings.specs.Readings.{Reading}
use Rattle.listings.proofs.reading.reading_example.Goals as goal

same_outcome : (a b : Outcome) → a ∷ [] ≡ b ∷ [] → a ≡ b
same_outcome a b same = cc

abbrev read : (state : State) (cookie most : ℕ) (answer : ReadDirAnswer) → outcomes volume state (list_from cookie most ∷ []) ≡ Outcome.Done (Answer.ReadDir answer) ∷ [] → Reading
read state cookie most answer row = record {
  limits = volume;
  state = state;
  now = 1000;
  arguments = record { cookie = cookie; verifier = replicate 8 0; dir_count = 0; max_count = most; bitmap = [] };
  answer = answer;
  answered = same_outcome (does volume state 1000 (list_from cookie most)).outcome (Outcome.Done (Answer.ReadDir answer)) row;
}

sound_after : (operations : List Argument) (state : State) → IsSound volume state → IsSound volume (state_after volume state operations)
sound_after [] state sound = sound
sound_after (operation ∷ rest) state sound = sound_after rest (does volume state 1000 operation).state
    ((every_step modes_keep_limits inheritance_keeps_limits volume state 1000 operation).keeps_soundness sound)

sound : IsSound volume three
sound = sound_after (Argument.PutRootFh ∷ make 97 ∷ Argument.PutRootFh ∷ make 98 ∷ Argument.PutRootFh ∷ make 99 ∷ Argument.PutRootFh ∷ []) fresh
    (runs_begin.first volume fresh (omega arith) (omega arith) refl refl (omega arith))

pub returns : goal.returns
returns c = record {
  readings = read three 0 44 (record { entries = shown 97 4294967297 ∷ []; is_end = false }) c.file_examples.ensures.one_fits
      ∷ read three_others 4294967297 72 (record { entries = shown 99 4294967299 ∷ shown 100 4294967301 ∷ []; is_end = true }) c.file_examples.ensures.goes_on
      ∷ [];
  states = refl;
  well_formed = (sound.well_formed, ((sound_after (Argument.Remove (98 ∷ []) ∷ make 100 ∷ Argument.PutRootFh ∷ []) three sound).well_formed, tt));
  listing = (refl, refl, (refl, refl));
  answered = refl;
}
