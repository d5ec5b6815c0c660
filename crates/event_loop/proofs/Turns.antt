-- Steps of the 16 keys, one after the other.
use Rattle.std.proofs.Common.{◌≡◌, ℕ, suc, Option, ap, sym, subst, add-one, ◌+◌, ◌∙◌}
use Rattle.std.specs.Option.{option_map}
use Rattle.disk.specs.declared.device.Device.{Ghosts}
use Rattle.slab.specs.Slab.{get}
use Rattle.peer.specs.Rounds.{IsRound}
use Rattle.peer.specs.Rounds as rounds
use Rattle.peer.specs.declared.pace.Pace.{Pace}
use Rattle.peer.specs.declared.peers.Peers.{Peers}
use Rattle.peer.specs.declared.peers.Stepped.{Stepped}
use Rattle.peer.specs.declared.stream.Stream as stream
use Rattle.event_loop.specs.Runs.{HadTurns, RunsOn, StepsOne, pace_of}
use Rattle.event_loop.proofs.Runs.{runs_none, runs_then}

-- how soon to go on, by what a step returned
pub paced_by : {S : Type 0} (done is : Option (Stepped S)) (pace : Pace) → done ≡ is → pace ≡ pace_of (option_map (λ (stepped : Stepped S). stepped.step) is)
    → pace ≡ pace_of (option_map (λ (stepped : Stepped S). stepped.step) done)
paced_by {S = S} done is pace same paced = paced ∙ ap (λ (done : Option (Stepped S)). pace_of (option_map (λ (stepped : Stepped S). stepped.step) done)) (sym same)

-- the keys below the count have had a step
abbrev pub HaveStepped : {D S : Type 0} {g : Ghosts D} {h : stream.Ghosts S} → (keeps : Type 0) → (old now : Peers D S g h) → (count : ℕ) → Type 0
HaveStepped keeps old now count = IsRound keeps old.server (get old.peers) count now.server (get now.peers)

module _ {D S : Type 0} {g : Ghosts D} {h : stream.Ghosts S} {keeps : Type 0} where
  pub stepped_none : (all : Peers D S g h) → HaveStepped keeps all all 0
  stepped_none all = rounds.IsRound.Begins

  -- one key more
  stepped_next : (old before after : Peers D S g h) (count : ℕ) (pace : Pace) → HaveStepped keeps old before count → StepsOne keeps count before after pace → HaveStepped keeps old after (suc count)
  stepped_next old before after count pace so_far one = rounds.IsRound.Steps_on one.step so_far one.steps

  pub stepped_on : (old before after : Peers D S g h) (count : ℕ) (pace : Pace) → HaveStepped keeps old before count → StepsOne keeps count before after pace → HaveStepped keeps old after (count + 1)
  stepped_on old before after count pace so_far one = rw add-one (stepped_next old before after count pace so_far one)

  -- all of them
  pub had_turns : (old new : Peers D S g h) (count : ℕ) → HaveStepped keeps old new count → count ≡ 16 → HadTurns keeps old new
  had_turns old new count so_far all = record { between = new; round = subst (λ (count : ℕ). HaveStepped keeps old new count) all so_far; goes = runs_none new }

  -- and calls since
  pub had_turns_then : {old between new : Peers D S g h} → HadTurns keeps old between → RunsOn keeps between new → HadTurns keeps old new
  had_turns_then had more = record { between = had.between; round = had.round; goes = runs_then had.goes more }
