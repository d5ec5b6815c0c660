-- How soon the loop goes on.
use Rattle.peer.specs.declared.pace.Pace.{Pace}
use Rattle.peer.specs.declared.pace.Pace.TheVariants as paces

-- the sooner of two
abbrev pub sooner : Pace → Pace → Pace
sooner paces.Goes other = paces.Goes
sooner paces.Pauses paces.Goes = paces.Goes
sooner paces.Pauses paces.Pauses = paces.Pauses
sooner paces.Pauses paces.Sleeps = paces.Pauses
sooner paces.Sleeps other = other
