use Rattle.std.proofs.Common.{None, Some, refl}
use Rattle.slab.specs.Slab.{get}
use Rattle.peer.proofs.Rounds.{no_peer}
use Rattle.peer.specs.declared.pace.Pace.TheVariants as paces
use Rattle.event_loop.proofs.Runs.{runs_further, runs_none}
use Rattle.event_loop.proofs.Turns.{paced_by}
use Rattle.event_loop.proofs.hub.Hub.step.Goals as goal

pub returns-in_default-clause-calls : goal.returns-in_default-clause-calls
returns-in_default-clause-calls g c = runs_none c.args.self.now.peers

pub returns-in_default-clause-fair : goal.returns-in_default-clause-fair
returns-in_default-clause-fair g c =
    let peers = c.args.self.now.peers in
    record { step = None; paced = refl; steps = no_peer peers.server (get peers.peers) c.args.key (c.connection.ensures c.in_default.is) }

pub returns-in_err-stepped-clause-calls : goal.returns-in_err-stepped-clause-calls
returns-in_err-stepped-clause-calls g c = runs_further c.args.self.now.peers c.step.new.self c.step.ensures.serves

pub returns-in_default-2-clause-calls : goal.returns-in_default-2-clause-calls
returns-in_default-2-clause-calls g c = runs_further c.args.self.now.peers c.step.new.self c.step.ensures.serves

pub returns-in_default-2-clause-fair : goal.returns-in_default-2-clause-fair
returns-in_default-2-clause-fair g c =
    record { step = _; paced = paced_by c.in_ok-stepped.field-0 None paces.Sleeps c.in_default-2.is refl; steps = c.in_ok-stepped.ensures.fair }

pub returns-clause-calls : goal.returns-clause-calls
returns-clause-calls g c = runs_further c.args.self.now.peers c.step.new.self c.step.ensures.serves

pub returns-clause-fair : goal.returns-clause-fair
returns-clause-fair g c =
    record { step = _; paced = paced_by c.in_ok-stepped.field-0 (Some c.in-Some-2.stepped) c.note_step.result c.in-Some-2.is c.note_step.ensures; steps = c.in_ok-stepped.ensures.fair }
