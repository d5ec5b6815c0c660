use Rattle.event_loop.proofs.AnyCalls.{goes_none, goes_then}
use Rattle.event_loop.proofs.seating.run.Goals as goal

pub loop-init : goal.loop-init
loop-init g c = goes_none c.args.server.now

pub loop-preserved : goal.loop-preserved
loop-preserved g c = goes_then c.loop.invariant c.turn.ensures

pub returns-in_err-turn : goal.returns-in_err-turn
returns-in_err-turn g c = goes_then c.loop.invariant c.turn.ensures

pub returns-then-ne : goal.returns-then-ne
returns-then-ne g c = goes_then c.loop.invariant c.turn.ensures

pub returns : goal.returns
returns g c = c.loop.invariant
