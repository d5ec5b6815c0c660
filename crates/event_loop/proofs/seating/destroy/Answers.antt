use Rattle.event_loop.proofs.AnyCalls.{goes_then}
use Rattle.event_loop.proofs.seating.destroy.Goals as goal

pub returns-in_err-ask : goal.returns-in_err-ask
returns-in_err-ask g c = c.ask.ensures

pub returns-in_err-run : goal.returns-in_err-run
returns-in_err-run g c = goes_then c.ask.ensures c.run.ensures

pub returns-in_err-reply : goal.returns-in_err-reply
returns-in_err-reply g c = goes_then (goes_then c.ask.ensures c.run.ensures) c.take_output.ensures

pub returns-in-Some : goal.returns-in-Some
returns-in-Some g c = goes_then (goes_then c.ask.ensures c.run.ensures) c.take_output.ensures

pub returns-in-None : goal.returns-in-None
returns-in-None g c = goes_then (goes_then c.ask.ensures c.run.ensures) c.take_output.ensures
