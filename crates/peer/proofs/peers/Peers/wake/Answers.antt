use Rattle.std.proofs.Common.{sym, List}
use Rattle.slab.specs.Slab.{get, with_value}
use Rattle.server.specs.Seen.{ServerCall}
use Rattle.peer.specs.Between.{IsWoken}
use Rattle.peer.proofs.Between.{changes}
use Rattle.peer.proofs.Serving.{changed_at, shown_further, woken}
use Rattle.peer.proofs.peers.Peers.wake.Goals as goal

pub returns-in-Some-clause-serves : goal.returns-in-Some-clause-serves
returns-in-Some-clause-serves g c = λ first streams so_far.
    let s = c.args.self.now in
    let before = c.in-Some.peer.now in
    let after = c.wake.new.self in
    shown_further {first = first} {server = s.server} streams (get s.peers) (get (with_value s.peers c.args.key after)) c.args.key before after
    (sym c.in-Some.ensures.value) (changed_at s.peers c.args.key before after c.in-Some.ensures.value)
    (λ (calls : List ServerCall). woken streams calls before after c.wake.ensures.same.0 c.wake.ensures.same.1) c.wake.ensures.same.0.conn so_far

pub returns-in-Some-clause-wakes : goal.returns-in-Some-clause-wakes
returns-in-Some-clause-wakes g c =
    changes c.args.self.now.server c.args.self.now.peers c.args.key c.in-Some.peer.now c.wake.new.self (IsWoken c.args.can_read c.args.can_write) c.in-Some.ensures.value
    (record { read = c.wake.ensures.read; write = c.wake.ensures.write; same = c.wake.ensures.same.0; stage = c.wake.ensures.same.1; answered = c.wake.ensures.same.2 })
