use Rattle.std.proofs.Common.{sym, List}
use Rattle.slab.specs.Slab.{get, with_value}
use Rattle.server.specs.Seen.{ServerCall}
use Rattle.peer.specs.Between.{IsDismissed}
use Rattle.peer.proofs.Between.{changes}
use Rattle.peer.proofs.Serving.{changed_at, dismissed, shown_further}
use Rattle.peer.proofs.peers.Peers.dismiss.Goals as goal

pub returns-in-Some-clause-serves : goal.returns-in-Some-clause-serves
returns-in-Some-clause-serves g c = λ first streams so_far.
    let s = c.args.self.now in
    let before = c.in-Some.peer.now in
    let after = c.dismiss.new.self in
    shown_further {first = first} {server = s.server} streams (get s.peers) (get (with_value s.peers c.args.key after)) c.args.key before after
    (sym c.in-Some.ensures.value) (changed_at s.peers c.args.key before after c.in-Some.ensures.value)
    (λ (calls : List ServerCall). dismissed streams calls before after c.dismiss.ensures.same.0 c.dismiss.ensures.stage) c.dismiss.ensures.same.0.conn so_far

pub returns-in-Some-clause-dismisses : goal.returns-in-Some-clause-dismisses
returns-in-Some-clause-dismisses g c =
    changes c.args.self.now.server c.args.self.now.peers c.args.key c.in-Some.peer.now c.dismiss.new.self (IsDismissed) c.in-Some.ensures.value
    (record {
      stage = c.dismiss.ensures.stage;
      same = c.dismiss.ensures.same.0;
      answered = c.dismiss.ensures.same.1;
      can_read = c.dismiss.ensures.same.2;
      can_write = c.dismiss.ensures.same.3;
    })
