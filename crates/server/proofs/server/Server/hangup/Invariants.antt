use Rattle.std.proofs.Common.{◌≡◌, ◌≤◌, List, false}
use Rattle.model.specs.Server.Runs.{Left}
use Rattle.model_tree.specs.Trees.Keyed.{at}
use Rattle.server.specs.Refused.{view, HasRunOn}
use Rattle.server.specs.Seen.{IsReady, IsTurned, AreAtOnce}
use Rattle.server.specs.Views.{world_of, volume_of, waits_of, server_failures, seen_with}
use Rattle.server.proofs.HangUps.{turns_left}
use Rattle.server.proofs.server.Server.hangup.Given as goal

abbrev pub invariant-loop-self : goal.invariant-loop-self
invariant-loop-self g l = record {
  is_up : (volume_of l.self).is_down ≡ false;
  on : HasRunOn (view l.fn.self) (view l.self) l.conn;
  turned : g.D.Device.keeps_word → (recent : List Left) → IsReady (volume_of l.fn.self) recent
      → (now : List Left) × (turned : IsTurned l.conn l.now (seen_with l.fn.self recent) (seen_with l.self now))
      × AreAtOnce l.conn l.now (seen_with l.fn.self recent) (seen_with l.self now) turned × IsReady (volume_of l.self) now;
  later : server_failures l.fn.self ≤ server_failures l.self;
  waits : waits_of l.self ≡ waits_of l.fn.self;
}

abbrev pub decreases-loop-self : goal.decreases-loop-self
decreases-loop-self g l = turns_left (at l.conn (world_of l.self).connections)
