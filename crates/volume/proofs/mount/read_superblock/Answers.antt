use Rattle.std.proofs.Common.{◌≡◌, ◌∙◌, Err, ap, rules}
use Rattle.disk.specs.Moments.{seen}
use Rattle.volume.proofs.CheckLaws.{first_seen, seen_damaged, seen_volume}
use Rattle.volume.proofs.mount.read_superblock.Goals as goal

pub returns-in-Err-clause-seen : goal.returns-in-Err-clause-seen
returns-in-Err-clause-seen g c = λ k.
    first_seen (g.D.Device.size c.args.device.now) (seen (g.D.Device.history c.args.device.now).now 0) c.in-Err.fault
    (λ is. c.in-Err.ensures.few (ap (λ x. Err x) is)) c.in-Err.ensures.only

pub returns-then-ne-clause-seen : goal.returns-then-ne-clause-seen
returns-then-ne-clause-seen g c = λ k.
    seen_damaged c.sectors-sectors.result (g.D.Device.size c.args.device.now) c.nodes_of-nodes.result c.run_of-run.result
    c.in-Ok.first (seen (g.D.Device.history c.args.device.now).now 0) c.superblock_of.result c.in-Some.version
    (c.sectors-sectors.ensures ∙ c.read_first.ensures.same_size) (c.in-Ok.ensures.first k) c.in-Some.ensures.some c.nodes_of-nodes.ensures c.run_of-run.ensures
    c.superblock_of.ensures (let other : c.in-Ok.first ≡ c.superblock_of.result → ⊥ = search rules in other)

pub returns-clause-seen : goal.returns-clause-seen
returns-clause-seen g c = λ k. (
  seen_volume c.sectors-sectors.result (g.D.Device.size c.args.device.now) c.in-Ok.first (seen (g.D.Device.history c.args.device.now).now 0) c.in-Some.version
      (c.sectors-sectors.ensures ∙ c.read_first.ensures.same_size) (c.in-Ok.ensures.first k) c.in-Some.ensures.some,
  search rules,
)
