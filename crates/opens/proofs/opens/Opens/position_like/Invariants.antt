use Rattle.std.proofs.Common.{◌≡◌, drop, map, find}
use Rattle.model.specs.Sessions.StateIds.{is_like}
use Rattle.opens.specs.Views.{entry_of, open_of}
use Rattle.opens.proofs.opens.Opens.position_like.Given as goal

abbrev pub invariant-loop-place : goal.invariant-loop-place
invariant-loop-place l = find (is_like (open_of l.asked)) (map entry_of l.self.list.items) ≡ find (is_like (open_of l.asked)) (map entry_of (drop l.place l.self.list.items))
