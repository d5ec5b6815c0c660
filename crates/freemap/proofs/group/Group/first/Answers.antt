use Rattle.std.proofs.Common.{ℕ, subst, List, length, ◌*◌}
use Rattle.freemap.specs.Kept.{IsFirstClear}
use Rattle.freemap.proofs.PageLaws.{group_first}
use Rattle.freemap.proofs.group.Group.first.Goals as goal

pub returns : goal.returns
returns c =
    let own = c.self.inside in
    subst (λ (bytes : List ℕ). IsFirstClear bytes (8 * length bytes) own.first) c.self.view_is (group_first own.pages.items own.first c.self.invariant)
