use Rattle.std.proofs.Common.{◌≤◌, ℕ, List, sym, subst}
use Rattle.layout.specs.Marks.{times}
use Rattle.volume_load.proofs.TableLaws.{once_numbered, numbered_once}
use Rattle.volume_load.proofs.table.are_numbered.Goals as goal

pub returns : goal.returns
returns c = (
  λ is. once_numbered c.args.cached_nodes.now (λ n. subst (λ (l : List ℕ). times n l ≤ 1) c.in_ok-numbers.ensures (c.in_ok-apart.ensures.0 is n)),
  λ apart. c.in_ok-apart.ensures.1 (λ n. subst (λ (l : List ℕ). times n l ≤ 1) (sym c.in_ok-numbers.ensures) (numbered_once c.args.cached_nodes.now apart n)),
)
