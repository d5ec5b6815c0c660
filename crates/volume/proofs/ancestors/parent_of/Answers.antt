use Rattle.std.proofs.Common.{sym, ◌∙◌}
use Rattle.std.proofs.Math.Logic.{∥∥₁_elim}
use Rattle.std.proofs.Props.{props}
use Rattle.volume.proofs.ParentTrees.{parent-there, parent-nowhere}
use Rattle.volume.proofs.ancestors.parent_of.Goals as goal

pub returns-in-Some : goal.returns-in-Some
returns-in-Some c image =
    let known = c.requires.cached_nodes in
    ∥∥₁_elim c.requires.tree (Prim.hlevel props) (λ tree.
    c.parent.ensures
    ∙ sym (parent-there known.0 known.1 c.args.table.now known.2 image c.args.number tree c.args.parents.now c.requires.parents c.in-Some.place c.in-Some.ensures.some))

pub returns-in-None : goal.returns-in-None
returns-in-None c image =
    let known = c.requires.cached_nodes in
    ∥∥₁_elim c.requires.tree (Prim.hlevel props) (λ tree.
    sym (parent-nowhere known.0 known.1 c.args.table.now known.2 image c.args.number tree c.args.parents.now c.requires.parents c.in-None.ensures.none))
