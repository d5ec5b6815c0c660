-- That numbers by place are parents has one proof at most.
use Rattle.std.specs.Prelude.{ℕ, List, Option}
use Rattle.std.proofs.Props.{props}
use Rattle.layout.specs.CachedNodes.{CachedNode}
use Rattle.volume.specs.ParentIndex.{AreParents}

pub AreParents-prop : (cached_nodes : List (Option CachedNode)) (parents : List ℕ)
    → IsProp (AreParents cached_nodes parents)
AreParents-prop cached_nodes parents = Prim.hlevel props
