-- What a volume knows of its version and its nodes has one proof at most.
use Rattle.std.specs.Prelude.{ℕ, Bool, List, Option}
use Rattle.std.proofs.Props.{props}
use Rattle.layout.specs.CachedNodes.{CachedNode}
use Rattle.layout.specs.KnownProps.{AreCached-prop}
use Rattle.layout.specs.LaidProps.{HaveForms-prop}
use Rattle.layout.specs.Versions.{IsServed}
use Rattle.layout.specs.declared.versions.VersionNumber.{VersionNumber}
use Rattle.layout.specs.declared.versions.VersionNumber.TheVariants.{One, Two, Three}
use Rattle.model_tree.specs.declared.limits.Limits.{Limits}
use Rattle.model_tree.specs.Trees.Tree.{Tree}
use Rattle.volume.specs.Formed.{IsFormed}
use Rattle.volume.specs.Known.{AreKnownNodes}

pub IsServed-prop : (version : VersionNumber) → IsProp (IsServed version)
IsServed-prop One = Prim.hlevel props
IsServed-prop Two = Prim.hlevel props
IsServed-prop (Three s) = Prim.hlevel props

pub AreKnownNodes-prop : (data_end nodes : ℕ) (cached_nodes : List (Option CachedNode))
    (places : List Bool)
    → IsProp (AreKnownNodes data_end nodes cached_nodes places)
AreKnownNodes-prop data_end nodes cached_nodes places = Prim.hlevel
    (props, AreCached-prop, HaveForms-prop)

pub IsFormed-prop : (limits : Limits) (before_stamp : ℕ) (tree : Tree)
    → IsProp (IsFormed limits before_stamp tree)
IsFormed-prop limits before_stamp tree = Prim.hlevel props
