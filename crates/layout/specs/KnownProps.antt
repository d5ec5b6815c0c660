-- What is known of cached nodes without their sectors has at most one proof.
use Rattle.std.specs.Prelude.{ℕ, List, Option, Some, None}
use Rattle.std.proofs.Props.{props}
use Rattle.model_tree.specs.declared.node.NodeKind.{NodeKind}
use Rattle.model_tree.specs.declared.node.NodeKind.TheVariants as kind
use Rattle.layout.specs.CachedNodes.{CachedNode}
use Rattle.layout.specs.Known.{HasContent, IsCached, IsNodePlace, AreCached}
use Rattle.layout.specs.LaidProps.{AreRunsOf-prop, IsInode-prop}

HasContent-prop : (kind : NodeKind) (cached : CachedNode) → IsProp (HasContent kind cached)
HasContent-prop kind.File cached = Prim.hlevel props
HasContent-prop kind.Directory cached = Prim.hlevel props

pub IsCached-prop : (cached : CachedNode) → IsProp (IsCached cached)
IsCached-prop cached = Prim.hlevel (props, IsInode-prop, AreRunsOf-prop, HasContent-prop)

pub IsNodePlace-prop : (cached : Option CachedNode) → IsProp (IsNodePlace cached)
IsNodePlace-prop None = Prim.hlevel props
IsNodePlace-prop (Some cached) = IsCached-prop cached

pub AreCached-prop : (nodes : ℕ) (mark : ℕ → ℕ) (cached_nodes : List (Option CachedNode))
    → IsProp (AreCached nodes mark cached_nodes)
AreCached-prop nodes mark cached_nodes = Prim.hlevel (props, IsNodePlace-prop)
