-- That cached nodes are laid has at most one proof.
use Rattle.std.specs.Prelude.{◌+◌, ℕ, List, [], ◌∷◌, Option, Some, None}
use Rattle.std.proofs.Props.{props}
use Rattle.std.specs.Coded.{Unit-prop}
use Rattle.disk.specs.Moments.{Image}
use Rattle.model_tree.specs.declared.node.NodeKind.{NodeKind}
use Rattle.model_tree.specs.declared.node.NodeKind.TheVariants as kind
use Rattle.model_tree.specs.Trees.Tree.{Tree}
use Rattle.inode.specs.declared.node.Form.{Form}
use Rattle.inode.specs.Fields.{Fields, IsInode}
use Rattle.extents.specs.declared.run.Run.{Run}
use Rattle.extents.specs.Runs.{AreRising, AreRunsOf}
use Rattle.layout.specs.CachedNodes.{CachedNode}
use Rattle.layout.specs.Laid.{HoldsNode, HoldsContent, HoldsPlace, AreLaid}
use Rattle.layout.specs.Stands.{Version, HaveForms, IsLaid, TreeStands}

AreRising-prop : (from count : ℕ) (runs : List Run) → IsProp (AreRising from count runs)
AreRising-prop from count [] = Unit-prop
AreRising-prop from count (run ∷ runs) =
    Prim.hlevel (props, AreRising-prop (run.block + run.length) count runs)

pub AreRunsOf-prop : (runs : List Run) (blocks : List (Option ℕ)) → IsProp (AreRunsOf runs blocks)
AreRunsOf-prop runs blocks = Prim.hlevel (props, AreRising-prop)

pub IsInode-prop : (form : Form) (fields : Fields) → IsProp (IsInode form fields)
IsInode-prop form fields = Prim.hlevel props

HoldsNode-prop : (image : Image) (place : ℕ) (cached : CachedNode)
    → IsProp (HoldsNode image place cached)
HoldsNode-prop image place cached = Prim.hlevel (props, IsInode-prop, AreRunsOf-prop)

HoldsContent-prop : (image : Image) (kind : NodeKind) (cached : CachedNode)
    → IsProp (HoldsContent image kind cached)
HoldsContent-prop image kind.File cached = Prim.hlevel props
HoldsContent-prop image kind.Directory cached = Prim.hlevel props

HoldsPlace-prop : (image : Image) (place : ℕ) (cached : Option CachedNode)
    → IsProp (HoldsPlace image place cached)
HoldsPlace-prop image place None = Prim.hlevel props
HoldsPlace-prop image place (Some cached) = Prim.hlevel (props, HoldsNode-prop, HoldsContent-prop)

pub AreLaid-prop : (nodes : ℕ) (image : Image) (mark : ℕ → ℕ)
    (cached_nodes : List (Option CachedNode))
    → IsProp (AreLaid nodes image mark cached_nodes)
AreLaid-prop nodes image mark cached_nodes = Prim.hlevel (props, HoldsPlace-prop)

pub HaveForms-prop : (version : Version) (cached_nodes : List (Option CachedNode))
    → IsProp (HaveForms version cached_nodes)
HaveForms-prop version cached_nodes = Prim.hlevel props

pub IsLaid-prop : (version : Version) (size nodes : ℕ) (image : Image)
    (cached_nodes : List (Option CachedNode))
    → IsProp (IsLaid version size nodes image cached_nodes)
IsLaid-prop version size nodes image cached_nodes = Prim.hlevel
    (props, AreLaid-prop, HaveForms-prop)

Tree-set : IsSet Tree
Tree-set = Prim.hlevel props

pub TreeStands-prop : (version : Version) (size nodes : ℕ) (image : Image) (run : ℕ) (tree : Tree)
    → IsProp (TreeStands version size nodes image run tree)
TreeStands-prop version size nodes image run tree = Prim.hlevel (props, IsLaid-prop, Tree-set)
