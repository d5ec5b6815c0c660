-- The file that is read.
use Rattle.std.proofs.Common.{◌≡◌, ◌≤◌, ◌+◌, ℕ, Bool, List, Option, Some, None, get_or, inl, inr, refl, sym, ap, ◌∙◌, arith}
use Rattle.std.proofs.lemmas.Bool.{cases_lt}
use Rattle.std.specs.Prelude.{IsSome, IfSome, IfNone}
use Rattle.disk.specs.Moments.{Image}
use Rattle.node_table.specs.Tables.{node_number_at, HasNoNode}
use Rattle.layout.specs.CachedNodes.{CachedNode, bytes_in, content_of, node_of, tree_of}
use Rattle.layout.specs.Laid.{AreNumbered}
use Rattle.layout.specs.Marks.{namings_of}
use Rattle.layout.proofs.Answering.{tree-has}
use Rattle.layout.proofs.Changing.{named-at}
use Rattle.layout.proofs.Frame.{times_set-at}
use Rattle.layout.proofs.MarkProofs.{each_mark}
use Rattle.model_tree.specs.declared.node.NodeKind.{NodeKind}
use Rattle.model_tree.specs.declared.node.NodeKind.TheVariants as kind
use Rattle.model_tree.specs.Trees.Tree.{bytes_at, bytes_of_node, Node, kind_of, bytes_of}
use Rattle.model_tree.specs.Trees.Keyed.{at}
use Rattle.volume.specs.FileBlocks.{FileWithin}
use Rattle.volume.specs.Known.{AreKnownNodes}
use Rattle.volume.specs.Reading.{HasFile}
use Rattle.volume.proofs.NodeLaws.{node_there, none_there}

-- its blocks are the volume's
pub blocks_within : (data_end size nodes place : ℕ) (cached_nodes : List (Option CachedNode)) (places : List Bool) (cached : CachedNode) → data_end ≤ size → AreKnownNodes data_end nodes cached_nodes places
    → get_or cached_nodes place None ≡ Some cached → FileWithin size cached.blocks
unfolding namings_of
blocks_within data_end size nodes place cached_nodes places cached inside known there block sector is =
    let each = each_mark (148 + nodes) places 0 in
    let some = times_set-at cached.blocks block sector is in
    let here = ap (namings_of sector) there in
    elim (cases_lt sector data_end) [
      | inl low ↦ omega (arith, low, inside)
      | inr high ↦ absurd (let none = each.within sector (omega (arith, known.whole)) in omega (arith, named-at sector cached_nodes place, known.are_cached_nodes.marks sector))
    ]

content_bytes : (image : Image) (of : NodeKind) (cached : CachedNode) → kind_of (content_of image of cached) ≡ kind.File → bytes_of (content_of image of cached) ≡ bytes_in image cached.blocks cached.fields.size
content_bytes image kind.File cached is = refl
content_bytes image kind.Directory cached is = absurd (cc)

-- its bytes are those of its cached node
pub file_bytes : (image : Image) (cached_nodes : List (Option CachedNode)) (place number : ℕ) (cached : CachedNode) → AreNumbered cached_nodes → get_or cached_nodes place None ≡ Some cached → node_number_at cached_nodes place ≡ Some number
    → HasFile (tree_of image cached_nodes) number → bytes_at (tree_of image cached_nodes) number ≡ bytes_in image cached.blocks cached.fields.size
unfolding node_of
file_bytes image cached_nodes place number cached apart there is file =
    let shown = node_there image cached_nodes place number cached apart there is in
    let same : cached.fields.number ≡ number = shown.number_is in
    let found : at number (tree_of image cached_nodes) ≡ Some (node_of image cached) = ap (λ (n : ℕ). at n (tree_of image cached_nodes)) (sym same) ∙ tree-has image cached_nodes place cached apart there in
    let node : file.node ≡ node_of image cached = (let was = file.there in cc) in
    ap bytes_of_node found ∙ content_bytes image cached.fields.kind cached (ap (λ (n : Node). kind_of n.content) (sym node) ∙ file.file)

-- and its place is there
pub place_there : (image : Image) (cached_nodes : List (Option CachedNode)) (number : ℕ) (place : Option ℕ) → IfNone place (HasNoNode cached_nodes number) → HasFile (tree_of image cached_nodes) number → IsSome place
place_there image cached_nodes number (Some place) none file = refl
place_there image cached_nodes number None none file = absurd (let lacks = none_there image cached_nodes number none in let there = file.there in cc)

-- what is known of what was found
pub some_at : {T : Type 0} (option : Option T) (P : T → Type 0) (value : T) → option ≡ Some value → IfSome option P → P value
some_at option P value is so = rw is at so
