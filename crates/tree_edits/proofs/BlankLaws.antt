-- Trees with zeros for the bytes of their files.
use Rattle.std.proofs.Common.{◌≡◌, ◌+◌, ◌-◌, ◌++◌, ◌/◌, ◌%◌, ℕ, suc, Bool, true, false, List, [], ◌∷◌, Option, Some, None, length, map, drop, eqb, ltb, refl, sym, ap, ap₂, ◌∙◌, arith}
use Rattle.std.specs.Prelude.{slice_index, slice_index_or, option_map, is_some, nat_le, ◌&&◌}
use Rattle.std.specs.List.{range_with_len}
use Rattle.std.proofs.lemmas.List.{length-append, length-replicate, length-drop}
use Rattle.std.proofs.lemmas.List.FromFn.{length-range_with_len}
use Rattle.disk.specs.Moments.{Image}
use Rattle.layout.specs.CachedNodes.{CachedNode, byte_at, bytes_in, content_at, content_of, node_of}
use Rattle.layout.specs.CachedNodes.{tree_of}
use Rattle.layout.proofs.StepLaws.{length-bytes_in}
use Rattle.model_tree.specs.declared.node.NodeKind.{NodeKind}
use Rattle.model_tree.specs.declared.node.NodeKind.TheVariants as kind
use Rattle.model_tree.specs.Trees.Charge.{charge, charge_of_blocks, blocks, blocks_of, few_names}
use Rattle.model_tree.specs.Trees.Edit.{Edit, PutNode, DropNode, Show, PutName, DropName, PutBytes, SetSize, done, edited, altered, altered_at, showing, with_content, name_put, name_dropped, resized, overwritten}
use Rattle.model_tree.specs.Trees.Keyed.{Keyed, at, with, without, is_key, total, here_or, before_or_behind, in_place_of, kept_or_not}
use Rattle.model_tree.specs.Trees.Tree.{Tree, Node, Content, File, Directory, DirEntry, names_of, names_at, names_of_node, bytes_of, is_directory_at, is_directory, is_directory_node}
use Rattle.model_tree.proofs.Trees.NodeChangeLaws.{length-resized}
use Rattle.tree_edits.specs.Edits.{size_of}
use Rattle.tree_edits.specs.Outlines.{zeros, blank, blank_node, without_data, EachOutline}
use Rattle.tree_edits.specs.Outlines.{EditsBlanked}

-- Lists of zeros

pub length-zeros : (n : ℕ) → length (zeros n) ≡ n
length-zeros n = (let zero : ℕ = 0 in length-replicate n zero)

zeros-map : (f : ℕ → ℕ) (xs : List ℕ) → ((k : ℕ) → f k ≡ 0) → map f xs ≡ zeros (length xs)
zeros-map f [] none = refl
zeros-map f (x ∷ xs) none = ap₂ (λ (y : ℕ) (ys : List ℕ). y ∷ ys) (none x) (zeros-map f xs none)

-- The maps

blank-twice : (content : Content) → blank (blank content) ≡ blank content
blank-twice (File bytes) = ap (λ (n : ℕ). File (zeros n)) (length-zeros (length bytes))
blank-twice (Directory names) = refl

pub node-twice : (node : Node) → blank_node (blank_node node) ≡ blank_node node
node-twice node = ap (with_content node) (blank-twice node.content)

pub at-without_data : (tree : Tree) (number : ℕ) → at number (without_data tree) ≡ option_map blank_node (at number tree)
at-without_data [] number = refl
at-without_data (entry ∷ rest) number = by_key (at-without_data rest number) (eqb number entry.0)
  where
    by_key : at number (without_data rest) ≡ option_map blank_node (at number rest)
        → (b : Bool) → here_or b (blank_node entry.1) (at number (without_data rest)) ≡ option_map blank_node (here_or b entry.1 (at number rest))
    by_key others true = refl
    by_key others false = others

pub without_data-with : (tree : Tree) (number : ℕ) (node : Node) → without_data (with tree number node) ≡ with (without_data tree) number (blank_node node)
without_data-with [] number node = refl
without_data-with (entry ∷ rest) number node = by_key (without_data-with rest number node) (eqb number entry.0) (ltb number entry.0)
  where
    by_key : without_data (with rest number node) ≡ with (without_data rest) number (blank_node node) → (same less : Bool)
        → without_data (in_place_of same (number, node) rest (before_or_behind less (number, node) entry rest (with rest number node)))
        ≡ in_place_of same (number, blank_node node) (without_data rest)
        (before_or_behind less (number, blank_node node) (entry.0, blank_node entry.1) (without_data rest) (with (without_data rest) number (blank_node node)))
    by_key others true less = refl
    by_key others false true = refl
    by_key others false false = ap (λ (t : Tree). (entry.0, blank_node entry.1) ∷ t) others

pub without_data-without : (tree : Tree) (number : ℕ) → without_data (without tree number) ≡ without (without_data tree) number
without_data-without [] number = refl
without_data-without (entry ∷ rest) number =
    by_key (without_data-without rest number) (eqb number entry.0)
  where
    by_key : without_data (without rest number) ≡ without (without_data rest) number → (same : Bool) → without_data (kept_or_not same entry (without rest number)) ≡ kept_or_not same (entry.0, blank_node entry.1) (without (without_data rest) number)
    by_key others true = others
    by_key others false = ap (λ (t : Tree). (entry.0, blank_node entry.1) ∷ t) others

pub without_data-twice : (tree : Tree) → without_data (without_data tree) ≡ without_data tree
without_data-twice [] = refl
without_data-twice (entry ∷ rest) = ap₂ (λ (node : Node) (t : Tree). (entry.0, node) ∷ t) (node-twice entry.1) (without_data-twice rest)

pub length-without_data : (tree : Tree) → length (without_data tree) ≡ length tree
length-without_data [] = refl
length-without_data (entry ∷ rest) = ap suc (length-without_data rest)

-- What the checks of a tree see of it

blocks-blank : (content : Content) → blocks (blank content) ≡ blocks content
blocks-blank (File bytes) = ap (blocks_of kind.File) (length-zeros (length bytes))
blocks-blank (Directory names) = refl

directory-blank : (content : Content) → is_directory (blank content) ≡ is_directory content
directory-blank (File bytes) = refl
directory-blank (Directory names) = refl

names-blank : (content : Content) → names_of (blank content) ≡ names_of content
names-blank (File bytes) = refl
names-blank (Directory names) = refl

pub key-without_data : (tree : Tree) (number : ℕ)
    → is_key number (without_data tree) ≡ is_key number tree
key-without_data tree number = ap is_some (at-without_data tree number) ∙ mapped (at number tree)
  where
    mapped : (option : Option Node) → is_some (option_map blank_node option) ≡ is_some option
    mapped None = refl
    mapped (Some node) = refl

pub directory-without_data : (tree : Tree) (number : ℕ) → is_directory_at (without_data tree) number ≡ is_directory_at tree number
directory-without_data tree number = ap is_directory_node (at-without_data tree number) ∙ mapped (at number tree)
  where
    mapped : (option : Option Node) → is_directory_node (option_map blank_node option) ≡ is_directory_node option
    mapped None = refl
    mapped (Some node) = directory-blank node.content

pub names-without_data : (tree : Tree) (number : ℕ) → names_at (without_data tree) number ≡ names_at tree number
names-without_data tree number = ap names_of_node (at-without_data tree number)
    ∙ mapped (at number tree)
  where
    mapped : (option : Option Node) → names_of_node (option_map blank_node option) ≡ names_of_node option
    mapped None = refl
    mapped (Some node) = names-blank node.content

pub charge-without_data : (tree : Tree) → total charge (without_data tree) ≡ total charge tree
charge-without_data [] = refl
charge-without_data (entry ∷ rest) = ap₂ (λ (n m : ℕ). n + m) (ap charge_of_blocks (blocks-blank entry.1.content)) (charge-without_data rest)

pub few-without_data : (most : ℕ) (tree : Tree)
    → few_names most (without_data tree) ≡ few_names most tree
few-without_data most [] = refl
few-without_data most (entry ∷ rest) = ap₂ (λ (names : Keyed DirEntry) (few : Bool). nat_le (length names) most && few) (names-blank entry.1.content) (few-without_data most rest)

-- The tree of cached nodes

byte-none : (blocks : List (Option ℕ)) (k : ℕ) → byte_at (λ n. []) blocks k ≡ 0
unfolding byte_at
byte-none blocks k = empty (slice_index_or blocks (k / 4096) None)
  where
    empty : (block : Option ℕ) → slice_index (content_at (λ n. []) block) (k % 4096) ≡ 0
    empty None = refl
    empty (Some sector) = refl

pub bytes-none : (blocks : List (Option ℕ)) (size : ℕ) → bytes_in (λ n. []) blocks size ≡ zeros size
unfolding bytes_in
bytes-none blocks size = zeros-map (byte_at (λ n. []) blocks) (range_with_len 0 size) (byte-none blocks)
    ∙ ap zeros (length-range_with_len 0 size)

pub content-blank : (image : Image) (kind : NodeKind) (cached : CachedNode) → blank (content_of image kind cached) ≡ content_of (λ n. []) kind cached
content-blank image kind.File cached = ap File
    (ap zeros (length-bytes_in image cached.blocks cached.fields.size) ∙ sym (bytes-none cached.blocks cached.fields.size))
content-blank image kind.Directory cached = refl

pub node-blank : (image : Image) (cached : CachedNode) → blank_node (node_of image cached) ≡ node_of (λ n. []) cached
unfolding node_of
node-blank image cached = ap (with_content (node_of image cached)) (content-blank image cached.fields.kind cached)

pub each_outline : EachOutline
each_outline image [] = refl
each_outline image (None ∷ cached_nodes) = each_outline image cached_nodes
each_outline image (Some cached ∷ cached_nodes) = without_data-with (tree_of image cached_nodes) cached.fields.number (node_of image cached)
    ∙ ap₂ (λ (t : Tree) (node : Node). with t cached.fields.number node) (each_outline image cached_nodes) (node-blank image cached)

-- Edits

pub overwritten-length : (bytes part : List ℕ) (offset : ℕ) → length (overwritten bytes offset part) ≡ offset + (length part + (length bytes - (offset + length part)))
overwritten-length bytes part offset = length-append (resized bytes offset) (part ++ drop (offset + length part) bytes)
    ∙ omega (arith, length-resized bytes offset, length-append part (drop (offset + length part) bytes), length-drop (offset + length part) bytes)

bytes-blank : (content : Content) → length (bytes_of (blank content)) ≡ length (bytes_of content)
bytes-blank (File bytes) = length-zeros (length bytes)
bytes-blank (Directory names) = refl

pub size-without_data : (tree : Tree) (number : ℕ) → size_of (at number (without_data tree)) ≡ size_of (at number tree)
size-without_data tree number = ap size_of (at-without_data tree number) ∙ mapped (at number tree)
  where
    mapped : (option : Option Node) → size_of (option_map blank_node option) ≡ size_of option
    mapped None = refl
    mapped (Some node) = bytes-blank node.content

abbrev Respects : (Node → Node) → Type 0
Respects change = (node : Node) → blank_node (change (blank_node node)) ≡ blank_node (change node)

altered-without_data : (change : Node → Node) → Respects change → (tree : Tree) (number : ℕ) → without_data (altered change (without_data tree) number) ≡ without_data (altered change tree number)
altered-without_data change respects tree number =
    ap (λ (there : Option Node). without_data (altered_at change (without_data tree) number there)) (at-without_data tree number) ∙ by_node (at number tree)
  where
    by_node : (there : Option Node) → without_data (altered_at change (without_data tree) number (option_map blank_node there)) ≡ without_data (altered_at change tree number there)
    by_node None = without_data-twice tree
    by_node (Some node) = without_data-with (without_data tree) number (change (blank_node node))
        ∙ ap₂ (λ (t : Tree) (one : Node). with t number one) (without_data-twice tree)
        (respects node)
        ∙ sym (without_data-with tree number (change node))

pub done-without_data : (edit : Edit) (tree : Tree) → without_data (done edit (without_data tree)) ≡ without_data (done edit tree)
done-without_data (PutNode number node) tree = without_data-with (without_data tree) number node
    ∙ ap (λ (t : Tree). with t number (blank_node node)) (without_data-twice tree) ∙ sym (without_data-with tree number node)
done-without_data (DropNode number) tree = without_data-without (without_data tree) number
    ∙ ap (λ (t : Tree). without t number) (without_data-twice tree)
    ∙ sym (without_data-without tree number)
done-without_data (Show number metadata) tree =
    altered-without_data (showing metadata) (λ node. ap (with_content (showing metadata node)) (blank-twice node.content)) tree number
done-without_data (PutName directory stamp entry) tree = altered-without_data (name_put stamp entry)
    (λ node. ap (λ (names : Keyed DirEntry). with_content node (Directory (with names stamp entry))) (names-blank node.content)) tree directory
done-without_data (DropName directory stamp) tree = altered-without_data (name_dropped stamp)
    (λ node. ap (λ (names : Keyed DirEntry). with_content node (Directory (without names stamp))) (names-blank node.content)) tree directory
done-without_data (PutBytes file offset part) tree = altered-without_data (λ node. with_content node (File (overwritten (bytes_of node.content) offset part)))
    (λ node. ap (λ (n : ℕ). with_content node (File (zeros n)))
    (overwritten-length (bytes_of (blank node.content)) part offset
    ∙ ap (λ (n : ℕ). offset + (length part + (n - (offset + length part)))) (bytes-blank node.content)
    ∙ sym (overwritten-length (bytes_of node.content) part offset))) tree file
done-without_data (SetSize file size) tree = altered-without_data (λ node. with_content node (File (resized (bytes_of node.content) size)))
    (λ node. ap (λ (n : ℕ). with_content node (File (zeros n)))
    (length-resized (bytes_of (blank node.content)) size ∙ sym (length-resized (bytes_of node.content) size))) tree file

pub edits_blanked : EditsBlanked
edits_blanked [] tree = without_data-twice tree
edits_blanked (edit ∷ edits) tree = sym (edits_blanked edits (done edit (without_data tree)))
    ∙ ap (λ (t : Tree). without_data (edited edits t)) (done-without_data edit tree) ∙ edits_blanked edits (done edit tree)
