-- The effects of a transaction's calls on its outline.
use Rattle.std.proofs.Common.{◌≡◌, ◌<◌, ◌+◌, ◌^◌, max, ℕ, List, [], Option, Some, None, length, get_or, set, refl, sym, ap, ap₂, ◌∙◌, arith, inl, subst}
use Rattle.std.specs.Prelude.{Result, Ok, Err, OnOk}
use Rattle.std.proofs.lemmas.List.{get_or-set_same}
use Rattle.node_table.specs.Tables.{node_number, node_number_at, HasNoNode}
use Rattle.disk.specs.Moments.{Image}
use Rattle.tree_transaction.specs.declared.transaction.Transaction.{Transaction}
use Rattle.tree_transaction.specs.Transactions.{cached_nodes_of, IsKnown, MakesOver, EditsOver, HasNow}
use Rattle.tree_transaction.specs.Grown.{reaching, sized}
use Rattle.tree_transaction.specs.Laying.{fields_with}
use Rattle.tree_transaction.specs.declared.nodes.Metadata as declared_metadata
use Rattle.tree_transaction.specs.Naming.{with_name, without_name}
use Rattle.tree_transaction.specs.Nodes.{metadata_of, new_cached, new_node, no_content, fields_showing, showing as showing_cached}
use Rattle.tree_transaction.proofs.KnownLaws.{place-within}
use Rattle.tree_edits.specs.Doing.{AreMade}
use Rattle.tree_edits.specs.Edits.{fresh_fields, fresh_node, AreEntries}
use Rattle.tree_edits.specs.Outlines.{zeros, blank_node, without_data, tree_without_data}
use Rattle.tree_edits.proofs.BlankLaws.{without_data-with, without_data-without, bytes-none, content-blank, each_outline, overwritten-length}
use Rattle.tree_edits.proofs.PlaceLaws.{put_forms, IsThere, there_is, outline_put, outline_made, outline_dropped, made_put}
use Rattle.inode.specs.declared.node.Form.{Form}
use Rattle.inode.specs.declared.node.Form.TheVariants.{Two}
use Rattle.inode.specs.Fields.{Fields, IsInode, most_entries}
use Rattle.layout.specs.CachedNodes.{CachedNode, node_of, node_with, content_of, bytes_in}
use Rattle.layout.specs.Known.{IsCached}
use Rattle.layout.specs.Marks.{mark_by}
use Rattle.layout.specs.Stands.{HaveCurrentForms}
use Rattle.layout.proofs.StepLaws.{length-bytes_in}
use Rattle.model_tree.specs.declared.node.NodeKind.{NodeKind}
use Rattle.model_tree.specs.declared.node.NodeKind.TheVariants as kind
use Rattle.model_tree.specs.Trees.Edit.{Metadata, done, altered, altered_at, showing, with_content, resized, overwritten, name_put, name_dropped}
use Rattle.model_tree.specs.Trees.Edit as model
use Rattle.model_tree.specs.Trees.Keyed.{Keyed, with, without}
use Rattle.model_tree.specs.Trees.Tree.{Tree, Node, File, Directory, DirEntry, bytes_of, names_of}
use Rattle.model_tree.proofs.Trees.NodeChangeLaws.{length-resized}
use Rattle.directory.specs.Listing.{by_stamp}
use Rattle.directory.specs.Records.{Record, place_of, with_record, without_place}

pub all_ok : {T E A B C D : Type 0} (result : Result T E) → OnOk result A → OnOk result B → OnOk result C → (A → B → C → D) → OnOk result D
all_ok (Ok done) a b c then = then a b c
all_ok (Err fault) a b c then = tt

pub all_four : {T E A B C D F : Type 0} (result : Result T E) → OnOk result A → OnOk result B → OnOk result C → OnOk result D → (A → B → C → D → F) → OnOk result F
all_four (Ok done) a b c d then = then a b c d
all_four (Err fault) a b c d then = tt

pub outline_fixed : (cached_nodes : List (Option CachedNode))
    → without_data (tree_without_data cached_nodes) ≡ tree_without_data cached_nodes
outline_fixed cached_nodes = each_outline (λ n. []) cached_nodes

-- The outline does not show a cached node's runs

content_now : (of : NodeKind) (is cached_node : CachedNode) → is.fields.size ≡ cached_node.fields.size → is.names ≡ cached_node.names
    → content_of (λ n. []) of is ≡ content_of (λ n. []) of cached_node
content_now kind.File is cached_node size names = ap File (bytes-none is.blocks is.fields.size ∙ ap zeros size ∙ sym (bytes-none cached_node.blocks cached_node.fields.size))
content_now kind.Directory is cached_node size names = ap (λ (l : List Record). Directory (by_stamp l)) names

pub node_now : (is cached_node : CachedNode) (runs : ℕ) (run_sectors : List ℕ) → is.fields ≡ fields_with cached_node.fields runs run_sectors → is.names ≡ cached_node.names
    → node_of (λ n. []) is ≡ node_of (λ n. []) cached_node
unfolding node_of
node_now is cached_node runs run_sectors fields names =
    ap (λ (f : Fields). node_with f (content_of (λ n. []) f.kind is)) fields
    ∙ ap (node_with cached_node.fields) (content_now cached_node.fields.kind is cached_node (ap (λ (f : Fields). f.size) fields) names)

-- A cached node is changed

module _ (old new : Transaction) (known : IsKnown old) (place number : ℕ) (it : IsThere (cached_nodes_of old) place number) where
  abbrev cached_nodes : List (Option CachedNode)
  cached_nodes = cached_nodes_of old

  module _ (change : CachedNode → CachedNode) (turns : HasNow old new place (change it.cached))
      (same : (change it.cached).fields.number ≡ it.cached.fields.number) where
    is_number : turns.is.fields.number ≡ number
    is_number = ap (λ (f : Fields). f.number) turns.fields ∙ same ∙ it.number_is

    -- the node is at the same place
    pub turned_there : IsThere (cached_nodes_of new) place number
    turned_there = record {
      cached = turns.is;
      there = ap (λ (l : List (Option CachedNode)). get_or l place None) turns.cached_nodes ∙ get_or-set_same cached_nodes place (Some turns.is) None (place-within cached_nodes place it.cached it.there);
      number_is = is_number;
    }

    pub turned : (alter : Node → Node) → node_of (λ n. []) (change it.cached) ≡ blank_node (alter (node_of (λ n. []) it.cached))
        → tree_without_data (cached_nodes_of new)
        ≡ without_data (altered alter (tree_without_data cached_nodes) number)
    turned alter node =
        ap tree_without_data turns.cached_nodes
        ∙ outline_put old.nodes (mark_by (148 + old.nodes) old.places) cached_nodes known.cached_nodes place it.cached turns.is it.there (is_number ∙ sym it.number_is)
        ∙ ap₂ (λ (n : ℕ) (one : Node). with (tree_without_data cached_nodes) n one) is_number
        (node_now turns.is (change it.cached) turns.is.fields.runs turns.is.fields.run_sectors turns.fields turns.names ∙ node)
        ∙ ap (λ (t : Tree). with t number (blank_node (alter (node_of (λ n. []) it.cached)))) (sym (outline_fixed cached_nodes))
        ∙ sym (without_data-with (tree_without_data cached_nodes) number
        (alter (node_of (λ n. []) it.cached)))
        ∙ ap (λ (there : Option Node). without_data (altered_at alter (tree_without_data cached_nodes) number there)) (sym (there_is cached_nodes known.cached_nodes.apart place number it))

    pub turned_made : (numbers : List ℕ) → AreMade cached_nodes (cached_nodes_of new) numbers
    turned_made numbers = subst (λ (now : List (Option CachedNode)). AreMade cached_nodes now numbers) (sym turns.cached_nodes)
        (made_put cached_nodes place turns.is numbers (place-within cached_nodes place it.cached it.there)
        (inl (number_at_there ∙ ap (λ (n : ℕ). Some n) (sym is_number))))
      where
        number_at_there : node_number_at cached_nodes place ≡ Some number
        number_at_there = ap node_number it.there ∙ ap (λ (n : ℕ). Some n) it.number_is

    pub turned_forms : (change it.cached).form ≡ it.cached.form → HaveCurrentForms cached_nodes → HaveCurrentForms (cached_nodes_of new)
    turned_forms form forms = subst HaveCurrentForms (sym turns.cached_nodes)
        (put_forms cached_nodes place turns.is (place-within cached_nodes place it.cached it.there) (turns.form ∙ form ∙ forms place it.cached it.there) forms)

  pub over_number : (base : Image) (size : ℕ) (edit : ℕ → model.Edit) → EditsOver base size old new place edit → MakesOver base size old new (edit number)
  over_number base size edit edits = subst (λ (n : ℕ). MakesOver base size old new (edit n)) it.number_is (edits it.cached it.there)

  pub dropped : cached_nodes_of new ≡ set cached_nodes place None → tree_without_data (cached_nodes_of new) ≡ without_data (without (tree_without_data cached_nodes) number)
  dropped now = ap tree_without_data now
      ∙ outline_dropped old.nodes (mark_by (148 + old.nodes) old.places) cached_nodes known.cached_nodes place it.cached it.there
      ∙ ap (without (tree_without_data cached_nodes)) it.number_is
      ∙ ap (λ (t : Tree). without t number) (sym (outline_fixed cached_nodes))
      ∙ sym (without_data-without (tree_without_data cached_nodes) number)

-- The metadata of a node

pub node_showing : (metadata : Metadata) (cached_node : CachedNode) → node_of (λ n. []) (showing_cached metadata cached_node) ≡ blank_node (showing metadata (node_of (λ n. []) cached_node))
unfolding node_of
node_showing metadata cached_node = ap (node_with (fields_showing cached_node.fields metadata))
    (same cached_node.fields.kind ∙ sym (content-blank (λ n. []) cached_node.fields.kind cached_node))
  where
    same : (of : NodeKind) → content_of (λ n. []) of (showing_cached metadata cached_node) ≡ content_of (λ n. []) of cached_node
    same kind.File = refl
    same kind.Directory = refl

-- and it can be encoded, if its entries can be
pub metadata_fits : (cached_node : CachedNode) (metadata : declared_metadata.Metadata) → IsCached cached_node → cached_node.form ≡ Two → AreEntries (metadata_of metadata).acl
    → IsInode cached_node.form (fields_showing cached_node.fields (metadata_of metadata))
metadata_fits cached_node metadata is form entries =
    let most : most_entries cached_node.form ≡ 72 = ap most_entries form in
    let ranges = metadata.in_range in
    let fits = is.fits in
    record {
      number = fits.number;
      owner = ranges.owner_fits;
      group = ranges.group_fits;
      change = ranges.change_fits;
      time_modify = ranges.time_modify_fits;
      size = fits.size;
      runs = fits.runs;
      run_sectors = fits.run_sectors;
      each_run_sector = fits.each_run_sector;
      acl = omega (arith, entries.few, most);
      each_ace = entries.each;
    }

-- Names

pub node_named : (entry : Record) (cached_node : CachedNode) → cached_node.fields.kind ≡ kind.Directory → by_stamp (with_record cached_node.names entry) ≡ with (by_stamp cached_node.names) entry.0 entry.1
    → node_of (λ n. []) (with_name entry cached_node) ≡ blank_node (name_put entry.0 entry.1 (node_of (λ n. []) cached_node))
unfolding node_of
node_named entry cached_node is names =
    ap (λ (k : NodeKind). node_with (record cached_node.fields { size = length (with_record cached_node.names entry) }) (content_of (λ n. []) k (with_name entry cached_node))) is
    ∙ ap (λ (l : Keyed DirEntry). node_with cached_node.fields (Directory l)) names
    ∙ ap (λ (k : NodeKind). node_with cached_node.fields (Directory (with (names_of (content_of (λ n. []) k cached_node)) entry.0 entry.1))) (sym is)

pub node_unnamed : (name : List ℕ) (stamp : ℕ) (cached_node : CachedNode)
    → cached_node.fields.kind ≡ kind.Directory
    → by_stamp (without_place cached_node.names (place_of name cached_node.names)) ≡ without (by_stamp cached_node.names) stamp
    → node_of (λ n. []) (without_name name cached_node) ≡ blank_node (name_dropped stamp (node_of (λ n. []) cached_node))
unfolding node_of
node_unnamed name stamp cached_node is names =
    ap (λ (k : NodeKind). node_with (record cached_node.fields { size = length (without_place cached_node.names (place_of name cached_node.names)) }) (content_of (λ n. []) k (without_name name cached_node))) is
    ∙ ap (λ (l : Keyed DirEntry). node_with cached_node.fields (Directory l)) names
    ∙ ap (λ (k : NodeKind). node_with cached_node.fields (Directory (without (names_of (content_of (λ n. []) k cached_node)) stamp))) (sym is)

-- New nodes

pub node_fresh : (of : NodeKind) (number : ℕ) (metadata : Metadata) → node_of (λ n. []) (new_cached Two (fresh_fields of number metadata)) ≡ blank_node (fresh_node of metadata)
unfolding node_of
node_fresh kind.File number metadata = ap (λ (bytes : List ℕ). node_with (fresh_fields kind.File number metadata) (File bytes)) (bytes-none [] 0)
node_fresh kind.Directory number metadata = refl

-- and it can be encoded
pub fresh_fits : (form : Form) → form ≡ Two → (of : NodeKind) (number : ℕ) (metadata : declared_metadata.Metadata) → number < 2 ^ 64 → AreEntries (metadata_of metadata).acl → IsInode form (fresh_fields of number (metadata_of metadata))
fresh_fits form is of number metadata fits entries =
    let most : most_entries form ≡ 72 = ap most_entries is in
    let ranges = metadata.in_range in
    record {
      number = fits;
      owner = ranges.owner_fits;
      group = ranges.group_fits;
      change = ranges.change_fits;
      time_modify = ranges.time_modify_fits;
      size = omega arith;
      runs = omega arith;
      run_sectors = omega arith;
      each_run_sector = tt;
      acl = omega (arith, entries.few, most);
      each_ace = entries.each;
    }

-- Files

pub node_written : (offset : ℕ) (part : List ℕ) (cached_node : CachedNode) → cached_node.fields.kind ≡ kind.File
    → node_of (λ n. []) (reaching (offset + length part) cached_node)
    ≡ blank_node (with_content (node_of (λ n. []) cached_node) (File (overwritten (bytes_of (node_of (λ n. []) cached_node).content) offset part)))
unfolding node_of
node_written offset part cached_node is =
    ap (λ (k : NodeKind). node_with cached_node.fields (content_of (λ n. []) k (reaching (offset + length part) cached_node))) is
    ∙ ap (λ (l : List ℕ). node_with cached_node.fields (File l)) (bytes-none cached_node.blocks (max cached_node.fields.size (offset + length part)))
    ∙ ap (λ (n : ℕ). node_with cached_node.fields (File (zeros n)))
    (omega (arith, overwritten-length (bytes_in (λ n. []) cached_node.blocks cached_node.fields.size) part offset, length-bytes_in (λ n. []) cached_node.blocks cached_node.fields.size))
    ∙ ap (λ (k : NodeKind). node_with cached_node.fields (File (zeros (length (overwritten (bytes_of (content_of (λ n. []) k cached_node)) offset part))))) (sym is)

pub node_sized : (size : ℕ) (cached_node : CachedNode) → cached_node.fields.kind ≡ kind.File
    → node_of (λ n. []) (sized cached_node size)
    ≡ blank_node (with_content (node_of (λ n. []) cached_node) (File (resized (bytes_of (node_of (λ n. []) cached_node).content) size)))
unfolding node_of
node_sized size cached_node is =
    ap (λ (k : NodeKind). node_with cached_node.fields (content_of (λ n. []) k (sized cached_node size))) is
    ∙ ap (λ (l : List ℕ). node_with cached_node.fields (File l)) (bytes-none cached_node.blocks size)
    ∙ ap (λ (n : ℕ). node_with cached_node.fields (File (zeros n))) (sym (length-resized (bytes_in (λ n. []) cached_node.blocks cached_node.fields.size) size))
    ∙ ap (λ (k : NodeKind). node_with cached_node.fields (File (zeros (length (resized (bytes_of (content_of (λ n. []) k cached_node)) size))))) (sym is)

pub new_is : (cached_node : CachedNode) → cached_node ≡ new_cached Two cached_node.fields
    → cached_node ≡ new_cached cached_node.form cached_node.fields
new_is cached_node is = is ∙ ap (λ (form : Form). new_cached form cached_node.fields) (sym (ap (λ (one : CachedNode). one.form) is))

pub node_is : (of : NodeKind) (number : ℕ) (metadata : Metadata) (cached_node : CachedNode) → cached_node.fields ≡ fresh_fields of number metadata → new_node cached_node ≡ fresh_node of metadata
node_is of number metadata cached_node fields = ap (λ (f : Fields). node_with f (no_content f.kind)) fields

pub made_outline : (old new : Transaction) (known : IsKnown old) (place : ℕ) (of : NodeKind) (number : ℕ) (metadata : Metadata) (cached_node : CachedNode)
    → place < length (cached_nodes_of old) → get_or (cached_nodes_of old) place None ≡ None → HasNoNode (cached_nodes_of old) number
    → cached_node ≡ new_cached Two cached_node.fields → cached_node.fields ≡ fresh_fields of number metadata → cached_nodes_of new ≡ set (cached_nodes_of old) place (Some cached_node)
    → tree_without_data (cached_nodes_of new) ≡ without_data (with (tree_without_data (cached_nodes_of old)) number (fresh_node of metadata))
made_outline old new known place of number metadata cached_node within free fresh is fields now =
    ap tree_without_data now
    ∙ outline_made old.nodes (mark_by (148 + old.nodes) old.places) (cached_nodes_of old) known.cached_nodes place cached_node within free
    (subst (λ (f : Fields). HasNoNode (cached_nodes_of old) f.number) (sym fields) fresh)
    ∙ ap₂ (λ (n : ℕ) (node : Node). with (tree_without_data (cached_nodes_of old)) n node) (ap (λ (f : Fields). f.number) fields)
    (ap (node_of (λ n. [])) (is ∙ ap (new_cached Two) fields) ∙ node_fresh of number metadata)
    ∙ ap (λ (t : Tree). with t number (blank_node (fresh_node of metadata))) (sym (outline_fixed (cached_nodes_of old)))
    ∙ sym (without_data-with (tree_without_data (cached_nodes_of old)) number (fresh_node of metadata))

-- a clause under the device's word about what an `Ok` says
pub under : {T E word : Type 0} (P : Type 0) (result : Result T E) → (word → OnOk result P) → OnOk result (word → P)
under P (Ok answer) clause = clause
under P (Err fault) clause = tt
