-- The changes of a volume, each an edit of its tree.
use Rattle.std.proofs.Common.{◌≡◌, ◌≢◌, ◌≤◌, ◌<◌, ◌+◌, ◌-◌, ◌*◌, ℕ, List, [], Option, Some, None, length, get_or, refl, sym, ap, ap₂, ◌∙◌, arith, subst, eq-eqb, ne_eqb}
use Rattle.disk.specs.Moments.{Image, put}
use Rattle.sector.specs.Placed.{placed}
use Rattle.directory.specs.Listing.{by_stamp}
use Rattle.directory.specs.Records.{IsDirectory, NamesStamped}
use Rattle.directory.specs.Encoding.{directory_sector}
use Rattle.model_tree.specs.declared.node.NodeKind.{NodeKind}
use Rattle.model_tree.specs.declared.node.NodeKind.TheVariants as kind
use Rattle.model_tree.specs.Trees.Edit.{Metadata, PutBytes, done, showing, overwritten, resized, altered, with_content}
use Rattle.model_tree.specs.Trees.Keyed.{Keyed, at, with, without}
use Rattle.model_tree.specs.Trees.Tree.{Node, Content, File, Directory, DirEntry, bytes_of, names_of}
use Rattle.model_tree.proofs.Trees.NodeChangeLaws.{altered-once, length-resized}
use Rattle.layout.specs.CachedNodes.{CachedNode, node_sector, content_at, byte_at, bytes_in, content_of, node_with, node_of, tree_of}
use Rattle.layout.specs.ChangeLaws.{ChangesOwn, ChangesCached, tree_with}
use Rattle.layout.specs.Directories.{ChangesBlocks, block_of, block_put}
use Rattle.layout.specs.Files.{below}
use Rattle.layout.specs.Laid.{HoldsNode, HoldsCached, HoldsPlace, HoldsBytes, HoldsContent, names_of_block}
use Rattle.layout.specs.Marks.{times, times_set, namings_of, named}
use Rattle.layout.specs.NodeEdits.{WritesPart, part_written, WritePart, WriteFile, FillBlock, CutFile, GrowFile, PutOneName, DropOneName, AreDirectories, ShowsOther, ShowOther, MakeNode, FreeNode}
use Rattle.layout.specs.Steps.{NodeSteps, LaysTree, ShowsSame}
use Rattle.layout.proofs.Answering.{tree-has}
use Rattle.layout.proofs.Changing.{named-at, one_change}
use Rattle.layout.proofs.DirectoryLaws.{puts_in_one, removes_in_two, rewriting, stays_stamped}
use Rattle.layout.proofs.FileLaws.{writing, written-bytes, filling, filled-bytes, cutting, growing, resized-bytes, grown-bytes, length-overwritten}
use Rattle.layout.proofs.Frame.{times_set-at, run_sectors-kept, content-kept, byte_at-kept, bytes-kept}
use Rattle.layout.proofs.StepLaws.{put-step, shown, file_step, same_step, names_step, file_there, length-bytes_in, node_of-directory, each_own, others_hold}

-- ---- a step as an edit

node_of-bytes : (image : Image) (cached : CachedNode) → cached.fields.kind ≡ kind.File → node_of image cached ≡ node_with cached.fields (File (bytes_in image cached.blocks cached.fields.size))
unfolding node_of
node_of-bytes image cached is = ap (λ (k : NodeKind). node_with cached.fields (content_of image k cached)) is

-- the tree with the changed node is the tree that an edit of this node gives
module _ (nodes : ℕ) (old new : Image) (marked mark : ℕ → ℕ) (cached_nodes : List (Option CachedNode)) (place : ℕ) (was is : CachedNode) (steps : NodeSteps nodes old new marked mark cached_nodes place was is) where
  edited_as : (change : Node → Node) (node : Node) → node_of old was ≡ node → with (tree_of old cached_nodes) is.fields.number (change node) ≡ altered change (tree_of old cached_nodes) was.fields.number
  edited_as change node is_node =
      ap (λ (n : ℕ). with (tree_of old cached_nodes) n (change node)) steps.number
      ∙ ap (λ (n : Node). with (tree_of old cached_nodes) was.fields.number (change n)) (sym is_node)
      ∙ sym (altered-once change (tree_of old cached_nodes) was.fields.number (node_of old was) (tree-has old cached_nodes place was steps.laid.apart steps.there))

  gives_edit : (change : Node → Node) (node : Node) (content : Content) → ShowsSame was.fields is.fields → node_of old was ≡ node → change node ≡ node_with was.fields content
      → LaysTree nodes new mark cached_nodes place is (with (tree_of old cached_nodes) is.fields.number (node_with is.fields content)) → LaysTree nodes new mark cached_nodes place is (altered change (tree_of old cached_nodes) was.fields.number)
  gives_edit change node content shows is_node made gives = record {
    laid = gives.laid;
    tree_is = gives.tree_is ∙ ap (with (tree_of old cached_nodes) is.fields.number) (shown was.fields is.fields content shows ∙ sym made) ∙ edited_as change node is_node;
  }

-- ---- files

pub put-here : (image : Image) (target : ℕ) (content : List ℕ) → put image (record { target = target; content = content }) target ≡ content
put-here image target content = rw (eq-eqb target target refl) refl

pub put-elsewhere : (image : Image) (target : ℕ) (content : List ℕ) (n : ℕ) → n ≢ target → put image (record { target = target; content = content }) n ≡ image n
put-elsewhere image target content n off = rw (ne_eqb n target off) refl

-- how often a cached node names a sector: as a run sector, or as a block
pub named_by-parts : (n : ℕ) (cached : CachedNode) → namings_of n (Some cached) ≡ times n cached.fields.run_sectors + times_set n cached.blocks
unfolding namings_of
named_by-parts n cached = refl

module _ (nodes : ℕ) (old : Image) (marked : ℕ → ℕ) (cached_nodes : List (Option CachedNode)) (place : ℕ) (cached : CachedNode) (block sector from : ℕ) (part : List ℕ) (writes : WritesPart nodes old marked cached_nodes place cached block sector from part) where
  new : Image
  new = part_written old sector from part

  -- the sector is named once, as this block
  record IsBlock : Type 0 where
    pub behind : 148 + nodes ≤ sector
    pub not_run : times sector cached.fields.run_sectors ≡ 0
    pub once : times_set sector cached.blocks ≤ 1

  is_block : IsBlock
  is_block =
      let some = times_set-at cached.blocks block sector writes.is_set in
      let parts = named_by-parts sector cached in
      let all : namings_of sector (Some cached) ≤ named sector cached_nodes = subst (λ (c : Option CachedNode). namings_of sector c ≤ named sector cached_nodes) writes.there (named-at sector cached_nodes place) in
      let marks = writes.laid.marks sector in
      let few = writes.laid.once sector in
      record { behind = writes.laid.behind sector (omega arith); not_run = omega arith; once = omega arith }

  held : HoldsCached old place cached
  held = subst (HoldsPlace old place) writes.there (writes.laid.held place writes.within)

  elsewhere : (n : ℕ) → n ≢ sector → new n ≡ old n
  unfolding new
  elsewhere n off = put-elsewhere old sector (placed (old sector) from part) n off

  here : new sector ≡ placed (old sector) from part
  unfolding new
  here = put-here old sector (placed (old sector) from part)

  node : HoldsNode new place cached
  node = record {
    fits = held.node.fits;
    number = held.node.number;
    sector = elsewhere (node_sector place) (let far = is_block in omega (arith, far.behind, writes.within)) ∙ held.node.sector;
    each_run = held.node.each_run;
    run_count = held.node.run_count;
    run_sectors = run_sectors-kept old new cached.fields.run_sectors cached.runs
        (λ n some. elsewhere n (λ e. let own = is_block in let same : times n cached.fields.run_sectors ≡ times sector cached.fields.run_sectors = ap (λ (s : ℕ). times s cached.fields.run_sectors) e in omega (arith, own.not_run))) held.node.run_sectors;
    runs = held.node.runs;
    blocks = held.node.blocks;
  }

  own : ChangesOwn nodes old new marked marked place (Some cached) (Some cached)
  own = record {
    others = λ n low off none again. elsewhere n (λ e.
        let some = times_set-at cached.blocks block sector writes.is_set in
        let parts = named_by-parts sector cached in
        let same : namings_of n (Some cached) ≡ namings_of sector (Some cached) = ap (λ (s : ℕ). namings_of s (Some cached)) e in
        omega arith);
    marks = λ n. refl;
    once = writes.laid.once;
    behind = writes.laid.behind;
  }

  unnamed : cached.names ≡ []
  unnamed = let tail : HoldsBytes old cached = subst (λ (k : NodeKind). HoldsContent old k cached) writes.file held.content in tail.unnamed

  write : LaysTree nodes new marked cached_nodes place cached (done (PutBytes cached.fields.number (4096 * block + from) part) (tree_of old cached_nodes))
  write =
      let bytes = bytes_in old cached.blocks cached.fields.size in
      let there = file_there nodes old marked cached_nodes place cached writes.laid writes.within writes.there writes.file in
      let own_block = each_own cached.blocks sector in
      let alone = is_block in
      let others = others_hold old new cached.blocks block sector (λ n off some. elsewhere n off) (own_block.once alone.once block writes.is_set) in
      let bytes_now = writing old new cached.blocks block sector from part (record { is_set = writes.is_set; whole = writes.whole; within = writes.in_block; written = here; others = others }) in
      let steps : NodeSteps nodes old new marked marked cached_nodes place cached cached = record { within = writes.within; there = writes.there; number = refl; laid = writes.laid; node = node; own = own } in
      let long : cached.fields.size ≡ length (overwritten bytes (4096 * block + from) part) = omega (arith, length-overwritten bytes (4096 * block + from) part, length-bytes_in old cached.blocks cached.fields.size, writes.in_file) in
      gives_edit nodes old new marked marked cached_nodes place cached cached steps (λ node. with_content node (File (overwritten (bytes_of node.content) (4096 * block + from) part))) (node_with cached.fields (File bytes))
      (File (overwritten bytes (4096 * block + from) part)) (record { owner = refl; group = refl; acl = refl; change = refl; time_modify = refl }) (node_of-bytes old cached writes.file) refl
      (file_step nodes old new marked marked cached_nodes place cached cached (overwritten bytes (4096 * block + from) part) steps writes.file unnamed long
      (written-bytes old new cached.blocks cached.blocks bytes (4096 * block + from) part there bytes_now))

pub write_part : WritePart
unfolding new
write_part nodes old marked cached_nodes place cached block sector from part writes = write nodes old marked cached_nodes place cached block sector from part writes

pub write_file : WriteFile
write_file nodes old new marked mark cached_nodes place was is offset part steps writes =
    let bytes = bytes_in old was.blocks was.fields.size in
    let there = file_there nodes old marked cached_nodes place was steps.laid steps.within steps.there writes.files.was_file in
    let long : is.fields.size ≡ length (overwritten bytes offset part) = omega (arith, length-overwritten bytes offset part, length-bytes_in old was.blocks was.fields.size, writes.size) in
    gives_edit nodes old new marked mark cached_nodes place was is steps (λ node. with_content node (File (overwritten (bytes_of node.content) offset part))) (node_with was.fields (File bytes))
    (File (overwritten bytes offset part)) writes.files.shows (node_of-bytes old was writes.files.was_file) refl
    (file_step nodes old new marked mark cached_nodes place was is (overwritten bytes offset part) steps writes.files.is_file writes.files.unnamed long
    (written-bytes old new was.blocks is.blocks bytes offset part there writes.written))

pub fill_block : FillBlock
fill_block nodes old new marked mark cached_nodes place was is block sector steps fills =
    let bytes = bytes_in old was.blocks was.fields.size in
    let long = length-bytes_in old was.blocks was.fields.size in
    let there = file_there nodes old marked cached_nodes place was steps.laid steps.within steps.there fills.files.was_file in
    let same : (k : ℕ) → byte_at new is.blocks k ≡ byte_at old was.blocks k = λ k.
    ap (λ (b : List (Option ℕ)). byte_at new b k) fills.blocks
    ∙ filling old new was.blocks block sector (record { within = fills.within; hole = fills.hole; zeros = fills.zeros; others = λ i off. content-kept old new was.blocks fills.kept (get_or was.blocks i None) i refl }) k in
    same_step nodes old new marked mark cached_nodes place was is bytes steps fills.files.was_file fills.files.is_file fills.files.unnamed (sym long) (fills.size ∙ sym long) there
    (filled-bytes old new was.blocks is.blocks bytes there same) fills.files.shows

pub cut_file : CutFile
cut_file nodes old new marked mark cached_nodes place was is count steps cuts =
    let bytes = bytes_in old was.blocks was.fields.size in
    let there = file_there nodes old marked cached_nodes place was steps.laid steps.within steps.there cuts.files.was_file in
    let now : (k : ℕ) → byte_at new is.blocks k ≡ below (byte_at old was.blocks) is.fields.size k =
    λ k. ap (λ (b : List (Option ℕ)). byte_at new b k) cuts.blocks ∙ cutting old new was.blocks count is.fields.size cuts.cuts k in
    gives_edit nodes old new marked mark cached_nodes place was is steps (λ node. with_content node (File (resized (bytes_of node.content) is.fields.size))) (node_with was.fields (File bytes))
    (File (resized bytes is.fields.size)) cuts.files.shows (node_of-bytes old was cuts.files.was_file) refl
    (file_step nodes old new marked mark cached_nodes place was is (resized bytes is.fields.size) steps cuts.files.is_file cuts.files.unnamed (sym (length-resized bytes is.fields.size))
    (resized-bytes old new was.blocks is.blocks bytes is.fields.size there now))

pub grow_file : GrowFile
grow_file nodes old new marked mark cached_nodes place was is count steps grows =
    let bytes = bytes_in old was.blocks was.fields.size in
    let there = file_there nodes old marked cached_nodes place was steps.laid steps.within steps.there grows.files.was_file in
    let now : (k : ℕ) → byte_at new is.blocks k ≡ byte_at old was.blocks k =
    λ k. ap (λ (b : List (Option ℕ)). byte_at new b k) grows.blocks ∙ growing new was.blocks count k ∙ byte_at-kept old new was.blocks grows.kept k in
    gives_edit nodes old new marked mark cached_nodes place was is steps (λ node. with_content node (File (resized (bytes_of node.content) is.fields.size))) (node_with was.fields (File bytes))
    (File (resized bytes is.fields.size)) grows.files.shows (node_of-bytes old was grows.files.was_file) refl
    (file_step nodes old new marked mark cached_nodes place was is (resized bytes is.fields.size) steps grows.files.is_file grows.files.unnamed (sym (length-resized bytes is.fields.size))
    (grown-bytes old new was.blocks is.blocks bytes is.fields.size there (omega (arith, length-bytes_in old was.blocks was.fields.size, grows.longer)) now))

-- ---- directories

module _ (nodes : ℕ) (old new : Image) (marked mark : ℕ → ℕ) (cached_nodes : List (Option CachedNode)) (place : ℕ) (was is : CachedNode) (steps : NodeSteps nodes old new marked mark cached_nodes place was is) (are : AreDirectories old was is) where
  named_anew : (change : Keyed DirEntry → Keyed DirEntry) (one other : ℕ) → NamesStamped is.names → ((i : ℕ) → i < length is.blocks → content_at new (get_or is.blocks i None) ≡ directory_sector (names_of_block i is.names))
      → by_stamp is.names ≡ change (by_stamp was.names)
      → LaysTree nodes new mark cached_nodes place is (altered (λ node. with_content node (Directory (change (names_of node.content)))) (tree_of old cached_nodes) was.fields.number)
  named_anew change one other stamped encoded map_is =
      gives_edit nodes old new marked mark cached_nodes place was is steps (λ node. with_content node (Directory (change (names_of node.content)))) (node_with was.fields (Directory (by_stamp was.names)))
      (Directory (change (by_stamp was.names))) are.shows (node_of-directory old was are.was_directory) refl
      (names_step nodes old new marked mark cached_nodes place was is (change (by_stamp was.names)) steps are.is_directory
      (record { count = sym are.size; names = are.names; stamped = stamped; encoded = encoded }) map_is)

pub put_one_name : PutOneName
put_one_name nodes old new marked mark cached_nodes place was is entry steps puts =
    let block = block_put was.names entry in
    let changes : ChangesBlocks was.names is.names block block = rw puts.names (puts_in_one was.names entry) in
    named_anew nodes old new marked mark cached_nodes place was is steps puts.directories (λ names. with names entry.0 entry.1) block block puts.stamped
    (rewriting old new was.blocks is.blocks was.names is.names block block puts.directories.held.encoded changes puts.blocks) puts.map_is

pub drop_one_name : DropOneName
drop_one_name nodes old new marked mark cached_nodes place was is at stamp steps drops =
    let one = block_of at in
    let other = block_of (length was.names - 1) in
    let changes : ChangesBlocks was.names is.names one other = rw drops.names (removes_in_two was.names at drops.within) in
    let stamped : NamesStamped is.names = subst NamesStamped (sym drops.names) (stays_stamped was.names at drops.within drops.directories.held.stamped) in
    named_anew nodes old new marked mark cached_nodes place was is steps drops.directories (λ names. without names stamp) one other stamped
    (rewriting old new was.blocks is.blocks was.names is.names one other drops.directories.held.encoded changes drops.blocks) drops.map_is

-- ---- nodes

module _ (old new : Image) (was is : CachedNode) (shown : Metadata) (shows : ShowsOther old new was is shown) where
  content_there : (k : NodeKind) → HoldsContent old k was → HoldsContent new k is
  content_there kind.File holds = record {
    unnamed = shows.names ∙ holds.unnamed;
    tail = λ k h. ap (λ (b : List (Option ℕ)). byte_at new b k) shows.blocks ∙ byte_at-kept old new was.blocks shows.kept k ∙ holds.tail k (omega (arith, shows.size));
  }
  content_there kind.Directory holds = record {
    count = ap length shows.names ∙ holds.count ∙ sym shows.size;
    names = subst IsDirectory (sym shows.names) holds.names;
    stamped = subst NamesStamped (sym shows.names) holds.stamped;
    encoded = λ i h.
        let long : length is.blocks ≡ length was.blocks = ap length shows.blocks in
        ap (λ (b : List (Option ℕ)). content_at new (get_or b i None)) shows.blocks
        ∙ content-kept old new was.blocks shows.kept (get_or was.blocks i None) i refl ∙ holds.encoded i (omega arith)
        ∙ ap (λ names. directory_sector (names_of_block i names)) (sym shows.names);
  }

  content_same : (k : NodeKind) → content_of new k is ≡ content_of old k was
  content_same kind.File = ap File (ap₂ (bytes_in new) shows.blocks shows.size ∙ bytes-kept old new was.blocks shows.kept was.fields.size)
  content_same kind.Directory = ap (λ names. Directory (by_stamp names)) shows.names

  fields_metadata : (content : Content) → node_with is.fields content ≡ showing shown (node_with was.fields content)
  fields_metadata content = rw (shows.owner, shows.group, shows.acl, shows.change, shows.time_modify) refl

  node_metadata : node_of new is ≡ showing shown (node_of old was)
  unfolding node_of
  node_metadata =
      ap (node_with is.fields) (ap (λ (k : NodeKind). content_of new k is) shows.kind ∙ content_same was.fields.kind)
      ∙ fields_metadata (content_of old was.fields.kind was)

pub show_other : ShowOther
show_other nodes old new marked mark cached_nodes place was is shown steps shows =
    let holds : HoldsCached old place was = subst (HoldsPlace old place) steps.there (steps.laid.held place steps.within) in
    let content : HoldsContent new is.fields.kind is = subst (λ (k : NodeKind). HoldsContent new k is) (sym shows.kind) (content_there old new was is shown shows was.fields.kind holds.content) in
    let gives = put-step nodes old new marked mark cached_nodes place was is (showing shown (node_of old was)) steps (record { node = steps.node; content = content }) (node_metadata old new was is shown shows) in
    record { laid = gives.laid; tree_is = gives.tree_is ∙ edited_as nodes old new marked mark cached_nodes place was is steps (showing shown) (node_of old was) refl }

pub make_node : MakeNode
make_node nodes old new marked mark cached_nodes place is makes =
    let changes : ChangesCached nodes old new marked mark place (get_or cached_nodes place None) (Some is) =
    rw makes.free (record { held = record { node = makes.node; content = makes.content }; number = tt; own = makes.own }) in
    let changed = one_change nodes old new marked mark cached_nodes place (Some is) makes.within makes.laid makes.fresh changes in
    record { laid = changed.laid; tree_is = changed.tree_is }

pub free_node : FreeNode
free_node nodes old new marked mark cached_nodes place was frees =
    let changes : ChangesCached nodes old new marked mark place (get_or cached_nodes place None) None =
    rw frees.there (record { held = frees.vacated; number = tt; own = frees.own }) in
    let changed = one_change nodes old new marked mark cached_nodes place None frees.within frees.laid tt changes in
    record { laid = changed.laid; tree_is = changed.tree_is ∙ ap (λ (c : Option CachedNode). tree_with new (tree_of old cached_nodes) c None) frees.there }
