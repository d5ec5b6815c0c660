-- The tree of the nodes that were read.
use Rattle.std.proofs.Common.{◌≡◌, ◌↔◌, ◌≤◌, ◌<◌, ◌+◌, ◌^◌, ℕ, Bool, List, Option, Some, None, length, get_or, inl, inr, refl, sym, ap, ◌∙◌, subst, arith}
use Rattle.std.proofs.Math.Logic.{∥∥₁_elim}
use Rattle.std.proofs.Props.{props}
use Rattle.std.proofs.lemmas.Bool.{cases_lt}
use Rattle.std.specs.Prelude.{IsTrue, IsErrOf, Result, Ok, Err}
use Rattle.node_table.specs.Tables.{AreNumbered}
use Rattle.node_table.specs.declared.fault.TableFault.{TableFault}
use Rattle.node_table.specs.declared.fault.TableFault.TheVariants as tables
use Rattle.disk.specs.Moments.{Image, IsSector}
use Rattle.geometry.specs.declared.superblock.Superblock.{Superblock}
use Rattle.tree_transaction.proofs.KnownLaws.{cached_at}
use Rattle.tree_edits.proofs.PlaceLaws.{there_at}
use Rattle.layout.specs.CachedNodes.{CachedNode, tree_of, cached_nodes_in}
use Rattle.layout.specs.Marks.{mark_in, mark_by}
use Rattle.layout.specs.Stands as layout
use Rattle.inode.specs.declared.node.Form.TheVariants.{Two}
use Rattle.layout.specs.Known.{AreCached}
use Rattle.layout.specs.Rewriting.{all_second, in_second, second_image, IsLaidSecond}
use Rattle.layout.specs.Stands.{Kept, MayHaveSeats, Version, marked_by, IsLaid, IsMark, IsNumber, current_version, limits_by, size_by, version_by, AreKept, sizes_by}
use Rattle.layout.specs.Versions.{file_bytes_by}
use Rattle.layout.specs.declared.versions.Marking.TheVariants.{InSectors, AsNamed}
use Rattle.layout.specs.declared.versions.VersionNumber.{VersionNumber}
use Rattle.layout.specs.declared.versions.VersionNumber.TheVariants as numbers
use Rattle.layout.proofs.MarkOnce.{number_told}
use Rattle.volume.proofs.StandLaws.{keeps_by}
use Rattle.layout.proofs.OneKept.{in_its, its}
use Rattle.layout.proofs.Rewriting.{current_second, known_as_second, laid_as_second, second_at, then_second}
use Rattle.layout.proofs.SeatLaws.{version_region}
use Rattle.model_tree.specs.declared.limits.Limits.{Limits}
use Rattle.model_tree.specs.Seats.Seats.{Seats, no_seats}
use Rattle.model_tree.specs.Trees.Stamp.{stamp}
use Rattle.model_tree.specs.Trees.Tree.{Tree}
use Rattle.model_tree.specs.Trees.WellFormed.{IsWellFormed, IsBefore}
use Rattle.volume_load.specs.Volumes.{AreFew}
use Rattle.volume_load.specs.declared.fault.ScanFault.{ScanFault}
use Rattle.volume_load.specs.declared.fault.ScanFault.TheVariants as scans
use Rattle.volume_load.proofs.FewLaws.{stands_few}
use Rattle.tree_check.specs.ShapeLaws.{HoldBytes}
use Rattle.tree_check.specs.WellFormed.{AreWellFormed}
use Rattle.tree_check.proofs.WholeLaws.{each_tree}
use Rattle.volume.specs.Refusals.{mount_fault, table_fault}
use Rattle.volume.specs.declared.fault.MountFault.TheVariants as mounts
use Rattle.volume.specs.Known.{AreKnownNodes}
use Rattle.volume.specs.Stands.{VolumeStands}
use Rattle.volume.specs.Superblock.{superblock}

abbrev HoldsSectors : (size : ℕ) → Image → Type 0
HoldsSectors size image = (n : ℕ) → n < size → IsSector (image n)

-- there are bytes in each marked place of the data region
marked_bytes : (version : Version) (size nodes : ℕ) (image : Image) (cached_nodes : List (Option CachedNode)) → IsLaid version size nodes image cached_nodes → version.data_end size ≤ size
    → (bytes : (n : ℕ) → 148 + nodes ≤ n → n < size → IsSector (image n)) → HoldBytes image (marked_by version.marking nodes image cached_nodes)
marked_bytes version size nodes image cached_nodes laid ends bytes n marked = elim (cases_lt n size) [
  | inl within ↦ (bytes n (laid.laid.behind n marked) within).bytes
  | inr past ↦ absurd (omega (arith, marked, laid.within n (omega (arith, ends, past))))
]

-- The cached nodes as they are once each has form two show the same tree, and decide whether it is
-- well formed
record Decides (limits : Limits) (at : ℕ) (image : Image) (cached_nodes : List (Option CachedNode)) : Type 0 where
  shown : tree_of image (all_second cached_nodes) ≡ tree_of image cached_nodes
  each : AreWellFormed limits at (all_second cached_nodes)
      ↔ (IsWellFormed limits (tree_of image (all_second cached_nodes)) × IsBefore at (tree_of image (all_second cached_nodes)))

-- in versions 1 and 2 an image with its nodes in form two has them
module _ (version : Version) (size nodes : ℕ) (image : Image) (cached_nodes : List (Option CachedNode)) (marking : version.marking ≡ InSectors) (ends : version.data_end size ≡ size)
    (laid : IsLaid version size nodes image cached_nodes) (below : 148 + nodes ≤ size) (sectors : HoldsSectors size image) where
  as_second : IsLaidSecond size nodes image cached_nodes
  as_second = laid_as_second version size nodes image cached_nodes marking ends laid below

  second_bytes : HoldBytes (second_image nodes image) (mark_in nodes (second_image nodes image))
  second_bytes = marked_bytes (current_version no_seats) size nodes (second_image nodes image) (all_second cached_nodes) as_second.laid (omega arith)
      (λ n behind within. subst IsSector (sym ((then_second version size nodes image cached_nodes laid below marking ends).region n behind (omega (arith, within, ends)))) (sectors n within))

  same_tree : tree_of (second_image nodes image) (all_second cached_nodes) ≡ tree_of image (all_second cached_nodes)
  same_tree = as_second.tree ∙ sym as_second.shown

  early_decides : (limits : Limits) (at : ℕ) → Decides limits at image cached_nodes
  early_decides limits at = record {
    shown = as_second.shown;
    each = subst (λ (tree : Tree). AreWellFormed limits at (all_second cached_nodes) ↔ (IsWellFormed limits tree × IsBefore at tree)) same_tree
        (each_tree nodes (second_image nodes image) (mark_in nodes (second_image nodes image)) (all_second cached_nodes) as_second.laid.laid second_bytes limits at);
  }

-- and in version 3 each has form two on the device
large_decides : (s : Superblock) (mark : Option ℕ) (seats : Seats) (size nodes : ℕ) (image : Image) (cached_nodes : List (Option CachedNode)) → IsLaid (version_by (numbers.Three s) mark seats) size nodes image cached_nodes
    → HoldBytes image (marked_by AsNamed nodes image cached_nodes) → (limits : Limits) (at : ℕ) → Decides limits at image cached_nodes
large_decides s mark seats size nodes image cached_nodes laid bytes limits at =
    let same : all_second cached_nodes ≡ cached_nodes = current_second cached_nodes laid.forms in
    record {
      shown = ap (tree_of image) same;
      each = subst (λ (l : List (Option CachedNode)). AreWellFormed limits at l ↔ (IsWellFormed limits (tree_of image l) × IsBefore at (tree_of image l))) (sym same)
          (each_tree nodes image (marked_by AsNamed nodes image cached_nodes) cached_nodes laid.laid bytes limits at);
    }

decides : (number : VersionNumber) (mark : Option ℕ) (seats : Seats) (size nodes : ℕ) (image : Image) (cached_nodes : List (Option CachedNode)) → IsNumber number → IsTrue (size_by number size nodes)
    → IsLaid (version_by number mark seats) size nodes image cached_nodes → HoldsSectors size image → (limits : Limits) (at : ℕ) → Decides limits at image cached_nodes
decides numbers.One mark seats size nodes image cached_nodes is sized laid sectors =
    early_decides (version_by numbers.One mark seats) size nodes image cached_nodes refl refl laid (version_region numbers.One mark seats size nodes is sized).behind sectors
decides numbers.Two mark seats size nodes image cached_nodes is sized laid sectors =
    early_decides (version_by numbers.Two mark seats) size nodes image cached_nodes refl refl laid (version_region numbers.Two mark seats size nodes is sized).behind sectors
decides (numbers.Three s) mark seats size nodes image cached_nodes is sized laid sectors =
    let region = version_region (numbers.Three s) mark seats size nodes is sized in
    large_decides s mark seats size nodes image cached_nodes laid
    (marked_bytes (version_by (numbers.Three s) mark seats) size nodes image cached_nodes laid (omega (arith, region.inside, region.within)) (λ n behind within. sectors n within))

-- The cached nodes on the sectors
module _ (number : VersionNumber) (mark : Option ℕ) (seats : Seats) (size nodes run : ℕ) (image : Image) (cached_nodes : List (Option CachedNode)) (is : IsNumber number) (sized : IsTrue (size_by number size nodes))
    (laid : IsLaid (version_by number mark seats) size nodes image cached_nodes) (read : cached_nodes ≡ cached_nodes_in nodes image) (sectors : HoldsSectors size image) where
  abbrev second : List (Option CachedNode)
  second = all_second cached_nodes

  found : Decides (limits_by number size nodes) (stamp (run + 1) 0) image cached_nodes
  found = decides number mark seats size nodes image cached_nodes is sized laid sectors (limits_by number size nodes) (stamp (run + 1) 0)

  -- if they are well formed, the volume holds their tree
  pub found_stands : run < 2 ^ 32 → image 0 ≡ superblock number size nodes run → AreWellFormed (limits_by number size nodes) (stamp (run + 1) 0) second
      → layout.TreeStands (version_by number mark seats) size nodes image run (tree_of image second)
  found_stands counted first well_formed =
      let both = found.each.0 well_formed in
      record {
        sized = sized;
        region = version_region number mark seats size nodes is sized;
        counted = counted;
        first = first;
        laid = subst (IsLaid (version_by number mark seats) size nodes image) read laid;
        tree_is = found.shown ∙ ap (tree_of image) read;
        well_formed = ∣ both.0 ∣₁;
        before = both.1;
      }

  -- and if they are not, it holds none
  pub none_stands : (other : Option ℕ) (others : Seats) (tree : Tree) → (AreWellFormed (limits_by number size nodes) (stamp (run + 1) 0) second → ⊥) → layout.TreeStands (version_by number other others) size nodes image run tree → ⊥
  none_stands other others tree never stands = ∥∥₁_elim stands.well_formed (Prim.hlevel props) (λ well_formed.
      let same : tree ≡ tree_of image second = stands.tree_is ∙ (ap (tree_of image) (sym read) ∙ sym found.shown) in
      never (found.each.1 (subst (IsWellFormed (limits_by number size nodes)) same well_formed, subst (IsBefore (stamp (run + 1) 0)) same stands.before)))

-- What a volume holds, it holds in the version that the first sector gives

pub record HeldAs (number : VersionNumber) (size nodes run : ℕ) (image : Image) (kept : Kept) : Type 0 where
  pub mark : Option ℕ
  pub marked : IsMark number nodes mark
  pub may : MayHaveSeats number mark kept.seats
  pub keeps : AreKept (sizes_by number) run kept.seats
  pub stands : layout.TreeStands (version_by number mark kept.seats) size nodes image run kept.tree

pub held_as : (number : VersionNumber) (size nodes run : ℕ) (image : Image) (kept : Kept) → IsNumber number → IsTrue (size_by number size nodes) → image 0 ≡ superblock number size nodes run
    → VolumeStands size nodes image run kept → HeldAs number size nodes run image kept
held_as number size nodes run image kept is sized first stands =
    let parts = its size nodes image run kept stands in
    let same : parts.number ≡ number = number_told number size nodes image run kept size nodes run is sized first stands in
    record {
      mark = parts.mark;
      marked = subst (λ (n : VersionNumber). IsMark n nodes parts.mark) same parts.is_mark;
      may = subst (λ (n : VersionNumber). MayHaveSeats n parts.mark kept.seats) same parts.may;
      keeps = keeps_by nodes stands.version kept.seats parts number run same stands.keeps;
      stands = subst (λ (n : VersionNumber). layout.TreeStands (version_by n parts.mark kept.seats) size nodes image run kept.tree) same (in_its size nodes image run kept stands);
    }

-- then each node has few blocks

short : (number : VersionNumber) → IsNumber number → file_bytes_by number ≤ 16777216
short numbers.One is = omega arith
short numbers.Two is = omega arith
short (numbers.Three s) is = omega (arith, is.fits.limits.max_file_bytes)

pub held_few : (number : VersionNumber) (mark : Option ℕ) (seats : Seats) (size nodes run : ℕ) (image : Image) (tree : Tree) → IsNumber number
    → layout.TreeStands (version_by number mark seats) size nodes image run tree → AreFew (cached_nodes_in nodes image)
held_few number mark seats size nodes run image tree is stands = stands_few (version_by number mark seats) size nodes image run tree (short number is) stands

-- What is known on any device

some_form : (cached_nodes : List (Option CachedNode)) (place : ℕ) (cached_node : CachedNode) → get_or (all_second cached_nodes) place None ≡ Some cached_node → cached_node.form ≡ Two
some_form cached_nodes place cached_node there = form_at (get_or cached_nodes place None) cached_node (sym (second_at cached_nodes place) ∙ there)
  where
    form_at : (one : Option CachedNode) (cached_node : CachedNode) → in_second one ≡ Some cached_node
        → cached_node.form ≡ Two
    form_at None cached_node e = absurd (cc)
    form_at (Some one) cached_node e = cc

-- the cached nodes, once each has form two
pub known_second : (data_end nodes : ℕ) (cached_nodes : List (Option CachedNode)) (places : List Bool) → AreCached nodes (mark_by (148 + nodes) places) cached_nodes
    → data_end ≡ 148 + nodes + length places → AreKnownNodes data_end nodes (all_second cached_nodes) places
known_second data_end nodes cached_nodes places known whole = record {
  are_cached_nodes = known_as_second nodes (mark_by (148 + nodes) places) cached_nodes known;
  forms = λ place cached_node there. some_form cached_nodes place cached_node there;
  whole = whole;
}

-- and each has a number
pub second_numbered : (nodes : ℕ) (mark : ℕ → ℕ) (cached_nodes : List (Option CachedNode)) → AreCached nodes mark cached_nodes → AreNumbered (all_second cached_nodes)
second_numbered nodes mark cached_nodes known place number there =
    let it = there_at (all_second cached_nodes) place number there in
    let is = cached_at nodes mark (all_second cached_nodes) place it.cached (known_as_second nodes mark cached_nodes known) it.there in
    omega (arith, is.number, it.number_is)

-- what holds of the table holds of the cached nodes
pub asked : (limits told : Limits) (at by : ℕ) (table cached_nodes : List (Option CachedNode)) → limits ≡ told → at ≡ by → table ≡ cached_nodes
    → AreWellFormed limits at table → AreWellFormed told by cached_nodes
asked limits told at by table cached_nodes a b c are =
    subst (λ (l : Limits). AreWellFormed l by cached_nodes) a (subst (λ (n : ℕ). AreWellFormed limits n cached_nodes) b (subst (AreWellFormed limits at) c are))

-- which fault of the layer below a fault that is passed on comes from
pub only_damaged : (fault : ScanFault) → mount_fault fault ≡ mounts.Damaged → fault ≡ scans.Damaged
only_damaged scans.Damaged is = refl
only_damaged scans.Device is = absurd (cc)
only_damaged scans.Memory is = absurd (cc)

pub only_same : (fault : TableFault) → table_fault fault ≡ mounts.Damaged → fault ≡ tables.SameNumber
only_same tables.SameNumber is = refl
only_same tables.Memory is = absurd (cc)

pub err_is : {T E : Type 0} (result : Result T E) (one other : E) → result ≡ Err one → IsErrOf result other → one ≡ other
err_is (Ok done) one other is told = absurd (cc)
err_is (Err fault) one other is told = cc
