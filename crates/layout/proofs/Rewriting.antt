-- A volume that is rewritten in another version holds the same tree.
use Rattle.std.proofs.Common.{◌≡◌, ◌≤◌, ◌<◌, ◌+◌, ◌⊎◌, ℕ, zero, suc, List, [], ◌∷◌, Option, Some, None, length, get_or, inr, refl, sym, ap, ap₂, ◌∙◌, subst, arith, ⊎_elim}
use Rattle.std.proofs.lemmas.Bool.{le-leb, lt-leb}
use Rattle.disk.specs.Moments.{Image}
use Rattle.disk.specs.Calls.{zero_sector}
use Rattle.model_tree.specs.declared.node.NodeKind.{NodeKind}
use Rattle.model_tree.specs.declared.node.NodeKind.TheVariants as kind
use Rattle.model_tree.specs.Trees.Keyed.{with}
use Rattle.model_tree.specs.Seats.Seats.{no_seats}
use Rattle.model_tree.specs.Trees.Stamp.{stamp}
use Rattle.model_tree.specs.Trees.Tree.{Tree, Node}
use Rattle.model_tree.specs.Trees.WellFormed.{IsBefore}
use Rattle.inode.specs.declared.node.Form.{Form}
use Rattle.inode.specs.declared.node.Form.TheVariants.{One, Two}
use Rattle.inode.specs.Fields.{Fields, IsInode, most_entries}
use Rattle.inode.specs.Encoding.{inode_sector}
use Rattle.inode.proofs.ReadBack.{fields-back}
use Rattle.layout.specs.CachedNodes.{CachedNode, node_sector, cached_nodes_in, content_of, node_of}
use Rattle.layout.specs.CachedNodes.{node_with, tree_of}
use Rattle.layout.specs.Laid.{AreNumbered, HoldsContent, HoldsPlace}
use Rattle.layout.specs.Marks.{named, namings_of}
use Rattle.layout.specs.Known.{IsNodePlace, HasContent}
use Rattle.layout.specs.Rewriting.{in_form, in_second, all_second, second_image, AreRewritten, RewrittenStands, FormStays, IsLaidSecond, LaidSecond, KnownSecond, RewrittenCachedNodes, CurrentSecond}
use Rattle.layout.specs.declared.versions.Marking.{Marking}
use Rattle.layout.specs.declared.versions.Marking.TheVariants.{InSectors, AsNamed}
use Rattle.layout.specs.Stands.{Version, marked_by, IsLaid, current_version}
use Rattle.model_tree.specs.declared.limits.Limits.{Limits}
use Rattle.model_tree.specs.Trees.WellFormed.{IsWellFormed}
use Rattle.layout.proofs.CachedNodeLaws.{cached_nodes-back, zero_first, starts}
use Rattle.layout.proofs.Changing.{named-at, tree-kept}
use Rattle.layout.proofs.Frame.{content-held, of_runs, run_sectors-kept, node-kept}
use Rattle.layout.proofs.FirstLaws.{before_nodes}
use Rattle.layout.proofs.MarkProofs.{mark_in-same, below_end}
use Rattle.layout.proofs.SeatLaws.{spare_none}

-- Sectors of nodes

pub node_in_form : (form was : Form) (fields : Fields) → IsInode was fields → in_form form (inode_sector was fields) ≡ inode_sector form fields
unfolding in_form
node_in_form form was fields is = rw (starts was fields) (ap (inode_sector form) (fields-back was fields is))

pub free_in_form : (form : Form) → in_form form zero_sector ≡ zero_sector
unfolding in_form
free_in_form form = rw zero_first refl

-- Cached nodes in other forms

abbrev in_its_form : Form → CachedNode → CachedNode
in_its_form form cached = record cached { form = form }

abbrev place_in : Form → Option CachedNode → Option CachedNode
place_in form None = None
place_in form (Some cached) = Some (in_its_form form cached)

abbrev cached_nodes_from : (form : ℕ → Form) → (place : ℕ) → List (Option CachedNode)
    → List (Option CachedNode)
cached_nodes_from form place [] = []
cached_nodes_from form place (cached ∷ cached_nodes) = place_in (form place) cached ∷ cached_nodes_from form (suc place) cached_nodes

length_from : (form : ℕ → Form) (place : ℕ) (cached_nodes : List (Option CachedNode)) → length (cached_nodes_from form place cached_nodes) ≡ length cached_nodes
length_from form place [] = refl
length_from form place (cached ∷ cached_nodes) = ap suc (length_from form (suc place) cached_nodes)

from_at : (form : ℕ → Form) (place : ℕ) (cached_nodes : List (Option CachedNode)) (i : ℕ) → get_or (cached_nodes_from form place cached_nodes) i None ≡ place_in (form (place + i)) (get_or cached_nodes i None)
from_at form place [] i = refl
from_at form place (cached ∷ cached_nodes) zero = ap (λ (n : ℕ). place_in (form n) cached) (omega arith)
from_at form place (cached ∷ cached_nodes) (suc i) = from_at form (suc place) cached_nodes i ∙ ap (λ (n : ℕ). place_in (form n) (get_or cached_nodes i None)) (omega arith)

all_at : (form : ℕ → Form) (cached_nodes : List (Option CachedNode)) (i : ℕ) → get_or (cached_nodes_from form 0 cached_nodes) i None ≡ place_in (form i) (get_or cached_nodes i None)
all_at form cached_nodes i = from_at form 0 cached_nodes i ∙ ap (λ (n : ℕ). place_in (form n) (get_or cached_nodes i None)) (omega arith)

named_place : (n : ℕ) (form : Form) (cached : Option CachedNode) → namings_of n (place_in form cached) ≡ namings_of n cached
unfolding namings_of
named_place n form None = refl
named_place n form (Some cached) = refl

named_from : (n : ℕ) (form : ℕ → Form) (place : ℕ) (cached_nodes : List (Option CachedNode)) → named n (cached_nodes_from form place cached_nodes) ≡ named n cached_nodes
named_from n form place [] = refl
named_from n form place (cached ∷ cached_nodes) = ap₂ (λ (a b : ℕ). a + b) (named_place n (form place) cached) (named_from n form (suc place) cached_nodes)

same_content : (image : Image) (of : NodeKind) (form : Form) (cached : CachedNode) → content_of image of (in_its_form form cached) ≡ content_of image of cached
same_content image kind.File form cached = refl
same_content image kind.Directory form cached = refl

same_node : (image : Image) (form : Form) (cached : CachedNode) → node_of image (in_its_form form cached) ≡ node_of image cached
unfolding node_of
same_node image form cached = ap (node_with cached.fields) (same_content image cached.fields.kind form cached)

tree_from : (image : Image) (form : ℕ → Form) (place : ℕ) (cached_nodes : List (Option CachedNode)) → tree_of image (cached_nodes_from form place cached_nodes) ≡ tree_of image cached_nodes
tree_from image form place [] = refl
tree_from image form place (None ∷ cached_nodes) = tree_from image form (suc place) cached_nodes
tree_from image form place (Some cached ∷ cached_nodes) =
    ap₂ (λ (tree : Tree) (node : Node). with tree cached.fields.number node) (tree_from image form (suc place) cached_nodes) (same_node image (form place) cached)

held_in_form : (image : Image) (of : NodeKind) (form : Form) (cached : CachedNode) → HoldsContent image of cached → HoldsContent image of (in_its_form form cached)
held_in_form image kind.File form cached holds = record { unnamed = holds.unnamed; tail = holds.tail }
held_in_form image kind.Directory form cached holds = record { count = holds.count; names = holds.names; stamped = holds.stamped; encoded = holds.encoded }

-- Room for the entries

more_room : (was is : Form) → (was ≡ One) ⊎ (is ≡ Two) → most_entries was ≤ most_entries is
more_room One One roomy = omega arith
more_room One Two roomy = omega arith
more_room Two Two roomy = omega arith
more_room Two One roomy = absurd (⊎_elim (λ (e : Two ≡ One). cc) (λ (e : One ≡ Two). cc) roomy)

fits_in_form : (was is : Form) (fields : Fields) → (was ≡ One) ⊎ (is ≡ Two) → IsInode was fields → IsInode is fields
fits_in_form was is fields roomy fits = record {
  number = fits.number;
  owner = fits.owner;
  group = fits.group;
  change = fits.change;
  time_modify = fits.time_modify;
  size = fits.size;
  runs = fits.runs;
  run_sectors = fits.run_sectors;
  each_run_sector = fits.each_run_sector;
  acl = (let more = more_room was is roomy in omega (arith, more, fits.acl));
  each_ace = fits.each_ace;
}

module _ (was is : Version) (size nodes : ℕ) (old new : Image) (cached_nodes : List (Option CachedNode)) (laid : IsLaid was size nodes old cached_nodes)
    (rewritten : AreRewritten was is size nodes old new) where
  abbrev now : List (Option CachedNode)
  now = cached_nodes_from is.form 0 cached_nodes

  marks_now : (marking : Marking) (n : ℕ) → marked_by marking nodes new now n ≡ marked_by marking nodes old cached_nodes n
  marks_now InSectors n = mark_in-same nodes old new (rewritten.bitmap 98 (omega arith) (omega arith)) (rewritten.bitmap 99 (omega arith) (omega arith)) n
  marks_now AsNamed n = named_from n is.form 0 cached_nodes

  marks : (n : ℕ) → marked_by is.marking nodes new now n ≡ marked_by was.marking nodes old cached_nodes n
  marks n = marks_now is.marking n ∙ ap (λ (marking : Marking). marked_by marking nodes old cached_nodes n) rewritten.marking

  kept : (place n : ℕ) → 0 < namings_of n (get_or cached_nodes place None) → new n ≡ old n
  kept place n some =
      let marked : 0 < marked_by was.marking nodes old cached_nodes n = omega (arith, some, named-at n cached_nodes place, laid.laid.marks n) in
      rewritten.region n (laid.laid.behind n marked) (below_end was size nodes old cached_nodes laid n marked)

  held_at : (place : ℕ) (cached : Option CachedNode) → place < nodes → get_or cached_nodes place None ≡ cached → HoldsPlace old place cached → HoldsPlace new place (place_in (is.form place) cached)
  held_at place None within there holds =
      rewritten.nodes_are place within ∙ (ap (in_form (is.form place)) holds ∙ free_in_form (is.form place))
  held_at place (Some cached) within there holds =
      let same : (n : ℕ) → 0 < namings_of n (Some cached) → new n ≡ old n = λ n some. kept place n (rw there some) in
      let roomy : (cached.form ≡ One) ⊎ (is.form place ≡ Two) = rw (laid.forms place cached there) (rewritten.roomy place within) in
      record {
        node = record {
          fits = fits_in_form cached.form (is.form place) cached.fields roomy holds.node.fits;
          number = holds.node.number;
          sector = rewritten.nodes_are place within
              ∙ (ap (in_form (is.form place)) holds.node.sector ∙ node_in_form (is.form place) cached.form cached.fields holds.node.fits);
          each_run = holds.node.each_run;
          run_count = holds.node.run_count;
          run_sectors = run_sectors-kept old new cached.fields.run_sectors cached.runs (of_runs old new cached same) holds.node.run_sectors;
          runs = holds.node.runs;
          blocks = holds.node.blocks;
        };
        content = held_in_form new cached.fields.kind (is.form place) cached (content-held old new cached same cached.fields.kind holds.content);
      }

  held_now : (place : ℕ) → place < nodes → HoldsPlace new place (get_or now place None)
  held_now place within = subst (HoldsPlace new place) (sym (all_at is.form cached_nodes place))
      (held_at place (get_or cached_nodes place None) within refl (laid.laid.held place within))

  some_is : (form : Form) (cached : Option CachedNode) (one : CachedNode) → place_in form cached ≡ Some one → (it : CachedNode) × (cached ≡ Some it) × (one ≡ in_its_form form it)
  some_is form None one e = absurd (cc)
  some_is form (Some it) one e = (it, refl, cc)

  apart_now : AreNumbered now
  apart_now i j a b off at_i at_j =
      let one = some_is (is.form i) (get_or cached_nodes i None) a (sym (all_at is.form cached_nodes i) ∙ at_i) in
      let two = some_is (is.form j) (get_or cached_nodes j None) b (sym (all_at is.form cached_nodes j) ∙ at_j) in
      λ same. laid.laid.apart i j one.0 two.0 off one.1 two.1
      (sym (ap (λ (c : CachedNode). c.fields.number) one.2) ∙ (same ∙ ap (λ (c : CachedNode). c.fields.number) two.2))

  laid_now : IsLaid is size nodes new now
  laid_now = record {
    laid = record {
      count = length_from is.form 0 cached_nodes ∙ laid.laid.count;
      held = held_now;
      apart = apart_now;
      marks = λ n. named_from n is.form 0 cached_nodes ∙ (laid.laid.marks n ∙ sym (marks n));
      behind = λ n some. laid.laid.behind n (omega (arith, some, marks n));
      once = λ n. omega (arith, marks n, laid.laid.once n);
    };
    forms = λ place cached there.
        let one = some_is (is.form place) (get_or cached_nodes place None) cached (sym (all_at is.form cached_nodes place) ∙ there) in
        ap (λ (c : CachedNode). c.form) one.2;
    within = λ n past. marks n ∙ laid.within n (omega (arith, past, rewritten.data_end));
    spare = rewritten.spare;
  }

  tree_now : tree_of new now ≡ tree_of old cached_nodes
  tree_now = tree_from new is.form 0 cached_nodes
      ∙ tree-kept old new cached_nodes (λ i cached there. node-kept old new cached (λ n some. kept i n (rw there some)))

before_later : (a b : ℕ) (tree : Tree) → a ≤ b → IsBefore a tree → IsBefore b tree
before_later a b tree later before = record {
  number = λ number node is. let low = before.number number node is in omega (arith, later, low);
  change = λ number node is. let low = before.change number node is in omega (arith, later, low);
  entry = λ number node of entry is named. let low = before.entry number node of entry is named in omega (arith, later, low);
}

pub rewritten_stands : RewrittenStands
rewritten_stands was is size nodes run later old new tree stands no_less counted rewritten =
    let cached_nodes = cached_nodes_in nodes old in
    let laid = laid_now was is size nodes old new cached_nodes stands.laid rewritten.others in
    let back : cached_nodes_in nodes new ≡ cached_nodes_from is.form 0 cached_nodes = cached_nodes-back new nodes (cached_nodes_from is.form 0 cached_nodes) laid.laid.count laid.laid.held in
    record {
      sized = rewritten.sized;
      region = rewritten.region;
      counted = counted;
      first = rewritten.first;
      laid = subst (IsLaid is size nodes new) (sym back) laid;
      tree_is = stands.tree_is
          ∙ (sym (tree_now was is size nodes old new cached_nodes stands.laid rewritten.others) ∙ ap (tree_of new) (sym back));
      well_formed = subst (λ (limits : Limits). ∥ IsWellFormed limits tree ∥₁) (sym rewritten.limits) stands.well_formed;
      before = before_later (stamp (run + 1) 0) (stamp (later + 1) 0) tree (omega (arith, no_less)) stands.before;
    }

stays_at : (version : Version) (image : Image) (place : ℕ) (cached : Option CachedNode) → ((one : CachedNode) → cached ≡ Some one → one.form ≡ version.form place) → HoldsPlace image place cached
    → in_form (version.form place) (image (node_sector place)) ≡ image (node_sector place)
stays_at version image place None forms holds = ap (in_form (version.form place)) holds ∙ (free_in_form (version.form place) ∙ sym holds)
stays_at version image place (Some cached) forms holds =
    ap (in_form (version.form place)) holds.node.sector
    ∙ (node_in_form (version.form place) cached.form cached.fields holds.node.fits
    ∙ (ap (λ (form : Form). inode_sector form cached.fields) (sym (forms cached refl)) ∙ sym holds.node.sector))

pub form_stays : FormStays
form_stays version size nodes run image tree place stands within =
    stays_at version image place (get_or (cached_nodes_in nodes image) place None) (λ one there. stands.laid.forms place one there) (stands.laid.laid.held place within)

-- Cached nodes in form two

second_from : (place : ℕ) (cached_nodes : List (Option CachedNode)) → cached_nodes_from (λ i. Two) place cached_nodes ≡ all_second cached_nodes
second_from place [] = refl
second_from place (None ∷ cached_nodes) = ap (λ (l : List (Option CachedNode)). None ∷ l) (second_from (suc place) cached_nodes)
second_from place (Some cached ∷ cached_nodes) = ap (λ (l : List (Option CachedNode)). Some (in_its_form Two cached) ∷ l) (second_from (suc place) cached_nodes)

second_of : (form : ℕ → Form) (place : ℕ) (cached_nodes : List (Option CachedNode)) → all_second (cached_nodes_from form place cached_nodes) ≡ all_second cached_nodes
second_of form place [] = refl
second_of form place (None ∷ cached_nodes) = ap (λ (l : List (Option CachedNode)). None ∷ l) (second_of form (suc place) cached_nodes)
second_of form place (Some cached ∷ cached_nodes) = ap (λ (l : List (Option CachedNode)). Some (in_its_form Two cached) ∷ l) (second_of form (suc place) cached_nodes)

pub second_at : (cached_nodes : List (Option CachedNode)) (i : ℕ) → get_or (all_second cached_nodes) i None ≡ in_second (get_or cached_nodes i None)
second_at [] i = refl
second_at (cached ∷ cached_nodes) zero = refl
second_at (cached ∷ cached_nodes) (suc i) = second_at cached_nodes i

module _ (version : Version) (size nodes : ℕ) (image : Image) (cached_nodes : List (Option CachedNode)) (laid : IsLaid version size nodes image cached_nodes)
    (below : 148 + nodes ≤ size) (marking : version.marking ≡ InSectors) (ends : version.data_end size ≡ size) where
  pub then_second : AreRewritten version (current_version no_seats) size nodes image (second_image nodes image)
  then_second = record {
    marking = sym marking;
    data_end = sym ends;
    roomy = λ place within. inr refl;
    bitmap = λ n low high. rw (lt-leb 148 n (omega (arith, high)), lt-leb 100 n high) refl;
    spare = λ n is. (let within = before_nodes n is in rw (lt-leb 148 n within.1, le-leb 100 n within.0) (sym (spare_none n)));
    nodes_are = λ place within. rw (le-leb 148 (node_sector place) (omega arith), lt-leb (148 + nodes) (node_sector place) (omega (arith, within))) refl;
    region = λ n low high. rw (le-leb 148 n (omega (arith, low)), le-leb (148 + nodes) n low) refl;
  }

  laid_second : IsLaidSecond size nodes image cached_nodes
  laid_second = record {
    laid = subst (IsLaid (current_version no_seats) size nodes (second_image nodes image)) (second_from 0 cached_nodes)
        (laid_now version (current_version no_seats) size nodes image (second_image nodes image) cached_nodes laid then_second);
    tree = ap (tree_of (second_image nodes image)) (sym (second_from 0 cached_nodes))
        ∙ tree_now version (current_version no_seats) size nodes image (second_image nodes image) cached_nodes laid then_second;
    shown = ap (tree_of image) (sym (second_from 0 cached_nodes)) ∙ tree_from image (λ i. Two) 0 cached_nodes;
  }

pub laid_as_second : LaidSecond
laid_as_second version size nodes image cached_nodes marking ends laid below = laid_second version size nodes image cached_nodes laid below marking ends

known_content : (of : NodeKind) (cached : CachedNode) → HasContent of cached → HasContent of (in_its_form Two cached)
known_content kind.File cached has = has
known_content kind.Directory cached has = record { count = has.count; names = has.names; stamped = has.stamped }

known_place : (cached : Option CachedNode) → IsNodePlace cached → IsNodePlace (in_second cached)
known_place None is = is
known_place (Some cached) is = record {
  fits = fits_in_form cached.form Two cached.fields (inr refl) is.fits;
  number = is.number;
  each_run = is.each_run;
  run_count = is.run_count;
  runs = is.runs;
  blocks = is.blocks;
  content = known_content cached.fields.kind cached is.content;
}

some_second : (cached : Option CachedNode) (one : CachedNode) → in_second cached ≡ Some one → (it : CachedNode) × (cached ≡ Some it) × (one ≡ in_its_form Two it)
some_second None one e = absurd (cc)
some_second (Some it) one e = (it, refl, cc)

apart_second : (cached_nodes : List (Option CachedNode)) → AreNumbered cached_nodes
    → AreNumbered (all_second cached_nodes)
apart_second cached_nodes apart i j a b off at_i at_j =
    let one = some_second (get_or cached_nodes i None) a (sym (second_at cached_nodes i) ∙ at_i) in
    let two = some_second (get_or cached_nodes j None) b (sym (second_at cached_nodes j) ∙ at_j) in
    λ same. apart i j one.0 two.0 off one.1 two.1
    (sym (ap (λ (c : CachedNode). c.fields.number) one.2) ∙ (same ∙ ap (λ (c : CachedNode). c.fields.number) two.2))

pub known_as_second : KnownSecond
known_as_second nodes mark cached_nodes known = record {
  count = ap length (sym (second_from 0 cached_nodes)) ∙ (length_from (λ i. Two) 0 cached_nodes ∙ known.count);
  each = λ place within. subst IsNodePlace (sym (second_at cached_nodes place)) (known_place (get_or cached_nodes place None) (known.each place within));
  apart = apart_second cached_nodes known.apart;
  marks = λ n. ap (named n) (sym (second_from 0 cached_nodes)) ∙ (named_from n (λ i. Two) 0 cached_nodes ∙ known.marks n);
  behind = known.behind;
  once = known.once;
}

pub rewritten_cached_nodes : RewrittenCachedNodes
rewritten_cached_nodes was is size nodes run later old new tree stands rewritten =
    let cached_nodes = cached_nodes_in nodes old in
    let laid = laid_now was is size nodes old new cached_nodes stands.laid rewritten.others in
    ap all_second (cached_nodes-back new nodes (cached_nodes_from is.form 0 cached_nodes) laid.laid.count laid.laid.held) ∙ second_of is.form 0 cached_nodes

second_same : (cached : Option CachedNode) → ((one : CachedNode) → cached ≡ Some one → one.form ≡ Two) → in_second cached ≡ cached
second_same None forms = refl
second_same (Some cached) forms = ap (λ (form : Form). Some (in_its_form form cached)) (sym (forms cached refl))

pub current_second : CurrentSecond
current_second [] forms = refl
current_second (cached ∷ cached_nodes) forms =
    ap₂ (λ (one : Option CachedNode) (l : List (Option CachedNode)). one ∷ l)
    (second_same cached (λ one there. forms 0 one there)) (current_second cached_nodes (λ place one there. forms (suc place) one there))
