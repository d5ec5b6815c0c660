-- A volume that was just formatted.
use Rattle.std.proofs.Common.{◌≡◌, ◌<◌, ◌+◌, ◌-◌, ◌/◌, ◌%◌, ◌^◌, ℕ, zero, suc, List, [], ◌∷◌, Option, Some, None, get_or, replicate, refl, sym, ap, ap₂, ◌∙◌, arith, inl, inr, ltb, if◌then◌else◌, Bool, true, false}
use Rattle.std.proofs.Math.Nat.{zero-div}
use Rattle.std.proofs.lemmas.Bool.{cases_lt}
use Rattle.std.proofs.lemmas.List.{length-replicate, get_or-replicate, get_or_past}
use Rattle.std.proofs.lemmas.Option.{none-some}
use Rattle.disk.specs.Moments.{Image}
use Rattle.disk.specs.Calls.{zero_sector}
use Rattle.model_tree.specs.Trees.Keyed.{with}
use Rattle.freemap.specs.Places.{bit_of, bit_in}
use Rattle.inode.specs.Fields.{IsInode}
use Rattle.inode.proofs.Parts.{least_entries}
use Rattle.model_tree.specs.Trees.Fresh.{fresh_tree}
use Rattle.model_tree.specs.Trees.Stamp.{stamp}
use Rattle.model_tree.specs.Trees.Tree.{Tree, Node}
use Rattle.model_tree.proofs.Trees.FreshTree.{fresh}
use Rattle.layout.specs.CachedNodes.{CachedNode, tree_of, node_of}
use Rattle.layout.specs.FreshLaws.{root_fields, IsFresh, FreshStands}
use Rattle.layout.specs.Laid.{HoldsCached, HoldsPlace, AreNumbered}
use Rattle.layout.specs.Marks.{named, namings_of, mark_in}
use Rattle.layout.specs.declared.versions.Marking.{Marking}
use Rattle.layout.specs.declared.versions.Marking.TheVariants.{InSectors, AsNamed}
use Rattle.layout.specs.Stands.{Version, marked_by, HaveForms, IsLaid}
use Rattle.layout.proofs.CachedNodeLaws.{cached_nodes-back, only_cached_nodes}
use Rattle.layout.proofs.FileLaws.{zero_sector-at}
use Rattle.layout.proofs.StepLaws.{node_of-directory}

pub nones-at : (n i : ℕ) → get_or (replicate {A = Option CachedNode} n None) i None ≡ None
nones-at n i = elim (cases_lt i n) [
  | inl low ↦ get_or-replicate n i None None low
  | inr high ↦ get_or_past (replicate n None) i None (omega (arith, length-replicate {A = Option CachedNode} n None))
]

named-nones : (n k : ℕ) → named k (replicate n None) ≡ 0
unfolding namings_of
named-nones zero k = refl
named-nones (suc n) k = omega (arith, named-nones n k)

tree-nones : (image : Image) (n : ℕ) → tree_of image (replicate n None) ≡ []
tree-nones image zero = refl
tree-nones image (suc n) = tree-nones image n

bit_of-zeros : (bytes : List ℕ) → bytes ≡ zero_sector → (i : ℕ) → bit_of bytes i ≡ 0
bit_of-zeros bytes is i =
    ap (λ (b : List ℕ). get_or b (i / 8) 0 / 2 ^ (7 - i % 8) % 2) is ∙ ap (λ (x : ℕ). x / 2 ^ (7 - i % 8) % 2) (zero_sector-at (i / 8)) ∙ ap (λ (b : ℕ). b % 2) (zero-div (2 ^ (7 - i % 8)))

either_zero : (b : Bool) → (let either : ℕ = if b then 0 else 0 in either ≡ 0)
either_zero true = refl
either_zero false = refl

bit_in-zeros : (low high : List ℕ) → low ≡ zero_sector → high ≡ zero_sector → (i : ℕ) → bit_in low high i ≡ 0
bit_in-zeros low high a b i = ap₂ (λ (x y : ℕ). if ltb i 32768 then x else y) (bit_of-zeros low a i) (bit_of-zeros high b (i - 32768)) ∙ either_zero (ltb i 32768)

module _ (version : Version) (size nodes : ℕ) (image : Image) (formatted : IsFresh version size nodes image) where
  abbrev root_cached : CachedNode
  root_cached = record { form = version.form 0; fields = root_fields; runs = []; blocks = []; names = [] }

  abbrev root_cached_nodes : List (Option CachedNode)
  root_cached_nodes = Some root_cached ∷ replicate (nodes - 1) None

  some : 0 < nodes
  some = formatted.region.some

  fits : IsInode (version.form 0) root_fields
  fits = record {
    number = omega arith;
    owner = omega arith;
    group = omega arith;
    change = omega arith;
    time_modify = omega arith;
    size = omega arith;
    runs = omega arith;
    run_sectors = refl;
    each_run_sector = tt;
    acl = omega (arith, least_entries (version.form 0));
    each_ace = (record { flags = omega arith; mask = omega arith; id = omega arith }, tt);
  }

  holds_root : HoldsCached image 0 root_cached
  holds_root = record {
    node = record {
      fits = fits;
      number = omega arith;
      sector = formatted.node;
      each_run = tt;
      run_count = refl;
      run_sectors = λ i h. absurd (omega arith);
      runs = record { rising = tt; same = λ block. refl };
      blocks = refl;
    };
    content = record {
      count = refl;
      names = record { few = omega arith; each = tt; apart = λ i j d low h. absurd (omega arith) };
      stamped = record { above = tt; apart = λ i j d low h. absurd (omega arith) };
      encoded = λ i h. absurd (omega arith);
    };
  }

  held : (place : ℕ) → place < nodes → HoldsPlace image place (get_or root_cached_nodes place None)
  held zero h = holds_root
  held (suc place) h = rw (nones-at (nodes - 1) place) (formatted.others (suc place) (omega arith) h)

  root_alone : (i : ℕ) (cached : CachedNode) → get_or root_cached_nodes i None ≡ Some cached → i ≡ 0
  root_alone zero cached at_i = refl
  root_alone (suc i) cached at_i = absurd (none-some cached (sym (nones-at (nodes - 1) i) ∙ at_i))

  apart : AreNumbered root_cached_nodes
  apart i j a b off at_i at_j = absurd (off (root_alone i a at_i ∙ sym (root_alone j b at_j)))

  some_is : (x y : CachedNode) → (let one : Option CachedNode = Some x in one ≡ Some y) → x ≡ y
  some_is x y e = cc

  forms : HaveForms version root_cached_nodes
  forms zero cached at_i = ap (λ (c : CachedNode). c.form) (some_is cached root_cached (sym at_i))
  forms (suc i) cached at_i = absurd (none-some cached (sym (nones-at (nodes - 1) i) ∙ at_i))

  unmarked : (n : ℕ) → mark_in nodes image n ≡ 0
  unfolding mark_in
  unmarked n =
      let low : image 98 ≡ zero_sector = formatted.bitmap 98 (omega arith) (omega arith) in
      let high : image 99 ≡ zero_sector = formatted.bitmap 99 (omega arith) (omega arith) in
      ap (λ (b : ℕ). if ltb n (148 + nodes) then 0 else b) (bit_in-zeros (image 98) (image 99) low high (n - (148 + nodes))) ∙ either_zero (ltb n (148 + nodes))

  unnamed : (n : ℕ) → named n root_cached_nodes ≡ 0
  unfolding namings_of
  unnamed n = omega (arith, named-nones (nodes - 1) n)

  unmarked_by : (marking : Marking) (n : ℕ) → marked_by marking nodes image root_cached_nodes n ≡ 0
  unmarked_by InSectors n = unmarked n
  unmarked_by AsNamed n = unnamed n

  laid : IsLaid version size nodes image root_cached_nodes
  laid = record {
    laid = record {
      count = omega (arith, some, length-replicate {A = Option CachedNode} (nodes - 1) None);
      held = held;
      apart = apart;
      marks = λ n. unnamed n ∙ sym (unmarked_by version.marking n);
      behind = λ n some. absurd (let none = unmarked_by version.marking n in omega arith);
      once = λ n. omega (arith, unmarked_by version.marking n);
    };
    forms = forms;
    within = λ n h. unmarked_by version.marking n;
    spare = formatted.spare;
  }

  tree_is : fresh_tree ≡ tree_of image root_cached_nodes
  tree_is =
      ap (λ (node : Node). with [] root_fields.number node) (sym (node_of-directory image root_cached refl))
      ∙ ap (λ (tree : Tree). with tree root_fields.number (node_of image root_cached)) (sym (tree-nones image (nodes - 1)))

pub fresh_stands : FreshStands
fresh_stands version size nodes image formatted =
    let cached_nodes = root_cached_nodes version size nodes image formatted in
    let all = laid version size nodes image formatted in
    let is = fresh (version.limits size nodes) in
    record {
      sized = formatted.sized;
      region = formatted.region;
      counted = omega arith;
      first = formatted.first;
      laid = only_cached_nodes version size nodes image cached_nodes all;
      tree_is = tree_is version size nodes image formatted ∙ ap (tree_of image) (sym (cached_nodes-back image nodes cached_nodes all.laid.count all.laid.held));
      well_formed = ∣ is.well_formed formatted.a_node formatted.an_entry ∣₁;
      before = is.before (stamp 1 0) (omega arith);
    }
