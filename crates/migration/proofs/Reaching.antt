-- Each transaction of a migration leaves a volume of version 1 that holds the same tree.
use Rattle.std.proofs.Common.{◌≡◌, ◌≤◌, ◌<◌, ◌+◌, ◌-◌, ◌*◌, ◌⊎◌, ℕ, zero, suc, List, Option, Some, None, length, map, min, take, get_or, eq-eqb, inl, inr, refl, sym, ap, ◌∙◌, subst, arith, ⊎_elim}
use Rattle.std.specs.Prelude.{IsTrue}
use Rattle.std.specs.List.{range_with_len}
use Rattle.std.proofs.lemmas.Bool.{cases_eq, cases_lt, le-leb, lt-leb}
use Rattle.std.proofs.lemmas.List.FromFn.{length-map-range_with_len, take-map-range_with_len}
use Rattle.disk.specs.declared.update.Update.{Update}
use Rattle.disk.specs.Moments.{Image, applied}
use Rattle.journal.specs.Log.{applied_all}
use Rattle.journal.proofs.Images.{put_same}
use Rattle.inode.specs.declared.node.Form.{Form}
use Rattle.inode.specs.declared.node.Form.TheVariants.{One, Two}
use Rattle.inode.specs.Encoding.{inode_sector}
use Rattle.layout.specs.CachedNodes.{CachedNode, node_sector, cached_nodes_in}
use Rattle.layout.specs.Laid.{HoldsPlace}
use Rattle.layout.specs.Rewriting.{in_form, in_second, all_second, IsRewritten}
use Rattle.layout.specs.Stands.{By, IsMark, TreeStands, StandsAs, bare, is_before_nodes, mark_sector, moved_by, spare_by, Version, version_1}
use Rattle.layout.specs.declared.versions.VersionNumber.TheVariants as numbers
use Rattle.layout.proofs.FirstLaws.{before_nodes, sized_parts}
use Rattle.layout.proofs.SeatLaws.{no_seats_kept, spare_other, version_region}
use Rattle.layout.proofs.Rewriting.{node_in_form, free_in_form, second_at, form_stays, rewritten_stands, rewritten_cached_nodes}
use Rattle.model_tree.specs.Seats.Seats.{no_seats}
use Rattle.model_tree.specs.Trees.Tree.{Tree}
use Rattle.migration.specs.Plans.{moved_node, step, step_at, plan, transactions_for}
use Rattle.migration.proofs.Transactions.{mark_written, far_stays, node_written}

-- the volume holds the tree, and the mark counts `moved` places
pub record Reached (size run : ℕ) (tree : Tree) (cached_nodes : List (Option CachedNode)) (moved : ℕ) (image : Image) : Type 0 where
  pub mark : Option ℕ
  pub marked : IsMark numbers.One (length cached_nodes) mark
  pub told : moved_by mark ≡ moved
  pub stands : TreeStands (version_1 mark) size (length cached_nodes) image run tree
  pub read : cached_nodes ≡ all_second (cached_nodes_in (length cached_nodes) image)

-- Forms and spare sectors of version 1

form_moved : (mark : Option ℕ) (place : ℕ) → place < moved_by mark → (version_1 mark).form place ≡ Two
form_moved mark place low = rw (lt-leb (moved_by mark) place low) refl

form_left : (mark : Option ℕ) (place : ℕ) → moved_by mark ≤ place → (version_1 mark).form place ≡ One
form_left mark place high = rw (le-leb (moved_by mark) place high) refl

spare_at : (moved n : ℕ) → n ≡ 147 → spare_by no_seats (Some moved) n ≡ mark_sector moved
spare_at moved n same = rw (eq-eqb n 147 same) refl

-- the node of a place that holds this, in form two
node_becomes : (image : Image) (place : ℕ) (cached : Option CachedNode) → HoldsPlace image place cached
    → applied (moved_node place (in_second cached)) image (node_sector place) ≡ in_form Two (image (node_sector place))
node_becomes image place None holds = holds ∙ sym (ap (in_form Two) holds ∙ free_in_form Two)
node_becomes image place (Some cached) holds =
    put_same image (record { target = node_sector place; content = inode_sector Two cached.fields }) (node_sector place) refl
    ∙ sym (ap (in_form Two) holds.node.sector ∙ node_in_form Two cached.form cached.fields holds.node.fits)

module _ (size run : ℕ) (tree : Tree) (cached_nodes : List (Option CachedNode)) (moved count : ℕ) (image : Image) (reached : Reached size run tree cached_nodes moved image)
    (some : 0 < count) (within : moved + count ≤ length cached_nodes) where
  abbrev new : Image
  new = applied (step cached_nodes moved count) image

  abbrev was : Version
  was = version_1 reached.mark

  abbrev is : Version
  is = version_1 (Some (moved + count))

  roomy : (place : ℕ) → place < length cached_nodes → (was.form place ≡ One) ⊎ (is.form place ≡ Two)
  roomy place below = ⊎_elim
      (λ (low : place < moved + count). inr (form_moved (Some (moved + count)) place low))
      (λ (high : moved + count ≤ place). inl (form_left reached.mark place (omega (arith, reached.told))))
      (cases_lt place (moved + count))

  same_form : (place : ℕ) → (place < moved) ⊎ (moved + count ≤ place) → was.form place ≡ is.form place
  same_form place far = ⊎_elim
      (λ (low : place < moved). form_moved reached.mark place (omega (arith, reached.told)) ∙ sym (form_moved (Some (moved + count)) place (omega arith)))
      (λ (high : moved + count ≤ place). form_left reached.mark place (omega (arith, reached.told)) ∙ sym (form_left (Some (moved + count)) place high))
      far

  node_stays : (place : ℕ) → place < length cached_nodes → (place < moved) ⊎ (moved + count ≤ place)
      → new (node_sector place) ≡ in_form (is.form place) (image (node_sector place))
  node_stays place below far =
      far_stays cached_nodes moved count image (node_sector place) (λ e. omega arith)
      (⊎_elim (λ (low : place < moved). inl (omega arith)) (λ (high : moved + count ≤ place). inr (omega arith)) far)
      ∙ sym (form_stays was size (length cached_nodes) run image tree place reached.stands below)
      ∙ ap (λ (form : Form). in_form form (image (node_sector place))) (same_form place far)

  node_moves : (place : ℕ) → moved ≤ place → place < moved + count
      → new (node_sector place) ≡ in_form (is.form place) (image (node_sector place))
  node_moves place low high =
      let before = cached_nodes_in (length cached_nodes) image in
      node_written cached_nodes moved count place image low high
      ∙ ap (λ (cached : Option CachedNode). applied (moved_node place cached) image (node_sector place))
      (ap (λ (l : List (Option CachedNode)). get_or l place None) reached.read
      ∙ second_at before place)
      ∙ node_becomes image place (get_or before place None) (reached.stands.laid.laid.held place (omega arith))
      ∙ ap (λ (form : Form). in_form form (image (node_sector place))) (sym (form_moved (Some (moved + count)) place high))

  nodes_are : (place : ℕ) → place < length cached_nodes → new (node_sector place) ≡ in_form (is.form place) (image (node_sector place))
  nodes_are place below = ⊎_elim
      (λ (low : place < moved). node_stays place below (inl low))
      (λ (no : moved ≤ place). ⊎_elim
      (λ (high : place < moved + count). node_moves place no high)
      (λ (past : moved + count ≤ place). node_stays place below (inr past))
      (cases_lt place (moved + count)))
      (cases_lt place moved)

  spare_is : (n : ℕ) → IsTrue (is_before_nodes n) → new n ≡ spare_by no_seats (Some (moved + count)) n
  spare_is n is_so = let within = before_nodes n is_so in let low = within.0 in let high = within.1 in ⊎_elim
      (λ (same : n ≡ 147). ap new same ∙ mark_written cached_nodes moved count image ∙ sym (spare_at (moved + count) n same))
      (λ (other : n ≡ 147 → ⊥).
      far_stays cached_nodes moved count image n (λ e. other (sym e)) (inl (omega arith))
      ∙ reached.stands.laid.spare n is_so
      ∙ spare_other reached.mark n other
      ∙ sym (spare_other (Some (moved + count)) n other))
      (cases_eq n 147)

  rewrites : IsRewritten was is size (length cached_nodes) run image new
  rewrites = record {
    sized = reached.stands.sized;
    region = version_region numbers.One (Some (moved + count)) no_seats size (length cached_nodes) tt reached.stands.sized;
    first = far_stays cached_nodes moved count image 0 (λ e. omega arith) (inl (omega arith)) ∙ reached.stands.first;
    limits = refl;
    others = record {
      marking = refl;
      data_end = refl;
      roomy = roomy;
      bitmap = λ n low high. far_stays cached_nodes moved count image n (λ e. omega arith) (inl (omega arith));
      spare = spare_is;
      nodes_are = nodes_are;
      region = λ n low high. far_stays cached_nodes moved count image n (λ e. omega arith) (inr (omega arith));
    };
  }

  pub reaches : Reached size run tree cached_nodes (moved + count) new
  reaches = record {
    mark = Some (moved + count);
    marked = (omega arith, within);
    told = refl;
    stands = rewritten_stands was is size (length cached_nodes) run run image new tree reached.stands (omega arith) reached.stands.counted rewrites;
    read = reached.read ∙ sym (rewritten_cached_nodes was is size (length cached_nodes) run run image new tree reached.stands rewrites);
  }

-- Prefixes of the transactions from one on
pub prefix_reaches : (size run : ℕ) (tree : Tree) (cached_nodes : List (Option CachedNode)) (moved k i c : ℕ) (image : Image) → c ≤ k → moved + 47 * (i + k) < length cached_nodes + 47
    → Reached size run tree cached_nodes (min (length cached_nodes) (moved + 47 * i)) image
    → Reached size run tree cached_nodes (min (length cached_nodes) (moved + 47 * (i + c))) (applied_all (take c (map (step_at cached_nodes moved) (range_with_len i k))) image)
prefix_reaches size run tree cached_nodes moved k i zero image prefix within reached =
    subst (λ (m : ℕ). Reached size run tree cached_nodes (min (length cached_nodes) (moved + 47 * m)) image) (let q : i ≡ i + 0 = omega arith in q) reached
prefix_reaches size run tree cached_nodes moved zero i (suc c) image prefix within reached = absurd (omega arith)
prefix_reaches size run tree cached_nodes moved (suc k) i (suc c) image prefix within reached =
    let from = moved + 47 * i in
    let count = min 47 (length cached_nodes - from) in
    let here : min (length cached_nodes) (moved + 47 * i) ≡ from = omega arith in
    let next : from + count ≡ min (length cached_nodes) (moved + 47 * (i + 1)) = omega arith in
    let one : Reached size run tree cached_nodes (from + count) (applied (step cached_nodes from count) image) =
    reaches size run tree cached_nodes from count image (subst (λ (m : ℕ). Reached size run tree cached_nodes m image) here reached) (omega arith) (omega arith) in
    subst (λ (m : ℕ). Reached size run tree cached_nodes (min (length cached_nodes) (moved + 47 * m)) (applied_all (take c (map (step_at cached_nodes moved) (range_with_len (i + 1) k))) (applied (step cached_nodes from count) image)))
    (let q : i + 1 + c ≡ i + suc c = omega arith in q)
    (prefix_reaches size run tree cached_nodes moved k (i + 1) c (applied (step cached_nodes from count) image) (omega arith) (omega arith)
    (subst (λ (m : ℕ). Reached size run tree cached_nodes m (applied (step cached_nodes from count) image)) next one))

-- so after each prefix of all of them the volume holds the tree
abbrev pub in_all : (nodes moved : ℕ) → ℕ
in_all nodes moved = transactions_for (nodes - moved)

pub begins_reached : (mark : Option ℕ) (moved run size : ℕ) (tree : Tree) (cached_nodes : List (Option CachedNode)) (image : Image) → IsMark numbers.One (length cached_nodes) mark → moved_by mark ≡ moved
    → TreeStands (version_1 mark) size (length cached_nodes) image run tree → cached_nodes ≡ all_second (cached_nodes_in (length cached_nodes) image) → moved ≤ length cached_nodes
    → Reached size run tree cached_nodes (min (length cached_nodes) (moved + 47 * 0)) image
begins_reached mark moved run size tree cached_nodes image marked told stands read within =
    subst (λ (m : ℕ). Reached size run tree cached_nodes m image) (let q : moved ≡ min (length cached_nodes) (moved + 47 * 0) = omega arith in q)
    (record { mark = mark; marked = marked; told = told; stands = stands; read = read })

pub reached_stands : (size run : ℕ) (tree : Tree) (cached_nodes : List (Option CachedNode)) (moved : ℕ) (image : Image) → Reached size run tree cached_nodes moved image
    → (is : StandsAs size (length cached_nodes) image run (bare tree)) × (is.version.number ≡ 1)
reached_stands size run tree cached_nodes moved image reached = (
  record {
    version = version_1 reached.mark;
    is_version = By numbers.One reached.mark no_seats tt reached.marked refl;
    keeps = no_seats_kept run;
    stands = reached.stands;
  },
  refl,
)

module _ (size run : ℕ) (tree : Tree) (cached_nodes : List (Option CachedNode)) (moved : ℕ) (image : Image) (within : moved ≤ length cached_nodes)
    (first : Reached size run tree cached_nodes (min (length cached_nodes) (moved + 47 * 0)) image) where
  fits : moved + 47 * (0 + in_all (length cached_nodes) moved) < length cached_nodes + 47
  fits = omega arith

  pub plan_prefix : (c : ℕ) → c ≤ length (plan cached_nodes moved)
      → (is : StandsAs size (length cached_nodes) (applied_all (take c (plan cached_nodes moved)) image) run (bare tree)) × (is.version.number ≡ 1)
  plan_prefix c prefix =
      let few : c ≤ in_all (length cached_nodes) moved = omega (arith, prefix, length-map-range_with_len (step_at cached_nodes moved) 0 (in_all (length cached_nodes) moved)) in
      reached_stands size run tree cached_nodes (min (length cached_nodes) (moved + 47 * (0 + c))) (applied_all (take c (plan cached_nodes moved)) image)
      (prefix_reaches size run tree cached_nodes moved (in_all (length cached_nodes) moved) 0 c image few fits first)

  pub plan_reaches : Reached size run tree cached_nodes (length cached_nodes) (applied_all (plan cached_nodes moved) image)
  plan_reaches =
      let k = in_all (length cached_nodes) moved in
      subst (λ (list : List (List Update)). Reached size run tree cached_nodes (length cached_nodes) (applied_all list image))
      (take-all-map k)
      (subst (λ (m : ℕ). Reached size run tree cached_nodes m (applied_all (take k (plan cached_nodes moved)) image)) (let q : min (length cached_nodes) (moved + 47 * (0 + k)) ≡ length cached_nodes = omega arith in q)
      (prefix_reaches size run tree cached_nodes moved k 0 k image (omega arith) fits first))
    where
      take-all-map : (k : ℕ) → take k (map (step_at cached_nodes moved) (range_with_len 0 k)) ≡ map (step_at cached_nodes moved) (range_with_len 0 k)
      take-all-map k = take-map-range_with_len (step_at cached_nodes moved) 0 k k (omega arith)

-- a mark that counts all places exists
all_marked : (nodes : ℕ) (mark : Option ℕ) → 2 ≤ nodes → moved_by mark ≡ nodes → mark ≡ Some nodes
all_marked nodes None some told = absurd (omega arith)
all_marked nodes (Some moved) some told = ap Some told

pub reached_all : (size run : ℕ) (tree : Tree) (cached_nodes : List (Option CachedNode)) (image : Image) → Reached size run tree cached_nodes (length cached_nodes) image
    → TreeStands (version_1 (Some (length cached_nodes))) size (length cached_nodes) image run tree
reached_all size run tree cached_nodes image reached =
    let parts = sized_parts size (length cached_nodes) reached.stands.sized in
    subst (λ (mark : Option ℕ). TreeStands (version_1 mark) size (length cached_nodes) image run tree) (all_marked (length cached_nodes) reached.mark parts.some reached.told) reached.stands
