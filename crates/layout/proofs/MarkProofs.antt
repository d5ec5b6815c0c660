-- Marks in memory, and in the sectors of the bitmap.
use Rattle.std.proofs.Common.{◌≡◌, ◌≢◌, ◌≤◌, ◌<◌, ◌+◌, ◌-◌, ◌/◌, ◌%◌, ◌^◌, ◌⊎◌, ℕ, Bool, true, false, List, Option, Some, None, length, get_or, set, refl, sym, ap, ap₂, ◌∙◌, arith, subst, inl, inr, ltb, lt-ltb, le-ltb, if◌then◌else◌, slice_get}
use Rattle.std.proofs.lemmas.Bool.{cases_eq, cases_lt}
use Rattle.std.proofs.lemmas.List.{get_or_past, get_or-set_same, get_or-set_other}
use Rattle.std.proofs.lemmas.Option.{slice_get_within, get_or_from_slice_get}
use Rattle.std.proofs.Math.Nat.{zero-div}
use Rattle.disk.specs.Moments.{Image}
use Rattle.freemap.specs.Places.{mark_of, bit_of, bit_in, bit_from, Show}
use Rattle.freemap.proofs.Bits.{bit_in-shown}
use Rattle.layout.specs.CachedNodes.{CachedNode, tree_of, node_sector, cached_nodes_in}
use Rattle.layout.specs.Laid.{AreLaid, HoldsPlace}
use Rattle.layout.specs.MarkLaws.{EachMark, MarksLaid, LaysMarks, KeptAlone, StandsAlone}
use Rattle.layout.specs.declared.versions.Marking.{Marking}
use Rattle.layout.specs.declared.versions.Marking.TheVariants.{InSectors, AsNamed}
use Rattle.layout.specs.Stands.{Version, marked_by}
use Rattle.layout.specs.Marks.{mark_in, namings_of, mark_by}
use Rattle.layout.specs.Stands.{IsLaid}
use Rattle.layout.proofs.CachedNodeLaws.{cached_nodes-back}
use Rattle.layout.proofs.Frame.{held-still, node-kept}
use Rattle.layout.proofs.Changing.{named-at, tree-kept}
use Rattle.layout.proofs.NumberLaws.{once-off, once-at}

-- ---- marks by places

module _ (first : ℕ) (places : List Bool) (n : ℕ) where
  pub mark-prefix : n < first → mark_by first places n ≡ 0
  unfolding mark_by
  mark-prefix h = rw (lt-ltb n first h) refl

  pub mark-back : first ≤ n → mark_by first places n ≡ bit_from (get_or places (n - first) false)
  unfolding mark_by
  mark-back h = rw (le-ltb n first h) refl

bit-le : (b : Bool) → bit_from b ≤ 1
bit-le true = omega arith
bit-le false = omega arith

-- the marks with one place set to another value
mark-set : (first : ℕ) (places : List Bool) (place : ℕ) (was is : Bool) → place < length places → get_or places place false ≡ was → (n : ℕ)
    → ((n ≡ first + place) × (mark_by first (set places place is) n ≡ bit_from is) × (mark_by first places n ≡ bit_from was)) ⊎ ((n ≢ first + place) × (mark_by first (set places place is) n ≡ mark_by first places n))
mark-set first places place was is h there n = elim (cases_lt n first) [
  | inl low ↦ inr (omega arith, mark-prefix first (set places place is) n low ∙ sym (mark-prefix first places n low))
  | inr high ↦ elim (cases_eq (n - first) place) [
    | inl e ↦ inl (
      omega arith,
      mark-back first (set places place is) n high ∙ ap (λ (k : ℕ). bit_from (get_or (set places place is) k false)) e ∙ ap bit_from (get_or-set_same places place is false h),
      mark-back first places n high ∙ ap (λ (k : ℕ). bit_from (get_or places k false)) e ∙ ap bit_from there,
    )
    | inr off ↦ inr (omega arith, mark-back first (set places place is) n high ∙ ap bit_from (get_or-set_other places place (n - first) is false off) ∙ sym (mark-back first places n high))
  ]
]

slice_get-within : (places : List Bool) (place : ℕ) (b : Bool) → slice_get places place ≡ Some b → (place < length places) × (get_or places place false ≡ b)
slice_get-within places place b is = (slice_get_within places place b is, get_or_from_slice_get places place b false is)

true-within : (places : List Bool) (place : ℕ) → get_or places place false ≡ true → place < length places
true-within places place is = elim (cases_lt place (length places)) [
  | inl low ↦ low
  | inr high ↦ absurd (let no : false ≡ true = sym (get_or_past places place false high) ∙ is in cc)
]

pub each_mark : EachMark
each_mark first places place = record {
  taken = λ free n. let in_ = slice_get-within places place false free in elim (mark-set first places place false true in_.0 in_.1 n) [
    | inl here ↦ omega (arith, here.1, here.2, once-at n (first + place) here.0)
    | inr there ↦ omega (arith, there.1, once-off n (first + place) there.0)
  ];
  given = λ used n. elim (mark-set first places place true false (true-within places place used) used n) [
    | inl here ↦ omega (arith, here.1, here.2, once-at n (first + place) here.0)
    | inr there ↦ omega (arith, there.1, once-off n (first + place) there.0)
  ];
  once = λ n. elim (cases_lt n first) [
    | inl low ↦ omega (arith, mark-prefix first places n low)
    | inr high ↦ omega (arith, mark-back first places n high, bit-le (get_or places (n - first) false))
  ];
  behind = λ n some. elim (cases_lt n first) [
    | inl low ↦ absurd (let none = mark-prefix first places n low in omega arith)
    | inr high ↦ high
  ];
  within = λ n h. mark-back first places n (omega arith) ∙ ap bit_from (get_or_past places (n - first) false (omega arith));
}

-- ---- the bitmap's sectors

-- past the two sectors no bit is set
pub bit_of-past : (bytes : List ℕ) (i : ℕ) → length bytes ≡ 4096 → 32768 ≤ i → bit_of bytes i ≡ 0
bit_of-past bytes i long h =
    let none : get_or bytes (i / 8) 0 ≡ 0 = get_or_past bytes (i / 8) 0 (omega arith) in
    ap (λ (b : ℕ). b / 2 ^ (7 - i % 8) % 2) none ∙ ap (λ (b : ℕ). b % 2) (zero-div (2 ^ (7 - i % 8)))

shown-at : (low high : List ℕ) (count : ℕ) (places : List Bool) → count ≤ 65536 → Show low high count places → (i : ℕ) → bit_in low high i ≡ mark_of places i
shown-at low high count places few shown i = elim (cases_lt i 65536) [
  | inl h ↦ bit_in-shown low high count places shown i h
  | inr h ↦
      let past : 32768 ≤ i = omega arith in
      rw (le-ltb i 32768 past) (bit_of-past high (i - 32768) shown.high_shows.len (omega arith))
      ∙ sym (ap bit_from (get_or_past places i false (omega (arith, shown.count_is))))
]

-- the bitmap sectors mark the places
marks_of : (nodes : ℕ) (image : Image) (places : List Bool) → ((i : ℕ) → bit_in (image 98) (image 99) i ≡ mark_of places i) → (n : ℕ) → mark_in nodes image n ≡ mark_by (148 + nodes) places n
unfolding mark_in mark_by
marks_of nodes image places marked n = ap (λ (m : ℕ). if ltb n (148 + nodes) then 0 else m) (marked (n - (148 + nodes)))

pub marks_laid : MarksLaid
marks_laid nodes count image places few shown = marks_of nodes image places (shown-at (image 98) (image 99) count places few shown)

-- ---- images that differ in what no cached node names

module _ (nodes : ℕ) (old new : Image) (marked mark : ℕ → ℕ) (cached_nodes : List (Option CachedNode)) (laid : AreLaid nodes old marked cached_nodes) (marks : (n : ℕ) → mark n ≡ marked n)
    (same_nodes : (place : ℕ) → place < nodes → new (node_sector place) ≡ old (node_sector place)) (same_data : (n : ℕ) → 0 < marked n → new n ≡ old n) where
  kept_all : (place n : ℕ) → 0 < namings_of n (get_or cached_nodes place None) → new n ≡ old n
  kept_all place n some = same_data n (omega (arith, named-at n cached_nodes place, laid.marks n))

  held_at : (place : ℕ) (cached : Option CachedNode) → place < nodes → get_or cached_nodes place None ≡ cached → HoldsPlace old place cached → HoldsPlace new place cached
  held_at place None h there holds = same_nodes place h ∙ holds
  held_at place (Some cached) h there holds = held-still old new cached (λ n some. kept_all place n (rw there some)) place (same_nodes place h) holds

  laid_still : AreLaid nodes new mark cached_nodes
  laid_still = record {
    count = laid.count;
    held = λ place h. held_at place (get_or cached_nodes place None) h refl (laid.held place h);
    apart = laid.apart;
    marks = λ n. laid.marks n ∙ sym (marks n);
    behind = λ n some. laid.behind n (omega (arith, marks n));
    once = λ n. omega (arith, marks n, laid.once n);
  }

  pub tree_still : tree_of new cached_nodes ≡ tree_of old cached_nodes
  tree_still = tree-kept old new cached_nodes (λ i cached there. node-kept old new cached (λ n some. kept_all i n (rw there some)))

marks_by : (marking : Marking) (nodes : ℕ) (old new : Image) (places : List Bool) (cached_nodes : List (Option CachedNode)) → AreLaid nodes old (mark_by (148 + nodes) places) cached_nodes
    → (marking ≡ InSectors → (i : ℕ) → bit_in (new 98) (new 99) i ≡ mark_of places i) → (n : ℕ) → marked_by marking nodes new cached_nodes n ≡ mark_by (148 + nodes) places n
marks_by InSectors nodes old new places cached_nodes laid marked = marks_of nodes new places (marked refl)
marks_by AsNamed nodes old new places cached_nodes laid marked = λ n. laid.marks n

pub lays_marks : LaysMarks
lays_marks version size nodes old new places cached_nodes writes =
    let laid = writes.laid in
    let marks = marks_by version.marking nodes old new places cached_nodes laid writes.marked in
    record {
      laid = laid_still nodes old new (mark_by (148 + nodes) places) (marked_by version.marking nodes new cached_nodes) cached_nodes laid marks (λ place h. writes.same (node_sector place) (omega arith)) (λ n some. writes.same n (let far = laid.behind n some in omega arith));
      forms = writes.forms;
      within = λ n h. marks n ∙ (let each = each_mark (148 + nodes) places 0 in each.within n (omega (arith, writes.end_is)));
      spare = writes.spare;
    }

pub mark_in-same : (nodes : ℕ) (old new : Image) → new 98 ≡ old 98 → new 99 ≡ old 99 → (n : ℕ) → mark_in nodes new n ≡ mark_in nodes old n
unfolding mark_in
mark_in-same nodes old new low high n = ap₂ (λ (a b : List ℕ). if ltb n (148 + nodes) then 0 else bit_in a b (n - (148 + nodes))) low high

pub marked-same : (marking : Marking) (nodes : ℕ) (old new : Image) (cached_nodes : List (Option CachedNode)) → new 98 ≡ old 98 → new 99 ≡ old 99 → (n : ℕ) → marked_by marking nodes new cached_nodes n ≡ marked_by marking nodes old cached_nodes n
marked-same InSectors nodes old new cached_nodes low high n = mark_in-same nodes old new low high n
marked-same AsNamed nodes old new cached_nodes low high n = refl

pub below_end : (version : Version) (size nodes : ℕ) (image : Image) (cached_nodes : List (Option CachedNode)) → IsLaid version size nodes image cached_nodes → (n : ℕ) → 0 < marked_by version.marking nodes image cached_nodes n → n < version.data_end size
below_end version size nodes image cached_nodes laid n some = elim (cases_lt n (version.data_end size)) [
  | inl low ↦ low
  | inr high ↦ absurd (let none = laid.within n high in omega arith)
]

pub kept_alone : KeptAlone
kept_alone version size nodes old new cached_nodes region laid all_same =
    let same : (n : ℕ) → 98 ≤ n → n < version.data_end size → new n ≡ old n = λ n first below. all_same n first (omega (arith, below, region.inside)) in
    let behind = region.behind in
    let marks = marked-same version.marking nodes old new cached_nodes (same 98 (omega arith) (omega arith)) (same 99 (omega arith) (omega arith)) in
    let at_nodes : (place : ℕ) → place < nodes → new (node_sector place) ≡ old (node_sector place) = λ place h. same (node_sector place) (omega arith) (omega arith) in
    let at_data : (n : ℕ) → 0 < marked_by version.marking nodes old cached_nodes n → new n ≡ old n = λ n some. same n (let far = laid.laid.behind n some in omega arith) (below_end version size nodes old cached_nodes laid n some) in
    let still = laid_still nodes old new (marked_by version.marking nodes old cached_nodes) (marked_by version.marking nodes new cached_nodes) cached_nodes laid.laid marks at_nodes at_data in
    record {
      laid = record {
        laid = still;
        forms = laid.forms;
        within = λ n h. marks n ∙ laid.within n h;
        spare = λ n is. (let beside = region.spare n is in all_same n beside.from_first beside.below ∙ laid.spare n is);
      };
      same_cached_nodes = cached_nodes-back new nodes cached_nodes still.count still.held ∙ sym (cached_nodes-back old nodes cached_nodes laid.laid.count laid.laid.held);
      same_tree = tree_still nodes old new (marked_by version.marking nodes old cached_nodes) (marked_by version.marking nodes new cached_nodes) cached_nodes laid.laid marks at_nodes at_data;
    }

pub stands_alone : StandsAlone
stands_alone version size nodes old new run tree stands first same =
    let sees = kept_alone version size nodes old new (cached_nodes_in nodes old) stands.region stands.laid same in
    record {
      sized = stands.sized;
      region = stands.region;
      counted = stands.counted;
      first = first ∙ stands.first;
      laid = subst (IsLaid version size nodes new) (sym sees.same_cached_nodes) sees.laid;
      tree_is = stands.tree_is ∙ sym sees.same_tree ∙ ap (tree_of new) (sym sees.same_cached_nodes);
      well_formed = stands.well_formed;
      before = stands.before;
    }
