-- A volume with no free place is charged for all of them.
use Rattle.std.proofs.Common.{◌≡◌, ◌≢◌, ◌≤◌, ◌<◌, ◌+◌, ℕ, zero, suc, List, [], ◌∷◌, Option, Some, None, length, get_or, refl, sym, ap, ◌∙◌, arith, inl, inr, eqb, eq-eqb, ne_eqb}
use Rattle.std.proofs.lemmas.Bool.{cases_eq, cases_order}
use Rattle.std.proofs.lemmas.List.FromFn.{length-map-range_with_len}
use Rattle.disk.specs.Moments.{Image}
use Rattle.model_tree.specs.declared.node.NodeKind.{NodeKind}
use Rattle.model_tree.specs.declared.node.NodeKind.TheVariants as kind
use Rattle.model_tree.specs.Trees.Charge.{charge, blocks, blocks_of, charge_of_blocks, divided_up}
use Rattle.model_tree.specs.Trees.Keyed.{Keyed, at, with, total, worth_at, IsAbove}
use Rattle.model_tree.proofs.Trees.KeyedLaws.{total-with, IsAbove-with}
use Rattle.model_tree.proofs.Trees.KeyedParts.{total-ones}
use Rattle.directory.proofs.ByStamp.{at-by_stamp}
use Rattle.extents.specs.declared.run.Run.{Run}
use Rattle.extents.specs.Runs.{AreRising}
use Rattle.directory.specs.Records.{Record, NamesStamped}
use Rattle.directory.specs.Listing.{by_stamp}
use Rattle.layout.specs.CachedNodes.{CachedNode, tree_of, node_of, content_of, bytes_in, byte_at}
use Rattle.layout.specs.Known.{HasContent, IsCached}
use Rattle.layout.specs.Laid.{AreNumbered}
use Rattle.layout.specs.MarkLaws.{FullIsCharged}
use Rattle.layout.specs.Marks.{once_if, times, times_set, namings_of, named}
use Rattle.layout.proofs.Changing.{tree-lacks, tree-above}
use Rattle.layout.proofs.Knowing.{AreEach, each_above, each_cached, laid_are_cached_nodes}
use Rattle.layout.proofs.NumberLaws.{once-off}

-- f 0 + f 1 + .. + f (n - 1)
abbrev pub sum_to : (ℕ → ℕ) → ℕ → ℕ
sum_to f zero = 0
sum_to f (suc n) = sum_to f n + f n

pub sum_to-zero : (f : ℕ → ℕ) (n : ℕ) → ((i : ℕ) → f i ≡ 0) → sum_to f n ≡ 0
sum_to-zero f zero none = refl
sum_to-zero f (suc n) none = omega (arith, sum_to-zero f n none, none n)

pub sum_to-plus : (f g : ℕ → ℕ) (n : ℕ) → sum_to (λ i. f i + g i) n ≡ sum_to f n + sum_to g n
sum_to-plus f g zero = refl
sum_to-plus f g (suc n) = omega (arith, sum_to-plus f g n)

sum_to-same : (f g : ℕ → ℕ) (n : ℕ) → ((i : ℕ) → i < n → f i ≡ g i) → sum_to f n ≡ sum_to g n
sum_to-same f g zero same = refl
sum_to-same f g (suc n) same = omega (arith, sum_to-same f g n (λ i h. same i (omega arith)), same n (omega arith))

sum_to-ones : (n : ℕ) → sum_to (λ i. 1) n ≡ n
sum_to-ones zero = refl
sum_to-ones (suc n) = omega (arith, sum_to-ones n)

once-le : (n s : ℕ) → once_if (eqb n s) ≤ 1
once-le n s = elim (cases_eq n s) [
  | inl e ↦ rw (eq-eqb n s e) (omega arith)
  | inr off ↦ rw (ne_eqb n s off) (omega arith)
]

-- a sector is one of these at most once
pub sum_once : (a s n : ℕ) → (sum_to (λ i. once_if (eqb (a + i) s)) n ≤ 1) × (a + n ≤ s → sum_to (λ i. once_if (eqb (a + i) s)) n ≡ 0)
sum_once a s zero = (omega arith, λ h. refl)
sum_once a s (suc n) =
    let before = sum_once a s n in
    elim (cases_order (a + n) s) [
      | inl e ↦ (let none = before.1 (omega arith) in omega (arith, once-le (a + n) s), λ h. absurd (omega arith))
      | inr off ↦ elim off [
        | inl low ↦ (omega (arith, before.0, once-off (a + n) s (omega arith)), λ h. omega (arith, before.1 (omega arith), once-off (a + n) s (omega arith)))
        | inr high ↦ (omega (arith, before.0, once-off (a + n) s (omega arith)), λ h. absurd (omega arith))
      ]
    ]

pub sum_times : (a n : ℕ) (sectors : List ℕ) → sum_to (λ i. times (a + i) sectors) n ≤ length sectors
sum_times a n [] = omega (arith, sum_to-zero (λ i. 0) n (λ i. refl))
sum_times a n (s ∷ sectors) = omega (arith, sum_to-plus (λ i. once_if (eqb (a + i) s)) (λ i. times (a + i) sectors) n, (sum_once a s n).0, sum_times a n sectors)

sum_times_set : (a n : ℕ) (blocks : List (Option ℕ)) → sum_to (λ i. times_set (a + i) blocks) n ≤ length blocks
sum_times_set a n [] = omega (arith, sum_to-zero (λ i. 0) n (λ i. refl))
sum_times_set a n (None ∷ blocks) = omega (arith, sum_times_set a n blocks)
sum_times_set a n (Some s ∷ blocks) = omega (arith, sum_to-plus (λ i. once_if (eqb (a + i) s)) (λ i. times_set (a + i) blocks) n, (sum_once a s n).0, sum_times_set a n blocks)

sum_cached : (a n : ℕ) (cached : CachedNode) → sum_to (λ i. namings_of (a + i) (Some cached)) n ≤ length cached.fields.run_sectors + length cached.blocks
unfolding namings_of
sum_cached a n cached =
    omega (arith, sum_to-plus (λ i. times (a + i) cached.fields.run_sectors) (λ i. times_set (a + i) cached.blocks) n, sum_times a n cached.fields.run_sectors, sum_times_set a n cached.blocks)

-- there are no more runs than blocks
pub few_runs : (from count : ℕ) (runs : List Run) → AreRising from count runs → from ≤ count → length runs + from ≤ count
few_runs from count [] rising h = omega arith
few_runs from count (run ∷ runs) rising h =
    let low = rising.0 in
    let some = rising.1 in
    let fits = rising.2 in
    omega (arith, few_runs (run.block + run.length) count runs rising.4 fits)

pub none_worth : {A : Type 0} (worth : A → ℕ) (found : Option A) → found ≡ None → worth_at worth found ≡ 0
none_worth worth found e = ap (worth_at worth) e

pub length-with : {A : Type 0} (entries : Keyed A) (key least : ℕ) (value : A) → IsAbove least entries → at key entries ≡ None → length (with entries key value) ≡ length entries + 1
length-with {A = A} entries key least value above none =
    let one : A → ℕ = λ v. 1 in
    omega (arith, total-with one entries key least value above, none_worth one (at key entries) none, total-ones (with entries key value), total-ones entries)

at-absent : (names : List Record) (key : ℕ) → ((i : ℕ) (d : Record) → i < length names → (get_or names i d).0 ≢ key) → at key names ≡ None
at-absent [] key off = refl
at-absent (entry ∷ names) key off =
    let apart : key ≢ entry.0 = λ e. off 0 entry (omega arith) (sym e) in
    rw (ne_eqb key entry.0 apart) (at-absent names key (λ i d h. off (suc i) d (omega arith)))

pub stamped-rest : (entry : Record) (names : List Record) → NamesStamped (entry ∷ names) → NamesStamped names
stamped-rest entry names stamped = record { above = stamped.above.1; apart = λ i j d low h. stamped.apart (suc i) (suc j) d (omega arith) (omega arith) }

pub above_by_stamp : (names : List Record) → NamesStamped names → IsAbove 0 (by_stamp names)
above_by_stamp [] stamped = tt
above_by_stamp (entry ∷ names) stamped = IsAbove-with (by_stamp names) entry.0 0 entry.1 (above_by_stamp names (stamped-rest entry names stamped)) stamped.above.0

pub fresh_stamp : (entry : Record) (names : List Record) → NamesStamped (entry ∷ names) → at entry.0 (by_stamp names) ≡ None
fresh_stamp entry names stamped = at-by_stamp entry.0 names ∙ at-absent names entry.0 (λ i d h e. stamped.apart 0 (suc i) d (omega arith) (omega arith) (sym e))

pub length-by_stamp : (names : List Record) → NamesStamped names → length (by_stamp names) ≡ length names
length-by_stamp [] stamped = refl
length-by_stamp (entry ∷ names) stamped =
    let rest = stamped-rest entry names stamped in
    let fresh : at entry.0 (by_stamp names) ≡ None = at-by_stamp entry.0 names ∙ at-absent names entry.0 (λ i d h e. stamped.apart 0 (suc i) d (omega arith) (omega arith) (sym e)) in
    omega (arith, length-with (by_stamp names) entry.0 0 entry.1 (above_by_stamp names rest) fresh, length-by_stamp names rest)

content_blocks : (image : Image) (kind : NodeKind) (cached : CachedNode) → HasContent kind cached → blocks (content_of image kind cached) ≡ blocks_of kind cached.fields.size
unfolding bytes_in
content_blocks image kind.File cached has = ap (λ (n : ℕ). divided_up n 4096) (length-map-range_with_len (byte_at image cached.blocks) 0 cached.fields.size)
content_blocks image kind.Directory cached has = ap (λ (n : ℕ). divided_up n 15) (length-by_stamp cached.names has.stamped ∙ has.count)

pub charge_is : (image : Image) (cached : CachedNode) → IsCached cached → charge (node_of image cached) ≡ charge_of_blocks (length cached.blocks)
unfolding node_of
charge_is image cached is = ap charge_of_blocks (content_blocks image cached.fields.kind cached is.content ∙ sym is.blocks)

cached_charged : (image : Image) (cached : CachedNode) (a n : ℕ) → IsCached cached → sum_to (λ i. namings_of (a + i) (Some cached)) n ≤ charge (node_of image cached)
cached_charged image cached a n is =
    let charged = charge_is image cached is in
    let runs = few_runs 0 (length cached.blocks) cached.runs is.runs.rising (omega arith) in
    omega (arith, sum_cached a n cached, is.fits.run_sectors, is.run_count)

pub named-none : (n : ℕ) → namings_of n None ≡ 0
unfolding namings_of
named-none n = refl

cached_nodes_charged : (image : Image) (a n : ℕ) (cached_nodes : List (Option CachedNode)) → AreEach cached_nodes → AreNumbered cached_nodes
    → sum_to (λ i. named (a + i) cached_nodes) n ≤ total charge (tree_of image cached_nodes)
cached_nodes_charged image a n [] each apart = omega (arith, sum_to-zero (λ i. 0) n (λ i. refl))
cached_nodes_charged image a n (None ∷ cached_nodes) each apart =
    let rest = cached_nodes_charged image a n cached_nodes (λ i cached e. each (suc i) cached e) (λ i j x y off. apart (suc i) (suc j) x y (omega arith)) in
    let here = sum_to-zero (λ i. namings_of (a + i) None) n (λ i. named-none (a + i)) in
    omega (arith, sum_to-plus (λ i. namings_of (a + i) None) (λ i. named (a + i) cached_nodes) n)
cached_nodes_charged image a n (Some one ∷ cached_nodes) each apart =
    let rest = cached_nodes_charged image a n cached_nodes (λ i cached e. each (suc i) cached e) (λ i j x y off. apart (suc i) (suc j) x y (omega arith)) in
    let here = cached_charged image one a n (each 0 one refl) in
    let above = tree-above image cached_nodes (each_above cached_nodes (λ i cached e. each (suc i) cached e)) in
    let fresh : at one.fields.number (tree_of image cached_nodes) ≡ None = tree-lacks image cached_nodes one.fields.number (λ i cached e. apart (suc i) 0 cached one (omega arith) e refl) in
    omega (
      arith,
      sum_to-plus (λ i. namings_of (a + i) (Some one)) (λ i. named (a + i) cached_nodes) n,
      total-with charge (tree_of image cached_nodes) one.fields.number 0 (node_of image one) above,
      none_worth charge (at one.fields.number (tree_of image cached_nodes)) fresh,
    )

pub full_is_charged : FullIsCharged
full_is_charged nodes image mark cached_nodes count laid full =
    let sum = sum_to-same (λ i. named (148 + nodes + i) cached_nodes) (λ i. 1) count (λ i h. laid.marks (148 + nodes + i) ∙ full i h) in
    omega (arith, sum, sum_to-ones count, cached_nodes_charged image (148 + nodes) count cached_nodes (each_cached nodes mark cached_nodes (laid_are_cached_nodes nodes image mark cached_nodes laid)) laid.apart)
