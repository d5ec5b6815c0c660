-- How many places are free, how many blocks are set, and what cached nodes name of a data region.
use Rattle.std.proofs.Common.{◌≡◌, ◌≤◌, ◌<◌, ◌+◌, ◌-◌, ℕ, zero, suc, Bool, true, false, cond, List, [], ◌∷◌, ◌++◌, Option, Some, None, length, get_or, set, replicate, refl, ap, ◌∙◌, arith, eqb, slice_get}
use Rattle.std.specs.Prelude.{is_some, All}
use Rattle.std.specs.List.{sum_by}
use Rattle.std.proofs.lemmas.List.Sums.{sum_by-cons, sum_by-set, count_by-le-length}
use Rattle.std.proofs.lemmas.List.{length-set}
use Rattle.std.proofs.lemmas.Option.{slice_get_within, get_or_from_slice_get}
use Rattle.extents.specs.Runs.{with_holes}
use Rattle.freemap.specs.Kept.{free_places}
use Rattle.freemap.specs.Places.{bit_from}
use Rattle.freemap.proofs.Bits.{free_from}
use Rattle.layout.specs.CachedNodes.{CachedNode}
use Rattle.layout.specs.Known.{IsCached}
use Rattle.layout.specs.Marks.{once_if, times, times_set, named, namings_of, mark_by}
use Rattle.layout.specs.SumLaws.{sum_over}
use Rattle.layout.proofs.ChargeLaws.{sum_to, sum_to-zero, sum_to-plus, sum_once, sum_times, few_runs}
use Rattle.layout.proofs.MarkProofs.{mark-back}
use Rattle.node_table.specs.Tables.{charge_of}
use Rattle.tree_transaction.specs.Blocks.{set_blocks}
use Rattle.tree_transaction.specs.Laying.{sectors_for}

-- ---- free places

pub takes_free : (places : List Bool) (place : ℕ) → slice_get places place ≡ Some false → free_places (set places place true) + 1 ≡ free_places places
takes_free places place is =
    let within = slice_get_within places place false is in
    let free : get_or places place true ≡ false = get_or_from_slice_get places place false true is in
    let counted : sum_by free_from (set places place true) + free_from (get_or places place true) ≡ sum_by free_from places + free_from true = sum_by-set free_from places place true true within in
    let was : free_from (get_or places place true) ≡ 1 = ap free_from free in
    omega arith

free-cons : (used : Bool) (places : List Bool) → free_places (used ∷ places) ≡ free_from used + free_places places
free-cons used places = sum_by-cons free_from used places

pub none_free : (places : List Bool) → All (λ used. used ≡ true) places → free_places places ≡ 0
none_free [] all = refl
none_free (used ∷ places) all =
    let here : free_from used ≡ 0 = ap free_from (all 0 false (omega arith)) in
    let rest = none_free places (λ k d h. all (suc k) d (omega arith)) in
    omega (arith, free-cons used places)

-- ---- set blocks

abbrev set_from : Option ℕ → ℕ
set_from block = cond (is_some block) 1 0

set-cons : (block : Option ℕ) (blocks : List (Option ℕ)) → set_blocks (block ∷ blocks) ≡ set_from block + set_blocks blocks
set-cons block blocks = sum_by-cons set_from block blocks

pub set_more : (blocks : List (Option ℕ)) (i sector : ℕ) → i < length blocks → get_or blocks i None ≡ None → set_blocks (set blocks i (Some sector)) ≡ set_blocks blocks + 1
set_more blocks i sector h hole =
    let counted : sum_by set_from (set blocks i (Some sector)) + set_from (get_or blocks i None) ≡ sum_by set_from blocks + set_from (Some sector) = sum_by-set set_from blocks i (Some sector) None h in
    let was : set_from (get_or blocks i None) ≡ 0 = ap set_from hole in
    omega arith

pub set_less : (blocks : List (Option ℕ)) (i : ℕ) → i < length blocks → get_or blocks i None ≡ None → set_blocks blocks < length blocks
set_less blocks i h hole = omega (arith, set_more blocks i 0 h hole, count_by-le-length is_some (set blocks i (Some 0)), length-set blocks i (Some 0))

pub set_most : (blocks : List (Option ℕ)) → set_blocks blocks ≤ length blocks
set_most blocks = count_by-le-length is_some blocks

set-append : (blocks : List (Option ℕ)) (n : ℕ) → set_blocks (blocks ++ replicate n None) ≡ set_blocks blocks
set-append [] zero = refl
set-append [] (suc n) = omega (arith, set-cons None (replicate n None), set-append [] n)
set-append (block ∷ blocks) n = omega (arith, set-cons block (blocks ++ replicate n None), set-cons block blocks, set-append blocks n)

pub set_holes : (blocks : List (Option ℕ)) (count : ℕ) → set_blocks (with_holes blocks count) ≡ set_blocks blocks
set_holes blocks count = set-append blocks (count - length blocks)

-- ---- a data region

-- what a cached node names
abbrev pub named_count : CachedNode → ℕ
named_count cached = length cached.fields.run_sectors + set_blocks cached.blocks

sum_sets : (a n : ℕ) (blocks : List (Option ℕ)) → sum_to (λ i. times_set (a + i) blocks) n ≤ set_blocks blocks
sum_sets a n [] = omega (arith, sum_to-zero (λ i. 0) n (λ i. refl))
sum_sets a n (None ∷ blocks) = omega (arith, set-cons None blocks, sum_sets a n blocks)
sum_sets a n (Some s ∷ blocks) = omega (arith, set-cons (Some s) blocks, sum_to-plus (λ i. once_if (eqb (a + i) s)) (λ i. times_set (a + i) blocks) n, (sum_once a s n).0, sum_sets a n blocks)

sum_cached : (a n : ℕ) (cached : CachedNode)
    → sum_to (λ i. namings_of (a + i) (Some cached)) n ≤ named_count cached
unfolding namings_of
sum_cached a n cached =
    omega (arith, sum_to-plus (λ i. times (a + i) cached.fields.run_sectors) (λ i. times_set (a + i) cached.blocks) n, sum_times a n cached.fields.run_sectors, sum_sets a n cached.blocks)

sum_none : (a n : ℕ) → sum_to (λ i. namings_of (a + i) None) n ≡ 0
unfolding namings_of
sum_none a n = sum_to-zero (λ i. 0) n (λ i. refl)

sum_cached_nodes : (a n : ℕ) (cached_nodes : List (Option CachedNode)) → sum_to (λ i. named (a + i) cached_nodes) n ≤ sum_over named_count cached_nodes
sum_cached_nodes a n [] = omega (arith, sum_to-zero (λ i. 0) n (λ i. refl))
sum_cached_nodes a n (None ∷ cached_nodes) = omega (arith, sum_to-plus (λ i. namings_of (a + i) None) (λ i. named (a + i) cached_nodes) n, sum_none a n, sum_cached_nodes a n cached_nodes)
sum_cached_nodes a n (Some cached ∷ cached_nodes) = omega (arith, sum_to-plus (λ i. namings_of (a + i) (Some cached)) (λ i. named (a + i) cached_nodes) n, sum_cached a n cached, sum_cached_nodes a n cached_nodes)

sum_to-le : (f g : ℕ → ℕ) (n : ℕ) → ((i : ℕ) → f i ≤ g i) → sum_to f n ≤ sum_to g n
sum_to-le f g zero le = omega arith
sum_to-le f g (suc n) le = omega (arith, sum_to-le f g n le, le n)

sum_to-first : (f : ℕ → ℕ) (n : ℕ) → sum_to f (suc n) ≡ f 0 + sum_to (λ i. f (suc i)) n
sum_to-first f zero = omega arith
sum_to-first f (suc n) = omega (arith, sum_to-first f n)

-- each place is used or free
used-or-free : (places : List Bool) → sum_to (λ i. bit_from (get_or places i false)) (length places) + free_places places ≡ length places
used-or-free [] = refl
used-or-free (true ∷ places) = let rest = used-or-free places in omega (arith, free-cons true places, sum_to-first (λ i. bit_from (get_or (true ∷ places) i false)) (length places))
used-or-free (false ∷ places) = let rest = used-or-free places in omega (arith, free-cons false places, sum_to-first (λ i. bit_from (get_or (false ∷ places) i false)) (length places))

mark-here : (first : ℕ) (places : List Bool) (i : ℕ) → mark_by first places (first + i) ≡ bit_from (get_or places i false)
mark-here first places i =
    let at : first + i - first ≡ i = omega arith in
    mark-back first places (first + i) (omega arith) ∙ ap (λ (k : ℕ). bit_from (get_or places k false)) at

pub region_named : (first : ℕ) (places : List Bool) (cached_nodes : List (Option CachedNode)) → ((n : ℕ) → mark_by first places n ≤ named n cached_nodes) → length places ≤ free_places places + sum_over named_count cached_nodes
region_named first places cached_nodes marks =
    let below = sum_to-le (λ i. bit_from (get_or places i false)) (λ i. named (first + i) cached_nodes) (length places) (λ i. omega (arith, mark-here first places i, marks (first + i))) in
    omega (arith, used-or-free places, sum_cached_nodes first (length places) cached_nodes)

-- ---- what cached nodes are charged

pub sum_over-set : (worth : CachedNode → ℕ) (cached_nodes : List (Option CachedNode)) (place : ℕ) (was is : CachedNode) → get_or cached_nodes place None ≡ Some was → sum_over worth (set cached_nodes place (Some is)) + worth was ≡ sum_over worth cached_nodes + worth is
sum_over-set worth [] place was is there = absurd (cc)
sum_over-set worth (None ∷ cached_nodes) zero was is there = absurd (cc)
sum_over-set worth (Some cached ∷ cached_nodes) zero was is there = let same : cached ≡ was = cc in let e = ap worth same in omega arith
sum_over-set worth (None ∷ cached_nodes) (suc place) was is there = sum_over-set worth cached_nodes place was is there
sum_over-set worth (Some cached ∷ cached_nodes) (suc place) was is there = let rest = sum_over-set worth cached_nodes place was is there in omega arith

less_all : (less more : CachedNode → ℕ) (cached_nodes : List (Option CachedNode)) → ((i : ℕ) (cached : CachedNode) → get_or cached_nodes i None ≡ Some cached → less cached ≤ more cached) → sum_over less cached_nodes ≤ sum_over more cached_nodes
less_all less more [] each = omega arith
less_all less more (None ∷ cached_nodes) each = less_all less more cached_nodes (λ i cached e. each (suc i) cached e)
less_all less more (Some cached ∷ cached_nodes) each = let rest = less_all less more cached_nodes (λ i cached e. each (suc i) cached e) in let here = each 0 cached refl in omega arith

pub less_others : (less more : CachedNode → ℕ) (cached_nodes : List (Option CachedNode)) (place : ℕ) (was : CachedNode) → ((i : ℕ) (cached : CachedNode) → get_or cached_nodes i None ≡ Some cached → less cached ≤ more cached) → get_or cached_nodes place None ≡ Some was
    → sum_over less cached_nodes + more was ≤ sum_over more cached_nodes + less was
less_others less more [] place was each there = absurd (cc)
less_others less more (None ∷ cached_nodes) zero was each there = absurd (cc)
less_others less more (Some cached ∷ cached_nodes) zero was each there =
    let same : cached ≡ was = cc in
    let e = ap less same in
    let f = ap more same in
    let rest = less_all less more cached_nodes (λ i cached e. each (suc i) cached e) in
    omega arith
less_others less more (None ∷ cached_nodes) (suc place) was each there = less_others less more cached_nodes place was (λ i cached e. each (suc i) cached e) there
less_others less more (Some cached ∷ cached_nodes) (suc place) was each there =
    let rest = less_others less more cached_nodes place was (λ i cached e. each (suc i) cached e) there in
    let here = each 0 cached refl in
    omega arith

pub few_numbers : (cached : CachedNode) → IsCached cached → length cached.fields.run_sectors ≤ sectors_for (length cached.blocks)
few_numbers cached is =
    let fits = is.fits in
    let runs = is.runs in
    omega (arith, fits.run_sectors, is.run_count, few_runs 0 (length cached.blocks) cached.runs runs.rising (omega arith))

pub named_charged : (cached : CachedNode) → IsCached cached → named_count cached ≤ charge_of cached
named_charged cached is = omega (arith, few_numbers cached is, set_most cached.blocks)
