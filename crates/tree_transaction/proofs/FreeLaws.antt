-- A node that is removed.
use Rattle.std.proofs.Common.{◌≡◌, ◌≤◌, ◌<◌, ◌+◌, ◌-◌, ℕ, zero, suc, Bool, false, true, List, [], ◌∷◌, Option, Some, None, length, get_or, set, take, replicate, refl, sym, ap, ◌∙◌, arith, subst, eqb, slice_index_or, slice_set}
use Rattle.std.proofs.lemmas.Option.{none-some}
use Rattle.disk.specs.Moments.{Image, applied}
use Rattle.model_tree.specs.Trees.Edit.{DropNode}
use Rattle.layout.specs.CachedNodes.{CachedNode}
use Rattle.layout.specs.Known.{AreCached}
use Rattle.layout.specs.Marks.{once_if, times, times_set, namings_of, mark_by}
use Rattle.layout.proofs.Knowing.{one_cached_change}
use Rattle.layout.proofs.MarkProofs.{each_mark}
use Rattle.layout.proofs.NodeEditLaws.{named_by-parts, free_node}
use Rattle.layout.proofs.NumberLaws.{once-here, times_set-prefix}
use Rattle.layout.proofs.ChargeLaws.{named-none}
use Rattle.tree_transaction.specs.Blocks.{IsSectorPut, HaveMarks}
use Rattle.tree_transaction.specs.declared.transaction.Transaction.{Transaction}
use Rattle.tree_transaction.specs.Transactions.{cached_nodes_of, image_of, IsKnown, StaysKnown, MakesOver}
use Rattle.tree_transaction.proofs.BlockLaws.{here, elsewhere, zeros-are}
use Rattle.tree_transaction.specs.Laying.{AreMarked}
use Rattle.tree_transaction.proofs.KnownLaws.{in_table, named_once, stays_put, made}
use Rattle.tree_transaction.proofs.NumberLaws.{mark-used}

-- the first blocks, and one more

next-hole : (n : ℕ) (blocks : List (Option ℕ)) (i : ℕ) → get_or blocks i None ≡ None → times_set n (take (suc i) blocks) ≡ times_set n (take i blocks)
next-hole n [] zero is = refl
next-hole n [] (suc i) is = refl
next-hole n (None ∷ blocks) zero is = refl
next-hole n (Some s ∷ blocks) zero is = absurd (none-some s (sym is))
next-hole n (None ∷ blocks) (suc i) is = next-hole n blocks i is
next-hole n (Some s ∷ blocks) (suc i) is = omega (arith, next-hole n blocks i is)

next-set : (n : ℕ) (blocks : List (Option ℕ)) (i sector : ℕ) → get_or blocks i None ≡ Some sector → times_set n (take (suc i) blocks) ≡ times_set n (take i blocks) + once_if (eqb n sector)
next-set n [] i sector is = absurd (none-some sector is)
next-set n (None ∷ blocks) zero sector is = absurd (none-some sector is)
next-set n (Some s ∷ blocks) zero sector is = let e : s ≡ sector = cc in omega (arith, ap (λ (k : ℕ). once_if (eqb n k)) e)
next-set n (None ∷ blocks) (suc i) sector is = next-set n blocks i sector is
next-set n (Some s ∷ blocks) (suc i) sector is = omega (arith, next-set n blocks i sector is)

pub take-hole : (n : ℕ) (blocks : List (Option ℕ)) (i : ℕ) → get_or blocks i None ≡ None → times_set n (take (i + 1) blocks) ≡ times_set n (take i blocks)
take-hole n blocks i is = let next : i + 1 ≡ suc i = omega arith in ap (λ (k : ℕ). times_set n (take k blocks)) next ∙ next-hole n blocks i is

pub take-set : (n : ℕ) (blocks : List (Option ℕ)) (i sector : ℕ) → get_or blocks i None ≡ Some sector → times_set n (take (i + 1) blocks) ≡ times_set n (take i blocks) + once_if (eqb n sector)
take-set n blocks i sector is = let next : i + 1 ≡ suc i = omega arith in ap (λ (k : ℕ). times_set n (take k blocks)) next ∙ next-set n blocks i sector is

-- a block that is freed
pub record GivesBlock (first : ℕ) (was now : List Bool) (blocks : List (Option ℕ)) (from i sector : ℕ) : Type 0 where
  pub behind : first ≤ sector
  pub used : slice_index_or now (sector - first) false ≡ true
  pub marks : (n : ℕ) → mark_by first (slice_set now (sector - first) false) n + times_set n (take (i + 1) blocks) ≡ mark_by first was n + times_set n (take from blocks)

pub gives_block : (first : ℕ) (was now : List Bool) (blocks : List (Option ℕ)) (from i sector : ℕ) → HaveMarks first was blocks → ((n : ℕ) → mark_by first now n + times_set n (take i blocks) ≡ mark_by first was n + times_set n (take from blocks))
    → get_or blocks i None ≡ Some sector → GivesBlock first was now blocks from i sector
gives_block first was now blocks from i sector marked follow is =
    let some : 0 < mark_by first now sector = omega (arith, follow sector, marked sector, take-set sector blocks i sector is, times_set-prefix sector blocks (i + 1), once-here sector) in
    let each_first = each_mark first now 0 in
    let behind : first ≤ sector = each_first.behind sector some in
    let each = each_mark first now (sector - first) in
    let used = mark-used first now sector some in
    let at : first + (sector - first) ≡ sector = omega arith in
    record {
      behind = behind;
      used = used;
      marks = λ n.
          let given : mark_by first (slice_set now (sector - first) false) n + once_if (eqb n sector) ≡ mark_by first now n =
          subst (λ (t : ℕ). mark_by first (slice_set now (sector - first) false) n + once_if (eqb n t) ≡ mark_by first now n) at (each.given used n) in
          omega (arith, given, follow n, take-set n blocks i sector is);
    }

-- the node is removed

pub none-named : (n : ℕ) (numbers : List ℕ) → length numbers ≤ 0 → times n numbers ≡ 0
none-named n [] none = refl
none-named n (s ∷ numbers) none = absurd (omega arith)

-- when its blocks are freed, its run sectors are still marked
pub numbers_marked : (old : Transaction) (place : ℕ) (was : CachedNode) (left : List Bool) → IsKnown old → get_or (cached_nodes_of old) place None ≡ Some was
    → ((n : ℕ) → mark_by (148 + old.nodes) left n + times_set n was.blocks ≡ mark_by (148 + old.nodes) old.places n + times_set n (take 0 was.blocks)) → AreMarked (148 + old.nodes) left was.fields.run_sectors
numbers_marked old place was left known there marks n = omega (arith, marks n, named_once old.nodes (mark_by (148 + old.nodes) old.places) (cached_nodes_of old) place was known.cached_nodes there n)

module _ (old new : Transaction) (place : ℕ) (was : CachedNode) (known : IsKnown old) (there : get_or (cached_nodes_of old) place None ≡ Some was) (same : new.nodes ≡ old.nodes) (len : length new.places ≡ length old.places)
    (marks : (n : ℕ) → mark_by (148 + old.nodes) new.places n + (times n was.fields.run_sectors + times_set n was.blocks) ≡ mark_by (148 + old.nodes) old.places n) (cached_nodes : cached_nodes_of new ≡ set (cached_nodes_of old) place None)
    (put : (image : Image) → IsSectorPut (applied old.updates image) (applied new.updates image) (148 + place) (replicate 4096 0)) where
  abbrev first : ℕ
  first = 148 + old.nodes

  within : place < old.nodes
  within = in_table old.nodes (mark_by first old.places) (cached_nodes_of old) place was known.cached_nodes there

  pub free_stays : StaysKnown old new
  free_stays =
      let each = each_mark first new.places 0 in
      let left = one_cached_change old.nodes (mark_by first old.places) (mark_by first new.places) (cached_nodes_of old) place None within known.cached_nodes tt tt
      (record { marks = λ n. omega (arith, marks n, ap (namings_of n) there, named_by-parts n was, named-none n); once = λ n. each.once n; behind = λ n. each.behind n }) in
      stays_put old new (148 + place) known (subst (λ (l : List (Option CachedNode)). AreCached old.nodes (mark_by first new.places) l) (sym cached_nodes) left) same len (omega arith) (omega (arith, within))
      (λ image n off. elsewhere (applied old.updates image) (applied new.updates image) (148 + place) (replicate 4096 0) (put image) n off)

  pub free_made : (base : Image) (size : ℕ) → MakesOver base size old new (DropNode was.fields.number)
  free_made base size transaction =
      let each = each_mark first new.places 0 in
      let freed = free_node old.nodes (image_of base old) (image_of base new) (mark_by first old.places) (mark_by first new.places) (cached_nodes_of old) place was (record {
        within = within;
        there = there;
        laid = transaction.laid;
        vacated = here (image_of base old) (image_of base new) (148 + place) (replicate 4096 0) (put base) ∙ zeros-are;
        own = record {
          others = λ n low off was_none is_none. elsewhere (image_of base old) (image_of base new) (148 + place) (replicate 4096 0) (put base) n off;
          marks = λ n. omega (arith, marks n, named_by-parts n was, named-none n);
          once = λ n. each.once n;
          behind = λ n. each.behind n;
        };
      }) in
      made base size old new place None (DropNode was.fields.number) transaction same len cached_nodes freed.laid freed.tree_is
