-- A migration and the end of it, by the transactions that the journal accepts.
use Rattle.std.proofs.Common.{◌≡◌, ◌≤◌, ◌<◌, ◌+◌, ◌*◌, ℕ, zero, suc, List, [], ◌∷◌, Option, None, Some, length, take, inl, inr, refl, sym, ap, ◌∙◌, subst, arith, ⊎_elim}
use Rattle.std.proofs.lemmas.Bool.{cases_eq}
use Rattle.std.proofs.lemmas.List.FromFn.{length-map-range_with_len}
use Rattle.disk.specs.declared.update.Update.{Update}
use Rattle.disk.specs.Calls.{zero_sector}
use Rattle.disk.specs.Moments.{Image, AddsOnly, put, applied}
use Rattle.disk.proofs.MomentLemmas.{AddsOnly-weaken}
use Rattle.journal.specs.Log.{Log, MakesAtMost, StandsForPrefix, applied_all}
use Rattle.journal.specs.Settled.{AreSame}
use Rattle.journal.proofs.Images.{put_same, put_other}
use Rattle.layout.specs.CachedNodes.{CachedNode, node_sector, cached_nodes_in}
use Rattle.layout.specs.Rewriting.{all_second, IsRewritten}
use Rattle.layout.specs.Stands.{By, Version, IsMark, end_of, MayHaveSeats, TreeStands, StandsAs, bare, current_version, version_1, version_2}
use Rattle.layout.specs.declared.versions.VersionNumber.TheVariants as numbers
use Rattle.layout.proofs.FirstLaws.{before_nodes}
use Rattle.layout.proofs.SeatLaws.{no_seats_kept, spare_none, spare_other, version_region}
use Rattle.layout.proofs.MarkProofs.{kept_alone, stands_alone}
use Rattle.layout.proofs.Rewriting.{form_stays, rewritten_stands, rewritten_cached_nodes}
use Rattle.model_tree.specs.Seats.Seats.{no_seats}
use Rattle.model_tree.specs.Trees.Tree.{Tree}
use Rattle.migration.specs.Commits.{AreTransactions, Commits, HasCommitted}
use Rattle.migration.specs.Migrations.{StandsStill, MovesSafely, HasMovedAll, ClearsSafely, HasCleared, transaction_cost}
use Rattle.migration.specs.Plans.{plan, step_at, clearing_updates}
use Rattle.migration.proofs.Transactions.{steps_take}
use Rattle.migration.proofs.Reaching.{Reached, in_all, begins_reached, plan_prefix, plan_reaches, reached_all}

-- If the kept sectors are the same

-- up to the device's end
same_whole : (end size : ℕ) (a b : Image) → end ≡ size → AreSame end a b → AreSame size a b
same_whole end size a b whole same = subst (λ (n : ℕ). AreSame n a b) whole same

module _ (version : Version) (size nodes run : ℕ) (a b : Image) (tree : Tree) (same : AreSame size a b) (stands : TreeStands version size nodes a run tree) where
  behind : (n : ℕ) → 98 ≤ n → n < end_of version size → b n ≡ a n
  behind n above below = sym (same n (inr above, omega (arith, below, stands.region.within)))

  stands_same : TreeStands version size nodes b run tree
  stands_same =
      let region = stands.region in
      stands_alone version size nodes a b run tree stands (sym (same 0 (inl refl, omega (arith, region.some, region.behind, region.inside, region.within)))) behind

  cached_nodes_same : cached_nodes_in nodes b ≡ cached_nodes_in nodes a
  cached_nodes_same = (kept_alone version size nodes a b (cached_nodes_in nodes a) stands.region stands.laid behind).same_cached_nodes

reached_same : (size run : ℕ) (tree : Tree) (cached_nodes : List (Option CachedNode)) (moved : ℕ) (a b : Image) → AreSame size a b
    → Reached size run tree cached_nodes moved a → Reached size run tree cached_nodes moved b
reached_same size run tree cached_nodes moved a b same reached = record {
  mark = reached.mark;
  marked = reached.marked;
  told = reached.told;
  stands = stands_same (version_1 reached.mark) size (length cached_nodes) run a b tree same reached.stands;
  read = reached.read ∙ ap all_second (sym (cached_nodes_same (version_1 reached.mark) size (length cached_nodes) run a b tree same reached.stands));
}

-- The nodes

pub plan_takes : (end : ℕ) (cached_nodes : List (Option CachedNode)) (moved : ℕ) → 148 + length cached_nodes ≤ end → moved ≤ length cached_nodes → AreTransactions end (plan cached_nodes moved)
plan_takes end cached_nodes moved below within = steps_take end cached_nodes moved (in_all (length cached_nodes) moved) 0 below (omega arith)

module _ (keeps_word : Type 0) (moved : ℕ) (cached_nodes : List (Option CachedNode)) (old new : Log) (within : moved ≤ length cached_nodes) where
  pub moves_safely : (keeps_word → AddsOnly (StandsForPrefix old.area old.base (plan cached_nodes moved)) old.history new.history)
      → (keeps_word → MakesAtMost (2 + length (plan cached_nodes moved) * transaction_cost old.area) old new) → keeps_word → MovesSafely moved cached_nodes old new
  moves_safely moments brief word = record {
    moments = λ mark run tree begins.
        let first = begins_reached mark moved run old.size tree cached_nodes old.base begins.marked begins.told begins.stands begins.read within in
        AddsOnly-weaken (StandsForPrefix old.area old.base (plan cached_nodes moved)) (StandsStill 1 old.area old.size (length cached_nodes) run tree) old.history new.history
        (λ image prefix. let there = plan_prefix old.size run tree cached_nodes moved old.base within first prefix.count prefix.within in ∣ record {
          base = applied_all (take prefix.count (plan cached_nodes moved)) old.base;
          settles = prefix.settles;
          stands = there.0;
          number_is = there.1;
        } ∣₁)
        (moments word);
    brief = subst (λ (count : ℕ). MakesAtMost (2 + count * transaction_cost old.area) old new)
        (length-map-range_with_len (step_at cached_nodes moved) 0 (in_all (length cached_nodes) moved)) (brief word);
  }

  pub has_moved_all : old.area.end ≡ old.size → HasCommitted keeps_word (plan cached_nodes moved) old new → keeps_word → HasMovedAll moved cached_nodes old new
  has_moved_all whole has word mark run tree begins =
      let first = begins_reached mark moved run old.size tree cached_nodes old.base begins.marked begins.told begins.stands begins.read within in
      let last = reached_same old.size run tree cached_nodes (length cached_nodes) (applied_all (plan cached_nodes moved) old.base) new.base
      (same_whole old.area.end old.size (applied_all (plan cached_nodes moved) old.base) new.base whole (has.base word))
      (plan_reaches old.size run tree cached_nodes moved old.base within first) in
      record {
        stands = reached_all old.size run tree cached_nodes new.base last;
        cached_nodes = sym last.read ∙ begins.read;
      }

-- The mark

none_kept : (mark : Option ℕ) → MayHaveSeats numbers.Two mark no_seats
none_kept None = tt
none_kept (Some moved) = refl

module _ (mark : Option ℕ) (size nodes run : ℕ) (image : Image) (tree : Tree) (stands : TreeStands (version_2 mark no_seats) size nodes image run tree) where
  abbrev none : Update
  none = record { target = 147; content = zero_sector }

  abbrev without : Image
  without = put image none

  others : (n : ℕ) → (147 ≡ n → ⊥) → without n ≡ image n
  others n other = put_other image none n other

  clears : IsRewritten (version_2 mark no_seats) (current_version no_seats) size nodes run image without
  clears = record {
    sized = stands.sized;
    region = version_region numbers.Two None no_seats size nodes tt stands.sized;
    first = others 0 (λ e. omega arith) ∙ stands.first;
    limits = refl;
    others = record {
      marking = refl;
      data_end = refl;
      roomy = λ place within. inr refl;
      bitmap = λ n low high. others n (λ e. omega arith);
      spare = λ n is. let within = before_nodes n is in let low = within.0 in let high = within.1 in ⊎_elim
          (λ (same : n ≡ 147). put_same image none n (sym same) ∙ sym (spare_none n))
          (λ (other : n ≡ 147 → ⊥). others n (λ e. other (sym e)) ∙ stands.laid.spare n is ∙ (spare_other mark n other ∙ sym (spare_none n)))
          (cases_eq n 147);
      nodes_are = λ place within. others (node_sector place) (λ e. omega arith) ∙ sym (form_stays (version_2 mark no_seats) size nodes run image tree place stands within);
      region = λ n low high. others n (λ e. omega arith);
    };
  }

  cleared_stands : TreeStands (current_version no_seats) size nodes without run tree
  cleared_stands = rewritten_stands (version_2 mark no_seats) (current_version no_seats) size nodes run run image without tree stands (omega arith) stands.counted clears

  cleared_cached_nodes : all_second (cached_nodes_in nodes without) ≡ all_second (cached_nodes_in nodes image)
  cleared_cached_nodes = rewritten_cached_nodes (version_2 mark no_seats) (current_version no_seats) size nodes run run image without tree stands clears

  either_stands : IsMark numbers.Two nodes mark → (c : ℕ) → c ≤ 1
      → (is : StandsAs size nodes (applied_all (take c (clearing_updates ∷ [])) image) run (bare tree)) × (is.version.number ≡ 2)
  either_stands marked zero few = (
    record {
      version = version_2 mark no_seats;
      is_version = By numbers.Two mark no_seats tt marked (none_kept mark);
      keeps = no_seats_kept run;
      stands = stands;
    },
    refl,
  )
  either_stands marked (suc zero) few = (
    record {
      version = current_version no_seats;
      is_version = By numbers.Two None no_seats tt tt tt;
      keeps = no_seats_kept run;
      stands = cleared_stands;
    },
    refl,
  )
  either_stands marked (suc (suc c)) few = absurd (omega arith)

module _ (keeps_word : Type 0) (old new : Log) where
  pub clears_safely : Commits keeps_word (clearing_updates ∷ []) old new → keeps_word → ClearsSafely old new
  clears_safely commits word = record {
    moments = λ mark nodes run tree marked stands.
        AddsOnly-weaken (StandsForPrefix old.area old.base (clearing_updates ∷ [])) (StandsStill 2 old.area old.size nodes run tree) old.history new.history
        (λ image prefix. let there = either_stands mark old.size nodes run old.base tree stands marked prefix.count prefix.within in ∣ record {
          base = applied_all (take prefix.count (clearing_updates ∷ [])) old.base;
          settles = prefix.settles;
          stands = there.0;
          number_is = there.1;
        } ∣₁)
        (commits.moments word);
    brief = let few = commits.brief word in omega (arith, few);
  }

  pub has_cleared : old.area.end ≡ old.size → HasCommitted keeps_word (clearing_updates ∷ []) old new → keeps_word → HasCleared old new
  has_cleared whole has word mark nodes run tree marked stands =
      let there = cleared_stands mark old.size nodes run old.base tree stands in
      let without = applied clearing_updates old.base in
      let same = same_whole old.area.end old.size without new.base whole (has.base word) in
      record {
        stands = stands_same (current_version no_seats) old.size nodes run without new.base tree same there;
        cached_nodes = ap all_second (cached_nodes_same (current_version no_seats) old.size nodes run without new.base tree same there)
            ∙ cleared_cached_nodes mark old.size nodes run old.base tree stands;
      }
