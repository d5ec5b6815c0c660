-- A name that is removed, as one edit.
use Rattle.std.proofs.Common.{◌≡◌, ◌≢◌, ◌≤◌, ◌<◌, ◌+◌, ◌-◌, ◌/◌, ℕ, Bool, List, [], Option, Some, None, length, get_or, set, take, refl, sym, ap, ◌∙◌, arith, subst, inl, inr}
use Rattle.std.proofs.lemmas.Bool.{cases_eq}
use Rattle.std.proofs.lemmas.List.{length-take, length-set, get_or-take, take_all}
use Rattle.disk.specs.Moments.{Image, applied}
use Rattle.disk.specs.declared.update.Update.{Update}
use Rattle.directory.specs.declared.names.TheConstants.Names.{MAX_NAMES}
use Rattle.directory.specs.Listing.{by_stamp}
use Rattle.directory.specs.Records.{Record, record_from, IsDirectory, NamesStamped, without_place, place_of}
use Rattle.directory.specs.Encoding.{directory_sector}
use Rattle.model_tree.specs.declared.node.NodeKind.{NodeKind}
use Rattle.model_tree.specs.declared.node.NodeKind.TheVariants as kind
use Rattle.model_tree.specs.Trees.Charge.{blocks_of}
use Rattle.model_tree.specs.Trees.Edit.{DropName}
use Rattle.model_tree.specs.Trees.Keyed.{without}
use Rattle.model_tree.specs.Trees.Tree.{entry_of}
use Rattle.layout.specs.CachedNodes.{CachedNode, content_at}
use Rattle.layout.specs.Directories.{RewritesBlocks, block_of}
use Rattle.layout.specs.Laid.{HoldsNames, HoldsContent, names_of_block}
use Rattle.layout.specs.Marks.{times_set, mark_by}
use Rattle.layout.proofs.DirectoryLaws.{no_holes, stays_stamped}
use Rattle.layout.proofs.Frame.{times_set-at}
use Rattle.layout.proofs.MarkProofs.{each_mark}
use Rattle.layout.proofs.NodeEditLaws.{drop_one_name}
use Rattle.layout.proofs.StepLaws.{each_own, each_change}
use Rattle.tree_transaction.specs.Blocks.{set_blocks}
use Rattle.tree_transaction.specs.declared.transaction.Transaction.{Transaction}
use Rattle.tree_transaction.specs.Transactions.{cached_nodes_of, image_of, IsKnown, StaysKnown, MakesOver, StandsAgain}
use Rattle.tree_transaction.specs.Transactions.{MakesEdit}
use Rattle.tree_transaction.specs.Transactions.{HasNow}
use Rattle.tree_transaction.specs.Laying.{CanBeLaid, HasEnough, IsRerun, sectors_for}
use Rattle.tree_transaction.specs.Naming.{HasNameAt, DropsNamed, Rewrites, renamed, without_name}
use Rattle.tree_transaction.specs.Written.{HasItsRuns}
use Rattle.tree_transaction.proofs.BackLaws.{IsMoved, makes, steps}
use Rattle.tree_transaction.proofs.KnownLaws.{same_cached, held_at}
use Rattle.tree_transaction.proofs.NameLaws.{named_cached, directory_is, names_here, blocks_here, named_here, can_lay_names, few_runs, same_runs, named_stays, named_now, directories, still}
use Rattle.tree_transaction.proofs.RunLaws.{enough}

-- ---- two blocks of a list are written again

module _ (old mid new : Image) (blocks : List (Option ℕ)) (one other : ℕ) (content : ℕ → List ℕ) (once : (n : ℕ) → times_set n blocks ≤ 1)
    (first : Rewrites old mid (get_or blocks one None) (content one)) (second : Rewrites mid new (get_or blocks other None) (content other)) where
  -- only one block has a sector
  elsewhere : (i j n : ℕ) → i ≢ j → get_or blocks i None ≡ Some n → get_or blocks j None ≢ Some n
  elsewhere i j n off at = let own = each_own blocks n in own.once (once n) i at j (λ e. off (sym e))

  kept-at : (block : Option ℕ) (i : ℕ) → i ≢ one → i ≢ other → get_or blocks i None ≡ block → content_at new block ≡ content_at old block
  kept-at None i off far at = refl
  kept-at (Some n) i off far at = second.others n (elsewhere i other n far at) ∙ first.others n (elsewhere i one n off at)

  pub block_kept : (i : ℕ) → i ≢ one → i ≢ other → content_at new (get_or blocks i None) ≡ content_at old (get_or blocks i None)
  block_kept i off far = kept-at (get_or blocks i None) i off far refl

  one-at : (n : ℕ) → get_or blocks one None ≡ Some n → new n ≡ content one
  one-at n at = elim (cases_eq one other) [
    | inl e ↦ second.here n (subst (λ (i : ℕ). get_or blocks i None ≡ Some n) e at) ∙ ap content (sym e)
    | inr off ↦ second.others n (elsewhere one other n off at) ∙ first.here n at
  ]

  set-at : (block : Option ℕ) (bytes : List ℕ) → block ≢ None → ((n : ℕ) → block ≡ Some n → new n ≡ bytes) → content_at new block ≡ bytes
  set-at None bytes some is = absurd (some refl)
  set-at (Some n) bytes some is = is n refl

  pub one_written : get_or blocks one None ≢ None → content_at new (get_or blocks one None) ≡ content one
  one_written some = set-at (get_or blocks one None) (content one) some one-at

  pub other_written : get_or blocks other None ≢ None → content_at new (get_or blocks other None) ≡ content other
  other_written some = set-at (get_or blocks other None) (content other) some second.here

-- ---- the directory

module _ (old : Transaction) (place : ℕ) (was : CachedNode) (name : List ℕ) (known : IsKnown old) (there : get_or (cached_nodes_of old) place None ≡ Some was) (has : HasNameAt (cached_nodes_of old) place name) where
  abbrev first : ℕ
  first = 148 + old.nodes

  abbrev at : ℕ
  at = place_of name was.names

  same : has.cached ≡ was
  same = same_cached (cached_nodes_of old) place has.cached was has.there there

  pub directory : was.fields.kind ≡ kind.Directory
  directory = ap (λ (one : CachedNode). one.fields.kind) (sym same) ∙ has.directory

  pub within : at < length was.names
  within = subst (λ (one : CachedNode). place_of name one.names < length one.names) same has.within

  pub stamped_was : NamesStamped was.names
  stamped_was = let here = names_here old place was known there directory in here.stamped

  pub few_names : length was.names ≤ MAX_NAMES
  few_names = let here = names_here old place was known there directory in let is = here.names in is.few

  module _ (names : List Record) (are : names ≡ without_place was.names at) where
    pub shorter : length names + 1 ≡ length was.names
    shorter =
        let none = record_from 0 [] 0 in
        let moved = set was.names at (get_or was.names (length was.names - 1) none) in
        omega (arith, ap length are, length-take (length was.names - 1) moved, length-set was.names at (get_or was.names (length was.names - 1) none), within)

    abbrev count : ℕ
    count = blocks_of kind.Directory (length names)

    abbrev blocks : List (Option ℕ)
    blocks = take count was.blocks

    counted : length blocks ≡ count
    counted = omega (arith, length-take count was.blocks, blocks_here old place was known there directory, shorter)

    stamped_now : NamesStamped names
    stamped_now = subst NamesStamped (sym are) (stays_stamped was.names at within stamped_was)

    -- no block is freed
    pub drop_runs : length was.blocks ≤ count → IsDirectory names → HasItsRuns place (named_cached was blocks names)
    drop_runs long are_names = same_runs old place was known there directory blocks names (take_all count was.blocks long) counted are_names stamped_now

    pub drop_few : sectors_for (set_blocks blocks) ≤ 1
    drop_few = few_runs blocks (length names) counted (omega (arith, shorter, few_names))

    module _ (mid_places : List Bool) (marks : (n : ℕ) → mark_by first mid_places n + times_set n was.blocks ≡ mark_by first old.places n + times_set n blocks) (len : length mid_places ≡ length old.places) where
      pub drop_can : CanBeLaid old.nodes place mid_places (named_cached was blocks names)
      drop_can = can_lay_names old place was known there directory mid_places blocks names len (omega (arith, shorter, few_names)) (λ n. omega (arith, marks n, named_here old place was known there directory n))

      pub drop_enough : HasEnough (named_cached was blocks names)
      drop_enough = enough was (named_cached was blocks names) count (directory_is old place was known there directory) refl refl

      once : (n : ℕ) → times_set n blocks ≤ 1
      once n =
          let each = each_mark first old.places 0 in
          let change = each_change n was.blocks in
          omega (arith, named_here old place was known there directory n, each.once n, change.cut count)

      module _ (new : Transaction) (mid_updates next_updates : List Update) (are_names : IsDirectory names)
          (one : (image : Image) → Rewrites (applied old.updates image) (applied mid_updates image) (get_or blocks (at / 15) None) (directory_sector (names_of_block (at / 15) names)))
          (other : (image : Image) → Rewrites (applied mid_updates image) (applied next_updates image) (get_or blocks (length names / 15) None) (directory_sector (names_of_block (length names / 15) names)))
          (back : StandsAgain old new place (named_cached was blocks names) mid_places next_updates) where
        -- no other sector is written
        unnamed : (i n : ℕ) → times_set n blocks ≡ 0 → get_or blocks i None ≢ Some n
        unnamed i n none is = let some = times_set-at blocks i n is in omega arith

        moved : IsMoved old was (named_cached was blocks names) mid_places next_updates
        moved = record {
          number = refl;
          run_sectors = refl;
          runs = refl;
          count = counted ∙ sym (ap (λ (k : NodeKind). blocks_of k (length names)) directory);
          marks = marks;
          len = len;
          others = λ image n none again.
              let first_one = one image in
              let second = other image in
              second.others n (unnamed (length names / 15) n again) ∙ first_one.others n (unnamed (at / 15) n again);
        }

        pub drop_stays : StaysKnown old new
        drop_stays = named_stays old place was known there directory new blocks names mid_places next_updates are_names stamped_now moved back

        pub drop_now : HasNow old new place (without_name name was)
        drop_now = subst (λ (l : List Record). HasNow old new place (renamed was l)) are (named_now old place was known there directory new blocks names mid_places next_updates are_names stamped_now moved back)

        module _ (base : Image) (holds : HoldsNames (image_of base old) was) where
          abbrev is : CachedNode
          is = back.is

          rerun : IsRerun (named_cached was blocks names) is
          rerun = back.rerun

          abbrev content : ℕ → List ℕ
          content i = directory_sector (names_of_block i names)

          abbrev now : Image
          now = applied next_updates base

          unmoved : (i : ℕ) → content_at (image_of base new) (get_or is.blocks i None) ≡ content_at now (get_or blocks i None)
          unmoved i = still old place was known there directory new blocks names mid_places next_updates are_names stamped_now moved back base i

          stood : (i : ℕ) → i < length blocks → get_or blocks i None ≡ get_or was.blocks i None
          stood i h = get_or-take count was.blocks i None (omega (arith, counted))

          some : (i : ℕ) → i < length blocks → get_or blocks i None ≢ None
          some i h none = no_holes (image_of base old) was.blocks was.names holds.encoded i (omega (arith, length-take count was.blocks)) (sym (stood i h) ∙ none)

          encoded : (i : ℕ) → content_at now (get_or blocks i None) ≡ content i → content_at (image_of base new) (get_or is.blocks i None) ≡ directory_sector (names_of_block i is.names)
          encoded i written = unmoved i ∙ written ∙ ap (λ (n : List Record). directory_sector (names_of_block i n)) (sym rerun.names)

          long : length is.blocks ≡ length blocks
          long = ap length rerun.blocks

          rewritten : RewritesBlocks (image_of base old) (image_of base new) was.blocks is.blocks is.names (at / 15) (length names / 15)
          rewritten = record {
            kept = λ i off far h. (
              omega (arith, long, length-take count was.blocks),
              unmoved i ∙ block_kept (image_of base old) (applied mid_updates base) now blocks (at / 15) (length names / 15) content once (one base) (other base) i off far
                  ∙ ap (content_at (image_of base old)) (stood i (omega (arith, long))),
            );
            one_is = λ h. encoded (at / 15) (one_written (image_of base old) (applied mid_updates base) now blocks (at / 15) (length names / 15) content once (one base) (other base) (some (at / 15) (omega (arith, long))));
            other_is = λ h. encoded (length names / 15)
                (other_written (image_of base old) (applied mid_updates base) now blocks (at / 15) (length names / 15) content once (one base) (other base) (some (length names / 15) (omega (arith, long))));
          }

          last : length names / 15 ≡ block_of (length was.names - 1)
          last = ap (λ (n : ℕ). n / 15) (let e : length names ≡ length was.names - 1 = omega (arith, shorter) in e)

          pub two_rewritten : RewritesBlocks (image_of base old) (image_of base new) was.blocks is.blocks is.names (block_of at) (block_of (length was.names - 1))
          two_rewritten = subst (RewritesBlocks (image_of base old) (image_of base new) was.blocks is.blocks is.names (at / 15)) last rewritten

        pub drop_made : (base : Image) (size stamp : ℕ) → by_stamp names ≡ without (by_stamp was.names) stamp → MakesOver base size old new (DropName was.fields.number stamp)
        drop_made base size stamp map_is transaction =
            let is : CachedNode = back.is in
            let rerun : IsRerun (named_cached was blocks names) is = back.rerun in
            let held = held_at old.nodes (image_of base old) (mark_by first old.places) (cached_nodes_of old) place was transaction.laid there in
            let holds : HoldsNames (image_of base old) was = subst (λ (k : NodeKind). HoldsContent (image_of base old) k was) directory held.content in
            makes old new place was (named_cached was blocks names) mid_places next_updates known there moved back base size (DropName was.fields.number stamp) transaction
            (drop_one_name old.nodes (image_of base old) (image_of base new) (mark_by first old.places) (mark_by first new.places) (cached_nodes_of old) place was is at stamp
            (steps old new place was (named_cached was blocks names) mid_places next_updates known there moved back base transaction.laid)
            (record {
              directories = directories old place was known there directory new blocks names mid_places next_updates are_names stamped_now moved back base holds;
              within = within;
              names = rerun.names ∙ are;
              blocks = two_rewritten base holds;
              map_is = ap by_stamp rerun.names ∙ map_is;
            }))

-- the clause of the cached node at the place
pub dropped : (old new : Transaction) (place : ℕ) (was : CachedNode) (name : List ℕ) → get_or (cached_nodes_of old) place None ≡ Some was
    → ((entry : Record) → entry_of name was.names ≡ Some entry → MakesEdit old new (DropName was.fields.number entry.0)) → DropsNamed old new place name
dropped old new place was name there makes cached_node entry asked found =
    let same : was ≡ cached_node = same_cached (cached_nodes_of old) place was cached_node there asked in
    subst (λ (one : CachedNode). MakesEdit old new (DropName one.fields.number entry.0)) same (makes entry (ap (λ (one : CachedNode). entry_of name one.names) same ∙ found))
