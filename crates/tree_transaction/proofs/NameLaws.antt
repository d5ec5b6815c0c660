-- A name that is put, as one edit.
use Rattle.std.proofs.Common.{◌≡◌, ◌≢◌, ◌≤◌, ◌<◌, ◌+◌, ℕ, zero, suc, Bool, List, [], ◌∷◌, ◌++◌, Option, Some, None, length, get_or, max, refl, sym, ap, ◌∙◌, arith, subst, eq-eqb, ne_eqb, inl, inr}
use Rattle.std.proofs.lemmas.Bool.{cases_eq}
use Rattle.std.proofs.lemmas.List.{length-append}
use Rattle.disk.specs.Moments.{Image, applied}
use Rattle.disk.specs.declared.update.Update.{Update}
use Rattle.freemap.specs.Kept.{free_places}
use Rattle.directory.specs.declared.names.TheConstants.Names.{MAX_NAMES}
use Rattle.directory.specs.Listing.{by_stamp}
use Rattle.directory.specs.Records.{Record, IsDirectory, NamesStamped, with_record, record_from, place_of}
use Rattle.directory.specs.Encoding.{directory_sector}
use Rattle.directory.proofs.Places.{with_record-push}
use Rattle.inode.specs.Fields.{Fields}
use Rattle.extents.specs.Runs.{AreRunsOf}
use Rattle.model_tree.specs.declared.node.NodeKind.{NodeKind}
use Rattle.model_tree.specs.declared.node.NodeKind.TheVariants as kind
use Rattle.model_tree.specs.Trees.Charge.{blocks_of, charge_of_blocks}
use Rattle.model_tree.specs.Trees.Edit.{PutName}
use Rattle.model_tree.specs.Trees.Keyed.{at, with}
use Rattle.model_tree.specs.Trees.Tree.{entry_of}
use Rattle.layout.specs.CachedNodes.{CachedNode, content_at}
use Rattle.layout.specs.Directories.{block_put}
use Rattle.layout.specs.Known.{IsCached, HasNames}
use Rattle.layout.specs.Laid.{HoldsNames, HoldsContent, names_of_block}
use Rattle.layout.specs.Marks.{times, times_set, mark_by}
use Rattle.layout.specs.NodeEdits.{AreDirectories}
use Rattle.layout.proofs.DirectoryLaws.{puts_stamped}
use Rattle.layout.proofs.Frame.{content-kept}
use Rattle.layout.proofs.MarkProofs.{mark-prefix}
use Rattle.layout.proofs.NodeEditLaws.{put_one_name}
use Rattle.node_table.specs.Tables.{charge_of, charge_of_all}
use Rattle.tree_transaction.specs.Blocks.{HaveRegion, GetSectors, WritesOne, set_blocks}
use Rattle.tree_transaction.specs.declared.transaction.Transaction.{Transaction}
use Rattle.tree_transaction.specs.Transactions.{cached_nodes_of, image_of, IsKnown, StaysKnown, MakesOver, StandsAgain}
use Rattle.tree_transaction.specs.Transactions.{HasNow}
use Rattle.tree_transaction.specs.Laying.{CanBeLaid, IsRerun, sectors_for}
use Rattle.tree_transaction.specs.Naming.{CanName, renamed, with_name, blocks_named}
use Rattle.tree_transaction.specs.Written.{HasItsRuns}
use Rattle.tree_transaction.proofs.BackLaws.{charged, IsMoved, stays, has_now, kept, makes, steps, shows_same, shows_sized}
use Rattle.tree_transaction.proofs.CountLaws.{few_numbers, set_most}
use Rattle.tree_transaction.proofs.KnownLaws.{same_cached, in_table, cached_at, named_once, held_at, directory_known, directory_blocks, content_of_directory, fields_fit}

-- a stamp that is no key is no record's
stamp-new : (names : List Record) (stamp : ℕ) → at stamp names ≡ None → (i : ℕ) (d : Record) → i < length names → (get_or names i d).0 ≢ stamp
stamp-new [] stamp none i d h = absurd (omega arith)
stamp-new (entry ∷ names) stamp none i d h = elim (cases_eq stamp entry.0) [
  | inl e ↦ absurd (let some : at stamp (entry ∷ names) ≡ Some entry.1 = rw (eq-eqb stamp entry.0 e) refl in let no : Some entry.1 ≡ None = sym some ∙ none in cc)
  | inr off ↦
      let rest : at stamp names ≡ None = (let same : at stamp (entry ∷ names) ≡ at stamp names = rw (ne_eqb stamp entry.0 off) refl in sym same ∙ none) in
      elim i as (λ (k : ℕ). k < length (entry ∷ names) → (get_or (entry ∷ names) k d).0 ≢ stamp) [ zero ↦ (λ l e. off (sym e)) | suc k ↦ (λ l. stamp-new names stamp rest k d (omega arith)) ] h
]

-- the directory's cached node with these names and blocks
abbrev pub named_cached : CachedNode → List (Option ℕ) → List Record → CachedNode
named_cached cached_node blocks names = record cached_node { fields = record cached_node.fields { size = length names }; blocks = blocks; names = names }

-- the runs of so small a number of blocks are in one sector
pub few_runs : (blocks : List (Option ℕ)) (count : ℕ) → length blocks ≡ blocks_of kind.Directory count → count ≤ MAX_NAMES → sectors_for (set_blocks blocks) ≤ 1
few_runs blocks count long few = omega (arith, long, set_most blocks)

-- a directory whose blocks and names have changed, with its runs rewritten
module _ (old : Transaction) (place : ℕ) (was : CachedNode) (known : IsKnown old) (there : get_or (cached_nodes_of old) place None ≡ Some was) (directory : was.fields.kind ≡ kind.Directory) where
  abbrev first : ℕ
  first = 148 + old.nodes

  pub directory_is : IsCached was
  directory_is = cached_at old.nodes (mark_by first old.places) (cached_nodes_of old) place was known.cached_nodes there

  pub names_here : HasNames was
  names_here = directory_known was directory_is directory

  pub blocks_here : length was.blocks ≡ blocks_of kind.Directory (length was.names)
  blocks_here = directory_blocks was directory_is directory

  pub named_here : (n : ℕ) → times n was.fields.run_sectors + times_set n was.blocks ≤ mark_by first old.places n
  named_here = named_once old.nodes (mark_by first old.places) (cached_nodes_of old) place was known.cached_nodes there

  pub region_here : HaveRegion first old.places was.blocks
  region_here = record {
    room = known.small;
    marked = λ n. omega (arith, named_here n);
    few = (let names = names_here in let is = names.names in omega (arith, is.few, blocks_here));
  }

  pub can_lay_names : (mid_places : List Bool) (blocks : List (Option ℕ)) (names : List Record) → length mid_places ≡ length old.places → length names ≤ MAX_NAMES
      → ((n : ℕ) → times n was.fields.run_sectors ≤ mark_by first mid_places n) → CanBeLaid old.nodes place mid_places (named_cached was blocks names)
  can_lay_names mid_places blocks names len few marked = record {
    room = omega (arith, known.small, len);
    within = in_table old.nodes (mark_by first old.places) (cached_nodes_of old) place was known.cached_nodes there;
    fits = (let is = directory_is in fields_fit was.form was.fields (length names) is.fits (omega arith));
    marked = marked;
  }

  -- over the same blocks its runs are those that it had
  pub same_runs : (blocks : List (Option ℕ)) (names : List Record) → blocks ≡ was.blocks → length blocks ≡ blocks_of kind.Directory (length names) → IsDirectory names → NamesStamped names → HasItsRuns place (named_cached was blocks names)
  same_runs blocks names alike count are_names stamped =
      let is = directory_is in
      let fits = is.fits in
      let within = in_table old.nodes (mark_by first old.places) (cached_nodes_of old) place was known.cached_nodes there in
      record {
        is_cached = record {
          fits = record {
            number = fits.number;
            owner = fits.owner;
            group = fits.group;
            change = fits.change;
            time_modify = fits.time_modify;
            size = omega (arith, are_names.few);
            runs = fits.runs;
            run_sectors = fits.run_sectors;
            each_run_sector = fits.each_run_sector;
            acl = fits.acl;
            each_ace = fits.each_ace;
          };
          number = is.number;
          each_run = is.each_run;
          run_count = is.run_count;
          runs = subst (AreRunsOf was.runs) (sym alike) is.runs;
          blocks = count ∙ sym (ap (λ (k : NodeKind). blocks_of k (length names)) directory);
          content = content_of_directory (named_cached was blocks names) directory (record { count = refl; names = are_names; stamped = stamped });
        };
        apart = omega (arith, within, named_here (148 + place), mark-prefix first old.places (148 + place));
      }

  module _ (new : Transaction) (blocks : List (Option ℕ)) (names : List Record) (mid_places : List Bool) (mid_updates : List Update) (are_names : IsDirectory names) (stamped : NamesStamped names) (moved : IsMoved old was (named_cached was blocks names) mid_places mid_updates)
      (back : StandsAgain old new place (named_cached was blocks names) mid_places mid_updates) where
    abbrev is : CachedNode
    is = back.is

    rerun : IsRerun (named_cached was blocks names) is
    rerun = back.rerun

    is_directory : is.fields.kind ≡ kind.Directory
    is_directory = ap (λ (f : Fields). f.kind) rerun.fields ∙ directory

    size_now : length is.names ≡ is.fields.size
    size_now = ap length rerun.names ∙ sym (ap (λ (f : Fields). f.size) rerun.fields)

    pub named_stays : StaysKnown old new
    named_stays = stays old new place was (named_cached was blocks names) mid_places mid_updates known there moved back
        (content_of_directory is is_directory (record { count = size_now; names = subst IsDirectory (sym rerun.names) are_names; stamped = subst NamesStamped (sym rerun.names) stamped }))

    pub named_now : HasNow old new place (renamed was names)
    named_now = has_now old new place was (named_cached was blocks names) mid_places mid_updates known there moved back (renamed was names) refl refl refl

    pub directories : (base : Image) → HoldsNames (image_of base old) was → AreDirectories (image_of base old) was is
    directories base holds = record {
      was_directory = directory;
      is_directory = is_directory;
      held = holds;
      names = subst IsDirectory (sym rerun.names) are_names;
      size = sym size_now;
      shows = shows_same old new place was (named_cached was blocks names) mid_places mid_updates known there moved back (shows_sized was.fields (length names));
    }

    pub still : (base : Image) (i : ℕ) → content_at (image_of base new) (get_or is.blocks i None) ≡ content_at (applied mid_updates base) (get_or blocks i None)
    still base i =
        content-kept (applied mid_updates base) (image_of base new) is.blocks (kept old new place was (named_cached was blocks names) mid_places mid_updates known there moved back base) (get_or is.blocks i None) i refl
        ∙ ap (λ (b : List (Option ℕ)). content_at (applied mid_updates base) (get_or b i None)) rerun.blocks

module _ (old : Transaction) (place : ℕ) (was : CachedNode) (name : List ℕ) (stamp number : ℕ) (known : IsKnown old) (there : get_or (cached_nodes_of old) place None ≡ Some was) (can : CanName (cached_nodes_of old) place name stamp) where
  abbrev entry : Record
  entry = record_from stamp name number

  same : can.cached ≡ was
  same = same_cached (cached_nodes_of old) place can.cached was can.there there

  pub directory : was.fields.kind ≡ kind.Directory
  directory = ap (λ (one : CachedNode). one.fields.kind) (sym same) ∙ can.directory

  few : length was.names < MAX_NAMES
  few = let e = ap (λ (one : CachedNode). length one.names) same in omega (arith, e, can.few)

  pub is_new : place_of name was.names ≡ length was.names
  is_new = subst (λ (one : CachedNode). place_of name one.names ≡ length one.names) same
      can.new_name.0

  pub unnamed : entry_of name was.names ≡ None
  unnamed = subst (λ (one : CachedNode). entry_of name one.names ≡ None) same can.new_name.1

  pub unused : at stamp was.names ≡ None
  unused = subst (λ (one : CachedNode). at stamp one.names ≡ None) same can.new_stamp

  pub stamped_was : NamesStamped was.names
  stamped_was = let here = names_here old place was known there directory in here.stamped

  pub named_region : HaveRegion (148 + old.nodes) old.places was.blocks
  named_region = region_here old place was known there directory

  abbrev block : ℕ
  block = block_put was.names entry

  pub block_within : (block ≤ length was.blocks) × (block < 4096)
  block_within = (omega (arith, blocks_here old place was known there directory, is_new), omega (arith, is_new, few))

  -- no sector was free for its block
  pub named_first : free_places old.places + set_blocks was.blocks < max (length was.blocks) (block + 1) → length old.places + charge_of was < charge_of_all (cached_nodes_of old) + charge_of_blocks (blocks_named was)
  named_first full =
      let all = charged old place was known there old.places was.blocks (λ n. refl) in
      omega (arith, all, few_numbers was (directory_is old place was known there directory), blocks_here old place was known there directory, is_new)

  module _ (names : List Record) (are : names ≡ with_record was.names entry) where
    pub pushed : names ≡ was.names ++ entry ∷ []
    pushed = are ∙ with_record-push was.names entry (omega (arith, is_new))

    longer : length names ≡ length was.names + 1
    longer = ap length pushed ∙ length-append was.names (entry ∷ [])

    stamped : NamesStamped names
    stamped = let here = names_here old place was known there directory in subst NamesStamped (sym pushed) (puts_stamped was.names entry here.stamped can.above (stamp-new was.names entry.0 unused))

    module _ (blocks : List (Option ℕ)) (mid_places : List Bool) (mid_updates : List Update) (gets : GetSectors (148 + old.nodes) old.places mid_places was.blocks blocks)
        (writes : (image : Image) → WritesOne (applied old.updates image) (applied mid_updates image) was.blocks blocks block (directory_sector (names_of_block block names))) where
      counted : length blocks ≡ blocks_of kind.Directory (length names)
      counted = let one = writes (λ n. []) in omega (arith, one.count, blocks_here old place was known there directory, longer, is_new)

      pub can_be_named : CanBeLaid old.nodes place mid_places (named_cached was blocks names)
      can_be_named = can_lay_names old place was known there directory mid_places blocks names gets.len (omega (arith, longer, few)) (λ n. omega (arith, named_here old place was known there directory n, gets.marks n, gets.more n))

      pub named_few : sectors_for (set_blocks blocks) ≤ 1
      named_few = few_runs blocks (length names) counted (omega (arith, longer, few))

      -- no sector was free for its runs
      pub named_last : free_places mid_places + length was.fields.run_sectors < sectors_for (set_blocks blocks) → length old.places + charge_of was < charge_of_all (cached_nodes_of old) + charge_of_blocks (blocks_named was)
      named_last full =
          let all = charged old place was known there mid_places blocks gets.marks in
          omega (arith, all, gets.len, set_most blocks, counted, longer)

      -- no block got a sector
      pub named_runs : IsDirectory names → blocks ≡ was.blocks → HasItsRuns place (named_cached was blocks names)
      named_runs are_names alike = same_runs old place was known there directory blocks names alike counted are_names stamped

      module _ (new : Transaction) (are_names : IsDirectory names) (back : StandsAgain old new place (named_cached was blocks names) mid_places mid_updates) where
        moved : IsMoved old was (named_cached was blocks names) mid_places mid_updates
        moved = record {
          number = refl;
          run_sectors = refl;
          runs = refl;
          count = counted ∙ sym (ap (λ (k : NodeKind). blocks_of k (length names)) directory);
          marks = gets.marks;
          len = gets.len;
          others = λ image n none again. let one = writes image in one.others n again;
        }

        pub put_stays : StaysKnown old new
        put_stays = named_stays old place was known there directory new blocks names mid_places mid_updates are_names stamped moved back

        pub put_now : HasNow old new place (with_name entry was)
        put_now = subst (λ (l : List Record). HasNow old new place (renamed was l)) are (named_now old place was known there directory new blocks names mid_places mid_updates are_names stamped moved back)

        pub put_made : (base : Image) (size : ℕ) → by_stamp names ≡ with (by_stamp was.names) entry.0 entry.1 → MakesOver base size old new (PutName was.fields.number entry.0 entry.1)
        put_made base size map_is transaction =
            let is : CachedNode = back.is in
            let rerun : IsRerun (named_cached was blocks names) is = back.rerun in
            let held = held_at old.nodes (image_of base old) (mark_by (148 + old.nodes) old.places) (cached_nodes_of old) place was transaction.laid there in
            let holds : HoldsNames (image_of base old) was = subst (λ (k : NodeKind). HoldsContent (image_of base old) k was) directory held.content in
            let unmoved = still old place was known there directory new blocks names mid_places mid_updates are_names stamped moved back base in
            let one = writes base in
            let encoded : content_at (image_of base new) (get_or is.blocks block None) ≡ directory_sector (names_of_block block is.names) =
            unmoved block ∙ one.here ∙ ap (λ (n : List Record). directory_sector (names_of_block block n)) (sym rerun.names) in
            makes old new place was (named_cached was blocks names) mid_places mid_updates known there moved back base size (PutName was.fields.number entry.0 entry.1) transaction
            (put_one_name old.nodes (image_of base old) (image_of base new) (mark_by (148 + old.nodes) old.places) (mark_by (148 + old.nodes) new.places) (cached_nodes_of old) place was is entry
            (steps old new place was (named_cached was blocks names) mid_places mid_updates known there moved back base transaction.laid)
            (record {
              directories = directories old place was known there directory new blocks names mid_places mid_updates are_names stamped moved back base holds;
              stamped = subst NamesStamped (sym rerun.names) stamped;
              names = rerun.names ∙ are;
              blocks = record {
                kept = λ i off again h. let keeps = one.kept i off (let long = ap length rerun.blocks in omega arith) in (keeps.0, unmoved i ∙ keeps.1);
                one_is = λ h. encoded;
                other_is = λ h. encoded;
              };
              map_is = ap by_stamp rerun.names ∙ map_is;
            }))
