use Rattle.std.proofs.Common.{◌≡◌, ◌<◌, ◌+◌, ◌/◌, ◌∙◌, ℕ, Bool, List, Option, Some, None, length, set, max, ap, sym, subst, arith}
use Rattle.std.specs.Prelude.{Err}
use Rattle.disk.specs.Moments.{Image, applied}
use Rattle.freemap.specs.Kept.{free_places}
use Rattle.directory.specs.Listing.{by_stamp, without_entry}
use Rattle.directory.specs.Records.{Record, NamesStamped, with_record, record_from, place_of}
use Rattle.directory.specs.Encoding.{directory_sector}
use Rattle.model_tree.specs.Trees.Edit.{PutName}
use Rattle.model_tree.specs.Trees.Keyed.{at, with}
use Rattle.model_tree.specs.Trees.Tree.{entry_of}
use Rattle.layout.specs.CachedNodes.{CachedNode}
use Rattle.layout.specs.Laid.{names_of_block}
use Rattle.node_table.specs.Seen.{seen}
use Rattle.tree_transaction.specs.Blocks.{HaveRegion, GetSectors, WritesOne, set_blocks}
use Rattle.tree_transaction.specs.declared.fault.SpaceFault.{SpaceFault}
use Rattle.tree_transaction.specs.declared.fault.SpaceFault.TheVariants as space
use Rattle.tree_transaction.specs.Transactions.{StandsAgain}
use Rattle.tree_transaction.specs.Laying.{CanBeLaid, sectors_for}
use Rattle.tree_transaction.specs.Naming.{with_name, blocks_named}
use Rattle.tree_transaction.specs.Written.{HasItsRuns}
use Rattle.tree_transaction.proofs.FaultLaws.{told}
use Rattle.tree_transaction.proofs.KnownLaws.{put-back, edits, turns, overcharged}
use Rattle.tree_transaction.proofs.NameLaws.{named_cached, unnamed, unused, stamped_was, named_region, block_within, named_first, can_be_named, named_few, named_last, named_runs, put_stays, put_now, put_made}
use Rattle.tree_transaction.proofs.transaction.Transaction.put_name.Goals as goal

pub write_names-requires-clause-region : goal.write_names-requires-clause-region
write_names-requires-clause-region c = subst (λ (one : CachedNode). HaveRegion (148 + c.args.self.now.nodes) c.args.self.now.places one.blocks) (sym c.cached.view_is)
    (named_region c.args.self.now c.args.place c.in_ok-cached.cached c.args.name.now c.args.stamp c.args.number c.requires.known c.in_ok-cached.ensures.cached c.requires.names)

at_block : (place : ℕ) (name : List ℕ) (seen_names : List Record) (was : CachedNode) → place ≡ place_of name seen_names → seen_names ≡ was.names → place / 15 ≡ place_of name was.names / 15
at_block place name seen_names was at same = ap (λ (p : ℕ). p / 15) (at ∙ ap (place_of name) same)

names_of : (cached_node was : CachedNode) → cached_node ≡ was → cached_node.names ≡ was.names
names_of cached_node was same = ap (λ (one : CachedNode). one.names) same

pub write_names-requires-clause-within : goal.write_names-requires-clause-within
write_names-requires-clause-within c =
    let h = block_within c.args.self.now c.args.place c.in_ok-cached.cached c.args.name.now c.args.stamp c.args.number c.requires.known c.in_ok-cached.ensures.cached c.requires.names in
    let long = ap (λ (one : CachedNode). length one.blocks) c.cached.view_is in
    let at = at_block c.in-Ok.at c.args.name.now c.cached.inside.names c.in_ok-cached.cached c.in-Ok.ensures.place (names_of _ _ c.cached.view_is) in
    (omega (arith, h.0, at, long), omega (arith, h.1, at))

pub returns-in_err-filled-clause-full : goal.returns-in_err-filled-clause-full
returns-in_err-filled-clause-full c full =
    let at = at_block c.in-Ok.at c.args.name.now c.cached.inside.names c.in_ok-cached.cached c.in-Ok.ensures.place (names_of _ _ c.cached.view_is) in
    let more = c.in_err-filled.ensures.full (ap (λ (f : SpaceFault). Err f) (told c.from_residual-in_err-filled.result c.in_err-filled.field-0.0 space.Full c.from_residual-in_err-filled.ensures.1 full)) in
    overcharged c.args.self.now c.args.place c.in_ok-cached.cached blocks_named c.in_ok-cached.ensures.cached
    (named_first c.args.self.now c.args.place c.in_ok-cached.cached c.args.name.now c.args.stamp c.args.number c.requires.known c.in_ok-cached.ensures.cached c.requires.names
    (subst (λ (b : ℕ). free_places c.args.self.now.places + set_blocks c.in_ok-cached.cached.blocks < max (length c.in_ok-cached.cached.blocks) (b + 1)) at
    (subst (λ (one : CachedNode). free_places c.args.self.now.places + set_blocks one.blocks < max (length one.blocks) (c.in-Ok.at / 15 + 1)) c.cached.view_is more)))

-- the cached node in memory is the one that was taken out

module _ (was cached_node : CachedNode) (is : cached_node ≡ was) (blocks : List (Option ℕ))
    (names : List Record) where
  cached_is : (size : ℕ) → size ≡ length names → record cached_node { fields = record cached_node.fields { size = size }; blocks = blocks; names = names } ≡ named_cached was blocks names
  cached_is size same =
      ap (λ (one : CachedNode). record one { fields = record one.fields { size = size }; blocks = blocks; names = names }) is
      ∙ ap (λ (n : ℕ). record was { fields = record was.fields { size = n }; blocks = blocks; names = names }) same

  are : (entry : Record) → names ≡ with_record cached_node.names entry → names ≡ with_record was.names entry
  are entry same = same ∙ ap (λ (one : CachedNode). with_record one.names entry) is

  gets : (first : ℕ) (places mid_places : List Bool) → GetSectors first places mid_places cached_node.blocks blocks → GetSectors first places mid_places was.blocks blocks
  gets first places mid_places = subst (λ (one : CachedNode). GetSectors first places mid_places one.blocks blocks) is

  writes : (old mid : Image) (block now : ℕ) → block ≡ now → WritesOne old mid cached_node.blocks blocks block (directory_sector (names_of_block block names)) → WritesOne old mid was.blocks blocks now (directory_sector (names_of_block now names))
  writes old mid block now same one =
      subst (λ (b : ℕ). WritesOne old mid was.blocks blocks b (directory_sector (names_of_block b names))) same
      (subst (λ (c : CachedNode). WritesOne old mid c.blocks blocks block (directory_sector (names_of_block block names))) is one)

pub store_written-requires-clause-can : goal.store_written-requires-clause-can
store_written-requires-clause-can c =
    let old = c.args.self.now in
    let was : CachedNode = c.in_ok-cached.cached in
    let names : List Record = c.put.new.self in
    let blocks : List (Option ℕ) = c.write_names.new.blocks in
    let entry : Record = record_from c.args.stamp c.args.name.now c.args.number in
    let at = at_block c.in-Ok.at c.args.name.now c.cached.inside.names was c.in-Ok.ensures.place (names_of _ _ c.cached.view_is) in
    subst (λ (one : CachedNode). CanBeLaid old.nodes c.args.place c.write_names.new.places one) (sym (cached_is was _ c.cached.view_is blocks names c.len.result c.len.ensures.count))
    (can_be_named old c.args.place was c.args.name.now c.args.stamp c.args.number c.requires.known c.in_ok-cached.ensures.cached c.requires.names names (are was _ c.cached.view_is blocks names entry c.in-Ok.ensures.ok) blocks c.write_names.new.places
    c.write_names.new.updates (gets was _ c.cached.view_is blocks names (148 + old.nodes) old.places c.write_names.new.places c.in_ok-filled.ensures.gets)
    (λ image. writes was _ c.cached.view_is blocks names (applied old.updates image) (applied c.write_names.new.updates image) (c.in-Ok.at / 15) (place_of c.args.name.now was.names / 15) at (c.in_ok-filled.ensures.names image)))

pub store_written-requires-clause-same : goal.store_written-requires-clause-same
store_written-requires-clause-same c none =
    let old = c.args.self.now in
    let was : CachedNode = c.in_ok-cached.cached in
    let names : List Record = c.put.new.self in
    let blocks : List (Option ℕ) = c.write_names.new.blocks in
    let entry : Record = record_from c.args.stamp c.args.name.now c.args.number in
    let at = at_block c.in-Ok.at c.args.name.now c.cached.inside.names was c.in-Ok.ensures.place (names_of _ _ c.cached.view_is) in
    subst (HasItsRuns c.args.place) (sym (cached_is was _ c.cached.view_is blocks names c.len.result c.len.ensures.count))
    (named_runs old c.args.place was c.args.name.now c.args.stamp c.args.number c.requires.known c.in_ok-cached.ensures.cached c.requires.names names (are was _ c.cached.view_is blocks names entry c.in-Ok.ensures.ok) blocks c.write_names.new.places
    c.write_names.new.updates (gets was _ c.cached.view_is blocks names (148 + old.nodes) old.places c.write_names.new.places c.in_ok-filled.ensures.gets)
    (λ image. writes was _ c.cached.view_is blocks names (applied old.updates image) (applied c.write_names.new.updates image) (c.in-Ok.at / 15) (place_of c.args.name.now was.names / 15) at (c.in_ok-filled.ensures.names image))
    c.len.ensures.names (c.in_ok-filled.ensures.same none ∙ ap (λ (one : CachedNode). one.blocks) c.cached.view_is))

pub returns-in_err-store_written-clause-full : goal.returns-in_err-store_written-clause-full
returns-in_err-store_written-clause-full c full =
    let old = c.args.self.now in
    let was : CachedNode = c.in_ok-cached.cached in
    let names : List Record = c.put.new.self in
    let blocks : List (Option ℕ) = c.write_names.new.blocks in
    let entry : Record = record_from c.args.stamp c.args.name.now c.args.number in
    let at = at_block c.in-Ok.at c.args.name.now c.cached.inside.names was c.in-Ok.ensures.place (names_of _ _ c.cached.view_is) in
    let more = c.in_err-store_written.ensures.full (ap (λ (f : SpaceFault). Err f) (told c.from_residual-in_err-store_written.result c.in_err-store_written.field-0.0 space.Full c.from_residual-in_err-store_written.ensures.1 full)) in
    overcharged old c.args.place was blocks_named c.in_ok-cached.ensures.cached
    (named_last old c.args.place was c.args.name.now c.args.stamp c.args.number c.requires.known c.in_ok-cached.ensures.cached c.requires.names names (are was _ c.cached.view_is blocks names entry c.in-Ok.ensures.ok) blocks c.write_names.new.places
    c.write_names.new.updates (gets was _ c.cached.view_is blocks names (148 + old.nodes) old.places c.write_names.new.places c.in_ok-filled.ensures.gets)
    (λ image. writes was _ c.cached.view_is blocks names (applied old.updates image) (applied c.write_names.new.updates image) (c.in-Ok.at / 15) (place_of c.args.name.now was.names / 15) at (c.in_ok-filled.ensures.names image))
    (subst (λ (one : CachedNode). free_places c.write_names.new.places + length one.fields.run_sectors < sectors_for (set_blocks one.blocks)) (cached_is was _ c.cached.view_is blocks names c.len.result c.len.ensures.count) more))

pub returns-in_err-store_written-clause-count : goal.returns-in_err-store_written-clause-count
returns-in_err-store_written-clause-count c =
    let old = c.args.self.now in
    let was : CachedNode = c.in_ok-cached.cached in
    let names : List Record = c.put.new.self in
    let blocks : List (Option ℕ) = c.write_names.new.blocks in
    let entry : Record = record_from c.args.stamp c.args.name.now c.args.number in
    let at = at_block c.in-Ok.at c.args.name.now c.cached.inside.names was c.in-Ok.ensures.place (names_of _ _ c.cached.view_is) in
    let few = named_few old c.args.place was c.args.name.now c.args.stamp c.args.number c.requires.known c.in_ok-cached.ensures.cached c.requires.names names (are was _ c.cached.view_is blocks names entry c.in-Ok.ensures.ok) blocks c.write_names.new.places
    c.write_names.new.updates (gets was _ c.cached.view_is blocks names (148 + old.nodes) old.places c.write_names.new.places c.in_ok-filled.ensures.gets)
    (λ image. writes was _ c.cached.view_is blocks names (applied old.updates image) (applied c.write_names.new.updates image) (c.in-Ok.at / 15) (place_of c.args.name.now was.names / 15) at (c.in_ok-filled.ensures.names image)) in
    omega (arith, few, c.write_names.ensures.count, c.store_written.ensures.count)

module _ (c : goal.In_ok-store_written) where
  abbrev was : CachedNode
  was = c.in_ok-cached.cached

  abbrev cached_node : CachedNode
  cached_node = seen c.cached.inside.form c.cached.inside.inode c.cached.inside.runs c.cached.inside.blocks c.cached.inside.names

  abbrev names : List Record
  names = c.put.new.self

  abbrev blocks : List (Option ℕ)
  blocks = c.write_names.new.blocks

  abbrev entry : Record
  entry = record_from c.args.stamp c.args.name.now c.args.number

  are_now : names ≡ with_record was.names entry
  are_now = are was cached_node c.cached.view_is blocks names entry c.in-Ok.ensures.ok

  gets_now : GetSectors (148 + c.args.self.now.nodes) c.args.self.now.places c.write_names.new.places was.blocks blocks
  gets_now = gets was cached_node c.cached.view_is blocks names (148 + c.args.self.now.nodes) c.args.self.now.places c.write_names.new.places c.in_ok-filled.ensures.gets

  writes_now : (image : Image) → WritesOne (applied c.args.self.now.updates image) (applied c.write_names.new.updates image) was.blocks blocks (place_of c.args.name.now was.names / 15) (directory_sector (names_of_block (place_of c.args.name.now was.names / 15) names))
  writes_now image =
      let at = at_block c.in-Ok.at c.args.name.now c.cached.inside.names was c.in-Ok.ensures.place (names_of _ _ c.cached.view_is) in
      writes was cached_node c.cached.view_is blocks names (applied c.args.self.now.updates image) (applied c.write_names.new.updates image) (c.in-Ok.at / 15) (place_of c.args.name.now was.names / 15) at (c.in_ok-filled.ensures.names image)

  map_is : by_stamp names ≡ with (by_stamp was.names) c.args.stamp entry.1
  map_is =
      let inside : cached_node.names ≡ was.names = ap (λ (one : CachedNode). one.names) c.cached.view_is in
      let stamped = stamped_was c.args.self.now c.args.place was c.args.name.now c.args.stamp c.args.number c.requires.known c.in_ok-cached.ensures.cached c.requires.names in
      let free = unused c.args.self.now c.args.place was c.args.name.now c.args.stamp c.args.number c.requires.known c.in_ok-cached.ensures.cached c.requires.names in
      let none = unnamed c.args.self.now c.args.place was c.args.name.now c.args.stamp c.args.number c.requires.known c.in_ok-cached.ensures.cached c.requires.names in
      (c.in-Ok.ensures.by_stamp (subst NamesStamped (sym inside) stamped) c.requires.names.above (subst (λ (l : List Record). at c.args.stamp l ≡ None) (sym inside) free)).entries
      ∙ ap (λ (l : List Record). with (without_entry (by_stamp l) (entry_of c.args.name.now l)) c.args.stamp entry.1) inside
      ∙ ap (λ (found : Option Record). with (without_entry (by_stamp was.names) found) c.args.stamp entry.1) none

  back : StandsAgain c.args.self.now c.store_written.new.self c.args.place (named_cached was blocks names) c.write_names.new.places c.write_names.new.updates
  back =
      let stands = c.in_ok-store_written.ensures.stands in
      subst (λ (one : CachedNode). StandsAgain c.args.self.now c.store_written.new.self c.args.place one c.write_names.new.places c.write_names.new.updates)
      (cached_is was cached_node c.cached.view_is blocks names c.len.result c.len.ensures.count)
      (record {
        is = stands.is;
        put = stands.put ∙ ap (λ (l : List (Option CachedNode)). set l c.args.place (Some stands.is)) c.in_ok-cached.ensures.cached_nodes ∙ put-back c.args.self.now.cached_nodes.cached_nodes c.args.place stands.is;
        same = stands.same;
        rerun = stands.rerun;
        follow = stands.follow;
        len = stands.len;
        node = stands.node;
        run_sectors = stands.run_sectors;
        others = stands.others;
      })

pub returns-clause-known : goal.returns-clause-known
returns-clause-known c =
    put_stays c.args.self.now c.args.place (was c) c.args.name.now c.args.stamp c.args.number c.requires.known c.in_ok-cached.ensures.cached c.requires.names (names c) (are_now c) (blocks c) c.write_names.new.places
    c.write_names.new.updates (gets_now c) (writes_now c) c.store_written.new.self c.len.ensures.names (back c)

pub returns-clause-cached_nodes : goal.returns-clause-cached_nodes
returns-clause-cached_nodes c = turns c.args.self.now c.store_written.new.self c.args.place (was c) c.in_ok-cached.ensures.cached (with_name (entry c))
    (put_now c.args.self.now c.args.place (was c) c.args.name.now c.args.stamp c.args.number c.requires.known c.in_ok-cached.ensures.cached c.requires.names (names c) (are_now c) (blocks c) c.write_names.new.places
    c.write_names.new.updates (gets_now c) (writes_now c) c.store_written.new.self c.len.ensures.names (back c))

pub returns-clause-put : goal.returns-clause-put
returns-clause-put c = edits c.args.self.now c.store_written.new.self c.args.place (was c) c.in_ok-cached.ensures.cached (λ to. PutName to c.args.stamp (record { name = c.args.name.now; number = c.args.number }))
    (λ base size. put_made c.args.self.now c.args.place (was c) c.args.name.now c.args.stamp c.args.number c.requires.known c.in_ok-cached.ensures.cached c.requires.names (names c) (are_now c) (blocks c) c.write_names.new.places
    c.write_names.new.updates (gets_now c) (writes_now c) c.store_written.new.self c.len.ensures.names (back c) base size (map_is c))

pub returns-clause-count : goal.returns-clause-count
returns-clause-count c =
    let few = named_few c.args.self.now c.args.place (was c) c.args.name.now c.args.stamp c.args.number c.requires.known c.in_ok-cached.ensures.cached c.requires.names (names c) (are_now c) (blocks c) c.write_names.new.places
    c.write_names.new.updates (gets_now c) (writes_now c) in
    omega (arith, few, c.write_names.ensures.count, c.store_written.ensures.count)
