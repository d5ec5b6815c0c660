use Rattle.std.proofs.Common.{◌≡◌, ◌∙◌, ◌⊎◌, ◌<◌, ◌≤◌, ◌-◌, ◌==◌, ℕ, true, false, inl, inr, length, map, sym, ap, ap₂, arith}
use Rattle.std.specs.Vec.{vec_len}
use Rattle.std.proofs.lemmas.Bool.{lt-ltb, le-ltb}
use Rattle.std.proofs.lemmas.List.{length-map}
use Rattle.directory.specs.Listing.{after, by_stamp}
use Rattle.directory.specs.Records.{IsRecord}
use Rattle.directory.specs.Rest.{rest_of}
use Rattle.layout.specs.CachedNodes.{CachedNode}
use Rattle.model_tree.specs.declared.limits.Limits.{Limits}
use Rattle.model_tree.specs.Trees.Keyed.{Keyed}
use Rattle.model.specs.Operations.ReadDir.{names_after, page_bytes, page_room}
use Rattle.model_tree.specs.Trees.Tree.{DirEntry, names_at}
use Rattle.fs.specs.Views.{fs_of}
use Rattle.fs.specs.Listing.{list_arguments, page_of, page_view, shown_entry}
use Rattle.fs.specs.declared.fault.FsFault.TheVariants as fault
use Rattle.fs.proofs.ListLaws.{each_listed, all, all_shown, list_refused, list_small, list_crowded, list_done}
use Rattle.volume.proofs.ServeLaws.{is_err_of}
use Rattle.wire_attributes.specs.Listed.{entry_view}
use Rattle.fs.proofs.fs.Fs.read_dir.Goals as goal
use Rattle.fs.proofs.fs.Fs.read_dir.Goals.{else-is_empty-via-then-is_empty+else-not-page, else-is_empty-via-else-is_empty}

pub returns-in_err-cached-clause-step : goal.returns-in_err-cached-clause-step
returns-in_err-cached-clause-step g c state now dir_count on =
    let held = (fs_of c.args.self.now).volume in
    let told = is_err_of c.from_residual.result (fault.Status c.in_err-cached.field-0.0) c.from_residual.ensures.1 in
    rw told (list_refused held.limits held.tree c.args.cred.now c.args.listing.directory state now on.is_state (list_arguments c.args.listing dir_count) c.in_err-cached.field-0.0 (c.in_err-cached.ensures.tests dir_count))

pub returns-then-bytes-lt-EMPTY_PAGE-clause-step : goal.returns-then-bytes-lt-EMPTY_PAGE-clause-step
unfolding fs_of
returns-then-bytes-lt-EMPTY_PAGE-clause-step g c state now dir_count on =
    let held = (fs_of c.args.self.now).volume in
    let arguments = list_arguments c.args.listing dir_count in
    let bytes : page_bytes held.limits arguments < 16 = omega (arith, c.min-bytes.ensures, ap (λ (l : Limits). l.transfer_bytes) c.limits.ensures.limits, c.if-bytes-lt-EMPTY_PAGE.true) in
    list_small held.limits held.tree c.args.cred.now c.args.listing.directory state now on.is_state arguments (c.in_ok-cached.ensures.tests dir_count) (lt-ltb (page_bytes held.limits arguments) 16 bytes)

pub fill-requires : goal.fill-requires
fill-requires g c =
    let behind : rest_of c.list_after-names.result ≡ after c.args.listing.cookie (by_stamp c.in_ok-cached.cached.now.names) =
    c.list_after-names.ensures ∙ ap (λ (it : CachedNode). after c.args.listing.cookie (by_stamp it.names)) c.cached.view_is in
    rw behind (each_listed IsRecord c.args.listing.cookie c.in_ok-cached.cached.now.names c.in_ok-cached.ensures.each)

pub returns-then-not-page-clause-step : goal.returns-then-not-page-clause-step
unfolding fs_of
returns-then-not-page-clause-step g c state now dir_count on =
    let held = (fs_of c.args.self.now).volume in
    let listing = c.args.listing in
    let arguments = list_arguments listing dir_count in
    let shows = shown_entry held.limits held.tree c.args.cred.now c.hides_unreadable-hides.result listing.asked.now in
    let bytes : c.min-bytes.result ≡ page_bytes held.limits arguments = omega (arith, c.min-bytes.ensures, ap (λ (l : Limits). l.transfer_bytes) c.limits.ensures.limits) in
    let enough : 16 ≤ page_bytes held.limits arguments = omega (arith, bytes, c.if-bytes-lt-EMPTY_PAGE.false) in
    let behind : rest_of c.list_after-names.result ≡ names_after listing.cookie (names_at held.tree listing.directory) =
    c.list_after-names.ensures ∙ ap (λ (it : CachedNode). after listing.cookie (by_stamp it.names)) c.cached.view_is ∙ ap (names_after listing.cookie) c.in_ok-cached.ensures.names in
    let page = c.in_ok-page.page in
    let metadata : page_view page ≡ page_of (page_room held.limits arguments) (all held.limits held.tree c.args.cred.now listing.directory state now on.is_state arguments) =
    c.in_ok-page.ensures.page ∙ ap₂ (λ (n : ℕ) (names : Keyed DirEntry). page_of (n - 16) (map shows names)) bytes behind
    ∙ ap (page_of (page_room held.limits arguments)) (all_shown held.limits held.tree c.args.cred.now listing.directory state now on.is_state arguments
    c.hides_unreadable-hides.result c.hides_unreadable-hides.ensures (c.in_ok-cached.ensures.tests dir_count)) in
    let count : length (map entry_view page.entries.items) ≡ vec_len page.entries = omega (arith, length-map page.entries.items entry_view, page.entries.ok.0) in
    list_crowded held.limits held.tree c.args.cred.now listing.directory state now on.is_state arguments (c.in_ok-cached.ensures.tests dir_count)
    (le-ltb (page_bytes held.limits arguments) 16 enough) (page_view page) metadata
    (ap (λ (n : ℕ). n == 0) count ∙ sym c.is_empty.ensures ∙ c.if-is_empty.true) c.if-not-page.true

pub returns-clause-step : goal.returns-clause-step
unfolding fs_of
returns-clause-step g c state now dir_count on =
    let held = (fs_of c.args.self.now).volume in
    let listing = c.args.listing in
    let arguments = list_arguments listing dir_count in
    let shows = shown_entry held.limits held.tree c.args.cred.now c.hides_unreadable-hides.result listing.asked.now in
    let bytes : c.min-bytes.result ≡ page_bytes held.limits arguments = omega (arith, c.min-bytes.ensures, ap (λ (l : Limits). l.transfer_bytes) c.limits.ensures.limits) in
    let enough : 16 ≤ page_bytes held.limits arguments = omega (arith, bytes, c.if-bytes-lt-EMPTY_PAGE.false) in
    let behind : rest_of c.list_after-names.result ≡ names_after listing.cookie (names_at held.tree listing.directory) =
    c.list_after-names.ensures ∙ ap (λ (it : CachedNode). after listing.cookie (by_stamp it.names)) c.cached.view_is ∙ ap (names_after listing.cookie) c.in_ok-cached.ensures.names in
    let page = c.in_ok-page.page in
    let metadata : page_view page ≡ page_of (page_room held.limits arguments) (all held.limits held.tree c.args.cred.now listing.directory state now on.is_state arguments) =
    c.in_ok-page.ensures.page ∙ ap₂ (λ (n : ℕ) (names : Keyed DirEntry). page_of (n - 16) (map shows names)) bytes behind
    ∙ ap (page_of (page_room held.limits arguments)) (all_shown held.limits held.tree c.args.cred.now listing.directory state now on.is_state arguments
    c.hides_unreadable-hides.result c.hides_unreadable-hides.ensures (c.in_ok-cached.ensures.tests dir_count)) in
    let count : length (map entry_view page.entries.items) ≡ vec_len page.entries = omega (arith, length-map page.entries.items entry_view, page.entries.ok.0) in
    let some : ((length (map entry_view page.entries.items) == 0) ≡ false) ⊎ (page.is_end ≡ true) =
    elim c.else-is_empty.branch [
      | else-is_empty-via-then-is_empty+else-not-page w ↦ inr w.if-not-page.false
      | else-is_empty-via-else-is_empty w ↦ inl (ap (λ (n : ℕ). n == 0) count ∙ sym c.is_empty.ensures ∙ w.if-is_empty.false)
    ] in
    list_done held.limits held.tree c.args.cred.now listing.directory state now on.is_state arguments (c.in_ok-cached.ensures.tests dir_count)
    (le-ltb (page_bytes held.limits arguments) 16 enough) (page_view page) metadata some
