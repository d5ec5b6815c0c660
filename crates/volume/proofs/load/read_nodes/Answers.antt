use Rattle.std.proofs.Common.{◌≡◌, ◌<◌, ◌+◌, ◌∙◌, ℕ, List, Option, sym, ap, subst, arith, true≢false}
use Rattle.std.specs.Prelude.{Err}
use Rattle.node_table.specs.Tables.{AreNumbered, HaveOwnPlaces}
use Rattle.disk.specs.Moments.{Image}
use Rattle.layout.specs.CachedNodes.{CachedNode, cached_nodes_in}
use Rattle.layout.specs.Marks.{mark_by}
use Rattle.layout.specs.Rewriting.{all_second}
use Rattle.layout.specs.Versions.{data_end_by, limits_by}
use Rattle.layout.proofs.SeatLaws.{mark_is_spare, mark_spare}
use Rattle.model_tree.specs.Seats.SeatViews.{seats_view}
use Rattle.model_tree.specs.Trees.Stamp.{stamp}
use Rattle.tree_check.specs.WellFormed.{AreWellFormed}
use Rattle.volume.specs.Refusals.{mount_fault, table_fault}
use Rattle.volume.specs.declared.fault.MountFault.TheVariants as mounts
use Rattle.volume.proofs.LoadLaws.{asked, err_is, found_stands, held_as, held_few, known_second, none_stands, only_damaged, only_same, second_numbered}
use Rattle.volume.proofs.ChangeLaws.{own_places}
use Rattle.volume.proofs.ServeLaws.{is_err_of}
use Rattle.volume.proofs.load.read_nodes.Goals as goal

pub returns-in_err-contents-clause-loaded : goal.returns-in_err-contents-clause-loaded
returns-in_err-contents-clause-loaded g c = rw (is_err_of c.from_residual.result (mount_fault c.in_err-contents.field-0.0) c.from_residual.ensures.1) (tt)

pub returns-in_err-contents-clause-parents : goal.returns-in_err-contents-clause-parents
returns-in_err-contents-clause-parents g c = rw (is_err_of c.from_residual.result (mount_fault c.in_err-contents.field-0.0) c.from_residual.ensures.1) (tt)

pub returns-in_err-table-clause-loaded : goal.returns-in_err-table-clause-loaded
returns-in_err-table-clause-loaded g c = rw (is_err_of c.from_residual-in_err-table.result (table_fault c.in_err-table.field-0.0) c.from_residual-in_err-table.ensures.1) (tt)

pub returns-in_err-table-clause-parents : goal.returns-in_err-table-clause-parents
returns-in_err-table-clause-parents g c = rw (is_err_of c.from_residual-in_err-table.result (table_fault c.in_err-table.field-0.0) c.from_residual-in_err-table.ensures.1) (tt)

pub returns-in_err-contents-clause-damaged : goal.returns-in_err-contents-clause-damaged
returns-in_err-contents-clause-damaged g c = λ k is kept stands.
    let found = c.args.found in
    let image : Image = g.S.Sectors.image (g.S.Sectors.kept c.args.sectors.now) in
    let fault = c.in_err-contents.field-0.0 in
    let told = is_err_of c.from_residual.result (mount_fault fault) c.from_residual.ensures.1 in
    let damaged = only_damaged fault (err_is c.from_residual.result (mount_fault fault) mounts.Damaged told is) in
    let number = c.requires.volume.number in
    let held = held_as found.version found.sectors found.nodes found.run image kept number c.requires.volume.sized (c.requires.base k).first stands in
    c.in_err-contents.ensures.damaged k (ap (λ x. Err x) damaged) held.mark kept.seats (cached_nodes_in found.nodes image) held.marked held.may held.keeps held.stands.laid
    (held_few found.version held.mark kept.seats found.sectors found.nodes found.run image kept.tree number held.stands)

pub from_cached_nodes-requires-clause-numbered : goal.from_cached_nodes-requires-clause-numbered
from_cached_nodes-requires-clause-numbered g c =
    let found = c.args.found in
    let contents = c.in_ok-contents.contents in
    subst AreNumbered (sym c.in_ok-all_second.ensures)
    (second_numbered found.nodes (mark_by (148 + found.nodes) contents.places) contents.cached_nodes.items c.in_ok-contents.ensures.found.known)

pub returns-in_err-table-clause-damaged : goal.returns-in_err-table-clause-damaged
returns-in_err-table-clause-damaged g c = λ k is kept stands.
    let found = c.args.found in
    let contents = c.in_ok-contents.contents in
    let fault = c.in_err-table.field-0.0 in
    let told = is_err_of c.from_residual-in_err-table.result (table_fault fault) c.from_residual-in_err-table.ensures.1 in
    let same = only_same fault (err_is c.from_residual-in_err-table.result (table_fault fault) mounts.Damaged told is) in
    let known = known_second (data_end_by found.version found.sectors) found.nodes contents.cached_nodes.items contents.places c.in_ok-contents.ensures.found.known c.in_ok-contents.ensures.found.end_is in
    c.in_err-table.ensures.same (ap (λ x. Err x) same)
    (subst HaveOwnPlaces (sym c.in_ok-all_second.ensures) (own_places (all_second contents.cached_nodes.items) known.are_cached_nodes.apart))

pub returns-then-not-branch-clause-damaged : goal.returns-then-not-branch-clause-damaged
returns-then-not-branch-clause-damaged g c = λ k is kept stands.
    let found = c.args.found in
    let image : Image = g.S.Sectors.image (g.S.Sectors.kept c.args.sectors.now) in
    let contents = c.in_ok-contents.contents in
    let cached_nodes : List (Option CachedNode) = contents.cached_nodes.items in
    let table : c.in_ok-table.table ≡ all_second cached_nodes = c.in_ok-table.ensures.table ∙ c.in_ok-all_second.ensures in
    let held = held_as found.version found.sectors found.nodes found.run image kept c.requires.volume.number c.requires.volume.sized (c.requires.base k).first stands in
    none_stands found.version contents.mark (seats_view contents.seats) found.sectors found.nodes found.run image cached_nodes c.requires.volume.number c.requires.volume.sized
    (c.in_ok-contents.ensures.found.laid k) (c.in_ok-contents.ensures.found.read k)
    (λ n within. (c.requires.base k).sectors n (subst (λ (s : ℕ). n < s) c.requires.volume.size within))
    held.mark kept.seats kept.tree
    (λ well_formed. true≢false (sym (c.in_ok-are_well_formed.ensures.1 (asked (limits_by found.version found.sectors found.nodes) c.limits-limits.result
    (stamp (found.run + 1) 0) (c.stamp-last_stamp.result + 1) (all_second cached_nodes) c.in_ok-table.table
    (sym c.limits-limits.ensures) (omega (arith, c.stamp-last_stamp.ensures)) (sym table) well_formed)) ∙ c.if-not-branch.true))
    held.stands

pub returns-clause-loaded : goal.returns-clause-loaded
returns-clause-loaded g c =
    let found = c.args.found in
    let image : Image = g.S.Sectors.image (g.S.Sectors.kept c.args.sectors.now) in
    let contents = c.in_ok-contents.contents in
    let cached_nodes : List (Option CachedNode) = contents.cached_nodes.items in
    let read = c.in_ok-contents.ensures.found in
    let table : c.in_ok-table.table ≡ all_second cached_nodes = c.in_ok-table.ensures.table ∙ c.in_ok-all_second.ensures in
    let well_formed : AreWellFormed (limits_by found.version found.sectors found.nodes) (stamp (found.run + 1) 0) (all_second cached_nodes) =
    asked c.limits-limits.result (limits_by found.version found.sectors found.nodes) (c.stamp-last_stamp.result + 1) (stamp (found.run + 1) 0) c.in_ok-table.table (all_second cached_nodes)
    c.limits-limits.ensures (omega (arith, c.stamp-last_stamp.ensures)) table (c.in_ok-are_well_formed.ensures.0 c.if-not-branch.false) in
    rw (table, c.in_ok-places.ensures) (record {
      known = known_second (data_end_by found.version found.sectors) found.nodes cached_nodes contents.places read.known read.end_is;
      well_formed = ∣ well_formed ∣₁;
      marked = read.marked;
      may = read.may;
      keeps = read.keeps;
      marks = λ k. (read.laid k).spare 147 (mark_is_spare found.version (seats_view contents.seats)) ∙ mark_spare found.version found.nodes contents.mark (seats_view contents.seats) read.marked;
      read = λ k. ap all_second (read.read k);
      stood = λ k. ∣ record {
        may = read.may;
        keeps = read.keeps;
        stands = found_stands found.version contents.mark (seats_view contents.seats) found.sectors found.nodes found.run image cached_nodes c.requires.volume.number c.requires.volume.sized
            (read.laid k) (read.read k)
            (λ n within. (c.requires.base k).sectors n (subst (λ (s : ℕ). n < s) c.requires.volume.size within))
            (omega arith) (c.requires.base k).first well_formed;
      } ∣₁;
    })
