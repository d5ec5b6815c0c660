use Rattle.std.proofs.Common.{◌∙◌, ◌+◌, ◌≤◌, arith, sym}
use Rattle.std.proofs.Math.Logic.{∥∥₁_elim, ∥∥₁_map}
use Rattle.std.proofs.Props.{props}
use Rattle.disk.specs.Moments.{moment}
use Rattle.journal.specs.Journal.{log_of}
use Rattle.journal.specs.Log.{Log}
use Rattle.model_tree.specs.Seats.SeatViews.{seats_view}
use Rattle.volume.specs.Loads.{read_as}
use Rattle.volume.specs.Mounts.{IsRaised}
use Rattle.volume.proofs.FormatLaws.{on_ok}
use Rattle.volume.proofs.StandLaws.{placed_on, same_log}
use Rattle.volume.proofs.StartLaws.{after_moves, after_raise, after_unmark, has_moved, serves_from, some_room, start_brief, start_few, still_marked, stop_brief, stop_few, unmark_later}
use Rattle.volume.proofs.start.start.Goals as goal

pub returns-in_err-move_nodes-clause-safe : goal.returns-in_err-move_nodes-clause-safe
returns-in_err-move_nodes-clause-safe g c = λ k.
    let loaded = c.requires.loaded in
    let moves = c.in_err-move_nodes.ensures.moves in
    record {
      moments = after_moves c.args.found c.args.loaded.now.mark (log_of c.args.journal.now) c.requires.volume.number c.requires.volume.sized loaded.marked (loaded.marks k) (c.requires.base k)
          (log_of c.move_nodes.new.journal) (moves.moments k);
      brief = λ two none. let few = stop_brief c.args.found.version c.args.found.nodes c.args.found.sectors (log_of c.args.journal.now) (log_of c.move_nodes.new.journal) two (moves.brief k) in omega (arith, few);
      bounded = stop_few c.args.found (log_of c.args.journal.now) (log_of c.move_nodes.new.journal) (moment (log_of c.move_nodes.new.journal).history) (moves.brief k) (omega arith);
    }

pub returns-then-is_err-clause-safe : goal.returns-then-is_err-clause-safe
returns-then-is_err-clause-safe g c = λ k.
    let loaded = c.requires.loaded in
    let moves = c.in_ok-move_nodes.ensures.moves in
    let raises = c.raise.ensures.moments k in
    record {
      moments = after_raise c.args.found c.args.loaded.now.mark (log_of c.args.journal.now) c.requires.volume.number c.requires.volume.sized loaded.marked (loaded.marks k) (c.requires.base k)
          (log_of c.move_nodes.new.journal) (moves.moments k) (moves.stands k) (log_of c.raise.new.journal) raises;
      brief = λ two none.
          let few = stop_brief c.args.found.version c.args.found.nodes c.args.found.sectors (log_of c.args.journal.now) (log_of c.move_nodes.new.journal) two (moves.brief k) in
          let more = raises.brief in
          omega (arith, few, more);
      bounded = stop_few c.args.found (log_of c.args.journal.now) (log_of c.move_nodes.new.journal) (moment (log_of c.raise.new.journal).history) (moves.brief k) raises.brief;
    }

pub returns-then-is_err-2-clause-safe : goal.returns-then-is_err-2-clause-safe
returns-then-is_err-2-clause-safe g c = λ k.
    let found = c.args.found in
    let mark = c.args.loaded.now.mark in
    let old : Log = log_of c.args.journal.now in
    let moved : Log = log_of c.move_nodes.new.journal in
    let raised : Log = log_of c.raise.new.journal in
    let loaded = c.requires.loaded in
    let moves = c.in_ok-move_nodes.ensures.moves in
    let is : IsRaised g.D.Device.keeps_word found moved raised = on_ok c.raise.result _ (sym c.is_err.ensures.value ∙ c.if-is_err.false) c.raise.ensures.raised in
    record {
      moments = after_unmark found mark old c.requires.volume.number c.requires.volume.sized loaded.marked (loaded.marks k) (c.requires.base k) moved (moves.moments k) (moves.stands k) raised (c.raise.ensures.moments k)
          (c.requires.volume.size ∙ (sym moves.size ∙ sym c.raise.ensures.place.size))
          (λ kept stands. is.stands k _ kept (has_moved found mark old c.requires.volume.number c.requires.volume.sized loaded.marked (loaded.marks k) (c.requires.base k)) stands)
          (log_of c.unmark.new.journal).history
          (λ kept stands. c.unmark.ensures.clears.moments k _ found.nodes (found.run + 1) kept (still_marked found.version found.nodes mark loaded.marked) stands);
      brief = λ two none. start_brief found.version found.nodes found.sectors mark old moved raised (log_of c.unmark.new.journal) two none (moves.brief k) (c.raise.ensures.moments k).brief
          c.unmark.ensures.clears.untouched;
      bounded = start_few found raised.size old moved raised (log_of c.unmark.new.journal) (c.requires.volume.size ∙ (sym moves.size ∙ sym c.raise.ensures.place.size)) (moves.brief k) (c.raise.ensures.moments k).brief (c.unmark.ensures.clears.brief k);
    }

pub returns-clause-safe : goal.returns-clause-safe
returns-clause-safe g c = λ k.
    let found = c.args.found in
    let mark = c.args.loaded.now.mark in
    let old : Log = log_of c.args.journal.now in
    let moved : Log = log_of c.move_nodes.new.journal in
    let raised : Log = log_of c.raise.new.journal in
    let loaded = c.requires.loaded in
    let moves = c.in_ok-move_nodes.ensures.moves in
    let is : IsRaised g.D.Device.keeps_word found moved raised = on_ok c.raise.result _ (sym c.is_err.ensures.value ∙ c.if-is_err.false) c.raise.ensures.raised in
    record {
      moments = after_unmark found mark old c.requires.volume.number c.requires.volume.sized loaded.marked (loaded.marks k) (c.requires.base k) moved (moves.moments k) (moves.stands k) raised (c.raise.ensures.moments k)
          (c.requires.volume.size ∙ (sym moves.size ∙ sym c.raise.ensures.place.size))
          (λ kept stands. is.stands k _ kept (has_moved found mark old c.requires.volume.number c.requires.volume.sized loaded.marked (loaded.marks k) (c.requires.base k)) stands)
          (log_of c.unmark.new.journal).history
          (λ kept stands. c.unmark.ensures.clears.moments k _ found.nodes (found.run + 1) kept (still_marked found.version found.nodes mark loaded.marked) stands);
      brief = λ two none. start_brief found.version found.nodes found.sectors mark old moved raised (log_of c.unmark.new.journal) two none (moves.brief k) (c.raise.ensures.moments k).brief
          c.unmark.ensures.clears.untouched;
      bounded = start_few found raised.size old moved raised (log_of c.unmark.new.journal) (c.requires.volume.size ∙ (sym moves.size ∙ sym c.raise.ensures.place.size)) (moves.brief k) (c.raise.ensures.moments k).brief (c.unmark.ensures.clears.brief k);
    }

pub returns-clause-started : goal.returns-clause-started
returns-clause-started g c =
    let found = c.args.found in
    let mark = c.args.loaded.now.mark in
    let old : Log = log_of c.args.journal.now in
    let moved : Log = log_of c.move_nodes.new.journal in
    let raised : Log = log_of c.raise.new.journal in
    let new : Log = log_of c.unmark.new.journal in
    let loaded = c.requires.loaded in
    let moves = c.in_ok-move_nodes.ensures.moves in
    let fine = sym c.is_err-2.ensures.value ∙ c.if-is_err-2.false in
    let is : IsRaised g.D.Device.keeps_word found moved raised = on_ok c.raise.result _ (sym c.is_err.ensures.value ∙ c.if-is_err.false) c.raise.ensures.raised in
    record {
      rests = on_ok c.unmark.result _ fine c.unmark.ensures.clears.rests;
      serves = λ k. ∥∥₁_map (loaded.stood k) (λ stood.
          serves_from found mark old c.requires.volume.number c.requires.volume.sized loaded.marked (loaded.marks k) (c.requires.base k) moved (moves.moments k) (moves.stands k) raised (c.raise.ensures.moments k)
          (c.requires.volume.size ∙ (sym moves.size ∙ sym c.raise.ensures.place.size))
          (λ kept stands. is.stands k _ kept (has_moved found mark old c.requires.volume.number c.requires.volume.sized loaded.marked (loaded.marks k) (c.requires.base k)) stands)
          c.args.loaded.now.table (seats_view c.args.loaded.now.seats) new (loaded.read k) stood
          (λ kept stands. on_ok c.unmark.result _ fine (c.unmark.ensures.clears.stands k) _ found.nodes (found.run + 1) kept
          (still_marked found.version found.nodes mark loaded.marked) stands));
      settled = λ k. on_ok c.unmark.result _ fine (c.unmark.ensures.clears.settled k (is.settled k));
      steps = λ k.
          let later : moment raised.history ≤ moment new.history = ∥∥₁_elim (loaded.stood k) (Prim.hlevel props) (λ stood.
          unmark_later found mark old c.requires.volume.number c.requires.volume.sized loaded.marked (loaded.marks k) (c.requires.base k) moved (moves.moments k) (moves.stands k) raised (c.raise.ensures.moments k)
          (c.requires.volume.size ∙ (sym moves.size ∙ sym c.raise.ensures.place.size))
          (λ kept stands. is.stands k _ kept (has_moved found mark old c.requires.volume.number c.requires.volume.sized loaded.marked (loaded.marks k) (c.requires.base k)) stands)
          new.history
          (λ kept stands. c.unmark.ensures.clears.moments k _ found.nodes (found.run + 1) kept (still_marked found.version found.nodes mark loaded.marked) stands)
          (read_as old.base c.args.loaded.now.table (seats_view c.args.loaded.now.seats)) stood) in
          omega (arith, moves.steps k, is.cost k, later);
    }

pub unmark-requires-clause-room : goal.unmark-requires-clause-room
unmark-requires-clause-room g c =
    let enough = some_room c.args.found (log_of c.args.journal.now).size c.requires.volume in
    omega (arith, enough, c.in_ok-move_nodes.ensures.moves.size, c.raise.ensures.place.size)

pub unmark-requires-clause-rests : goal.unmark-requires-clause-rests
unmark-requires-clause-rests g c =
    let moved : Log = log_of c.move_nodes.new.journal in
    let raised : Log = log_of c.raise.new.journal in
    let rests = c.in_ok-move_nodes.ensures.moves.rests in
    let is : IsRaised g.D.Device.keeps_word c.args.found moved raised = on_ok c.raise.result _ (sym c.is_err.ensures.value ∙ c.if-is_err.false) c.raise.ensures.raised in
    record {
      up = is.still_up;
      listed = c.raise.ensures.list ∙ rests.listed;
      placed = placed_on c.args.found.version raised.area moved.area raised.size moved.size c.raise.ensures.place.area c.raise.ensures.place.size rests.placed
          ∙ sym (same_log c.args.found.version raised.size);
    }
