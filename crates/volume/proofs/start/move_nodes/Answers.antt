use Rattle.std.proofs.Common.{◌≡◌, ◌∙◌, ℕ, length, ap, arith, subst, sym}
use Rattle.disk.specs.Moments.{Image}
use Rattle.journal.specs.Journal.{log_of}
use Rattle.journal.specs.Log.{Log}
use Rattle.layout.specs.Stands.{moved_by}
use Rattle.model_tree.specs.Seats.SeatViews.{seats_view}
use Rattle.migration.specs.Migrations.{HasMovedAll, MovesSafely}
use Rattle.volume.specs.Starts.{HasMovedTo}
use Rattle.volume.proofs.StartLaws.{begins, ends_at_rest, may_migrate, moved_few, moved_to, moves_safely, one_early, or_else_zero, rewritten_moments, second_stays, so_moves, stay_moved, unmoved_few}
use Rattle.volume.proofs.start.move_nodes.Goals as goal

pub migrate-requires-clause-rests : goal.migrate-requires-clause-rests
migrate-requires-clause-rests g c = may_migrate c.args.found.version (log_of c.args.journal.now) (one_early c.args.found.version c.in-One.is) c.requires.rests

pub returns-in-One-clause-moves : goal.returns-in-One-clause-moves
returns-in-One-clause-moves g c =
    let word = g.D.Device.keeps_word in
    let found = c.args.found in
    let loaded = c.args.loaded.now in
    let old : Log = log_of c.args.journal.now in
    let new : Log = log_of c.migrate.new.journal in
    let told : c.unwrap_or.result ≡ moved_by loaded.mark = c.unwrap_or.ensures ∙ or_else_zero loaded.mark in
    record {
      size = c.migrate.ensures.place.size;
      rests = ends_at_rest found.version old new c.migrate.result c.requires.rests.placed c.migrate.ensures.place c.migrate.ensures.rests;
      steps = c.migrate.ensures.steps;
      brief = λ k. moved_few found.version found.nodes (length loaded.table) c.unwrap_or.result found.sectors old new c.in-One.is c.requires.loaded.known.are_cached_nodes.count c.requires.rests.placed
          (c.migrate.ensures.moments k).brief;
      moments = λ k kept stands.
          moves_safely word found loaded.mark loaded.table (seats_view loaded.seats) loaded.places old new c.requires.volume.size c.requires.rests.placed c.in-One.is c.requires.loaded kept stands
          ((subst (λ (n : ℕ). MovesSafely n loaded.table old new) told (c.migrate.ensures.moments k)).moments loaded.mark found.run kept.tree
          (begins word found loaded.mark loaded.table (seats_view loaded.seats) loaded.places old new c.requires.volume.size c.requires.rests.placed c.in-One.is c.requires.loaded k kept stands));
      stands = λ k. so_moves c.migrate.result _ _
          (λ moved. moved_to word found loaded.mark loaded.table (seats_view loaded.seats) loaded.places old new c.requires.volume.size c.requires.rests.placed c.in-One.is c.requires.loaded
          (subst (λ (n : ℕ). HasMovedAll n loaded.table old new) told moved) k)
          (c.migrate.ensures.ok k);
    }

pub returns-in-Two-clause-moves : goal.returns-in-Two-clause-moves
returns-in-Two-clause-moves g c =
    let found = c.args.found in
    let mark = c.args.loaded.now.mark in
    let old : Log = log_of c.args.journal.now in
    let new : Log = log_of c.rewrite.new.journal in
    record {
      size = c.rewrite.ensures.safe.size;
      rests = so_moves c.rewrite.result _ _ (λ is. is.rests found.version c.requires.rests) c.rewrite.ensures.ok;
      steps = λ k. so_moves c.rewrite.result _ _ (λ is. omega (arith, is.cost k)) c.rewrite.ensures.ok;
      brief = λ k. unmoved_few found.version found.nodes found.sectors old new (c.rewrite.ensures.brief k);
      moments = λ k kept stands. rewritten_moments g.D.Device.keeps_word found mark old new c.requires.volume.size c.requires.volume.number c.requires.loaded.marked c.requires.rests.listed c.requires.rests.placed
          c.rewrite.ensures.safe k kept stands;
      stands = λ k. so_moves c.rewrite.result _ _
          (λ is kept stands. subst (λ (image : Image). HasMovedTo found mark kept old.base image) (sym (ap (λ (log : Log). log.base) (is.only k)))
          (stay_moved found mark kept old.base (second_stays found.version c.in-Two.is) stands))
          c.rewrite.ensures.ok;
    }
