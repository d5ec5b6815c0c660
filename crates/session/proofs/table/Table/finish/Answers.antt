use Rattle.std.proofs.Common.{ℕ, List, ap}
use Rattle.model.specs.Sessions.Session.{Session, finish}
use Rattle.session.specs.Views.{table_of, table_by, roll_of, seating_of}
use Rattle.session.proofs.table.Table.finish.Goals as goal

pub returns : goal.returns
unfolding table_of finish
returns c =
    let old = c.args.self.now in ap (λ (book : ℕ × List Session). table_by (roll_of old.clients) book (seating_of old)) c.keep.ensures
