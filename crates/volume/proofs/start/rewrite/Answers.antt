use Rattle.std.proofs.Common.{◌≡◌, ◌∙◌, sym, ap, arith}
use Rattle.disk.specs.Moments.{History, moment}
use Rattle.journal.specs.Journal.{log_of}
use Rattle.journal.specs.Log.{Log}
use Rattle.volume.proofs.StandLaws.{placed_on}
use Rattle.volume.proofs.start.rewrite.Goals as goal

-- only the history is another
only_history : (old new : Log) (history : History) → new ≡ (let log : Log = record old { history = history } in log) → new ≡ record old { history = new.history }
only_history old new history is = is ∙ ap (λ (h : History). let log : Log = record old { history = h } in log) (sym (ap (λ (log : Log). log.history) is))

its_moment : (old new : Log) (history : History) → new ≡ (let log : Log = record old { history = history } in log) → moment new.history ≡ moment history
its_moment old new history is = ap (λ (log : Log). moment log.history) is

pub returns-clause-ok : goal.returns-clause-ok
returns-clause-ok g c =
    let old : Log = log_of c.args.journal.now in
    let new : Log = log_of c.rewrite_record.new.self in
    let safe = c.rewrite_record.ensures.safe in
    record {
      rests = λ version rests. record {
        up = c.in_ok-rewrite_record.ensures.answers.stays_up rests.up (λ e. absurd (cc));
        listed = c.rewrite_record.ensures.list ∙ rests.listed;
        placed = placed_on version new.area old.area new.size old.size safe.area safe.size rests.placed;
      };
      only = λ k. only_history old new _ (c.in_ok-rewrite_record.ensures.ok k);
      cost = λ k. its_moment old new _ (c.in_ok-rewrite_record.ensures.ok k) ∙ omega arith;
    }
