use Rattle.std.proofs.Common.{◌≡◌, ◌+◌, ◌++◌, ◌&&◌, Bool, true, false, not, Some, ap, ap₂, sym, subst, ◌∙◌, arith}
use Rattle.std.proofs.lemmas.List.{length-append}
use Rattle.std.specs.Prelude.{length}
use Rattle.model.specs.Wire.Record.{framed}
use Rattle.model.specs.Wire.Rpc.{Success, reply_text}
use Rattle.model.specs.Server.World.{InProgress, is_last, is_to_hold, kept_by, result_of}
use Rattle.model_tree.specs.declared.status.Status.{Status}
use Rattle.session.specs.Views.{table_of}
use Rattle.compound.specs.EncodedResult.{is_ok, text_of_result, status_of_result}
use Rattle.compound.specs.Views.{Asked, in_progress_of, asked_of, resumed, fits_operations}
use Rattle.compound.proofs.Resuming.{fits_by, fits_ended}
use Rattle.compound.proofs.Tellings.{ends_told, holds_told, goes_on_told, ok_room}
use Rattle.compound.proofs.running.Running.answer.Goals.{else-is_ok-via-then-is_ok+else-not-is_last, else-is_ok-via-else-is_ok}
use Rattle.compound.proofs.running.Running.answer.Goals as goal

-- It goes on

pub with_result-requires-clause-more : goal.with_result-requires-clause-more
unfolding in_progress_of
with_result-requires-clause-more c = omega (arith, c.args.self.more c.requires.more)

pub with_result-requires-clause-room : goal.with_result-requires-clause-room
unfolding in_progress_of
with_result-requires-clause-room c =
    omega (arith, ok_room (in_progress_of c.args.self) c.args.encoded c.requires.encoded (sym c.is_ok.ensures ∙ c.if-is_ok.true))

pub returns-then-not-is_last-clause-stands : goal.returns-then-not-is_last-clause-stands
unfolding in_progress_of
returns-then-not-is_last-clause-stands c = λ outcome is.
    let request = in_progress_of c.args.self in
    let ok : is_ok c.args.encoded ≡ true = sym c.is_ok.ensures ∙ c.if-is_ok.true in
    let more : is_last request ≡ false = sym c.is_last.ensures ∙ c.if-not-is_last.true in
    goes_on_told (table_of c.args.table.now) (asked_of c.args.self) request c.args.encoded outcome c.with_result.result ok more
    (c.with_result.ensures.request (asked_of c.args.self)) is

pub returns-then-not-is_last-clause-goes_on : goal.returns-then-not-is_last-clause-goes_on
unfolding in_progress_of
returns-then-not-is_last-clause-goes_on c =
    let old = c.args.self.progress in
    let new = c.with_result.result in
    let text = text_of_result c.args.encoded in
    let room = ok_room (in_progress_of c.args.self) c.args.encoded c.requires.encoded (sym c.is_ok.ensures ∙ c.if-is_ok.true) in
    let pushed = c.with_result.ensures.request (asked_of c.args.self) in
    let count : new.answered ≡ old.answered + 1 = ap (λ (r : InProgress). r.answered) pushed in
    let results : new.results.bytes ≡ old.results.bytes ++ text = ap (λ (r : InProgress). r.results) pushed in
    let position = c.with_result.ensures.position in
    let more = c.args.self.more c.requires.more in
    record {
      stays = ap (λ (r : InProgress). r.context.run) pushed;
      further = (c.requires.more, count);
      fits = fits_by (asked_of c.args.self) new (ap (λ (r : InProgress). r.ended) pushed ∙ c.requires.more)
          (grind (arith, c.is_last.ensures, c.if-not-is_last.true, more, count))
          (omega (arith, c.args.self.within, position))
          (omega (arith, room, ap length results, length-append old.results.bytes text));
    }

-- It ends

pub returns-then-is_to_hold-clause-stands : goal.returns-then-is_to_hold-clause-stands
unfolding in_progress_of
returns-then-is_to_hold-clause-stands c =
    let request = in_progress_of c.args.self in
    let after = c.with_last-running.result in
    let last : (is_ok c.args.encoded && not (is_last request)) ≡ false =
    elim c.else-is_ok.branch [
      | else-is_ok-via-then-is_ok+else-not-is_last w ↦
          ap₂ (λ (a b : Bool). a && not b) (sym c.is_ok.ensures ∙ w.if-is_ok.true) (sym w.is_last.ensures ∙ w.if-not-is_last.false)
      | else-is_ok-via-else-is_ok w ↦
          ap (λ (a : Bool). a && not (is_last request)) (sym c.is_ok.ensures ∙ w.if-is_ok.false)
    ] in
    let holds : is_to_hold request (table_of c.args.table.now) ≡ true =
    ap (λ (r : InProgress). is_to_hold r (table_of c.args.table.now)) (sym c.with_last-running.ensures.request) ∙ (sym c.is_to_hold.ensures ∙ c.if-is_to_hold.true) in
    λ outcome is.
    holds_told (table_of c.args.table.now) (asked_of c.args.self) request c.args.encoded outcome after.progress last holds
    (ap (λ (one : Asked). resumed one after.progress) (sym c.with_last-running.ensures.asked) ∙ c.with_last-running.ensures.request) is

pub returns-then-is_to_hold-clause-goes_on : goal.returns-then-is_to_hold-clause-goes_on
unfolding in_progress_of
returns-then-is_to_hold-clause-goes_on c =
    let after = c.with_last-running.result in
    let pushed = c.with_last-running.ensures.request in
    let ended : after.progress.ended ≡ Some (status_of_result c.args.encoded) = ap (λ (r : InProgress). r.ended) pushed in
    record {
      stays = ap (λ (r : InProgress). r.context.run) pushed;
      further = (c.requires.more, ap (λ (r : InProgress). r.answered) pushed);
      fits = subst (λ (one : Asked). fits_operations one after.progress ≡ true) c.with_last-running.ensures.asked
          (fits_ended (asked_of after) after.progress (status_of_result c.args.encoded) ended after.within after.brief);
    }

pub returns-clause-stands : goal.returns-clause-stands
unfolding in_progress_of
returns-clause-stands c =
    let request = in_progress_of c.args.self in
    let table = table_of c.args.table.now in
    let last : (is_ok c.args.encoded && not (is_last request)) ≡ false =
    elim c.else-is_ok.branch [
      | else-is_ok-via-then-is_ok+else-not-is_last w ↦
          ap₂ (λ (a b : Bool). a && not b) (sym c.is_ok.ensures ∙ w.if-is_ok.true) (sym w.is_last.ensures ∙ w.if-not-is_last.false)
      | else-is_ok-via-else-is_ok w ↦
          ap (λ (a : Bool). a && not (is_last request)) (sym c.is_ok.ensures ∙ w.if-is_ok.false)
    ] in
    let none : is_to_hold request table ≡ false =
    ap (λ (r : InProgress). is_to_hold r table) (sym c.with_last-running.ensures.request) ∙ (sym c.is_to_hold.ensures ∙ c.if-is_to_hold.false) in
    let pushed = c.with_last-running.ensures.request in
    λ outcome is.
    ends_told table (table_of c.end.new.table) (asked_of c.args.self) request c.args.encoded outcome c.end.result last none
    (c.end.ensures.reply ∙ ap₂ (λ (r : InProgress) (status : Status). framed (reply_text r.xid (Success (result_of r status)))) pushed c.status-last.ensures)
    (c.end.ensures.kept ∙ ap₂ (λ (r : InProgress) (status : Status). kept_by r.slot false (result_of r status) table) pushed c.status-last.ensures) is
