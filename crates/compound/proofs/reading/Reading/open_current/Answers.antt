use Rattle.std.proofs.Common.{◌<◌, ℕ, List, [], false, refl, sym, ap, subst, ◌∙◌}
use Rattle.fs.specs.Views.{fs_of}
use Rattle.fs.specs.Opening.{current_opened}
use Rattle.fs.specs.Operations.{IsRefused}
use Rattle.fs.specs.Renaming.{info_of}
use Rattle.fs.specs.declared.fault.FsFault.{FsFault}
use Rattle.model_tree.specs.declared.limits.Limits.{Limits}
use Rattle.model.specs.Operations.Answer.{Refused}
use Rattle.model.specs.Operations.Open.{at_opened}
use Rattle.model.specs.Sessions.Opens.{Open, Opens}
use Rattle.model.specs.Operations.Operation.{Argument, ChangeInfo, NoCreate}
use Rattle.model.specs.Sessions.StateIds.{is_table_full, new_open, opened}
use Rattle.model_tree.specs.declared.status.Status.{Status}
use Rattle.model_tree.specs.declared.status.Status.TheVariants as status
use Rattle.opens.specs.Views.{opened_stateid, open_of, opens_of}
use Rattle.wire.specs.ArgumentViews.{open_type_view, open_view}
use Rattle.wire.specs.SmallViews.{change_view}
use Rattle.compound.specs.Beside.{has_opened_room, opened_answer, ComesToOpen}
use Rattle.compound.specs.Operates.{GivesIn, Operates}
use Rattle.compound.specs.States.{shared}
use Rattle.compound.specs.Views.{in_progress_of}
use Rattle.compound.proofs.OpenLaws.{on_tree}
use Rattle.compound.proofs.OpenNamedLaws.{is_current, open_bad, open_status, opened_room, opens_to}
use Rattle.compound.proofs.Changing.{refused_gives}
use Rattle.compound.proofs.Rooms.{gives_refusal, refused_in_room}
use Rattle.compound.proofs.Trees.{is_on, wants}
use Rattle.compound.proofs.WriteLaws.{beside, is_beside}
use Rattle.compound.proofs.reading.Reading.open_current.Goals as goal

pub returns-in-Err-clause-gives : goal.returns-in-Err-clause-gives
returns-in-Err-clause-gives g c = record {
  answered = c.refuse.ensures.answered;
  gives = λ now table.
      let opens = opens_of c.args.opens.now in
      let fs = fs_of c.args.self.now.fs.now in
      let request = in_progress_of c.args.self.now.running.now in
      let arguments = open_view c.args.arguments.now in
      let kind = Argument.Open arguments in
      c.refuse.ensures.gives now (shared fs table opens) (shared fs table opens) kind
      (subst (λ (reason : Status). GivesIn now (shared fs table opens) (shared fs table opens) request request kind (Refused 18 reason)) (sym c.in-Err.ensures.err.0)
      (gives_refusal now (shared fs table opens) (shared fs table opens) request kind 18 _ (wants now fs table opens request kind refl c.in-Err.ensures.err.1)));
}

-- It is refused

pub status_of-requires : goal.status_of-requires
unfolding in_progress_of
status_of-requires g c =
    let opens = opens_of c.args.opens.now in
    let fs = fs_of c.args.self.now.fs.now in
    let request = in_progress_of c.args.self.now.running.now in
    let arguments = open_view c.args.arguments.now in
    let kind = Argument.Open arguments in
    open_status fs (beside fs request opens) 0 arguments c.in-Err-open_current.fault c.args.self.now.ready.up
    (c.in-Err-open_current.ensures.step (beside fs request opens) 0 arguments (is_on fs request c.in-Ok.number (beside fs request opens) c.args.self.now.ready.run c.in-Ok.ensures.ok.0 c.in-Ok.ensures.ok.1 (is_beside fs request opens))
    (is_current 0 fs request arguments opens c.args.self.now.ready.run c.in-Ok.ensures.ok.0 c.in-Ok.number c.limits.result.now.opens c.is_full-is_full.result (open_of c.in_ok-asked.asked)
    (ap (λ (limits : Limits). limits.opens) c.limits.ensures) c.in_ok-asked.ensures
    (c.is_full-is_full.ensures.is ∙ ap (λ (held : Opens). is_table_full c.limits.result.now.opens held (open_of c.in_ok-asked.asked)) c.in_ok-reserve.ensures.same)
    c.share_of.result (open_type_view c.args.how.now) c.creates-create.result c.in-Ok.ensures.ok.1 (sym c.share_of.ensures.access) (sym c.share_of.ensures.deny) c.requires c.creates-create.ensures (beside fs request opens) (is_beside fs request opens) refl))

pub refuse-requires-in-Err-open_current : goal.refuse-requires-in-Err-open_current
unfolding in_progress_of
refuse-requires-in-Err-open_current g c =
    let opens = opens_of c.args.opens.now in
    let fs = fs_of c.args.self.now.fs.now in
    let request = in_progress_of c.args.self.now.running.now in
    let arguments = open_view c.args.arguments.now in
    let kind = Argument.Open arguments in
    open_bad fs.volume.limits (beside fs request opens) 0 arguments c.status_of.result
    (subst (λ (why : FsFault). IsRefused fs (beside fs request opens) 0 kind why) c.status_of.ensures
    (c.in-Err-open_current.ensures.step (beside fs request opens) 0 arguments (is_on fs request c.in-Ok.number (beside fs request opens) c.args.self.now.ready.run c.in-Ok.ensures.ok.0 c.in-Ok.ensures.ok.1 (is_beside fs request opens))
    (is_current 0 fs request arguments opens c.args.self.now.ready.run c.in-Ok.ensures.ok.0 c.in-Ok.number c.limits.result.now.opens c.is_full-is_full.result (open_of c.in_ok-asked.asked)
    (ap (λ (limits : Limits). limits.opens) c.limits.ensures) c.in_ok-asked.ensures
    (c.is_full-is_full.ensures.is ∙ ap (λ (held : Opens). is_table_full c.limits.result.now.opens held (open_of c.in_ok-asked.asked)) c.in_ok-reserve.ensures.same)
    c.share_of.result (open_type_view c.args.how.now) c.creates-create.result c.in-Ok.ensures.ok.1 (sym c.share_of.ensures.access) (sym c.share_of.ensures.deny) c.requires c.creates-create.ensures (beside fs request opens) (is_beside fs request opens) refl)))

pub returns-in-Err-open_current-clause-gives : goal.returns-in-Err-open_current-clause-gives
unfolding in_progress_of
returns-in-Err-open_current-clause-gives g c = record {
  answered = c.refuse-in-Err-open_current.ensures.answered;
  gives = λ now table.
      let opens = opens_of c.args.opens.now in
      let fs = fs_of c.args.self.now.fs.now in
      let request = in_progress_of c.args.self.now.running.now in
      let arguments = open_view c.args.arguments.now in
      let kind = Argument.Open arguments in
      let left = opens_of c.reserve.new.self in
      c.refuse-in-Err-open_current.ensures.gives now (shared fs table opens) (shared fs table left) kind
      (subst (λ (after : Opens). GivesIn now (shared fs table opens) (shared fs table after) request request kind (Refused 18 c.status_of.result)) (sym c.in_ok-reserve.ensures.same)
      (refused_gives now fs request kind (on_tree now request arguments) table opens c.status_of.result
      (λ state there known. subst (λ (why : FsFault). IsRefused fs state now kind why) c.status_of.ensures
      (c.in-Err-open_current.ensures.step state now arguments (is_on fs request c.in-Ok.number state c.args.self.now.ready.run c.in-Ok.ensures.ok.0 c.in-Ok.ensures.ok.1 there)
      (is_current now fs request arguments opens c.args.self.now.ready.run c.in-Ok.ensures.ok.0 c.in-Ok.number c.limits.result.now.opens c.is_full-is_full.result (open_of c.in_ok-asked.asked)
      (ap (λ (limits : Limits). limits.opens) c.limits.ensures) c.in_ok-asked.ensures
      (c.is_full-is_full.ensures.is ∙ ap (λ (held : Opens). is_table_full c.limits.result.now.opens held (open_of c.in_ok-asked.asked)) c.in_ok-reserve.ensures.same)
      c.share_of.result (open_type_view c.args.how.now) c.creates-create.result c.in-Ok.ensures.ok.1 (sym c.share_of.ensures.access) (sym c.share_of.ensures.deny) c.requires c.creates-create.ensures state there known)))));
}

-- It is opened, if the reply has room

pub returns-then-not-has_opened_room-clause-gives : goal.returns-then-not-has_opened_room-clause-gives
unfolding in_progress_of
returns-then-not-has_opened_room-clause-gives g c = record {
  answered = c.refuse-then-not-has_opened_room.ensures.answered;
  gives = λ now table.
      let opens = opens_of c.args.opens.now in
      let fs = fs_of c.args.self.now.fs.now in
      let request = in_progress_of c.args.self.now.running.now in
      let arguments = open_view c.args.arguments.now in
      let kind = Argument.Open arguments in
      let left = opens_of c.reserve.new.self in
      let asked = new_open request.context.client arguments.owner c.in-Ok.number arguments.access in
      let made = opened opens asked in
      c.refuse-then-not-has_opened_room.ensures.gives now (shared fs table opens) (shared fs table left) kind
      (subst (λ (after : Opens). GivesIn now (shared fs table opens) (shared fs table after) request request kind (Refused 18 status.RepTooBig)) (sym c.in_ok-reserve.ensures.same)
      (refused_in_room now (shared fs table opens) (shared fs table made.opens) request
      (record request { context = at_opened request.context c.in-Ok.number (opened_stateid request.context.run made) }) kind
      (opened_answer (opened_stateid request.context.run made) (info_of (current_opened c.in-Ok.number).directory) [])
      (opened_room request request.context.run made.serial made.state.seqid (info_of (current_opened c.in-Ok.number).directory) [] false (c.if-not-has_opened_room.ensures ∙ ap (has_opened_room request) c.new.ensures))
      (opens_to now fs request arguments fs table opens NoCreate c.in-Ok.number (current_opened c.in-Ok.number) refl
      (λ state there known. (c.in-Ok-open_current.ensures.step state now arguments (is_on fs request c.in-Ok.number state c.args.self.now.ready.run c.in-Ok.ensures.ok.0 c.in-Ok.ensures.ok.1 there)
      (is_current now fs request arguments opens c.args.self.now.ready.run c.in-Ok.ensures.ok.0 c.in-Ok.number c.limits.result.now.opens c.is_full-is_full.result (open_of c.in_ok-asked.asked)
      (ap (λ (limits : Limits). limits.opens) c.limits.ensures) c.in_ok-asked.ensures
      (c.is_full-is_full.ensures.is ∙ ap (λ (held : Opens). is_table_full c.limits.result.now.opens held (open_of c.in_ok-asked.asked)) c.in_ok-reserve.ensures.same)
      c.share_of.result (open_type_view c.args.how.now) c.creates-create.result c.in-Ok.ensures.ok.1 (sym c.share_of.ensures.access) (sym c.share_of.ensures.deny) c.requires c.creates-create.ensures state there known))))));
}

pub give_open-requires-clause-serial : goal.give_open-requires-clause-serial
give_open-requires-clause-serial g c = (c.limits.result.now.opens, sym c.is_full-is_full.ensures.is ∙ c.in-Ok-open_current.ensures.full)

pub give_open-requires-clause-number : goal.give_open-requires-clause-number
give_open-requires-clause-number g c =
    subst (λ (n : ℕ). 0 < n) (sym (ap (λ (it : Open). it.number) c.in_ok-asked.ensures)) c.in-Ok-open_current.ensures.number

pub returns-else-not-has_opened_room-clause-gives : goal.returns-else-not-has_opened_room-clause-gives
unfolding in_progress_of
returns-else-not-has_opened_room-clause-gives g c = record {
  answered = c.give_open.ensures.answered;
  gives = λ now table.
      let opens = opens_of c.args.opens.now in
      let fs = fs_of c.args.self.now.fs.now in
      let request = in_progress_of c.args.self.now.running.now in
      let arguments = open_view c.args.arguments.now in
      let kind = Argument.Open arguments in
      let asked = new_open request.context.client arguments.owner c.in-Ok.number arguments.access in
      let to = opens_to now fs request arguments fs table opens NoCreate c.in-Ok.number (current_opened c.in-Ok.number) refl
      (λ state there known. (c.in-Ok-open_current.ensures.step state now arguments (is_on fs request c.in-Ok.number state c.args.self.now.ready.run c.in-Ok.ensures.ok.0 c.in-Ok.ensures.ok.1 there)
      (is_current now fs request arguments opens c.args.self.now.ready.run c.in-Ok.ensures.ok.0 c.in-Ok.number c.limits.result.now.opens c.is_full-is_full.result (open_of c.in_ok-asked.asked)
      (ap (λ (limits : Limits). limits.opens) c.limits.ensures) c.in_ok-asked.ensures
      (c.is_full-is_full.ensures.is ∙ ap (λ (held : Opens). is_table_full c.limits.result.now.opens held (open_of c.in_ok-asked.asked)) c.in_ok-reserve.ensures.same)
      c.share_of.result (open_type_view c.args.how.now) c.creates-create.result c.in-Ok.ensures.ok.1 (sym c.share_of.ensures.access) (sym c.share_of.ensures.deny) c.requires c.creates-create.ensures state there known))) in
      let same = c.in_ok-reserve.ensures.same in
      let one = open_of c.in_ok-asked.asked in
      let given = ap (λ (held : Opens). (opened held one).opens) same ∙ ap (λ (it : Open). (opened opens it).opens) c.in_ok-asked.ensures in
      subst (λ (after : Opens). Operates now (shared fs table opens) (shared fs table after) request kind c.give_open.result) (sym (c.give_open.ensures.opens ∙ given))
      (c.give_open.ensures.gives now (shared fs table opens) (shared fs table (opened opens asked).opens) kind (sym same)
      (subst (λ (words : List ℕ). ComesToOpen now (shared fs table opens) (shared fs table (opened opens asked).opens) request one (change_view c.change_info.result) words kind) (sym c.new-in-Ok-open_current.ensures)
      (subst (λ (it : Open). ComesToOpen now (shared fs table opens) (shared fs table (opened opens asked).opens) request it (change_view c.change_info.result) [] kind) (sym c.in_ok-asked.ensures)
      (subst (λ (change : ChangeInfo). ComesToOpen now (shared fs table opens) (shared fs table (opened opens asked).opens) request asked change [] kind) (sym c.change_info.ensures)
      to))));
}
