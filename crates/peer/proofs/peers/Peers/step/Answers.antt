use Rattle.std.proofs.Common.{Ok, Some, ap, subst, sym, ◌∙◌}
use Rattle.slab.specs.Slab.{get, with_value}
use Rattle.peer.specs.Rounds.{StepsKey}
use Rattle.peer.specs.declared.peer.Step.{Step}
use Rattle.peer.proofs.Rounds.{no_peer, peer_ended, peer_stays}
use Rattle.peer.proofs.Serving.{changed_at, gone_then, slab_further, stays_answered}
use Rattle.peer.proofs.peers.Peers.step.Goals as goal

pub returns-in_err-step-clause-serves : goal.returns-in_err-step-clause-serves
returns-in_err-step-clause-serves g c =
    let s = c.args.self.now in
    let before = c.in-Some.peer.now in
    let left = c.step.new.self in
    slab_further _ s.server c.step.new.server s.peers c.args.key before left c.step.result
    c.in-Some.ensures.value c.step.ensures.stays c.step.ensures.ends c.step.ensures.over c.step.ensures.ended
    (with_value s.peers c.args.key left) _ c.in_err-step.was (changed_at s.peers c.args.key before left c.in-Some.ensures.value)

pub returns-in-Stays-clause-serves : goal.returns-in-Stays-clause-serves
returns-in-Stays-clause-serves g c =
    let s = c.args.self.now in
    stays_answered _ s.server c.step.new.server s.peers c.args.key c.in-Some.peer.now c.step.new.self c.step.result
    c.in-Some.ensures.value c.step.ensures.stays c.step.ensures.ends c.step.ensures.over c.step.ensures.ended
    c.take_answered-answered.new.self _ (c.in_ok-step.was ∙ ap Ok c.in-Stays.is) c.take_answered-answered.ensures.same.0 c.take_answered-answered.ensures.same.1

pub returns-in-Ended-clause-serves : goal.returns-in-Ended-clause-serves
returns-in-Ended-clause-serves g c =
    let s = c.args.self.now in
    let before = c.in-Some.peer.now in
    let left = c.step.new.self in
    slab_further _ s.server c.step.new.server s.peers c.args.key before left c.step.result
    c.in-Some.ensures.value c.step.ensures.stays c.step.ensures.ends c.step.ensures.over c.step.ensures.ended
    c.try_remove-gone.new.self _ (c.in_ok-step.was ∙ ap Ok c.in-Ended.is)
    (gone_then s.peers c.try_remove-gone.new.self c.args.key before c.take_answered-answered.new.self c.in-Some.ensures.value c.try_remove-gone.ensures.updates)

pub returns-in_default-clause-fair : goal.returns-in_default-clause-fair
returns-in_default-clause-fair g c =
    let s = c.args.self.now in
    no_peer s.server (get s.peers) c.args.key (sym c.in_default.ensures.value)

pub returns-in-Stays-clause-fair : goal.returns-in-Stays-clause-fair
returns-in-Stays-clause-fair g c =
    let s = c.args.self.now in
    let before = c.in-Some.peer.now in
    let last = c.take_answered-answered.new.self in
    let slab = with_value s.peers c.args.key last in
    subst (λ (step : Step). StepsKey g.D.Device.keeps_word c.args.key s.server c.step.new.server (get s.peers) (get slab) (Some step)) (sym c.in-Stays.is)
    (peer_stays _ (get s.peers) (get slab) c.args.key before c.step.new.self c.step.result (sym c.in-Some.ensures.value) c.step.ensures.stays c.step.ensures.ends
    c.step.ensures.over last _ (changed_at s.peers c.args.key before last c.in-Some.ensures.value) c.take_answered-answered.ensures.same.0.conn
    (c.in_ok-step.was ∙ ap Ok c.in-Stays.is) c.step.ensures.on)

pub returns-in-Ended-clause-fair : goal.returns-in-Ended-clause-fair
returns-in-Ended-clause-fair g c =
    let s = c.args.self.now in
    let before = c.in-Some.peer.now in
    let slab = c.try_remove-gone.new.self in
    subst (λ (step : Step). StepsKey g.D.Device.keeps_word c.args.key s.server c.step.new.server (get s.peers) (get slab) (Some step)) (sym c.in-Ended.is)
    (peer_ended _ (get s.peers) (get slab) c.args.key before c.step.new.self c.step.result (sym c.in-Some.ensures.value) c.step.ensures.stays c.step.ensures.ends
    (gone_then s.peers slab c.args.key before c.take_answered-answered.new.self c.in-Some.ensures.value c.try_remove-gone.ensures.updates)
    (c.in_ok-step.was ∙ ap Ok c.in-Ended.is) c.step.ensures.ended)
