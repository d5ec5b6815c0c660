use Rattle.std.proofs.Common.{◌≡◌, Bool, true, OnOk, OnErr, IfErr, ap, sym, refl, ◌∙◌, subst}
use Rattle.model.specs.Server.Runs as runs
use Rattle.server.specs.Connections.{turn_view}
use Rattle.server.specs.declared.turn.Turn.{Turn}
use Rattle.volume.specs.VolumeState.{call_cost}
use Rattle.server.specs.Refused.{View, view, connection_at, IsUntouched, HasTurned, RefusesTurn, UsesDevice}
use Rattle.volume.specs.VolumeState.{VolumeState}
use Rattle.server.specs.Seen.{Turned}
use Rattle.server.specs.Views.{files_of, waits_of, server_failures, Serves, ServesLater, ServesAs}
use Rattle.server.proofs.Deferring.{if_ok, same_view, serves_so, fails_so}
use Rattle.server.proofs.server.Server.turn_unflushed.Goals as goal

pub returns-clause-ok : goal.returns-clause-ok
returns-clause-ok g c keeps = if_ok
    (λ (turn : Turn). ServesAs (files_of c.defer.new.self).defers c.defer.new.self c.take_turn.new.self (runs.Turns c.args.conn c.args.now) (Turned (turn_view turn)))
    (λ (turn : Turn). ServesLater c.args.self.now c.take_turn.new.self (runs.Turns c.args.conn c.args.now) (Turned (turn_view turn))) c.take_turn.result
    (λ turn serves. serves_so c.args.self.now c.defer.new.self c.defer.ensures.world c.defer.ensures.volume c.defer.ensures.waits c.defer.ensures.failures true c.take_turn.new.self (runs.Turns c.args.conn c.args.now) (Turned (turn_view turn)) c.defer.ensures.defers serves)
    (c.take_turn.ensures.ok keeps)

pub returns-clause-fails : goal.returns-clause-fails
returns-clause-fails g c keeps up is =
    fails_so c.args.self.now c.defer.new.self c.defer.ensures.world c.defer.ensures.volume c.defer.ensures.waits c.defer.ensures.failures c.take_turn.new.self (runs.Turns c.args.conn c.args.now)
    (c.take_turn.ensures.fails keeps (ap (λ (h : VolumeState). h.is_down) c.defer.ensures.volume ∙ up) is)

pub returns-clause-turned : goal.returns-clause-turned
returns-clause-turned g c =
    subst (λ (v : View). OnOk c.take_turn.result (HasTurned g.D.Device.keeps_word v (view c.take_turn.new.self) c.args.conn c.args.now)) (same_view c.args.self.now c.defer.new.self c.defer.ensures.world c.defer.ensures.volume c.defer.ensures.waits c.defer.ensures.failures) c.take_turn.ensures.turned

pub returns-clause-refused : goal.returns-clause-refused
returns-clause-refused g c =
    subst (λ (v : View). IfErr c.take_turn.result (RefusesTurn v (view c.take_turn.new.self) c.args.conn)) (same_view c.args.self.now c.defer.new.self c.defer.ensures.world c.defer.ensures.volume c.defer.ensures.waits c.defer.ensures.failures) c.take_turn.ensures.refused

pub returns-clause-is_down : goal.returns-clause-is_down
returns-clause-is_down g c down =
    let is = c.take_turn.ensures.is_down (ap (λ (h : VolumeState). h.is_down) c.defer.ensures.volume ∙ down) in
    (is.0, subst (λ (v : View). IsUntouched v (view c.take_turn.new.self)) (same_view c.args.self.now c.defer.new.self c.defer.ensures.world c.defer.ensures.volume c.defer.ensures.waits c.defer.ensures.failures) is.1)

pub returns-clause-is_none : goal.returns-clause-is_none
returns-clause-is_none g c up none =
    c.take_turn.ensures.is_none (ap (λ (h : VolumeState). h.is_down) c.defer.ensures.volume ∙ up) (ap (λ (v : View). connection_at v c.args.conn) (same_view c.args.self.now c.defer.new.self c.defer.ensures.world c.defer.ensures.volume c.defer.ensures.waits c.defer.ensures.failures) ∙ none)

pub returns-clause-is_closed : goal.returns-clause-is_closed
returns-clause-is_closed g c up closed =
    c.take_turn.ensures.is_closed (ap (λ (h : VolumeState). h.is_down) c.defer.ensures.volume ∙ up) (ap (λ (v : View). connection_at v c.args.conn) (same_view c.args.self.now c.defer.new.self c.defer.ensures.world c.defer.ensures.volume c.defer.ensures.waits c.defer.ensures.failures) ∙ closed)

pub returns-clause-device : goal.returns-clause-device
returns-clause-device g c =
    subst (λ (v : View). UsesDevice g.D.Device.keeps_word (call_cost v.volume) v (view c.take_turn.new.self)) (same_view c.args.self.now c.defer.new.self c.defer.ensures.world c.defer.ensures.volume c.defer.ensures.waits c.defer.ensures.failures) c.take_turn.ensures.device

pub returns-clause-waits : goal.returns-clause-waits
returns-clause-waits g c =
    subst (λ (b : Bool). (b ≡ true → waits_of c.take_turn.new.self ≡ true) × OnErr c.take_turn.result (waits_of c.take_turn.new.self ≡ b)) c.defer.ensures.waits c.take_turn.ensures.waits.0
