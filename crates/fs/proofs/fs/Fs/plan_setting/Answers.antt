use Rattle.std.proofs.Common.{◌∙◌, sym}
use Rattle.std.proofs.lemmas.Result.{err_from_is_err_and}
use Rattle.fs.specs.Views.{fs_of}
use Rattle.fs.proofs.RoomTests.{passed_room}
use Rattle.fs.proofs.SettingLaws as laws
use Rattle.fs.proofs.SettingPlans as plans
use Rattle.volume.specs.Views.{volume_state}
use Rattle.model.specs.declared.not_done.NotDone.TheVariants as refusal
use Rattle.volume.proofs.ServeLaws.{is_err_of}
use Rattle.volume.proofs.LimitLaws.{limited_of}
use Rattle.fs.proofs.fs.Fs.plan_setting.Goals as goal

pub returns-in_err-metadata : goal.returns-in_err-metadata
returns-in_err-metadata g c =
    let told = is_err_of c.from_residual-in_err-metadata.result refusal.Memory c.from_residual-in_err-metadata.ensures.1 in
    rw told (record {
      planned = tt;
      step = λ state arguments on is. tt;
      refused = λ state arguments on is. tt;
    })

pub returns-in_err-edits : goal.returns-in_err-edits
returns-in_err-edits g c =
    let told = is_err_of c.from_residual-in_err-edits.result refusal.Memory c.from_residual-in_err-edits.ensures.1 in
    rw told (record {
      planned = tt;
      step = λ state arguments on is. tt;
      refused = λ state arguments on is. tt;
    })

pub returns-in_err-cached-clause-refused : goal.returns-in_err-cached-clause-refused
returns-in_err-cached-clause-refused g c state arguments on is =
    let p = err_from_is_err_and c.from_residual.result c.from_residual.ensures.1 in
    rw (p.1, p.2) (laws.refused_by (fs_of c.args.self.now) c.args.cred.now c.args.now c.args.asked state arguments on is c.in_err-cached.field-0.0 c.in_err-cached.ensures.tests)

pub returns-then-settings-clause-step : goal.returns-then-settings-clause-step
returns-then-settings-clause-step g c state arguments on is =
    laws.stays (fs_of c.args.self.now) c.args.cred.now c.args.now c.args.asked state arguments on is c.in_ok-cached.ensures.tests
    (sym c.in_ok-cached.ensures.settings.empty ∙ c.if-settings.true)

pub returns-in_err-stamp-clause-planned : goal.returns-in_err-stamp-clause-planned
returns-in_err-stamp-clause-planned g c = rw (is_err_of c.from_residual-in_err-stamp.result (refusal.Status c.in_err-stamp.field-0.0) c.from_residual-in_err-stamp.ensures.1) (tt)

pub returns-in_err-stamp-clause-step : goal.returns-in_err-stamp-clause-step
returns-in_err-stamp-clause-step g c = rw (is_err_of c.from_residual-in_err-stamp.result (refusal.Status c.in_err-stamp.field-0.0) c.from_residual-in_err-stamp.ensures.1) (λ state arguments on is. tt)

pub returns-in_err-stamp-clause-refused : goal.returns-in_err-stamp-clause-refused
unfolding fs_of volume_state
returns-in_err-stamp-clause-refused g c state arguments on is =
    let fs = fs_of c.args.self.now in
    let node = c.in_ok-cached.ensures.node in
    let p = err_from_is_err_and c.from_residual-in_err-stamp.result c.from_residual-in_err-stamp.ensures.1 in
    rw (p.1, p.2) (laws.late fs c.args.cred.now c.args.now c.args.asked state arguments on is c.in_ok-cached.ensures.tests
    (sym c.in_ok-cached.ensures.settings.empty ∙ c.if-settings.false) node.node node.there c.in_err-stamp.field-0.0
    (c.in_err-stamp.ensures.tests (laws.tree_set fs c.args.now c.args.asked node.node)
    (plans.room_asked fs (c.args.self.now.ready c.requires.up) c.args.now c.args.asked node.node c.in_ok-cached.settings c.in_ok-cached.ensures.settings)))

pub metadata_set-requires-clause-listed : goal.metadata_set-requires-clause-listed
unfolding fs_of volume_state
metadata_set-requires-clause-listed g c =
    plans.listed (fs_of c.args.self.now) (c.args.self.now.ready c.requires.up) c.args.asked.number c.in_ok-cached.cached.now c.in_ok-cached.ensures.node

pub returns-clause-planned : goal.returns-clause-planned
unfolding fs_of volume_state
returns-clause-planned g c =
    let fs = fs_of c.args.self.now in
    let node = c.in_ok-cached.ensures.node in
    plans.planned_where fs (c.args.self.now.ready c.requires.up) c.args.self.now.counted (limited_of c.args.self.now.volume) c.args.cred.now c.args.now c.args.asked c.in_ok-cached.cached.now
    node c.in_ok-cached.ensures.tests c.in_ok-cached.settings c.in_ok-cached.ensures.settings c.in_ok-cached.ensures.within c.if-settings.false
    c.in_ok-stamp.stamp c.in_ok-metadata.metadata c.in_ok-edits.edits.items c.in_ok-stamp.ensures.stamp c.in_ok-metadata.ensures.metadata c.in_ok-metadata.ensures.entries c.in_ok-edits.ensures
    (passed_room fs (laws.tree_set fs c.args.now c.args.asked node.node) (c.in_ok-stamp.ensures.tests (laws.tree_set fs c.args.now c.args.asked node.node)
    (plans.room_asked fs (c.args.self.now.ready c.requires.up) c.args.now c.args.asked node.node c.in_ok-cached.settings c.in_ok-cached.ensures.settings)))

pub returns-clause-step : goal.returns-clause-step
unfolding fs_of volume_state
returns-clause-step g c state arguments on is =
    let fs = fs_of c.args.self.now in
    let node = c.in_ok-cached.ensures.node in
    plans.plan_goes_on fs (c.args.self.now.ready c.requires.up) c.args.self.now.counted (limited_of c.args.self.now.volume) c.args.cred.now c.args.now c.args.asked c.in_ok-cached.cached.now
    node c.in_ok-cached.ensures.tests c.in_ok-cached.settings c.in_ok-cached.ensures.settings c.in_ok-cached.ensures.within c.if-settings.false
    c.in_ok-stamp.stamp c.in_ok-metadata.metadata c.in_ok-edits.edits.items c.in_ok-stamp.ensures.stamp c.in_ok-metadata.ensures.metadata c.in_ok-metadata.ensures.entries c.in_ok-edits.ensures
    (passed_room fs (laws.tree_set fs c.args.now c.args.asked node.node) (c.in_ok-stamp.ensures.tests (laws.tree_set fs c.args.now c.args.asked node.node)
    (plans.room_asked fs (c.args.self.now.ready c.requires.up) c.args.now c.args.asked node.node c.in_ok-cached.settings c.in_ok-cached.ensures.settings)))
    state arguments on is
