use Rattle.fs.specs.Views.{fs_of}
use Rattle.opens.specs.Views.{opens_of}
use Rattle.volume.proofs.ServeLaws.{is_err_of}
use Rattle.wire.specs.ArgumentViews.{close_view}
use Rattle.compound.specs.Views.{in_progress_of}
use Rattle.compound.proofs.CloseLaws.{refused_current, closes_by, closes_bad}
use Rattle.compound.proofs.reading.Reading.open_to_close.Goals as goal

pub returns-in_err-check_current-clause-step : goal.returns-in_err-check_current-clause-step
returns-in_err-check_current-clause-step g c =
    let reason = c.in_err-check_current.field-0.0 in
    let told = is_err_of c.from_residual.result reason c.from_residual.ensures.1 in
    rw told (λ state now there.
    refused_current (fs_of c.args.self.now.fs.now).volume.limits state now (close_view c.args.arguments.now) reason (c.in_err-check_current.ensures.tests state there.here))

pub returns-clause-step : goal.returns-clause-step
returns-clause-step g c =
    closes_by (fs_of c.args.self.now.fs.now) (opens_of c.args.opens.now) (in_progress_of c.args.self.now.running.now) (close_view c.args.arguments.now) c.open_of_state.result
    c.in_ok-check_current.ensures.tests c.open_of_state.ensures

pub returns-clause-refused : goal.returns-clause-refused
returns-clause-refused g c =
    closes_bad (fs_of c.args.self.now.fs.now) (opens_of c.args.opens.now) (in_progress_of c.args.self.now.running.now) (close_view c.args.arguments.now) c.open_of_state.result c.open_of_state.ensures
