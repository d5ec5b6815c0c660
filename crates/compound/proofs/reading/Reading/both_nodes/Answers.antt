use Rattle.std.proofs.Common.{◌≡◌, false, sym, subst}
use Rattle.fs.specs.Views.{fs_of}
use Rattle.model.specs.Operations.Context.{Context, has_saved}
use Rattle.volume.proofs.ServeLaws.{is_err_of}
use Rattle.compound.proofs.RenameLaws.{refused_current, refused_saved}
use Rattle.compound.proofs.reading.Reading.both_nodes.Goals as goal

pub returns-in_err-check_current-clause-err : goal.returns-in_err-check_current-clause-err
returns-in_err-check_current-clause-err g c =
    let reason = c.in_err-check_current.field-0.0 in
    let told = is_err_of c.from_residual.result reason c.from_residual.ensures.1 in
    rw told (λ state now arguments there.
    refused_current (fs_of c.args.self.now.fs.now).volume.limits state now arguments reason (c.in_err-check_current.ensures.tests state there))

pub returns-in_err-saved_node-clause-err : goal.returns-in_err-saved_node-clause-err
returns-in_err-saved_node-clause-err g c =
    let none = c.in_err-saved_node.ensures.err in
    let told = is_err_of c.from_residual-in_err-saved_node.result c.in_err-saved_node.field-0.0 c.from_residual-in_err-saved_node.ensures.1 in
    rw (told, none.0) (λ state now arguments there.
    refused_saved (fs_of c.args.self.now.fs.now).volume.limits state now arguments (c.in_ok-check_current.ensures.tests state there)
    (subst (λ (context : Context). has_saved context ≡ false) (sym there.context_is) none.1))
