use Rattle.wire_client.proofs.Fitting.{argument_fits}
use Rattle.wire_client.proofs.laws.encoded_arguments_fit.Goals as goal

pub returns : goal.returns
returns c = λ call fits. argument_fits call fits
