use Rattle.layout.proofs.Linking.{bytes_fit}
use Rattle.layout.proofs.sums.bytes.Goals as goal

pub returns : goal.returns
returns c = bytes_fit
