use Rattle.layout.proofs.Frame.{frame}
use Rattle.layout.proofs.cached_nodes.frame.Goals as goal

pub returns : goal.returns
returns c = frame
