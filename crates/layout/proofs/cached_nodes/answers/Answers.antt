use Rattle.layout.proofs.Answering.{each_answer}
use Rattle.layout.proofs.cached_nodes.answers.Goals as goal

pub returns : goal.returns
returns c = each_answer
