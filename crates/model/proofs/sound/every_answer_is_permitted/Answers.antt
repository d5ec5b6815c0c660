use Rattle.model.proofs.Operations.AnswerLaws.{every_answer_is_permitted}
use Rattle.model.proofs.sound.every_answer_is_permitted.Goals as goal

pub returns : goal.returns
returns c = every_answer_is_permitted
