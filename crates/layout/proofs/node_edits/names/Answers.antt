use Rattle.layout.proofs.NodeEditLaws.{put_one_name, drop_one_name}
use Rattle.layout.proofs.node_edits.names.Goals as goal

pub returns-clause-put : goal.returns-clause-put
returns-clause-put c = put_one_name

pub returns-clause-drop : goal.returns-clause-drop
returns-clause-drop c = drop_one_name
