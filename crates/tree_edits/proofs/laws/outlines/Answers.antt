use Rattle.tree_edits.proofs.BlankLaws.{each_outline, edits_blanked}
use Rattle.tree_edits.proofs.DoableLaws.{doable_alike, few_alike}
use Rattle.tree_edits.proofs.FitLaws.{fits_alike}
use Rattle.tree_edits.proofs.laws.outlines.Goals as goal

pub returns-clause-each : goal.returns-clause-each
returns-clause-each c = each_outline

pub returns-clause-edits : goal.returns-clause-edits
returns-clause-edits c = edits_blanked

pub returns-clause-doable : goal.returns-clause-doable
returns-clause-doable c = doable_alike

pub returns-clause-few : goal.returns-clause-few
returns-clause-few c = few_alike

pub returns-clause-fits : goal.returns-clause-fits
returns-clause-fits c = fits_alike
