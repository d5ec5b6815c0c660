use Rattle.model.proofs.Wire.ResultLaws.{result_exact, one_result, encodes_results}
use Rattle.model.proofs.Server.ResultRuns.{every_request_has_results}
use Rattle.model.proofs.rpc.results_are_exact.Goals as goal

pub returns-clause-exact : goal.returns-clause-exact
returns-clause-exact c = result_exact

pub returns-clause-one : goal.returns-clause-one
returns-clause-one c = one_result

pub returns-clause-encoded : goal.returns-clause-encoded
returns-clause-encoded c = encodes_results

pub returns-clause-each : goal.returns-clause-each
returns-clause-each c = every_request_has_results
