use Rattle.std.proofs.Common.{◌≡◌, ◌+◌, ◌<◌, ◌≤◌, true, false, List, length, get_or, drop, sym, ap, ◌∙◌, arith}
use Rattle.std.specs.Prelude.{map}
use Rattle.std.proofs.lemmas.List.{drop_all}
use Rattle.wire.specs.declared.outcome.Outcome.{Outcome}
use Rattle.wire.specs.OutcomeView.{outcome_view}
use Rattle.client.specs.Replies.{ending, outcome_number, is_ok}
use Rattle.client.proofs.Ending.{none_left, step_on, step_stops}
use Rattle.client.proofs.results.ending.Goals as goal

pub returns-then-not-is_ok : goal.returns-then-not-is_ok
returns-then-not-is_ok c =
    let i = c.loop-i.i in
    let same : outcome_number (outcome_view c.index-results-i.result) ≡ get_or c.args.operations.now i 0 = cc in
    let not_ok : is_ok (outcome_view c.index-results-i.result) ≡ false = cc in
    let more : i + 1 < length c.args.results.now = omega arith in
    let asked : i < length c.args.operations.now = omega arith in
    sym (step_stops c.args.operations.now c.args.results.now i c.index-results-i.result asked more c.index-results-i.is same not_ok)
    ∙ c.loop-i.invariant

pub loop-i-preserved : goal.loop-i-preserved
loop-i-preserved c =
    let i = c.loop-i.i in
    let same : outcome_number (outcome_view c.index-results-i.result) ≡ get_or c.args.operations.now i 0 = cc in
    let ok : is_ok (outcome_view c.index-results-i.result) ≡ true = cc in
    let more : i + 1 < length c.args.results.now = omega arith in
    let asked : i < length c.args.operations.now = omega arith in
    sym (step_on c.args.operations.now c.args.results.now i c.index-results-i.result asked more c.index-results-i.is same ok)
    ∙ c.loop-i.invariant

pub returns : goal.returns
returns c =
    let i = c.loop-i.i in
    let done : length c.args.results.now ≤ i = omega arith in
    sym (none_left (drop i c.args.operations.now))
    ∙ ap (λ (rs : List Outcome). ending (drop i c.args.operations.now) (map outcome_view rs)) (sym (drop_all i c.args.results.now done))
    ∙ c.loop-i.invariant
