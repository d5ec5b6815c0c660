use Rattle.std.proofs.Common.{◌≡◌, ◌++◌, Some, length, ap, arith, length-append}
use Rattle.model.specs.Server.World.{InProgress}
use Rattle.compound.specs.EncodedResult.{status_of_result, text_of_result}
use Rattle.compound.specs.Views.{in_progress_of, asked_of}
use Rattle.compound.proofs.Tellings.{told_short}
use Rattle.compound.proofs.running.Running.with_last.Goals as goal

pub with_last-requires-clause-room : goal.with_last-requires-clause-room
unfolding in_progress_of
with_last-requires-clause-room c =
    omega (arith, told_short (in_progress_of c.args.self) c.args.encoded c.requires.encoded (c.args.self.room c.requires.more))

pub invariant_of-result : goal.invariant_of-result
unfolding in_progress_of
invariant_of-result c =
    let old = c.args.self.progress in
    let new = c.with_last.result in
    let pushed = c.with_last.ensures.request (asked_of c.args.self) in
    let results : new.results.bytes ≡ old.results.bytes ++ text_of_result c.args.encoded = ap (λ (r : InProgress). r.results) pushed in
    let ended : new.ended ≡ Some (status_of_result c.args.encoded) = ap (λ (r : InProgress). r.ended) pushed in
    record {
      within = omega (arith, c.args.self.within, c.with_last.ensures.position);
      brief = omega (
        arith,
        told_short (in_progress_of c.args.self) c.args.encoded c.requires.encoded (c.args.self.room c.requires.more),
        ap length results,
        length-append old.results.bytes (text_of_result c.args.encoded),
      );
      more = λ none. let never : ⊥ = cc in absurd never;
      room = λ none. let never : ⊥ = cc in absurd never;
    }

pub returns-clause-request : goal.returns-clause-request
unfolding in_progress_of
returns-clause-request c = c.with_last.ensures.request (asked_of c.args.self)
