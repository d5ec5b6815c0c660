use Rattle.std.proofs.Common.{◌<◌, ◌≤◌, ℕ, Ok, List, length, refl, subst, ap, ◌∙◌, arith}
use Rattle.std.proofs.lemmas.List.{take_all}
use Rattle.std.specs.List.{flat_map}
use Rattle.xdr.specs.Clauses.{Wrote}
use Rattle.xdr.proofs.Writing.{wrote_nothing, wrote_stop}
use Rattle.client.proofs.Operations.{text_of, each_text}
use Rattle.client.proofs.call.write_operations.Goals as goal

pub loop-operation-init : goal.loop-operation-init
loop-operation-init c = wrote_nothing _ _ _ refl refl

pub returns-in_err-write_argument : goal.returns-in_err-write_argument
returns-in_err-write_argument c =
    let list = c.args.operations.now in
    let i = c.loop-operation.operation-index in
    let lt : i < length list = omega arith in
    subst (λ (text : List ℕ). Wrote c.args.w.now c.write_argument.new.w c.from_residual.result text) (each_text list)
    (wrote_stop text_of list i c.operation-item.result lt c.operation-item.is c.loop-operation.invariant c.from_residual.ensures.1 c.in_err-write_argument.ensures.wrote)

pub returns : goal.returns
returns c =
    let list = c.args.operations.now in
    let i = c.loop-operation.operation-index in
    let done : length list ≤ i = omega arith in
    subst (λ (text : List ℕ). Wrote c.args.w.now c.loop-operation.w (Ok tt) text)
    (ap (flat_map text_of) (take_all i list done) ∙ each_text list)
    c.loop-operation.invariant
