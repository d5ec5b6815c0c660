use Rattle.std.proofs.Common.{List, All, subst, sym}
use Rattle.std.proofs.lemmas.List.Elements.{All-push}
use Rattle.wire.specs.declared.argument.Argument.{Argument}
use Rattle.wire_client.specs.ArgumentFits.{ArgumentFits}
use Rattle.script.proofs.operation.arguments_of.Goals as goal

pub loop-operation-preserved : goal.loop-operation-preserved
loop-operation-preserved c =
    let P : List Argument → Type 0 = λ arguments. All ArgumentFits arguments in
    subst P (sym {A = List Argument} c.in_ok-push.ensures.items)
    (All-push ArgumentFits c.loop-operation.arguments.items c.in_ok-argument.field-0 c.loop-operation.invariant c.in_ok-argument.ensures)
