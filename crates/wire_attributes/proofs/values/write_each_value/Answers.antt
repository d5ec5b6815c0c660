use Rattle.std.proofs.Common.{◌<◌, length, arith}
use Rattle.xdr.proofs.Writing.{wrote_stop}
use Rattle.wire_attributes.specs.Views.{value_encoding}
use Rattle.wire_attributes.proofs.values.write_each_value.Goals as goal

pub returns-in_err-write : goal.returns-in_err-write
returns-in_err-write c =
    let list = c.args.values.now in
    let i = c.loop-value.value-index in
    let lt : i < length list = omega arith in
    wrote_stop value_encoding list i c.value-item.result lt c.value-item.is c.loop-value.invariant c.from_residual.ensures.1 c.in_err-write.ensures
