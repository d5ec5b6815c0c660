use Rattle.std.proofs.Common.{◌≡◌}
use Rattle.model.specs.Wire.WireArguments.{encoded_argument}
use Rattle.wire.specs.ArgumentView.{argument_view}
use Rattle.wire.proofs.Writes.{writes}
use Rattle.wire_client.proofs.argument.write_numbered.Goals as goal

pub returns-in_err-write_u32 : goal.returns-in_err-write_u32
returns-in_err-write_u32 c =
    let same : (encoded_argument (argument_view c.args.call.now)).number ≡ c.number.result = cc in
    rw same (search writes)

pub returns : goal.returns
returns c =
    let same : (encoded_argument (argument_view c.args.call.now)).number ≡ c.number.result = cc in
    rw same (search writes)
