use Rattle.std.specs.Rc.{rc_slice_items}
use Rattle.std.proofs.Common.{◌≡◌, ◌≤◌, take, length, sym, ap, ◌∙◌, arith}
use Rattle.directory.proofs.Sector.{chain, record_parts}
use Rattle.directory.proofs.sectors.put_record.Goals as goal

pub returns-clause-prefix : goal.returns-clause-prefix
returns-clause-prefix c =
    let name = c.as_slice.result.now in
    let entry = c.args.entry.now in
    let long : length name ≡ length (rc_slice_items entry.name) = ap length c.as_slice.ensures.value in
    let len : c.len-len.result ≡ length name = c.len-len.ensures ∙ sym long in
    let few : length name ≤ 255 = omega (arith, long, c.requires.few) in
    let zeros = rw len at c.put_zeros.ensures.prefix in
    chain c.args.sector.now c.put_u64.new.sector c.put_u64-2.new.sector c.put_bytes.new.sector c.put_bytes-2.new.sector c.put_zeros.new.sector _ _ _ name c.args.at few c.put_u64.ensures.prefix c.put_u64-2.ensures.prefix c.put_bytes.ensures.prefix c.put_bytes-2.ensures.prefix zeros
    ∙ record_parts (take c.args.at c.args.sector.now) entry.number entry.stamp c.len-len.result name (rc_slice_items entry.name) (len ∙ long) c.as_slice.ensures.value
