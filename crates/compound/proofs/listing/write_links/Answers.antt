use Rattle.std.proofs.Common.{◌<◌, length, arith}
use Rattle.std.proofs.lemmas.List.{get_or_default}
use Rattle.xdr.proofs.Writing.{wrote_stop}
use Rattle.compound.specs.Pages.{link_of}
use Rattle.compound.proofs.listing.write_links.Goals as goal

pub returns-in_err-write_link : goal.returns-in_err-write_link
returns-in_err-write_link c =
    let entries = c.args.entries.now in
    let i = c.loop-entry.entry-index in
    let lt : i < length entries = omega arith in
    wrote_stop link_of entries i _ lt (get_or_default entries i _ _ lt) c.loop-entry.invariant c.from_residual.ensures.1 c.in_err-write_link.ensures
