use Rattle.std.proofs.Common.{Ok, take}
use Rattle.xdr.specs.Clauses.{Wrote}
use Rattle.compound.specs.Pages.{links_of}
use Rattle.compound.proofs.listing.write_links.Given as goal

abbrev pub invariant-loop-entry : goal.invariant-loop-entry
invariant-loop-entry l = Wrote l.fn.w l.w (Ok tt) (links_of (take l.entry-index l.entries))
