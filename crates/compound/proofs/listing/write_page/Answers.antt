use Rattle.std.proofs.Common.{All, subst, sym}
use Rattle.wire_attributes.specs.Listed.{EntryFits}
use Rattle.xdr.proofs.Writing.{wrote_on, wrote_exit}
use Rattle.compound.proofs.Pages.{entries_fit, links_map}
use Rattle.compound.proofs.listing.write_page.Goals as goal

pub write_chain-requires : goal.write_chain-requires
write_chain-requires c = subst (All EntryFits) (sym c.deref.ensures.value) (entries_fit c.args.page.now c.requires)

pub returns-in_err-write_chain : goal.returns-in_err-write_chain
returns-in_err-write_chain c =
    rw (links_map c.args.page.now.entries.items, ← c.deref.ensures.value)
    (wrote_on c.in_ok-write_u64.ensures.wrote (wrote_exit _ c.from_residual-in_err-write_chain.ensures.1 c.in_err-write_chain.ensures))

pub returns : goal.returns
returns c =
    rw (links_map c.args.page.now.entries.items, ← c.deref.ensures.value)
    (wrote_on c.in_ok-write_u64.ensures.wrote (wrote_on c.in_ok-write_chain.ensures c.write_bool.ensures.wrote))
