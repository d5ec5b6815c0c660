use Rattle.std.proofs.Common.{rules, ◌≡◌, ap, ◌∙◌, Some}
use Rattle.inode.proofs.EntryLemmas.{kind_there, who_there, flags_there, mask_there, id_there, same_ace, some_is}
use Rattle.large_inode.proofs.entries.ace_at.Goals as goal

pub returns-in_err-who-clause-only : goal.returns-in_err-who-clause-only
returns-in_err-who-clause-only c = λ ace rest fits e.
    let sector = c.args.sector.now in
    let some = c.in_err-who.ensures.only ace.who (who_there sector c.args.at ace rest e) (id_there sector c.args.at ace rest e c.u32_at.result fits c.u32_at.ensures.only) in
    absurd cc

pub returns-clause-only : goal.returns-clause-only
returns-clause-only c = λ ace rest fits e.
    let sector = c.args.sector.now in
    let at = c.args.at in
    let kind : c.in_ok-kind.kind ≡ ace.kind = some_is _ _ (c.in_ok-kind.ensures ace.kind (kind_there sector at ace rest e)) in
    let who : c.in_ok-who.who ≡ ace.who = some_is _ _ (c.in_ok-who.ensures.only ace.who (who_there sector at ace rest e) (id_there sector at ace rest e c.u32_at.result fits c.u32_at.ensures.only)) in
    let flags : c.from_bits_retain.result.0 ≡ ace.flags.0 = c.from_bits_retain.ensures (search rules) ∙ c.from.ensures ∙ flags_there sector at ace rest e in
    let mask : c.from_bits_retain-2.result.0 ≡ ace.mask.0 = c.from_bits_retain-2.ensures (search rules) ∙ mask_there sector at ace rest e c.u32_at-2.result fits c.u32_at-2.ensures.only in
    ap (λ x. Some x) (same_ace c.in_ok-kind.kind c.from_bits_retain.result.0 c.from_bits_retain-2.result.0 c.in_ok-who.who ace kind flags mask who)
