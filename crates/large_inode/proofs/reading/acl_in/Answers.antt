use Rattle.std.proofs.Common.{◌+◌, ◌*◌, refl}
use Rattle.sector.specs.Written.{AreRead-more, none_there}
use Rattle.model_tree.specs.declared.acl.Ace.{Ace}
use Rattle.model_tree.specs.declared.acl.AceKind.TheVariants.{Allow}
use Rattle.model_tree.specs.declared.acl.Who.TheVariants.{Owner}
use Rattle.inode.specs.Fields.{IsAce}
use Rattle.inode.specs.Encoding.{ace_bytes}
use Rattle.inode.proofs.EntryLemmas.{aces_wide, some_is}
use Rattle.large_inode.proofs.reading.acl_in.Goals as goal

some_ace : Ace
some_ace = record { kind = Allow; flags = record { 0 = 0 }; mask = record { 0 = 0 }; who = Owner }

pub returns-in_default-clause-err : goal.returns-in_default-clause-err
returns-in_default-clause-err c = λ is.
    none_there ace_bytes IsAce 16 aces_wide 128 c.args.count c.args.sector.now c.loop-i.acl c.loop-i.i c.loop-i.invariant some_ace (128 + 16 * c.loop-i.i) c.loop-i-test.true refl
    (λ other rest is' e. c.in_default.not-Some other (c.ace_at.ensures.only other rest is' e))

pub loop-i-preserved : goal.loop-i-preserved
loop-i-preserved c =
    rw c.in_ok-push.ensures.added
    (AreRead-more ace_bytes IsAce 16 aces_wide 128 c.args.count c.args.sector.now c.loop-i.acl c.loop-i.i c.loop-i.invariant c.in-Some.ace (128 + 16 * c.loop-i.i) c.in-Some.ensures.fits c.loop-i-test.true refl
    (λ other rest is e. some_is c.in-Some.ace other (c.in-Some.ensures.only other rest is e)))
