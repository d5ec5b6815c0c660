use Rattle.std.proofs.Common.{◌≡◌, ◌<◌, length, get_or, set, sym, ap, subst, ◌∙◌}
use Rattle.directory.specs.declared.order.By.TheVariants as by
use Rattle.directory.specs.Order.{IsOrder, AreKept}
use Rattle.directory.specs.Records.{Record, record_of}
use Rattle.directory.proofs.Kept.{IsDirectory-set}
use Rattle.directory.proofs.Named.{renewed}
use Rattle.directory.proofs.names.Names.change.Goals as goal

pub invariant_of-self : goal.invariant_of-self
invariant_of-self c =
    let records = c.self.inside.records in
    let place = c.args.place in
    let new = record_of c.args.entry in
    let within : place < length records = subst (λ rs. place < length rs) (sym c.self.view_is) c.requires.within in
    let named : (d : Record) → (get_or records place d).1.name ≡ new.1.name = λ d. subst (λ rs. (get_or rs place d).1.name ≡ new.1.name) (sym c.self.view_is) (c.requires.named d) in
    let is : c.set.new.self ≡ set records place new = c.in_ok-set.ensures.ok ∙ ap (λ rs. set rs place new) c.in_ok-records.ensures in
    subst (λ rs. AreKept rs c.in_ok-by_stamp.by_stamp c.self.inside.by_name) (sym is) (record {
      directory = IsDirectory-set records place new c.self.invariant.directory within named c.requires.fits;
      stamps = subst (IsOrder by.Stamp c.in_ok-by_stamp.by_stamp) is c.in_ok-by_stamp.ensures;
      names = renewed c.self.inside.by_name records place new c.self.invariant.names within named;
    })
