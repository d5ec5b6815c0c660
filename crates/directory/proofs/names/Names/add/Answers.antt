use Rattle.std.proofs.Common.{◌≡◌, ◌<◌, ◌≢◌, ◌++◌, ◌-◌, ◌∷◌, ◌∙◌, [], length, get_or, take, sym, ap, subst, arith}
use Rattle.directory.specs.declared.names.TheConstants.Names.{MAX_NAMES}
use Rattle.directory.specs.declared.order.By.TheVariants as by
use Rattle.directory.specs.Order.{IsOrder}
use Rattle.directory.specs.Records.{record_of, IsDirectory}
use Rattle.directory.proofs.Kept.{IsDirectory-push}
use Rattle.directory.proofs.Sorting.{before_last}
use Rattle.directory.proofs.names.Names.add.Goals as goal

pub with_last-requires-clause-order : goal.with_last-requires-clause-order
with_last-requires-clause-order c =
    let records = c.self.inside.records in
    let new = record_of c.args.entry in
    let is : c.push.new.self ≡ records ++ new ∷ [] = c.in_ok-push.ensures.ok ∙ ap (λ rs. rs ++ new ∷ []) c.in_ok-records.ensures in
    subst (λ rs. IsOrder by.Stamp c.self.inside.by_stamp (take (length rs - 1) rs)) (sym is)
    (subst (IsOrder by.Stamp c.self.inside.by_stamp) (sym (before_last records new)) c.self.invariant.stamps)

pub with_last-requires-2-clause-order : goal.with_last-requires-2-clause-order
with_last-requires-2-clause-order c =
    let records = c.self.inside.records in
    let new = record_of c.args.entry in
    let is : c.push.new.self ≡ records ++ new ∷ [] = c.in_ok-push.ensures.ok ∙ ap (λ rs. rs ++ new ∷ []) c.in_ok-records.ensures in
    subst (λ rs. IsOrder by.Name c.self.inside.by_name (take (length rs - 1) rs)) (sym is)
    (subst (IsOrder by.Name c.self.inside.by_name) (sym (before_last records new)) c.self.invariant.names)

pub invariant_of-self : goal.invariant_of-self
invariant_of-self c =
    let records = c.self.inside.records in
    let new = record_of c.args.entry in
    let is : c.push.new.self ≡ records ++ new ∷ [] = c.in_ok-push.ensures.ok ∙ ap (λ rs. rs ++ new ∷ []) c.in_ok-records.ensures in
    let room : length records < MAX_NAMES = omega (arith, ap length c.self.view_is, c.requires.room) in
    record {
      directory = subst IsDirectory (sym is) (IsDirectory-push records new c.self.invariant.directory room
          (λ i d within. subst (λ rs. (get_or rs i d).1.name ≢ new.1.name) (sym c.self.view_is) (c.requires.fresh i d (omega (arith, within, ap length c.self.view_is))))
          c.requires.fits);
      stamps = c.in_ok-by_stamp.ensures;
      names = c.in_ok-by_name.ensures;
    }
