use Rattle.std.proofs.Common.{◌<◌, length, sym, ap, subst, ◌∙◌}
use Rattle.directory.specs.Records.{without_place, IsDirectory}
use Rattle.directory.proofs.Kept.{IsDirectory-remove}
use Rattle.directory.proofs.names.Names.take.Goals as goal

pub invariant_of-self : goal.invariant_of-self
invariant_of-self c =
    let records = c.self.inside.records in
    let place = c.args.place in
    let within : place < length records = subst (λ rs. place < length rs) (sym c.self.view_is) c.requires in
    record {
      directory = subst IsDirectory (sym (c.in_ok-swap_remove.ensures.ok ∙ ap (λ rs. without_place rs place) c.in_ok-records.ensures))
          (IsDirectory-remove records place c.self.invariant.directory within);
      stamps = c.in_ok-by_stamp.ensures;
      names = c.in_ok-by_name.ensures;
    }
